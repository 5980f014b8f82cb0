-- An accepted message, written again with its own rows: the rows make its pieces but those that were skipped.
--
--   kept_pieces, kept_slices, kept  what was not skipped; all, where nothing was
--   level_judged, follow_judged   the rows of an owner, of a chain, are judged right and give just what was kept
--   Again, again                  the rows of a whole message
--   message_again                 the message that they make, however long: the sliced encoding of the pieces
--   write_again, write_same       demand 2: that is written, and it is the same message where that is sliced
--   one_pieces, one_message       demand 2: members and bytes, type and format fix the message
use Rattle.std.specs.Prelude.{◌≡◌, Bool, eqb}
use Rattle.std.proofs.Math.Path.{refl, sym, ap₂, subst}
use Rattle.std.proofs.Common.{ap, ◌∙◌, subst₂, arith}
use Rattle.std.proofs.Math.Bool.{true, false}
use Rattle.std.proofs.Math.Option.{Option, some}
use mathlib.Core.List.{List, [], ◌∷◌, ◌++◌, map, append-nil}
use Prim.Native.Nat.{ℕ, suc, ◌+◌, ◌≤◌}
use Rattle.std.proofs.Math.ListN.{length}
use Rattle.std.proofs.Math.Dec.{leb}
use borrow.Author.Tests.{leb-true, leb-false}
use Rattle.encoding.specs.Result.{pick, ok, concat}
use Rattle.encoding.specs.Number.{Bytes}
use Rattle.encoding.specs.Types.{Form}
use Rattle.encoding.specs.Grammar.{IsValue, ListsRise}
use Rattle.encoding.specs.Table.{kind, fine, faults, chain, Member, lookup}
use Rattle.encoding.specs.Table
use Rattle.encoding.proofs.RuleLaws.{named_ok}
use Rattle.encoding.specs.Optional.{Piece, required, optional, skipped, piece_bytes, front_bytes, content_bytes, is_skipped}
use Rattle.encoding.specs.Slice.{Format, compact, sliced, Slice, known, passed, Stand, first, data_bytes, is_last}
use Rattle.encoding.specs.Old.{type_as, old_member, members_as}
use Rattle.encoding.proofs.OldLaws.{rises_as}
use Rattle.encoding.specs.Message.{Pieces, list, exception, class, Encoding, v10, v11, is_old, encoding_number, front_as, later_as, lead, encode, encapsulate, no_top, rules, Row, list_row, piece_member, piece_rows, slice_rows, or_zero, first_in, first_known, rows, row_bytes, skipped_pieces, skipped_in, passed_in, optionals_skipped, slices_skipped, slices_bytes}
use Rattle.encoding.proofs.MessageLaws.{length_rows}
use Rattle.encoding.specs.Write.{Slot, rising, slot, slots, plan_of, plan, out, Given, part_of, pieces_of, slices_of, encoding_of, gathered}
use Rattle.encoding.proofs.OptionalFormLaws.{is_form}
use Rattle.encoding.specs.Conform.{Level, Bare, OwnedAs, Follow, Slices, WithoutOptionals, Conform}
use Rattle.encoding.proofs.ListLaws.{found_rises, required_rise, optional_rise}
use Rattle.encoding.proofs.ExactLaws.{is_exact}
use Rattle.laws.specs.Demands.{read_as, Follows, All, more, SameMembers, same_member, UnderTop, Complete, Formed, in_slices, in_pairs, WriteAgain, WriteSame, OneMessage}
use Rattle.laws.proofs.OptionalNewer.{lookup_key}
use Rattle.laws.proofs.RowsExact.{Stands, stands_first, stands_next, stands_inside, stands_there, stands_encapsulated, content_stands, others_stand, data_stand, slices_stand, Found, required_found}
use Rattle.laws.proofs.TableExact.{sound}
use Rattle.laws.proofs.MessageExact.{exact_message}
use Rattle.laws.proofs.RowsBack.{rows_back, accepted_rows_small}
use Rattle.laws.proofs.PlanLaws.{Pairs, alone, before, Ordered, from, from_zero, optional_spot, given_of, Judged, over, taken, missed, SlotsDiffer, find_judged, judged_chosen, first_among, judged_step}
use Rattle.laws.proofs.PlanRules.{Owner, owner_ordered, slots_owner, Falls, plan_owner, chain_falls, chain_owners, chain_top, plan_differ, list_chain, record_there, top_owner, judging, judging_slots}
use Rattle.laws.proofs.GatherLaws.{pieces_in, judged_append, judged_owner, slices_own, owns_all}
use Rattle.laws.proofs.MessageWritten.{is_formed, is_bare, Composed, writing_step}
use Rattle.laws.proofs.OldLine.{old_below}

-- ---- what was not skipped

unfoldable pub kept_pieces : List Piece → List Piece
kept_pieces [] = []
kept_pieces (required i b ∷ ps) = required i b ∷ kept_pieces ps
kept_pieces (optional k f b ∷ ps) = optional k f b ∷ kept_pieces ps
kept_pieces (skipped k f b ∷ ps) = kept_pieces ps

unfoldable pub kept_slices : List Slice → List Slice
kept_slices [] = []
kept_slices (known o ps ∷ ss) = known o (kept_pieces ps) ∷ kept_slices ss
kept_slices (passed b nm d ∷ ss) = kept_slices ss

unfoldable pub kept : Pieces → Pieces
kept (list ps) = list (kept_pieces ps)
kept (exception ss) = exception (kept_slices ss)
kept (class ss) = class (kept_slices ss)

pieces_kept : (ps : List Piece) → skipped_pieces ps ≡ 0 → kept_pieces ps ≡ ps
unfolding kept_pieces skipped_pieces is_skipped
pieces_kept [] z = refl
pieces_kept (required i b ∷ ps) z = ap (λ (l : List Piece). required i b ∷ l) (pieces_kept ps (omega arith))
pieces_kept (optional k f b ∷ ps) z = ap (λ (l : List Piece). optional k f b ∷ l) (pieces_kept ps (omega arith))
pieces_kept (skipped k f b ∷ ps) z = absurd (omega arith)

slices_kept : (ss : List Slice) → skipped_in ss ≡ 0 → passed_in ss ≡ 0 → kept_slices ss ≡ ss
unfolding kept_slices skipped_in passed_in
slices_kept [] z y = refl
slices_kept (known o ps ∷ ss) z y = ap₂ (λ (l : List Piece) (k : List Slice). known o l ∷ k) (pieces_kept ps (omega arith)) (slices_kept ss (omega arith) y)
slices_kept (passed b nm d ∷ ss) z y = absurd (omega arith)

complete_kept : (p : Pieces) → Complete p → kept p ≡ p
unfolding kept optionals_skipped slices_skipped
complete_kept (list ps) Z = ap list (pieces_kept ps Z.optionals)
complete_kept (exception ss) Z = ap exception (slices_kept ss Z.optionals Z.slices)
complete_kept (class ss) Z = ap class (slices_kept ss Z.optionals Z.slices)

-- ---- the rows of one owner

-- what a piece of owner t gives
abbrev given_to : ℕ → Piece → Given
given_to t p = record { owner = t; piece = p }

pieces_given : (t : ℕ) (ps : List Piece) → pieces_in (map (given_to t) ps) ≡ ps
pieces_given t [] = refl
pieces_given t (p ∷ ps) = ap (λ (l : List Piece). p ∷ l) (pieces_given t ps)

module _ (T m : List ℕ) (t : ℕ) where
  -- a row of content that is in the message chooses its slot
  row_taken : (old : Bool) (s : Slot) (g : Given) (at : ℕ) (b : List ℕ) {ss : List Slot} {rs : List Row} {gs : List Given} → given_of s b ≡ g → ListsRise s.member.ty → IsValue (type_as old s.member.ty) b → Stands m at b
      → Judged old m ss rs gs → Judged old m (s ∷ ss) (record { member = s.member.row; place = at; len = length b } ∷ rs) (g ∷ gs)
  unfolding part_of
  row_taken old s g at b {ss} {rs} {gs} e R w S K =
      let r : Row = record { member = s.member.row; place = at; len = length b } in
      let p : part_of m r ≡ b = stands_there b S in
      subst (λ (h : Given). Judged old m (s ∷ ss) (r ∷ rs) (h ∷ gs)) (ap (given_of s) p ∙ e)
      (taken {r = r} refl (stands_inside b S) (is_exact (type_as old s.member.ty) (rises_as old s.member.ty R) (part_of m r) (subst (IsValue (type_as old s.member.ty)) (sym p) w)) K)

  missed_optionals : {old : Bool} (os : List Member) → Judged old m (map (slot t false) os) [] []
  unfolding slot
  missed_optionals [] = over
  missed_optionals (o ∷ os) = missed refl (missed_optionals os)

  -- optionals of small tags may be missed
  judged_from : (n : ℕ) (ds : List Member) {rs : List Row} {gs : List Given} → Judged false m (map (slot t false) (from n ds)) rs gs → Judged false m (map (slot t false) ds) rs gs
  unfolding from slot
  judged_from n [] K = K
  judged_from n (d ∷ ds) {rs} {gs} K = go (leb n d.key) K (λ K. judged_from n ds K)
    where
      go : (q : Bool) → Judged false m (map (slot t false) (pick q (d ∷ ds) (from n ds))) rs gs → (Judged false m (map (slot t false) (from n ds)) rs gs → Judged false m (map (slot t false) ds) rs gs)
          → Judged false m (map (slot t false) (d ∷ ds)) rs gs
      go true K ih = K
      go false K ih = missed refl (ih K)

  judged_earlier : (least n : ℕ) → least ≤ n → (ds : List Member) {rs : List Row} {gs : List Given} → Judged false m (map (slot t false) (from n ds)) rs gs → Judged false m (map (slot t false) (from least ds)) rs gs
  unfolding from slot
  judged_earlier least n l [] K = K
  judged_earlier least n l (d ∷ ds) {rs} {gs} K = go (leb least d.key) refl (leb n d.key) refl K (λ K. judged_earlier least n l ds K)
    where
      go : (p : Bool) → leb least d.key ≡ p → (q : Bool) → leb n d.key ≡ q → Judged false m (map (slot t false) (pick q (d ∷ ds) (from n ds))) rs gs
          → (Judged false m (map (slot t false) (from n ds)) rs gs → Judged false m (map (slot t false) (from least ds)) rs gs) → Judged false m (map (slot t false) (pick p (d ∷ ds) (from least ds))) rs gs
      go true e true f K ih = K
      go true e false f K ih = missed refl (judged_from n ds K)
      go false e true f K ih = absurd (omega (arith, leb-false least d.key e, leb-true n d.key f))
      go false e false f K ih = ih K

  level_judged : faults T ≡ fine → Ordered T t → (ms : List Member) → All (Found (Table.required_members T t)) ms → (least : ℕ) (ps : List Piece) → Level ms (Table.optional_members T t) least ps
      → (at : ℕ) → Stands m at (concat piece_bytes ps)
      → Judged false m (map (slot t true) ms ++ map (slot t false) (from least (rising (Table.optional_members T t)))) (piece_rows T t at ps) (map (given_to t) (kept_pieces ps))
  unfolding piece_rows piece_member list_row content_bytes kept_pieces given_of slot
  level_judged right O [] F least [] L at S = missed_optionals (from least (rising (Table.optional_members T t)))
  level_judged right O [] F least (required i b ∷ ps) L at S = absurd L
  level_judged right O [] F least (optional k f b ∷ ps) (K, L) at S =
      let d : Member = K.member in
      let key : k ≡ d.key = lookup_key k (Table.optional_members T t) d K.found in
      let p : Piece = optional k f b in
      let ih = level_judged right O [] F (suc k) ps L (at + length (piece_bytes p)) (others_stand T m p ps at S) in
      subst (λ (o : Option Member). Judged false m (map (slot t false) (from least (rising (Table.optional_members T t)))) (list_row o (at + length (front_bytes p)) b (piece_rows T t (at + length (piece_bytes p)) ps)) (map (given_to t) (p ∷ kept_pieces ps)))
      (sym K.found)
      (find_judged (map (slot t false) (from least (rising (Table.optional_members T t)))) _ (optional_spot t k least O.rows O.keys K.found K.rises)
      (row_taken false (slot t false d) (given_to t p) (at + length (front_bytes p)) b (ap₂ (λ (n : ℕ) (x : Form). given_to t (optional n x b)) (sym key) (is_form K.form)) (found_rises k (Table.optional_members T t) d (optional_rise T right t) K.found) K.one (content_stands T m p ps at S)
      (subst (λ (n : ℕ). Judged false m (map (slot t false) (from (suc n) (rising (Table.optional_members T t)))) (piece_rows T t (at + length (piece_bytes p)) ps) (map (given_to t) (kept_pieces ps))) key ih)))
  level_judged right O [] F least (skipped k f b ∷ ps) (U, L) at S =
      judged_earlier least (suc k) (omega (arith, U.rises)) (rising (Table.optional_members T t))
      (level_judged right O [] F (suc k) ps L (at + length (piece_bytes (skipped k f b))) (others_stand T m (skipped k f b) ps at S))
  level_judged right O (d ∷ ds) F least [] L at S = absurd L
  level_judged right O (d ∷ ds) (more q F) least (required i b ∷ ps) (e, x, L) at S =
      let p : Piece = required i b in
      let found : lookup i (Table.required_members T t) ≡ some d = rw e q in
      subst (λ (o : Option Member). Judged false m (map (slot t true) (d ∷ ds) ++ map (slot t false) (from least (rising (Table.optional_members T t)))) (list_row o (at + length (front_bytes p)) b (piece_rows T t (at + length (piece_bytes p)) ps)) (map (given_to t) (p ∷ kept_pieces ps)))
      (sym found)
      (row_taken false (slot t true d) (given_to t p) (at + length (front_bytes p)) b (ap (λ (n : ℕ). given_to t (required n b)) (sym e)) (found_rises i (Table.required_members T t) d (required_rise T right t) found) x (content_stands T m p ps at S)
      (level_judged right O ds F least ps L (at + length (piece_bytes p)) (others_stand T m p ps at S)))
  level_judged right O (d ∷ ds) F least (optional k f b ∷ ps) L at S = absurd L
  level_judged right O (d ∷ ds) F least (skipped k f b ∷ ps) L at S = absurd L

  -- in 1.0 there are required members alone
  bare_judged : faults T ≡ fine → (ms : List Member) → All (Found (Table.required_members T t)) ms → (os : List Member) (ps : List Piece) → Bare (members_as true ms) ps → (at : ℕ) → Stands m at (concat piece_bytes ps)
      → Judged true m (map (slot t true) ms ++ map (slot t false) os) (piece_rows T t at ps) (map (given_to t) (kept_pieces ps))
  unfolding piece_rows piece_member list_row content_bytes kept_pieces given_of slot old_member
  bare_judged right [] F os [] B at S = missed_optionals os
  bare_judged right [] F os (p ∷ ps) B at S = absurd B
  bare_judged right (d ∷ ds) F os [] B at S = absurd B
  bare_judged right (d ∷ ds) (more q F) os (required i b ∷ ps) (e, x, B) at S =
      let p : Piece = required i b in
      let found : lookup i (Table.required_members T t) ≡ some d = rw e q in
      subst (λ (o : Option Member). Judged true m (map (slot t true) (d ∷ ds) ++ map (slot t false) os) (list_row o (at + length (front_bytes p)) b (piece_rows T t (at + length (piece_bytes p)) ps)) (map (given_to t) (p ∷ kept_pieces ps)))
      (sym found)
      (row_taken true (slot t true d) (given_to t p) (at + length (front_bytes p)) b (ap (λ (n : ℕ). given_to t (required n b)) (sym e)) (found_rises i (Table.required_members T t) d (required_rise T right t) found) x (content_stands T m p ps at S)
      (bare_judged right ds F os ps B (at + length (piece_bytes p)) (others_stand T m p ps at S)))
  bare_judged right (d ∷ ds) F os (optional k f b ∷ ps) B at S = absurd B
  bare_judged right (d ∷ ds) F os (skipped k f b ∷ ps) B at S = absurd B

  owned_judged : faults T ≡ fine → Ordered T t → (f : Encoding) (ps : List Piece) → OwnedAs f T t ps → (at : ℕ) → Stands m at (concat piece_bytes ps)
      → Judged (is_old f) m (slots T t) (piece_rows T t at ps) (map (given_to t) (kept_pieces ps))
  unfolding slots
  owned_judged right O v10 ps L at S = bare_judged right (Table.required_members T t) (required_found T t) (rising (Table.optional_members T t)) ps L at S
  owned_judged right O (v11 g) ps L at S =
      subst (λ (l : List Member). Judged false m (map (slot t true) (Table.required_members T t) ++ map (slot t false) l) (piece_rows T t at ps) (map (given_to t) (kept_pieces ps))) (from_zero (rising (Table.optional_members T t)))
      (level_judged right O (Table.required_members T t) (required_found T t) 0 ps L at S)

-- ---- the rows of a chain

-- rows that are judged right for the rows of a chain and make just what was kept of slices
record Regains (T : List ℕ) (old : Bool) (m ts : List ℕ) (rs : List Row) (ss : List Slice) : Type 0 where
  gives : List Given
  judged : Judged old m (plan_of T ts) rs gives
  same : slices_of T gives ts ≡ kept_slices ss

module _ (T m : List ℕ) (right : faults T ≡ fine) where
  follow_judged : (f : Encoding) (ts : List ℕ) (ss : List Slice) → All (Owner T) ts → Pairs Falls ts → Follow T f ts ss
      → (s : Stand) (at : ℕ) → Stands m at (slices_bytes f s ss) → Regains T (is_old f) m ts (slice_rows T f s at ts ss) ss
  unfolding slice_rows plan_of slices_of kept_slices data_bytes
  follow_judged f [] [] O P F s at S = record { gives = []; judged = over; same = refl }
  follow_judged f [] (sl ∷ ss) O P F s at S = absurd F
  follow_judged f (t ∷ ts) [] O P F s at S = absurd F
  follow_judged f (t ∷ ts) (known o ps ∷ ss) (more x O) (before p P) (e, L, F) s at S =
      let d : ℕ = at + length (front_as f s (is_last ss) (known o ps)) in
      let K : Judged (is_old f) m (slots T t) (piece_rows T t d ps) (map (given_to t) (kept_pieces ps)) =
      owned_judged T m t right (owner_ordered T t right x) f ps L d (stands_first (concat piece_bytes ps) _ (data_stand T m f s (known o ps) ss at S)) in
      let R = follow_judged f ts ss O P F (later_as f) _ (slices_stand T m f s (known o ps) ss at S) in
      record {
        gives = map (given_to t) (kept_pieces ps) ++ R.gives;
        judged = judged_append K R.judged;
        same = slices_own T p (judged_owner (λ (o : ℕ). o ≡ t) (slots_owner T t) K) (judged_owner (Falls t) (plan_owner T (Falls t) ts p) R.judged)
            ∙ ap₂ (λ (sl : Slice) (l : List Slice). sl ∷ l) (ap₂ known (sym e) (pieces_given t (kept_pieces ps))) R.same;
      }
  follow_judged f (t ∷ ts) (passed b nm d ∷ ss) O P F s at S = absurd F

-- ---- the rows of a message

-- rows that are judged right for a type and make just what was kept of the pieces
pub record Again (T : List ℕ) (old : Bool) (m : List ℕ) (p : Pieces) (rs : List Row) (type : ℕ) : Type 0 where
  pub there : no_top T type ≡ false
  pub gives : List Given
  pub judged : Judged old m (plan T type) rs gives
  pub same : gathered T type gives ≡ kept p

-- the rows of slices, of the first known type
record AgainIn (T : List ℕ) (old : Bool) (m : List ℕ) (top : ℕ) (rs : List Row) (ss : List Slice) (type : ℕ) : Type 0 where
  there : no_top T type ≡ false
  alike : kind T type ≡ kind T top
  regains : Regains T old m (chain T type) rs ss

module _ (T : List ℕ) (right : faults T ≡ fine) (top : ℕ) where
  slices_again : (m : List ℕ) (f : Encoding) (ss : List Slice) → Slices T top f ss → (s : Stand) (at : ℕ) → Stands m at (slices_bytes f s ss)
      → AgainIn T (is_old f) m top (slice_rows T f s at (chain T (first_in T ss)) ss) ss (first_in T ss)
  unfolding first_in or_zero slice_rows kept_slices data_bytes
  slices_again m f [] C s at S = absurd C
  slices_again m f (known o ps ∷ ss) C s at S =
      let t : ℕ = C.row in
      let N = named_ok T o t C.known in
      let there : no_top T t ≡ false = record_there T t N.0 N.1 in
      subst (λ (u : ℕ). AgainIn T (is_old f) m top (slice_rows T f s at (chain T u) (known o ps ∷ ss)) (known o ps ∷ ss) u) (sym (ap or_zero C.known)) (record {
        there = there;
        alike = sym (chain_top T right t there top C.descends).alike;
        regains = follow_judged T m right f (chain T t) (known o ps ∷ ss) (chain_owners T right t there) (chain_falls T right t there) C.follow s at S;
      })
  slices_again m f (passed b nm d ∷ ss) (P, C) s at S =
      let A = slices_again m f ss C (later_as f) _ (slices_stand T m f s (passed b nm d) ss at S) in
      record { there = A.there; alike = A.alike; regains = record { gives = A.regains.gives; judged = A.regains.judged; same = A.regains.same } }

  record_again : (old : Bool) (m : List ℕ) (ss : List Slice) (rs : List Row) (type : ℕ) → AgainIn T old m top rs ss type
      → (p : Pieces) → ((gs : List Given) → kind T type ≡ kind T top → slices_of T gs (chain T type) ≡ kept_slices ss → gathered T type gs ≡ kept p) → Again T old m p rs type
  unfolding plan
  record_again old m ss rs type A p makes = record {
    there = A.there;
    gives = A.regains.gives;
    judged = A.regains.judged;
    same = makes A.regains.gives A.alike A.regains.same;
  }

  module _ (there : no_top T top ≡ false) where
    list_again : (f : Encoding) (ps : List Piece) → kind T top ≡ 15 → OwnedAs f T top ps → Again T (is_old f) (encapsulate f (encode f (list ps))) (list ps) (rows T top f (list ps)) top
    unfolding rows encode plan plan_of gathered kept
    list_again f ps k L =
        let m : List ℕ = encapsulate f (concat piece_bytes ps) in
        let K : Judged (is_old f) m (slots T top) (piece_rows T top 6 ps) (map (given_to top) (kept_pieces ps)) =
        owned_judged T m top right (owner_ordered T top right (top_owner T right top there)) f ps L 6 (stands_encapsulated f (concat piece_bytes ps)) in
        let own : pieces_of top (map (given_to top) (kept_pieces ps)) ≡ kept_pieces ps = owns_all (judged_owner (λ (o : ℕ). o ≡ top) (slots_owner T top) K) ∙ pieces_given top (kept_pieces ps) in
        record {
          there = there;
          gives = map (given_to top) (kept_pieces ps);
          judged = subst (λ (ss : List Slot). Judged (is_old f) m ss (piece_rows T top 6 ps) (map (given_to top) (kept_pieces ps))) (sym (ap (plan_of T) (list_chain T top k) ∙ append-nil (slots T top))) K;
          same = rw k (ap list own);
        }

    exception_again : (f : Encoding) (ss : List Slice) → kind T top ≡ 13 → Slices T top f ss
        → Again T (is_old f) (encapsulate f (encode f (exception ss))) (exception ss) (rows T top f (exception ss)) (first_known T top (exception ss))
    unfolding rows encode first_known gathered kept
    exception_again f ss k C =
        record_again (is_old f) _ ss _ _ (slices_again _ f ss C first (6 + length (lead f)) (stands_next (lead f) _ (stands_encapsulated f _) (6 + length (lead f)) refl)) (exception ss) (λ gs e s. rw (e, k) (ap exception s))

    pub again : (f : Encoding) (p : Pieces) → Conform T top f p → Again T (is_old f) (encapsulate f (encode f p)) p (rows T top f p) (first_known T top p)
    unfolding rows encode first_known gathered kept
    again v10 (list ps) (k, W, L) = list_again v10 ps k L
    again v10 (exception ss) (k, W, C) = exception_again v10 ss k C
    again v10 (class ss) C = absurd C
    again (v11 g) (list ps) (k, i, L) = list_again (v11 g) ps k L
    again (v11 g) (exception ss) (k, C) = exception_again (v11 g) ss k C
    again (v11 g) (class ss) (k, C) =
        record_again false _ ss _ _ (slices_again _ (v11 g) ss C first 7 (stands_next (1 ∷ []) _ (stands_encapsulated (v11 g) _) 7 refl)) (class ss) (λ gs e s. rw (e, k) (ap class s))

-- the first known type is the top or below it, and it may be a top
first_under : (T : List ℕ) (top : ℕ) (f : Encoding) (ss : List Slice) → Slices T top f ss → UnderTop T top (first_in T ss) × (no_top T (first_in T ss) ≡ false)
unfolding first_in or_zero
first_under T top f [] C = absurd C
first_under T top f (known o ps ∷ ss) C =
    let N = named_ok T o C.row C.known in
    rw C.known (C.descends, record_there T C.row N.0 N.1)
first_under T top f (passed b nm d ∷ ss) (P, C) = first_under T top f ss C

-- ---- written again

-- the rows of a message that follows the rules
pub follows_again : (T : List ℕ) (top : ℕ) (m : List ℕ) (f : Encoding) (p : Pieces) → Follows T top m f p → Again T (is_old f) m p (rows T top f p) (first_known T top p)
follows_again T top m f p F =
    subst (λ (z : List ℕ). Again T (is_old f) z p (rows T top f p) (first_known T top p)) (sym F.encoded) (again T (sound T F.table) top F.top_there f p F.conforms)

-- what its rows make in a format of its encoding, however long
composed_again : (T : List ℕ) (top : ℕ) (m : List ℕ) (f : Encoding) (p : Pieces) (n format : ℕ) → Bytes m → rules T top m ≡ ok (read_as f p) n → Complete p
    → is_old f ≡ eqb format 2 → Formed T (first_known T top p) format → (format ≡ 2 → WithoutOptionals T (first_known T top p))
    → Composed T (first_known T top p) format (length (rows T top f p)) (concat row_bytes (rows T top f p)) m (encapsulate (encoding_of format) (encode (encoding_of format) p))
composed_again T top m f p n format yM h Z old formed bare =
    let F = ((exact_message T top m f p n yM).0 h).0 in
    let A = follows_again T top m f p F in
    let type : ℕ = first_known T top p in
    let rs : List Row = rows T top f p in
    let S = accepted_rows_small T top m f p n yM h in
    let K : Judged (eqb format 2) m (plan T type) rs A.gives = subst (λ (q : Bool). Judged q m (plan T type) rs A.gives) old A.judged in
    let right : judging T type (eqb format 2) m rs ≡ out A.gives = judging_slots T (sound T F.table) type A.there (eqb format 2) m rs ∙ judged_step 0 (plan_differ T (sound T F.table) type A.there) K in
    record {
      table = sound T F.table;
      there = A.there;
      formed = is_formed T type format formed;
      bare = is_bare T type format bare;
      short = F.short;
      enough = omega (arith, length_rows rs);
      given = A.gives;
      judged = ap (judging T type (eqb format 2) m) (rows_back S (concat row_bytes rs) [] (sym (append-nil (concat row_bytes rs)))) ∙ right;
      made = ap (λ (q : Pieces). encapsulate (encoding_of format) (encode (encoding_of format) q)) (sym (A.same ∙ complete_kept p Z));
    }

-- of 1.1 the sliced encoding
pub message_again : (T : List ℕ) (top : ℕ) (m : List ℕ) (g : Format) (p : Pieces) (n : ℕ) → Bytes m → rules T top m ≡ ok (read_as (v11 g) p) n → Complete p
    → Composed T (first_known T top p) 1 (length (rows T top (v11 g) p)) (concat row_bytes (rows T top (v11 g) p)) m (encapsulate (v11 sliced) (encode (v11 sliced) p))
unfolding encoding_of
message_again T top m g p n yM h Z = composed_again T top m (v11 g) p n 1 yM h Z refl (in_slices refl) (λ e. absurd (omega arith))

pub write_again : WriteAgain
write_again T top m g p n room yM h Z short fits =
    writing_step T (first_known T top p) 1 (length (rows T top (v11 g) p)) (concat row_bytes (rows T top (v11 g) p)) m room
    (record { composed = message_again T top m g p n yM h Z; short = short; fits = fits })

-- of 1.0 the encoding in pairs: the first known type is no class, and its line has no optionals, since that of the top has none
old_again : (T : List ℕ) (top : ℕ) (m : List ℕ) (p : Pieces) (n : ℕ) → Bytes m → rules T top m ≡ ok (read_as v10 p) n → Complete p
    → Composed T (first_known T top p) 2 (length (rows T top v10 p)) (concat row_bytes (rows T top v10 p)) m (encapsulate v10 (encode v10 p))
unfolding encoding_of first_known
old_again T top m p n yM h Z =
    let F = ((exact_message T top m v10 p n yM).0 h).0 in
    let O = old_line (sound T F.table) p F.conforms in
    composed_again T top m v10 p n 2 yM h Z refl (in_pairs refl O.0) (λ e. O.1)
  where
    record_line : (ss : List Slice) → faults T ≡ fine → kind T top ≡ 13 → WithoutOptionals T top → Slices T top v10 ss → (kind T (first_in T ss) ≡ 14 → ⊥) × WithoutOptionals T (first_in T ss)
    record_line ss right k W C =
        let U = first_under T top v10 ss C in
        let R = chain_top T right (first_in T ss) U.1 top U.0 in
        ((λ e. omega (arith, R.alike, k, e)), old_below T top (first_in T ss) U.0 W)

    old_line : faults T ≡ fine → (p : Pieces) → Conform T top v10 p → (kind T (first_known T top p) ≡ 14 → ⊥) × WithoutOptionals T (first_known T top p)
    old_line right (list ps) (k, W, L) = ((λ e. omega arith), W)
    old_line right (exception ss) (k, W, C) = record_line ss right k W C
    old_line right (class ss) C = absurd C

pub write_same : WriteSame
write_same T top m f p n room yM h Z other fits =
    let F = ((exact_message T top m f p n yM).0 h).0 in
    writing_step T (first_known T top p) (encoding_number f) (length (rows T top f p)) (concat row_bytes (rows T top f p)) m room
    (record { composed = subst (Composed T (first_known T top p) (encoding_number f) (length (rows T top f p)) (concat row_bytes (rows T top f p)) m) (sym F.encoded) (own f h other); short = F.short; fits = fits })
  where
    own : (f : Encoding) → rules T top m ≡ ok (read_as f p) n → (f ≡ v11 compact → ⊥)
        → Composed T (first_known T top p) (encoding_number f) (length (rows T top f p)) (concat row_bytes (rows T top f p)) m (encapsulate f (encode f p))
    own v10 h other = old_again T top m p n yM h Z
    own (v11 compact) h other = absurd (other refl)
    own (v11 sliced) h other = message_again T top m sliced p n yM h Z

-- ---- one message

-- rows of the same members with the same bytes give the same
given_same : {old : Bool} {m m' : List ℕ} {ss : List Slot} {rs rs' : List Row} {gs gs' : List Given} → Pairs SlotsDiffer ss → Judged old m ss rs gs → Judged old m' ss rs' gs' → SameMembers m m' rs rs' → gs ≡ gs'
given_same alone over over M = refl
given_same (before D P) (taken {s = s} e i x K) (taken e' i' x' K') (same_member q b l M) =
    ap₂ (λ (g : Given) (gs : List Given). g ∷ gs) (ap (given_of s) b) (given_same P K K' M)
given_same (before D P) (taken e i x K) (missed d K') (same_member q b l M) = let F = first_among D (judged_chosen K') in absurd (F.1 (sym e ∙ q ∙ F.2))
given_same (before D P) (missed d K) (taken e i x K') (same_member q b l M) = let F = first_among D (judged_chosen K) in absurd (F.1 (sym e ∙ sym q ∙ F.2))
given_same (before D P) (missed d K) (missed d' K') M = given_same P K K' M

-- pieces of one type and format that conform, nothing skipped, with the same members and the same bytes, are the same
pub one_pieces : (T : List ℕ) (top top' : ℕ) (f : Encoding) (p p' : Pieces) → faults T ≡ fine → no_top T top ≡ false → no_top T top' ≡ false
    → Conform T top f p → Conform T top' f p' → first_known T top p ≡ first_known T top' p' → Complete p → Complete p'
    → SameMembers (encapsulate f (encode f p)) (encapsulate f (encode f p')) (rows T top f p) (rows T top' f p') → p ≡ p'
one_pieces T top top' f p p' right there there' C C' t Z Z' M =
    let A = again T right top there f p C in
    let A' = again T right top' there' f p' C' in
    let K' : Judged (is_old f) (encapsulate f (encode f p')) (plan T (first_known T top p)) (rows T top' f p') A'.gives =
    subst (λ (t : ℕ). Judged (is_old f) (encapsulate f (encode f p')) (plan T t) (rows T top' f p') A'.gives) (sym t) A'.judged in
    let g : A.gives ≡ A'.gives = given_same (plan_differ T right (first_known T top p) A.there) A.judged K' M in
    sym (A.same ∙ complete_kept p Z) ∙ ap₂ (gathered T) t g ∙ A'.same ∙ complete_kept p' Z'

pub one_message : OneMessage
one_message T top top' m m' f p p' n n' yM yM' h h' t Z Z' M =
    let F = ((exact_message T top m f p n yM).0 h).0 in
    let F' = ((exact_message T top' m' f p' n' yM').0 h').0 in
    let N = subst₂ (λ (a b : List ℕ). SameMembers a b (rows T top f p) (rows T top' f p')) F.encoded F'.encoded M in
    let q = one_pieces T top top' f p p' (sound T F.table) F.top_there F'.top_there F.conforms F'.conforms t Z Z' N in
    F.encoded ∙ ap (λ (x : Pieces). encapsulate f (encode f x)) q ∙ sym F'.encoded
