-- What the writer makes is read as the members given: the pieces that the rows make conform, and their rows are the rows given.
--
--   judged_level, judged_rows    the pieces of one owner conform, and their rows are the rows given; judged_bare: in 1.0
--   Carries, judged_slices       the slices of a chain
--   Encodable, Gathers, gathers  the pieces of a whole message, in an encoding that its type may have
--   old_format .. slots_judged   the encoding of a writer's format
--   read-back                    demand 2: what is written is read back
use Rattle.std.specs.Prelude.{◌≡◌, Bool, ◌||◌}
use Rattle.std.proofs.Math.Path.{refl, sym, ap, subst}
use Rattle.std.proofs.Common.{◌∙◌, true≢false, arith}
use Rattle.std.proofs.Math.Bool.{true, false}
use Rattle.std.proofs.Math.Option.{Option, some}
use mathlib.Core.List.{List, [], ◌∷◌, ◌++◌, map, append-nil}
use Prim.Native.Nat.{ℕ, suc, ◌+◌, ◌≤◌}
use Rattle.std.proofs.Math.ListN.{length}
use Rattle.std.proofs.Math.Dec.{eqb}
use borrow.Author.Tests.{eqb-true, eqb-false, eq-eqb}
use Rattle.encoding.specs.Result.{pick, concat}
use Rattle.encoding.specs.Table.{kind, is_record, fine, faults, name_of, named, chain, any, Member}
use Rattle.encoding.proofs.RuleLaws.{kind_known, named_at}
use Rattle.encoding.proofs.MessageLaws.{top_there}
use Rattle.encoding.specs.Table
use Rattle.encoding.specs.Optional.{Piece, piece_bytes, front_bytes, content_bytes}
use Rattle.encoding.specs.Slice.{sliced, Slice, known, Stand, first, data_bytes, is_last}
use Rattle.encoding.specs.Old.{type_as, old_member, members_as}
use Rattle.encoding.proofs.OldLaws.{rises_as}
use Rattle.encoding.specs.Message.{Pieces, list, exception, class, Encoding, v10, v11, is_old, encoding_number, front_as, later_as, lead, encode, encapsulate, no_top, limit, Row, list_row, piece_rows, slice_rows, or_zero, first_in, first_known, rows, skipped_pieces, skipped_in, passed_in, optionals_skipped, slices_skipped, slices_bytes}
use Rattle.encoding.specs.Write
use Rattle.encoding.specs.Write.{Slot, rising, slot, slots, plan_of, plan, out, Given, part_of, pieces_of, slices_of, encoding_of, gathered}
use Rattle.encoding.proofs.OptionalFormLaws.{form_has}
use Rattle.encoding.specs.Conform.{Level, Bare, OwnedAs, Follow, Slices, a_base, WithoutOptionals, Conform}
use Rattle.encoding.proofs.ListLaws.{MembersRise, required_rise}
use Rattle.encoding.proofs.ExactLaws.{exact_is}
use Rattle.laws.specs.Demands.{read_as, All, end, more, SameMembers, no_members, same_member, UnderTop, row_list, Complete, Formed, in_slices, in_pairs, ReadUnder, as_named, from_above, ReadBack}
use Rattle.laws.proofs.OldLine.{old_below}
use Rattle.laws.proofs.RowsExact.{all_map, Stands, stands_first, stands_next, stands_there, stands_encapsulated, content_stands, others_stand, data_stand, slices_stand}
use Rattle.laws.proofs.RecordNewer.{Line, here, above, descends_ok}
use Rattle.laws.proofs.TableExact.{valid}
use Rattle.laws.proofs.MessageExact.{rules_written}
use Rattle.laws.proofs.PlanLaws.{Pairs, before, KeysRise, all_rising, given_of, Judged, over, taken, missed, judged_ok}
use Rattle.laws.proofs.PlanRules.{all_any, all_with, Owner, Fit, slots_owner, owner_ordered, optional_fit, slots_fit, fit_rises, Falls, plan_owner, chain_falls, chain_owners, chain_above, chain_top, list_chain, top_step, top_owner, base_record, chain_rungs, judging, judging_slots}
use Rattle.laws.proofs.GatherLaws.{pieces_in, judged_split, judged_owner, slices_own, owns_all, part_length, piece_content, piece_given, piece_member_lem}
use Rattle.laws.proofs.MessageWritten.{formed_is, bare_is, writing_ok}

-- ---- the pieces of one owner

module _ (T : List ℕ) (t : ℕ) (buffer : List ℕ) where
  judged_level : faults T ≡ fine → length buffer ≤ limit → (ms os : List Member) → MembersRise ms → (least : ℕ) → Pairs KeysRise os → All (λ (d : Member). least ≤ d.key) os → All (λ (d : Member). Fit T (slot t false d)) os
      → {rs : List Row} {gs : List Given} → Judged false buffer (map (slot t true) ms ++ map (slot t false) os) rs gs → Level ms (Table.optional_members T t) least (pieces_in gs)
  unfolding slot given_of
  judged_level right h [] [] R least P L F over = tt
  judged_level right h [] (d ∷ os) R least (before p P) (more l L) (more f F) (taken {r = r} e i x K) = (
    record {
      member = d;
      found = f.finds;
      rises = l;
      form = form_has d.ty;
      one = exact_is d.ty (fit_rises T right (slot t false d) f) (part_of buffer r) x;
      tag_short = f.short refl;
      length_short = omega (arith, part_length buffer r i);
    },
    judged_level right h [] os R (suc d.key) P p F K,
  )
  judged_level right h [] (d ∷ os) R least (before p P) (more l L) (more f F) (missed q K) = judged_level right h [] os R least P L F K
  judged_level right h (m ∷ ms) os R least P L F (taken {r = r} e i x K) = (refl, exact_is m.ty R.0 (part_of buffer r) x, judged_level right h ms os R.1 least P L F K)
  judged_level right h (m ∷ ms) os R least P L F (missed q K) = absurd (true≢false q)

  -- in 1.0, where the owner has no optionals
  judged_bare : (ms : List Member) → MembersRise ms → {rs : List Row} {gs : List Given} → Judged true buffer (map (slot t true) ms) rs gs → Bare (members_as true ms) (pieces_in gs)
  unfolding slot given_of old_member
  judged_bare [] R over = tt
  judged_bare (m ∷ ms) R (taken {r = r} e i x K) = (refl, exact_is (type_as true m.ty) (rises_as true m.ty R.0) (part_of buffer r) x, judged_bare ms R.1 K)
  judged_bare (m ∷ ms) R (missed q K) = absurd (true≢false q)

  judged_rows : {old : Bool} (m : List ℕ) {ss : List Slot} {rs : List Row} {gs : List Given} → All (λ (s : Slot). Fit T s × (s.owner ≡ t)) ss → Judged old buffer ss rs gs
      → (at : ℕ) → Stands m at (concat piece_bytes (pieces_in gs)) → SameMembers buffer m rs (piece_rows T t at (pieces_in gs))
  unfolding piece_rows list_row part_of
  judged_rows m end over at S = no_members
  judged_rows m (more {a = s} f F) (taken {r = r} {rs = rs} {gs = gs} e i x K) at S =
      let b : List ℕ = part_of buffer r in
      let p : Piece = (given_of s b).piece in
      let c : content_bytes p ≡ b = piece_content s b in
      let ih = judged_rows m F K (at + length (piece_bytes p)) (others_stand T m p (pieces_in gs) at S) in
      subst (λ (o : Option Member). SameMembers buffer m (r ∷ rs) (list_row o (at + length (front_bytes p)) (content_bytes p) (piece_rows T t (at + length (piece_bytes p)) (pieces_in gs))))
      (sym (piece_member_lem s b T t f.0 f.1))
      (same_member e (sym c ∙ sym (stands_there (content_bytes p) (content_stands T m p (pieces_in gs) at S))) (sym (part_length buffer r i) ∙ sym (ap length c)) ih)
  judged_rows m (more f F) (missed d K) at S = judged_rows m F K at S

judged_whole : {old : Bool} {buffer : List ℕ} {ss : List Slot} {rs : List Row} {gs : List Given} → Judged old buffer ss rs gs → skipped_pieces (pieces_in gs) ≡ 0
unfolding skipped_pieces
judged_whole over = refl
judged_whole {buffer = buffer} (taken {s = s} {r = r} e i x K) = rw (piece_given s (part_of buffer r)) (omega (arith, judged_whole K))
judged_whole (missed d K) = judged_whole K

same_append : {m m' : List ℕ} {a a' b b' : List Row} → SameMembers m m' a a' → SameMembers m m' b b' → SameMembers m m' (a ++ b) (a' ++ b')
same_append no_members B = B
same_append (same_member e p l A) B = same_member e p l (same_append A B)

-- ---- the slices of a chain

-- in 1.0 an owner has no optionals
abbrev pub NoOptionals : Encoding → List ℕ → ℕ → Type 0
NoOptionals v10 T t = Table.optional_members T t ≡ []
NoOptionals (v11 g) T t = Unit {0}

-- slices under the rows of a chain, whose rows are the rows given
pub record Carries (T : List ℕ) (e : Encoding) (buffer ts : List ℕ) (rs : List Row) (ss : List Slice) : Type 0 where
  pub follow : Follow T e ts ss
  pub none_skipped : skipped_in ss ≡ 0
  pub none_passed : passed_in ss ≡ 0
  pub listed : (m : List ℕ) (s : Stand) (at : ℕ) → Stands m at (slices_bytes e s ss) → SameMembers buffer m rs (slice_rows T e s at ts ss)

module _ (T buffer : List ℕ) (right : faults T ≡ fine) (short : length buffer ≤ limit) where
  judged_owned : (e : Encoding) (t : ℕ) → Owner T t → NoOptionals e T t → {rs : List Row} {gs : List Given} → Judged (is_old e) buffer (slots T t) rs gs → OwnedAs e T t (pieces_in gs)
  unfolding slots rising
  judged_owned v10 t O N {rs} {gs} K =
      judged_bare T t buffer (Table.required_members T t) (required_rise T right t)
      (subst (λ (ss : List Slot). Judged true buffer ss rs gs)
      (ap (λ (os : List Member). map (slot t true) (Table.required_members T t) ++ map (slot t false) (rising os)) N ∙ append-nil (map (slot t true) (Table.required_members T t))) K)
  judged_owned (v11 g) t O N K = judged_level T t buffer right short (Table.required_members T t) (rising (Table.optional_members T t)) (required_rise T right t) 0 (owner_ordered T t right O).keys (all_any (λ d. omega arith) _) (all_rising (optional_fit T t right O)) K

  listed_owned : {old : Bool} (m : List ℕ) (t : ℕ) → Owner T t → {rs : List Row} {gs : List Given} → Judged old buffer (slots T t) rs gs
      → (at : ℕ) → Stands m at (concat piece_bytes (pieces_in gs)) → SameMembers buffer m rs (piece_rows T t at (pieces_in gs))
  listed_owned m t O K at S = judged_rows T t buffer m (all_with (λ s a b. (a, b)) (slots_fit T t right O) (slots_owner T t)) K at S

  carries_more : (e : Encoding) (t : ℕ) (ts : List ℕ) → Owner T t → NoOptionals e T t → {rs rs' : List Row} {gs : List Given} {ss : List Slice} → Judged (is_old e) buffer (slots T t) rs gs → Carries T e buffer ts rs' ss
      → Carries T e buffer (t ∷ ts) (rs ++ rs') (known (name_of T t) (pieces_in gs) ∷ ss)
  unfolding skipped_in passed_in slice_rows data_bytes
  carries_more e t ts O N {gs = gs} {ss = ss} K C = record {
    follow = (refl, judged_owned e t O N K, C.follow);
    none_skipped = omega (arith, judged_whole K, C.none_skipped);
    none_passed = C.none_passed;
    listed = λ m s at S.
        same_append (listed_owned m t O K (at + length (front_as e s (is_last ss) (known (name_of T t) (pieces_in gs)))) (stands_first (concat piece_bytes (pieces_in gs)) _ (data_stand T m e s (known (name_of T t) (pieces_in gs)) ss at S)))
        (C.listed m (later_as e) _ (slices_stand T m e s (known (name_of T t) (pieces_in gs)) ss at S));
  }

  judged_slices : (e : Encoding) (ts : List ℕ) → All (Owner T) ts → All (NoOptionals e T) ts → Pairs Falls ts → {rs : List Row} {gs : List Given} → Judged (is_old e) buffer (plan_of T ts) rs gs → Carries T e buffer ts rs (slices_of T gs ts)
  unfolding plan_of slices_of skipped_in passed_in slice_rows
  judged_slices e [] L N P over = record { follow = tt; none_skipped = refl; none_passed = refl; listed = λ m s at S. no_members }
  judged_slices e (t ∷ ts) (more O L) (more n N) (before p P) {rs} {gs} K =
      let S = judged_split (slots T t) K in
      let C = carries_more e t ts O n S.first (judged_slices e ts L N P S.second) in
      let q : slices_of T gs (t ∷ ts) ≡ known (name_of T t) (pieces_in S.gives) ∷ slices_of T S.gives' ts =
      ap (λ (l : List Given). slices_of T l (t ∷ ts)) S.all_gives
      ∙ slices_own T p (judged_owner (λ (o : ℕ). o ≡ t) (slots_owner T t) S.first) (judged_owner (Falls t) (plan_owner T (Falls t) ts p) S.second) in
      subst (λ (l : List Row). Carries T e buffer (t ∷ ts) l (slices_of T gs (t ∷ ts))) (sym S.all_rows)
      (subst (Carries T e buffer (t ∷ ts) (S.rows ++ S.rows')) (sym q) C)

-- ---- a whole message

-- an encoding that a type may be written in, to be read under a top: 1.1 sliced; 1.0, but for a class, where no row in line with the top has an optional
abbrev pub Encodable : List ℕ → ℕ → ℕ → Encoding → Type 0
Encodable T top type v10 = (kind T type ≡ 14 → ⊥) × WithoutOptionals T top
Encodable T top type (v11 g) = g ≡ sliced

-- pieces that conform and are complete, whose rows are the rows given
pub record Gathers (T buffer : List ℕ) (top type : ℕ) (e : Encoding) (rs : List Row) (p : Pieces) : Type 0 where
  pub conforms : Conform T top e p
  pub complete : Complete p
  pub of_type : first_known T top p ≡ type
  pub listed : SameMembers buffer (encapsulate e (encode e p)) rs (rows T top e p)

-- what is put together for each encoding
conform_list : (T : List ℕ) (top : ℕ) (e : Encoding) (ps : List Piece) → kind T top ≡ 15 → Encodable T top top e → OwnedAs e T top ps → Conform T top e (list ps)
conform_list T top v10 ps k E L = (k, E.1, L)
conform_list T top (v11 g) ps k E L = (k, E, L)

conform_exception : (T : List ℕ) (top type : ℕ) (e : Encoding) (ss : List Slice) → kind T top ≡ 13 → Encodable T top type e → Slices T top e ss → Conform T top e (exception ss)
conform_exception T top type v10 ss k E C = (k, E.1, C)
conform_exception T top type (v11 g) ss k E C = (k, C)

conform_class : (T : List ℕ) (top type : ℕ) (e : Encoding) (ss : List Slice) → kind T top ≡ 14 → kind T type ≡ 14 → Encodable T top type e → Slices T top e ss → Conform T top e (class ss)
conform_class T top type v10 ss k l E C = absurd (E.0 l)
conform_class T top type (v11 g) ss k l E C = (k, C)

-- the rows of a chain are in line with its type
chain_in : (l : List ℕ) → All (λ (r : ℕ). any (λ i. eqb i r) l ≡ true) l
unfolding any
chain_in [] = end
chain_in (x ∷ l) = more {a = x} (rw (eq-eqb x x refl)) (all_map (λ r h. go (eqb x r) h) (chain_in l))
  where
    go : {h : Bool} (b : Bool) → h ≡ true → b || h ≡ true
    go true e = refl
    go false e = e

module _ (T : List ℕ) (right : faults T ≡ fine) (type : ℕ) (there : no_top T type ≡ false) where
  chain_bare : (e : Encoding) (top : ℕ) → UnderTop T top type → Encodable T top type e → All (NoOptionals e T) (chain T type)
  chain_bare (v11 g) top below E = all_any (λ t. tt) (chain T type)
  chain_bare v10 top below E =
      let W = old_below T top type below E.1 in
      all_with (λ t R d. W t R.below (a_base d)) (chain_rungs T right type there) (chain_in (chain T type))

-- the bytes after the header byte, if there is one
stands_lead : (e : Encoding) (b : List ℕ) → Stands (encapsulate e (lead e ++ b)) (6 + length (lead e)) b
stands_lead e b = stands_next (lead e) b (stands_encapsulated e (lead e ++ b)) (6 + length (lead e)) refl

module _ (T buffer : List ℕ) (right : faults T ≡ fine) (short : length buffer ≤ limit) (type : ℕ) (there : no_top T type ≡ false) (top : ℕ) (below : UnderTop T top type) (e : Encoding) (E : Encodable T top type e)
    {rs : List Row} {gs : List Given} (K : Judged (is_old e) buffer (plan T type) rs gs) where
  abbrev pub Makes : Pieces → Type 0
  Makes p = Gathers T buffer top type e rs p

  list_top : kind T type ≡ 15 → type ≡ top
  list_top k = go (descends_ok T top type below)
    where
      go : Line T top type → type ≡ top
      go (here e) = e
      go (above r e d) = absurd (true≢false (sym (base_record T right type r e) ∙ ap (λ (x : ℕ). is_record x) k))

  list_makes : kind T type ≡ 15 → Makes (list (pieces_of type gs))
  unfolding plan plan_of first_known rows encode optionals_skipped slices_skipped
  list_makes k =
      let O = top_owner T right type there in
      let q : type ≡ top = list_top k in
      let H : Judged (is_old e) buffer (slots T type) rs gs = subst (λ (ss : List Slot). Judged (is_old e) buffer ss rs gs) (ap (plan_of T) (list_chain T type k) ∙ append-nil (slots T type)) K in
      let own : pieces_of type gs ≡ pieces_in gs = owns_all (judged_owner (λ (o : ℕ). o ≡ type) (slots_owner T type) H) in
      let N : NoOptionals e T type = first_of (chain_above T right type there) (chain_bare T right type there e top below E) in
      subst (λ (ps : List Piece). Makes (list ps)) (sym own) (subst (λ (x : ℕ). Encodable T x type e → Gathers T buffer x type e rs (list (pieces_in gs))) q (λ E. record {
        conforms = conform_list T type e (pieces_in gs) k E (judged_owned T buffer right short e type O N H);
        complete = record { optionals = judged_whole H; slices = refl };
        of_type = refl;
        listed = listed_owned T buffer right short _ type O H 6 (stands_encapsulated e _);
      }) E)
    where
      first_of : {l : List ℕ} {t : ℕ} {ts : List ℕ} {P : ℕ → Type 0} → l ≡ t ∷ ts → All P l → P t
      first_of {t = t} {ts = ts} {P = P} q A = head (subst (All P) q A)
        where
          head : {t : ℕ} {ts : List ℕ} → All P (t ∷ ts) → P t
          head (more p A) = p

  -- the chain of a record
  carries : Carries T e buffer (chain T type) rs (slices_of T gs (chain T type))
  unfolding plan
  carries = judged_slices T buffer right short e (chain T type) (chain_owners T right type there) (chain_bare T right type there e top below E) (chain_falls T right type there) K

  record_slices : is_record (kind T type) ≡ true → Slices T top e (slices_of T gs (chain T type)) × (first_in T (slices_of T gs (chain T type)) ≡ type)
  unfolding slices_of first_in or_zero
  record_slices i =
      let q : chain T type ≡ type ∷ Write.above (chain T type) = chain_above T right type there in
      let n : named T (name_of T type) ≡ some type = named_at T right type (top_owner T right type there).below i in
      subst (λ (l : List ℕ). Slices T top e (slices_of T gs l) × (first_in T (slices_of T gs l) ≡ type)) (sym q) (
        record { row = type; known = n; descends = below; follow = subst (λ (l : List ℕ). Follow T e (chain T type) (slices_of T gs l)) q carries.follow },
        ap or_zero n,
      )

  class_makes : kind T type ≡ 14 → Makes (class (slices_of T gs (chain T type)))
  unfolding first_known rows encode optionals_skipped slices_skipped
  class_makes k =
      let S = record_slices (ap (λ (x : ℕ). is_record x) k) in
      record {
        conforms = conform_class T top type e _ ((chain_top T right type there top below).alike ∙ k) k E S.0;
        complete = record { optionals = carries.none_skipped; slices = carries.none_passed };
        of_type = S.1;
        listed = subst (λ (t : ℕ). SameMembers buffer (encapsulate e (encode e (class (slices_of T gs (chain T type))))) rs (slice_rows T e first 7 (chain T t) (slices_of T gs (chain T type)))) (sym S.1)
            (carries.listed _ first 7 (stands_next (1 ∷ []) _ (stands_encapsulated e _) 7 refl));
      }

  exception_makes : kind T type ≡ 13 → Makes (exception (slices_of T gs (chain T type)))
  unfolding first_known rows encode optionals_skipped slices_skipped
  exception_makes k =
      let S = record_slices (ap (λ (x : ℕ). is_record x) k) in
      record {
        conforms = conform_exception T top type e _ ((chain_top T right type there top below).alike ∙ k) E S.0;
        complete = record { optionals = carries.none_skipped; slices = carries.none_passed };
        of_type = S.1;
        listed = subst (λ (t : ℕ). SameMembers buffer (encapsulate e (encode e (exception (slices_of T gs (chain T type))))) rs (slice_rows T e first (6 + length (lead e)) (chain T t) (slices_of T gs (chain T type)))) (sym S.1)
            (carries.listed _ first (6 + length (lead e)) (stands_lead e _));
      }

  pub gathers : Makes (gathered T type gs)
  unfolding gathered
  gathers = go (eqb (kind T type) 15) refl (eqb (kind T type) 14) refl
    where
      go : (a : Bool) → eqb (kind T type) 15 ≡ a → (b : Bool) → eqb (kind T type) 14 ≡ b
          → Makes (pick a (list (pieces_of type gs)) (pick b (class (slices_of T gs (chain T type))) (exception (slices_of T gs (chain T type)))))
      go true e b f = list_makes (eqb-true (kind T type) 15 e)
      go false e true f = class_makes (eqb-true (kind T type) 14 f)
      go false e false f =
          let t = top_there T type there in
          exception_makes (omega (arith, t.1, kind_known T right type t.0, eqb-false (kind T type) 15 e, eqb-false (kind T type) 14 f))

-- ---- the writer's formats

-- format 2 is 1.0
pub old_format : (format : ℕ) → is_old (encoding_of format) ≡ eqb format 2
unfolding encoding_of
old_format format = go (eqb format 2)
  where
    go : (b : Bool) → is_old (pick b v10 (v11 sliced)) ≡ b
    go true = refl
    go false = refl

-- the number of a format's encoding is the format
pub format_number : (T : List ℕ) (type format : ℕ) → Formed T type format → encoding_number (encoding_of format) ≡ format
unfolding encoding_of
format_number T type format (in_slices e) = rw e
format_number T type format (in_pairs e k) = rw e

-- what 23 and 26 let pass may be written
pub format_encodable : (T : List ℕ) (top type format : ℕ) → Formed T type format → (format ≡ 2 → WithoutOptionals T top) → Encodable T top type (encoding_of format)
unfolding encoding_of
format_encodable T top type format (in_slices e) W = rw e refl
format_encodable T top type format (in_pairs e k) W = let w = W e in rw e (k, w)

pub below_itself : (T : List ℕ) → faults T ≡ fine → (type : ℕ) → no_top T type ≡ false → UnderTop T type type
unfolding any
below_itself T right type there = rw (chain_above T right type there, eq-eqb type type refl)

-- rows that are judged, by the slots of their type, in the encoding of their format
pub slots_judged : (T : List ℕ) → faults T ≡ fine → (type : ℕ) → no_top T type ≡ false → (format : ℕ) (buffer : List ℕ) (rs : List Row) {gs : List Given}
    → judging T type (eqb format 2) buffer rs ≡ out gs → Judged (is_old (encoding_of format)) buffer (plan T type) rs gs
slots_judged T right type there format buffer rs {gs} h =
    subst (λ (old : Bool). Judged old buffer (plan T type) rs gs) (sym (old_format format))
    (judged_ok (eqb format 2) buffer rs (plan T type) 0 (sym (judging_slots T right type there (eqb format 2) buffer rs) ∙ h))

pub read_back : ReadBack
read_back T top type format count rs buffer room m h under =
    let W = writing_ok T type format count rs buffer room h in
    let C = W.composed in
    let U = read_under C.table C.there (bare_is T type format C.bare) under in
    let e : Encoding = encoding_of format in
    let formed = formed_is T type format C.formed in
    let K = slots_judged T C.table type C.there format buffer (row_list count rs) C.judged in
    let G = gathers T buffer C.table C.short type C.there top U.0 e (format_encodable T top type format formed U.1) K in
    let p : Pieces = gathered T type C.given in
    let R = chain_top T C.table type C.there top U.0 in
    let there : no_top T top ≡ false = top_step T top R.below (omega (arith, R.alike, (top_there T type C.there).1)) in
    record {
      read = read_as e p;
      taken = length m;
      accepted = rules_written T top m e p (record { table = valid T C.table; top_there = there; short = W.short; conforms = G.conforms; encoded = C.made });
      of_type = G.of_type;
      in_format = format_number T type format formed;
      complete = G.complete;
      members = subst (λ (z : List ℕ). SameMembers buffer z (row_list count rs) (rows T top e p)) (sym C.made) G.listed;
    }
  where
    read_under : faults T ≡ fine → no_top T type ≡ false → (format ≡ 2 → WithoutOptionals T type) → ReadUnder T top type format → UnderTop T top type × (format ≡ 2 → WithoutOptionals T top)
    read_under right there W (as_named e) = subst (λ (x : ℕ). UnderTop T x type × (format ≡ 2 → WithoutOptionals T x)) (sym e) (below_itself T right type there, W)
    read_under right there W (from_above b w) = (b, w)
