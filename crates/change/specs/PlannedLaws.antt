-- What the code plans for an accepted message is what the definition makes of it.
--
--   fresh_is, setting_is    the new member's bytes
--   there_listed            what is removed is there exactly if the message lists it
--   planned_at              the plan at a gap of the owner's members
--   last_there, data_there, slot_there    the slice, and its data, in the bytes of a record
--   planned_list, planned_slices, planned_located    the plan is what the definition gives: of a parameter list, a record, any message
use Rattle.std.specs.Prelude.{◌≡◌, Bool, ◌&&◌, take, eqb, ltb}
use Rattle.std.proofs.Math.Path.{refl, sym, ap, ap₂, subst}
use Rattle.std.proofs.Common.{◌∙◌, true≢false, take_at, eqb-true, ne_eqb, lt-ltb, ltb-true, ltb-false}
use Rattle.std.proofs.Math.Bool.{true, false, not}
use Rattle.std.proofs.lemmas.Bool.{false≢true}
use Rattle.std.proofs.Math.Logic.{⊎_elim}
use Rattle.std.proofs.Math.Option.{Option, none, some}
use mathlib.Core.List.{List, [], ◌∷◌, ◌++◌, map, append_assoc, append-nil}
use Prim.Native.Nat.{ℕ, suc, ◌+◌, ◌-◌, ◌*◌, ◌≤◌}
use native.Mathlib.Omega.{arith}
use Rattle.std.proofs.Math.ListN.{length, drop, length-append}
use Rattle.std.proofs.Math.Seq.{drop_at}
use Rattle.encoding.specs.Result.{ok, pick, first_of, concat}
use Rattle.encoding.specs.Number.{le_bytes, string_bytes, val}
use Rattle.encoding.proofs.NumberLaws.{length_le_bytes}
use Rattle.encoding.specs.Types.{form_of}
use Rattle.encoding.specs.Value.{exact}
use Rattle.encoding.specs.Table.{at, fine, faults, kind, Member, lookup, name_of, named, chain}
use Rattle.encoding.specs.Table
use Rattle.encoding.specs.Optional.{Piece, required, optional, skipped, piece_bytes, is_optional}
use Rattle.encoding.specs.Slice.{Format, sliced, Slice, known, first, later, bit, any_optional, data_bytes, flag_bits, is_last}
use Rattle.encoding.specs.Message.{Pieces, list, exception, class, v11, slices_bytes, encode, encapsulate, rows, first_known}
use Rattle.encoding.proofs.MessageLaws.{length_encapsulate}
use Rattle.encoding.specs.Write.{Out, out, stop, next, stopped_first}
use Rattle.encoding.specs.Conform.{Level, Owned, Conform}
use Rattle.laws.specs.Demands.{read_as, All}
use Rattle.shapes.specs.Shapes.{form_number}
use Rattle.pieces.specs.PiecesLaws.{optional_bytes}
use Rattle.edit.specs.Change.{Target, target, piece_for, put_piece, edit_pieces, edit_slice, edit, lists, change_form, changed_at, changed_as, changed}
use Rattle.edit.specs.ChangeDemands.{has_tag, those}
use Rattle.edit.proofs.TargetLaws.{Aim}
use Rattle.edit.proofs.PieceLaws.{none_tagged}
use Rattle.edit.proofs.EditLaws.{Unlike, Apart, edit_apart, apart_slices, by_name, list_owner}
use Rattle.edit.proofs.HeldLaws.{Of, piece_held, some_of, held_mine}
use Rattle.edit.proofs.HereLaws.{owner_pieces, owner_owned, lists_tagged}
use Rattle.edit.proofs.AgainLaws.{tagged_one}
use Rattle.edit.proofs.MadeLaws.{result_of, made_step, Doing, form_step}
use Rattle.edit.specs.Place.{Gap, gap, closed, gap_in, flagged, has_marker, cut_end, seek_slice, list_spliced, slice_spliced}
use Rattle.edit.proofs.GapLaws.{before, here_at, behind, cut_of, gap_owned}
use Rattle.edit.proofs.SpliceLaws.{bytes_cut, fresh_bytes, is_setting, mark, gap_empty, DataCut, cut_set, cut_removed}
use Rattle.edit.proofs.SeatLaws.{whole, laid, slices_laid, seek_laid, whole_length, list_spliced_lem, spelt, slices_spliced, flags_at, size_at, end_at, message, message_length}
use Rattle.seek.specs.declared.Slot.TheVariants.{List as InList, At}
use Rattle.seek.specs.Located.{slot_of, slot_in, slices_at}
use Rattle.splice.specs.Spliced.{piece_of, marker_of, exchanged, flag_of, spliced, Shaped}
use Rattle.change.specs.declared.Plan.TheVariants.{Make, Stop}
use Rattle.change.specs.Planned.{cut_at, at_spot, at_slot, located_plan, content_of, Planned}

-- ---- the new member

module _ (d : Member) (b : List ℕ) where
  pub fresh_is : (q : Bool) → piece_of q d.key (form_number (form_of d.ty)) b ≡ fresh_bytes (piece_for d (content_of q b))
  unfolding piece_of piece_for content_of put_piece concat
  fresh_is true = sym (optional_bytes d.key (form_of d.ty) b) ∙ sym (append-nil (piece_bytes (optional d.key (form_of d.ty) b)))
  fresh_is false = refl

  pub setting_is : (q : Bool) → is_setting (piece_for d (content_of q b)) ≡ q
  unfolding is_setting piece_for content_of
  setting_is true = refl
  setting_is false = refl

-- ---- what is there

here_tagged : (k : ℕ) (ms os : List Member) (least : ℕ) (ps : List Piece) → Level ms os least ps → here_at k ps ≡ those (has_tag k) ps
unfolding here_at those has_tag
here_tagged k [] os least [] L = refl
here_tagged k [] os least (required i b ∷ ps) L = absurd L
here_tagged k [] os least (optional t f b ∷ ps) L = go (ltb t k) refl (eqb t k) refl (here_tagged k [] os (suc t) ps L.1)
  where
    go : (x : Bool) → ltb t k ≡ x → (y : Bool) → eqb t k ≡ y → here_at k ps ≡ those (has_tag k) ps → pick x (here_at k ps) (pick y (optional t f b ∷ []) []) ≡ pick y (optional t f b ∷ those (has_tag k) ps) (those (has_tag k) ps)
    go true l true q ih = absurd (omega (arith, ltb-true t k l, eqb-true t k q))
    go true l false q ih = ih
    go false l true q ih = ap (λ (z : List Piece). optional t f b ∷ z) (sym (none_tagged k os (suc t) ps (omega (arith, eqb-true t k q)) L.1))
    go false l false q ih = sym (none_tagged k os (suc t) ps (omega (arith, ltb-false t k l)) L.1)
here_tagged k [] os least (skipped t f b ∷ ps) L = go (ltb t k) refl (eqb t k) refl (here_tagged k [] os (suc t) ps L.1)
  where
    go : (x : Bool) → ltb t k ≡ x → (y : Bool) → eqb t k ≡ y → here_at k ps ≡ those (has_tag k) ps → pick x (here_at k ps) (pick y (skipped t f b ∷ []) []) ≡ pick y (skipped t f b ∷ those (has_tag k) ps) (those (has_tag k) ps)
    go true l true q ih = absurd (omega (arith, ltb-true t k l, eqb-true t k q))
    go true l false q ih = ih
    go false l true q ih = ap (λ (z : List Piece). skipped t f b ∷ z) (sym (none_tagged k os (suc t) ps (omega (arith, eqb-true t k q)) L.1))
    go false l false q ih = sym (none_tagged k os (suc t) ps (omega (arith, ltb-false t k l)) L.1)
here_tagged k (m ∷ ms) os least [] L = absurd L
here_tagged k (m ∷ ms) os least (required i b ∷ ps) L = here_tagged k ms os least ps L.2
here_tagged k (m ∷ ms) os least (optional t f b ∷ ps) L = absurd L
here_tagged k (m ∷ ms) os least (skipped t f b ∷ ps) L = absurd L

module _ (T : List ℕ) (right : faults T ≡ fine) (top n : ℕ) (x : Target) (p : Pieces) (C : Conform T top (v11 sliced) p) (A : Aim T (chain T (first_known T top p)) n x) where
  abbrev k : ℕ
  k = x.member.key

  abbrev owned : List Piece
  owned = owner_pieces T right top sliced n x p C A

  abbrev form : ℕ
  form = form_number (form_of x.member.ty)

  level : Owned T x.owner owned
  level = owner_owned T right top sliced n x p C A

  pub there_listed : any_optional (here_at k owned) ≡ lists x.member.row (rows T top (v11 sliced) p)
  unfolding any_optional is_optional some_of piece_held those
  there_listed =
      ap any_optional (here_tagged k (Table.required_members T x.owner) (Table.optional_members T x.owner) 0 owned level)
      ∙ ⊎_elim missing has (tagged_one (Table.optional_members T x.owner) x.member A.found (Table.required_members T x.owner) 0 owned level)
      ∙ sym (lists_tagged T right top sliced n x p C A)
    where
      missing : those (has_tag k) owned ≡ [] → any_optional (those (has_tag k) owned) ≡ some_of (those (Of x.member.row) (piece_held T x.owner (those (has_tag k) owned)))
      missing e = ap any_optional e ∙ sym (ap (λ (l : List Piece). some_of (those (Of x.member.row) (piece_held T x.owner l))) e)

      has : (b : List ℕ) × (those (has_tag k) owned ≡ optional k (form_of x.member.ty) b ∷ []) → any_optional (those (has_tag k) owned) ≡ some_of (those (Of x.member.row) (piece_held T x.owner (those (has_tag k) owned)))
      has w =
          ap any_optional w.1 ∙ sym (ap (λ (l : List Piece). some_of (those (Of x.member.row) (piece_held T x.owner l))) w.1 ∙ ap some_of (held_mine T right x.owner A.owner_right x.member A.found w.0))

  -- ---- a plan at a place

  module _ (q : Bool) (b : List ℕ) (j : ℕ) (found : target T (first_known T top p) n ≡ some x) (fresh : q ≡ true → (length b ≤ 65536) × (exact x.member.ty b ≡ true)) (few : length b ≤ 65536) (m : List ℕ) where
    abbrev answer : Out (List ℕ)
    answer = changed T top n (content_of q b) (ok (read_as (v11 sliced) p) j)

    gone : q ≡ false → any_optional (here_at k owned) ≡ false → answer ≡ stop 50 0
    unfolding changed changed_as changed_at content_of change_form first_of next stopped_first
    gone e h =
        ap (λ (z : Bool). changed T top n (content_of z b) (ok (read_as (v11 sliced) p) j)) e ∙ ap (changed_at T top sliced p none) found
        ∙ ap (λ (z : Bool). next (stopped_first (first_of ((50, not z) ∷ (51, false) ∷ []))) (λ _. out (result_of T sliced p none x))) (sym there_listed ∙ h)

    doing : (q : Bool) → (q ≡ true → (length b ≤ 65536) × (exact x.member.ty b ≡ true)) → (q ≡ false → any_optional (here_at k owned) ≡ true) → Doing x.member (content_of q b) (rows T top (v11 sliced) p)
    unfolding content_of
    doing true f h = f refl
    doing false f h = sym there_listed ∙ h refl

    made : (q ≡ false → any_optional (here_at k owned) ≡ true) → answer ≡ out (result_of T sliced p (content_of q b) x)
    made h = made_step T top sliced p n (content_of q b) j x found (form_step x.member (content_of q b) (rows T top (v11 sliced) p) (doing q fresh h))

    pub planned_at : (f s e a : ℕ) → ((q ≡ false → any_optional (here_at k owned) ≡ true) → (spliced (cut_at f s e a (cut_of k owned) k form q) m b ≡ result_of T sliced p (content_of q b) x) × Shaped (length m) (cut_at f s e a (cut_of k owned) k form q))
        → Planned answer m b (at_spot f s e a (cut_of k owned) k form q)
    unfolding at_spot
    planned_at f s e a give = go q refl (eqb (cut_of k owned).from (cut_of k owned).to) refl
      where
        make : (q ≡ false → any_optional (here_at k owned) ≡ true) → Planned answer m b (Make (cut_at f s e a (cut_of k owned) k form q))
        make h = let G = give h in (made h ∙ ap out (sym G.0), G.1, few)

        go : (z : Bool) → q ≡ z → (w : Bool) → eqb (cut_of k owned).from (cut_of k owned).to ≡ w → Planned answer m b (pick (not z && w) (Stop 50 0) (Make (cut_at f s e a (cut_of k owned) k form q)))
        go true y w u = make (λ i. absurd (true≢false (sym y ∙ i)))
        go false y true u = (gone y (not_flip (any_optional (here_at k owned)) (sym (gap_empty k owned) ∙ u)), omega arith, omega arith)
          where
            not_flip : (c : Bool) → not c ≡ true → c ≡ false
            not_flip true i = absurd (false≢true i)
            not_flip false i = refl
        go false y false u = make (λ _. not_flop (any_optional (here_at k owned)) (sym (gap_empty k owned) ∙ u))
          where
            not_flop : (c : Bool) → not c ≡ false → c ≡ true
            not_flop true i = refl
            not_flop false i = absurd (true≢false i)

-- ---- a parameter list

drop_front : (c : List ℕ) → drop 6 (encapsulate (v11 sliced) c) ≡ c
unfolding encapsulate
drop_front c = ap (drop 6) (sym (append_assoc (le_bytes 4 (6 + length c)) (1 ∷ 1 ∷ []) c)) ∙ drop_at (le_bytes 4 (6 + length c) ++ (1 ∷ 1 ∷ [])) c 6 (omega (arith, length-append (le_bytes 4 (6 + length c)) (1 ∷ 1 ∷ []), length_le_bytes 4 (6 + length c)))

pieces_most : (k : ℕ) (ps : List Piece) → length (concat piece_bytes (before k ps)) + length (concat piece_bytes (here_at k ps)) ≤ length (concat piece_bytes ps)
pieces_most k ps =
    let B : List ℕ = concat piece_bytes (before k ps) in
    let H : List ℕ = concat piece_bytes (here_at k ps) in
    let R : List ℕ = concat piece_bytes (behind k ps) in
    omega (arith, ap length (bytes_cut k ps), length-append B (H ++ R), length-append H R)

module _ (T : List ℕ) (right : faults T ≡ fine) (top n : ℕ) (x : Target) (ps : List Piece) (C : Conform T top (v11 sliced) (list ps)) (A : Aim T (chain T (first_known T top (list ps))) n x)
    (q : Bool) (b : List ℕ) (j : ℕ) (found : target T (first_known T top (list ps)) n ≡ some x) (fresh : q ≡ true → (length b ≤ 65536) × (exact x.member.ty b ≡ true)) (few : length b ≤ 65536)
    (m : List ℕ) (em : m ≡ encapsulate (v11 sliced) (encode (v11 sliced) (list ps))) (sh : length m ≤ 65536) where
  abbrev lk : ℕ
  lk = x.member.key

  abbrev lform : ℕ
  lform = form_number (form_of x.member.ty)

  list_result : spliced (cut_at 0 0 0 6 (cut_of lk ps) lk lform q) m b ≡ result_of T sliced (list ps) (content_of q b) x
  unfolding spliced cut_at exchanged edit encode
  list_result =
      ap₂ (λ (w z : List ℕ). list_spliced (6 + (cut_of lk ps).from) (6 + (cut_of lk ps).to) w z) (append-nil (piece_of q lk lform b) ∙ fresh_is x.member b q) em
      ∙ list_spliced_lem lk (piece_for x.member (content_of q b)) ps

  list_shaped : Shaped (length m) (cut_at 0 0 0 6 (cut_of lk ps) lk lform q)
  unfolding cut_at gap encode
  list_shaped = record {
    begins = omega arith;
    order = omega arith;
    inside = omega (arith, ap length em, length_encapsulate (v11 sliced) (concat piece_bytes ps), pieces_most lk ps);
    few = sh;
    flags_at_lem = λ h. absurd (omega arith);
    size_at_lem = λ h. absurd (omega arith);
    data_at = λ h. absurd (omega arith);
    ends = λ h. absurd (omega arith);
    end_at_lem = omega arith;
  }

  pub planned_list : Planned (changed T top n (content_of q b) (ok (read_as (v11 sliced) (list ps)) j)) m b (located_plan T (kind T top) x.owner m lk lform q)
  unfolding located_plan slot_in at_slot first_known owner_pieces encode closed
  planned_list =
      let o = list_owner T right top sliced n x C.0 A.within in
      let g : gap_in T x.owner lk (drop 6 m) ≡ cut_of lk ps =
      ap (λ (z : List ℕ). gap_in T x.owner lk (drop 6 z)) em ∙ ap (gap_in T x.owner lk) (drop_front (concat piece_bytes ps) ∙ sym (append-nil (concat piece_bytes ps)))
      ∙ gap_owned T right x.owner lk ps [] (subst (λ (z : ℕ). Owned T z ps) (sym o) C.2) refl in
      subst (Planned (changed T top n (content_of q b) (ok (read_as (v11 sliced) (list ps)) j)) m b)
      (sym (ap (λ (z : ℕ). at_slot T x.owner m lk lform q (pick (eqb z 15) InList (slot_of (seek_slice (name_of T x.owner) (suc (length m)) (slices_at z) (drop (slices_at z) m))))) C.0 ∙ ap (λ (z : Gap). at_spot 0 0 0 6 z lk lform q) g))
      (planned_at T right top n x (list ps) C A q b j found fresh few m 0 0 0 6 (λ h. (list_result, list_shaped)))

-- ---- a record

-- the bit of the last slice in its flags
last_bit : (o l : Bool) → bit (flag_bits sliced true o l) 32 ≡ l
unfolding flag_bits
last_bit true true = refl
last_bit true false = refl
last_bit false true = refl
last_bit false false = refl

mark_closed : (c : Bool) → closed (mark c) ≡ true
unfolding closed
mark_closed true = refl
mark_closed false = refl

-- slices have bytes
laid_most : (a : List Slice) (r : List ℕ) → length a ≤ length (laid a r)
unfolding laid
laid_most [] r = omega arith
laid_most (s ∷ a) r = omega (arith, laid_most a r, whole_length false s (laid a r))

-- the places of a message in segments
module _ (pre : List ℕ) (a : List Slice) (nm : List ℕ) (last : Bool) (r : List ℕ) (ps : List Piece) where
  abbrev D : List ℕ
  D = data_bytes (known nm ps)

  abbrev whole_message : List ℕ
  whole_message = message pre a nm last r ps

  abbrev L : List ℕ
  L = le_bytes 4 (6 + length (pre ++ laid a (whole last (known nm ps) r)))

  abbrev A : List ℕ
  A = 1 ∷ 1 ∷ (pre ++ laid a [])

  abbrev fl : ℕ
  fl = flag_bits sliced true (any_optional ps) last

  segments : whole_message ≡ L ++ (A ++ (fl ∷ (string_bytes nm ++ (le_bytes 4 (4 + length D) ++ (D ++ r)))))
  segments = spelt pre a nm last r ps D [] [] (sym (append-nil D))

  flags_there : drop (flags_at pre a nm last r) whole_message ≡ fl ∷ (string_bytes nm ++ (le_bytes 4 (4 + length D) ++ (D ++ r)))
  flags_there =
      ap (drop (flags_at pre a nm last r)) (segments ∙ sym (append_assoc L A (fl ∷ (string_bytes nm ++ (le_bytes 4 (4 + length D) ++ (D ++ r))))))
      ∙ drop_at (L ++ A) (fl ∷ (string_bytes nm ++ (le_bytes 4 (4 + length D) ++ (D ++ r)))) (flags_at pre a nm last r) (omega (arith, length-append L A, length_le_bytes 4 (6 + length (pre ++ laid a (whole last (known nm ps) r))), length-append pre (laid a [])))

  pub last_there : bit (at whole_message 1 (flags_at pre a nm last r)) 32 ≡ last
  unfolding at val
  last_there = ap (λ (z : List ℕ). bit (val (take 1 z)) 32) flags_there ∙ ap (λ (z : ℕ). bit z 32) one ∙ last_bit (any_optional ps) last
    where
      one : fl + 256 * 0 ≡ fl
      one = omega arith

  pub data_there : take (end_at pre a nm last r ps - (size_at pre a nm last r + 4)) (drop (size_at pre a nm last r + 4) whole_message) ≡ D
  data_there =
      let I : List ℕ = string_bytes nm in
      let Z : List ℕ = le_bytes 4 (4 + length D) in
      let P : List ℕ = L ++ (A ++ (fl ∷ (I ++ Z))) in
      let e : L ++ (A ++ (fl ∷ (I ++ (Z ++ (D ++ r))))) ≡ P ++ (D ++ r) =
      sym (append_assoc L (A ++ (fl ∷ (I ++ Z))) (D ++ r) ∙ ap (λ (z : List ℕ). L ++ z) (append_assoc A (fl ∷ (I ++ Z)) (D ++ r) ∙ ap (λ (z : List ℕ). A ++ (fl ∷ z)) (append_assoc I Z (D ++ r)))) in
      let n : length P ≡ size_at pre a nm last r + 4 =
      omega (arith, length-append L (A ++ (fl ∷ (I ++ Z))), length-append A (fl ∷ (I ++ Z)), length-append I Z, length_le_bytes 4 (6 + length (pre ++ laid a (whole last (known nm ps) r))), length_le_bytes 4 (4 + length D), length-append pre (laid a [])) in
      ap (λ (z : List ℕ). take (end_at pre a nm last r ps - (size_at pre a nm last r + 4)) (drop (size_at pre a nm last r + 4) z)) (segments ∙ e)
      ∙ ap (take (end_at pre a nm last r ps - (size_at pre a nm last r + 4))) (drop_at P (D ++ r) (size_at pre a nm last r + 4) n) ∙ take_at D r (end_at pre a nm last r ps - (size_at pre a nm last r + 4)) (omega arith)

  pub slot_there : All (Unlike nm) a → length whole_message ≤ 65536 → (start : ℕ) → start ≡ 6 + length pre
      → slot_of (seek_slice nm (suc (length whole_message)) start (drop start whole_message)) ≡ At (flags_at pre a nm last r) (size_at pre a nm last r) (end_at pre a nm last r ps)
  unfolding slot_of encapsulate
  slot_there U sh start e =
      let X : List ℕ = laid a (whole last (known nm ps) r) in
      let n = message_length pre a nm last r ps in
      let g : drop start whole_message ≡ X =
      ap (drop start) (sym (append_assoc L (1 ∷ 1 ∷ pre) X)) ∙ drop_at (L ++ (1 ∷ 1 ∷ pre)) X start (omega (arith, length-append L (1 ∷ 1 ∷ pre), length_le_bytes 4 (6 + length (pre ++ X)))) in
      let s : length X ≤ length whole_message = omega (arith, length-append L (1 ∷ 1 ∷ (pre ++ X)), length-append pre X) in
      ap (λ (z : List ℕ). slot_of (seek_slice nm (suc (length whole_message)) start z)) g
      ∙ ap slot_of (seek_laid nm a (suc (length whole_message)) start last ps r U (omega (arith, laid_most a (whole last (known nm ps) r))) (omega arith))
      ∙ ap (λ (z : ℕ). At (z + length (laid a [])) (z + length (laid a []) + 1 + length (string_bytes nm)) (z + length (laid a []) + 1 + length (string_bytes nm) + (4 + length D))) e

-- what is before the slices, and where they begin
pub record Begun (T : List ℕ) (top : ℕ) (p : Pieces) (pre : List ℕ) (ss : List Slice) : Type 0 where
  pub kinds : (kind T top ≡ 15 → ⊥)
  pub starts : slices_at (kind T top) ≡ 6 + length pre
  pub codes : (g : Format) → encode (v11 g) p ≡ pre ++ slices_bytes (v11 g) first ss
  pub makes : List Slice → Pieces
  pub edits : (nm : List ℕ) (k : ℕ) (new : Option Piece) → edit nm k new p ≡ makes (map (edit_slice nm k new) ss)
  pub made_codes : (g : Format) (ts : List Slice) → encode (v11 g) (makes ts) ≡ pre ++ slices_bytes (v11 g) first ts

module _ (T : List ℕ) (right : faults T ≡ fine) (top n : ℕ) (x : Target) (p : Pieces) (C : Conform T top (v11 sliced) p) (A : Aim T (chain T (first_known T top p)) n x) (pre : List ℕ) (ss : List Slice) (B : Begun T top p pre ss)
    (P : Apart (Owned T x.owner) (name_of T x.owner) ss) (own : owner_pieces T right top sliced n x p C A ≡ P.pieces)
    (q : Bool) (b : List ℕ) (j : ℕ) (found : target T (first_known T top p) n ≡ some x) (fresh : q ≡ true → (length b ≤ 65536) × (exact x.member.ty b ≡ true)) (few : length b ≤ 65536)
    (m : List ℕ) (em : m ≡ encapsulate (v11 sliced) (encode (v11 sliced) p)) (sh : length m ≤ 65536) where
  abbrev sk : ℕ
  sk = x.member.key

  abbrev sform : ℕ
  sform = form_number (form_of x.member.ty)

  abbrev nm : List ℕ
  nm = name_of T x.owner

  abbrev r : List ℕ
  r = slices_bytes (v11 sliced) (later sliced) P.behind

  abbrev last : Bool
  last = is_last P.behind

  abbrev new : Option Piece
  new = piece_for x.member (content_of q b)

  abbrev f_a : ℕ
  f_a = flags_at pre P.ahead nm last r

  abbrev s_a : ℕ
  s_a = size_at pre P.ahead nm last r

  abbrev e_a : ℕ
  e_a = end_at pre P.ahead nm last r P.pieces

  is_message : m ≡ message pre P.ahead nm last r P.pieces
  is_message = em ∙ ap (encapsulate (v11 sliced)) (B.codes sliced ∙ ap (λ (z : List ℕ). pre ++ z) (ap (slices_bytes (v11 sliced) first) P.spelt ∙ slices_laid first P.ahead (known nm P.pieces) P.behind))

  is_result : message pre P.ahead nm last r (edit_pieces sk new P.pieces) ≡ result_of T sliced p (content_of q b) x
  is_result =
      sym (ap (encapsulate (v11 sliced)) (ap (encode (v11 sliced)) (B.edits nm sk new) ∙ B.made_codes sliced (map (edit_slice nm sk new) ss)
      ∙ ap (λ (z : List ℕ). pre ++ z) (ap (slices_bytes (v11 sliced) first) (edit_apart nm sk new ss P) ∙ slices_laid first P.ahead (known nm (edit_pieces sk new P.pieces)) P.behind)))

  the_cut : (z : Bool) → (z ≡ false → any_optional (here_at sk P.pieces) ≡ true) → DataCut sk nm (piece_for x.member (content_of z b)) P.pieces (cut_of sk P.pieces)
  unfolding piece_for content_of is_optional
  the_cut true h = cut_set sk nm (Table.required_members T x.owner) (Table.optional_members T x.owner) P.pieces P.right (optional sk (form_of x.member.ty) b) refl
  the_cut false h = cut_removed sk nm (Table.required_members T x.owner) (Table.optional_members T x.owner) P.pieces P.right (h refl)

  slices_result : (q ≡ false → any_optional (here_at sk P.pieces) ≡ true) → spliced (cut_at f_a s_a e_a (s_a + 4) (cut_of sk P.pieces) sk sform q) m b ≡ result_of T sliced p (content_of q b) x
  unfolding spliced cut_at exchanged flag_of gap
  slices_result h =
      let g : Gap = cut_of sk P.pieces in
      let K = the_cut q h in
      let st = setting_is x.member b q in
      ap (λ (z : Bool). pick z (slice_spliced f_a s_a e_a (s_a + 4 + g.from) (s_a + 4 + pick z (cut_end q g) g.to) (flag_bits sliced true (flagged q g) (bit (at m 1 f_a) 32)) (piece_of q sk sform b ++ marker_of (z && has_marker q g)) m) (list_spliced (s_a + 4 + g.from) (s_a + 4 + pick z (cut_end q g) g.to) (piece_of q sk sform b ++ marker_of (z && has_marker q g)) m)) (lt-ltb 0 e_a (omega arith))
      ∙ ap₂ (λ (w z : List ℕ). slice_spliced f_a s_a e_a (s_a + 4 + g.from) (s_a + 4 + cut_end q g) (flag_bits sliced true (flagged q g) (bit (at z 1 f_a) 32)) (w ++ marker_of (has_marker q g)) z) (fresh_is x.member b q) is_message
      ∙ ap (λ (z : Bool). slice_spliced f_a s_a e_a (s_a + 4 + g.from) (s_a + 4 + cut_end q g) (flag_bits sliced true (flagged q g) z) (fresh_bytes new ++ marker_of (has_marker q g)) (message pre P.ahead nm last r P.pieces)) (last_there pre P.ahead nm last r P.pieces)
      ∙ ap (λ (z : Bool). slice_spliced f_a s_a e_a (s_a + 4 + g.from) (s_a + 4 + cut_end z g) (flag_bits sliced true (flagged z g) last) (fresh_bytes new ++ marker_of (has_marker z g)) (message pre P.ahead nm last r P.pieces)) (sym st)
      ∙ slices_spliced pre P.ahead nm last r sk new P.pieces g K
      ∙ is_result

  slices_shaped : (q ≡ false → any_optional (here_at sk P.pieces) ≡ true) → Shaped (length m) (cut_at f_a s_a e_a (s_a + 4) (cut_of sk P.pieces) sk sform q)
  unfolding cut_at gap
  slices_shaped h =
      let g : Gap = cut_of sk P.pieces in
      let K = the_cut q h in
      let D : List ℕ = data_bytes (known nm P.pieces) in
      let B₁ : List ℕ = concat piece_bytes (before sk P.pieces) in
      let e₁ : pick (ltb 0 e_a) (cut_end q g) g.to ≡ cut_end q g = ap (λ (z : Bool). pick z (cut_end q g) g.to) (lt-ltb 0 e_a (omega arith)) in
      let e₂ : length B₁ + length K.gone ≡ cut_end q g = K.ends ∙ ap (λ (z : Bool). cut_end z g) (setting_is x.member b q) in
      let n₁ : length D ≡ length (B₁ ++ (K.gone ++ K.stays)) = ap length K.old in
      let n₂ = length-append B₁ (K.gone ++ K.stays) in
      let n₃ = length-append K.gone K.stays in
      let n₄ : length m ≡ s_a + (4 + length D) + length r = ap length is_message ∙ message_length pre P.ahead nm last r P.pieces in
      record {
        begins = omega arith;
        order = omega (arith, e₁, e₂);
        inside = omega (arith, e₁, e₂, n₁, n₂, n₃, n₄);
        few = sh;
        flags_at_lem = λ h. omega arith;
        size_at_lem = λ h. omega arith;
        data_at = λ h. omega arith;
        ends = λ h. omega (arith, e₁, e₂, n₁, n₂, n₃);
        end_at_lem = omega (arith, n₄);
      }

  pub planned_slices : Planned (changed T top n (content_of q b) (ok (read_as (v11 sliced) p) j)) m b (located_plan T (kind T top) x.owner m sk sform q)
  unfolding located_plan slot_in at_slot data_bytes
  planned_slices =
      let slot : slot_in T (kind T top) x.owner m ≡ At f_a s_a e_a =
      ap (λ (z : Bool). pick z InList (slot_of (seek_slice nm (suc (length m)) (slices_at (kind T top)) (drop (slices_at (kind T top)) m)))) (ne_eqb (kind T top) 15 B.kinds)
      ∙ ap (λ (z : List ℕ). slot_of (seek_slice nm (suc (length z)) (slices_at (kind T top)) (drop (slices_at (kind T top)) z))) is_message
      ∙ slot_there pre P.ahead nm last r P.pieces P.unlike_ahead (subst (λ (z : List ℕ). length z ≤ 65536) is_message sh) (slices_at (kind T top)) B.starts in
      let g : gap_in T x.owner sk (take (e_a - (s_a + 4)) (drop (s_a + 4) m)) ≡ cut_of sk P.pieces =
      ap (λ (z : List ℕ). gap_in T x.owner sk (take (e_a - (s_a + 4)) (drop (s_a + 4) z))) is_message ∙ ap (gap_in T x.owner sk) (data_there pre P.ahead nm last r P.pieces)
      ∙ gap_owned T right x.owner sk P.pieces (mark (any_optional P.pieces)) P.right (mark_closed (any_optional P.pieces)) in
      subst (Planned (changed T top n (content_of q b) (ok (read_as (v11 sliced) p) j)) m b)
      (sym (ap (at_slot T x.owner m sk sform q) slot ∙ ap (λ (z : Gap). at_spot f_a s_a e_a (s_a + 4) z sk sform q) g))
      (subst (λ (ps : List Piece). Planned (changed T top n (content_of q b) (ok (read_as (v11 sliced) p) j)) m b (at_spot f_a s_a e_a (s_a + 4) (cut_of sk ps) sk sform q)) own
      (planned_at T right top n x p C A q b j found fresh few m f_a s_a e_a (s_a + 4)
      (λ h. subst (λ (ps : List Piece). (spliced (cut_at f_a s_a e_a (s_a + 4) (cut_of sk ps) sk sform q) m b ≡ result_of T sliced p (content_of q b) x) × Shaped (length m) (cut_at f_a s_a e_a (s_a + 4) (cut_of sk ps) sk sform q)) (sym own)
      (slices_result (λ e. subst (λ (ps : List Piece). any_optional (here_at sk ps) ≡ true) own (h e)), slices_shaped (λ e. subst (λ (ps : List Piece). any_optional (here_at sk ps) ≡ true) own (h e))))))

-- ---- a message

pub planned_located : (T : List ℕ) → faults T ≡ fine → (top n : ℕ) (x : Target) (p : Pieces) → Conform T top (v11 sliced) p → Aim T (chain T (first_known T top p)) n x
    → (q : Bool) (b : List ℕ) (j : ℕ) → target T (first_known T top p) n ≡ some x → (q ≡ true → (length b ≤ 65536) × (exact x.member.ty b ≡ true)) → length b ≤ 65536
    → (m : List ℕ) → m ≡ encapsulate (v11 sliced) (encode (v11 sliced) p) → length m ≤ 65536
    → Planned (changed T top n (content_of q b) (ok (read_as (v11 sliced) p) j)) m b (located_plan T (kind T top) x.owner m x.member.key (form_number (form_of x.member.ty)) q)
unfolding encode edit first_known owner_pieces
planned_located T right top n x (list ps) C A q b j found fresh few m em sh = planned_list T right top n x ps C A q b j found fresh few m em sh
planned_located T right top n x (exception ss) C A q b j found fresh few m em sh =
    planned_slices T right top n x (exception ss) C A [] ss
    (record { kinds = λ e. omega (arith, C.0); starts = ap slices_at C.0; codes = λ g. refl; makes = exception; edits = λ nm k new. refl; made_codes = λ g ts. refl })
    (apart_slices T right top sliced x.owner (by_name T right top sliced n x ss C.1 A.within) ss C.1 A.within) refl q b j found fresh few m em sh
planned_located T right top n x (class ss) C A q b j found fresh few m em sh =
    planned_slices T right top n x (class ss) C A (1 ∷ []) ss
    (record { kinds = λ e. omega (arith, C.0); starts = ap slices_at C.0; codes = λ g. refl; makes = class; edits = λ nm k new. refl; made_codes = λ g ts. refl })
    (apart_slices T right top sliced x.owner (by_name T right top sliced n x ss C.1 A.within) ss C.1 A.within) refl q b j found fresh few m em sh
