-- The numbers of what the writer answers are small: each fits the 32 bits in which a call gives it.
-- Rows that are judged right are at most 1,024, each of at most 65,536 bytes after at most 11, and a chain has at most 256 slices, each with at most 266 bytes of its own.
--
--   Narrow            a message's length, or a refusal's number and place, is below 2 ^ 32
--   writing_narrow    what is written, or the refusal
use Rattle.std.specs.Prelude.{◌≡◌, Bool, ◌&&◌, leb, ltb}
use Rattle.std.proofs.Math.Path.{refl, ap, subst}
use Rattle.std.proofs.Common.{sym, ◌∙◌}
use Rattle.std.proofs.Math.Bool.{true, false}
use Rattle.std.proofs.Math.Option.{Option, none, some}
use mathlib.Core.List.{List, [], ◌∷◌, ◌++◌, map}
use Prim.Native.Nat.{ℕ, suc, ◌+◌, ◌*◌, ◌≤◌, ◌<◌}
use native.Mathlib.Omega.{arith}
use Rattle.std.proofs.Math.ListN.{length, length-append}
use Rattle.std.proofs.lemmas.List.{length-map}
use Rattle.std.proofs.Math.Dec.{eqb}
use borrow.Author.Tests.{eqb-true, eqb-false}
use Rattle.encoding.specs.Result.{pick, first_of, concat}
use Rattle.encoding.specs.Number.{le_bytes, size_bytes, string_bytes}
use Rattle.encoding.proofs.NumberLaws.{length_le_bytes}
use Rattle.encoding.specs.Types.{Bits, Form, bare, own, counted, sized, bits, bits_of}
use Rattle.encoding.specs.Value.{exact}
use Rattle.encoding.specs.Table.{types, kind, is_record, range, name_of, chain, Fault, fine, fault, faults, rule_number}
use Rattle.encoding.proofs.RuleLaws.{kind_known, types_most, named_at, named_short, fault_place, length_range}
use Rattle.encoding.specs.Optional.{Piece, required, optional, skipped, header_bytes, length_bytes, front_bytes, content_bytes, piece_bytes}
use Rattle.encoding.specs.Slice.{Format, is_sliced, Slice, known, Stand, first, due, is_last, any_optional, id_of, data_bytes, slice_front}
use Rattle.encoding.specs.Old.{type_as, no_old, pair_front}
use Rattle.encoding.specs.Message.{Row, list, exception, class, Encoding, v10, v11, is_old, front_as, later_as, slices_bytes, lead, encode, no_top, limit}
use Rattle.encoding.proofs.MessageLaws.{top_there, length_encapsulate}
use Rattle.encoding.specs.Write.{Slot, slots, plan_of, plan, Out, out, stop, next, State, Reached, Given, reach, still_due, part_of, judge, prepend, judge_all, begin, above, pieces_of, slices_of, encoding_of, gathered, no_format, bounded, row_at, table_rules, early, stopped_first, rows_given, message, writing}
use Rattle.laws.specs.Demands.{All, end, more, SameMembers, no_members, same_member, row_list}
use Rattle.laws.proofs.TableFault.{fault_class}
use Rattle.laws.proofs.RowsExact.{all_map}
use Rattle.laws.proofs.RowsMost.{rows_most}
use Rattle.laws.proofs.PlanLaws.{Pairs, alone, before, given_of, Judged, over, taken, missed, out≢stop}
use Rattle.laws.proofs.PlanRules.{Falls, Rung, slots_owner, plan_owner, chain_rungs, chain_falls}
use Rattle.laws.proofs.MessageWritten.{formed_is, bare_is, Composed, message_ok}
use Rattle.laws.proofs.GatherLaws.{pieces_in, judged_split, judged_owner, owns_all, slices_own, part_length, piece_content}
use Rattle.laws.proofs.WriteBack.{gathers, format_encodable, below_itself, slots_judged}

-- ---- one piece

size_most : (n : ℕ) → length (size_bytes n) ≤ 5
unfolding size_bytes
size_most n = go (ltb n 255)
  where
    go : (b : Bool) → length (pick b (n ∷ []) (255 ∷ le_bytes 4 n)) ≤ 5
    go true = omega arith
    go false = omega (arith, length_le_bytes 4 n)

header_most : (t : ℕ) (k : Bits) → length (header_bytes t k) ≤ 6
unfolding header_bytes
header_most t k = go (ltb t 30)
  where
    go : (b : Bool) → length (pick b ((t * 8 + bits k) ∷ []) ((240 + bits k) ∷ size_bytes t)) ≤ 6
    go true = omega arith
    go false = omega (arith, size_most t)

field_most : (f : Form) (b : List ℕ) → length (length_bytes f b) ≤ 5
unfolding length_bytes
field_most (bare k) b = omega arith
field_most own b = omega arith
field_most counted b = size_most (length b)
field_most sized b = omega (arith, length_le_bytes 4 (length b))

front_most : (p : Piece) → length (front_bytes p) ≤ 11
unfolding front_bytes
front_most (required i b) = omega arith
front_most (optional t f b) = omega (arith, header_most t (bits_of f), field_most f b, length-append (header_bytes t (bits_of f)) (length_bytes f b))
front_most (skipped t k b) = omega (arith, header_most t k)

piece_most : (s : Slot) (buffer : List ℕ) (r : Row) → length buffer ≤ limit → r.place + r.len ≤ length buffer → length (piece_bytes (given_of s (part_of buffer r)).piece) ≤ 65547
unfolding piece_bytes
piece_most s buffer r h i =
    let p : Piece = (given_of s (part_of buffer r)).piece in
    omega (arith, length-append (front_bytes p) (content_bytes p), front_most p, ap length (piece_content s (part_of buffer r)), part_length buffer r i)

-- the pieces of any owner
pieces_most : {old : Bool} {buffer : List ℕ} → length buffer ≤ limit → (t : ℕ) {ss : List Slot} {rs : List Row} {gs : List Given} → Judged old buffer ss rs gs → length (concat piece_bytes (pieces_of t gs)) ≤ 65547 * length gs
unfolding pieces_of concat
pieces_most h t over = omega arith
pieces_most {buffer = buffer} h t (taken {s} {r = r} {gs = gs} e i x K) = go (eqb t (given_of s (part_of buffer r)).owner) (pieces_most h t K)
  where
    p : Piece
    p = (given_of s (part_of buffer r)).piece

    go : (b : Bool) → length (concat piece_bytes (pieces_of t gs)) ≤ 65547 * length gs → length (concat piece_bytes (pick b (p ∷ pieces_of t gs) (pieces_of t gs))) ≤ 65547 * suc (length gs)
    go true ih = omega (arith, length-append (piece_bytes p) (concat piece_bytes (pieces_of t gs)), piece_most s buffer r h i)
    go false ih = omega arith
pieces_most h t (missed d K) = pieces_most h t K

-- ---- the slices of a chain

sliced_most : (g : Format) (s : Stand) (last : Bool) (nm : List ℕ) (ps : List Piece) → length nm ≤ 255
    → length (slice_front g s last (known nm ps)) + length (data_bytes (known nm ps)) ≤ length (concat piece_bytes ps) + 266
unfolding slice_front data_bytes id_of string_bytes
sliced_most g s last nm ps h = go (due s g) (is_sliced g) (any_optional ps)
  where
    size : List ℕ
    size = le_bytes 4 (4 + length (data_bytes (known nm ps)))

    id_most : (a : Bool) → length (pick a (size_bytes (length nm) ++ nm) []) ≤ 260
    id_most true = omega (arith, length-append (size_bytes (length nm)) nm, size_most (length nm))
    id_most false = omega arith

    size_is : (b : Bool) → length (pick b size []) ≤ 4
    size_is true = omega (arith, length_le_bytes 4 (4 + length (data_bytes (known nm ps))))
    size_is false = omega arith

    mark_most : (c : Bool) → length {A = ℕ} (pick c (255 ∷ []) []) ≤ 1
    mark_most true = omega arith
    mark_most false = omega arith

    go : (a b c : Bool) → suc (length (pick a (size_bytes (length nm) ++ nm) [] ++ pick b size [])) + length (concat piece_bytes ps ++ pick c (255 ∷ []) []) ≤ length (concat piece_bytes ps) + 266
    go a b c =
        omega (
          arith,
          length-append (pick a (size_bytes (length nm) ++ nm) []) (pick b size []),
          length-append (concat piece_bytes ps) (pick c (255 ∷ []) []),
          id_most a,
          size_is b,
          mark_most c,
        )

-- a pair has a type ID and a size
slice_most : (e : Encoding) (s : Stand) (last : Bool) (nm : List ℕ) (ps : List Piece) → length nm ≤ 255
    → length (front_as e s last (known nm ps)) + length (data_bytes (known nm ps)) ≤ length (concat piece_bytes ps) + 266
unfolding pair_front data_bytes id_of string_bytes
slice_most (v11 g) s last nm ps h = sliced_most g s last nm ps h
slice_most v10 s last nm ps h =
    omega (
      arith,
      length-append (size_bytes (length nm) ++ nm) (le_bytes 4 (4 + length (data_bytes (known nm ps)))),
      length-append (size_bytes (length nm)) nm,
      size_most (length nm),
      length_le_bytes 4 (4 + length (data_bytes (known nm ps))),
      length-append (concat piece_bytes ps) (pick (any_optional ps) (255 ∷ []) []),
      mark_most (any_optional ps),
    )
  where
    mark_most : (c : Bool) → length {A = ℕ} (pick c (255 ∷ []) []) ≤ 1
    mark_most true = omega arith
    mark_most false = omega arith

module _ (T buffer : List ℕ) (short : length buffer ≤ limit) where
  slices_most : {old : Bool} (f : Encoding) (ts : List ℕ) → Pairs Falls ts → All (λ (t : ℕ). length (name_of T t) ≤ 255) ts → {rs : List Row} {gs : List Given} → Judged old buffer (plan_of T ts) rs gs
      → (s : Stand) → length (slices_bytes f s (slices_of T gs ts)) ≤ 65547 * length gs + 266 * length ts
  unfolding plan_of slices_of slices_bytes
  slices_most f [] P N over s = omega arith
  slices_most f (t ∷ ts) (before p P) (more n N) {rs} {gs} K s =
      let S = judged_split (slots T t) K in
      let mine = judged_owner (λ (o : ℕ). o ≡ t) (slots_owner T t) S.first in
      let e : slices_of T gs (t ∷ ts) ≡ known (name_of T t) (pieces_in S.gives) ∷ slices_of T S.gives' ts =
      ap (λ (l : List Given). slices_of T l (t ∷ ts)) S.all_gives ∙ slices_own T p mine (judged_owner (Falls t) (plan_owner T (Falls t) ts p) S.second) in
      go S.gives S.gives' (ap length S.all_gives ∙ length-append S.gives S.gives') e
      (subst (λ (l : List Piece). length (concat piece_bytes l) ≤ 65547 * length S.gives) (owns_all mine) (pieces_most short t S.first)) (slices_most f ts P N S.second (later_as f))
    where
      go : (xs ys : List Given) → length gs ≡ length xs + length ys → slices_of T gs (t ∷ ts) ≡ known (name_of T t) (pieces_in xs) ∷ slices_of T ys ts
          → length (concat piece_bytes (pieces_in xs)) ≤ 65547 * length xs → length (slices_bytes f (later_as f) (slices_of T ys ts)) ≤ 65547 * length ys + 266 * length ts
          → length (slices_bytes f s (slices_of T gs (t ∷ ts))) ≤ 65547 * length gs + 266 * suc (length ts)
      go xs ys l e h ih =
          let sl : Slice = known (name_of T t) (pieces_in xs) in
          let rest : List Slice = slices_of T ys ts in
          let u : List ℕ = front_as f s (is_last rest) sl in
          subst (λ (x : List Slice). length (slices_bytes f s x) ≤ 65547 * length gs + 266 * suc (length ts)) (sym e)
          (omega (
            arith,
            length-append (u ++ data_bytes sl) (slices_bytes f (later_as f) rest),
            length-append u (data_bytes sl),
            slice_most f s (is_last rest) (name_of T t) (pieces_in xs) n,
          ))

falls_length : (n : ℕ) {ts : List ℕ} → Pairs Falls ts → All (λ (t : ℕ). t < n) ts → length ts ≤ n
falls_length n alone end = omega arith
falls_length n (before {a} p P) (more h L) = omega (arith, falls_length a P p)

-- ---- a message

lead_most : (e : Encoding) → length (lead e) ≤ 1
lead_most v10 = omega arith
lead_most (v11 g) = omega arith

same_count : {m m' : List ℕ} {rs rs' : List Row} → SameMembers m m' rs rs' → length rs ≡ length rs'
same_count no_members = refl
same_count (same_member e p l S) = ap suc (same_count S)

judged_count : {old : Bool} {buffer : List ℕ} {ss : List Slot} {rs : List Row} {gs : List Given} → Judged old buffer ss rs gs → length gs ≡ length rs
judged_count over = refl
judged_count (taken e i x K) = ap suc (judged_count K)
judged_count (missed d K) = judged_count K

module _ (T : List ℕ) (type format count : ℕ) (rs buffer : List ℕ) where
  -- the encoding of the format
  abbrev written_in : Encoding
  written_in = encoding_of format

  module _ (m : List ℕ) (C : Composed T type format count rs buffer m) where
    abbrev given : List Given
    given = C.given

    judged : Judged (is_old written_in) buffer (plan T type) (row_list count rs) given
    judged = slots_judged T C.table type C.there format buffer (row_list count rs) C.judged

    given_most : length given ≤ 1024
    given_most =
        let G = gathers T buffer C.table C.short type C.there type (below_itself T C.table type C.there) written_in
        (format_encodable T type type format (formed_is T type format C.formed) (bare_is T type format C.bare)) judged in
        omega (arith, judged_count judged, same_count G.listed, rows_most T C.table type written_in (gathered T type given) (top_there T type C.there).0 G.conforms)

    chain_most : length (chain T type) ≤ 256
    chain_most =
        omega (
          arith,
          falls_length (types T) (chain_falls T C.table type C.there) (all_map (λ (r : ℕ) (R : Rung T C.table type r). R.below) (chain_rungs T C.table type C.there)),
          types_most T C.table,
        )

    names_most : is_record (kind T type) ≡ true → All (λ (t : ℕ). length (name_of T t) ≤ 255) (chain T type)
    names_most i =
        all_map (λ (r : ℕ) (R : Rung T C.table type r). named_short T C.table (name_of T r) r (named_at T C.table r R.below (ap (λ (k : ℕ). is_record k) R.alike ∙ i)))
        (chain_rungs T C.table type C.there)

    chained : is_record (kind T type) ≡ true → length (slices_bytes written_in first (slices_of T given (chain T type))) ≤ 65547 * length given + 266 * length (chain T type)
    unfolding plan
    chained i = slices_most T buffer C.short written_in (chain T type) (chain_falls T C.table type C.there) (names_most i) judged first

    encoded : length (encode written_in (gathered T type given)) ≤ 65547 * length given + 266 * length (chain T type) + 1
    unfolding gathered encode
    encoded = go (eqb (kind T type) 15) refl (eqb (kind T type) 14) refl
      where
        go : (a : Bool) → eqb (kind T type) 15 ≡ a → (b : Bool) → eqb (kind T type) 14 ≡ b
            → length (encode written_in (pick a (list (pieces_of type given)) (pick b (class (slices_of T given (chain T type))) (exception (slices_of T given (chain T type))))))
            ≤ 65547 * length given + 266 * length (chain T type) + 1
        go true e b f = omega (arith, pieces_most C.short type judged)
        go false e true f = omega (arith, chained (ap (λ (k : ℕ). is_record k) (eqb-true (kind T type) 14 f)))
        go false e false f =
            let t = top_there T type C.there in
            let k : kind T type ≡ 13 = omega (arith, t.1, kind_known T C.table type t.0, eqb-false (kind T type) 15 e, eqb-false (kind T type) 14 f) in
            omega (arith, chained (ap (λ (x : ℕ). is_record x) k), length-append (lead written_in) (slices_bytes written_in first (slices_of T given (chain T type))), lead_most written_in)

    message_most : length m < 4294967296
    message_most = omega (arith, ap length C.made, length_encapsulate written_in (encode written_in (gathered T type given)), encoded, given_most, chain_most)

-- ---- the refusals

-- a refusal's number and place
abbrev Stops : {A : Type 0} → Out A → Type 0
Stops (out a) = Unit {0}
Stops (stop n p) = (n < 4294967296) × (p < 4294967296)

stops_next : {A B : Type 0} (o : Out A) (f : A → Out B) → Stops o → ((a : A) → o ≡ out a → Stops (f a)) → Stops (next o f)
unfolding next
stops_next (out a) f h k = k a refl
stops_next (stop n p) f h k = h

stops_judge : (T : List ℕ) (old : Bool) (buffer : List ℕ) (rs : List Row) (s : State) (i : ℕ) → i + length rs < 4294967296 → Stops (judge_all T old buffer s i rs)
unfolding judge_all judge prepend
stops_judge T old buffer [] s i h = go (still_due T s)
  where
    go : (q : Bool) → Stops {A = List Given} (pick q (stop 20 i) (out []))
    go true = (omega arith, omega arith)
    go false = tt
stops_judge T old buffer (r ∷ rs) s i h =
    stops_next (judge old buffer i r (reach T r.member s)) _ (one (reach T r.member s))
    (λ z e. stops_next (judge_all T old buffer z.state (suc i) rs) _ (stops_judge T old buffer rs z.state (suc i) (omega arith)) (λ gs e. tt))
  where
    one : (z : Option Reached) → Stops (judge old buffer i r z)
    one none = (omega arith, omega arith)
    one (some z) = go (leb (r.place + r.len) (length buffer)) (exact (type_as old z.member.ty) (part_of buffer r))
      where
        go : (p q : Bool) → Stops (pick p (pick q (out z) (stop 21 i)) (stop 20 i))
        go true true = tt
        go true false = (omega arith, omega arith)
        go false q = (omega arith, omega arith)

module _ (T : List ℕ) (type format count : ℕ) (rs buffer : List ℕ) (few : count < 4294967296) where
  stops_message : Stops (message T type format count rs buffer)
  unfolding message rows_given table_rules rule_number stopped_first early first_of
  stops_message =
      stops_next (table_rules T) _ (table (faults T) refl)
      (λ _ e. stops_next (stopped_first (early T type format buffer)) _ (before_rows (no_top T type) (no_format (kind T type) format) (eqb format 2 && no_old T type) (ltb limit (length buffer)))
      (λ _ e. stops_next (rows_given count rs) _ (enough (leb (12 * count) (length rs)))
      (λ l e. stops_next (judge_all T (eqb format 2) buffer (begin T type (above (chain T type))) 0 l) _ (stops_judge T (eqb format 2) buffer l (begin T type (above (chain T type))) 0 (given_few (leb (12 * count) (length rs)) l e)) (λ gs e. tt))))
    where
      table : (f : Fault) → faults T ≡ f → Stops (table_rules T)
      table fine e = rw e tt
      table (fault c p) e = rw e (let h : (rule_number c < 4294967296) × (p < 4294967296) = (omega (arith, (fault_class T c p e).1), omega (arith, fault_place T c p e)) in h)

      before_rows : (a b c d : Bool) → Stops (stopped_first (first_of ((2, a) ∷ (23, b) ∷ (26, c) ∷ (3, d) ∷ [])))
      before_rows true b c d = (omega arith, omega arith)
      before_rows false true c d = (omega arith, omega arith)
      before_rows false false true d = (omega arith, omega arith)
      before_rows false false false true = (omega arith, omega arith)
      before_rows false false false false = tt

      enough : (q : Bool) → Stops (pick q (out (map (row_at rs) (range 0 count))) (stop 20 count))
      enough true = tt
      enough false = (omega arith, few)

      given_few : (q : Bool) (l : List Row) → pick q (out (map (row_at rs) (range 0 count))) (stop 20 count) ≡ out l → 0 + length l < 4294967296
      given_few true l e =
          let s : map (row_at rs) (range 0 count) ≡ l = cc in
          omega (arith, ap length (sym s) ∙ length-map (range 0 count) (row_at rs) ∙ length_range 0 count)
      given_few false l e = absurd (out≢stop e refl)

abbrev pub Narrow : Out (List ℕ) → Type 0
Narrow (out m) = length m < 4294967296
Narrow (stop n p) = (n < 4294967296) × (p < 4294967296)

pub writing_narrow : (T : List ℕ) (type format count : ℕ) (rs buffer : List ℕ) (room : ℕ) → count < 4294967296 → Narrow (writing T type format count rs buffer room)
unfolding writing next bounded
writing_narrow T type format count rs buffer room few = go (message T type format count rs buffer) refl (stops_message T type format count rs buffer few)
  where
    go : (o : Out (List ℕ)) → message T type format count rs buffer ≡ o → Stops o → Narrow (next o (bounded room))
    go (out m) e S = fit (leb (length m) limit && leb (length m) room) (message_most T type format count rs buffer m (message_ok T type format count rs buffer e))
      where
        fit : (q : Bool) → length m < 4294967296 → Narrow (pick q (out m) (stop 22 (length m)))
        fit true h = h
        fit false h = (omega arith, h)
    go (stop n p) e S = S
