-- Demand 3: an old table reads a newer message.
-- What the new table read conforms, without what the old table does not know, to the old one (conform_newer), and is encoded as it was:
-- so the old table reads it from the same bytes. The one refusal comes before anything of the record is read.
--
--   conform_newer, rows_newer                   what the old table makes of the pieces conforms to it; its rows
--   newer_read, newer_refused, newer_reading    the promises
use Rattle.std.specs.Prelude.{◌≡◌, true, false, length}
use Rattle.std.proofs.Math.Path.{refl, ap}
use Rattle.std.proofs.Common.{sym, ◌∙◌, subst₂, ⊎_elim, arith, le-leb, le-ltb}
use Rattle.std.proofs.Math.Option.{none}
use mathlib.Core.List.{List, [], ◌∷◌, ◌++◌, append_assoc, append-nil}
use Prim.Native.Nat.{ℕ, ◌+◌, ◌≤◌, ◌<◌}
use Rattle.std.proofs.lemmas.Bool.{lt-leb}
use Rattle.encoding.specs.Result.{Res, ok, bad, Parser, shift, must, made, mapc}
use Rattle.encoding.proofs.ResultLaws.{bind_bad, bind_next, must_step}
use Rattle.encoding.specs.Number.{Short, byte, string_bytes}
use Rattle.encoding.specs.Grammar.{InString}
use Rattle.encoding.proofs.NumberLaws.{byte_written}
use Rattle.encoding.specs.Table.{types, kind, is_record, named}
use Rattle.encoding.proofs.RuleLaws.{record_kind, named_short, named_text}
use Rattle.encoding.specs.Optional.{Piece}
use Rattle.encoding.specs.Slice.{Format, compact, sliced, Slice, known, passed, first, later, due, seek, stand_of, finished, is_none, id_form, slice, Chain, unless_finished, walk, slices, any_optional, has_optionals, id_of, data_bytes, flag_bits, slice_front, is_last}
use Rattle.encoding.proofs.WalkLaws.{head_ok, head_refused, slice_refused}
use Rattle.encoding.specs.Message.{Pieces, list, exception, class, v11, Read, encode, encapsulate, marker_form, contents, ended, body, no_top, limit, rules, rows, Answer, answer, within, room, reading, accepted, slices_bytes}
use Rattle.encoding.proofs.MessageLaws.{top_there, length_encapsulate, body_encapsulated, rules_body}
use Rattle.encoding.specs.Conform.{Slices, Conform}
use Rattle.encoding.specs.Extends.{Extends, TopsMatch, as_records, as_lists, SameOwner, as_tops}
use Rattle.laws.specs.Demands.{read_as, Follows, Kept, first_id, Foreign, an_exception, a_class, Newer, Understood, NewerRead, NewerRefused, NewerReading}
use Rattle.laws.specs.Lose.{lose}
use Rattle.laws.proofs.SliceExact.{head_written}
use Rattle.laws.proofs.TableExact.{valid}
use Rattle.laws.proofs.MessageExact.{exact_message}
use Rattle.laws.proofs.LoseLaws.{lose_bytes, lose_passed}
use Rattle.laws.proofs.OptionalNewer.{owned_newer}
use Rattle.laws.proofs.RecordNewer.{record_list, new_record, pair_of}
use Rattle.laws.proofs.SliceNewer.{slices_newer}
use Rattle.laws.proofs.RowsNewer.{pieces_kept, slices_kept}

-- ---- what the old table makes of the pieces

-- what would be foreign in the compact format is not compact
else_sliced : {A : Type 0} (P : Format → Type 0) → (A → P compact) → (g : Format) → (P g → ⊥) → A → g ≡ sliced
else_sliced P foreign compact fit a = absurd (fit (foreign a))
else_sliced P foreign sliced fit a = refl

module _ (old new : List ℕ) (X : Extends old new) (top top' : ℕ) where
  pub conform_newer : TopsMatch old new top top' → (g : Format) (p : Pieces) → Conform new top' (v11 g) p → Short (length (encode (v11 g) p)) → ((place : ℕ) → Foreign old g p place → ⊥)
      → Conform old top (v11 g) (lose old top p)
  unfolding encode lose
  conform_newer (as_records l S) g (list ps) C h fit = absurd (record_list (kind new top') (new_record S) C.0)
  conform_newer (as_records l S) g (exception ss) C h fit = (
    S.kinds ∙ C.0,
    slices_newer old new X top top' (pair_of old new X top top' l S) ss g first C.1 h (else_sliced (λ f. Foreign old f (exception ss) 7) an_exception g (fit 7)),
  )
  conform_newer (as_records l S) g (class ss) C h fit = (
    S.kinds ∙ C.0,
    slices_newer old new X top top' (pair_of old new X top top' l S) ss g first C.1 (omega (arith, h)) (else_sliced (λ f. Foreign old f (class ss) 8) a_class g (fit 8)),
  )
  conform_newer (as_lists l l' k k' M) g (list ps) C h fit = (k, C.1, owned_newer old new X.new_right top top' M ps C.2)
  conform_newer (as_lists l l' k k' M) g (exception ss) C h fit = absurd (omega (arith, k', C.0))
  conform_newer (as_lists l l' k k' M) g (class ss) C h fit = absurd (omega (arith, k', C.0))

  pub rows_newer : TopsMatch old new top top' → top' < types new → (g : Format) (p : Pieces) → Conform new top' (v11 g) p → Kept old new top top' (rows new top' (v11 g) p) (rows old top (v11 g) (lose old top p))
  unfolding rows lose
  rows_newer (as_records l S) t g (list ps) C = absurd (record_list (kind new top') (new_record S) C.0)
  rows_newer (as_lists l l' k k' M) t g (list ps) C =
      pieces_kept old new X top top' t top top' (record { match = M; owners = as_tops refl refl k k'; inside = l'; own = rw k'; only = only }) 6 ps
    where
      only : (o : ℕ) → SameOwner old new top top' o top' → o ≡ top
      only o (as_records l S) = absurd (record_list (kind new top') (new_record S) k')
      only o (as_tops e f k k') = e
  rows_newer M t g (exception ss) C = slices_kept old new X top top' t ss g first C.1 6
  rows_newer M t g (class ss) C = slices_kept old new X top top' t ss g first C.1 7

-- ---- the old table accepts

-- the old top is one
old_top : (old new : List ℕ) (top top' : ℕ) → TopsMatch old new top top' → no_top old top ≡ false
unfolding no_top
old_top old new top top' (as_records l S) = rw (lt-leb (types old) top l, le-ltb (kind old top) 13 (go (kind old top) S.old_one))
  where
    go : (k : ℕ) → is_record k ≡ true → 13 ≤ k
    go k r = ⊎_elim (λ e. omega arith) (λ e. omega arith) (record_kind k r)
old_top old new top top' (as_lists l l' k k' M) = rw (lt-leb (types old) top l, le-ltb (kind old top) 13 (omega arith))

module _ (old new : List ℕ) (top top' : ℕ) (m : List ℕ) (f : Format) (p : Pieces) (N : Newer old new top top' m f p) where
  followed : Follows new top' m (v11 f) p
  followed = ((exact_message new top' m (v11 f) p N.taken N.bytes).0 N.accepted).0

  understood : ((place : ℕ) → Foreign old f p place → ⊥) → Understood old new top top' m f p
  understood fit =
      let E = followed in
      let short : Short (length (encode (v11 f) p)) = omega (arith, ap length E.encoded ∙ length_encapsulate (v11 f) (encode (v11 f) p), E.short) in
      record {
        pieces = lose old top p;
        taken = length m;
        accepted = (exact_message old top m (v11 f) (lose old top p) (length m) N.bytes).1 (record {
          table = valid old N.extends.old_right;
          top_there = old_top old new top top' N.tops;
          short = E.short;
          conforms = conform_newer old new N.extends top top' N.tops f p E.conforms short fit;
          encoded = E.encoded ∙ ap (encapsulate (v11 f)) (sym (lose_bytes old top f p));
        });
        kept = rows_newer old new N.extends top top' N.tops (top_there new top' E.top_there).0 f p E.conforms;
        skips = lose_passed old top p;
      }

pub newer_read : NewerRead
newer_read = understood

-- ---- the old table refuses: compact, and the first type ID is unknown to it

-- 15 at the type ID, after the flags
slices_refused : (T : List ℕ) (top : ℕ) (o : List ℕ) → named T o ≡ none → InString o → (ps : List Piece) (ss : List Slice)
    → slices T top (slices_bytes (v11 compact) first (known o ps ∷ ss)) ≡ bad 15 1
unfolding slices slices_bytes slice_front walk unless_finished finished stand_of due id_form is_none id_of has_optionals
slices_refused T top o unknown id ps ss =
    let d : List ℕ = data_bytes (known o ps) in
    let w : List ℕ = slices_bytes (v11 compact) (later compact) ss in
    let xs : List ℕ = flag_bits compact true (any_optional ps) (is_last ss) ∷ (string_bytes o ++ (d ++ w)) in
    let H = head_written first (λ _ _. 0) compact (any_optional ps) (is_last ss) o (d ++ w) tt (id, refl) in
    let R = head_refused first (id_form T (seek first)) xs _ _ (head_ok first (λ _ _. 0) xs _ _ H).0 14 refl (rw unknown) in
    let spelt : string_bytes o ++ [] ++ d ++ w ≡ string_bytes o ++ (d ++ w) = rw (append-nil (string_bytes o)) (append_assoc (string_bytes o) d w) in
    bind_bad (slice T top (seek first)) _ _
    (ap (λ (z : List ℕ). slice T top (seek first) (flag_bits compact true (any_optional ps) (is_last ss) ∷ z)) spelt ∙ slice_refused T top (seek first) xs 1 R)

-- the tops are of one kind
top_kind : {old new : List ℕ} {top top' : ℕ} → TopsMatch old new top top' → kind old top ≡ kind new top'
top_kind (as_records l S) = S.kinds
top_kind (as_lists l l' k k' M) = k ∙ sym k'

-- the first slice of a compact record is known to the new table
first_refused : (old new : List ℕ) → Extends old new → (top top' : ℕ) (ss : List Slice) → Slices new top' (v11 compact) ss → named old (first_id ss) ≡ none
    → slices old top (slices_bytes (v11 compact) first ss) ≡ bad 15 1
unfolding first_id id_of
first_refused old new X top top' [] C z = absurd C
first_refused old new X top top' (passed b nm d ∷ ss) C z = let e = C.0.format in let u : ◌≡◌ {A = ℕ} 0 1 = cc in absurd (omega arith)
first_refused old new X top top' (known o ps ∷ ss) C z =
    slices_refused old top o z (record { length_short = omega (arith, named_short new X.new_right o C.row C.known); is_text = named_text new X.new_right o C.row C.known }) ps ss

module _ (T : List ℕ) (top : ℕ) (ss : List Slice) (refused : slices T top (slices_bytes (v11 compact) first ss) ≡ bad 15 1) where
  exception_refused : kind T top ≡ 13 → contents T top (encode (v11 compact) (exception ss)) ≡ bad 15 1
  unfolding contents encode mapc made
  exception_refused k = rw (k, mapc, refused)

  class_refused : kind T top ≡ 14 → contents T top (encode (v11 compact) (class ss)) ≡ bad 15 2
  unfolding contents encode mapc made marker_form shift
  class_refused k =
      let w : List ℕ = slices_bytes (v11 compact) first ss in
      let rest : ℕ → Parser Read = λ _. mapc (λ (c : Chain) _. read_as (v11 c.format) (class c.list)) (slices T top) in
      rw k (bind_next (must marker_form byte) rest (1 ∷ w) (must_step byte (1 ∷ w) marker_form (byte_written 1 w) refl)
      ∙ ap (λ (r : Res Chain). shift 1 (made (λ (c : Chain) _. read_as (v11 c.format) (class c.list)) r)) refused)

pub newer_refused : NewerRefused
unfolding shift
newer_refused old new top top' m f p N place F = go F (followed old new top top' m f p N)
  where
    whole : (b : List ℕ) (q : ℕ) → m ≡ encapsulate (v11 compact) b → length m ≤ limit → contents old top b ≡ bad 15 q → rules old top m ≡ bad 15 (6 + q)
    whole b q e l h =
        rules_body old top m N.extends.old_right (old_top old new top top' N.tops) l ∙ ap (body old top) e
        ∙ body_encapsulated old top (v11 compact) b tt (omega (arith, ap length e ∙ length_encapsulate (v11 compact) b, l)) ∙ ap (shift 6) (bind_bad (contents old top) ended b h)

    go : {g : Format} {p : Pieces} {place : ℕ} → Foreign old g p place → Follows new top' m (v11 g) p → rules old top m ≡ bad 15 place
    go (an_exception {ss = ss} z) E =
        whole (encode (v11 compact) (exception ss)) 1 E.encoded E.short
        (exception_refused old top ss (first_refused old new N.extends top top' ss E.conforms.1 z) (top_kind N.tops ∙ E.conforms.0))
    go (a_class {ss = ss} z) E =
        whole (encode (v11 compact) (class ss)) 2 E.encoded E.short
        (class_refused old top ss (first_refused old new N.extends top top' ss E.conforms.1 z) (top_kind N.tops ∙ E.conforms.0))

-- ---- the reader's answer, where the lent list has room

reading_room : (T : List ℕ) (top : ℕ) (m : List ℕ) (lent : ℕ) → length (answer T top (rules T top m)).rows ≤ room lent → reading T top m lent ≡ answer T top (rules T top m)
unfolding reading within
reading_room T top m lent h = rw (le-leb (length (answer T top (rules T top m)).rows) (room lent) h)

pub newer_reading : NewerReading
unfolding answer accepted
newer_reading old new top top' m f p N fit lent lent' h h' =
    let U = newer_read old new top top' m f p N fit in
    let e : reading old top m lent ≡ answer old top (ok (read_as (v11 f) U.pieces) U.taken) = reading_room old top m lent h ∙ ap (answer old top) U.accepted in
    let e' : reading new top' m lent' ≡ answer new top' (ok (read_as (v11 f) p) N.taken) = reading_room new top' m lent' h' ∙ ap (answer new top') N.accepted in
    (ap (λ (a : Answer). a.refusal) e, subst₂ (λ (a a' : Answer). Kept old new top top' a'.rows a.rows) (sym e) (sym e') U.kept)
