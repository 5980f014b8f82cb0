-- Slices of a record, read and encoded: what is read is what the encoder makes, and what it makes is read back.
--
--   Agrees s g                     format g agrees with the slice before, if there is one
--   flags_written, _canonical      the flags byte
--   head_written, _canonical       flags and type ID
--   data_written, _canonical       size and members of a known slice
--   Ready, Taken, Fits             where a walk comes; what one turn of it takes; which slices are still to come
--   slice_written, _canonical      one slice, known or skipped
--   walk_written, _canonical       the walk over slices
--   slices_written, _canonical     the chain of a record
use Rattle.std.proofs.Math.Path.{◌≡◌, refl, sym, ap, ap₂, subst}
use Rattle.std.proofs.Common.{◌∙◌, true≢false, drop_at, ltb-false, ne_eqb}
use Rattle.std.proofs.Math.Bool.{Bool, true, false, not}
use Rattle.std.specs.Prelude.{◌&&◌, ◌||◌, drop, ltb}
use Rattle.std.specs.Bool.{beq}
use Rattle.std.proofs.lemmas.Bool.{false≢true, not-true, not-false, eqb-false}
use Rattle.std.proofs.Math.Option.{Option, none, some}
use mathlib.Core.List.{List, [], ◌∷◌, ◌++◌, append_assoc, append-nil}
use Prim.Native.Nat.{ℕ, zero, suc, ◌+◌, ◌*◌, ◌/◌, ◌%◌, ◌≤◌, ◌<◌}
use Rattle.std.proofs.Math.Nat.{div-div-eq-div-mul, div-add-mod}
use native.Mathlib.Omega.{arith}
use Rattle.std.proofs.Math.ListN.{length, take, length-append, length-drop}
use Rattle.std.proofs.Math.Seq.{take-length, take-add}
use Rattle.std.proofs.Math.Dec.{eqb}
use Rattle.encoding.specs.Result.{ok, Parser, pick, pure, fail, must, mapc, inside, first_of, same_bytes}
use Rattle.encoding.proofs.ResultLaws.{ok≢bad, some≢none, both_true, both_false, either_false, same_bytes_ok, same_bytes_same, bind_step, bind_written, pure_ok, must_step, mapc_ok, mapc_step, inside_ok, inside_step, first_of_ok}
use Rattle.encoding.specs.Utf8.{Utf8}
use Rattle.encoding.specs.Number.{Bytes, Short, byte, declared, le_bytes, size_bytes, string, string_bytes}
use Rattle.encoding.proofs.NumberLaws.{bytes_end, bytes_take, bytes_drop, byte_written, byte_canonical, length_le_bytes, declared_written, declared_canonical, content_ok, content_step, string_written, string_canonical}
use Rattle.encoding.specs.Table.{types, kind, is_record, name_of, named, base, upward, chain, any, fine, faults}
use Rattle.encoding.proofs.RuleLaws.{AboveRecord, base_record, named_ok, name_text, chain_node}
use Rattle.encoding.specs.Optional.{Piece}
use Rattle.encoding.specs.Slice.{Format, compact, sliced, is_sliced, Slice, known, passed, bit, format_of_flags, Stand, first, later, mixed, due, flag_form, Head, head, fields, known_data, wrong_last, Stage, seek, follow, stand_of, finished, Meaning, skip, row, wrong, known_meaning, seek_meaning, meaning, is_none, id_form, meaning_form, enter_slice, slice, Chain, ahead, walk, slices, any_optional, worth, has_optionals, id_of, data_bytes, flag_bits, slice_front, is_last}
use Rattle.encoding.specs.Message.{Encoding, v11, slices_bytes}
use Rattle.encoding.proofs.SliceLaws.{walk_ended, walk_on}
use Rattle.encoding.proofs.WalkLaws
use Rattle.encoding.proofs.WalkLaws.{Heads, head_ok, heads_later, Sliced, slice_ok, slice_step, Walk, walk_of}
use Rattle.encoding.specs.Grammar.{InString}
use Rattle.encoding.specs.Conform.{Owned, Follow, Passed, Slices}
use Rattle.laws.proofs.OptionalExact.{fields_written, fields_canonical}

-- ---- flags

-- a slice after another has its format
abbrev pub Agrees : Stand → Format → Type 0
Agrees first g = Unit {0}
Agrees (later h) g = h ≡ g

-- a flags byte that is right there, and its bits
abbrev Flags : Stand → Format → Bool → Bool → ℕ → Type 0
Flags s g opt last f = (flag_form s f ≡ 0) × (format_of_flags f ≡ g) × (bit f 4 ≡ opt) × (bit f 32 ≡ last)

flags_written : (s : Stand) (g : Format) (opt last : Bool) → Agrees s g → Flags s g opt last (flag_bits g (due s g) opt last)
unfolding flag_form flag_bits due mixed first_of
flags_written first compact true true a = (refl, refl, refl, refl)
flags_written first compact true false a = (refl, refl, refl, refl)
flags_written first compact false true a = (refl, refl, refl, refl)
flags_written first compact false false a = (refl, refl, refl, refl)
flags_written first sliced true true a = (refl, refl, refl, refl)
flags_written first sliced true false a = (refl, refl, refl, refl)
flags_written first sliced false true a = (refl, refl, refl, refl)
flags_written first sliced false false a = (refl, refl, refl, refl)
flags_written (later h) g opt last a = subst (λ (h : Format). Flags (later h) g opt last (flag_bits g (due (later h) g) opt last)) (sym a) (go g opt last)
  where
    go : (g : Format) (opt last : Bool) → Flags (later g) g opt last (flag_bits g (due (later g) g) opt last)
    go compact true true = (refl, refl, refl, refl)
    go compact true false = (refl, refl, refl, refl)
    go compact false true = (refl, refl, refl, refl)
    go compact false false = (refl, refl, refl, refl)
    go sliced true true = (refl, refl, refl, refl)
    go sliced true false = (refl, refl, refl, refl)
    go sliced false true = (refl, refl, refl, refl)
    go sliced false false = (refl, refl, refl, refl)

-- the bits of a number below 64, bit 3 not set
bits_of : (x : ℕ) → x < 64 → x / 8 % 2 ≡ 0 → x ≡ x % 4 + 4 * (x / 4 % 2) + 16 * (x / 16 % 2) + 32 * (x / 32 % 2)
bits_of x l e =
    go x (x / 4) (x / 8) (x / 16) (x / 32) (x / 64) (x % 4) (x / 4 % 2) (x / 8 % 2) (x / 16 % 2) (x / 32 % 2) (omega arith) (half x 4) (half x 8) (half x 16) (half x 32) (omega arith) e
  where
    half : (x k : ℕ) → x / k ≡ 2 * (x / (k * 2)) + x / k % 2
    half x k = sym (div-add-mod (x / k) 2) ∙ ap (λ (z : ℕ). 2 * z + x / k % 2) (div-div-eq-div-mul x k 2)

    go : (x a b c d e r p q s t : ℕ) → x ≡ 4 * a + r → a ≡ 2 * b + p → b ≡ 2 * c + q → c ≡ 2 * d + s → d ≡ 2 * e + t → e ≡ 0 → q ≡ 0 → x ≡ r + 4 * p + 16 * s + 32 * t
    go x a b c d e r p q s t h₁ h₂ h₃ h₄ h₅ h₆ h₇ = omega arith

-- a bit by its test
bit_worth : (n w : ℕ) → n < 2 → w * n ≡ worth (eqb n 1) w
bit_worth zero w h = omega arith
bit_worth (suc zero) w h = omega arith
bit_worth (suc (suc n)) w h = absurd (omega arith)

format_bit : (q : Bool) → is_sliced (pick q sliced compact) ≡ q
format_bit true = refl
format_bit false = refl

-- the ID form is 1 where an ID is due, else 0
id_worth : (q : Bool) (n : ℕ) → beq q (eqb n 0) ≡ false → n ≤ 1 → n ≡ worth q 1
id_worth true zero h l = absurd (true≢false h)
id_worth true (suc zero) h l = refl
id_worth false zero h l = refl
id_worth false (suc zero) h l = absurd (true≢false h)
id_worth q (suc (suc n)) h l = absurd (omega arith)

flags_canonical : (s : Stand) (f : ℕ) → flag_form s f ≡ 0 → f ≡ flag_bits (format_of_flags f) (due s (format_of_flags f)) (bit f 4) (bit f 32)
unfolding flag_form flag_bits
flags_canonical s f h =
    let a = first_of_ok 13 (ltb 63 f) _ h in
    let b = first_of_ok 13 (mixed s f) _ a.1 in
    let c = first_of_ok 13 (beq (due s (format_of_flags f)) (eqb (f % 4) 0)) _ b.1 in
    let d = first_of_ok 12 (bit f 8) _ c.1 in
    let e = first_of_ok 12 (ltb 1 (f % 4)) _ d.1 in
    let id : f % 4 ≡ worth (due s (format_of_flags f)) 1 = id_worth (due s (format_of_flags f)) (f % 4) c.0 (ltb-false 1 (f % 4) e.0) in
    let opt : 4 * (f / 4 % 2) ≡ worth (bit f 4) 4 = bit_worth (f / 4 % 2) 4 (omega arith) in
    let fmt : 16 * (f / 16 % 2) ≡ worth (is_sliced (format_of_flags f)) 16 = bit_worth (f / 16 % 2) 16 (omega arith) ∙ ap (λ (q : Bool). worth q 16) (sym (format_bit (bit f 16))) in
    let last : 32 * (f / 32 % 2) ≡ worth (bit f 32) 32 = bit_worth (f / 32 % 2) 32 (omega arith) in
    let three : f / 8 % 2 ≡ 0 = zero_bit (f / 8 % 2) (omega arith) (eqb-false (f / 8 % 2) 1 d.0) in
    bits_of f (omega (arith, ltb-false 63 f a.0)) three ∙ ap₂ ◌+◌ (ap₂ ◌+◌ (ap₂ ◌+◌ id opt) fmt) last
  where
    zero_bit : (n : ℕ) → n < 2 → (n ≡ 1 → ⊥) → n ≡ 0
    zero_bit zero h k = refl
    zero_bit (suc zero) h k = absurd (k refl)
    zero_bit (suc (suc n)) h k = absurd (omega arith)

-- ---- flags and type ID

-- what comes before a slice's size and data
abbrev front : Format → Stand → Bool → Bool → List ℕ → List ℕ
front g s opt last nm = flag_bits g (due s g) opt last ∷ pick (due s g) (string_bytes nm) []

abbrev head_of : Format → Bool → Bool → List ℕ → Head
head_of g opt last nm = record { format = g; optionals = opt; last = last; id = nm }

-- a type ID where one is due
abbrev pub Given : Bool → (List ℕ → ℕ) → List ℕ → Type 0
Given true form nm = InString nm × (form nm ≡ 0)
Given false form nm = Unit {0}

module _ (s : Stand) (form : Format → List ℕ → ℕ) where
  -- after the flags
  abbrev id_p : Format → Bool → Bool → Parser Head
  id_p g opt last = mapc (λ nm _. head_of g opt last nm) (pick (due s g) (must (form g) string) (pure []))

  id_written : (q : Bool) (g : Format) (nm r : List ℕ) → Given q (form g) nm → pick q (must (form g) string) (pure []) (pick q (string_bytes nm) [] ++ r) ≡ ok (pick q nm []) (length (pick q (string_bytes nm) []))
  unfolding pure
  id_written true g nm r G = must_step string (string_bytes nm ++ r) (form g) (string_written nm r (content_step nm G.0.is_text) G.0.length_short) G.1
  id_written false g nm r G = refl

  pub head_written : (g : Format) (opt last : Bool) (nm r : List ℕ) → Agrees s g → Given (due s g) (form g) nm
      → head s form (front g s opt last nm ++ r) ≡ ok (head_of g opt last (pick (due s g) nm [])) (length (front g s opt last nm))
  unfolding head
  head_written g opt last nm r a G =
      let f : ℕ = flag_bits g (due s g) opt last in
      let w : List ℕ = pick (due s g) (string_bytes nm) [] in
      let F : Flags s g opt last f = flags_written s g opt last a in
      let next : id_p (format_of_flags f) (bit f 4) (bit f 32) (w ++ r) ≡ ok (head_of g opt last (pick (due s g) nm [])) (length w) =
      ap (λ (g : Format). id_p g (bit f 4) (bit f 32) (w ++ r)) F.1 ∙ ap₂ (λ (o l : Bool). id_p g o l (w ++ r)) F.2 F.3
      ∙ mapc_step (pick (due s g) (must (form g) string) (pure [])) (w ++ r) (λ nm _. head_of g opt last nm) (id_written (due s g) g nm r G) in
      bind_step (must (flag_form s) byte) (λ f. id_p (format_of_flags f) (bit f 4) (bit f 32)) (f ∷ (w ++ r)) (must_step byte (f ∷ (w ++ r)) (flag_form s) (byte_written f (w ++ r)) F.0) next
      ∙ ap (ok (head_of g opt last (pick (due s g) nm []))) (omega arith)

  pub record Fronted (h : Head) (z : List ℕ) : Type 0 where
    pub spelt : z ≡ front h.format s h.optionals h.last h.id
    pub agrees : Agrees s h.format
    pub given : Given (due s h.format) (form h.format) h.id

  id_canonical : (q : Bool) (g : Format) (xs : List ℕ) → Bytes xs → {nm : List ℕ} {n : ℕ} → pick q string (pure []) xs ≡ ok nm n → (q ≡ true → form g nm ≡ 0)
      → (take n xs ≡ pick q (string_bytes nm) []) × Given q (form g) nm
  id_canonical true g xs y {nm} h j = let S = string_canonical xs y h in (S.0, (record { length_short = S.2; is_text = content_ok nm S.1 }, j refl))
  id_canonical false g xs y h j = (ap (λ (i : ℕ). take i xs) (pure_ok [] xs h).1, tt)

  pub head_canonical : (xs : List ℕ) → Bytes xs → {h : Head} {n : ℕ} → head s form xs ≡ ok h n → Fronted h (take n xs)
  unfolding WalkLaws.head_of
  head_canonical xs y {h} {n} e = let H = head_ok s form xs h n e in go H.0 H.1
    where
      agrees : (s : Stand) → Heads s xs h n → Agrees s h.format
      agrees first H = tt
      agrees (later g) H = sym (heads_later g xs h n H)

      go : Heads s xs h n → (due s h.format ≡ true → form h.format h.id ≡ 0) → Fronted h (take n xs)
      go H j =
          let f : ℕ = H.flags in
          let I = id_canonical (due s h.format) h.format (drop 1 xs) (bytes_drop 1 xs y) H.id_read_lem j in
          record {
            spelt = ap (λ (i : ℕ). take i xs) H.sum ∙ take-add 1 H.id_bytes xs ∙ ap₂ ◌++◌ ((byte_canonical xs H.read).0 ∙ ap (λ (b : ℕ). b ∷ []) (flags_canonical s f H.form)) I.0
                ∙ ap (λ (k : Head). flag_bits k.format (due s k.format) k.optionals k.last ∷ pick (due s h.format) (string_bytes h.id) []) (sym H.is);
            agrees = agrees s H;
            given = I.1;
          }

-- ---- size and data

-- data after its size, where the format has one
abbrev sized : Format → List ℕ → List ℕ
sized g d = pick (is_sliced g) (le_bytes 4 (4 + length d)) [] ++ d

slice_bytes : (g : Format) (s : Stand) (last : Bool) (sl : Slice) → slice_front g s last sl ++ data_bytes sl ≡ front g s (has_optionals sl) last (id_of sl) ++ sized g (data_bytes sl)
unfolding slice_front
slice_bytes g s last sl =
    ap (λ (z : List ℕ). flag_bits g (due s g) (has_optionals sl) last ∷ z)
    (append_assoc (pick (due s g) (string_bytes (id_of sl)) []) (pick (is_sliced g) (le_bytes 4 (4 + length (data_bytes sl))) []) (data_bytes sl))

module _ (T : List ℕ) (t : ℕ) where
  abbrev data_p : Format → Bool → Parser (List Piece)
  data_p g opt = pick (is_sliced g) (inside (declared 4 4) (fields T t opt)) (fields T t opt)

  module _ (right : faults T ≡ fine) where
    pub data_canonical : (o : List ℕ) (g : Format) (opt : Bool) (xs : List ℕ) → Bytes xs → Short (length xs) → {ps : List Piece} {n : ℕ} → data_p g opt xs ≡ ok ps n
        → Owned T t ps × (any_optional ps ≡ opt) × (take n xs ≡ sized g (data_bytes (known o ps)))
    data_canonical o compact opt xs y sh h = fields_canonical T right t o opt xs y sh h
    data_canonical o sliced opt xs y sh {ps} {n} h =
        let E = inside_ok (declared 4 4) (fields T t opt) xs h in
        let D = declared_canonical 4 4 xs y (omega arith) E.outer in
        let F = fields_canonical T right t o opt E.part (bytes_end (le_bytes 4 (4 + length E.part)) E.part (subst Bytes D.0 (bytes_take n xs y))) (omega (arith, D.2)) E.inner in
        (F.0, F.1, D.0 ∙ ap (sized sliced) (sym (take-length E.part) ∙ F.2))

    pub data_written : (o : List ℕ) (g : Format) (ps : List Piece) (r : List ℕ) → Owned T t ps → Short (length (sized g (data_bytes (known o ps))))
        → data_p g (any_optional ps) (sized g (data_bytes (known o ps)) ++ r) ≡ ok ps (length (sized g (data_bytes (known o ps))))
    data_written o compact ps r L sh = fields_written T right t o ps L r
    data_written o sliced ps r L sh =
        let d : List ℕ = data_bytes (known o ps) in
        let l : length (sized sliced d) ≡ 4 + length d = omega (arith, length-append (le_bytes 4 (4 + length d)) d, length_le_bytes 4 (4 + length d)) in
        inside_step (declared 4 4) (fields T t (any_optional ps)) (le_bytes 4 (4 + length d) ++ d ++ r)
        (declared_written 4 4 d r (omega arith) (omega arith) (omega arith) ∙ ap (ok d) (sym l))
        (rw append-nil at (fields_written T right t o ps L []))

-- ---- what one turn of the walk takes

-- a slice of a known row
pub record Knows (T : List ℕ) (t : ℕ) (g : Format) (s : Stand) (o : List ℕ) (ps : List Piece) (z : List ℕ) (next : Stage) : Type 0 where
  pub owner : o ≡ name_of T t
  pub owned : Owned T t ps
  pub spelt : z ≡ slice_front g s (eqb (base T t) 0) (known o ps) ++ data_bytes (known o ps)
  pub behind : next ≡ follow g (base T t)

-- the first one
pub record Finds (T : List ℕ) (top : ℕ) (s : Stand) (o : List ℕ) (ps : List Piece) (z : List ℕ) (next : Stage) : Type 0 where
  pub row : ℕ
  pub format : Format
  pub agrees : Agrees s format
  pub found : named T o ≡ some row
  pub descends : any (λ r. eqb r top) (chain T row) ≡ true
  pub knows : Knows T row format s o ps z next

-- a skipped one
pub record Skips (T : List ℕ) (s : Stand) (b : Bool) (nm d z : List ℕ) (next : Stage) : Type 0 where
  pub agrees : Agrees s sliced
  pub unknown : Passed T (v11 sliced) b nm d
  pub spelt : z ≡ slice_front sliced s false (passed b nm d) ++ data_bytes (passed b nm d)
  pub behind : next ≡ seek (later sliced)

abbrev pub Taken : List ℕ → ℕ → List ℕ → Stage → Slice → Stage → Type 0
Taken T top z (seek s) (known o ps) next = Finds T top s o ps z next
Taken T top z (seek s) (passed b nm d) next = Skips T s b nm d z next
Taken T top z (follow g zero) sl next = ⊥
Taken T top z (follow g (suc t)) (known o ps) next = Knows T t g (later g) o ps z next
Taken T top z (follow g (suc t)) (passed b nm d) next = ⊥

-- the stages that a walk reaches: after a skipped slice the format is sliced, above a known one is a record or nothing
abbrev pub Ready : List ℕ → Stage → Type 0
Ready T (seek first) = Unit {0}
Ready T (seek (later compact)) = ⊥
Ready T (seek (later sliced)) = Unit {0}
Ready T (follow g b) = AboveRecord T b

taken_ready : (T : List ℕ) → faults T ≡ fine → (top : ℕ) (z : List ℕ) (st : Stage) (sl : Slice) (next : Stage) → Ready T st → Taken T top z st sl next → Ready T next
taken_ready T right top z (seek s) (known o ps) next R K =
    let n = named_ok T o K.row K.found in
    subst (Ready T) (sym K.knows.behind) (base_record T right K.row (n.0, n.1) _ refl).1
taken_ready T right top z (seek s) (passed b nm d) next R K = subst (Ready T) (sym K.behind) tt
taken_ready T right top z (follow g zero) sl next R K = absurd K
taken_ready T right top z (follow g (suc t)) (known o ps) next R K = subst (Ready T) (sym K.behind) (base_record T right t R _ refl).1
taken_ready T right top z (follow g (suc t)) (passed b nm d) next R K = absurd K

ready_due : (T : List ℕ) (s : Stand) (g : Format) → Ready T (seek s) → Agrees s g → due s g ≡ true
unfolding due
ready_due T first g R a = refl
ready_due T (later compact) g R a = absurd R
ready_due T (later sliced) g R a = ap is_sliced (sym a)

-- ---- one slice, as read

not_same : (a b : Bool) → not (beq a b) ≡ false → a ≡ b
not_same true true h = refl
not_same true false h = absurd (true≢false h)
not_same false true h = absurd (true≢false h)
not_same false false h = refl

id_same : (q : Bool) (a b : List ℕ) → (q ≡ true → a ≡ b) → pick q (string_bytes a) [] ≡ pick q (string_bytes b) []
id_same true a b h = ap string_bytes (h refl)
id_same false a b h = refl

module _ (T : List ℕ) (right : faults T ≡ fine) (top : ℕ) (xs : List ℕ) (y : Bytes xs) (sh : Short (length xs)) where
  enter_wrong : (h : Head) (c : ℕ) (ys : List ℕ) {r : Slice × Stage} {m : ℕ} → enter_slice T h (wrong c) ys ≡ ok r m → ⊥
  unfolding enter_slice fail
  enter_wrong h c ys e = ok≢bad e refl

  -- a known row: its head is that of the row
  row_canonical : (s : Stand) (form : Format → List ℕ → ℕ) (h : Head) (k m t : ℕ) (r : Slice × Stage) → Fronted s form h (take k xs) → (due s h.format ≡ true → h.id ≡ name_of T t)
      → h.last ≡ eqb (base T t) 0 → enter_slice T h (row t) (drop k xs) ≡ ok r m
      → (ps : List Piece) × (r ≡ (known (name_of T t) ps, follow h.format (base T t)))
      × Knows T t h.format s (name_of T t) ps (take k xs ++ take m (drop k xs)) (follow h.format (base T t))
  unfolding enter_slice known_data has_optionals id_of
  row_canonical s form h k m t r F id last e =
      let M = mapc_ok (known_data T t h) (drop k xs) (λ s _. (s, follow h.format (base T t))) e in
      let N = mapc_ok (data_p T t h.format h.optionals) (drop k xs) (λ ps _. known (name_of T t) ps) M.1 in
      let D = data_canonical T t right (name_of T t) h.format h.optionals (drop k xs) (bytes_drop k xs y) (omega (arith, length-drop k xs)) N.1 in
      let ps : List Piece = N.0 in
      let g : Format = h.format in (
        ps,
        M.2 ∙ ap (λ (s : Slice). (s, follow g (base T t))) N.2,
        record {
          owner = refl;
          owned = D.0;
          spelt = ap₂ ◌++◌ (F.spelt ∙ ap₂ (λ (o l : Bool). front g s o l h.id) (sym D.1) last ∙ ap (λ (w : List ℕ). flag_bits g (due s g) (any_optional ps) (eqb (base T t) 0) ∷ w) (id_same (due s g) h.id (name_of T t) id)) D.2
              ∙ sym (slice_bytes g s (eqb (base T t) 0) (known (name_of T t) ps));
          behind = refl;
        },
      )

  -- an unknown type ID is in sliced format
  passed_format : (s : Stand) (g : Format) (nm : List ℕ) → Ready T (seek s) → Agrees s g → Given (due s g) (id_form T (seek s) g) nm → named T nm ≡ none → g ≡ sliced
  unfolding id_form is_none
  passed_format s g nm R a G e = go s R a (subst (λ (q : Bool). Given q (id_form T (seek s) g) nm) (ready_due T s g R a) G).1
    where
      form : (g : Format) (q : Bool) → q ≡ true → ◌≡◌ {A = ℕ} (pick (not (is_sliced g) && q) 15 0) 0 → g ≡ sliced
      form compact true e h = absurd (omega arith)
      form compact false e h = absurd (false≢true e)
      form sliced q e h = refl

      go : (s : Stand) → Ready T (seek s) → Agrees s g → ◌≡◌ {A = ℕ} (pick (not (is_sliced g) && is_none (named T nm)) 15 0) 0 → g ≡ sliced
      go first R a h = form g (is_none (named T nm)) (ap is_none e) h
      go (later compact) R a h = absurd R
      go (later sliced) R a h = sym a

  skip_canonical : (s : Stand) (h : Head) (k m : ℕ) (r : Slice × Stage) → Ready T (seek s) → Fronted s (id_form T (seek s)) h (take k xs) → named T h.id ≡ none → h.last ≡ false
      → enter_slice T h skip (drop k xs) ≡ ok r m → Taken T top (take k xs ++ take m (drop k xs)) (seek s) r.0 r.1
  unfolding enter_slice has_optionals id_of data_bytes
  skip_canonical s h k m r R F e last j =
      let M = mapc_ok (declared 4 4) (drop k xs) (λ d _. (passed h.optionals h.id d, seek (later sliced))) j in
      let D = declared_canonical 4 4 (drop k xs) (bytes_drop k xs y) (omega arith) M.1 in
      let fm : h.format ≡ sliced = passed_format s h.format h.id R F.agrees F.given e in
      let G = subst (λ (q : Bool). Given q (id_form T (seek s) h.format) h.id) (ready_due T s h.format R F.agrees) F.given in
      subst (λ (r : Slice × Stage). Taken T top (take k xs ++ take m (drop k xs)) (seek s) r.0 r.1) (sym M.2) (record {
        agrees = subst (Agrees s) fm F.agrees;
        unknown = record { format = refl; unknown = e; id = G.0; data_short = omega (arith, D.2) };
        spelt = ap₂ ◌++◌ (F.spelt ∙ ap (λ (g : Format). front g s h.optionals h.last h.id) fm ∙ ap (λ (l : Bool). front sliced s h.optionals l h.id) last) D.0
            ∙ sym (slice_bytes sliced s false (passed h.optionals h.id M.0));
        behind = refl;
      })

  seek_canonical : (s : Stand) (h : Head) (k m : ℕ) (r : Slice × Stage) → Ready T (seek s) → Fronted s (id_form T (seek s)) h (take k xs) → (o : Option ℕ) → named T h.id ≡ o
      → enter_slice T h (seek_meaning T top h.last o) (drop k xs) ≡ ok r m → Taken T top (take k xs ++ take m (drop k xs)) (seek s) r.0 r.1
  unfolding seek_meaning known_meaning wrong_last
  seek_canonical s h k m r R F none e j = go h.last refl j
    where
      go : (q : Bool) → h.last ≡ q → enter_slice T h (pick q (wrong 16) skip) (drop k xs) ≡ ok r m → Taken T top (take k xs ++ take m (drop k xs)) (seek s) r.0 r.1
      go true q j = absurd (enter_wrong h 16 (drop k xs) j)
      go false q j = skip_canonical s h k m r R F e q j
  seek_canonical s h k m r R F (some t) e j = go (any (λ r. eqb r top) (chain T t) && not (not (beq h.last (eqb (base T t) 0)))) refl j
    where
      go : (q : Bool) → any (λ r. eqb r top) (chain T t) && not (not (beq h.last (eqb (base T t) 0))) ≡ q → enter_slice T h (pick q (row t) (wrong 17)) (drop k xs) ≡ ok r m
          → Taken T top (take k xs ++ take m (drop k xs)) (seek s) r.0 r.1
      go false q j = absurd (enter_wrong h 17 (drop k xs) j)
      go true q j =
          let B = both_true (any (λ r. eqb r top) (chain T t)) _ q in
          let last : h.last ≡ eqb (base T t) 0 = not_same h.last (eqb (base T t) 0) (not-true _ B.1) in
          let id : h.id ≡ name_of T t = (named_ok T h.id t e).2 in
          let K = row_canonical s (id_form T (seek s)) h k m t r F (λ _. id) last j in
          subst (λ (r : Slice × Stage). Taken T top (take k xs ++ take m (drop k xs)) (seek s) r.0 r.1) (sym K.1) (record {
            row = t;
            format = h.format;
            agrees = F.agrees;
            found = ap (named T) (sym id) ∙ e;
            descends = B.0;
            knows = K.2;
          })

  follow_canonical : (g : Format) (h : Head) (k m t : ℕ) (r : Slice × Stage) → Fronted (later g) (id_form T (follow g (suc t))) h (take k xs)
      → enter_slice T h (meaning T top (follow g (suc t)) h) (drop k xs) ≡ ok r m → Taken T top (take k xs ++ take m (drop k xs)) (follow g (suc t)) r.0 r.1
  unfolding meaning wrong_last due
  follow_canonical g h k m t r F j = go (is_sliced g && not (same_bytes h.id (name_of T t)) || not (beq h.last (eqb (base T t) 0))) refl j
    where
      same : is_sliced g && not (same_bytes h.id (name_of T t)) ≡ false → is_sliced g ≡ true → h.id ≡ name_of T t
      same e i = same_bytes_ok h.id (name_of T t) (not-false _ (both_false (is_sliced g) _ e i))

      go : (q : Bool) → is_sliced g && not (same_bytes h.id (name_of T t)) || not (beq h.last (eqb (base T t) 0)) ≡ q
          → enter_slice T h (pick q (wrong 17) (row t)) (drop k xs) ≡ ok r m → Taken T top (take k xs ++ take m (drop k xs)) (follow g (suc t)) r.0 r.1
      go true q j = absurd (enter_wrong h 17 (drop k xs) j)
      go false q j =
          let B = either_false (is_sliced g && not (same_bytes h.id (name_of T t))) _ q in
          let last : h.last ≡ eqb (base T t) 0 = not_same h.last (eqb (base T t) 0) B.1 in
          let K = row_canonical (later g) (id_form T (follow g (suc t))) h k m t r F (λ d. same B.0 (ap is_sliced F.agrees ∙ d)) last j in
          subst (λ (r : Slice × Stage). Taken T top (take k xs ++ take m (drop k xs)) (follow g (suc t)) r.0 r.1) (sym K.1)
          (subst (λ (f : Format). Knows T t f (later g) (name_of T t) K.0 (take k xs ++ take m (drop k xs)) (follow h.format (base T t))) (sym F.agrees) K.2)

  pub slice_canonical : (st : Stage) → Ready T st → {r : Slice × Stage} {n : ℕ} → slice T top st xs ≡ ok r n → Taken T top (take n xs) st r.0 r.1
  unfolding meaning stand_of
  slice_canonical st R {r} {n} e = top' (slice_ok T top st xs r n e)
    where
      go : (st : Stage) → Ready T st → (U : Sliced T top st xs r n) → Taken T top (take U.head_bytes xs ++ take U.data_size (drop U.head_bytes xs)) st r.0 r.1
      go (seek s) R U = seek_canonical s U.h U.head_bytes U.data_size r R (head_canonical s (id_form T (seek s)) xs y U.heads) (named T U.h.id) refl U.read
      go (follow g zero) R U = absurd (enter_wrong U.h 17 (drop U.head_bytes xs) U.read)
      go (follow g (suc t)) R U = follow_canonical g U.h U.head_bytes U.data_size t r (head_canonical (later g) (id_form T (follow g (suc t))) xs y U.heads) U.read

      top' : Sliced T top st xs r n → Taken T top (take n xs) st r.0 r.1
      top' U = subst (λ (z : List ℕ). Taken T top z st r.0 r.1) (sym (take-add U.head_bytes U.data_size xs) ∙ ap (λ (i : ℕ). take i xs) (sym U.sum)) (go st R U)

-- ---- one slice, as encoded

-- a type ID that is text, in bytes that an int can count, is one
given_short : (q : Bool) (form : List ℕ → ℕ) (nm w : List ℕ) (f : ℕ) → Utf8 nm → Short (length ((f ∷ pick q (string_bytes nm) []) ++ w)) → form nm ≡ 0 → Given q form nm
unfolding string_bytes
given_short true form nm w f u sh z =
    (record { length_short = omega (arith, length-append (size_bytes (length nm) ++ nm) w, length-append (size_bytes (length nm)) nm); is_text = u }, z)
given_short false form nm w f u sh z = tt

module _ (T : List ℕ) (top : ℕ) where
  -- a slice by the meaning of its head
  slice_front_lem : (st : Stage) (g : Format) (opt last : Bool) (nm v r : List ℕ) (a : Meaning) {res : Slice × Stage} → Agrees (stand_of st) g → Given (due (stand_of st) g) (id_form T st g) nm
      → meaning T top st (head_of g opt last (pick (due (stand_of st) g) nm [])) ≡ a → meaning_form a ≡ 0 → enter_slice T (head_of g opt last (pick (due (stand_of st) g) nm [])) a (v ++ r) ≡ ok res (length v)
      → slice T top st (front g (stand_of st) opt last nm ++ v ++ r) ≡ ok res (length (front g (stand_of st) opt last nm ++ v))
  slice_front_lem st g opt last nm v r a {res} A G e z j =
      let u : List ℕ = front g (stand_of st) opt last nm in
      let h : Head = head_of g opt last (pick (due (stand_of st) g) nm []) in
      let n : enter_slice T h a (drop (length u) (u ++ (v ++ r))) ≡ ok res (length v) = ap (enter_slice T h a) (drop_at u (v ++ r) (length u) refl) ∙ j in
      ap (slice T top st) (append_assoc u v r) ∙ slice_step T top st (u ++ (v ++ r)) h a res (length u) (length v) (head_written (stand_of st) (id_form T st) g opt last nm (v ++ r) A G) e z n
      ∙ ap (ok res) (sym (length-append u v))

  -- the data of a known row
  row_written : faults T ≡ fine → (t : ℕ) (g : Format) (s : Stand) (o i : List ℕ) (ps : List Piece) (z r : List ℕ) (next : Stage) (K : Knows T t g s o ps z next) → Short (length (sized g (data_bytes (known o ps))))
      → enter_slice T (head_of g (any_optional ps) (eqb (base T t) 0) i) (row t) (sized g (data_bytes (known o ps)) ++ r) ≡ ok (known o ps, next) (length (sized g (data_bytes (known o ps))))
  unfolding enter_slice known_data
  row_written right t g s o i ps z r next K sh =
      let d : List ℕ = sized g (data_bytes (known o ps)) in
      mapc_step _ (d ++ r) (λ s _. (s, follow g (base T t))) (mapc_step (data_p T t g (any_optional ps)) (d ++ r) (λ ps _. known (name_of T t) ps) (data_written T t right o g ps r K.owned sh))
      ∙ ap₂ (λ (o : List ℕ) (st : Stage). ok (known o ps, st) (length d)) (sym K.owner) (sym K.behind)

  knows_written : faults T ≡ fine → (st : Stage) (t : ℕ) (g : Format) (o : List ℕ) (ps : List Piece) (z r : List ℕ) (next : Stage) → t < types T → is_record (kind T t) ≡ true → Knows T t g (stand_of st) o ps z next → Agrees (stand_of st) g → Short (length z)
      → id_form T st g o ≡ 0 → meaning T top st (head_of g (any_optional ps) (eqb (base T t) 0) (pick (due (stand_of st) g) o [])) ≡ row t
      → slice T top st (z ++ r) ≡ ok (known o ps, next) (length z)
  unfolding has_optionals id_of meaning_form
  knows_written right st t g o ps z r next l q K A sh i e =
      let s : Stand = stand_of st in
      let last : Bool = eqb (base T t) 0 in
      let v : List ℕ = sized g (data_bytes (known o ps)) in
      let u : List ℕ = front g s (any_optional ps) last o in
      let es : z ≡ u ++ v = K.spelt ∙ slice_bytes g s last (known o ps) in
      let sh' : Short (length (u ++ v)) = subst (λ (z : List ℕ). Short (length z)) es sh in
      let G = given_short (due s g) (id_form T st g) o v (flag_bits g (due s g) (any_optional ps) last) (subst Utf8 (sym K.owner) (name_text T right t l q)) sh' i in
      let R = slice_front_lem st g (any_optional ps) last o v r (row t) A G e refl (row_written right t g s o (pick (due s g) o []) ps z r next K (omega (arith, length-append u v))) in
      subst (λ (z : List ℕ). slice T top st (z ++ r) ≡ ok (known o ps, next) (length z)) (sym es) R

  same_last : (q : Bool) → not (beq q q) ≡ false
  same_last true = refl
  same_last false = refl

  -- what the head of a first known slice means, of a skipped one, and of one after a known one
  finds_meaning : (s : Stand) (g : Format) (t : ℕ) (o : List ℕ) (opt : Bool) → due s g ≡ true → named T o ≡ some t → any (λ r. eqb r top) (chain T t) ≡ true
      → meaning T top (seek s) (head_of g opt (eqb (base T t) 0) (pick (due s g) o [])) ≡ row t
  unfolding meaning seek_meaning known_meaning wrong_last
  finds_meaning s g t o opt d e a = rw (d, e, a, same_last (eqb (base T t) 0))

  skips_meaning : (s : Stand) (g : Format) (nm : List ℕ) (opt : Bool) → due s g ≡ true → named T nm ≡ none → meaning T top (seek s) (head_of g opt false (pick (due s g) nm [])) ≡ skip
  unfolding meaning seek_meaning
  skips_meaning s g nm opt d e = rw (d, e)

  follow_meaning : (g : Format) (t : ℕ) (o : List ℕ) (opt : Bool) → o ≡ name_of T t → meaning T top (follow g (suc t)) (head_of g opt (eqb (base T t) 0) (pick (due (later g) g) o [])) ≡ row t
  unfolding meaning wrong_last due
  follow_meaning compact t o opt e = rw (same_last (eqb (base T t) 0))
  follow_meaning sliced t o opt e = rw (same_bytes_same o (name_of T t) e, same_last (eqb (base T t) 0))

  found_form : (s : Stand) (g : Format) (o : List ℕ) (t : ℕ) → named T o ≡ some t → id_form T (seek s) g o ≡ 0
  unfolding id_form is_none
  found_form s compact o t e = rw e
  found_form s sliced o t e = refl

  due_sliced : (s : Stand) → due s sliced ≡ true
  unfolding due
  due_sliced first = refl
  due_sliced (later h) = refl

  skips_written : (s : Stand) (b : Bool) (nm d z r : List ℕ) (next : Stage) → Skips T s b nm d z next → Short (length z) → slice T top (seek s) (z ++ r) ≡ ok (passed b nm d, next) (length z)
  unfolding stand_of id_form enter_slice meaning_form has_optionals id_of data_bytes
  skips_written s b nm d z r next K sh = subst (λ (z : List ℕ). slice T top (seek s) (z ++ r) ≡ ok (passed b nm d, next) (length z)) (sym es) all
    where
      v : List ℕ
      v = sized sliced d

      u : List ℕ
      u = front sliced s b false nm

      es : z ≡ u ++ v
      es = K.spelt ∙ slice_bytes sliced s false (passed b nm d)

      sh' : Short (length (u ++ v))
      sh' = subst (λ (z : List ℕ). Short (length z)) es sh

      l : length v ≡ 4 + length d
      l = omega (arith, length-append (le_bytes 4 (4 + length d)) d, length_le_bytes 4 (4 + length d))

      inner : declared 4 4 (v ++ r) ≡ ok d (length v)
      inner = declared_written 4 4 d r (omega arith) (omega arith) (omega (arith, l, sh', length-append u v)) ∙ ap (ok d) (sym l)

      entered : enter_slice T (head_of sliced b false (pick (due s sliced) nm [])) skip (v ++ r) ≡ ok (passed b nm d, next) (length v)
      entered =
          mapc_step (declared 4 4) (v ++ r) (λ d _. (passed b (pick (due s sliced) nm []) d, seek (later sliced))) inner
          ∙ ap₂ (λ (q : Bool) (st : Stage). ok (passed b (pick q nm []) d, st) (length v)) (due_sliced s) (sym K.behind)

      all : slice T top (seek s) (u ++ v ++ r) ≡ ok (passed b nm d, next) (length (u ++ v))
      all =
          slice_front_lem (seek s) sliced b false nm v r skip K.agrees (given_short (due s sliced) (id_form T (seek s) sliced) nm v (flag_bits sliced (due s sliced) b false) K.unknown.id.is_text sh' refl)
          (skips_meaning s sliced nm b (due_sliced s) K.unknown.unknown) refl entered

  pub slice_written : faults T ≡ fine → (st : Stage) (sl : Slice) (z r : List ℕ) (next : Stage) → Ready T st → Taken T top z st sl next → Short (length z) → slice T top st (z ++ r) ≡ ok (sl, next) (length z)
  unfolding stand_of id_form
  slice_written right (seek s) (known o ps) z r next R K sh =
      let n = named_ok T o K.row K.found in
      knows_written right (seek s) K.row K.format o ps z r next n.0 n.1 K.knows K.agrees sh (found_form s K.format o K.row K.found)
      (finds_meaning s K.format K.row o (any_optional ps) (ready_due T s K.format R K.agrees) K.found K.descends)
  slice_written right (seek s) (passed b nm d) z r next R K sh = skips_written s b nm d z r next K sh
  slice_written right (follow g zero) sl z r next R K sh = absurd K
  slice_written right (follow g (suc t)) (known o ps) z r next R K sh =
      knows_written right (follow g (suc t)) t g o ps z r next R.0 R.1 K refl sh refl (follow_meaning g t o (any_optional ps) K.owner)
  slice_written right (follow g (suc t)) (passed b nm d) z r next R K sh = absurd K

-- ---- the walk

-- the slices that are still to come, and their format
abbrev pub Fits : List ℕ → ℕ → Stage → Format → List Slice → Type 0
Fits T top (seek s) g ss = Agrees s g × Slices T top (v11 g) ss
Fits T top (follow h b) g ss = (h ≡ g) × Follow T (v11 g) (upward (chain T) b) ss

module _ (T : List ℕ) (top : ℕ) where
  slices_some : (e : Encoding) (ss : List Slice) → Slices T top e ss → is_last ss ≡ false
  unfolding is_last
  slices_some e [] S = absurd S
  slices_some e (s ∷ ss) S = refl

  -- bit 5 is set exactly on the row without a base
  follow_last : (e : Encoding) (b : ℕ) (ss : List Slice) → Follow T e (upward (chain T) b) ss → is_last ss ≡ eqb b 0
  unfolding is_last upward
  follow_last e zero [] L = refl
  follow_last e zero (s ∷ ss) L = absurd L
  follow_last e (suc r) [] L = absurd (subst (λ (l : List ℕ). Follow T e l []) (chain_node T r) L)
  follow_last e (suc r) (s ∷ ss) L = sym (ne_eqb (suc r) 0 (λ e. omega arith))

  knows_bytes : (t : ℕ) (h g : Format) (s : Stand) (o : List ℕ) (ps : List Piece) (z w : List ℕ) (next : Stage) (ss : List Slice) → Knows T t h s o ps z next → h ≡ g
      → Follow T (v11 g) (upward (chain T) (base T t)) ss → w ≡ slices_bytes (v11 g) (stand_of next) ss → z ++ w ≡ slices_bytes (v11 g) s (known o ps ∷ ss)
  unfolding slices_bytes stand_of
  knows_bytes t h g s o ps z w next ss K e L b =
      ap₂ ◌++◌ (K.spelt ∙ ap₂ (λ (f : Format) (l : Bool). slice_front f s l (known o ps) ++ data_bytes (known o ps)) e (sym (follow_last (v11 g) (base T t) ss L)))
      (b ∙ ap (λ (st : Stage). slices_bytes (v11 g) (stand_of st) ss) K.behind ∙ ap (λ (f : Format). slices_bytes (v11 g) (later f) ss) e)

  -- a slice before those that come after it
  fits_ahead : (st : Stage) (sl : Slice) (next : Stage) (g : Format) (ss : List Slice) (z w : List ℕ) → Taken T top z st sl next → Fits T top next g ss → w ≡ slices_bytes (v11 g) (stand_of next) ss
      → Fits T top st g (sl ∷ ss) × (z ++ w ≡ slices_bytes (v11 g) (stand_of st) (sl ∷ ss))
  unfolding slices_bytes stand_of upward
  fits_ahead (seek s) (known o ps) next g ss z w K F b =
      let F' = subst (λ (n : Stage). Fits T top n g ss) K.knows.behind F in (
        (
          subst (Agrees s) F'.0 K.agrees,
          record {
            row = K.row;
            known = K.found;
            descends = K.descends;
            follow = subst (λ (l : List ℕ). Follow T (v11 g) l (known o ps ∷ ss)) (sym (chain_node T K.row)) (K.knows.owner, K.knows.owned, F'.1);
          },
        ),
        knows_bytes K.row K.format g s o ps z w next ss K.knows F'.0 F'.1 b,
      )
  fits_ahead (seek s) (passed d nm x) next g ss z w K F b =
      let F' = subst (λ (n : Stage). Fits T top n g ss) K.behind F in (
        (subst (Agrees s) F'.0 K.agrees, (subst (λ (f : Format). Passed T (v11 f) d nm x) F'.0 K.unknown, F'.1)),
        ap₂ ◌++◌ (K.spelt ∙ ap₂ (λ (f : Format) (l : Bool). slice_front f s l (passed d nm x) ++ data_bytes (passed d nm x)) F'.0 (sym (slices_some (v11 g) ss F'.1)))
            (b ∙ ap (λ (st : Stage). slices_bytes (v11 g) (stand_of st) ss) K.behind ∙ ap (λ (f : Format). slices_bytes (v11 g) (later f) ss) F'.0),
      )
  fits_ahead (follow h zero) sl next g ss z w K F b = absurd K
  fits_ahead (follow h (suc t)) (known o ps) next g ss z w K F b =
      let F' = subst (λ (n : Stage). Fits T top n g ss) K.behind F in (
        (F'.0, subst (λ (l : List ℕ). Follow T (v11 g) l (known o ps ∷ ss)) (sym (chain_node T t)) (K.owner, K.owned, F'.1)),
        knows_bytes t h g (later h) o ps z w next ss K F'.0 F'.1 b,
      )
  fits_ahead (follow h (suc t)) (passed d nm x) next g ss z w K F b = absurd K

  fits_done : (st : Stage) (g : Format) → finished st ≡ some g → Fits T top st g []
  unfolding finished upward
  fits_done (seek s) g e = absurd (some≢none e refl)
  fits_done (follow h zero) g e = (cc, tt)
  fits_done (follow h (suc t)) g e = absurd (some≢none e refl)

  walked : faults T ≡ fine → {f : ℕ} {st : Stage} {xs : List ℕ} {c : Chain} {n : ℕ} → Walk T top f st xs c n → Ready T st → Bytes xs → Short (length xs)
      → Fits T top st c.format c.list × (take n xs ≡ slices_bytes (v11 c.format) (stand_of st) c.list)
  unfolding slices_bytes ahead
  walked right (WalkLaws.done {st = st} {g = g} e) R y sh = (fits_done st g e, refl)
  walked right (WalkLaws.next {st = st} {xs = xs} {sl = sl} {st' = st'} {k = k} {c = c} {m = m} d e w) R y sh =
      let K = slice_canonical T right top xs y sh st R e in
      let I = walked right w (taken_ready T right top (take k xs) st sl st' R K) (bytes_drop k xs y) (omega (arith, length-drop k xs)) in
      let A = fits_ahead st sl st' c.format c.list (take k xs) (take m (drop k xs)) K I.0 I.1 in
      (A.0, take-add k m xs ∙ A.1)

  pub walk_canonical : faults T ≡ fine → (f : ℕ) (st : Stage) → Ready T st → (xs : List ℕ) → Bytes xs → Short (length xs) → {c : Chain} {n : ℕ} → walk T top f st xs ≡ ok c n
      → Fits T top st c.format c.list × (take n xs ≡ slices_bytes (v11 c.format) (stand_of st) c.list)
  walk_canonical right f st R xs y sh h = walked right (walk_of T top f st xs h) R y sh

  pub slices_canonical : faults T ≡ fine → (xs : List ℕ) → Bytes xs → Short (length xs) → {c : Chain} {n : ℕ} → slices T top xs ≡ ok c n → Slices T top (v11 c.format) c.list × (take n xs ≡ slices_bytes (v11 c.format) first c.list)
  unfolding slices stand_of
  slices_canonical right xs y sh h = let W = walk_canonical right (length xs) (seek first) tt xs y sh h in (W.0.1, W.1)

  fits_end : (st : Stage) (g : Format) → Fits T top st g [] → finished st ≡ some g
  unfolding finished upward
  fits_end (seek s) g F = absurd F.1
  fits_end (follow h zero) g F = ap some F.0
  fits_end (follow h (suc t)) g F = absurd (subst (λ (l : List ℕ). Follow T (v11 g) l []) (chain_node T t) F.1)

  -- the next slice, and those after it
  record Next (st : Stage) (g : Format) (sl : Slice) (ss : List Slice) : Type 0 where
    next : Stage
    turn : finished st ≡ none
    taken : Taken T top (slice_front g (stand_of st) (is_last ss) sl ++ data_bytes sl) st sl next
    rest : Fits T top next g ss
    stands : stand_of next ≡ later g

  follow_next : (t : ℕ) (g : Format) (s : Stand) (o : List ℕ) (ps : List Piece) (ss : List Slice) → Follow T (v11 g) (chain T t) (known o ps ∷ ss)
      → Knows T t g s o ps (slice_front g s (is_last ss) (known o ps) ++ data_bytes (known o ps)) (follow g (base T t)) × Follow T (v11 g) (upward (chain T) (base T t)) ss
  follow_next t g s o ps ss L =
      let L' = subst (λ (l : List ℕ). Follow T (v11 g) l (known o ps ∷ ss)) (chain_node T t) L in (
        record {
          owner = L'.0;
          owned = L'.1;
          spelt = ap (λ (l : Bool). slice_front g s l (known o ps) ++ data_bytes (known o ps)) (follow_last (v11 g) (base T t) ss L'.2);
          behind = refl;
        },
        L'.2,
      )

  fits_next : (st : Stage) (g : Format) (sl : Slice) (ss : List Slice) → Fits T top st g (sl ∷ ss) → Next st g sl ss
  unfolding stand_of finished upward
  fits_next (seek s) g (known o ps) ss F =
      let K = follow_next F.1.row g s o ps ss F.1.follow in
      record {
        next = follow g (base T F.1.row);
        turn = refl;
        taken = record { row = F.1.row; format = g; agrees = F.0; found = F.1.known; descends = F.1.descends; knows = K.0 };
        rest = (refl, K.1);
        stands = refl;
      }
  fits_next (seek s) g (passed b nm d) ss F =
      let f : g ≡ sliced = F.1.0.format in
      record {
        next = seek (later sliced);
        turn = refl;
        taken = record {
          agrees = subst (Agrees s) f F.0;
          unknown = subst (λ (f : Format). Passed T (v11 f) b nm d) f F.1.0;
          spelt = ap₂ (λ (f : Format) (l : Bool). slice_front f s l (passed b nm d) ++ data_bytes (passed b nm d)) f (slices_some (v11 g) ss F.1.1);
          behind = refl;
        };
        rest = (sym f, F.1.1);
        stands = ap later (sym f);
      }
  fits_next (follow h zero) g sl ss F = absurd F.1
  fits_next (follow h (suc t)) g (known o ps) ss F =
      let K = follow_next t g (later h) o ps ss F.1 in
      record {
        next = follow g (base T t);
        turn = refl;
        taken = subst (λ (f : Format). Knows T t f (later h) o ps (slice_front g (later h) (is_last ss) (known o ps) ++ data_bytes (known o ps)) (follow g (base T t))) (sym F.0) K.0;
        rest = (refl, K.1);
        stands = refl;
      }
  fits_next (follow h (suc t)) g (passed b nm d) ss F = absurd (subst (λ (l : List ℕ). Follow T (v11 g) l (passed b nm d ∷ ss)) (chain_node T t) F.1)

  pub walk_written : faults T ≡ fine → (ss : List Slice) (f : ℕ) (st : Stage) (g : Format) (r : List ℕ) → Ready T st → Fits T top st g ss → length ss ≤ f → Short (length (slices_bytes (v11 g) (stand_of st) ss))
      → walk T top f st (slices_bytes (v11 g) (stand_of st) ss ++ r) ≡ ok (record { format = g; list = ss }) (length (slices_bytes (v11 g) (stand_of st) ss))
  unfolding slices_bytes ahead pure
  walk_written right [] f st g r R F l sh = ap (λ (p : Parser Chain). p r) (walk_ended T top f st (fits_end st g F))
  walk_written right (sl ∷ ss) zero st g r R F l sh = absurd (omega arith)
  walk_written right (sl ∷ ss) (suc f) st g r R F l sh = go (fits_next st g sl ss F) (λ (next : Stage) (R : Ready T next) (F : Fits T top next g ss) (sh : Short (length (slices_bytes (v11 g) (stand_of next) ss))). walk_written right ss f next g r R F (omega arith) sh)
    where
      z : List ℕ
      z = slice_front g (stand_of st) (is_last ss) sl ++ data_bytes sl

      w : List ℕ
      w = slices_bytes (v11 g) (later g) ss

      go : Next st g sl ss
          → ((next : Stage) → Ready T next → Fits T top next g ss → Short (length (slices_bytes (v11 g) (stand_of next) ss))
          → walk T top f next (slices_bytes (v11 g) (stand_of next) ss ++ r) ≡ ok (record { format = g; list = ss }) (length (slices_bytes (v11 g) (stand_of next) ss)))
          → walk T top (suc f) st (z ++ w ++ r) ≡ ok (record { format = g; list = sl ∷ ss }) (length (z ++ w))
      go N ih =
          let next : Stage = N.next in
          let s₁ : Short (length w) = omega (arith, length-append z w) in
          let s₂ : Short (length z) = omega (arith, length-append z w) in
          let I : walk T top f next (w ++ r) ≡ ok (record { format = g; list = ss }) (length w) =
          subst (λ (s : Stand). Short (length (slices_bytes (v11 g) s ss)) → walk T top f next (slices_bytes (v11 g) s ss ++ r) ≡ ok (record { format = g; list = ss }) (length (slices_bytes (v11 g) s ss))) N.stands
          (ih next (taken_ready T right top z st sl next R N.taken) N.rest) s₁ in
          ap (λ (p : Parser Chain). p (z ++ w ++ r)) (walk_on T top f st N.turn)
          ∙ bind_written (slice T top st) (λ (r : Slice × Stage). mapc (λ c _. ahead r.0 c) (walk T top f r.1)) z w r
          (slice_written T top right st sl z (w ++ r) next R N.taken s₂)
          (mapc_step (walk T top f next) (w ++ r) (λ c _. ahead sl c) I)

  -- each slice has its flags
  slices_count : (g : Format) (s : Stand) (ss : List Slice) → length ss ≤ length (slices_bytes (v11 g) s ss)
  unfolding slices_bytes slice_front
  slices_count g s [] = omega arith
  slices_count g s (sl ∷ ss) =
      let u : List ℕ = slice_front g s (is_last ss) sl ++ data_bytes sl in
      let one : 1 ≤ length u = omega arith in
      omega (arith, slices_count g (later g) ss, length-append u (slices_bytes (v11 g) (later g) ss))

  pub slices_written : faults T ≡ fine → (g : Format) (ss : List Slice) (r : List ℕ) → Slices T top (v11 g) ss → Short (length (slices_bytes (v11 g) first ss))
      → slices T top (slices_bytes (v11 g) first ss ++ r) ≡ ok (record { format = g; list = ss }) (length (slices_bytes (v11 g) first ss))
  unfolding slices stand_of
  slices_written right g ss r S sh =
      let w : List ℕ = slices_bytes (v11 g) first ss in
      walk_written right ss (length (w ++ r)) (seek first) g r tt (tt, S) (omega (arith, slices_count g first ss, length-append w r)) sh
