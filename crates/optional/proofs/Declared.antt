-- Declared bytes, by the bytes at the head, by type bits and by a form's number. Assumes nothing.
--
--   run_..                   F1, F2, F4, F8: so many bytes
--   size_..                  Size: the bytes of the size itself
--   declared_..              FSize: an int and that many bytes
--   extent_at, extent_past   by the type bits
--   whole_..                 all of them delivered
--   width_.., part_..        by a form's number
use mathlib.Core.Path.{◌≡◌, refl, sym, ap, ◌∙◌}
use mathlib.Core.List.{List, [], ◌∷◌}
use Prim.Native.Nat.{ℕ, zero, suc, ◌-◌, ◌≤◌, ◌<◌}
use native.Mathlib.Omega.{arith}
use lib.ListN.{length, take, get_or-eq_default}
use lib.Seq.{length-take-le}
use borrow.Author.Tests.{le-leb, lt-leb, le-ltb, ne_eqb}
use Rattle.encoding.specs.Result.{Res, ok, bad, Parser, fail, chunk, made, bytes}
use Rattle.encoding.proofs.ResultLaws.{Held, held_took}
use Rattle.encoding.specs.Number.{declared}
use Rattle.encoding.specs.Number
use Rattle.encoding.proofs.NumberLaws.{held_size}
use Rattle.encoding.specs.Types.{f1, f2, f4, f8, size, vsize, fsize, class, bits_at}
use Rattle.encoding.specs.Optional.{run, extent, part}
use Rattle.encoding.proofs.OptionalLaws.{held_extent}
use Rattle.encoding.proofs.WeightLaws.{declared_weight}
use Rattle.std.specs.Prelude.{Result, Ok, Err}
use Rattle.wire.specs.declared.Refusal.{Refusal}
use Rattle.wire.specs.declared.Counted.{Counted}
use Rattle.wire.specs.Steps.{step_of, sized_of, bytes_of, refused, counted}
use Rattle.wire.specs.StepLaws.{step_took, step_fault, sized_is, sized_isnt}
use Rattle.optional.specs.Forms.{form_named, run_width}
use Rattle.optional.specs.Answers.{whole_of}

-- ---- so many bytes

module _ (s : List ℕ) (k : ℕ) where
  pub run_cut : length s < k → refused 4 0 ≡ bytes_of (run k s)
  unfolding chunk bytes_of
  run_cut h = rw (lt-leb k (length s) h)

  pub run_whole : k ≤ length s → counted k k ≡ bytes_of (run k s)
  unfolding chunk bytes_of
  run_whole h = rw (le-leb k (length s) h, length-take-le k s h)

-- ---- sizes

module _ (s : List ℕ) (r : Result Counted Refusal) (e : r ≡ sized_of (Number.size s)) where
  pub size_whole : (x : Counted) → r ≡ Ok x → counted x.bytes x.bytes ≡ bytes_of (extent size s)
  unfolding extent bytes made bytes_of
  size_whole x q =
      let z = sized_is (Number.size s) x (sym q ∙ e) in
      rw (z, length-take-le x.bytes s (held_took Number.size held_size s z))

  pub size_bad : (x : Refusal) → r ≡ Err x → Err x ≡ bytes_of (extent size s)
  unfolding extent bytes made bytes_of
  size_bad x q = rw (sized_isnt (Number.size s) x (sym q ∙ e))

-- ---- an int that declares a length

module _ (s : List ℕ) (r : Result ℕ Refusal) (e : r ≡ step_of (declared 1 0 s)) where
  pub declared_bad : (x : Refusal) → r ≡ Err x → Err x ≡ bytes_of (extent fsize s)
  unfolding extent bytes_of
  declared_bad x q = rw (step_fault (declared 1 0 s) x (sym q ∙ e))

  pub declared_int : (n : ℕ) → r ≡ Ok n → 4 ≤ n
  declared_int n q = let D = step_took (declared 1 0 s) n (sym q ∙ e) in omega (arith, declared_weight 1 0 s D.1)

  pub declared_whole : (n : ℕ) → r ≡ Ok n → counted (n - 4) n ≡ bytes_of (extent fsize s)
  unfolding extent bytes_of
  declared_whole n q = go (step_took (declared 1 0 s) n (sym q ∙ e))
    where
      go : (d : List ℕ) × (declared 1 0 s ≡ ok d n) → counted (n - 4) n ≡ bytes_of (declared 1 0 s)
      go t = let z : n - 4 ≡ length t.0 = omega (arith, declared_weight 1 0 s t.1) in ap (λ (i : ℕ). counted i n) z ∙ sym (ap bytes_of t.1)

-- ---- by the type bits

-- type bits k are those of number j
pub extent_at : (j : ℕ) (s : List ℕ) (k : ℕ) (r : Result Counted Refusal) → k ≡ j → r ≡ bytes_of (extent (bits_at j) s) → r ≡ bytes_of (extent (bits_at k) s)
extent_at j s k r e h = rw e h

seven : (k : ℕ) → (k ≡ 0 → ⊥) → (k ≡ 1 → ⊥) → (k ≡ 2 → ⊥) → (k ≡ 3 → ⊥) → (k ≡ 4 → ⊥) → (k ≡ 5 → ⊥) → (k ≡ 6 → ⊥) → 7 ≤ k
seven zero a b c d e f g = absurd (a refl)
seven (suc zero) a b c d e f g = absurd (b refl)
seven (suc (suc zero)) a b c d e f g = absurd (c refl)
seven (suc (suc (suc zero))) a b c d e f g = absurd (d refl)
seven (suc (suc (suc (suc zero)))) a b c d e f g = absurd (e refl)
seven (suc (suc (suc (suc (suc zero))))) a b c d e f g = absurd (f refl)
seven (suc (suc (suc (suc (suc (suc zero)))))) a b c d e f g = absurd (g refl)
seven (suc (suc (suc (suc (suc (suc (suc k))))))) a b c d e f g = omega arith

pub extent_past : (s : List ℕ) (k : ℕ) → (k ≡ 0 → ⊥) → (k ≡ 1 → ⊥) → (k ≡ 2 → ⊥) → (k ≡ 3 → ⊥) → (k ≡ 4 → ⊥) → (k ≡ 5 → ⊥) → (k ≡ 6 → ⊥)
    → refused 13 0 ≡ bytes_of (extent (bits_at k) s)
unfolding extent fail bytes_of
extent_past s k a b c d e f g =
    rw (get_or-eq_default (f1 ∷ f2 ∷ f4 ∷ f8 ∷ size ∷ vsize ∷ fsize ∷ []) class {n = k} (seven k a b c d e f g))

-- ---- by a form's number

-- what a reader took, delivered whole
whole_is : (p : Parser (List ℕ)) → Held p → (s : List ℕ) → bytes_of (bytes p s) ≡ whole_of (bytes_of (p s))
unfolding bytes made bytes_of whole_of
whole_is p P s = go (p s) refl
  where
    go : (r : Res (List ℕ)) → p s ≡ r → bytes_of (made (λ _ n. take n s) r) ≡ whole_of (bytes_of r)
    go (ok d n) e = rw (length-take-le n s (held_took p P s e))
    go (bad c q) e = refl

pub whole_part : (p : Result Counted Refusal) (x : Counted) → p ≡ Ok x → counted x.bytes x.bytes ≡ whole_of p
unfolding whole_of
whole_part p x h = rw h

pub whole_none : (p : Result Counted Refusal) (x : Refusal) → p ≡ Err x → Err x ≡ whole_of p
unfolding whole_of
whole_none p x h = rw h

pub width_at : (n f : ℕ) → f ≡ n → run_width n ≡ run_width f
width_at n f e = ap run_width (sym e)

pub width_past : (f : ℕ) → (f ≡ 0 → ⊥) → (f ≡ 1 → ⊥) → (f ≡ 2 → ⊥) → 8 ≡ run_width f
unfolding run_width
width_past zero a b c = absurd (a refl)
width_past (suc zero) a b c = absurd (b refl)
width_past (suc (suc zero)) a b c = absurd (c refl)
width_past (suc (suc (suc f))) a b c = refl

module _ (s : List ℕ) (f : ℕ) (r : Result Counted Refusal) where
  pub part_run : f < 4 → (k : ℕ) → k ≡ run_width f → r ≡ bytes_of (run k s) → r ≡ bytes_of (part (form_named f) s)
  unfolding part form_named extent run_width
  part_run h k e q = go f h e
    where
      go : (f : ℕ) → f < 4 → k ≡ run_width f → r ≡ bytes_of (part (form_named f) s)
      go zero h e = rw e at q
      go (suc zero) h e = rw e at q
      go (suc (suc zero)) h e = rw e at q
      go (suc (suc (suc zero))) h e = rw e at q
      go (suc (suc (suc (suc f)))) h e = absurd (omega arith)

  pub part_size : f ≡ 4 → r ≡ bytes_of (extent size s) → r ≡ bytes_of (part (form_named f) s)
  unfolding part form_named
  part_size h e = rw h e

  pub part_own : f ≡ 8 → (w : Result Counted Refusal) → w ≡ bytes_of (extent vsize s) → r ≡ whole_of w → r ≡ bytes_of (part (form_named f) s)
  unfolding part form_named
  part_own h w e q = rw h (q ∙ ap whole_of e ∙ sym (whole_is (extent vsize) (held_extent vsize) s))

  pub part_counted : f ≡ 9 → r ≡ bytes_of (extent vsize s) → r ≡ bytes_of (part (form_named f) s)
  unfolding part form_named
  part_counted h e = rw h e

  pub part_sized : 4 ≤ f → (f ≡ 4 → ⊥) → (f ≡ 8 → ⊥) → (f ≡ 9 → ⊥) → r ≡ bytes_of (extent fsize s) → r ≡ bytes_of (part (form_named f) s)
  unfolding part form_named
  part_sized h z a b e = rw (le-ltb f 5 (omega (arith, z)), ne_eqb f 8 a, ne_eqb f 9 b) e
