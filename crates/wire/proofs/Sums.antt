-- Sums of places do not wrap: what a reader takes, and where it refuses, lies within what is left of the bytes given. Assumes nothing.
--
--   TookFits p, took_fits         what p takes, added to the n bytes before it
--   BadFits p, bad_fits           where p refuses, added to them
--   any_took_fits, any_bad_fits   the same of a family of readers
--   later_fits, any_later_fits    the answer moved by `later`
--   part_fits                     bytes that are there, added to the n bytes before them
use mathlib.Core.Path.{◌≡◌, refl}
use mathlib.Core.List.{List}
use Prim.Native.Nat.{ℕ, ◌+◌, ◌-◌, ◌^◌, ◌≤◌, ◌<◌}
use native.Mathlib.Omega.{arith}
use lib.ListN.{length, take, drop}
use mir.Syntax.{w64}
use mir.Val.{Fits}
use Rattle.encoding.specs.Result.{Parser}
use Rattle.encoding.proofs.ResultLaws.{Held}
use Rattle.std.specs.Prelude.{Result, Ok, Err}
use Rattle.wire.specs.declared.Refusal.{Refusal}
use Rattle.wire.specs.Steps.{step_of, LaterFits}
use Rattle.wire.specs.StepLaws.{took_within, bad_within}

-- what p takes of the rest, and the place where it refuses, added to the n bytes before it
abbrev pub TookFits : {A : Type 0} → Parser A → Type 0
TookFits p = (s : List ℕ) (n : ℕ) (r : Result ℕ Refusal) → r ≡ step_of (p (take (length s - n) (drop n s)))
    → (m : ℕ) → r ≡ Ok m → n ≤ length s → length s < 2 ^ 64 → Fits w64 (n + m)

abbrev pub BadFits : {A : Type 0} → Parser A → Type 0
BadFits p = (s : List ℕ) (n : ℕ) (r : Result ℕ Refusal) → r ≡ step_of (p (take (length s - n) (drop n s)))
    → (x : Refusal) → r ≡ Err x → n ≤ length s → length s < 2 ^ 64 → Fits w64 (n + x.place)

module _ {A : Type 0} (p : Parser A) (P : Held p) where
  pub took_fits : TookFits p
  took_fits s n r e m q h b = record { fits = omega (arith, took_within p P s n r e m q) }

  pub bad_fits : BadFits p
  bad_fits s n r e x q h b = record { fits = omega (arith, bad_within p P s n r e x q) }

-- the same of a family of readers
module _ {I A : Type 0} (p : I → Parser A) (P : (i : I) → Held (p i)) (i : I) where
  pub any_took_fits : TookFits (p i)
  any_took_fits = took_fits (p i) (P i)

  pub any_bad_fits : BadFits (p i)
  any_bad_fits = bad_fits (p i) (P i)

pub part_fits : (s : List ℕ) (n m : ℕ) → n ≤ length s → m ≤ length s - n → length s < 2 ^ 64 → Fits w64 (n + m)
part_fits s n m h l b = record { fits = omega arith }

-- an answer about the rest, moved past the n bytes before it
module _ {A : Type 0} (p : Parser A) (P : Held p) (s : List ℕ) (n : ℕ) (r : Result ℕ Refusal) (e : r ≡ step_of (p (take (length s - n) (drop n s)))) where
  pub later_fits : n ≤ length s → length s < 2 ^ 64 → LaterFits n r
  later_fits h b = go r refl
    where
      go : (t : Result ℕ Refusal) → r ≡ t → LaterFits n t
      go (Ok m) g = omega (arith, took_within p P s n r e m g)
      go (Err x) g = omega (arith, bad_within p P s n r e x g)

pub any_later_fits : {I A : Type 0} (p : I → Parser A) → ((i : I) → Held (p i)) → (i : I) (s : List ℕ) (n : ℕ) (r : Result ℕ Refusal)
    → r ≡ step_of (p i (take (length s - n) (drop n s))) → n ≤ length s → length s < 2 ^ 64 → LaterFits n r
any_later_fits p P i s n r e h b = later_fits (p i) (P i) s n r e h b
