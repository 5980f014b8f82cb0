-- A name is the part of the table from its start, as long as it lies within.
--
--   name_part     the name's bytes, as a part of the table
--   length_name   how many they are
use Rattle.std.specs.Prelude.{ℕ, zero, suc, ◌+◌, ◌-◌, min, ◌≡◌, Bool, List, [], ◌∷◌, length, drop}
use Rattle.std.proofs.Math.Path.{refl, sym, ap}
use Rattle.std.proofs.Common.{◌∙◌, arith, length-take, length-drop, drop_of_length-le, leb-false}
use Rattle.std.proofs.Math.Bool.{true, false}
use Rattle.std.proofs.Math.ListN.{take}
use Rattle.std.proofs.Math.Seq.{drop-length}
use Rattle.std.proofs.Math.Dec.{leb}
use Rattle.encoding.specs.Result.{pick}
use Rattle.encoding.specs.Table.{names_at, field, name_of}
use Rattle.table.specs.Names.{name_start}

take_own : (k : ℕ) (l : List ℕ) → take (length (take k l)) l ≡ take k l
take_own zero [] = refl
take_own zero (x ∷ l) = refl
take_own (suc k) [] = refl
take_own (suc k) (x ∷ l) = ap (λ (z : List ℕ). x ∷ z) (take_own k l)

module _ (T : List ℕ) (t : ℕ) where
  name_from : name_of T t ≡ take (field T t 4) (drop (name_start T t) T)
  unfolding name_of name_start
  name_from = go (leb (names_at T + field T t 3) (length T)) refl
    where
      go : (b : Bool) → leb (names_at T + field T t 3) (length T) ≡ b
          → take (field T t 4) (drop (names_at T + field T t 3) T) ≡ take (field T t 4) (drop (pick b (names_at T + field T t 3) (length T)) T)
      go true e = refl
      go false e = ap (take (field T t 4)) (drop_of_length-le T {i = names_at T + field T t 3} (omega (arith, leb-false)) ∙ sym (drop-length T))

  pub name_part : take (length (name_of T t)) (drop (name_start T t) T) ≡ name_of T t
  name_part = rw name_from (take_own (field T t 4) (drop (name_start T t) T))

  pub length_name : length (name_of T t) ≡ min (field T t 4) (length T - name_start T t)
  length_name = ap length name_from ∙ simp (length-take, length-drop)
