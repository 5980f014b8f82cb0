-- The type ID of an owner. Assumes nothing.
--
--   id_long    how many bytes the type ID takes
--   id_put     its size, and the name after it
use mathlib.Core.Path.{◌≡◌, sym, ap, ◌∙◌}
use mathlib.Core.List.{List}
use Prim.Native.Nat.{ℕ, ◌+◌}
use native.Mathlib.Omega.{arith}
use lib.ListN.{length, take, drop, length-append}
use Rattle.encoding.specs.Number.{size_bytes, string_bytes}
use Rattle.encoding.specs.Table.{name_of}
use Rattle.table.specs.Names.{name_start}
use Rattle.table.specs.NamesLaws.{name_part}
use Rattle.wire.specs.Put.{put}
use Rattle.pieces.specs.Puts.{Puts}
use Rattle.pieces.specs.PutsLaws.{puts_one, puts_size, puts_then}

module _ (T : List ℕ) (o n k : ℕ) (en : n ≡ length (name_of T o)) (ek : k ≡ length (size_bytes n)) where
  pub id_long : k + n ≡ length (string_bytes (name_of T o))
  unfolding string_bytes
  id_long =
      let z : length (size_bytes (length (name_of T o))) ≡ k = ap (λ (x : ℕ). length (size_bytes x)) (sym en) ∙ sym ek in
      omega (arith, length-append (size_bytes (length (name_of T o))) (name_of T o))

  pub id_put : (at a : ℕ) (out mid last : List ℕ) → mid ≡ put at (size_bytes n) out → a ≡ name_start T o → last ≡ put (at + k) (take n (drop a T)) mid
      → Puts at (string_bytes (name_of T o)) out last (at + k + n)
  unfolding string_bytes
  id_put at a out mid last e f g =
      let z : take n (drop a T) ≡ name_of T o = rw (en, f) (name_part T o) in
      rw (← en)
      (puts_then at (size_bytes n) out mid (at + k) (puts_size n k at out mid e ek) (name_of T o) last (at + k + n)
      (puts_one (at + k) (name_of T o) mid last (at + k + n) (g ∙ ap (λ (b : List ℕ). put (at + k) b mid) z) (omega arith)))
