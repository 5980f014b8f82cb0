-- Laws of `Pieces`: a member's bytes in numbers. Assumes nothing.
--
--   required_bytes, optional_bytes    a piece's bytes
--   header_short, header_long         a header, by its tag
--   length_none, length_size, length_int   a length field, by its form
use Rattle.std.specs.Prelude.{◌≡◌, refl, List, [], ◌∷◌, ◌++◌, ℕ, ◌+◌, ◌*◌, ◌≤◌, ◌<◌, length}
use Rattle.std.proofs.Common.{arith}
use borrow.Author.Tests.{lt-ltb, le-ltb, ne_eqb}
use Rattle.encoding.specs.Number.{le_bytes, size_bytes}
use Rattle.encoding.specs.Types.{bits, Form, bare, own, counted, sized}
use Rattle.encoding.proofs.TypesLaws.{bits_below}
use Rattle.encoding.specs.Optional.{required, optional, header_bytes, length_bytes, front_bytes, content_bytes, piece_bytes}
use Rattle.shapes.specs.Shapes.{form_number}
use Rattle.shapes.specs.FormLaws.{form_bits_lem}
use Rattle.pieces.specs.Pieces.{header_field, length_field, optional_field}

length_field_lem : (f : Form) (b : List ℕ) → length_bytes f b ≡ length_field (form_number f) (length b)
unfolding length_bytes length_field form_number
length_field_lem (bare k) b = let l = bits_below k in rw (lt-ltb (bits k) 9 (omega arith))
length_field_lem own b = refl
length_field_lem counted b = refl
length_field_lem sized b = refl

pub required_bytes : (i : ℕ) (b : List ℕ) → piece_bytes (required i b) ≡ b
unfolding piece_bytes front_bytes content_bytes
required_bytes i b = refl

pub optional_bytes : (t : ℕ) (f : Form) (b : List ℕ) → piece_bytes (optional t f b) ≡ optional_field t (form_number f) b
unfolding piece_bytes front_bytes content_bytes header_bytes header_field optional_field
optional_bytes t f b = rw (← form_bits_lem f, length_field_lem f b)

module _ (t k : ℕ) where
  pub header_short : t < 30 → header_field t k ≡ (t * 8 + k) ∷ []
  unfolding header_field
  header_short h = rw (lt-ltb t 30 h)

  pub header_long : 30 ≤ t → header_field t k ≡ ((240 + k) ∷ []) ++ size_bytes t
  unfolding header_field
  header_long h = rw (le-ltb t 30 h)

module _ (form n : ℕ) where
  pub length_none : form < 9 → length_field form n ≡ []
  unfolding length_field
  length_none h = rw (lt-ltb form 9 h)

  pub length_size : form ≡ 9 → length_field form n ≡ size_bytes n
  unfolding length_field
  length_size e = rw e

  pub length_int : 9 < form → length_field form n ≡ le_bytes 4 n
  unfolding length_field
  length_int h = rw (le-ltb form 9 (omega arith), ne_eqb form 9 (λ q. omega arith))
