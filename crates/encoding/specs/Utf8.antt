-- Text: well-formed UTF-8 as RFC 3629 has it, said twice. `ExactUtf8` promises that both say the same.
--
--   is_utf8              the test, byte by byte: characters, each within the ranges of RFC 3629, section 4
--   characters          those ranges: for each range of a first byte, the ranges of the bytes after it
--   Bounds, in_bounds    the least and the greatest value of a byte; a byte between them
--   following           the ranges due after a first byte
--   advance, advance_all the ranges still due in a character, or none after a wrong byte
--   at_boundary          no byte was wrong, and none is due
--   Utf8                the meaning: the bytes of a list of scalar values, one after another
--   Scalar, Scalars     a scalar value: 0 to 10FFFF without D800 to DFFF; a list of them
--   scalar_bytes c       the bytes of c in the shortest form: RFC 3629, section 3
use Rattle.std.specs.Prelude.{◌≡◌, Bool, true, false, ◌&&◌, List, [], ◌∷◌, ℕ, ◌+◌, ◌/◌, ◌%◌, ◌≤◌, leb, ltb}
use Rattle.std.proofs.Math.Option.{Option, none, some}
use Rattle.encoding.specs.Result.{pick, concat}

-- ---- the test

-- the least and the greatest value of a byte
abbrev pub Bounds : Type 0
Bounds = ℕ × ℕ

-- the byte lies between them
unfoldable pub in_bounds : Bounds → ℕ → Bool
in_bounds r x = leb r.0 x && leb x r.1

-- a byte after the first of its character, where nothing narrower is asked
abbrev pub any_later : Bounds
any_later = (0x80, 0xBF)

-- one character: no longer form than needed, no surrogate, nothing above 10FFFF
unfoldable pub characters : List (Bounds × List Bounds)
characters =
    ((0x00, 0x7F), [])
    ∷ ((0xC2, 0xDF), any_later ∷ [])
    ∷ ((0xE0, 0xE0), (0xA0, 0xBF) ∷ any_later ∷ [])
    ∷ ((0xE1, 0xEC), any_later ∷ any_later ∷ [])
    ∷ ((0xED, 0xED), (0x80, 0x9F) ∷ any_later ∷ [])
    ∷ ((0xEE, 0xEF), any_later ∷ any_later ∷ [])
    ∷ ((0xF0, 0xF0), (0x90, 0xBF) ∷ any_later ∷ any_later ∷ [])
    ∷ ((0xF1, 0xF3), any_later ∷ any_later ∷ any_later ∷ [])
    ∷ ((0xF4, 0xF4), (0x80, 0x8F) ∷ any_later ∷ any_later ∷ [])
    ∷ []

-- what is due after a first byte, if a character begins with it
unfoldable pub following : List (Bounds × List Bounds) → ℕ → Option (List Bounds)
following [] x = none
following (c ∷ cs) x = pick (in_bounds c.0 x) (some c.1) (following cs x)

-- one byte further
unfoldable pub advance : Option (List Bounds) → ℕ → Option (List Bounds)
advance none x = none
advance (some []) x = following characters x
advance (some (r ∷ rs)) x = pick (in_bounds r x) (some rs) none

-- all bytes
unfoldable pub advance_all : Option (List Bounds) → List ℕ → Option (List Bounds)
advance_all s [] = s
advance_all s (x ∷ xs) = advance_all (advance s x) xs

-- no byte was wrong, and no character is cut off
unfoldable pub at_boundary : Option (List Bounds) → Bool
at_boundary none = false
at_boundary (some []) = true
at_boundary (some (r ∷ rs)) = false

-- characters one after another
unfoldable pub is_utf8 : List ℕ → Bool
is_utf8 b = at_boundary (advance_all (some []) b)

-- ---- the meaning

-- 0 to 10FFFF without D800 to DFFF
pub record Scalar (c : ℕ) : Type 0 where
  pub most : c ≤ 0x10FFFF
  pub no_surrogate : 0xD800 ≤ c → c ≤ 0xDFFF → ⊥

-- each is a scalar value
abbrev pub Scalars : List ℕ → Type 0
Scalars [] = Unit {0}
Scalars (c ∷ cs) = Scalar c × Scalars cs

-- the low six bits, in a byte after the first
unfoldable pub six_bits : ℕ → ℕ
six_bits n = 0x80 + n % 64

-- one byte up to 7F, two up to 7FF, three up to FFFF, else four; the highest bits first
unfoldable pub scalar_bytes : ℕ → List ℕ
scalar_bytes c =
    pick (ltb c 0x80) (c ∷ [])
    (pick (ltb c 0x800) ((0xC0 + c / 64) ∷ six_bits c ∷ [])
    (pick (ltb c 0x10000) ((0xE0 + c / 4096) ∷ six_bits (c / 64) ∷ six_bits c ∷ [])
    ((0xF0 + c / 262144) ∷ six_bits (c / 4096) ∷ six_bits (c / 64) ∷ six_bits c ∷ [])))

-- the encoding of a list of scalar values
pub record Utf8 (b : List ℕ) : Type 0 where
  pub values : List ℕ
  pub scalars : Scalars values
  pub encoded : b ≡ concat scalar_bytes values
