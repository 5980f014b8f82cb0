-- One character in front, and bytes that may be passed.
--
--   in_all rs xs          the bytes in front lie within the ranges rs, one each
--   second_bounds a       the range of the byte after a first byte a of three or four
--   first_character xs    how many bytes the character in front takes, by what is due after its first byte (character_bytes); 0 if no character is there
--   Ascii s i k          the k bytes at i are there and below 128
--   Tested s i j m       the bytes from i to m, up to j, are below 128
--   Crossed s i j        from i to j are characters: what is text from i on is text from j on
use Rattle.std.specs.Prelude.{◌≡◌, Bool, true, false, ◌&&◌, List, [], ◌∷◌, ℕ, suc, ◌+◌, ◌-◌, ◌≤◌, ◌<◌, length, drop, get_or, eqb}
use Rattle.std.proofs.Math.Option.{Option, none, some}
use Rattle.encoding.specs.Result.{pick}
use Rattle.encoding.specs.Utf8.{Bounds, in_bounds, characters, following, is_utf8}

unfoldable pub in_all : List Bounds → List ℕ → Bool
in_all [] xs = true
in_all (r ∷ rs) [] = false
in_all (r ∷ rs) (x ∷ xs) = in_bounds r x && in_all rs xs

unfoldable pub second_bounds : ℕ → Bounds
second_bounds a = (pick (eqb a 0xE0) 0xA0 (pick (eqb a 0xF0) 0x90 0x80), pick (eqb a 0xED) 0x9F (pick (eqb a 0xF4) 0x8F 0xBF))

unfoldable pub character_bytes : Option (List Bounds) → List ℕ → ℕ
character_bytes none xs = 0
character_bytes (some rs) xs = pick (in_all rs xs) (suc (length rs)) 0

unfoldable pub first_character : List ℕ → ℕ
first_character [] = 0
first_character (x ∷ xs) = character_bytes (following characters x) xs

pub record Ascii (s : List ℕ) (i k : ℕ) : Type 0 where
  pub there : i + k ≤ length s
  pub below : (j : ℕ) → i ≤ j → j < i + k → get_or s j 0 < 128

pub record Tested (s : List ℕ) (i j m : ℕ) : Type 0 where
  pub onward : i ≤ m
  pub inside : m ≤ j
  pub low : Ascii s i (m - i)

pub record Crossed (s : List ℕ) (i j : ℕ) : Type 0 where
  pub onward : i ≤ j
  pub inside : j ≤ length s
  pub same : is_utf8 (drop i s) ≡ is_utf8 (drop j s)
