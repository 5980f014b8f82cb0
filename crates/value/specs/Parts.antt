-- Parts of the definition of values that are functions of their own in the code.
--
--   is_text_below    row e is a string as a part of row t, by the array of shapes
--   types_as old ts   the types of a struct's members as an encoding has them
--   enum_number old a   the number of an enumerator, before it is judged
--   entry k v      one entry of a dictionary
--   text_entry w    one of a string and w bytes of any content; text_dict w a dictionary of these
--   AreBools s i k   the k bytes at i are there, each 0 or 1
use Rattle.std.specs.Prelude.{Bool, true, false, List, ℕ, ◌+◌, ◌≤◌, ◌<◌, length, get_or, leb}
use Rattle.encoding.specs.Result.{Parser, pick, ◌>>=◌, skip, times}
use Rattle.encoding.specs.Number.{size, number}
use Rattle.encoding.specs.Proxy.{text}
use Rattle.encoding.specs.Types.{Allowed, most, Ty, Tys}
use Rattle.encoding.specs.Value.{enum_width, value}
use Rattle.encoding.specs.Old.{as_olds}
use Rattle.shapes.specs.Shapes.{is_text_in}

-- row e is a string, and below t
unfoldable pub is_text_below : List ℕ → ℕ → ℕ → Bool
is_text_below l t e = pick (leb t e) false (is_text_in l e)

-- the types of a struct's members, 1.0 or 1.1
abbrev pub types_as : Bool → Tys → Tys
types_as true ts = as_olds ts
types_as false ts = ts

-- the number of an enumerator: in 1.0 of so many bytes as the greatest needs, in 1.1 a size
unfoldable pub enum_number : Bool → Allowed → Parser ℕ
enum_number true a = number (enum_width (most a))
enum_number false a = size

-- a key, then a value
unfoldable pub entry : Ty → Ty → Parser (Unit {0})
entry k v = value k >>= λ _. value v

-- a string, then w bytes of any content
unfoldable pub text_entry : ℕ → Parser (Unit {0})
text_entry w = text >>= λ _. skip w

unfoldable pub text_dict : ℕ → Parser (Unit {0})
text_dict w = size >>= λ n. times n (text_entry w)

-- the k bytes at i are bools
pub record AreBools (s : List ℕ) (i k : ℕ) : Type 0 where
  pub there : i + k ≤ length s
  pub below : (j : ℕ) → i ≤ j → j < i + k → get_or s j 0 < 2
