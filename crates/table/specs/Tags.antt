-- The look-up of a tag after the members that were passed: tags rise in a message, and are mostly declared rising.
--
--   optional_from end from    the optional members among member rows `from` to `end` - 1, as declared
--   first_optional end m n    the first optional row of n from row m on, or `end`
--   optional_start t          row t's first optional member row, or the row after its member rows
--   first_required m n        the first required row of n from row m on, or the row after them
--   has_optional m n          some row of n from row m on is optional
--   is_above k m              member row m is optional and its tag is above k
--   first_above k end m n     the first of these rows among n from row m on, or `end`
--   behind from m k          where the look-up of a tag above k begins, once k was found at member row m by a look-up from row `from`
--   Passed t end from least  row t's member rows end before `end`, and each optional one before row `from`, which is none before its first, has a tag below `least`
use Rattle.std.specs.Prelude.{◌≡◌, Bool, ◌&&◌, not, List, ℕ, zero, suc, ◌+◌, ◌-◌, ◌≤◌, ◌<◌, eqb, ltb}
use Rattle.encoding.specs.Result.{pick}
use Rattle.encoding.specs.Table.{field, mark, tag, range, any, trees, Member, optionals_in}

unfoldable pub optional_from : List ℕ → ℕ → ℕ → List Member
optional_from T end from = optionals_in T (trees T) (range from (end - from))

unfoldable pub first_optional : List ℕ → ℕ → ℕ → ℕ → ℕ
first_optional T end m zero = end
first_optional T end m (suc n) = pick (eqb (mark T m) 0) (first_optional T end (suc m) n) m

unfoldable pub optional_start : List ℕ → ℕ → ℕ
optional_start T t = first_optional T (field T t 0 + field T t 1) (field T t 0) (field T t 1)

unfoldable pub first_required : List ℕ → ℕ → ℕ → ℕ
first_required T m zero = m
first_required T m (suc n) = pick (eqb (mark T m) 0) m (first_required T (suc m) n)

unfoldable pub has_optional : List ℕ → ℕ → ℕ → Bool
has_optional T m n = any (λ i. not (eqb (mark T i) 0)) (range m n)

abbrev pub is_above : List ℕ → ℕ → ℕ → Bool
is_above T k m = not (eqb (mark T m) 0) && ltb k (tag T m)

unfoldable pub first_above : List ℕ → ℕ → ℕ → ℕ → ℕ → ℕ
first_above T k end m zero = end
first_above T k end m (suc n) = pick (is_above T k m) m (first_above T k end (suc m) n)

unfoldable pub behind : List ℕ → ℕ → ℕ → ℕ → ℕ
behind T from m k = first_above T k (m + 1) from (m - from)

pub record Passed (T : List ℕ) (t end from least : ℕ) : Type 0 where
  pub ends : end ≡ field T t 0 + field T t 1
  pub starts : field T t 0 ≤ from
  pub below : (m : ℕ) → field T t 0 ≤ m → m < from → (mark T m ≡ 0 → ⊥) → tag T m < least
