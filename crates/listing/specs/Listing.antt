-- Differences put into a lent list one after another, and the rows of two lists set against each other.
--
--   what_number w            the number of what a difference is of
--   enter k ds out           out with the differences ds from entry k on, those that fit
--   Listed ds n out last r   what a function answers that lists ds from entry n on: the list, and the entry after them
--   Listing .. rest i l      a loop that lists: what is left makes the whole
--   agree_rows m k            member rows + 1, or 0 for none, agree
--   member_difference         the difference of two member rows, if there is one
--   is_required, is_list       a member row is required; a row is a parameter list
--   head_row, next_of f m end  the first row that passes test f, + 1; 0 for none
--   follow_of f a end         the first after row a - 1 that passes, + 1; 0 for none, or if a is 0
--   left_of f a end           row a - 1 and the later rows that pass; none if a is 0
--   row_differences ps        the differences of pairs of required member rows; tag_difference g of a tag
--   FewMembers T o           a row + 1 has at most 1,024 members
use Rattle.std.specs.Prelude.{ℕ, zero, suc, ◌+◌, ◌-◌, ◌*◌, ◌≤◌, ◌<◌, ◌≡◌, Bool, true, false, not, List, [], ◌∷◌, ◌++◌, length, eqb}
use Rattle.encoding.specs.Table.{kind, field, mark, range, trees, member_ty, lookup, optional_members}
use Rattle.wire.specs.Put.{put}
use Rattle.listing.specs.declared.entries.What.{What}
use Rattle.listing.specs.declared.entries.What.TheVariants.{Owner, Base, Required, Optional}
use Rattle.differences.specs.Compare.{same_ty, those, Pair, Difference, given, member_row, difference_bytes}

abbrev pub what_number : What → ℕ
what_number Owner = 0
what_number Base = 1
what_number Required = 2
what_number Optional = 3

unfoldable pub enter : ℕ → List Difference → List ℕ → List ℕ
enter k [] out = out
enter k (d ∷ ds) out = enter (suc k) ds (put (20 * k) (difference_bytes d) out)

pub record Listed (ds : List Difference) (n : ℕ) (out last : List ℕ) (r : ℕ) : Type 0 where
  pub count : r ≡ n + length ds
  pub list : last ≡ enter n ds out

pub record Listing (ds : List Difference) (n : ℕ) (out : List ℕ) (rest : List Difference) (i : ℕ) (l : List ℕ) : Type 0 where
  pub count : i + length rest ≡ n + length ds
  pub list : enter i rest l ≡ enter n ds out

unfoldable pub agree_rows : (S T : List ℕ) → (m k : ℕ) → Bool
agree_rows S T zero zero = true
agree_rows S T zero (suc k) = false
agree_rows S T (suc m) zero = false
agree_rows S T (suc m) (suc k) = same_ty (member_ty S (trees S) m) (member_ty T (trees T) k)

unfoldable pub member_difference : (S T : List ℕ) → (what t u m k : ℕ) → List Difference
member_difference S T what t u m k = given (not (agree_rows S T m k)) (record { what = what; owner = suc t; owner' = suc u; member = m; member' = k })

unfoldable pub is_required : List ℕ → ℕ → Bool
is_required T m = eqb (mark T m) 0

unfoldable pub is_list : List ℕ → ℕ → Bool
is_list T t = eqb (kind T t) 15

unfoldable pub head_row : List ℕ → ℕ
head_row [] = 0
head_row (r ∷ rs) = suc r

unfoldable pub next_of : (ℕ → Bool) → ℕ → ℕ → ℕ
next_of f m end = head_row (those f (range m (end - m)))

unfoldable pub left_of : (ℕ → Bool) → ℕ → ℕ → List ℕ
left_of f zero end = []
left_of f (suc r) end = r ∷ those f (range (suc r) (end - suc r))

-- the first row after row r that passes, + 1
unfoldable pub follow_of : (ℕ → Bool) → ℕ → ℕ → ℕ
follow_of f zero end = 0
follow_of f (suc r) end = next_of f (suc r) end

unfoldable pub row_differences : (S T : List ℕ) → (t u : ℕ) → List Pair → List Difference
row_differences S T t u [] = []
row_differences S T t u (p ∷ ps) = member_difference S T 2 t u p.0 p.1 ++ row_differences S T t u ps

unfoldable pub tag_difference : (S T : List ℕ) → (t u g : ℕ) → List Difference
tag_difference S T t u g = member_difference S T 3 t u (member_row (lookup g (optional_members S t))) (member_row (lookup g (optional_members T u)))

-- a row + 1, or 0 for none, has at most as many members as a table may have
abbrev pub FewMembers : List ℕ → ℕ → Type 0
FewMembers T o = 0 < o → field T (o - 1) 1 ≤ 1024
