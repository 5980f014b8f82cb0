-- Which rows of two tables agree in type, as an array of cells.
--
--   indexed T x        the type of index x: 0 is broken, then the rows
--   sort_at T x         what sort of type it is: its row's kind, 13 if it is broken
--   below t i          the index of row i as a part of row t: 0 unless i is below t
--   is_listed T t       enum row t has a list that leaves out a number up to its greatest
--   IsFirst S n t c    c is the first index of table S whose type is t, among the first n; or n if there is none
--   Firsts S cells x   the array has the cells of the indexes of S below x: each is the first index whose type is the same
--   Alike S T cells base x y   the cells of an index of S below x and of one of T below y are equal exactly if their types agree; those of T begin at place `base`
--   Agreed S T cells   the same for all rows of both tables
--   rank_from, rank S t   the first index of S whose type is t, or the number of indexes if there is none
--   Ranked S T cells base y   the cells of the indexes of T below y, which begin at place `base`, are the ranks of their types
--   weigh S ts         the sum of the ranks of some types: the weight of a struct of these
--   Weighed S weights x   an array has the weights of the indexes of S below x
use Rattle.std.specs.Prelude.{ℕ, zero, suc, ◌+◌, ◌≤◌, ◌<◌, ◌≡◌, Bool, true, false, ◌&&◌, not, List, length, get_or, eqb, leb, ltb}
use Rattle.encoding.specs.Result.{pick}
use Rattle.encoding.specs.Types.{Ty, Tys, nil, cons, broken}
use Rattle.encoding.specs.Table.{with_lists, kind, field, greatest, type_rows, ty_of}
use Rattle.differences.specs.Compare.{members_of, same_ty}

unfoldable pub indexed : List ℕ → ℕ → Ty
indexed T zero = broken
indexed T (suc t) = ty_of T t

unfoldable pub sort_at : List ℕ → ℕ → ℕ
sort_at T zero = 13
sort_at T (suc t) = pick (ltb t (type_rows T) && leb (kind T t) 12) (kind T t) 13

unfoldable pub below : ℕ → ℕ → ℕ
below t i = pick (leb t i) 0 (suc i)

unfoldable pub is_listed : List ℕ → ℕ → Bool
is_listed T t = with_lists T && not (eqb (field T t 3) (suc (greatest T t)))

pub record IsFirst (S : List ℕ) (n : ℕ) (t : Ty) (c : ℕ) : Type 0 where
  pub within : c ≤ n
  pub others : (i : ℕ) → i < c → same_ty (indexed S i) t ≡ false
  pub found : c < n → same_ty (indexed S c) t ≡ true

pub record Firsts (S cells : List ℕ) (x : ℕ) : Type 0 where
  pub size : length cells ≡ 514
  pub each : (i : ℕ) → i < x → IsFirst S i (indexed S i) (get_or cells i 0)

pub record Alike (S T cells : List ℕ) (base x y : ℕ) : Type 0 where
  pub same : (i j : ℕ) → i < x → j < y → eqb (get_or cells i 0) (get_or cells (base + j) 0) ≡ same_ty (indexed S i) (indexed T j)

abbrev pub Agreed : (S T cells : List ℕ) → Type 0
Agreed S T cells = Alike S T cells 257 (type_rows S + 1) (type_rows T + 1)

unfoldable pub rank_from : List ℕ → ℕ → ℕ → Ty → ℕ
rank_from S i zero t = i
rank_from S i (suc n) t = pick (same_ty (indexed S i) t) i (rank_from S (suc i) n t)

unfoldable pub rank : List ℕ → Ty → ℕ
rank S t = rank_from S 0 (type_rows S + 1) t

pub record Ranked (S T cells : List ℕ) (base y : ℕ) : Type 0 where
  pub rank_of : (j : ℕ) → j < y → get_or cells (base + j) 0 ≡ rank S (indexed T j)

unfoldable pub weigh : List ℕ → Tys → ℕ
weigh S nil = 0
weigh S (cons t ts) = rank S t + weigh S ts

pub record Weighed (S weights : List ℕ) (x : ℕ) : Type 0 where
  pub size : length weights ≡ 257
  pub weight_of : (i : ℕ) → i < x → get_or weights i 0 ≡ weigh S (members_of (indexed S i))
