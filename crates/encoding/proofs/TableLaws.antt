-- What a row's tree is, by the row's kind, in terms of the trees of the rows below it; and a row's chain, by its base.
--
--   header_least, header_most      the header has 12 to 64 bytes
--   rows_below                     at most 256 rows have a tree
--   length_tys                     the first n rows have n trees
--   tys_at                         the tree of a row among the trees below any higher row
--   ty_row, ty_past                the tree of a row that has one is made from the trees below it; any other row is broken
--   below_ty, below_none           the trees below row t are those of the rows below t and no other
--   row_enum .. row_dict           the tree of a row of that kind, made from the trees below it
--   row_bool .. row_double         the rows without parts; row_other, row_broken a row of kind 13 and above
--   member_whole                   the type of a member row among all trees
--   member_in, member_past         a member row that is there; one that is not
--   members_more, members_none     the members' types one after another
--   base_below, chain_row          a base is a smaller row; a row's chain is the row, then its base's chain
use Prim.Native.Nat.{ℕ, zero, suc, ◌+◌, ◌-◌, ◌≤◌, ◌<◌}
use Rattle.std.specs.Prelude.{◌≡◌, Bool, ◌&&◌, length, get_or, leb}
use Rattle.std.proofs.Math.Path.{refl, sym, ap}
use Rattle.std.proofs.Common.{◌∙◌, eq-or-lt_of_le, add-one, sub-one, leb-true, ne_eqb, lt-ltb, le-ltb}
use Rattle.std.proofs.Math.Bool.{true, false}
use Rattle.std.proofs.Math.Logic.{⊎_elim}
use mathlib.Core.List.{List, [], ◌∷◌}
use native.Mathlib.Omega.{arith}
use Rattle.std.proofs.Math.ListN.{length-append, get_or-append, get_or-eq_default}
use Rattle.std.proofs.Math.Seq.{get_or_at}
use Rattle.encoding.specs.Result.{pick}
use Rattle.encoding.specs.Types.{short, int, long, float, double, Ty, nil, cons, broken, bool, byte, string, proxy, num, enum, struct, seq, dict}
use Rattle.encoding.specs.Table.{with_lists, types, types_at, kind, field, members, member_type, allowed, range, member_ty, member_tys, own_rows, row_ty, grow, tys, type_rows, trees, ty_of, is_record, base, upward, climb, chain}

-- all that laws and proofs use of the header's length
module _ (T : List ℕ) where
  pub header_least : 12 ≤ types_at T
  unfolding types_at
  header_least = go (with_lists T)
    where
      go : (b : Bool) → 12 ≤ pick b 14 12
      go true = omega arith
      go false = omega arith

  pub header_most : types_at T ≤ 64
  unfolding types_at
  header_most = go (with_lists T)
    where
      go : (b : Bool) → pick b 14 12 ≤ 64
      go true = omega arith
      go false = omega arith

pub rows_below : (T : List ℕ) → type_rows T ≤ 256
unfolding type_rows
rows_below T = go (leb (types T) 256) refl
  where
    go : (b : Bool) → leb (types T) 256 ≡ b → pick b (types T) 256 ≤ 256
    go true e = leb-true _ _ e
    go false e = omega arith

module _ (T : List ℕ) where
  pub length_tys : (n : ℕ) → length (tys T n) ≡ n
  unfolding tys grow
  length_tys zero = refl
  length_tys (suc n) = length-append (tys T n) _ ∙ omega (arith, length_tys n)

  -- the tree of row i is the same however many rows above it have theirs
  pub tys_at : (n i : ℕ) → i < n → get_or (tys T n) i broken ≡ row_ty T (tys T i) i
  unfolding tys grow
  tys_at zero i h = absurd (omega arith)
  tys_at (suc n) i h = ⊎_elim
      (λ e. get_or_at (tys T n) _ [] broken i (length_tys n ∙ sym e) ∙ last i (sym e))
      (λ l. get_or-append (tys T n) _ broken i (omega (arith, length_tys n)) ∙ tys_at n i l)
      (eq-or-lt_of_le {n = i} {m = n} (omega arith))
    where
      last : (i : ℕ) → n ≡ i → row_ty T (tys T n) (length (tys T n)) ≡ row_ty T (tys T i) i
      last i e = ap (row_ty T (tys T n)) (length_tys n) ∙ ap (λ (k : ℕ). row_ty T (tys T k) k) e

  pub ty_row : (t : ℕ) → t < type_rows T → ty_of T t ≡ row_ty T (tys T t) t
  unfolding ty_of trees
  ty_row t h = tys_at (type_rows T) t h

  pub ty_past : (t : ℕ) → type_rows T ≤ t → ty_of T t ≡ broken
  unfolding ty_of trees
  ty_past t h = get_or-eq_default (tys T (type_rows T)) broken (omega (arith, length_tys (type_rows T)))

  pub below_ty : (t i : ℕ) → t ≤ type_rows T → i < t → get_or (tys T t) i broken ≡ ty_of T i
  below_ty t i h l = tys_at t i l ∙ sym (ty_row i (omega arith))

  pub below_none : (t i : ℕ) → t ≤ i → get_or (tys T t) i broken ≡ broken
  below_none t i h = get_or-eq_default (tys T t) broken (omega (arith, length_tys t))

-- ---- members

module _ (T : List ℕ) (m : ℕ) where
  pub member_past : (l : List Ty) → members T ≤ m → member_ty T l m ≡ broken
  unfolding member_ty
  member_past l h = rw (le-ltb _ _ h)

  pub member_in : (l : List Ty) → m < members T → member_ty T l m ≡ get_or l (member_type T m) broken
  unfolding member_ty
  member_in l h = rw (lt-ltb _ _ h)

  -- among all trees
  pub member_whole : m < members T → member_ty T (trees T) m ≡ ty_of T (member_type T m)
  unfolding ty_of
  member_whole k = member_in (trees T) k

module _ (T : List ℕ) (l : List Ty) (i left : ℕ) where
  pub members_more : 0 < left → member_tys T l (range i left) ≡ cons (member_ty T l i) (member_tys T l (range (i + 1) (left - 1)))
  unfolding member_tys range
  members_more h = go left h
    where
      go : (n : ℕ) → 0 < n → member_tys T l (range i n) ≡ cons (member_ty T l i) (member_tys T l (range (i + 1) (n - 1)))
      go zero h = absurd (omega arith)
      go (suc n) h = rw (add-one, sub-one)

  pub members_none : left ≤ 0 → member_tys T l (range i left) ≡ nil
  unfolding member_tys range
  members_none h = let e : left ≡ 0 = omega arith in rw e

-- ---- a row by its kind

-- an exception, a class, a parameter list or an unknown kind is no value's type
pub row_broken : (T : List ℕ) (l : List Ty) (t : ℕ) → 12 < kind T t → row_ty T l t ≡ broken
unfolding row_ty
row_broken T l t k = simp (
  ne_eqb (kind T t) 8 (λ e. omega arith),
  ne_eqb (kind T t) 9 (λ e. omega arith),
  ne_eqb (kind T t) 10 (λ e. omega arith),
  ne_eqb (kind T t) 11 (λ e. omega arith),
  ne_eqb (kind T t) 12 (λ e. omega arith),
)
    (get_or-eq_default (bool ∷ byte ∷ num short ∷ num int ∷ num long ∷ num float ∷ num double ∷ string ∷ []) broken {n = kind T t} (omega arith))

module _ (T : List ℕ) (t : ℕ) (h : t < type_rows T) where
  pub row_enum : kind T t ≡ 8 → ty_of T t ≡ enum (allowed T t)
  unfolding row_ty
  row_enum k = ty_row T t h ∙ rw k

  pub row_struct : kind T t ≡ 9 → ty_of T t ≡ struct (member_tys T (tys T t) (range (field T t 0) (field T t 1)))
  unfolding row_ty own_rows
  row_struct k = ty_row T t h ∙ rw k

  pub row_seq : kind T t ≡ 10 → ty_of T t ≡ seq (get_or (tys T t) (field T t 0) broken)
  unfolding row_ty
  row_seq k = ty_row T t h ∙ rw k

  pub row_dict : kind T t ≡ 11 → ty_of T t ≡ dict (get_or (tys T t) (field T t 0) broken) (get_or (tys T t) (field T t 1) broken)
  unfolding row_ty
  row_dict k = ty_row T t h ∙ rw k

  pub row_proxy : kind T t ≡ 12 → ty_of T t ≡ proxy
  unfolding row_ty
  row_proxy k = ty_row T t h ∙ rw k

  pub row_bool : kind T t ≡ 0 → ty_of T t ≡ bool
  unfolding row_ty
  row_bool k = ty_row T t h ∙ rw k

  pub row_byte : kind T t ≡ 1 → ty_of T t ≡ byte
  unfolding row_ty
  row_byte k = ty_row T t h ∙ rw k

  pub row_short : kind T t ≡ 2 → ty_of T t ≡ num short
  unfolding row_ty
  row_short k = ty_row T t h ∙ rw k

  pub row_int : kind T t ≡ 3 → ty_of T t ≡ num int
  unfolding row_ty
  row_int k = ty_row T t h ∙ rw k

  pub row_long : kind T t ≡ 4 → ty_of T t ≡ num long
  unfolding row_ty
  row_long k = ty_row T t h ∙ rw k

  pub row_float : kind T t ≡ 5 → ty_of T t ≡ num float
  unfolding row_ty
  row_float k = ty_row T t h ∙ rw k

  pub row_double : kind T t ≡ 6 → ty_of T t ≡ num double
  unfolding row_ty
  row_double k = ty_row T t h ∙ rw k

  pub row_string : kind T t ≡ 7 → ty_of T t ≡ string
  unfolding row_ty
  row_string k = ty_row T t h ∙ rw k

  pub row_other : 12 < kind T t → ty_of T t ≡ broken
  row_other k = ty_row T t h ∙ row_broken T (tys T t) t k

-- ---- bases

pub base_below : (T : List ℕ) (t : ℕ) → base T t ≤ t
unfolding base
base_below T t = go (is_record (kind T t)) (leb (field T t 2) t) refl
  where
    go : (a b : Bool) → leb (field T t 2) t ≡ b → pick (a && b) (field T t 2) 0 ≤ t
    go true true e = leb-true _ _ e
    go true false e = omega arith
    go false b e = omega arith

climb_enough : (T : List ℕ) (f g t : ℕ) → t < f → t < g → climb T f t ≡ climb T g t
unfolding climb upward
climb_enough T zero g t hf hg = absurd (omega arith)
climb_enough T (suc f) zero t hf hg = absurd (omega arith)
climb_enough T (suc f) (suc g) t hf hg = ap (λ (z : List ℕ). t ∷ z) (go (base T t) (base_below T t) (λ r h. climb_enough T f g r (omega arith) (omega arith)))
  where
    go : (b : ℕ) → b ≤ t → ((r : ℕ) → r < t → climb T f r ≡ climb T g r) → upward (λ r. climb T f r) b ≡ upward (λ r. climb T g r) b
    go zero h again = refl
    go (suc r) h again = again r h

pub chain_row : (T : List ℕ) (t : ℕ) → chain T t ≡ t ∷ upward (chain T) (base T t)
unfolding chain climb upward
chain_row T t = ap (λ (z : List ℕ). t ∷ z) (go (base T t) (base_below T t))
  where
    go : (b : ℕ) → b ≤ t → upward (λ r. climb T t r) b ≡ upward (chain T) b
    go zero h = refl
    go (suc r) h = climb_enough T t (suc r) r h (omega arith)
