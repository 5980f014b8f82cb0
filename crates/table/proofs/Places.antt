-- Where rows begin, and what the bytes of a row say, read at their place or from a part that shows the row. Assumes nothing.
--
--   types_lists, types_other, types_later  the header's length, by the two bytes of the version
--   lists_begin, entries_lists, entries_none   a table with lists by the header's length; how many entries it has
--   entry_is                               an entry of the lists
--   row_fits, row_near                     the place of a row below 65,536 is a small number
--   row_past, member_past                  a row that begins past the table's end
--   begins_here                            two names of one place
--   Shows, rest_shows                      the first bytes of a part are those of the table from a place on
--   row_shows, member_shows                the part that is one row; row_rest_shows, member_rest_shows the part from a row on
--   counts_show, names_here                where the names begin, by the counts read in one part
--   kind_direct, kind_byte, field_direct   a kind, a field read at its place
--   kind_is .. field_within                a field of a type row, read from a part that shows the row; field_past past the table's end
--   member_type_is .. tag_is               the same of a member row; type_here .. tag_here: read at its place in the table
--   rows_least                             how many rows have a tree
--   member_row, no_member                  the row of a member's type
use Prim.Native.Nat.{ℕ, ◌+◌, ◌-◌, ◌*◌, ◌/◌, ◌≤◌, ◌<◌, min}
use mathlib.Core.Path.{◌≡◌, refl, sym, ap, ◌∙◌}
use mathlib.Core.Bool.{Bool, true, false}
use mathlib.Core.List.{List}
use native.Mathlib.Nat.{add-zero}
use native.Mathlib.Omega.{arith}
use lib.ListN.{length, take, drop, get_or, drop_of_length-le}
use lib.Seq.{drop-drop}
use lib.Dec.{eqb, leb}
use borrow.Author.Tests.{leb-true, leb-false, ne_eqb}
use Rattle.encoding.specs.Result.{pick}
use Rattle.encoding.specs.Table.{at, version, with_lists, types, members, entries, types_at, row_at, member_at, names_at, entries_at, field_at, list_entry, kind, spare, field, member_type, mark, member_spare, tag, type_rows, trees, ty_of, member_ty}
use Rattle.encoding.proofs.TableLaws.{header_most, rows_below, ty_past, member_past as member_none, member_whole}
use Rattle.wire.specs.StepLaws.{rest_is}
use Rattle.wire.specs.At.{at_byte, at_split, at_past, at_within}

-- ---- where rows begin

module _ (T : List ℕ) where
  other_version : (version T ≡ 2 → ⊥) → 12 ≡ types_at T
  unfolding types_at with_lists
  other_version h = rw (ne_eqb (version T) 2 h)

  -- the version by its two bytes
  module _ (a : ℕ) (ea : a ≡ at T 1 3) (small : a < 256) where
    pub types_other : (a ≡ 2 → ⊥) → 12 ≡ types_at T
    unfolding version
    types_other h = other_version (λ q. h (omega (arith, at_split T 1 1 3)))

    module _ (b : ℕ) (eb : b ≡ at T 1 4) where
      pub types_later : (b ≡ 0 → ⊥) → 12 ≡ types_at T
      unfolding version
      types_later h = other_version (λ q. h (omega (arith, at_split T 1 1 3)))

      pub types_lists : a ≡ 2 → b ≡ 0 → 14 ≡ types_at T
      unfolding types_at with_lists version
      types_lists p q = let z : at T 2 3 ≡ 2 = omega (arith, at_split T 1 1 3) in rw z

  module _ (f : ℕ) (ef : f ≡ types_at T) where
    pub lists_begin : eqb f 14 ≡ with_lists T
    unfolding types_at
    lists_begin = rw ef (go (with_lists T))
      where
        go : (b : Bool) → eqb (pick b 14 12) 14 ≡ b
        go true = refl
        go false = refl

  module _ (b : Bool) (eb : b ≡ with_lists T) where
    pub entries_lists : (r : ℕ) → b ≡ true → r ≡ at T 2 12 → r ≡ entries T
    unfolding entries
    entries_lists r q e = rw (← eb, q) e

    pub entries_none : b ≡ false → 0 ≡ entries T
    unfolding entries
    entries_none q = rw (← eb, q)

  pub entry_is : (p i r : ℕ) → p ≡ entries_at T → r ≡ at T 4 (p + 4 * i) → r ≡ list_entry T i
  unfolding list_entry
  entry_is p i r e h = h ∙ ap (at T 4) (omega arith)

-- the place of a row below 65,536 is no greater than the code's numbers
pub row_fits : (T : List ℕ) (t : ℕ) → t ≤ 65536 → row_at T t < 18446744073709551616
row_fits T t h = omega (arith, header_most T)

pub row_near : (T : List ℕ) (t p : ℕ) → t < 65536 → p ≡ row_at T t → p < 1048576
row_near T t p h e = omega (arith, header_most T)

-- nothing comes after the end
past : (T : List ℕ) (p : ℕ) → length T ≤ p → drop (length T) T ≡ drop p T
past T p h = drop_of_length-le T {i = length T} (omega arith) ∙ sym (drop_of_length-le T h)

pub row_past : (T : List ℕ) (t : ℕ) → length T ≤ row_at T t → drop (length T) T ≡ drop (row_at T t) T
row_past T t h = past T (row_at T t) h

pub member_past : (T : List ℕ) (m : ℕ) → length T ≤ member_at T m → drop (length T) T ≡ drop (member_at T m) T
member_past T m h = past T (member_at T m) h

pub begins_here : (T : List ℕ) (p q : ℕ) → p ≡ q → drop p T ≡ drop q T
begins_here T p q e = ap (λ (i : ℕ). drop i T) e

-- ---- parts of the table

-- the first w bytes of a part are those of the table from p on
pub record Shows (T s : List ℕ) (p w : ℕ) : Type 0 where
  pub same : (k i : ℕ) → i + k ≤ w → at s k i ≡ at T k (p + i)

pub rest_shows : (T : List ℕ) (a p w : ℕ) → drop a T ≡ drop p T → Shows T (take (length T - a) (drop a T)) p w
unfolding at
rest_shows T a p w e = record { same = λ k i h. rw (rest_is T a, e, drop-drop) }

part_shows : (T : List ℕ) (a e p w : ℕ) → a ≡ p → a + w ≤ e → Shows T (take (e - a) (drop a T)) p w
part_shows T a e p w q l = record { same = λ k i h. at_within T a (e - a) k i (omega arith) ∙ ap (λ (z : ℕ). at T k (z + i)) q }

pub row_rest_shows : (T : List ℕ) (t a : ℕ) → (a ≤ length T) × (drop a T ≡ drop (row_at T t) T) → Shows T (take (length T - a) (drop a T)) (row_at T t) 12
row_rest_shows T t a h = rest_shows T a (row_at T t) 12 h.1

pub member_rest_shows : (T : List ℕ) (m a : ℕ) → (a ≤ length T) × (drop a T ≡ drop (member_at T m) T) → Shows T (take (length T - a) (drop a T)) (member_at T m) 8
member_rest_shows T m a h = rest_shows T a (member_at T m) 8 h.1

pub row_shows : (T : List ℕ) (t a e : ℕ) → a ≡ row_at T t → e ≡ row_at T (t + 1) → Shows T (take (e - a) (drop a T)) (row_at T t) 12
row_shows T t a e p q = part_shows T a e (row_at T t) 12 p (omega arith)

pub member_shows : (T : List ℕ) (m a e : ℕ) → a ≡ member_at T m → e ≡ member_at T (m + 1) → Shows T (take (e - a) (drop a T)) (member_at T m) 8
member_shows T m a e p q = part_shows T a e (member_at T m) 8 p (omega arith)

-- ---- where the names begin, by the counts in the part of the header that has both

pub counts_show : (T : List ℕ) → Shows T (take (9 - 5) (drop 5 T)) 5 4
counts_show T = part_shows T 5 9 5 4 refl (omega arith)

pub names_here : (T s : List ℕ) → Shows T s 5 4 → (f a b : ℕ) → f ≡ types_at T → a ≡ at s 2 0 → b ≡ at s 2 2 → f + 12 * a + 8 * b ≡ names_at T
unfolding types members
names_here T s shows f a b e p q =
    let x : a ≡ at T 2 5 = p ∙ shows.same 2 0 (omega arith) in
    let y : b ≡ at T 2 7 = q ∙ shows.same 2 2 (omega arith) in
    omega arith

-- ---- the fields of a row

-- a kind, a field at its place in the table
pub kind_direct : (T : List ℕ) (t p r : ℕ) → p ≡ row_at T t → r ≡ at T 1 p → r ≡ kind T t
unfolding kind
kind_direct T t p r e h = h ∙ ap (at T 1) e

pub kind_byte : (T : List ℕ) (t p r : ℕ) → p ≡ row_at T t → r ≡ get_or T p 0 → r ≡ kind T t
kind_byte T t p r e h = kind_direct T t p r e (h ∙ sym (at_byte T p))

pub field_direct : (T : List ℕ) (t i p f r : ℕ) → p ≡ row_at T t → f ≡ field_at i → r ≡ at T 2 (p + f) → r ≡ field T t i
unfolding field
field_direct T t i p f r e q h = h ∙ ap (at T 2) (omega arith)

pub field_past : (T : List ℕ) (t i : ℕ) → length T / 2 ≤ i → 0 ≡ field T t i
unfolding field
field_past T t i h = sym (at_past T 2 _ (omega arith))

-- in a part that shows the type row
module _ (T s : List ℕ) (t : ℕ) (shows : Shows T s (row_at T t) 12) (r : ℕ) where
  pub kind_is : r ≡ at s 1 0 → r ≡ kind T t
  unfolding kind
  kind_is h = h ∙ shows.same 1 0 (omega arith) ∙ rw add-zero

  pub spare_is : r ≡ at s 1 1 → r ≡ spare T t
  unfolding spare
  spare_is h = h ∙ shows.same 1 1 (omega arith)

  pub field_is : (i : ℕ) → i ≤ 4 → (f : ℕ) → f ≡ field_at i → r ≡ at s 2 f → r ≡ field T t i
  unfolding field
  field_is i l f q h = h ∙ shows.same 2 f (omega arith) ∙ ap (at T 2) (omega arith)

-- any field, in the part from the row on
pub field_within : (T s : List ℕ) (t i f r : ℕ) → Shows T s (row_at T t) (f + 2) → f ≡ field_at i → r ≡ at s 2 f → r ≡ field T t i
unfolding field
field_within T s t i f r shows q h = h ∙ shows.same 2 f (omega arith) ∙ ap (at T 2) (omega arith)

-- in a part that shows the member row
module _ (T s : List ℕ) (m : ℕ) (shows : Shows T s (member_at T m) 8) (r : ℕ) where
  pub member_type_is : r ≡ at s 2 0 → r ≡ member_type T m
  unfolding member_type
  member_type_is h = h ∙ shows.same 2 0 (omega arith) ∙ rw add-zero

  pub mark_is : r ≡ at s 1 2 → r ≡ mark T m
  unfolding mark
  mark_is h = h ∙ shows.same 1 2 (omega arith)

  pub member_spare_is : r ≡ at s 1 3 → r ≡ member_spare T m
  unfolding member_spare
  member_spare_is h = h ∙ shows.same 1 3 (omega arith)

  pub tag_is : r ≡ at s 4 4 → r ≡ tag T m
  unfolding tag
  tag_is h = h ∙ shows.same 4 4 (omega arith)

-- ---- rows that have a tree

pub rows_least : (T : List ℕ) (n : ℕ) → n ≡ types T → (r : ℕ) → r ≡ min n 256 → r ≡ type_rows T
unfolding type_rows
rows_least T n e r h = go (leb (types T) 256) refl
  where
    go : (b : Bool) → leb (types T) 256 ≡ b → r ≡ pick b (types T) 256
    go true q = omega (arith, leb-true)
    go false q = omega (arith, leb-false)

pub member_row : (T : List ℕ) (m n r : ℕ) → n ≡ members T → m < n → r ≡ member_type T m → ty_of T r ≡ member_ty T (trees T) m
member_row T m n r e h q = ap (ty_of T) q ∙ sym (member_whole T m (omega arith))

pub no_member : (T : List ℕ) (m n : ℕ) → n ≡ members T → n ≤ m → ty_of T 256 ≡ member_ty T (trees T) m
no_member T m n e h = ty_past T 256 (rows_below T) ∙ sym (member_none T m (trees T) (omega arith))

-- a field of a member row, read from the table itself
module _ (T : List ℕ) (m a r : ℕ) (ea : a ≡ member_at T m) where
  here : (k j : ℕ) → r ≡ at T k (a + j) → r ≡ at T k (member_at T m + j)
  here k j e = e ∙ ap (λ (i : ℕ). at T k (i + j)) ea

  pub type_here : r ≡ at T 2 a → r ≡ member_type T m
  unfolding member_type
  type_here e = e ∙ ap (at T 2) ea

  pub mark_here : r ≡ at T 1 (a + 2) → r ≡ mark T m
  unfolding mark
  mark_here e = here 1 2 e

  pub member_spare_here : r ≡ at T 1 (a + 3) → r ≡ member_spare T m
  unfolding member_spare
  member_spare_here e = here 1 3 e

  pub tag_here : r ≡ at T 4 (a + 4) → r ≡ tag T m
  unfolding tag
  tag_here e = here 4 4 e
