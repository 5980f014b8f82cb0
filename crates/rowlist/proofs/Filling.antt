-- What `listing` leaves in its list: the rows of the answer, read back from their bytes. Assumes nothing.
--
--   part_length      the part of the list that the reader gets
--   listing_answer   room for the most rows that there can be is room for any number
--   listing_few      there are no more rows than that
--   listing_rows     the rows, read back from the list
use mathlib.Core.Path.{◌≡◌, refl, sym, ap, ◌∙◌}
use mathlib.Core.Bool.{Bool, true, false}
use mathlib.Core.List.{List, ◌++◌, map, append_assoc}
use Prim.Native.Nat.{ℕ, ◌*◌, ◌/◌, ◌≤◌, min}
use native.Mathlib.Omega.{arith}
use lib.ListN.{length, take, drop, length-take}
use lib.Dec.{leb, eqb}
use borrow.Author.Tests.{leb-true, leb-false, le-leb, lt-leb}
use Rattle.encoding.specs.Result.{Res, ok, bad, pick, concat}
use Rattle.encoding.specs.Number.{Bytes}
use Rattle.encoding.specs.Message.{Read, rules, row_bytes, Answer, refused, accepted, answer, room, within, reading, listed, reading_of}
use Rattle.encoding.specs.declared.Reading.{Reading}
use Rattle.encoding.specs.declared.Reading.TheVariants.{Accepted, Refused}
use Rattle.laws.specs.Demands.{All, end}
use Rattle.laws.proofs.Small.{accepted_small}
use Rattle.laws.proofs.RowsBack.{SmallRow, rows_back, accepted_rows_small}
use Rattle.rowlist.specs.Records.{record_of, records, rows_of}

leb_cut : (l k n : ℕ) → l ≤ n → leb l (min k n) ≡ leb l k
leb_cut l k n h = go (leb l k) refl
  where
    go : (q : Bool) → leb l k ≡ q → leb l (min k n) ≡ leb l k
    go true e = le-leb l (min k n) (omega (arith, leb-true l k e)) ∙ sym e
    go false e = lt-leb l (min k n) (omega (arith, leb-false l k e)) ∙ sym e

module _ (T : List ℕ) (top : ℕ) (m : List ℕ) where
  reading_told : (b : ℕ) → rows_of (reading_of (reading T top m b)) ≡ length (reading T top m b).rows
  unfolding reading within answer accepted refused reading_of rows_of
  reading_told b = go (rules T top m) (leb (length (answer T top (rules T top m)).rows) (room b))
    where
      none : (c p : ℕ) (q : Bool) → rows_of (pick q (Accepted 0 0 0 0 0) (Refused c p)) ≡ 0
      none c p true = refl
      none c p false = refl

      go : (r : Res Read) (q : Bool) → rows_of (reading_of (pick q (answer T top r) (refused 19 (length (answer T top r).rows)))) ≡ length (pick q (answer T top r) (refused 19 (length (answer T top r).rows))).rows
      go (ok rd n) true = refl
      go (ok rd n) false = refl
      go (bad c p) true = none c p (eqb c 0)
      go (bad c p) false = refl

  module _ (y : Bytes m) where
    rows_few : length (answer T top (rules T top m)).rows ≤ 1024
    unfolding answer accepted refused
    rows_few = go (rules T top m) refl
      where
        go : (r : Res Read) → rules T top m ≡ r → length (answer T top r).rows ≤ 1024
        go (ok rd n) e = (accepted_small T top m rd.format rd.pieces n y e).count
        go (bad c p) e = omega arith

    rows_small : All SmallRow (answer T top (rules T top m)).rows
    unfolding answer accepted refused
    rows_small = go (rules T top m) refl
      where
        go : (r : Res Read) → rules T top m ≡ r → All SmallRow (answer T top r).rows
        go (ok rd n) e = accepted_rows_small T top m rd.format rd.pieces n y e
        go (bad c p) e = end

    reading_few : (b : ℕ) → length (reading T top m b).rows ≤ 1024
    unfolding reading within refused
    reading_few b = go (leb (length (answer T top (rules T top m)).rows) (room b))
      where
        go : (q : Bool) → length (pick q (answer T top (rules T top m)) (refused 19 (length (answer T top (rules T top m)).rows))).rows ≤ 1024
        go true = rows_few
        go false = omega arith

    reading_small : (b : ℕ) → All SmallRow (reading T top m b).rows
    unfolding reading within refused
    reading_small b = go (leb (length (answer T top (rules T top m)).rows) (room b))
      where
        go : (q : Bool) → All SmallRow (pick q (answer T top (rules T top m)) (refused 19 (length (answer T top (rules T top m)).rows))).rows
        go true = rows_small
        go false = end

    reading_cut : (k : ℕ) → reading T top m (12 * min k 1024) ≡ reading T top m (12 * k)
    unfolding reading within room
    reading_cut k =
        let a : Answer = answer T top (rules T top m) in
        let f : 12 * min k 1024 / 12 ≡ min k 1024 = omega arith in
        let g : 12 * k / 12 ≡ k = omega arith in
        ap (λ (q : Bool). pick q a (refused 19 (length a.rows)))
        (ap (leb (length a.rows)) f ∙ leb_cut (length a.rows) k 1024 rows_few ∙ ap (leb (length a.rows)) (sym g))

-- ---- what is left in the list

-- k rows of the list are lent to the reader
pub part_length : (k n : ℕ) (list : List ℕ) → k ≡ min n 1024 → length list ≡ 12288 → 12 * k ≡ length (take (12 * k) list)
part_length k n list e l = omega (arith, length-take (12 * k) list)

module _ (T : List ℕ) (top : ℕ) (m : List ℕ) (y : Bytes m) (k n : ℕ) (list : List ℕ) (e : k ≡ min n 1024) (l : length list ≡ 12288) (r : Reading) (h : r ≡ reading_of (reading T top m (length (take (12 * k) list)))) where
  same : reading T top m (length (take (12 * k) list)) ≡ reading T top m (12 * n)
  same = ap (reading T top m) (sym (part_length k n list e l) ∙ ap (λ (i : ℕ). 12 * i) e) ∙ reading_cut T top m y n

  pub listing_answer : r ≡ reading_of (reading T top m (12 * n))
  listing_answer = h ∙ ap reading_of same

  told_rows : rows_of r ≡ length (reading T top m (12 * n)).rows
  told_rows = ap rows_of listing_answer ∙ reading_told T top m (12 * n)

  pub listing_few : rows_of r ≤ 1024
  listing_few = omega (arith, told_rows, reading_few T top m y (12 * n))

  pub listing_rows : (last : List ℕ) → last ≡ listed (reading T top m (length (take (12 * k) list))) (take (12 * k) list)
      → records (last ++ drop (12 * k) list) 0 (rows_of r) ≡ map record_of (reading T top m (12 * n)).rows
  unfolding records listed
  listing_rows last f =
      let a : Answer = reading T top m (12 * n) in
      let rest : List ℕ = drop (12 * length a.rows) (take (12 * k) list) in
      ap (λ (i : ℕ). records (last ++ drop (12 * k) list) 0 i) told_rows
      ∙ ap (map record_of)
      (rows_back (reading_small T top m y (12 * n)) (last ++ drop (12 * k) list) (rest ++ drop (12 * k) list)
      (ap (λ (z : List ℕ). z ++ drop (12 * k) list) (f ∙ ap (λ (b : Answer). listed b (take (12 * k) list)) same) ∙ append_assoc (concat row_bytes a.rows) rest (drop (12 * k) list)))
