-- What a list of allowed enumerators allows: on a list that rises the search finds exactly its entries.
--
--   searched_none                   nothing is found where nothing is left
--   searched_here, _after, _before  a step of the search: the middle entry is the number, is below it, is above it
--   rises_apart                     on a list that rises a later entry is greater
--   allows_among, among_allows      what an enum allows it has, and the other way round
--   most_greatest                   `most` is the greatest, where there is one
use Rattle.std.specs.Prelude.{◌≡◌, Bool, true, false, List, length, get_or, eqb, ltb}
use Rattle.std.proofs.Math.Path.{refl}
use Rattle.std.proofs.Common.{ap, ◌∙◌, arith}
use Rattle.std.proofs.lemmas.Bool.{false≢true}
use Prim.Native.Nat.{ℕ, zero, suc, ◌+◌, ◌-◌, ◌/◌, ◌≤◌, ◌<◌}
use Rattle.std.proofs.Math.Decide.{ℕ_discrete}
use borrow.Author.Tests.{leb-true, le-leb, eqb-true, eq-eqb, ne_eqb, ltb-true, ltb-false, lt-ltb, le-ltb}
use Rattle.encoding.specs.Result.{pick}
use Rattle.encoding.specs.Types.{Allowed, upto, only, searched, allows, most}
use Rattle.encoding.specs.Grammar.{Among, Greatest, Rises, ListRises}

-- ---- a step of the search

module _ (l : List ℕ) (n lo hi : ℕ) where
  pub searched_none : (f : ℕ) → hi ≤ lo → searched f l n lo hi ≡ false
  unfolding searched
  searched_none zero h = refl
  searched_none (suc f) h = rw (le-ltb lo hi h)

  module _ (f : ℕ) (some : lo < hi) where
    pub searched_here : get_or l ((lo + hi) / 2) 0 ≡ n → searched (suc f) l n lo hi ≡ true
    unfolding searched
    searched_here e = rw (lt-ltb lo hi some, eq-eqb (get_or l ((lo + hi) / 2) 0) n e)

    pub searched_after : get_or l ((lo + hi) / 2) 0 < n → searched (suc f) l n lo hi ≡ searched f l n (suc ((lo + hi) / 2)) hi
    unfolding searched
    searched_after h = rw (lt-ltb lo hi some, ne_eqb (get_or l ((lo + hi) / 2) 0) n (λ e. omega arith), lt-ltb (get_or l ((lo + hi) / 2) 0) n h)

    pub searched_before : n < get_or l ((lo + hi) / 2) 0 → searched (suc f) l n lo hi ≡ searched f l n lo ((lo + hi) / 2)
    unfolding searched
    searched_before h = rw (lt-ltb lo hi some, ne_eqb (get_or l ((lo + hi) / 2) 0) n (λ e. omega arith), le-ltb (get_or l ((lo + hi) / 2) 0) n (omega arith))

-- ---- what it finds

-- whatever the list, what is found is an entry
found_among : (l : List ℕ) (n f lo hi : ℕ) → hi ≤ length l → searched f l n lo hi ≡ true → Among (only l) n
unfolding searched
found_among l n zero lo hi k h = absurd (false≢true h)
found_among l n (suc f) lo hi k h =
    go (ltb lo hi) refl (eqb x n) refl (ltb x n) h (λ e. found_among l n f (suc mid) hi k e) (λ s e. found_among l n f lo mid (omega arith) e)
  where
    mid : ℕ
    mid = (lo + hi) / 2

    x : ℕ
    x = get_or l mid 0

    go : (a : Bool) → ltb lo hi ≡ a → (b : Bool) → eqb x n ≡ b → (c : Bool)
        → pick a (pick b true (pick c (searched f l n (suc mid) hi) (searched f l n lo mid))) false ≡ true
        → (searched f l n (suc mid) hi ≡ true → Among (only l) n) → (lo < hi → searched f l n lo mid ≡ true → Among (only l) n) → Among (only l) n
    go true ea true eb c h after before = let s = ltb-true lo hi ea in (mid, omega arith, eqb-true x n eb)
    go true ea false eb true h after before = after h
    go true ea false eb false h after before = before (ltb-true lo hi ea) h
    go false ea b eb c h after before = absurd (false≢true h)

-- on a list that rises, a later entry is greater
pub rises_apart : (l : List ℕ) → Rises l → (i j : ℕ) → i < j → j < length l → get_or l i 0 < get_or l j 0
rises_apart l R i zero h k = absurd (omega arith)
rises_apart l R i (suc j) h k = elim (ℕ_discrete i j) [
  | yes e ↦ rw e (R j k)
  | no e ↦ omega (arith, rises_apart l R i j (omega (arith, e)) (omega arith), R j k)
]

-- so an entry that is below another comes before it
rises_before : (l : List ℕ) → Rises l → (i j : ℕ) → i < length l → get_or l i 0 < get_or l j 0 → i < j
rises_before l R i j k h = go (ltb i j) refl
  where
    go : (b : Bool) → ltb i j ≡ b → i < j
    go true e = ltb-true i j e
    go false e =
        let m : j ≤ i = ltb-false i j e in
        elim (ℕ_discrete j i) [ yes q ↦ absurd (omega (arith, ap (λ (x : ℕ). get_or l x 0) q)) | no q ↦ absurd (omega (arith, rises_apart l R j i (omega (arith, q)) k)) ]

among_found : (l : List ℕ) → Rises l → (n f lo hi i : ℕ) → hi ≤ length l → hi ≤ lo + f → lo ≤ i → i < hi → get_or l i 0 ≡ n → searched f l n lo hi ≡ true
among_found l R n zero lo hi i k g a b e = absurd (omega arith)
among_found l R n (suc f) lo hi i k g a b e = elim (ℕ_discrete (get_or l mid 0) n) [
  | yes q ↦ searched_here l n lo hi f (omega arith) q
  | no q ↦ go (ltb (get_or l mid 0) n) refl q (λ h. among_found l R n f (suc mid) hi i k (omega arith) h b e) (λ h. among_found l R n f lo mid i (omega arith) (omega arith) a h e)
]
  where
    mid : ℕ
    mid = (lo + hi) / 2

    go : (c : Bool) → ltb (get_or l mid 0) n ≡ c → (get_or l mid 0 ≡ n → ⊥) → (suc mid ≤ i → searched f l n (suc mid) hi ≡ true) → (i < mid → searched f l n lo mid ≡ true) → searched (suc f) l n lo hi ≡ true
    go true ec q after before =
        let h = ltb-true (get_or l mid 0) n ec in
        searched_after l n lo hi f (omega arith) h ∙ after (rises_before l R mid i (omega arith) (omega arith))
    go false ec q after before =
        let h = ltb-false (get_or l mid 0) n ec in
        searched_before l n lo hi f (omega arith) (omega (arith, q)) ∙ before (rises_before l R i mid (omega arith) (omega (arith, q)))

-- ---- what an enum allows

pub allows_among : (a : Allowed) (n : ℕ) → allows a n ≡ true → Among a n
unfolding allows
allows_among (upto g) n h = leb-true n g h
allows_among (only l) n h = found_among l n (length l) 0 (length l) (omega arith) h

pub among_allows : (a : Allowed) (n : ℕ) → ListRises a → Among a n → allows a n ≡ true
unfolding allows
among_allows (upto g) n R h = le-leb n g h
among_allows (only l) n R h = among_found l R n (length l) 0 (length l) h.0 (omega arith) (omega arith) (omega arith) h.1 h.2

pub most_greatest : (a : Allowed) → ListRises a → (n : ℕ) → Among a n → Greatest a (most a)
unfolding most
most_greatest (upto g) R n h = record { among = omega arith; most = λ m k. k }
most_greatest (only l) R n h = record { among = (length l - 1, omega (arith, h.1), refl); most = λ m k. below m k.0 k.1 k.2 }
  where
    below : (m i : ℕ) → i < length l → get_or l i 0 ≡ m → m ≤ get_or l (length l - 1) 0
    below m i k e = elim (ℕ_discrete i (length l - 1)) [
      | yes q ↦ omega (arith, ap (λ (x : ℕ). get_or l x 0) q)
      | no q ↦ omega (arith, rises_apart l R i (length l - 1) (omega (arith, q)) (omega arith))
    ]
