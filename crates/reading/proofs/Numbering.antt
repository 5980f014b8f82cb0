-- The reader's answer with lent bytes for its numbers. Assumes nothing.
--
--   short_accepted, short_refused         the answer of too few bytes, case by case
--   five_put                              five numbers put one after another
--   five_lent, none_put                   the numbers of an answer put, case by case
--   skipped_few, same_done, told_few   a walk over a message skips few optionals; it and its answer stay the same where their number is bounded
--   few_told, few_listed, few_numbered    answer, list and numbers where the bytes are too few
--   enough_told, enough_listed, enough_numbered   the same where they are not
use mathlib.Core.Path.{◌≡◌, refl, sym, ap, ◌∙◌}
use mathlib.Core.Bool.{Bool, true, false, not}
use mathlib.Core.List.{List, ◌++◌, append-nil}
use Prim.Native.Nat.{ℕ, ◌≤◌, ◌<◌, min}
use native.Mathlib.Omega.{arith}
use lib.ListN.{length, drop, length-append, drop_of_length-le}
use lib.Dec.{eqb}
use borrow.Rule.Slice.PartMut.{put_mid}
use borrow.Author.Tests.{le-leb, lt-leb, eqb-false}
use Rattle.encoding.specs.Result.{Res, ok, bad, pick, concat}
use Rattle.encoding.specs.Number.{le_bytes}
use Rattle.encoding.proofs.NumberLaws.{length_le_bytes}
use Rattle.encoding.specs.Message.{Read, rules, optionals_skipped, Answer, refused, reading, listed, reading_of}
use Rattle.encoding.specs.declared.Reading.{Reading}
use Rattle.encoding.specs.declared.Reading.TheVariants.{Accepted, Refused}
use Rattle.wire.specs.Put.{put}
use Rattle.wire.specs.PutLaws.{put_put, put_front}
use Rattle.slices.specs.Walks.{body_walk, read_done}
use Rattle.slices.specs.declared.Walk.{Walk}
use Rattle.slices.specs.declared.Walk.TheVariants.{Done}
use Rattle.laws.proofs.Small.{accepted_small}
use Rattle.laws.proofs.Refusals.{reader_refuses}
use Rattle.reading.specs.Told.{Listed, told_of}
use Rattle.reading.specs.Numbers.{within_numbers, reading_numbered, short_of, five_numbers, five_bytes, with_numbers, FewSkipped}

-- ---- few optionals are skipped

pub skipped_few : (T : List ℕ) (top : ℕ) (m : List ℕ) (w : Walk) (R last : List ℕ) → Listed T top m w R last → FewSkipped w
unfolding body_walk read_done
skipped_few T top m w R last L = record { few = λ t g n o s e q. go t g n o s e (rules T top m) refl (sym q ∙ L.says) }
  where
    go : (t g n o s e : ℕ) (r : Res Read) → rules T top m ≡ r → Done t g n o s e ≡ body_walk T top r → o ≤ 65536
    go t g n o s e (ok rd x) z h =
        let y : o ≡ optionals_skipped rd.pieces = cc in
        omega (arith, (accepted_small T top m rd.format rd.pieces x L.bytes z).optionals)
    go t g n o s e (bad c p) z h = let y : ◌≡◌ {A = ℕ} 0 1 = cc in absurd (omega arith)

pub same_done : (w : Walk) → FewSkipped w → (t g n o s e : ℕ) → w ≡ Done t g n o s e → (x : ℕ) → x ≡ min o 4294967295 → Done t g n x s e ≡ w
same_done w F t g n o s e q x ex = let y : x ≡ o = omega (arith, F.few t g n o s e q) in ap (λ (i : ℕ). Done t g n i s e) y ∙ sym q

pub told_few : (w v : Walk) → v ≡ w → (k : ℕ) (r : Reading) → r ≡ told_of k v → r ≡ told_of k w
told_few w v e k r er = er ∙ ap (told_of k) e

-- ---- an answer, case by case

length_five : (t g n o s : ℕ) → length (five_numbers t g n o s) ≡ 20
unfolding five_numbers
length_five t g n o s =
    let b₁ = length_le_bytes 4 t in
    let b₂ = length_le_bytes 4 g in
    let b₃ = length_le_bytes 4 n in
    let b₄ = length_le_bytes 4 o in
    let b₅ = length_le_bytes 4 s in
    let l₂ = length-append (le_bytes 4 t) (le_bytes 4 g) in
    let l₃ = length-append (le_bytes 4 t ++ le_bytes 4 g) (le_bytes 4 n) in
    let l₄ = length-append (le_bytes 4 t ++ le_bytes 4 g ++ le_bytes 4 n) (le_bytes 4 o) in
    let l₅ = length-append (le_bytes 4 t ++ le_bytes 4 g ++ le_bytes 4 n ++ le_bytes 4 o) (le_bytes 4 s) in
    omega arith

module _ (t g n o s : ℕ) (lent u v w x y : List ℕ) (h : length lent ≡ 20) where
  -- put one after another
  pub five_put : u ≡ put 0 (le_bytes 4 t) lent → v ≡ put 4 (le_bytes 4 g) u → w ≡ put 8 (le_bytes 4 n) v → x ≡ put 12 (le_bytes 4 o) w → y ≡ put 16 (le_bytes 4 s) x → y ≡ five_numbers t g n o s
  unfolding five_numbers
  five_put eu ev ew ex ey =
      let b₁ = length_le_bytes 4 t in
      let b₂ = length_le_bytes 4 g in
      let b₃ = length_le_bytes 4 n in
      let b₄ = length_le_bytes 4 o in
      let b₅ = length_le_bytes 4 s in
      let l₂ = length-append (le_bytes 4 t) (le_bytes 4 g) in
      let l₃ = length-append (le_bytes 4 t ++ le_bytes 4 g) (le_bytes 4 n) in
      let l₄ = length-append (le_bytes 4 t ++ le_bytes 4 g ++ le_bytes 4 n) (le_bytes 4 o) in
      let v' : v ≡ put 0 (le_bytes 4 t ++ le_bytes 4 g) lent = ev ∙ ap (put 4 (le_bytes 4 g)) eu ∙ put_put 0 4 (le_bytes 4 t) (le_bytes 4 g) lent (omega arith) (omega arith) in
      let w' : w ≡ put 0 (le_bytes 4 t ++ le_bytes 4 g ++ le_bytes 4 n) lent =
      ew ∙ ap (put 8 (le_bytes 4 n)) v' ∙ put_put 0 8 (le_bytes 4 t ++ le_bytes 4 g) (le_bytes 4 n) lent (omega arith) (omega arith) in
      let x' : x ≡ put 0 (le_bytes 4 t ++ le_bytes 4 g ++ le_bytes 4 n ++ le_bytes 4 o) lent =
      ex ∙ ap (put 12 (le_bytes 4 o)) w' ∙ put_put 0 12 (le_bytes 4 t ++ le_bytes 4 g ++ le_bytes 4 n) (le_bytes 4 o) lent (omega arith) (omega arith) in
      ey ∙ ap (put 16 (le_bytes 4 s)) x' ∙ put_put 0 16 (le_bytes 4 t ++ le_bytes 4 g ++ le_bytes 4 n ++ le_bytes 4 o) (le_bytes 4 s) lent (omega arith) (omega arith)
      ∙ put_front (five_numbers t g n o s) lent (omega (arith, length_five t g n o s))
      ∙ ap (λ (z : List ℕ). five_numbers t g n o s ++ z) (drop_of_length-le lent {i = length (five_numbers t g n o s)} (omega (arith, length_five t g n o s))) ∙ append-nil (five_numbers t g n o s)

module _ (a : Reading) (t g n o s : ℕ) (e : a ≡ Accepted t g n o s) where
  pub short_accepted : Refused 22 20 ≡ short_of a
  unfolding short_of
  short_accepted = sym (ap short_of e)

  pub five_lent : (lent x : List ℕ) → x ≡ five_numbers t g n o s → put_mid 0 20 lent x ≡ with_numbers a lent
  unfolding with_numbers five_bytes
  five_lent lent x ex =
      ap (λ (z : List ℕ). z ++ drop 20 lent) ex
      ∙ ap (λ (i : ℕ). five_numbers t g n o s ++ drop i lent) (sym (length_five t g n o s)) ∙ sym (ap (λ (r : Reading). with_numbers r lent) e)

module _ (a : Reading) (c p : ℕ) (e : a ≡ Refused c p) where
  pub short_refused : Refused c p ≡ short_of a
  unfolding short_of
  short_refused = sym (ap short_of e)

  pub none_put : (lent : List ℕ) → lent ≡ with_numbers a lent
  unfolding with_numbers five_bytes
  none_put lent = sym (ap (λ (r : Reading). with_numbers r lent) e)

-- ---- with lent bytes for the numbers

module _ (T : List ℕ) (top : ℕ) (m : List ℕ) (b n : ℕ) where
  module _ (h : n < 20) where
    few : reading_numbered T top m b n ≡ pick (not (eqb (reading T top m b).refusal 0)) (reading T top m b) (refused 22 20)
    unfolding reading_numbered within_numbers
    few = rw (lt-leb 20 n h)

    pub few_told : (a : Reading) → a ≡ reading_of (reading T top m b) → (r : Reading) → r ≡ short_of a → r ≡ reading_of (reading_numbered T top m b n)
    unfolding reading_of short_of refused
    few_told a ea r er = er ∙ ap short_of ea ∙ go (reading T top m b) (eqb (reading T top m b).refusal 0) refl ∙ sym (ap reading_of few)
      where
        go : (x : Answer) (z : Bool) → eqb x.refusal 0 ≡ z → short_of (reading_of x) ≡ reading_of (pick (not (eqb x.refusal 0)) x (refused 22 20))
        go x true e = rw e
        go x false e = rw (e, e)

    pub few_listed : (R : List ℕ) → R ≡ listed (reading_numbered T top m b n) R
    unfolding listed concat refused
    few_listed R = sym (ap (λ (x : Answer). listed x R) few ∙ go (eqb (reading T top m b).refusal 0) refl)
      where
        go : (z : Bool) → eqb (reading T top m b).refusal 0 ≡ z → listed (pick (not z) (reading T top m b) (refused 22 20)) R ≡ R
        go true e = refl
        go false e = (reader_refuses T top m b (eqb-false _ _ e)).1.list_kept R

    pub few_numbered : (lent : List ℕ) → lent ≡ with_numbers (reading_of (reading_numbered T top m b n)) lent
    unfolding reading_of with_numbers five_bytes refused
    few_numbered lent = sym (ap (λ (x : Answer). with_numbers (reading_of x) lent) few ∙ go (reading T top m b) (eqb (reading T top m b).refusal 0) refl)
      where
        go : (x : Answer) (z : Bool) → eqb x.refusal 0 ≡ z → with_numbers (reading_of (pick (not (eqb x.refusal 0)) x (refused 22 20))) lent ≡ lent
        go x true e = rw e
        go x false e = rw (e, e)

  module _ (h : 20 ≤ n) where
    enough : reading_numbered T top m b n ≡ reading T top m b
    unfolding reading_numbered within_numbers
    enough = rw (le-leb 20 n h)

    pub enough_told : (a : Reading) → a ≡ reading_of (reading T top m b) → a ≡ reading_of (reading_numbered T top m b n)
    enough_told a ea = ea ∙ sym (ap reading_of enough)

    pub enough_listed : (R x : List ℕ) → x ≡ listed (reading T top m b) R → x ≡ listed (reading_numbered T top m b n) R
    enough_listed R x e = e ∙ sym (ap (λ (y : Answer). listed y R) enough)

    pub enough_numbered : (a : Reading) → a ≡ reading_of (reading T top m b) → (lent x : List ℕ) → x ≡ with_numbers a lent → x ≡ with_numbers (reading_of (reading_numbered T top m b n)) lent
    enough_numbered a ea lent x e = e ∙ ap (λ (r : Reading). with_numbers r lent) (enough_told a ea)
