-- A tag that is not below the least is found after the members that were passed. Assumes nothing.
--
--   first_begun, first_most   the first optional row is none before the first row, nor after the end
--   passed_none       before the first tag
--   passed_still      after a tag, the look-up from where it was
--   passed_behind     after a tag, the look-up after its member
--   Own, found_own    what the look-up of a tag among the optional members of rows says of the member found
--   optional_own      the same among those of a row
--   passed_lookup     the member of a tag, looked up after the members passed
use Rattle.std.specs.Prelude.{◌≡◌, Bool, true, false, List, ◌∷◌, ℕ, zero, suc, ◌+◌, ◌-◌, ◌≤◌, ◌<◌, eqb, ltb}
use Rattle.std.proofs.Math.Path.{refl, ap}
use Rattle.std.proofs.Common.{sym, ap₂, ◌∙◌, subst, add-zero, eqb-true, ltb-true, ltb-false, ne_eqb}
use Rattle.std.proofs.Math.Option.{some}
use Rattle.std.proofs.Math.Nat.{sub-zero}
use native.Mathlib.Omega.{arith}
use Rattle.std.proofs.lemmas.Bool.{eqb-false}
use Rattle.encoding.specs.Result.{pick}
use Rattle.encoding.specs.Types.{Ty}
use Rattle.encoding.specs.Table.{field, mark, tag, range, trees, Member, member_ty, optionals_in, own_rows, optional_members, lookup}
use Rattle.table.specs.Tags.{optional_from, first_optional, optional_start, is_above, first_above, behind, Passed}

-- ---- where the optional members begin

pub first_begun : (T : List ℕ) (end n m : ℕ) → m + n ≤ end → m ≤ first_optional T end m n
unfolding first_optional
first_begun T end zero m h = omega arith
first_begun T end (suc n) m h = go (eqb (mark T m) 0) (first_begun T end n (suc m) (omega arith))
  where
    go : (b : Bool) → suc m ≤ first_optional T end (suc m) n → m ≤ pick b (first_optional T end (suc m) n) m
    go true l = omega arith
    go false l = omega arith

pub first_most : (T : List ℕ) (end n m : ℕ) → m + n ≤ end → first_optional T end m n ≤ end
unfolding first_optional
first_most T end zero m h = omega arith
first_most T end (suc n) m h = go (eqb (mark T m) 0) (first_most T end n (suc m) (omega arith))
  where
    go : (b : Bool) → first_optional T end (suc m) n ≤ end → pick b (first_optional T end (suc m) n) m ≤ end
    go true l = l
    go false l = omega arith

first_required : (T : List ℕ) (end n m i : ℕ) → m + n ≡ end → m ≤ i → i < first_optional T end m n → mark T i ≡ 0
unfolding first_optional
first_required T end zero m i e h l = absurd (omega arith)
first_required T end (suc n) m i e h l = go (eqb (mark T m) 0) refl (eqb m i) refl l (λ s l. first_required T end n (suc m) i (omega arith) s l)
  where
    go : (b : Bool) → eqb (mark T m) 0 ≡ b → (c : Bool) → eqb m i ≡ c → i < pick b (first_optional T end (suc m) n) m → (suc m ≤ i → i < first_optional T end (suc m) n → mark T i ≡ 0) → mark T i ≡ 0
    go true f true d l again = ap (mark T) (sym (eqb-true m i d)) ∙ eqb-true (mark T m) 0 f
    go true f false d l again = let z = eqb-false m i d in again (omega arith) l
    go false f c d l again = absurd (omega arith)

-- ---- what was passed

above_below : (T : List ℕ) (k end n m i : ℕ) → m ≤ i → i < first_above T k end m n → (mark T i ≡ 0 → ⊥) → (m + n ≤ i → i < end → tag T i ≤ k) → tag T i ≤ k
unfolding first_above
above_below T k end zero m i h l o last = last (omega arith) l
above_below T k end (suc n) m i h l o last =
    go (is_above T k m) refl (eqb m i) refl l (λ s l. above_below T k end n (suc m) i s l o (λ a. last (omega arith)))
  where
    here : m ≡ i → is_above T k m ≡ false → tag T i ≤ k
    here e f = ltb-false k (tag T i) (rw (e, ne_eqb (mark T i) 0 o) at f)

    go : (b : Bool) → is_above T k m ≡ b → (c : Bool) → eqb m i ≡ c → i < pick b m (first_above T k end (suc m) n) → (suc m ≤ i → i < first_above T k end (suc m) n → tag T i ≤ k) → tag T i ≤ k
    go true f c e l again = absurd (omega arith)
    go false f true e l again = here (eqb-true m i e) f
    go false f false e l again = let d = eqb-false m i e in again (omega arith) l

above_begun : (T : List ℕ) (k end a n m : ℕ) → a ≤ m → a ≤ end → a ≤ first_above T k end m n
unfolding first_above
above_begun T k end a zero m h l = l
above_begun T k end a (suc n) m h l = go (is_above T k m) (above_begun T k end a n (suc m) (omega arith) l)
  where
    go : (b : Bool) → a ≤ first_above T k end (suc m) n → a ≤ pick b m (first_above T k end (suc m) n)
    go true q = h
    go false q = q

module _ (T : List ℕ) (t end from : ℕ) where
  pub passed_none : end ≡ field T t 0 + field T t 1 → from ≡ optional_start T t → Passed T t end from 0
  unfolding optional_start
  passed_none e f =
      let last = field T t 0 + field T t 1 in
      record {
        ends = e;
        starts = omega (arith, first_begun T last (field T t 1) (field T t 0) (omega arith));
        below = λ m a l o. absurd (o (first_required T last (field T t 1) (field T t 0) m refl a (omega arith)));
      }

  module _ (least : ℕ) (P : Passed T t end from least) (k : ℕ) (h : least ≤ k) where
    pub passed_still : Passed T t end from (k + 1)
    passed_still = record { ends = P.ends; starts = P.starts; below = λ m a l o. omega (arith, P.below m a l o) }

    pub passed_behind : (m : ℕ) → field T t 0 ≤ m → tag T m ≡ k → Passed T t end (behind T from m k) (k + 1)
    unfolding behind
    passed_behind m s e = record { ends = P.ends; starts = above_begun T k (m + 1) (field T t 0) (m - from) from P.starts (omega arith); below = less }
      where
        last : (i : ℕ) → m ≤ i → i < m + 1 → tag T i ≤ k
        last i p q = let z : i ≡ m = omega arith in omega (arith, ap (tag T) z)

        less : (i : ℕ) → field T t 0 ≤ i → i < first_above T k (m + 1) from (m - from) → (mark T i ≡ 0 → ⊥) → tag T i < k + 1
        less i a l o = go (ltb i from) refl
          where
            go : (b : Bool) → ltb i from ≡ b → tag T i < k + 1
            go true f = omega (arith, P.below i a (ltb-true i from f) o)
            go false f = omega (arith, above_below T k (m + 1) (m - from) from i (ltb-false i from f) l o (λ p. last i (omega arith)))

-- ---- the look-up

-- the optional member of a tag is one of the rows, has the tag, and is of its row's type
pub record Own (T : List ℕ) (l : List Ty) (k start end : ℕ) (x : Member) : Type 0 where
  pub begun : start ≤ x.row
  pub within : x.row < end
  pub tag_is : tag T x.row ≡ k
  pub type_is : x.ty ≡ member_ty T l x.row

pub found_own : (T : List ℕ) (l : List Ty) (k n m : ℕ) (x : Member) → lookup k (optionals_in T l (range m n)) ≡ some x → Own T l k m (m + n) x
unfolding optionals_in lookup range
found_own T l k zero m x h = let z : ◌≡◌ {A = ℕ} 0 1 = cc in absurd (omega arith)
found_own T l k (suc n) m x h =
    go (eqb (mark T m) 0) h λ e.
    let A = found_own T l k n (suc m) x e in
    record { begun = omega (arith, A.begun); within = omega (arith, A.within); tag_is = A.tag_is; type_is = A.type_is }
  where
    here : Member
    here = record { row = m; key = tag T m; ty = member_ty T l m }

    rest : List Member
    rest = optionals_in T l (range (suc m) n)

    by : (b : Bool) → eqb k (tag T m) ≡ b → pick b (some here) (lookup k rest) ≡ some x → (lookup k rest ≡ some x → Own T l k m (m + suc n) x) → Own T l k m (m + suc n) x
    by true e h again =
        let z : here ≡ x = cc in
        subst (Own T l k m (m + suc n)) z (record { begun = omega arith; within = omega arith; tag_is = omega (arith, eqb-true k (tag T m) e); type_is = refl })
    by false e h again = again h

    go : (a : Bool) → lookup k (pick a rest (here ∷ rest)) ≡ some x → (lookup k rest ≡ some x → Own T l k m (m + suc n) x) → Own T l k m (m + suc n) x
    go true h again = again h
    go false h again = by (eqb k (tag T m)) refl h again

pub optional_own : (T : List ℕ) (t k : ℕ) (x : Member) → lookup k (optional_members T t) ≡ some x → Own T (trees T) k (field T t 0) (field T t 0 + field T t 1) x
unfolding optional_members own_rows
optional_own T t k x h = found_own T (trees T) k (field T t 1) (field T t 0) x h

-- rows whose tags are others
rows_past : (T : List ℕ) (l : List Ty) (k d m n : ℕ) → ((i : ℕ) → m ≤ i → i < m + d → (mark T i ≡ 0 → ⊥) → tag T i < k)
    → lookup k (optionals_in T l (range m n)) ≡ lookup k (optionals_in T l (range (m + d) (n - d)))
unfolding optionals_in lookup range
rows_past T l k zero m n p = rw (add-zero m, sub-zero n)
rows_past T l k (suc d) m zero p = let e : 0 - suc d ≡ 0 = omega arith in rw e
rows_past T l k (suc d) m (suc n) p =
    go (eqb (mark T m) 0) refl ∙ rows_past T l k d (suc m) n (λ i a b o. p i (omega arith) (omega arith) o)
    ∙ let e : suc m + d ≡ m + suc d = omega arith in let f : n - d ≡ suc n - suc d = omega arith in ap₂ (λ (x y : ℕ). lookup k (optionals_in T l (range x y))) e f
  where
    rest : List Member
    rest = optionals_in T l (range (suc m) n)

    go : (b : Bool) → eqb (mark T m) 0 ≡ b → lookup k (pick b rest (record { row = m; key = tag T m; ty = member_ty T l m } ∷ rest)) ≡ lookup k rest
    go true e = refl
    go false e = rw (ne_eqb k (tag T m) (λ q. omega (arith, p m (omega arith) (omega arith) (eqb-false (mark T m) 0 e))))

pub passed_lookup : (T : List ℕ) (t end from least : ℕ) → Passed T t end from least → (k : ℕ) → least ≤ k → lookup k (optional_members T t) ≡ lookup k (optional_from T end from)
unfolding optional_members own_rows optional_from
passed_lookup T t end from least P k h =
    let u = P.starts in
    let v = P.ends in
    let e : field T t 0 + (from - field T t 0) ≡ from = omega arith in
    let f : field T t 1 - (from - field T t 0) ≡ end - from = omega arith in
    rows_past T (trees T) k (from - field T t 0) (field T t 0) (field T t 1) (λ i a b o. omega (arith, P.below i a (omega arith) o))
    ∙ ap₂ (λ (x y : ℕ). lookup k (optionals_in T (trees T) (range x y))) e f
