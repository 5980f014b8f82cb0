-- No difference comes before itself: a name, a number, a position and a tag belong to one owner or one member. Assumes nothing.
use Rattle.std.specs.Prelude.{◌≡◌, refl, Bool, true, false, ◌⊎◌, List, [], ◌∷◌, ℕ, zero, suc, ◌≤◌, ◌<◌, eqb}
use Rattle.std.proofs.Common.{sym, ap, ◌∙◌, subst, true≢false, inl, inr, arith, eqb-true}
use Rattle.std.proofs.Math.Option.{Option, none, some}
use Rattle.encoding.specs.Result.{pick}
use Rattle.encoding.proofs.ResultLaws.{some≢none}
use Rattle.encoding.specs.Types.{Ty}
use Rattle.encoding.specs.Table.{kind, is_record, Member, lookup, range, field, mark, tag, member_ty, requireds_in, required_members, optional_members, own_rows, trees, name_of}
use Rattle.encoding.proofs.RuleLaws.{required_among, optional_own}
use Rattle.differences.specs.Compare.{Difference, member_row, precedes}
use Rattle.differences.specs.CompareDemands.{ListNumber, MembersDiffer, Differs, record_only_old, record_only_new, list_only_old, list_only_new, base_differs, required_differs, optional_differs, Named, Numbered, Before, by_name, old_first, records_first, by_number, by_what, by_place, OrderStrict}
use Rattle.differences.specs.CompareDemands
use Rattle.differences.specs.FindLaws.{one_there}
use Rattle.differences.specs.OrderLaws.{precedes_strict}

-- ---- owners

name_one : (old new : List ℕ) (d : Difference) (x y : List ℕ) → Named old new d x → Named old new d y → x ≡ y
name_one old new d x y (CompareDemands.Named.of_old t a r p) (CompareDemands.Named.of_old u b s q) = sym p ∙ ap (name_of old) (same t u (sym a ∙ b)) ∙ q
  where
    same : (t u : ℕ) → suc t ≡ suc u → t ≡ u
    same t u e = omega arith
name_one old new d x y (CompareDemands.Named.of_old t a r p) (CompareDemands.Named.of_new u b c s q) = absurd (omega (arith, a, b))
name_one old new d x y (CompareDemands.Named.of_new t a c r p) (CompareDemands.Named.of_old u b s q) = absurd (omega (arith, a, b))
name_one old new d x y (CompareDemands.Named.of_new t a c r p) (CompareDemands.Named.of_new u b e s q) = sym p ∙ ap (name_of new) (same t u (sym c ∙ e)) ∙ q
  where
    same : (t u : ℕ) → suc t ≡ suc u → t ≡ u
    same t u e = omega arith

number_one : (old new : List ℕ) (d : Difference) (j k : ℕ) → Numbered old new d j → Numbered old new d k → j ≡ k
number_one old new d j k (CompareDemands.Numbered.of_old t a p) (CompareDemands.Numbered.of_old u b q) = sym p.number ∙ ap (CompareDemands.lists_before old) (same t u (sym a ∙ b)) ∙ q.number
  where
    same : (t u : ℕ) → suc t ≡ suc u → t ≡ u
    same t u e = omega arith
number_one old new d j k (CompareDemands.Numbered.of_old t a p) (CompareDemands.Numbered.of_new u b c q) = absurd (omega (arith, a, b))
number_one old new d j k (CompareDemands.Numbered.of_new t a c p) (CompareDemands.Numbered.of_old u b q) = absurd (omega (arith, a, b))
number_one old new d j k (CompareDemands.Numbered.of_new t a c p) (CompareDemands.Numbered.of_new u b e q) = sym p.number ∙ ap (CompareDemands.lists_before new) (same t u (sym c ∙ e)) ∙ q.number
  where
    same : (t u : ℕ) → suc t ≡ suc u → t ≡ u
    same t u e = omega arith

not_both : (T : List ℕ) (t u : ℕ) → suc t ≡ suc u → is_record (kind T t) ≡ true → kind T u ≡ 15 → ⊥
not_both T t u e r k = let z : t ≡ u = omega arith in true≢false (sym r ∙ ap (λ (x : ℕ). is_record (kind T x)) z ∙ ap (λ (x : ℕ). is_record x) k)

record_or_list : (old new : List ℕ) (d : Difference) (x : List ℕ) (k : ℕ) → Named old new d x → Numbered old new d k → ⊥
record_or_list old new d x k (CompareDemands.Named.of_old t a r p) (CompareDemands.Numbered.of_old u b q) = not_both old t u (sym a ∙ b) r q.a_list
record_or_list old new d x k (CompareDemands.Named.of_old t a r p) (CompareDemands.Numbered.of_new u b c q) = omega (arith, a, b)
record_or_list old new d x k (CompareDemands.Named.of_new t a c r p) (CompareDemands.Numbered.of_old u b q) = omega (arith, a, b)
record_or_list old new d x k (CompareDemands.Named.of_new t a c r p) (CompareDemands.Numbered.of_new u b e q) = not_both new t u (sym c ∙ e) r q.a_list

first_not : (old new : List ℕ) (d : Difference) (x : List ℕ) → Named old new d x → d.owner' ≡ 0 → d.owner ≡ 0 → ⊥
first_not old new d x (CompareDemands.Named.of_old t a r p) e f = omega (arith, a, f)
first_not old new d x (CompareDemands.Named.of_new u a c r p) e f = omega (arith, c, e)

-- ---- members

-- a required row has one position
row_position : (T : List ℕ) (l : List Ty) (i j k a b : ℕ) (m n : Member) → lookup j (requireds_in T l i (range a b)) ≡ some m → lookup k (requireds_in T l i (range a b)) ≡ some n → m.row ≡ n.row → j ≡ k
unfolding lookup requireds_in range
row_position T l i j k a zero m n p q e = absurd (some≢none p refl)
row_position T l i j k a (suc b) m n p q e = go (eqb (mark T a) 0) p q (λ h v w. row_position T l h j k (suc a) b m n v w e)
  where
    head_row : (x y : Member) → some x ≡ some y → x.row ≡ y.row
    head_row x y z = ap (λ (o : Option Member). row_of o) z
      where
        row_of : Option Member → ℕ
        row_of none = 0
        row_of (some v) = v.row

    two : (c : Bool) → eqb j i ≡ c → (d : Bool) → eqb k i ≡ d
        → pick c (some (record { row = a; key = i; ty = member_ty T l a })) (lookup j (requireds_in T l (suc i) (range (suc a) b))) ≡ some m
        → pick d (some (record { row = a; key = i; ty = member_ty T l a })) (lookup k (requireds_in T l (suc i) (range (suc a) b))) ≡ some n
        → ((h : ℕ) → lookup j (requireds_in T l h (range (suc a) b)) ≡ some m → lookup k (requireds_in T l h (range (suc a) b)) ≡ some n → j ≡ k) → j ≡ k
    two true x true y v w ih = eqb-true j i x ∙ sym (eqb-true k i y)
    two true x false y v w ih =
        let O = required_among T l (suc i) k (suc a) b n w in
        absurd (omega (arith, O.from, head_row (record { row = a; key = i; ty = member_ty T l a }) m v, e))
    two false x true y v w ih =
        let O = required_among T l (suc i) j (suc a) b m v in
        absurd (omega (arith, O.from, head_row (record { row = a; key = i; ty = member_ty T l a }) n w, e))
    two false x false y v w ih = ih (suc i) v w

    go : (c : Bool) → lookup j (pick c (record { row = a; key = i; ty = member_ty T l a } ∷ requireds_in T l (suc i) (range (suc a) b)) (requireds_in T l i (range (suc a) b))) ≡ some m
        → lookup k (pick c (record { row = a; key = i; ty = member_ty T l a } ∷ requireds_in T l (suc i) (range (suc a) b)) (requireds_in T l i (range (suc a) b))) ≡ some n
        → ((h : ℕ) → lookup j (requireds_in T l h (range (suc a) b)) ≡ some m → lookup k (requireds_in T l h (range (suc a) b)) ≡ some n → j ≡ k) → j ≡ k
    go true v w ih = two (eqb j i) refl (eqb k i) refl v w ih
    go false v w ih = ih i v w

abbrev OneKey : List Member → Type 0
OneKey ms = (j k : ℕ) (m n : Member) → lookup j ms ≡ some m → lookup k ms ≡ some n → m.row ≡ n.row → j ≡ k

required_key : (T : List ℕ) (t : ℕ) → OneKey (required_members T t)
unfolding required_members own_rows
required_key T t j k m n p q e = row_position T (trees T) 0 j k (field T t 0) (field T t 1) m n p q e

key_found : (k : ℕ) (ms : List Member) (m : Member) → lookup k ms ≡ some m → m.key ≡ k
unfolding lookup
key_found k [] m h = absurd (some≢none h refl)
key_found k (n ∷ ms) m h = go (eqb k n.key) refl h (λ w. key_found k ms m w)
  where
    key_of : Option Member → ℕ
    key_of none = 0
    key_of (some v) = v.key

    go : (b : Bool) → eqb k n.key ≡ b → pick b (some n) (lookup k ms) ≡ some m → (lookup k ms ≡ some m → m.key ≡ k) → m.key ≡ k
    go true q e ih = sym (ap key_of e) ∙ sym (eqb-true k n.key q)
    go false q e ih = ih e

optional_key : (T : List ℕ) (t : ℕ) → OneKey (optional_members T t)
optional_key T t j k m n p q e =
    let A = optional_own T t j m p in
    let B = optional_own T t k n q in
    sym (key_found j (optional_members T t) m p) ∙ A.tagged refl ∙ ap (tag T) e ∙ sym (B.tagged refl) ∙ key_found k (optional_members T t) n q

-- two keys with the same rows, one of which is there
same_rows : (ms ns : List Member) → OneKey ms → OneKey ns → (j k : ℕ) → MembersDiffer ms ns j → member_row (lookup j ms) ≡ member_row (lookup k ms) → member_row (lookup j ns) ≡ member_row (lookup k ns) → j ≡ k
unfolding member_row
same_rows ms ns A B j k n p q = go (one_there (lookup j ms) (lookup j ns) n)
  where
    one : (ls : List Member) → OneKey ls → (m : Member) → lookup j ls ≡ some m → member_row (lookup j ls) ≡ member_row (lookup k ls) → j ≡ k
    one ls C m e r = pass (lookup k ls) refl
      where
        pass : (o : Option Member) → lookup k ls ≡ o → j ≡ k
        pass none z = absurd (omega (arith, sym (ap member_row e) ∙ r ∙ ap member_row z))
        pass (some x) z = C j k m x e z (omega (arith, sym (ap member_row e) ∙ r ∙ ap member_row z))

    go : ((m : Member) × (lookup j ms ≡ some m)) ⊎ ((lookup j ms ≡ none) × ((x : Member) × (lookup j ns ≡ some x))) → j ≡ k
    go (inl x) = one ms A x.0 x.1 p
    go (inr x) = one ns B x.1.0 x.1.1 q

-- ---- the place of a difference

-- what a difference says of its position or tag
data Placed (old new : List ℕ) (d : Difference) (k : ℕ) : Type 0 where
  at_zero : d.what ≤ 1 → k ≡ 0 → Placed old new d k
  at_position : (t u : ℕ) → d.what ≡ 2 → d.owner ≡ suc t → d.owner' ≡ suc u → MembersDiffer (required_members old t) (required_members new u) k
      → d.member ≡ member_row (lookup k (required_members old t)) → d.member' ≡ member_row (lookup k (required_members new u)) → Placed old new d k
  at_tag : (t u : ℕ) → d.what ≡ 3 → d.owner ≡ suc t → d.owner' ≡ suc u → MembersDiffer (optional_members old t) (optional_members new u) k
      → d.member ≡ member_row (lookup k (optional_members old t)) → d.member' ≡ member_row (lookup k (optional_members new u)) → Placed old new d k

placed : (old new : List ℕ) (d : Difference) (k : ℕ) → Differs old new d k → Placed old new d k
placed old new d k (record_only_old t l r n) = at_zero (omega arith) refl
placed old new d k (record_only_new u l r n) = at_zero (omega arith) refl
placed old new d k (list_only_old t j a l) = at_zero (omega arith) refl
placed old new d k (list_only_new u j a l) = at_zero (omega arith) refl
placed old new d k (base_differs t u P n) = at_zero (omega arith) refl
placed old new d k (required_differs t u j P n) = at_position t u refl refl refl n refl refl
placed old new d k (optional_differs t u j P n) = at_tag t u refl refl refl n refl refl

one_place : (old new : List ℕ) (d : Difference) (j k : ℕ) → Placed old new d j → Placed old new d k → j < k → ⊥
one_place old new d j k a (at_zero w e) l = omega arith
one_place old new d j k (at_zero w e) (at_position t u v o n x p q) l = omega (arith, w, v)
one_place old new d j k (at_zero w e) (at_tag t u v o n x p q) l = omega (arith, w, v)
one_place old new d j k (at_position t u v o n x p q) (at_tag t' u' w o' n' x' p' q') l = omega (arith, v, w)
one_place old new d j k (at_tag t u v o n x p q) (at_position t' u' w o' n' x' p' q') l = omega (arith, v, w)
one_place old new d j k (at_position t u v o n x p q) (at_position t' u' w o' n' x' p' q') l =
    let a : t' ≡ t = omega (arith, o, o') in
    let b : u' ≡ u = omega (arith, n, n') in
    let e = same_rows (required_members old t) (required_members new u) (required_key old t) (required_key new u) j k x (sym p ∙ p' ∙ ap (λ (z : ℕ). member_row (lookup k (required_members old z))) a) (sym q ∙ q' ∙ ap (λ (z : ℕ). member_row (lookup k (required_members new z))) b) in
    omega (arith, e, l)
one_place old new d j k (at_tag t u v o n x p q) (at_tag t' u' w o' n' x' p' q') l =
    let a : t' ≡ t = omega (arith, o, o') in
    let b : u' ≡ u = omega (arith, n, n') in
    let e = same_rows (optional_members old t) (optional_members new u) (optional_key old t) (optional_key new u) j k x (sym p ∙ p' ∙ ap (λ (z : ℕ). member_row (lookup k (optional_members old z))) a) (sym q ∙ q' ∙ ap (λ (z : ℕ). member_row (lookup k (optional_members new z))) b) in
    omega (arith, e, l)

pub order_strict : OrderStrict
order_strict old new d f g (by_name {x} {y} a b h) = precedes_strict x (subst (λ (z : List ℕ). precedes x z ≡ true) (name_one old new d y x b a) h)
order_strict old new d f g (old_first {x} a b p q) = first_not old new d x a p q
order_strict old new d f g (records_first {x} {k} a b) = record_or_list old new d x k a b
order_strict old new d f g (by_number {j} {k} a b l) = omega (arith, number_one old new d j k a b, l)
order_strict old new d f g (by_what p q l) = omega arith
order_strict old new d f g (by_place {j} {k} p q r a b l) = one_place old new d j k (placed old new d j a) (placed old new d k b) l
