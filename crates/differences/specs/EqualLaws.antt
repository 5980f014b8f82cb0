-- A yes is demand 3 for these tables; and a table compared with itself gives yes and an empty list, since no difference is one. Assumes nothing.
--
--   shipped_safely    the promise
--   self_owners       an owner matches itself: the tags of its optionals differ
--   no_difference     no difference of a table from itself
--   compare_equal     the promise
use Rattle.std.specs.Prelude.{◌≡◌, Bool, ◌⊎◌, List, [], ◌∷◌, ltb}
use Rattle.std.proofs.Math.Path.{refl, ap}
use Rattle.std.proofs.Common.{sym, ◌∙◌, subst, true≢false, inl, inr, arith, eqb-true, ltb-true, ltb-false, le-leb, eq-eqb}
use Rattle.std.proofs.Math.Bool.{true, false}
use Rattle.std.proofs.Math.Option.{some}
use Prim.Native.Nat.{ℕ, zero, suc, ◌+◌, ◌-◌, ◌≤◌, ◌<◌}
use Rattle.std.proofs.Math.Dec.{eqb}
use Rattle.std.proofs.lemmas.Bool.{eqb-false}
use Rattle.encoding.specs.Result.{pick}
use Rattle.encoding.proofs.ResultLaws.{some≢none}
use Rattle.encoding.specs.Types.{Ty}
use Rattle.encoding.specs.Table.{types, kind, is_record, owns, fine, faults, Member, lookup, range, field, mark, tag, member_ty, optionals_in, required_members, optional_members, own_rows, trees, base}
use Rattle.encoding.proofs.RuleLaws.{optional_own, owns_record, names_differ, base_right, kind_known, mark_known, tags_differ}
use Rattle.encoding.specs.Message.{no_top}
use Rattle.encoding.proofs.MessageLaws.{top_there}
use Rattle.encoding.specs.Extends.{SameRecord, BasesMatch, OptionalsMatch, OwnersMatch, Extends, TopsMatch, as_records, as_lists, type_of}
use Rattle.laws.proofs.MessageNewer.{newer_read}
use Rattle.differences.specs.Compare.{Difference, differences, extending, no_tops, compared_within, after_both, difference_room, comparing}
use Rattle.differences.specs.CompareDemands.{ShippedSafely, CompareEqual, lists_before, ListNumber, Paired, Differs, record_only_old, record_only_new, list_only_old, list_only_new, base_differs, required_differs, optional_differs, In}
use Rattle.differences.specs.CompareDemands
use Rattle.differences.specs.CompareLaws.{compare_yes, extends_step, tops_step}
use Rattle.differences.specs.FindLaws.{compare_finds, before_rises, before_is, lists_risen, list_base}

pub shipped_safely : ShippedSafely
shipped_safely old t new u bytes y m f p taken b a n =
    let Y = (compare_yes old t new u bytes).0 y in
    newer_read old new t u m f p (record { extends = Y.0; tops = Y.1; bytes = b; taken = taken; accepted = a }) n

-- ---- the optionals of an owner match themselves

-- a member found by its key
found_own : (T : List ℕ) (l : List Ty) (k : ℕ) (rs : List ℕ) (m : Member) → lookup k (optionals_in T l rs) ≡ some m → (m.key ≡ k) × (m.ty ≡ member_ty T l m.row)
unfolding lookup optionals_in
found_own T l k [] m h = absurd (some≢none h refl)
found_own T l k (r ∷ rs) m h = go (eqb (mark T r) 0) h (λ q. found_own T l k rs m q)
  where
    same : (x : Member) → some x ≡ some m → x ≡ m
    same x e = cc

    own : (b : Bool) → eqb k (tag T r) ≡ b → pick b (some (record { row = r; key = tag T r; ty = member_ty T l r })) (lookup k (optionals_in T l rs)) ≡ some m
        → (lookup k (optionals_in T l rs) ≡ some m → (m.key ≡ k) × (m.ty ≡ member_ty T l m.row)) → (m.key ≡ k) × (m.ty ≡ member_ty T l m.row)
    own true q e ih =
        subst (λ (x : Member). (x.key ≡ k) × (x.ty ≡ member_ty T l x.row)) (same (record { row = r; key = tag T r; ty = member_ty T l r }) e) (sym (eqb-true k (tag T r) q), refl)
    own false q e ih = ih e

    go : (b : Bool) → lookup k (pick b (optionals_in T l rs) (record { row = r; key = tag T r; ty = member_ty T l r } ∷ optionals_in T l rs)) ≡ some m
        → (lookup k (optionals_in T l rs) ≡ some m → (m.key ≡ k) × (m.ty ≡ member_ty T l m.row)) → (m.key ≡ k) × (m.ty ≡ member_ty T l m.row)
    go true e ih = ih e
    go false e ih = own (eqb k (tag T r)) refl e ih

-- an optional row is found
row_found : (T : List ℕ) (l : List Ty) (i n r : ℕ) → i ≤ r → r < i + n → eqb (mark T r) 0 ≡ false → (m : Member) × (lookup (tag T r) (optionals_in T l (range i n)) ≡ some m)
unfolding lookup optionals_in range
row_found T l i zero r a b o = absurd (omega arith)
row_found T l i (suc n) r a b o = go (eqb (mark T i) 0) refl (eqb i r) refl (λ w. row_found T l (suc i) n r w (omega arith) o)
  where
    later : eqb i r ≡ false → suc i ≤ r
    later q = strict i r (eqb-false i r q) a
      where
        strict : (x y : ℕ) → (x ≡ y → ⊥) → x ≤ y → suc x ≤ y
        strict x y n l = omega arith

    own : (c : Bool) → (suc i ≤ r) ⊎ (c ≡ true) → (suc i ≤ r → (m : Member) × (lookup (tag T r) (optionals_in T l (range (suc i) n)) ≡ some m))
        → (m : Member) × (pick c (some (record { row = i; key = tag T i; ty = member_ty T l i })) (lookup (tag T r) (optionals_in T l (range (suc i) n))) ≡ some m)
    own true s ih = (record { row = i; key = tag T i; ty = member_ty T l i }, refl)
    own false (inl w) ih = ih w
    own false (inr e) ih = absurd (true≢false (sym e))

    go : (b : Bool) → eqb (mark T i) 0 ≡ b → (c : Bool) → eqb i r ≡ c → (suc i ≤ r → (m : Member) × (lookup (tag T r) (optionals_in T l (range (suc i) n)) ≡ some m))
        → (m : Member) × (lookup (tag T r) (pick b (optionals_in T l (range (suc i) n)) (record { row = i; key = tag T i; ty = member_ty T l i } ∷ optionals_in T l (range (suc i) n))) ≡ some m)
    go true q true e ih = absurd (true≢false (sym q ∙ ap (λ (x : ℕ). eqb (mark T x) 0) (eqb-true i r e) ∙ o))
    go true q false e ih = ih (later e)
    go false q true e ih = own (eqb (tag T r) (tag T i)) (inr (eq-eqb (tag T r) (tag T i) (ap (tag T) (sym (eqb-true i r e))))) ih
    go false q false e ih = own (eqb (tag T r) (tag T i)) (inl (later e)) ih

-- of the kinds from 13 to 15 only the last is no record
last_kind : (k : ℕ) → 13 ≤ k → k ≤ 15 → is_record k ≡ false → k ≡ 15
last_kind k a b e = go (eqb k 13) refl (eqb k 14) refl
  where
    only_left : (x : ℕ) → (x ≡ 13 → ⊥) → (x ≡ 14 → ⊥) → 13 ≤ x → x ≤ 15 → x ≡ 15
    only_left x p q r s = omega arith

    go : (c : Bool) → eqb k 13 ≡ c → (d : Bool) → eqb k 14 ≡ d → k ≡ 15
    go true q d v = absurd (true≢false (ap (λ (x : ℕ). is_record x) (sym (eqb-true k 13 q)) ∙ e))
    go false q true v = absurd (true≢false (ap (λ (x : ℕ). is_record x) (sym (eqb-true k 14 v)) ∙ e))
    go false q false v = only_left k (eqb-false k 13 q) (eqb-false k 14 v) a b

module _ (T : List ℕ) (f : faults T ≡ fine) where
  pub marked : (t r : ℕ) → t < types T → owns (kind T t) ≡ true → field T t 0 ≤ r → r < field T t 0 + field T t 1 → eqb (mark T r) 0 ≡ false → mark T r ≡ 1
  marked t r l o a b m = exactly (mark T r) (eqb-false (mark T r) 0 m) (mark_known T f t r l o a b)
    where
      exactly : (x : ℕ) → (x ≡ 0 → ⊥) → x ≤ 1 → x ≡ 1
      exactly x n l = omega arith

  -- a row of the owner by its tag
  by_tag : (t r : ℕ) → t < types T → owns (kind T t) ≡ true → field T t 0 ≤ r → r < field T t 0 + field T t 1 → eqb (mark T r) 0 ≡ false
      → type_of (lookup (tag T r) (optional_members T t)) ≡ some (member_ty T (trees T) r)
  unfolding optional_members own_rows type_of
  by_tag t r l o a b m = go (row_found T (trees T) (field T t 0) (field T t 1) r a b m)
    where
      go : (n : Member) × (lookup (tag T r) (optionals_in T (trees T) (range (field T t 0) (field T t 1))) ≡ some n) → type_of (lookup (tag T r) (optionals_in T (trees T) (range (field T t 0) (field T t 1)))) ≡ some (member_ty T (trees T) r)
      go (n, e) =
          let F = found_own T (trees T) (tag T r) (range (field T t 0) (field T t 1)) n e in
          let O = optional_own T t (tag T r) n e in
          let z : n.row ≡ r = tags_differ T f t n.row r l o O.from O.to a b (marked t n.row l o O.from O.to O.marked) (marked t r l o a b m) (sym (O.tagged refl) ∙ F.0) in
          ap type_of e ∙ ap some (F.1 ∙ ap (member_ty T (trees T)) z)

  self_from : (t i n : ℕ) → t < types T → owns (kind T t) ≡ true → field T t 0 ≤ i → i + n ≡ field T t 0 + field T t 1 → OptionalsMatch (optionals_in T (trees T) (range i n)) (optional_members T t)
  unfolding optionals_in range
  self_from t i zero l o a e = tt
  self_from t i (suc n) l o a e = go (eqb (mark T i) 0) refl (self_from t (suc i) n l o (omega arith) (omega (arith, e)))
    where
      go : (b : Bool) → eqb (mark T i) 0 ≡ b → OptionalsMatch (optionals_in T (trees T) (range (suc i) n)) (optional_members T t)
          → OptionalsMatch (pick b (optionals_in T (trees T) (range (suc i) n)) (record { row = i; key = tag T i; ty = member_ty T (trees T) i } ∷ optionals_in T (trees T) (range (suc i) n))) (optional_members T t)
      go true q ih = ih
      go false q ih = (by_tag t i l o a (omega (arith, e)) q, ih)

  self_owners : (t : ℕ) → t < types T → owns (kind T t) ≡ true → OwnersMatch T T t t
  unfolding optional_members own_rows
  self_owners t l o = record { required_ones = refl; optional_ones = self_from t (field T t 0) (field T t 1) l o (omega arith) refl }

  self_record : (t : ℕ) → t < types T → is_record (kind T t) ≡ true → SameRecord T T t t
  self_record t l r = record { old_one = r; inside = l; kinds = refl; names = refl }

  self_bases : (t : ℕ) → t < types T → is_record (kind T t) ≡ true → BasesMatch T T (base T t) (base T t)
  self_bases t l r = go (base T t) refl
    where
      go : (b : ℕ) → base T t ≡ b → BasesMatch T T b b
      go zero e = tt
      go (suc b) e = let B = base_right T f t l r b e in self_record b (omega (arith, B.0)) (ap (λ (k : ℕ). is_record k) B.1 ∙ r)

  self_extends : Extends T T
  self_extends = record {
    old_right = f;
    new_right = f;
    records = λ t l r. record { row = t; same = self_record t l r; owners = self_owners t l (owns_record (kind T t) r); bases = self_bases t l r };
  }

  self_tops : (t : ℕ) → no_top T t ≡ false → TopsMatch T T t t
  self_tops t n = go (is_record (kind T t)) refl
    where
      W : (t < types T) × (13 ≤ kind T t)
      W = top_there T t n

      go : (b : Bool) → is_record (kind T t) ≡ b → TopsMatch T T t t
      go true e = as_records W.0 (self_record t W.0 e)
      go false e = let k = last_kind (kind T t) W.1 (kind_known T f t W.0) e in as_lists W.0 W.0 k k (self_owners t W.0 (ap (λ (x : ℕ). owns x) k))

  extending_self : (t : ℕ) → no_top T t ≡ false → extending T T t t ≡ true
  unfolding extending
  extending_self t n = rw (extends_step T T self_extends) (tops_step T T t t (self_tops t n))

  -- ---- no difference is one

  one_list : (t u k : ℕ) → ListNumber T t k → ListNumber T u k → t ≡ u
  one_list t u k a b = go (ltb t u) refl (ltb u t) refl
    where
      equal : (x y : ℕ) → x ≤ y → y ≤ x → x ≡ y
      equal x y p q = omega arith

      go : (c : Bool) → ltb t u ≡ c → (d : Bool) → ltb u t ≡ d → t ≡ u
      go true q d v = absurd (lists_risen T t u (omega (arith, ltb-true t u q)) (eq-eqb (kind T t) 15 a.a_list) (b.number ∙ sym a.number ∙ omega arith))
      go false q true v = absurd (lists_risen T u t (omega (arith, ltb-true u t v)) (eq-eqb (kind T u) 15 b.a_list) (a.number ∙ sym b.number ∙ omega arith))
      go false q false v = equal t u (ltb-false u t v) (ltb-false t u q)

  one_owner : (t u : ℕ) → Paired T T t u → t ≡ u
  one_owner t u (CompareDemands.as_records l s) = names_differ T f t u l s.inside s.old_one (ap (λ (k : ℕ). is_record k) (sym s.kinds) ∙ s.old_one) s.names
  one_owner t u (CompareDemands.as_lists k a b) = one_list t u k a b

  within_lists : (t k : ℕ) → ListNumber T t k → lists_before T (types T) ≤ k → ⊥
  within_lists t k a l = go (types T - suc t) (omega (arith, a.inside))
    where
      go : (n : ℕ) → suc t + n ≡ types T → ⊥
      go n e = let z = ap (lists_before T) e in omega (arith, z, before_rises T (suc t) n, before_is T t (eq-eqb (kind T t) 15 a.a_list), a.number, l)

  own_bases : (t u : ℕ) → Paired T T t u → BasesMatch T T (base T t) (base T u)
  own_bases t u (CompareDemands.as_records l s) = subst (λ (x : ℕ). BasesMatch T T (base T t) (base T x)) (one_owner t u (CompareDemands.as_records l s)) (self_bases t l s.old_one)
  own_bases t u (CompareDemands.as_lists k a b) =
      subst (λ (x : ℕ). BasesMatch T T (base T t) (base T x)) (one_list t u k a b) (subst (λ (x : ℕ). BasesMatch T T x x) (sym (list_base T t a.a_list)) tt)

  no_difference : (d : Difference) (k : ℕ) → Differs T T d k → ⊥
  no_difference d k (record_only_old t l r n) = n t (self_record t l r)
  no_difference d k (record_only_new u l r n) = n u l (self_record u l r)
  no_difference d k (list_only_old t j a l) = within_lists t j a l
  no_difference d k (list_only_new u j a l) = within_lists u j a l
  no_difference d k (base_differs t u P n) = n (own_bases t u P)
  no_difference d k (required_differs t u j P n) = n (ap (λ (x : ℕ). type_of (lookup j (required_members T x))) (one_owner t u P))
  no_difference d k (optional_differs t u j P n) = n (ap (λ (x : ℕ). type_of (lookup j (optional_members T x))) (one_owner t u P))

  no_differences : differences T T ≡ []
  no_differences = go (differences T T) (λ d i. no_difference d ((compare_finds T T d f f).0 i).0 ((compare_finds T T d f f).0 i).1)
    where
      go : (l : List Difference) → ((d : Difference) → In d l → ⊥) → l ≡ []
      go [] n = refl
      go (d ∷ l) n = absurd (n d (inl refl))

pub compare_equal : CompareEqual
unfolding comparing after_both compared_within no_tops
compare_equal T t bytes f n =
    rw (f, n, no_differences T f, le-leb 0 (difference_room bytes) (omega arith)) (ap (λ (b : Bool). record { refusal = 0; place = 0; found = []; extends = b }) (extending_self T f t n))
