-- A member of the new table matches at most one member of the old table.
-- The member's row has one owner, that owner matches one old owner, and the position or the tag then names one old member.
--
--   required_once     a required member is found by one position only
--   one_counterpart   the promise
use Rattle.std.specs.Prelude.{◌≡◌, refl, Bool, true, false, List, ◌∷◌, ℕ, zero, suc, eqb}
use Rattle.std.proofs.Common.{sym, ap, ◌∙◌, subst, subst₂, true≢false, arith, eqb-true}
use Rattle.std.proofs.Math.Option.{some}
use Rattle.encoding.specs.Result.{pick}
use Rattle.encoding.proofs.ResultLaws.{some≢none}
use Rattle.encoding.specs.Types.{Ty}
use Rattle.encoding.specs.Table.{kind, field, mark, tag, range, trees, member_ty, Member, requireds_in, own_rows, lookup}
use Rattle.encoding.specs.Table
use Rattle.encoding.proofs.RuleLaws.{required_among, required_own, optional_own}
use Rattle.encoding.specs.Extends.{Extends, SameOwner, as_records, as_tops, MembersMatch, both_required, both_optional, Counterpart}
use Rattle.laws.specs.Demands.{OneCounterpart}
use Rattle.laws.proofs.OptionalNewer.{lookup_key}
use Rattle.laws.proofs.RecordNewer.{record_list, new_record, pair_only}
use Rattle.laws.proofs.RowsNewer.{owner_there, match_own, counterpart_owner}

-- required rows rise with their positions
required_once_in : (T : List ℕ) (l : List Ty) (i a b k j : ℕ) (m n : Member) → lookup k (requireds_in T l i (range a b)) ≡ some m → lookup j (requireds_in T l i (range a b)) ≡ some n
    → m.row ≡ n.row → k ≡ j
unfolding requireds_in range lookup
required_once_in T l i a zero k j m n e f s = absurd (some≢none e refl)
required_once_in T l i a (suc b) k j m n e f s =
    go (eqb (mark T a) 0) e f (λ e f. required_once_in T l (suc i) (suc a) b k j m n e f s) (λ e f. required_once_in T l i (suc a) b k j m n e f s)
  where
    this : Member
    this = record { row = a; key = i; ty = member_ty T l a }

    later : List Member
    later = requireds_in T l (suc i) (range (suc a) b)

    -- the row a itself, and one of the rows after it
    apart : (x y : Member) (q : ℕ) → this ≡ x → lookup q later ≡ some y → x.row ≡ y.row → ⊥
    apart x y q e f s = omega (arith, ap (λ (z : Member). z.row) e, s, (required_among T l (suc i) q (suc a) b y f).from)

    split : (p q : Bool) → eqb k i ≡ p → eqb j i ≡ q → pick p (some this) (lookup k later) ≡ some m → pick q (some this) (lookup j later) ≡ some n
        → (lookup k later ≡ some m → lookup j later ≡ some n → k ≡ j) → k ≡ j
    split true true u v e f ih = eqb-true k i u ∙ sym (eqb-true j i v)
    split true false u v e f ih = absurd (apart m n j (cc) f s)
    split false true u v e f ih = absurd (apart n m k (cc) e (sym s))
    split false false u v e f ih = ih e f

    go : (p : Bool) → lookup k (pick p (this ∷ later) (requireds_in T l i (range (suc a) b))) ≡ some m → lookup j (pick p (this ∷ later) (requireds_in T l i (range (suc a) b))) ≡ some n
        → (lookup k later ≡ some m → lookup j later ≡ some n → k ≡ j)
        → (lookup k (requireds_in T l i (range (suc a) b)) ≡ some m → lookup j (requireds_in T l i (range (suc a) b)) ≡ some n → k ≡ j) → k ≡ j
    go true e f ia ib = split (eqb k i) (eqb j i) refl refl e f ia
    go false e f ia ib = ib e f

pub required_once : (T : List ℕ) (t k j : ℕ) (m n : Member) → lookup k (Table.required_members T t) ≡ some m → lookup j (Table.required_members T t) ≡ some n → m.row ≡ n.row → k ≡ j
unfolding Table.required_members own_rows
required_once T t k j m n e f s = required_once_in T (trees T) 0 (field T t 0) (field T t 1) k j m n e f s

-- an optional member is found by its own tag only
optional_once : (T : List ℕ) (t k j : ℕ) (m n : Member) → lookup k (Table.optional_members T t) ≡ some m → lookup j (Table.optional_members T t) ≡ some n → m.row ≡ n.row → k ≡ j
optional_once T t k j m n e f s =
    lookup_key k (Table.optional_members T t) m e ∙ (optional_own T t k m e).tagged refl ∙ ap (tag T) s ∙ sym ((optional_own T t j n f).tagged refl) ∙ sym (lookup_key j (Table.optional_members T t) n f)

-- the members of one old owner that match one member row of one new owner
one_member : (old new : List ℕ) (t u : ℕ) (m n m' n' : Member) → MembersMatch old new t u m n → MembersMatch old new t u m' n' → n.row ≡ n'.row → m.row ≡ m'.row
one_member old new t u m n m' n' (both_required a b) (both_required c d) s =
    let k = required_once new u m.key m'.key n n' b d s in
    let e : some m ≡ some m' = sym a ∙ ap (λ (x : ℕ). lookup x (Table.required_members old t)) k ∙ c in
    let same : m ≡ m' = cc in ap (λ (x : Member). x.row) same
one_member old new t u m n m' n' (both_optional a b) (both_optional c d) s =
    let k = optional_once new u m.key m'.key n n' b d s in
    let e : some m ≡ some m' = sym a ∙ ap (λ (x : ℕ). lookup x (Table.optional_members old t)) k ∙ c in
    let same : m ≡ m' = cc in ap (λ (x : Member). x.row) same
one_member old new t u m n m' n' (both_required a b) (both_optional c d) s =
    absurd (true≢false (sym (required_own new u m.key n b).marked ∙ ap (λ (x : ℕ). eqb (mark new x) 0) s ∙ (optional_own new u m'.key n' d).marked))
one_member old new t u m n m' n' (both_optional a b) (both_required c d) s =
    absurd (true≢false (sym (required_own new u m'.key n' d).marked ∙ ap (λ (x : ℕ). eqb (mark new x) 0) (sym s) ∙ (optional_own new u m.key n b).marked))

-- the old owner of a new one
one_owner : (old new : List ℕ) → Extends old new → (top top' t r u : ℕ) → SameOwner old new top top' t u → SameOwner old new top top' r u → t ≡ r
one_owner old new X top top' t r u (as_records l S) (as_records k R) = pair_only old new X t r u l k S R
one_owner old new X top top' t r u (as_tops e f k k') (as_tops e₂ f₂ k₂ k₃) = e ∙ sym e₂
one_owner old new X top top' t r u (as_records l S) (as_tops e f k k') = absurd (record_list (kind new u) (new_record S) k')
one_owner old new X top top' t r u (as_tops e f k k') (as_records l S) = absurd (record_list (kind new u) (new_record S) k')

pub one_counterpart : OneCounterpart
one_counterpart old new top top' X there m m' n C D =
    let A = owner_there old new X top top' there C.owners in
    let W = match_own old new X top top' there C.match in
    let D' : Counterpart old new top top' m' C.member'.row = subst (Counterpart old new top top' m') (sym C.there) D in
    let u : D.owner' ≡ C.owner' =
    counterpart_owner old new X top top' there C.owner' A.0 A.1 W.0 C.member' W.1 m' D' in
    let t : D.owner ≡ C.owner = one_owner old new X top top' D.owner C.owner C.owner' (subst (SameOwner old new top top' D.owner) u D.owners) C.owners in
    sym C.here
    ∙ one_member old new C.owner C.owner' C.member C.member' D.member D.member' C.match
    (subst₂ (λ (x y : ℕ). MembersMatch old new x y D.member D.member') t u D.match) (C.there ∙ sym D.there)
    ∙ D.here
