-- Records of an old and a new table that match, and their chains.
--
--   Pair old new t u              record t of the old table and record u of the new one match
--   record_list, new_record       a record is no parameter list; what matches a record is one
--   pair_of, pair_only            records of one kind and name match; a new record has one match at most
--   named_both, named_only        a name known to both is of a pair; what the old table names the new one names
--   pair_named                    the old table finds its record by the new one's name
--   Bases, bases_of               neither of a pair has a base, or both do and these are a pair
--   Standing, standing_base       the base of a record is a record
--   Descends T top t              top is in the chain of t; descends_ok: it is t, or in the chain of t's base
--   descends_newer                where the new top is in a new record's chain, the old top is in that of its match
use Rattle.std.specs.Prelude.{◌≡◌, Bool, ◌||◌, List}
use Rattle.std.proofs.Math.Path.{refl, ap}
use Rattle.std.proofs.Common.{sym, ◌∙◌, subst, true≢false, arith, eqb-true, eq-eqb}
use Rattle.std.proofs.Math.Bool.{true, false}
use Rattle.std.proofs.lemmas.Bool.{false≢true}
use Rattle.std.proofs.Math.Option.{none, some}
use Prim.Native.Nat.{ℕ, zero, suc, ◌<◌}
use Rattle.std.proofs.Math.Dec.{eqb}
use Rattle.encoding.proofs.ResultLaws.{some≢none}
use Rattle.encoding.specs.Table.{types, kind, fine, faults, is_record, name_of, named, base, upward, chain, any}
use Rattle.encoding.proofs.RuleLaws.{base_right, names_differ, named_ok, named_at, chain_node}
use Rattle.encoding.specs.Extends.{OwnersMatch, SameRecord, BasesMatch, Extends}

-- ---- the chain of a record

abbrev pub Descends : List ℕ → ℕ → ℕ → Type 0
Descends T top t = any (λ r. eqb r top) (chain T t) ≡ true

pub data Line (T : List ℕ) (top t : ℕ) : Type 0 where
  here : t ≡ top → Line T top t
  above : (r : ℕ) → base T t ≡ suc r → Descends T top r → Line T top t

module _ (T : List ℕ) (top t : ℕ) where
  descends_node : any (λ r. eqb r top) (chain T t) ≡ eqb t top || any (λ r. eqb r top) (upward (chain T) (base T t))
  unfolding any
  descends_node = ap (any (λ r. eqb r top)) (chain_node T t)

  pub descends_ok : Descends T top t → Line T top t
  unfolding any upward
  descends_ok d = go (eqb t top) refl (base T t) refl (sym descends_node ∙ d)
    where
      go : (b : Bool) → eqb t top ≡ b → (c : ℕ) → base T t ≡ c → b || any (λ r. eqb r top) (upward (chain T) c) ≡ true → Line T top t
      go true e c f h = here (eqb-true t top e)
      go false e zero f h = absurd (false≢true h)
      go false e (suc r) f h = above r f h

  pub descends_here : t ≡ top → Descends T top t
  descends_here e = descends_node ∙ ap (λ (b : Bool). b || any (λ r. eqb r top) (upward (chain T) (base T t))) (eq-eqb t top e)

  pub descends_above : (r : ℕ) → base T t ≡ suc r → Descends T top r → Descends T top t
  unfolding upward
  descends_above r e d = descends_node ∙ ap (λ (c : ℕ). eqb t top || any (λ r. eqb r top) (upward (chain T) c)) e ∙ go (eqb t top) d
    where
      go : (b : Bool) → any (λ r. eqb r top) (chain T r) ≡ true → b || any (λ r. eqb r top) (chain T r) ≡ true
      go true d = refl
      go false d = d

-- a row + 1 that is a record, or 0
abbrev pub Standing : List ℕ → ℕ → Type 0
Standing T zero = Unit {0}
Standing T (suc t) = (t < types T) × (is_record (kind T t) ≡ true)

pub standing_base : (T : List ℕ) → faults T ≡ fine → (t : ℕ) → t < types T → is_record (kind T t) ≡ true → Standing T (base T t)
standing_base T right t l r = go (base T t) refl
  where
    go : (c : ℕ) → base T t ≡ c → Standing T (base T t)
    go zero e = rw e tt
    go (suc v) e = let W = base_right T right t l r v e in rw e (omega (arith, W.0), ap (λ (k : ℕ). is_record k) W.1 ∙ r)

-- ---- pairs

pub record Pair (old new : List ℕ) (t u : ℕ) : Type 0 where
  pub below : t < types old
  pub same : SameRecord old new t u
  pub owners : OwnersMatch old new t u
  pub bases : BasesMatch old new (base old t) (base new u)

-- base rows + 1, or 0: of a pair, or none
pub data Bases (old new : List ℕ) : ℕ → ℕ → Type 0 where
  neither : Bases old new zero zero
  both : {t u : ℕ} → Pair old new t u → Bases old new (suc t) (suc u)

-- a record is no parameter list
pub record_list : (k : ℕ) → is_record k ≡ true → k ≡ 15 → ⊥
record_list k r e = true≢false (sym r ∙ ap (λ (x : ℕ). is_record x) e)

pub new_record : {old new : List ℕ} {t u : ℕ} → SameRecord old new t u → is_record (kind new u) ≡ true
new_record S = ap (λ (k : ℕ). is_record k) (sym S.kinds) ∙ S.old_one

module _ (old new : List ℕ) (X : Extends old new) where
  pub pair_of : (t u : ℕ) → t < types old → SameRecord old new t u → Pair old new t u
  pair_of t u l S =
      let M = X.records t l S.old_one in
      let e : M.row ≡ u = names_differ new X.new_right M.row u M.same.inside S.inside (new_record M.same) (new_record S) (sym M.same.names ∙ S.names) in
      subst (λ (v : ℕ). Pair old new t v) e (record { below = l; same = M.same; owners = M.owners; bases = M.bases })

  pub pair_only : (t r u : ℕ) → t < types old → r < types old → SameRecord old new t u → SameRecord old new r u → t ≡ r
  pair_only t r u l k S R = names_differ old X.old_right t r l k S.old_one R.old_one (S.names ∙ sym R.names)

  pub named_both : (nm : List ℕ) (t u : ℕ) → named old nm ≡ some t → named new nm ≡ some u → Pair old new t u
  named_both nm t u e f =
      let a = named_ok old nm t e in
      let b = named_ok new nm u f in
      let M = X.records t a.0 a.1 in
      let s : M.row ≡ u = names_differ new X.new_right M.row u M.same.inside b.0 (new_record M.same) b.1 (sym M.same.names ∙ sym a.2 ∙ b.2) in
      subst (λ (v : ℕ). Pair old new t v) s (record { below = a.0; same = M.same; owners = M.owners; bases = M.bases })

  pub named_only : (nm : List ℕ) (t : ℕ) → named old nm ≡ some t → named new nm ≡ none → ⊥
  named_only nm t e f =
      let a = named_ok old nm t e in
      let M = X.records t a.0 a.1 in
      some≢none (ap (named new) (a.2 ∙ M.same.names) ∙ named_at new X.new_right M.row M.same.inside (new_record M.same)) f

  module _ (t u : ℕ) (P : Pair old new t u) where
    pub pair_named : named old (name_of new u) ≡ some t
    pair_named = ap (named old) (sym P.same.names) ∙ named_at old X.old_right t P.below P.same.old_one

    bases_none : base new u ≡ 0 → base old t ≡ 0
    bases_none e = go (base old t) refl (subst (BasesMatch old new (base old t)) e P.bases)
      where
        go : (b : ℕ) → base old t ≡ b → BasesMatch old new b zero → base old t ≡ 0
        go zero e m = e
        go (suc r) e m = absurd m

    pub bases_some : (v : ℕ) → base new u ≡ suc v → (r : ℕ) × (base old t ≡ suc r) × (r < t) × Pair old new r v
    bases_some v e = go (base old t) refl (subst (BasesMatch old new (base old t)) e P.bases)
      where
        go : (b : ℕ) → base old t ≡ b → BasesMatch old new b (suc v) → (r : ℕ) × (base old t ≡ suc r) × (r < t) × Pair old new r v
        go zero e m = absurd m
        go (suc r) e m =
            let l : r < t = (base_right old X.old_right t P.below P.same.old_one r e).0 in
            (r, e, l, pair_of r v (omega (arith, P.below)) m)

    pub bases_of : Bases old new (base old t) (base new u)
    bases_of = go (base new u) refl
      where
        go : (c : ℕ) → base new u ≡ c → Bases old new (base old t) (base new u)
        go zero e = rw (e, bases_none e) neither
        go (suc v) e = let B = bases_some v e in rw (e, B.1) (both B.3)

  -- the tops match: what descends from the new one descends, in the old table, from the old one
  pub descends_newer : (top top' : ℕ) → Pair old new top top' → (f t u : ℕ) → t < f → Pair old new t u → Descends new top' u → Descends old top t
  descends_newer top top' tops zero t u l P d = absurd (omega arith)
  descends_newer top top' tops (suc f) t u l P d =
      go (descends_ok new top' u d) (λ r v m Q e. descends_newer top top' tops f r v m Q e)
    where
      go : Line new top' u → ((r v : ℕ) → r < f → Pair old new r v → Descends new top' v → Descends old top r) → Descends old top t
      go (here e) ih = descends_here old top t (pair_only t top top' P.below tops.below (subst (SameRecord old new t) e P.same) tops.same)
      go (above v e d) ih = let B = bases_some t u P v e in descends_above old top t B.0 B.1 (ih B.0 v (omega (arith, B.2)) B.3 d)
