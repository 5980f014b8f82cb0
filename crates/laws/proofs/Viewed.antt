-- The member view shows what the list says: a part of the message where the member is listed, the fallback where a member of the chain is not.
-- No member is listed twice (`rows_once`), so the first row found is the only one; each row chooses from the plan of the first known type, so it is of the chain.
--
--   row_of_listed, row_of_part, row_of_absent, row_of_fallback   the row found is the row listed
--   chain_true, chain_says                                   the test for a member of the chain
--   viewed                                                   what is shown, case by case, and the bytes returned
use Rattle.std.specs.Prelude.{◌≡◌, Bool, ◌||◌, ℕ, ◌+◌, ◌≤◌, length, leb, ltb}
use Rattle.std.proofs.Math.Path.{refl, ap, subst}
use Rattle.std.proofs.Common.{sym, ◌∙◌, true≢false, arith}
use Rattle.std.proofs.Math.Bool.{true, false}
use Rattle.std.proofs.lemmas.Bool.{false≢true}
use mathlib.Core.List.{List, [], ◌∷◌}
use Rattle.std.proofs.Math.Dec.{eqb}
use borrow.Author.Tests.{eqb-true, leb-true, ltb-true, le-leb, lt-ltb, eq-eqb, ne_eqb}
use Rattle.encoding.specs.Result.{Res, ok, bad, pick}
use Rattle.encoding.proofs.ResultLaws.{both_true}
use Rattle.encoding.specs.Number.{Bytes}
use Rattle.encoding.specs.Table.{field, takes, any, chain}
use Rattle.encoding.specs.Message.{Read, rules, Row, rows, first_known}
use Rattle.encoding.specs.Write.{Slot, plan}
use Rattle.encoding.specs.View.{Seen, part, fallback, nothing, row_of, of_chain, seen, viewing, seen_bytes}
use Rattle.laws.specs.Demands.{All, end, more, Once, In, here, there, Lists, OfChain, Lacks, Hidden, refused_message, other_member, Viewed}
use Rattle.laws.proofs.RowsExact.{all_map}
use Rattle.laws.proofs.PlanLaws.{judged_chosen}
use Rattle.laws.proofs.PlanRules.{all_with, Fit, plan_owner, plan_fit}
use Rattle.laws.proofs.TableExact.{sound}
use Rattle.laws.proofs.MessageExact.{exact_message, exact_rows}
use Rattle.laws.proofs.RowsRight.{chosen_among, rows_once}
use Rattle.laws.proofs.WriteAgain.{follows_again}

-- ---- elements

all_in : {A : Type 0} {P : A → Type 0} {a : A} {l : List A} → All P l → In a l → P a
all_in end i = elim i [ ]
all_in (more p L) here = p
all_in (more p L) (there i) = all_in L i

in_all : {A : Type 0} (l : List A) → All (λ (a : A). In a l) l
in_all [] = end
in_all {A} (a ∷ l) = more here (all_map (λ (b : A) (i : In b l). there i) (in_all l))

-- what is shown is one thing
part≢fallback : {s : Seen} {p l : ℕ} → s ≡ part p l → s ≡ fallback → ⊥
part≢fallback e h = let z : ◌≡◌ {A = ℕ} 0 1 = cc in omega arith

part≢nothing : {s : Seen} {p l : ℕ} → s ≡ part p l → s ≡ nothing → ⊥
part≢nothing e h = let z : ◌≡◌ {A = ℕ} 0 1 = cc in omega arith

fallback≢nothing : {s : Seen} → s ≡ fallback → s ≡ nothing → ⊥
fallback≢nothing e h = let z : ◌≡◌ {A = ℕ} 0 1 = cc in omega arith

-- ---- the row of a member

module _ (k : ℕ) where
  abbrev row_at : ℕ → ℕ → Row
  row_at p l = record { member = k; place = p; len = l }

  row_is : (r : Row) → k ≡ r.member → row_at r.place r.len ≡ r
  row_is r e = ap (λ (i : ℕ). record { member = i; place = r.place; len = r.len }) e

  row_of_listed : {p l : ℕ} (rs : List Row) → Once rs → In (row_at p l) rs → row_of k rs ≡ part p l
  unfolding row_of
  row_of_listed [] D i = elim i [ ]
  row_of_listed (r ∷ rs) D here = rw (eq-eqb k k refl)
  row_of_listed (r ∷ rs) (d, D) (there i) = rw (ne_eqb k r.member (λ e. all_in d i (sym e))) (row_of_listed rs D i)

  row_of_part : (rs : List Row) {p l : ℕ} → row_of k rs ≡ part p l → In (row_at p l) rs
  unfolding row_of
  row_of_part [] h = absurd (part≢fallback h refl)
  row_of_part (r ∷ rs) {p} {l} h = go (eqb k r.member) refl h (λ h. row_of_part rs h)
    where
      go : (b : Bool) → eqb k r.member ≡ b → pick b (part r.place r.len) (row_of k rs) ≡ part p l → (row_of k rs ≡ part p l → In (row_at p l) rs) → In (row_at p l) (r ∷ rs)
      go true e h ih =
          let ep : r.place ≡ p = cc in
          let el : r.len ≡ l = cc in
          let em : k ≡ r.member = eqb-true k r.member e in
          let same : row_at p l ≡ r = ap (λ (i : ℕ). row_at i l) (sym ep) ∙ ap (λ (i : ℕ). row_at r.place i) (sym el) ∙ row_is r em in
          subst (λ (q : Row). In q (r ∷ rs)) (sym same) here
      go false e h ih = there (ih h)

  row_of_absent : (rs : List Row) → ((p l : ℕ) → In (row_at p l) rs → ⊥) → row_of k rs ≡ fallback
  unfolding row_of
  row_of_absent [] a = refl
  row_of_absent (r ∷ rs) a = go (eqb k r.member) refl (λ h. row_of_absent rs h)
    where
      go : (b : Bool) → eqb k r.member ≡ b → (((p l : ℕ) → In (row_at p l) rs → ⊥) → row_of k rs ≡ fallback) → pick b (part r.place r.len) (row_of k rs) ≡ fallback
      go true e ih =
          absurd (a r.place r.len (subst (λ (q : Row). In q (r ∷ rs)) (sym (row_is r (eqb-true k r.member e))) here))
      go false e ih = ih (λ p l i. a p l (there i))

  row_of_fallback : {p l : ℕ} (rs : List Row) → row_of k rs ≡ fallback → In (row_at p l) rs → ⊥
  unfolding row_of
  row_of_fallback [] h i = elim i [ ]
  row_of_fallback {p} {l} (r ∷ rs) h here = part≢fallback {p = p} {l = l} (rw (eq-eqb k k refl)) h
  row_of_fallback {p} {l} (r ∷ rs) h (there i) = go (eqb k r.member) h (λ h. row_of_fallback rs h i)
    where
      go : (b : Bool) → pick b (part r.place r.len) (row_of k rs) ≡ fallback → (row_of k rs ≡ fallback → ⊥) → ⊥
      go true h ih = part≢fallback refl h
      go false h ih = ih h

  row_of_some : (rs : List Row) → row_of k rs ≡ nothing → ⊥
  unfolding row_of
  row_of_some [] h = fallback≢nothing refl h
  row_of_some (r ∷ rs) h = go (eqb k r.member) h (λ h. row_of_some rs h)
    where
      go : (b : Bool) → pick b (part r.place r.len) (row_of k rs) ≡ nothing → (row_of k rs ≡ nothing → ⊥) → ⊥
      go true h ih = part≢nothing refl h
      go false h ih = ih h

-- ---- a member of the chain

module _ (f : ℕ → Bool) where
  any_in : (l : List ℕ) → any f l ≡ true → (i : ℕ) × In i l × (f i ≡ true)
  unfolding any
  any_in [] h = absurd (false≢true h)
  any_in (i ∷ l) h = go (f i) refl h (λ h. any_in l h)
    where
      go : (b : Bool) → f i ≡ b → b || any f l ≡ true → (any f l ≡ true → (j : ℕ) × In j l × (f j ≡ true)) → (j : ℕ) × In j (i ∷ l) × (f j ≡ true)
      go true e h ih = (i, here, e)
      go false e h ih = let r = ih h in (r.0, there r.1, r.2)

  in_any : {i : ℕ} {l : List ℕ} → In i l → f i ≡ true → any f l ≡ true
  unfolding any
  in_any here e = rw e
  in_any (there {b} {l} n) e = go (f b) (in_any n e)
    where
      go : (q : Bool) → any f l ≡ true → q || any f l ≡ true
      go true h = refl
      go false h = h

module _ (T : List ℕ) (t k : ℕ) where
  chain_true : OfChain T t k → of_chain T t k ≡ true
  unfolding of_chain takes
  chain_true O =
      in_any (λ o. takes T o k) O.above
      (rw (le-leb (field T O.owner 0) k O.from, lt-ltb k (field T O.owner 0 + field T O.owner 1) O.to))

  chain_says : of_chain T t k ≡ true → OfChain T t k
  unfolding of_chain takes
  chain_says h =
      let A = any_in (λ o. takes T o k) (chain T t) h in
      let B = both_true (leb (field T A.0 0) k) (ltb k (field T A.0 0 + field T A.0 1)) A.2 in
      record { owner = A.0; above = A.1; from = leb-true (field T A.0 0) k B.0; to = ltb-true k (field T A.0 0 + field T A.0 1) B.1 }

-- ---- the view

module _ (T : List ℕ) (top : ℕ) (m : List ℕ) (k : ℕ) where
  module _ {r : Read} {n : ℕ} (e : rules T top m ≡ ok r n) where
    type : ℕ
    type = first_known T top r.pieces

    list : List Row
    list = rows T top r.format r.pieces

    accepted_view : viewing T top m k ≡ pick (of_chain T type k) (row_of k list) nothing
    unfolding viewing seen type list
    accepted_view = ap (seen T top k) e

    -- a slot of an owner of the chain
    abbrev Owned : Slot → Type 0
    Owned s = Fit T s × In s.owner (chain T type)

    module _ (y : Bytes m) where
      -- a row that is listed is of the chain
      listed_chain : {p l : ℕ} → In (row_at k p l) list → OfChain T type k
      unfolding type list plan
      listed_chain i =
          let F = ((exact_message T top m r.format r.pieces n y).0 e).0 in
          let A = follows_again T top m r.format r.pieces F in
          let fits : All Owned (plan T type) = all_with (λ s a b. (a, b)) (plan_fit T (sound T F.table) type A.there) (plan_owner T (λ o. In o (chain T type)) (chain T type) (in_all (chain T type))) in
          let S = all_in (chosen_among {P = Owned} fits (judged_chosen A.judged)) i in
          record { owner = S.0.owner; above = S.1.1; from = omega (arith, S.1.0.place.from, S.2); to = omega (arith, S.1.0.place.to, S.2) }

  refused_view : {n p : ℕ} → rules T top m ≡ bad n p → viewing T top m k ≡ nothing
  unfolding viewing seen
  refused_view e = ap (seen T top k) e

  -- what has to hold where something is shown
  abbrev Due : Seen → Type 0
  Due (part p l) = Lists T top m (row_at k p l)
  Due fallback = Lacks T top m k
  Due nothing = Hidden T top m k

  shown : Due (viewing T top m k)
  unfolding type list
  shown = by_rules (rules T top m) refl
    where
      by_row : {r : Read} {n : ℕ} (e : rules T top m ≡ ok r n) → of_chain T (type e) k ≡ true → (s : Seen) → row_of k (list e) ≡ s → Due s
      by_row {r} {n} e c (part p l) h = record { read = r; taken = n; accepted = e; row = row_of_part k (list e) h }
      by_row {r} {n} e c fallback h =
          record { read = r; taken = n; accepted = e; of_chain_lem = chain_says T (type e) k c; absent = λ p l i. row_of_fallback k (list e) h i }
      by_row e c nothing h = absurd (row_of_some k (list e) h)

      by_chain : {r : Read} {n : ℕ} (e : rules T top m ≡ ok r n) (b : Bool) → of_chain T (type e) k ≡ b → Due (pick b (row_of k (list e)) nothing)
      by_chain e true c = by_row e c (row_of k (list e)) refl
      by_chain e false c = other_member e (λ O. true≢false (sym (chain_true T (type e) k O) ∙ c))

      by_rules : (r : Res Read) → rules T top m ≡ r → Due (viewing T top m k)
      by_rules (ok r n) e = subst Due (sym (accepted_view e)) (by_chain e (of_chain T (type e) k) refl)
      by_rules (bad n p) e = subst Due (sym (refused_view e)) (refused_message e)

  of_chain_view : {r : Read} {n : ℕ} (e : rules T top m ≡ ok r n) → OfChain T (type e) k → viewing T top m k ≡ row_of k (list e)
  of_chain_view e O = accepted_view e ∙ ap (λ (b : Bool). pick b (row_of k (list e)) nothing) (chain_true T (type e) k O)

  hidden : Hidden T top m k → viewing T top m k ≡ nothing
  unfolding type
  hidden (refused_message e) = refused_view e
  hidden (other_member e out) = accepted_view e ∙ go (of_chain T (type e) k) refl
    where
      go : (b : Bool) → of_chain T (type e) k ≡ b → pick b (row_of k (list e)) nothing ≡ nothing
      go true c = absurd (out (chain_says T (type e) k c))
      go false c = refl

pub viewed : Viewed
unfolding type list seen_bytes
viewed T top m k y = record {
  part_shown = λ p l h. subst (Due T top m k) h (shown T top m k);
  part_listed = listed;
  fallback_shown = λ h. subst (Due T top m k) h (shown T top m k);
  fallback_due = λ L. of_chain_view T top m k L.accepted L.of_chain_lem ∙ row_of_absent k (list T top m k L.accepted) L.absent;
  nothing_shown = λ h. subst (Due T top m k) h (shown T top m k);
  nothing_due = hidden T top m k;
  part_bytes = λ p l other h. (inside p l (subst (Due T top m k) h (shown T top m k)), ap (seen_bytes m other) h);
  fallback_bytes = λ other h. ap (seen_bytes m other) h;
  nothing_bytes = λ other h. ap (seen_bytes m other) h;
}
  where
    listed : (p l : ℕ) → Lists T top m (row_at k p l) → viewing T top m k ≡ part p l
    listed p l L = of_chain_view T top m k L.accepted (listed_chain T top m k L.accepted y L.row) ∙ row_of_listed k _ (rows_once T top m L.read.format L.read.pieces L.taken y L.accepted).0 L.row

    inside : (p l : ℕ) → Lists T top m (row_at k p l) → p + l ≤ length m
    inside p l L = (all_in (exact_rows T top m L.read.format L.read.pieces L.taken y L.accepted) L.row).inside
