-- The optional that a call is about: what is known where it is found in the chain of a row, and when it is found.
--
--   Aim             an optional of an owner in the chain: found there by its tag, and by its row
--   target_aim      what the search finds is one
--   aim_target      it finds each of them
--   not_of_chain    so 49 is exactly where there is none: the promise
use Rattle.std.specs.Prelude.{◌≡◌, Bool, ◌&&◌, ◌||◌, ◌⊎◌}
use Rattle.std.proofs.Math.Path.{refl, ap, subst}
use Rattle.std.proofs.Common.{sym, ◌∙◌, true≢false, inl, inr}
use Rattle.std.proofs.Math.Bool.{true, false, false≢true}
use Rattle.std.proofs.Math.Logic.{⊎_elim}
use Rattle.std.proofs.Math.Option.{Option, none, some}
use mathlib.Core.List.{List, [], ◌∷◌}
use Prim.Native.Nat.{ℕ, zero, suc, ◌+◌, ◌≤◌, ◌<◌}
use native.Mathlib.Omega.{arith}
use Rattle.std.proofs.Math.Dec.{eqb, leb, ltb}
use borrow.Author.Tests.{eqb-true, eqb-false, le-leb, leb-true, ltb-true, lt-ltb}
use Rattle.encoding.specs.Result.{pick}
use Rattle.encoding.proofs.ResultLaws.{some≢none}
use Rattle.encoding.specs.Number.{Short}
use Rattle.encoding.specs.Types.{Ty}
use Rattle.encoding.specs.Table.{fine, faults, field, mark, tag, members, takes, any, Member, member_ty, trees, range, lookup, chain, own_rows, optionals_in}
use Rattle.encoding.specs.Table
use Rattle.encoding.proofs.RuleLaws.{optional_own, rows_apart, rows_there, mark_known}
use Rattle.encoding.specs.Message.{no_top}
use Rattle.encoding.specs.View.{of_chain}
use Rattle.encoding.specs.Write.{optional_row, slot}
use Rattle.laws.specs.Demands.{All, end, more, In, here, there}
use Rattle.laws.proofs.OptionalNewer.{lookup_key}
use Rattle.laws.proofs.PlanRules.{Owner, optional_fit, chain_owners}
use Rattle.edit.specs.Change.{Target, or_further, target_in, target}
use Rattle.edit.specs.ChangeDemands.{ChainOptional, NotOfChain}

-- ---- an optional of an owner, by its row

row_ok : {P : Member → Type 0} (m : ℕ) {ms : List Member} {d : Member} → All P ms → optional_row m 0 ms ≡ some d → P d × (d.row ≡ m)
unfolding optional_row
row_ok m end h = absurd (some≢none h refl)
row_ok {P} m {d = d} (more {a} {l} p L) h = go (eqb m a.row) refl (leb 0 a.key) h (λ h. row_ok m L h)
  where
    go : (b : Bool) → eqb m a.row ≡ b → (c : Bool) → pick (b && c) (some a) (optional_row m 0 l) ≡ some d → (optional_row m 0 l ≡ some d → P d × (d.row ≡ m)) → P d × (d.row ≡ m)
    go true e true h ih = let s : a ≡ d = cc in (subst P s p, ap (λ (x : Member). x.row) (sym s) ∙ sym (eqb-true m a.row e))
    go true e false h ih = ih h
    go false e c h ih = ih h

row_there : (k : ℕ) (ms : List Member) (d : Member) → lookup k ms ≡ some d → optional_row d.row 0 ms ≡ none → ⊥
unfolding optional_row lookup
row_there k [] d h z = some≢none h refl
row_there k (a ∷ ms) d h z = go (eqb k a.key) h (eqb d.row a.row) refl z (λ h z. row_there k ms d h z)
  where
    go : (b : Bool) → pick b (some a) (lookup k ms) ≡ some d → (c : Bool) → eqb d.row a.row ≡ c → pick (c && leb 0 a.key) (some a) (optional_row d.row 0 ms) ≡ none
        → (lookup k ms ≡ some d → optional_row d.row 0 ms ≡ none → ⊥) → ⊥
    go b h true e z ih = some≢none (ap (λ (q : Bool). pick q (some a) (optional_row d.row 0 ms)) (le-leb 0 a.key (omega arith))) z
    go true h false e z ih = let s : a ≡ d = cc in eqb-false d.row a.row e (ap (λ (x : Member). x.row) (sym s))
    go false h false e z ih = ih h z

-- ---- the search in a chain

-- x is an optional of one of the rows ts, with member row m
pub record Aim (T : List ℕ) (ts : List ℕ) (m : ℕ) (x : Target) : Type 0 where
  pub owner_right : Owner T x.owner
  pub within : In x.owner ts
  pub found : lookup x.member.key (Table.optional_members T x.owner) ≡ some x.member
  pub row : x.member.row ≡ m
  pub typed : x.member.ty ≡ member_ty T (trees T) m
  pub short : Short x.member.key

-- in a list: its first, or in the others
pub in_cases : {A : Type 0} {a b : A} {l : List A} → In a (b ∷ l) → (a ≡ b) ⊎ In a l
in_cases here = inl refl
in_cases (there i) = inr i

aim_later : {T ts : List ℕ} {t m : ℕ} {x : Target} → Aim T ts m x → Aim T (t ∷ ts) m x
aim_later A = record { owner_right = A.owner_right; within = there A.within; found = A.found; row = A.row; typed = A.typed; short = A.short }

module _ (T : List ℕ) (right : faults T ≡ fine) where
  target_in_aim : (m : ℕ) (ts : List ℕ) → All (Owner T) ts → (x : Target) → target_in T m ts ≡ some x → Aim T ts m x
  unfolding target_in or_further slot
  target_in_aim m [] end x h = absurd (some≢none h refl)
  target_in_aim m (t ∷ ts) (more O L) x h = go (optional_row m 0 (Table.optional_members T t)) refl h (λ h. aim_later (target_in_aim m ts L x h))
    where
      go : (o : Option Member) → optional_row m 0 (Table.optional_members T t) ≡ o → or_further t (target_in T m ts) o ≡ some x → (target_in T m ts ≡ some x → Aim T (t ∷ ts) m x) → Aim T (t ∷ ts) m x
      go none e h ih = ih h
      go (some d) e h ih =
          let F = row_ok m (optional_fit T t right O) e in
          let s : record { owner = t; member = d } ≡ x = cc in
          subst (Aim T (t ∷ ts) m) s (record { owner_right = O; within = here; found = F.0.finds; row = F.1; typed = F.0.typed ∙ ap (member_ty T (trees T)) F.1; short = F.0.short refl })

  pub target_aim : (t m : ℕ) → no_top T t ≡ false → (x : Target) → target T t m ≡ some x → Aim T (chain T t) m x
  unfolding target
  target_aim t m top x h = target_in_aim m (chain T t) (chain_owners T right t top) x h

  -- two optionals with one row are one
  pub one_row : (o u : ℕ) → Owner T o → Owner T u → (k j : ℕ) (d e : Member) → lookup k (Table.optional_members T o) ≡ some d → lookup j (Table.optional_members T u) ≡ some e → e.row ≡ d.row
      → ◌≡◌ {A = Target} (record { owner = u; member = e }) (record { owner = o; member = d })
  one_row o u O U k j d e f g s =
      let A = optional_own T o k d f in
      let B = optional_own T u j e g in
      let q : u ≡ o = rows_apart T right u o d.row U.below O.below U.own O.own (omega (arith, B.from)) (omega (arith, B.to)) A.from A.to in
      let keys : j ≡ k = lookup_key j (Table.optional_members T u) e g ∙ B.tagged refl ∙ ap (tag T) s ∙ sym (A.tagged refl) ∙ sym (lookup_key k (Table.optional_members T o) d f) in
      let h : some e ≡ some d = sym g ∙ ap (λ (i : ℕ). lookup i (Table.optional_members T u)) keys ∙ ap (λ (v : ℕ). lookup k (Table.optional_members T v)) q ∙ f in
      let z : e ≡ d = cc in
      cc

  target_in_found : (ts : List ℕ) → All (Owner T) ts → (o k : ℕ) (d : Member) → Owner T o → In o ts → lookup k (Table.optional_members T o) ≡ some d
      → target_in T d.row ts ≡ some (record { owner = o; member = d })
  unfolding target_in or_further slot
  target_in_found [] _ o k d O i f = elim i [ ]
  target_in_found (t ∷ ts) (more U L) o k d O i f = go (optional_row d.row 0 (Table.optional_members T t)) refl i (λ i. target_in_found ts L o k d O i f)
    where
      go : (w : Option Member) → optional_row d.row 0 (Table.optional_members T t) ≡ w → In o (t ∷ ts) → (In o ts → target_in T d.row ts ≡ some (record { owner = o; member = d }))
          → or_further t (target_in T d.row ts) w ≡ some (record { owner = o; member = d })
      go (some e) q i ih = let F = row_ok d.row (optional_fit T t right U) q in ap some (one_row o t O U k e.key d e f F.0.finds F.1)
      go none q i ih =
          ⊎_elim (λ (e : o ≡ t). absurd (row_there k (Table.optional_members T t) d (ap (λ (u : ℕ). lookup k (Table.optional_members T u)) (sym e) ∙ f) q)) ih (in_cases i)

  pub aim_target : (t : ℕ) → no_top T t ≡ false → (o k : ℕ) (d : Member) → Owner T o → In o (chain T t) → lookup k (Table.optional_members T o) ≡ some d
      → target T t d.row ≡ some (record { owner = o; member = d })
  unfolding target
  aim_target t top o k d O i f = target_in_found (chain T t) (chain_owners T right t top) o k d O i f

  -- ---- 49

  -- a row of the owner that is optional is found
  row_missing : (l : List Ty) (m a b : ℕ) → a ≤ m → m < a + b → mark T m ≡ 1 → optional_row m 0 (optionals_in T l (range a b)) ≡ none → ⊥
  unfolding range optionals_in optional_row
  row_missing l m a zero h g e z = omega arith
  row_missing l m a (suc b) h g e z = go (eqb (mark T a) 0) refl (eqb m a) refl z (λ h z. row_missing l m (suc a) b h (omega arith) e z)
    where
      rest : List Member
      rest = optionals_in T l (range (suc a) b)

      this : Member
      this = record { row = a; key = tag T a; ty = member_ty T l a }

      go : (q : Bool) → eqb (mark T a) 0 ≡ q → (c : Bool) → eqb m a ≡ c → optional_row m 0 (pick q rest (this ∷ rest)) ≡ none → (suc a ≤ m → optional_row m 0 rest ≡ none → ⊥) → ⊥
      go true q true f z ih = true≢false (sym q ∙ ap (λ (i : ℕ). eqb (mark T i) 0) (sym (eqb-true m a f)) ∙ ap (λ (i : ℕ). eqb i 0) e)
      go false q true f z ih =
          some≢none (ap (λ (c : Bool). pick (c && leb 0 (tag T a)) (some this) (optional_row m 0 rest)) f ∙ ap (λ (c : Bool). pick c (some this) (optional_row m 0 rest)) (le-leb 0 (tag T a) (omega arith))) z
      go true q false f z ih = ih (omega (arith, eqb-false m a f)) z
      go false q false f z ih = ih (omega (arith, eqb-false m a f)) (sym (ap (λ (c : Bool). pick (c && leb 0 (tag T a)) (some this) (optional_row m 0 rest)) f) ∙ z)

  rows_missing : (m : ℕ) (ts : List ℕ) → mark T m ≡ 1 → any (λ o. takes T o m) ts ≡ true → target_in T m ts ≡ none → ⊥
  unfolding any takes target_in or_further Table.optional_members own_rows
  rows_missing m [] e h z = false≢true h
  rows_missing m (t ∷ ts) e h z = go (optional_row m 0 (Table.optional_members T t)) refl (leb (field T t 0) m) refl (ltb m (field T t 0 + field T t 1)) refl h z (λ h z. rows_missing m ts e h z)
    where
      go : (w : Option Member) → optional_row m 0 (Table.optional_members T t) ≡ w → (a : Bool) → leb (field T t 0) m ≡ a → (b : Bool) → ltb m (field T t 0 + field T t 1) ≡ b
          → (a && b) || any (λ o. takes T o m) ts ≡ true → or_further t (target_in T m ts) w ≡ none → (any (λ o. takes T o m) ts ≡ true → target_in T m ts ≡ none → ⊥) → ⊥
      go (some d) w a p b q h z ih = some≢none refl z
      go none w true p true q h z ih = row_missing (trees T) m (field T t 0) (field T t 1) (leb-true (field T t 0) m p) (ltb-true m (field T t 0 + field T t 1) q) e w
      go none w true p false q h z ih = ih h z
      go none w false p b q h z ih = ih h z

  in_any : (f : ℕ → Bool) (o : ℕ) {ts : List ℕ} → In o ts → f o ≡ true → any f ts ≡ true
  unfolding any
  in_any f o here e = rw e
  in_any f o (there {b} i) e = go (f b) (in_any f o i e)
    where
      go : (q : Bool) {r : Bool} → r ≡ true → q || r ≡ true
      go true h = refl
      go false h = h

  -- a target is an optional of the chain
  pub aim_chain : (t m : ℕ) (x : Target) → Aim T (chain T t) m x → ChainOptional T t m
  unfolding of_chain takes
  aim_chain t m x A =
      let O = optional_own T x.owner x.member.key x.member A.found in
      let from : field T x.owner 0 ≤ m = omega (arith, O.from, A.row) in
      let to : m < field T x.owner 0 + field T x.owner 1 = omega (arith, O.to, A.row) in
      let marked : eqb (mark T m) 0 ≡ false = ap (λ (i : ℕ). eqb (mark T i) 0) (sym A.row) ∙ O.marked in
      record {
        inside = rows_there T right x.owner m A.owner_right.below A.owner_right.own to;
        marked = omega (arith, eqb-false (mark T m) 0 marked, mark_known T right x.owner m A.owner_right.below A.owner_right.own from to);
        owned = in_any (λ o. leb (field T o 0) m && ltb m (field T o 0 + field T o 1)) x.owner A.within (rw (le-leb (field T x.owner 0) m from, lt-ltb m (field T x.owner 0 + field T x.owner 1) to));
      }

  pub chain_found : (t m : ℕ) → target T t m ≡ none → ChainOptional T t m → ⊥
  unfolding target of_chain
  chain_found t m z C = rows_missing m (chain T t) C.marked C.owned z

pub not_of_chain : NotOfChain
not_of_chain T t m right top = (chain_found T right t m, λ u. go u (target T t m) refl)
  where
    go : (ChainOptional T t m → ⊥) → (w : Option Target) → target T t m ≡ w → w ≡ none
    go u none e = refl
    go u (some x) e = absurd (u (aim_chain T right t m x (target_aim T right t m top x e)))
