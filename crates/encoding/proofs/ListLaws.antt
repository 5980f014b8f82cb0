-- The lists of allowed enumerators in a table, entry by entry; in a table that breaks no rule every list rises, and so does each in a type.
--
--   length_entries, entry_at_lem      how many entries an enum row's list has, and each of them; mapped_at each of any numbers in turn
--   Reaches, rises_ok, rises_step what the test of a list tells: it has an entry, rises strictly, and its last entry is the greatest
--   list_reaches                  so does the list of each enum in a table that breaks no rule
--   allowed_rises, type_rises, member_rises   what an enum row allows, the type of a row and of a member row: their lists rise
--   MembersRise, found_rises      so of members' types, and of the type of a member that is found
--   required_rise, optional_rise  so of the members of a row
use Rattle.std.specs.Prelude.{◌≡◌, Bool, length, get_or, ltb}
use Rattle.std.proofs.Math.Path.{refl, subst}
use Rattle.std.proofs.Common.{sym, ap, ◌∙◌, add-zero}
use Rattle.std.proofs.Math.Bool.{true, false}
use Rattle.std.proofs.lemmas.Bool.{false≢true}
use Rattle.std.proofs.Math.Option.{some}
use mathlib.Core.List.{List, [], ◌∷◌, map}
use Prim.Native.Nat.{ℕ, zero, suc, ◌+◌, ◌≤◌, ◌<◌}
use native.Mathlib.Omega.{arith}
use Rattle.std.proofs.Math.Decide.{ℕ_discrete}
use Rattle.std.proofs.Math.ListN.{get_or-eq_default}
use Rattle.std.proofs.Math.Dec.{eqb, leb}
use borrow.Author.Tests.{eqb-true, eq-eqb, ltb-true, ltb-false, lt-ltb, leb-false, not-false}
use Rattle.encoding.specs.Result.{pick}
use Rattle.encoding.proofs.ResultLaws.{both_true, both_false}
use Rattle.encoding.specs.Types.{upto, only, allowed_of, short, int, long, float, double, Ty, broken, bool, byte, string, proxy, num, enum, struct, seq, dict}
use Rattle.encoding.specs.Grammar.{Rises, ListRises, ListsRise, AllRise}
use Rattle.encoding.specs.Table.{with_lists, types, members, member_type, kind, field, range, list_entry, entries_of, greatest, rises_to, has_list, allowed_rules, allowed, member_ty, member_tys, own_rows, row_ty, tys, type_rows, trees, ty_of, mark, tag, Member, lookup, requireds_in, optionals_in, required_members, optional_members, fine, faults}
use Rattle.encoding.proofs.TableLaws.{tys_at, length_tys}
use Rattle.encoding.proofs.RuleLaws.{list_right, list_test}

-- ---- the entries of a row

length_mapped : (f : ℕ → ℕ) (i k : ℕ) → length (map f (range i k)) ≡ k
unfolding range
length_mapped f i zero = refl
length_mapped f i (suc k) = ap suc (length_mapped f (suc i) k)

pub mapped_at : (f : ℕ → ℕ) (i k j : ℕ) → j < k → get_or (map f (range i k)) j 0 ≡ f (i + j)
unfolding range
mapped_at f i zero j h = absurd (omega arith)
mapped_at f i (suc k) zero h = ap f (sym (add-zero i))
mapped_at f i (suc k) (suc j) h = mapped_at f (suc i) k j (omega arith) ∙ ap f (omega arith)

module _ (T : List ℕ) (t : ℕ) where
  pub length_entries : length (entries_of T t) ≡ field T t 3
  unfolding entries_of
  length_entries = length_mapped (list_entry T) (field T t 2) (field T t 3)

  pub entry_at_lem : (i : ℕ) → i < field T t 3 → get_or (entries_of T t) i 0 ≡ list_entry T (field T t 2 + i)
  unfolding entries_of
  entry_at_lem i h = mapped_at (list_entry T) (field T t 2) (field T t 3) i h

-- ---- a list that rises to its greatest

pub record Reaches (g : ℕ) (l : List ℕ) : Type 0 where
  pub some : 1 ≤ length l
  pub rises : Rises l
  pub last : (i : ℕ) → suc i ≡ length l → get_or l i 0 ≡ g

pub rises_ok : (g : ℕ) (l : List ℕ) → rises_to g l ≡ true → Reaches g l
unfolding rises_to
rises_ok g [] h = absurd (false≢true h)
rises_ok g (x ∷ []) h = record { some = omega arith; rises = λ i k. absurd (omega arith); last = λ i e. let z : i ≡ 0 = omega arith in rw z (eqb-true x g h) }
rises_ok g (x ∷ y ∷ l) h =
    let b = both_true (ltb x y) (rises_to g (y ∷ l)) h in
    let R = rises_ok g (y ∷ l) b.1 in
    record { some = omega arith; rises = rising (ltb-true x y b.0) R.rises; last = ending R.last }
  where
    rising : x < y → Rises (y ∷ l) → Rises (x ∷ y ∷ l)
    rising s R zero k = s
    rising s R (suc i) k = R i (omega arith)

    ending : ((i : ℕ) → suc i ≡ length (y ∷ l) → get_or (y ∷ l) i 0 ≡ g) → (i : ℕ) → suc i ≡ length (x ∷ y ∷ l) → get_or (x ∷ y ∷ l) i 0 ≡ g
    ending L zero e = absurd (omega arith)
    ending L (suc i) e = L i (omega arith)

pub rises_step : (g : ℕ) (l : List ℕ) → Reaches g l → rises_to g l ≡ true
unfolding rises_to
rises_step g [] R = absurd (omega (arith, R.some))
rises_step g (x ∷ []) R = eq-eqb x g (R.last 0 refl)
rises_step g (x ∷ y ∷ l) R =
    rw (lt-ltb x y (R.rises 0 (omega arith)))
    (rises_step g (y ∷ l) (record { some = omega arith; rises = λ i k. R.rises (suc i) (omega arith); last = λ i e. R.last (suc i) (omega arith) }))

-- ---- members

abbrev pub MembersRise : List Member → Type 0
MembersRise [] = Unit {0}
MembersRise (m ∷ ms) = ListsRise m.ty × MembersRise ms

pub found_rises : (k : ℕ) (ms : List Member) (m : Member) → MembersRise ms → lookup k ms ≡ some m → ListsRise m.ty
unfolding lookup
found_rises k [] m R e = let z : ◌≡◌ {A = ℕ} 0 1 = cc in absurd (omega arith)
found_rises k (n ∷ ms) m R e = go (eqb k n.key) e (found_rises k ms m R.1)
  where
    go : (b : Bool) → pick b (some n) (lookup k ms) ≡ some m → (lookup k ms ≡ some m → ListsRise m.ty) → ListsRise m.ty
    go true e ih = let q : n ≡ m = cc in subst (λ (x : Member). ListsRise x.ty) q R.0
    go false e ih = ih e

-- ---- in a table that breaks no rule

module _ (T : List ℕ) (right : faults T ≡ fine) where
  pub list_reaches : (t : ℕ) → t < types T → has_list T t ≡ true → Reaches (greatest T t) (entries_of T t)
  unfolding allowed_rules
  list_reaches t l h = rises_ok (greatest T t) (entries_of T t) (not-false _ (both_false (has_list T t) _ (list_test T t (list_right T right t l) 2) h))

  pub allowed_rises : (t : ℕ) → t < types T → kind T t ≡ 8 → ListRises (allowed T t)
  unfolding allowed allowed_of has_list
  allowed_rises t l k = go (with_lists T) refl (eqb (length (entries_of T t)) (suc (greatest T t)))
    where
      go : (b : Bool) → with_lists T ≡ b → (c : Bool) → ListRises (pick b (pick c (upto (greatest T t)) (only (entries_of T t))) (upto (greatest T t)))
      go true e true = tt
      go true e false = (list_reaches t l (rw (e, k))).rises
      go false e c = tt

  -- ---- and in its types

  basic_rises : (k : ℕ) → ListsRise (get_or (bool ∷ byte ∷ num short ∷ num int ∷ num long ∷ num float ∷ num double ∷ string ∷ []) k broken)
  unfolding ListsRise
  basic_rises zero = tt
  basic_rises (suc zero) = tt
  basic_rises (suc (suc zero)) = tt
  basic_rises (suc (suc (suc zero))) = tt
  basic_rises (suc (suc (suc (suc zero)))) = tt
  basic_rises (suc (suc (suc (suc (suc zero))))) = tt
  basic_rises (suc (suc (suc (suc (suc (suc zero)))))) = tt
  basic_rises (suc (suc (suc (suc (suc (suc (suc zero))))))) = tt
  basic_rises (suc (suc (suc (suc (suc (suc (suc (suc k)))))))) = tt

  module _ (l : List Ty) (all : (i : ℕ) → ListsRise (get_or l i broken)) where
    among_rises : (m : ℕ) → ListsRise (member_ty T l m)
    unfolding member_ty ListsRise
    among_rises m = go (ltb m (members T))
      where
        go : (b : Bool) → ListsRise (pick b (get_or l (member_type T m) broken) broken)
        go true = all (member_type T m)
        go false = tt

    struct_rises : (ms : List ℕ) → AllRise (member_tys T l ms)
    unfolding member_tys AllRise
    struct_rises [] = tt
    struct_rises (m ∷ ms) = (among_rises m, struct_rises ms)

    row_rises : (t : ℕ) → t < types T → ListsRise (row_ty T l t)
    unfolding row_ty ListsRise
    row_rises t h = go (eqb (kind T t) 8) refl (eqb (kind T t) 9) (eqb (kind T t) 10) (eqb (kind T t) 11) (eqb (kind T t) 12)
      where
        go : (a : Bool) → eqb (kind T t) 8 ≡ a → (b c d e : Bool)
            → ListsRise (pick a (enum (allowed T t)) (pick b (struct (member_tys T l (own_rows T t))) (pick c (seq (get_or l (field T t 0) broken)) (pick d (dict (get_or l (field T t 0) broken) (get_or l (field T t 1) broken)) (pick e proxy
            (get_or (bool ∷ byte ∷ num short ∷ num int ∷ num long ∷ num float ∷ num double ∷ string ∷ []) (kind T t) broken))))))
        go true ea b c d e = allowed_rises t h (eqb-true (kind T t) 8 ea)
        go false ea true c d e = struct_rises (own_rows T t)
        go false ea false true d e = all (field T t 0)
        go false ea false false true e = (all (field T t 0), all (field T t 1))
        go false ea false false false true = tt
        go false ea false false false false = basic_rises (kind T t)

  none_rises : (l : List Ty) (i : ℕ) → length l ≤ i → ListsRise (get_or l i broken)
  unfolding ListsRise
  none_rises l i h = subst ListsRise (sym (get_or-eq_default l broken {n = i} h)) tt

  below_rises : (n : ℕ) → n ≤ types T → (i : ℕ) → ListsRise (get_or (tys T n) i broken)
  below_rises zero h i = none_rises (tys T 0) i (omega (arith, length_tys T 0))
  below_rises (suc n) h i = go (ltb i n) refl (below_rises n (omega arith))
    where
      last : ((j : ℕ) → ListsRise (get_or (tys T n) j broken)) → n ≤ i → ListsRise (get_or (tys T (suc n)) i broken)
      last ih g = elim (ℕ_discrete i n) [
        | yes e ↦ subst ListsRise (sym (tys_at T (suc n) n (omega arith)) ∙ ap (λ (j : ℕ). get_or (tys T (suc n)) j broken) (sym e)) (row_rises (tys T n) ih n (omega arith))
        | no e ↦ none_rises (tys T (suc n)) i (omega (arith, length_tys T (suc n), e))
      ]

      go : (b : Bool) → ltb i n ≡ b → ((j : ℕ) → ListsRise (get_or (tys T n) j broken)) → ListsRise (get_or (tys T (suc n)) i broken)
      go true e ih = let k = ltb-true i n e in subst ListsRise (tys_at T n i k ∙ sym (tys_at T (suc n) i (omega arith))) (ih i)
      go false e ih = last ih (ltb-false i n e)

  rows_few : type_rows T ≤ types T
  unfolding type_rows
  rows_few = go (leb (types T) 256) refl
    where
      go : (b : Bool) → leb (types T) 256 ≡ b → pick b (types T) 256 ≤ types T
      go true e = omega arith
      go false e = omega (arith, leb-false (types T) 256 e)

  trees_rise : (i : ℕ) → ListsRise (get_or (trees T) i broken)
  unfolding trees
  trees_rise i = below_rises (type_rows T) rows_few i

  pub type_rises : (t : ℕ) → ListsRise (ty_of T t)
  unfolding ty_of
  type_rises t = trees_rise t

  pub member_rises : (m : ℕ) → ListsRise (member_ty T (trees T) m)
  member_rises m = among_rises (trees T) trees_rise m

  requireds_rise : (i : ℕ) (rs : List ℕ) → MembersRise (requireds_in T (trees T) i rs)
  unfolding requireds_in
  requireds_rise i [] = tt
  requireds_rise i (m ∷ rs) = go (eqb (mark T m) 0) (requireds_rise (suc i) rs) (requireds_rise i rs)
    where
      go : (b : Bool) → MembersRise (requireds_in T (trees T) (suc i) rs) → MembersRise (requireds_in T (trees T) i rs)
          → MembersRise (pick b (record { row = m; key = i; ty = member_ty T (trees T) m } ∷ requireds_in T (trees T) (suc i) rs) (requireds_in T (trees T) i rs))
      go true here past = (member_rises m, here)
      go false here past = past

  optionals_rise : (rs : List ℕ) → MembersRise (optionals_in T (trees T) rs)
  unfolding optionals_in
  optionals_rise [] = tt
  optionals_rise (m ∷ rs) = go (eqb (mark T m) 0) (optionals_rise rs)
    where
      go : (b : Bool) → MembersRise (optionals_in T (trees T) rs)
          → MembersRise (pick b (optionals_in T (trees T) rs) (record { row = m; key = tag T m; ty = member_ty T (trees T) m } ∷ optionals_in T (trees T) rs))
      go true rest = rest
      go false rest = (member_rises m, rest)

  pub required_rise : (t : ℕ) → MembersRise (required_members T t)
  unfolding required_members
  required_rise t = requireds_rise 0 (own_rows T t)

  pub optional_rise : (t : ℕ) → MembersRise (optional_members T t)
  unfolding optional_members
  optional_rise t = optionals_rise (own_rows T t)
