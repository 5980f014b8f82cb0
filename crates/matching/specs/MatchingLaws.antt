-- Laws of the match of two tables. Assumes nothing.
--
--   optionals_are      optional members match exactly if each row does
--   few_owner          an owner in a table that breaks no rule has at most 1,024 members; few_record, few_partner of a record and its partner
use Rattle.std.specs.Prelude.{◌≡◌, Bool, ◌&&◌, ℕ, suc, ◌-◌, ◌≤◌, ◌<◌, eqb}
use Rattle.std.proofs.Math.Path.{refl}
use Rattle.std.proofs.Common.{sym, ap, ◌∙◌, arith}
use Rattle.std.proofs.Math.Bool.{true, false}
use Rattle.std.proofs.Math.Option.{some}
use mathlib.Core.List.{List, [], ◌∷◌}
use Rattle.encoding.specs.Result.{pick}
use Rattle.encoding.specs.Table.{types, kind, is_record, owns, field, fine, faults, mark, tag, trees, member_ty, lookup, own_rows, optionals_in, optional_members}
use Rattle.encoding.proofs.RuleLaws.{owns_record, taken_next, taken_rises, taken_whole, members_most}
use Rattle.differences.specs.Compare.{agree, partner, optionals_match}
use Rattle.differences.specs.CompareLaws.{Partnered, found, alone, partnered}
use Rattle.listing.specs.Listing.{FewMembers}
use Rattle.listing.specs.ListingLaws.{optional_agrees}
use Rattle.matching.specs.Matching.{optional_matches, every_row}

module _ (S T : List ℕ) (t u : ℕ) where
  rows_match : (rs : List ℕ) → optionals_match (optionals_in S (trees S) rs) (optional_members T u) ≡ every_row (optional_matches S T u) rs
  unfolding optionals_match optionals_in every_row optional_matches
  rows_match [] = refl
  rows_match (r ∷ rs) = rw (← rows_match rs, ← optional_agrees S T t u r (tag S r)) (go (eqb (mark S r) 0))
    where
      go : (b : Bool) → optionals_match (pick b (optionals_in S (trees S) rs) (record { row = r; key = tag S r; ty = member_ty S (trees S) r } ∷ optionals_in S (trees S) rs)) (optional_members T u)
          ≡ pick b true (agree (some (record { row = r; key = tag S r; ty = member_ty S (trees S) r })) (lookup (tag S r) (optional_members T u))) && optionals_match (optionals_in S (trees S) rs) (optional_members T u)
      go true = refl
      go false = refl

  pub optionals_are : optionals_match (optional_members S t) (optional_members T u) ≡ every_row (optional_matches S T u) (own_rows S t)
  unfolding optional_members
  optionals_are = rows_match (own_rows S t)

module _ (T : List ℕ) (f : faults T ≡ fine) where
  pub few_owner : (t : ℕ) → t < types T → owns (kind T t) ≡ true → field T t 1 ≤ 1024
  few_owner t l o = omega (arith, taken_next T t o, taken_rises T (suc t) (types T) l, taken_whole T f, members_most T f)

  pub few_record : (t : ℕ) → t < types T → is_record (kind T t) ≡ true → field T t 1 ≤ 1024
  few_record t l r = few_owner t l (owns_record (kind T t) r)

  pub few_partner : (S : List ℕ) (t p : ℕ) → is_record (kind S t) ≡ true → p ≡ partner S T t → FewMembers T p
  few_partner S t p r e h = go (partnered S T t r)
    where
      go : Partnered S T t → field T (p - 1) 1 ≤ 1024
      go (found u q same) =
          let z : p - 1 ≡ u = omega (arith, e, q) in
          rw z (few_record u same.inside (ap is_record (sym same.kinds) ∙ r))
      go (alone q none) = absurd (omega (arith, e, q))
