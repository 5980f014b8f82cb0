-- A table that breaks no rule and has no optional member: encoding 1.0 can be used with every top of it. Assumes nothing.
-- Each row in line with the top takes member rows of the table, and none of these is optional.
--
--   owner_plain   a row that takes member rows has no optional ones
--   line_owner    a row in line with the top takes member rows
--   plain_old     26 does not apply
--   old_plain     it is known that 1.0 can be used, if the checks refuse nothing and no member row is optional
use Rattle.std.specs.Prelude.{◌≡◌, Bool, ◌||◌, ℕ, zero, suc, ◌-◌, ◌<◌}
use Rattle.std.proofs.Math.Path.{refl, ap, subst}
use Rattle.std.proofs.Common.{sym, ◌∙◌, true≢false, arith, eqb-true}
use Rattle.std.proofs.Math.Bool.{true, false, not}
use Rattle.std.proofs.lemmas.Bool.{false≢true}
use mathlib.Core.List.{List, [], ◌∷◌}
use Rattle.std.proofs.Math.Nat.{sub-zero}
use Rattle.std.proofs.Math.Dec.{eqb}
use Rattle.encoding.specs.Table.{types, members, owns, mark, any, fine, faults, Member, optional_members, base, upward}
use Rattle.encoding.proofs.RuleLaws.{any_none, chain_node, rows_there}
use Rattle.encoding.specs.Old.{no_old}
use Rattle.encoding.specs.Conform.{InLine, a_base, below}
use Rattle.encoding.specs.Message.{no_top}
use Rattle.encoding.specs.Write.{slot}
use Rattle.table.specs.Tags.{has_optional}
use Rattle.laws.specs.Demands.{All, end, more}
use Rattle.laws.proofs.PlanRules.{Owner, Fit, optional_fit, record_there, base_record, top_owner, chain_top}
use Rattle.laws.proofs.OldLine.{line_bare}
use Rattle.prepare.specs.Preparing.{checks}
use Rattle.prepare.specs.PreparingLaws.{ready_table, ready_there}
use Rattle.prepare.specs.declared.Prepared.TheVariants.{Ready}
use Rattle.reader.specs.OldUse.{OldUse}

module _ (T : List ℕ) (right : faults T ≡ fine) where
  owner_plain : has_optional T 0 (members T) ≡ false → (t : ℕ) → Owner T t → optional_members T t ≡ []
  unfolding has_optional slot
  owner_plain none t O = go (optional_members T t) (optional_fit T t right O)
    where
      go : (ms : List Member) → All (λ (m : Member). Fit T (slot t false m)) ms → ms ≡ []
      go [] end = refl
      go (m ∷ ms) (more F L) =
          let l : m.row < members T = rows_there T right t m.row O.below O.own F.place.to in
          let q : not (eqb (mark T m.row) 0) ≡ false = any_none (λ i. not (eqb (mark T i) 0)) 0 (members T) none m.row (omega arith) (omega arith) in
          absurd (true≢false (sym (ap not F.place.marked) ∙ q))

  module _ (top : ℕ) (there : no_top T top ≡ false) where
    -- a row after the top has a base, so it is a record
    line_owner : (t : ℕ) → t < types T → InLine T top t → Owner T t
    unfolding any upward
    line_owner t l (a_base d) =
        let R = chain_top T right top there t d in
        record { below = R.below; own = ap (λ (k : ℕ). owns k) R.alike ∙ (top_owner T right top there).own }
    line_owner t l (below d) = go (base T t) refl
      where
        itself : (b : Bool) → eqb t top ≡ b → b || false ≡ true → Owner T t
        itself true q h = subst (Owner T) (sym (eqb-true t top q)) (top_owner T right top there)
        itself false q h = absurd (false≢true h)

        go : (b : ℕ) → base T t ≡ b → Owner T t
        go zero e = itself (eqb t top) refl (rw (chain_node T t, e) at d)
        go (suc r) e = top_owner T right t (record_there T t l (base_record T right t r e))

    plain_old : has_optional T 0 (members T) ≡ false → no_old T top ≡ false
    plain_old none = line_bare T top (λ t l i. owner_plain none t (line_owner t l i))

pub old_plain : (T : List ℕ) (top len : ℕ) → checks T top 1 len ≡ Ready → (n : ℕ) → n ≡ members T → (b : Bool) → b ≡ has_optional T 0 (n - 0) → b ≡ false → OldUse T top 1
old_plain T top len e n en b eb q =
    let none : has_optional T 0 (members T) ≡ false = ap (has_optional T 0) (sym (sub-zero n ∙ en)) ∙ sym eb ∙ q in
    record {
      can = λ u. plain_old T (ready_table T top 1 len (checks T top 1 len) refl e) top (ready_there T top 1 len (checks T top 1 len) refl e) none;
      cannot = λ u. absurd (omega (arith, u));
    }
