-- Laws of `Preparing`: what a refusal and what no refusal mean for the reader and for the writer. Assumes nothing.
--
--   ready_table, ready_early          where ready, the table breaks no rule and none of 2, 23, 26, 3 applies
--   ready_there                       where ready, the top is a row of the table of a kind that a top may have
--   ready_top, ready_short            where ready, the top is below 65,536 and the length is at most 65,536
--   reading_ready, reading_refused    the reader's rules where ready, and where refused
use Rattle.std.specs.Prelude.{◌≡◌, Bool, ◌&&◌, length}
use Rattle.std.proofs.Math.Path.{refl, sym}
use Rattle.std.proofs.Common.{ap, ◌∙◌, arith}
use Rattle.std.proofs.Math.Bool.{true, false}
use mathlib.Core.List.{List, [], ◌∷◌}
use Prim.Native.Nat.{ℕ, zero, suc, ◌≤◌, ◌<◌}
use Rattle.std.proofs.Math.Dec.{eqb, ltb}
use borrow.Author.Tests.{ltb-false}
use Rattle.encoding.specs.Result.{bad, first_of}
use Rattle.encoding.proofs.ResultLaws.{first_of_ok}
use Rattle.encoding.specs.Table.{kind, Fault, fine, fault, faults, rule_number}
use Rattle.encoding.proofs.RuleLaws.{types_most}
use Rattle.encoding.specs.Old.{no_old}
use Rattle.encoding.specs.Message.{body, no_top, limit, after_rules, refused_first, rules}
use Rattle.encoding.proofs.MessageLaws.{rules_body, top_there}
use Rattle.encoding.specs.Write.{no_format}
use Rattle.prepare.specs.declared.Prepared.{Prepared}
use Rattle.prepare.specs.declared.Prepared.TheVariants.{Ready, Refused}
use Rattle.prepare.specs.Preparing.{before, checked, checks}

ready≢refused : {r : Prepared} {c p : ℕ} → r ≡ Ready → r ≡ Refused c p → ⊥
ready≢refused e h = let z : ◌≡◌ {A = ℕ} 0 1 = cc in omega arith

module _ (T : List ℕ) (top format len : ℕ) (r : Prepared) (er : r ≡ checks T top format len) where
  module _ (e : r ≡ Ready) where
    pub ready_table : faults T ≡ fine
    unfolding checks checked
    ready_table = go (faults T) refl (sym er ∙ e)
      where
        go : (f : Fault) → faults T ≡ f → checked f (before T top format len) ≡ Ready → faults T ≡ fine
        go fine q h = q
        go (fault c p) q h = absurd (ready≢refused h refl)

    pub ready_early : before T top format len ≡ 0
    unfolding checks checked
    ready_early = go (before T top format len) refl (sym (ap (λ (f : Fault). checked f (before T top format len)) ready_table) ∙ sym er ∙ e)
      where
        go : (n : ℕ) → before T top format len ≡ n → checked fine n ≡ Ready → n ≡ 0
        go zero q h = refl
        go (suc n) q h = absurd (ready≢refused h refl)

    pub ready_there : no_top T top ≡ false
    unfolding before
    ready_there = (first_of_ok 1 (no_top T top) ((23, no_format (kind T top) format) ∷ (26, eqb format 2 && no_old T top) ∷ (3, ltb limit len) ∷ []) ready_early).0

    pub ready_short : len ≤ 65536
    unfolding before
    ready_short =
        let a = first_of_ok 1 (no_top T top) ((23, no_format (kind T top) format) ∷ (26, eqb format 2 && no_old T top) ∷ (3, ltb limit len) ∷ []) ready_early in
        let b = first_of_ok 22 (no_format (kind T top) format) ((26, eqb format 2 && no_old T top) ∷ (3, ltb limit len) ∷ []) a.1 in
        let c = first_of_ok 25 (eqb format 2 && no_old T top) ((3, ltb limit len) ∷ []) b.1 in
        let d = first_of_ok 2 (ltb limit len) [] c.1 in
        ltb-false limit len d.0

    pub ready_top : top < 65536
    ready_top = omega (arith, (top_there T top ready_there).0, types_most T ready_table)

-- format 1 is not refused
module _ (T : List ℕ) (top : ℕ) (m : List ℕ) (len : ℕ) (el : len ≡ length m) (r : Prepared) (er : r ≡ checks T top 1 len) where
  pub reading_ready : r ≡ Ready → rules T top m ≡ body T top m
  reading_ready e = rules_body T top m (ready_table T top 1 len r er e) (ready_there T top 1 len r er e) (omega (arith, ready_short T top 1 len r er e))

  pub reading_refused : (c p : ℕ) → r ≡ Refused c p → rules T top m ≡ bad c p
  unfolding checks checked before rules after_rules refused_first first_of no_format
  reading_refused c p e = table (faults T) (sym er ∙ e)
    where
      early : (b d : Bool) → checked fine (first_of ((2, b) ∷ (23, no_format (kind T top) 1) ∷ (26, eqb 1 2 && no_old T top) ∷ (3, d) ∷ [])) ≡ Refused c p
          → refused_first (first_of ((2, b) ∷ (3, d) ∷ [])) (body T top m) ≡ bad c p
      early true d h = let ec : 2 ≡ c = cc in let ep : 0 ≡ p = cc in rw (ec, ep)
      early false true h = let ec : 3 ≡ c = cc in let ep : 0 ≡ p = cc in rw (ec, ep)
      early false false h = absurd (ready≢refused refl h)

      table : (f : Fault) → checked f (before T top 1 len) ≡ Refused c p → after_rules f (refused_first (first_of ((2, no_top T top) ∷ (3, ltb limit (length m)) ∷ [])) (body T top m)) ≡ bad c p
      table fine h =
          let g : checked fine (before T top 1 (length m)) ≡ Refused c p = ap (λ (i : ℕ). checked fine (before T top 1 i)) (sym el) ∙ h in
          early (no_top T top) (ltb limit (length m)) g
      table (fault d q) h = let ec : rule_number d ≡ c = cc in let ep : q ≡ p = cc in rw (ec, ep)
