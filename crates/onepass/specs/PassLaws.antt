-- What a caller knows after the pass, and after the checks for a format g and a length l. Assumes nothing.
--
--   passed_table, passed_shapes   the pass said yes: the table breaks no rule, and the shapes are there
--   blank_again                   it said no: the array holds 10s
--   stop_found, ready_found       what the checks found
--   no_shapes, shapes_there       the shapes if the checks refuse, and if they do not
use Rattle.std.specs.Prelude.{◌≡◌, Bool, true, false, List, ℕ, replicate}
use Rattle.std.proofs.Common.{sym, ◌∙◌, arith}
use Rattle.encoding.specs.Table.{fine, faults}
use Rattle.shapes.specs.Shapes.{shapes_of}
use Rattle.prepare.specs.Preparing.{checks}
use Rattle.prepare.specs.declared.Prepared.{Prepared}
use Rattle.prepare.specs.declared.Prepared.TheVariants.{Ready, Refused as Stopped}

pub passed_shapes : (T s : List ℕ) (b : Bool) → (b ≡ true → s ≡ shapes_of T) → b ≡ true → (top g l : ℕ) → checks T top g l ≡ Ready → s ≡ shapes_of T
passed_shapes T s b f e top g l h = f e

pub passed_table : (T : List ℕ) (b : Bool) → (b ≡ true → faults T ≡ fine) → b ≡ true → faults T ≡ fine
passed_table T b f e = f e

pub blank_again : (s : List ℕ) (b : Bool) → (b ≡ false → s ≡ replicate 256 10) → b ≡ false → s ≡ replicate 256 10
blank_again s b f e = f e

module _ (T : List ℕ) (top g l : ℕ) (p : Prepared) (ep : p ≡ checks T top g l) where
  pub stop_found : (c q : ℕ) → p ≡ Stopped c q → Stopped c q ≡ checks T top g l
  stop_found c q e = sym e ∙ ep

  pub ready_found : p ≡ Ready → Ready ≡ checks T top g l
  ready_found e = sym e ∙ ep

  pub no_shapes : (c q : ℕ) → p ≡ Stopped c q → (s : List ℕ) → checks T top g l ≡ Ready → s ≡ shapes_of T
  no_shapes c q e s h = let z : ◌≡◌ {A = ℕ} 0 1 = cc in absurd (omega arith)

  pub shapes_there : p ≡ Ready → (s : List ℕ) → (checks T top g l ≡ Ready → s ≡ shapes_of T) → s ≡ shapes_of T
  shapes_there e s h = h (sym ep ∙ e)
