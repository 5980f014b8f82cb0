-- None, or a long without the highest bit of its first bytes.
use mathlib.Core.Path.{sym}
use mathlib.Core.Bool.{true≢false}
use native.Mathlib.Omega.{arith}
use Rattle.text.proofs.Laws.{few_none, few_marked}
use Rattle.text.proofs.are_few_ascii.Goals as goal

pub returns-then-n-eq0 : goal.returns-then-n-eq0
returns-then-n-eq0 c = λ e. search few_none

pub returns-then-s-i-lt8 : goal.returns-then-s-i-lt8
returns-then-s-i-lt8 c = λ e. absurd (true≢false (sym e))

pub returns : goal.returns
returns c = few_marked _ (λ j. omega (arith, c.type_inv.s j)) _ _ (omega arith) (omega arith) (λ e. omega arith) _ c.long_in.ensures
