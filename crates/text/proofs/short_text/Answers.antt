-- A size of one byte, then bytes that are text; 0 says nothing.
use native.Mathlib.Omega.{arith}
use borrow.Author.Rules.{rules}
use Rattle.text.proofs.Laws.{short_low, short_is}
use Rattle.text.proofs.short_text.Goals as goal

pub returns-then-s-lt1 : goal.returns-then-s-lt1
returns-then-s-lt1 c = λ e. absurd (omega arith)

pub returns-then-n-eq255 : goal.returns-then-n-eq255
returns-then-n-eq255 c = λ e. absurd (omega arith)

pub returns-then-s-n : goal.returns-then-s-n
returns-then-s-n c = λ e. absurd (omega arith)

pub returns-then-are_some_ascii : goal.returns-then-are_some_ascii
returns-then-are_some_ascii c = λ e. search short_low

pub returns-then-is_utf8 : goal.returns-then-is_utf8
returns-then-is_utf8 c = λ e. short_is _ _ (search rules) (omega arith) (λ q. omega arith) (omega arith) _ c.is_utf8.ensures (search rules)

pub returns : goal.returns
returns c = λ e. absurd (omega arith)
