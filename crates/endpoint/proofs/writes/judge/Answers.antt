-- The arguments in the order of their refusals, a case for each.
use borrow.Author.Rules.{rules}
use Rattle.endpoint.proofs.Writings.{judge_zero, judge_high, judge_long, judge_no_port, judge_high_port, judge_fine, judge_text}
use Rattle.endpoint.proofs.writes.judge.Goals.{then-kind-eq0-via-then-kind-eq0, then-kind-eq0-via-else-kind-eq0+then-kind-gt3, then-port-eq0-via-then-port-eq0, then-port-eq0-via-else-port-eq0+then-port-gt65535}
use Rattle.endpoint.proofs.writes.judge.Goals as goal

pub returns-then-kind-eq0 : goal.returns-then-kind-eq0
returns-then-kind-eq0 c =
    elim c.then-kind-eq0.branch [
      | then-kind-eq0-via-then-kind-eq0 w ↦ search judge_zero
      | then-kind-eq0-via-else-kind-eq0+then-kind-gt3 w ↦ search judge_high
    ]

pub returns-then-host-gt65536 : goal.returns-then-host-gt65536
returns-then-host-gt65536 c = search judge_long

pub returns-then-not-is_utf8 : goal.returns-then-not-is_utf8
returns-then-not-is_utf8 c = search (rules, judge_text)

pub returns-then-port-eq0 : goal.returns-then-port-eq0
returns-then-port-eq0 c =
    elim c.then-port-eq0.branch [
      | then-port-eq0-via-then-port-eq0 w ↦ search (rules, judge_no_port)
      | then-port-eq0-via-else-port-eq0+then-port-gt65535 w ↦ search (rules, judge_high_port)
    ]

pub returns : goal.returns
returns c = search (rules, judge_fine)
