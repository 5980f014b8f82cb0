-- The refusal of the walk, or the plan for what it accepts. Assumes nothing.
use borrow.Author.Rules.{rules}
use Rattle.reading.proofs.Telling.{unasked, old_unasked}
use Rattle.change.proofs.Plans.{read_stopped, read_short, read_done_lem, read_shapes, read_few}
use Rattle.change.proofs.planning.plan.Statement.{statement}
use Rattle.change.proofs.planning.plan.Tie as tie

pub plan_spec : {M : Type 1} → statement M
plan_spec =
    tie.close
    (tie.spec
    (λ c. search rules)  -- slice-aggregate-walk
    (λ c κs. (search unasked, search old_unasked))  -- walk-requires
    (λ c. search rules)  -- enum-known-w
    (λ c. search read_short)  -- returns
    (λ c κs. search rules)  -- types-at-requires
    (λ c κs. (search rules, (search read_shapes, (search rules, search read_few))))  -- accepted-requires
    (λ c. search rules)  -- enum-known-w-2
    (λ c. search read_done_lem)  -- returns_2
    (λ c. search read_stopped))  -- returns_3
