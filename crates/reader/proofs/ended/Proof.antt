-- By how the walk ended, and where. Assumes nothing.
use Rattle.reader.proofs.Bodies.{ended_whole, ended_behind, ended_stop}
use borrow.Author.Rules.{rules}
use Rattle.reader.proofs.ended.Statement.{statement}
use Rattle.reader.proofs.ended.Tie as tie

pub ended_spec : {M : Type 1} → statement M
ended_spec =
    tie.close
    (tie.spec
    (λ c. search rules)  -- enum-known-w
    (λ c. search rules)  -- enum-known-w-2
    (λ c. search ended_whole)  -- returns
    (λ c. search ended_behind)  -- returns_2
    (λ c. search ended_stop))  -- returns_3
