-- By the kinds of the tops. Assumes nothing.
use Rattle.matching.proofs.Judging.{tops_records, tops_none, tops_one, tops_lists, tops_few, tops_few_new, row_small}
use borrow.Author.Rules.{rules}
use Rattle.matching.proofs.tops.Statement.{statement}
use Rattle.matching.proofs.tops.Tie as tie

pub tops_spec : {M : Type 1} → statement M
tops_spec =
    tie.close
    (tie.spec
    (λ c κs. search rules)  -- kind-requires
    (λ c κs. search rules)  -- is-record-requires
    (λ c κs. search rules)  -- same-record-requires
    (λ c. search tops_records)  -- returns
    (λ c κs. search rules)  -- kind-requires-2
    (λ c κs. (search rules, (search rules, (search row_small, search row_small, search tops_few, search tops_few_new))))  -- owners-requires
    (λ c. search tops_lists)  -- returns_2
    (λ c. search tops_one)  -- returns_3
    (λ c. search tops_none))  -- returns_4
