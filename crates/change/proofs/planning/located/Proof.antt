-- In a list, in a slice, or nowhere. Assumes nothing.
use borrow.Author.Rules.{rules}
use native.Mathlib.Omega.{arith}
use Rattle.change.proofs.Plans.{slot_none, slot_list, slot_slice, slice_fits, slice_order, slice_end, slice_begins, part_few, spot_to, spot_from}
use Rattle.change.proofs.planning.located.Statement.{statement}
use Rattle.change.proofs.planning.located.Tie as tie

pub located_spec : {M : Type 1} → statement M
located_spec =
    tie.close
    (tie.spec
    (λ c κs. search rules)  -- members-in-requires
    (λ c. search rules)  -- enum-told
    (λ c. search rules)  -- sub-optional-in
    (λ c. search rules)  -- part-optional-in-start
    (λ c. search rules)  -- part-optional-in-end
    (λ c κs. (search rules, (search rules, search part_few)))  -- optional-in-requires
    (λ c κs. (omega arith, search (spot_to, part_few), search (spot_from, part_few)))  -- at-spot-requires
    (λ c. search rules)  -- enum-known-s
    (λ c. search (rules, slice_fits))  -- add-a
    (λ c. search slice_order)  -- sub-optional-in-2
    (λ c. search (rules, slice_order))  -- part-optional-in-start-2
    (λ c. search (rules, slice_end))  -- part-optional-in-end-2
    (λ c κs. (search rules, (search rules, search part_few)))  -- optional-in-requires-2
    (λ c κs. (search slice_begins, search (spot_to, part_few), search (spot_from, part_few)))  -- at-spot-requires-2
    (λ c. search rules)  -- enum-told-2
    (λ c. search slot_list)  -- returns
    (λ c. search slot_slice)  -- returns_2
    (λ c. search slot_none))  -- returns_3
