-- The head, then the data. Assumes nothing.
use borrow.Author.Rules.{rules}
use Rattle.splice.proofs.Putting.{slice_flags_at, slice_size_at, slice_size_in, slice_few, slice_size_out, slice_data_at, slice_from_in, slice_order, slice_cuts, slice_put}
use Rattle.splice.proofs.put_slice.Statement.{statement}
use Rattle.splice.proofs.put_slice.Tie as tie

pub put_slice_spec : {M : Type 1} → statement M
put_slice_spec =
    tie.close
    (tie.spec
    (λ c κs. (search slice_flags_at, search slice_size_at, search slice_size_in, search slice_few, search (rules, slice_size_out)))  -- put-head-requires
    (λ c. search slice_order)  -- sub-size-after
    (λ c κs. (search slice_cuts, search rules))  -- size-after-requires
    (λ c κs. (search slice_data_at, search slice_from_in, search slice_few, search rules))  -- put-data-requires
    (λ c. search rules)  -- same-length
    (λ c. search slice_put))  -- returns
