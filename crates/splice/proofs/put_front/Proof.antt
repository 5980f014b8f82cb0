-- The size, then the slice or the bytes of a list. Assumes nothing.
use borrow.Author.Rules.{rules}
use Rattle.splice.specs.SplicedLaws.{shaped_cuts}
use Rattle.splice.proofs.Putting.{front_room, front_slice, front_list, front_begins}
use Rattle.splice.proofs.put_front.Statement.{statement}
use Rattle.splice.proofs.put_front.Tie as tie

pub put_front_spec : {M : Type 1} → statement M
put_front_spec =
    tie.close
    (tie.spec
    (λ c κs. (search shaped_cuts, search rules))  -- size-after-requires
    (λ c κs. search rules)  -- put-number-requires
    (λ c κs. (search rules, (search rules, (search rules, search front_room))))  -- put-slice-requires
    (λ c. search front_begins)  -- sub-put-part
    (λ c κs. search rules)  -- put-part-requires
    (λ c. search rules)  -- same-length
    (λ c. search front_slice)  -- returns
    (λ c. search rules)  -- same-length-2
    (λ c. search front_list))  -- returns_2
