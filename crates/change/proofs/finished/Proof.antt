-- The same, with the output filled where there is a result. Assumes nothing.
use borrow.Author.Rules.{rules}
use Rattle.change.proofs.Plans.{fits_shaped, fits_cuts, fits_few, fits_number, fits_place, told_stop, told_long, told_room, told_made, put_stop, put_long, put_room, put_made, put_asks}
use Rattle.change.proofs.finished.Statement.{statement}
use Rattle.change.proofs.finished.Tie as tie

pub finished_spec : {M : Type 1} → statement M
finished_spec =
    tie.close
    (tie.spec
    (λ c. search rules)  -- enum-known-p
    (λ c κs. (search fits_cuts, search fits_few))  -- size-after-requires
    (λ c. search rules)  -- cast-t13
    (λ c. (search told_long, search put_long))  -- returns
    (λ c. search rules)  -- cast-t14
    (λ c. (search told_room, search put_room))  -- returns_2
    (λ c κs. (search fits_shaped, (search fits_few, search put_asks)))  -- put-requires
    (λ c. search rules)  -- cast-t18
    (λ c. search rules)  -- enum-known-p-2
    (λ c. search fits_number)  -- cast-t19
    (λ c. search fits_place)  -- cast-t20
    (λ c. search rules)  -- same-length
    (λ c. (search told_made, search put_made))  -- returns_3
    (λ c. (search told_stop, search put_stop)))  -- returns_4
