-- A table that breaks a rule is refused, the new one's place moved on; else what two sound tables give. Assumes nothing.
use Rattle.compare.proofs.Telling.{found_fine, number_fits, place_fits, moved_fits, moved_adds, broken_old, broken_kept, broken_new, broken_new_kept}
use Rattle.compare.proofs.judge.Goals as goal

pub overflow_cast-broken : goal.overflow_cast-broken
overflow_cast-broken c = search number_fits

pub overflow_cast-broken-in-Err : goal.overflow_cast-broken-in-Err
overflow_cast-broken-in-Err c = search place_fits

pub overflow_cast-broken-in-Err-check : goal.overflow_cast-broken-in-Err-check
overflow_cast-broken-in-Err-check c = search number_fits

pub overflow_add-broken : goal.overflow_add-broken
overflow_add-broken c = search moved_adds

pub overflow_cast-broken-in-Err-check-2 : goal.overflow_cast-broken-in-Err-check-2
overflow_cast-broken-in-Err-check-2 c = search moved_fits

pub sound-requires : goal.sound-requires
sound-requires c = (search found_fine, search found_fine)

pub returns-in-Err-clause-value : goal.returns-in-Err-clause-value
returns-in-Err-clause-value c = search broken_old

pub returns-in-Err-clause-list_after : goal.returns-in-Err-clause-list_after
returns-in-Err-clause-list_after c = search broken_kept

pub returns-in-Err-check-clause-value : goal.returns-in-Err-check-clause-value
returns-in-Err-check-clause-value c = search (broken_new, found_fine)

pub returns-in-Err-check-clause-list_after : goal.returns-in-Err-check-clause-list_after
returns-in-Err-check-clause-list_after c = search (broken_new_kept, found_fine)
