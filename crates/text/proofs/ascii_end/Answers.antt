-- What was passed holds only bytes below 128; each loop ends where a part is not there or not below.
use borrow.Author.Rules.{rules}
use Rattle.text.proofs.Laws.{crossed_none, ascii_room, ascii_less, ascii_turn, ascii_last}
use Rattle.text.proofs.ascii_end.Goals as goal

pub loop-i-init : goal.loop-i-init
loop-i-init c = search crossed_none

pub overflow_add-i : goal.overflow_add-i
overflow_add-i c = search (rules, ascii_room)

pub loop-i-smaller : goal.loop-i-smaller
loop-i-smaller c = search (rules, ascii_less)

pub loop-i-preserved : goal.loop-i-preserved
loop-i-preserved c = search ascii_turn

pub overflow_add-i-in-loop-i-2 : goal.overflow_add-i-in-loop-i-2
overflow_add-i-in-loop-i-2 c = search (rules, ascii_room)

pub loop-i-2-smaller : goal.loop-i-2-smaller
loop-i-2-smaller c = search (rules, ascii_less)

pub loop-i-2-preserved : goal.loop-i-2-preserved
loop-i-2-preserved c = search ascii_turn

pub returns-then-is_ascii : goal.returns-then-is_ascii
returns-then-is_ascii c = search ascii_last
