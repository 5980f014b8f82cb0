-- The first byte says which bytes are due; each is compared with its bounds.
use borrow.Author.Rules.{rules}
use Rattle.text.proofs.Laws.{character_one, character_early, character_two, two_cut, second_cut, third_cut, character_three, character_four, fourth_cut, character_late}
use Rattle.text.proofs.character.Goals as goal

pub returns-then-a-lt128 : goal.returns-then-a-lt128
returns-then-a-lt128 c = search (rules, character_one, character_early, character_two, two_cut, character_three, character_four, fourth_cut, character_late, third_cut, second_cut)

pub returns-then-a-lt194 : goal.returns-then-a-lt194
returns-then-a-lt194 c = search (rules, character_one, character_early, character_two, two_cut, character_three, character_four, fourth_cut, character_late, third_cut, second_cut)

pub returns-then-between : goal.returns-then-between
returns-then-between c = search (rules, character_one, character_early, character_two, two_cut, character_three, character_four, fourth_cut, character_late, third_cut, second_cut)

pub returns-then-a-lt224 : goal.returns-then-a-lt224
returns-then-a-lt224 c = search (rules, character_one, character_early, character_two, two_cut, character_three, character_four, fourth_cut, character_late, third_cut, second_cut)

pub returns-then-a-lt240 : goal.returns-then-a-lt240
returns-then-a-lt240 c = search (rules, character_one, character_early, character_two, two_cut, character_three, character_four, fourth_cut, character_late, third_cut, second_cut)

pub returns-then-between-4 : goal.returns-then-between-4
returns-then-between-4 c = search (rules, character_one, character_early, character_two, two_cut, character_three, character_four, fourth_cut, character_late, third_cut, second_cut)

pub returns-else-between-4 : goal.returns-else-between-4
returns-else-between-4 c = search (rules, character_one, character_early, character_two, two_cut, character_three, character_four, fourth_cut, character_late, third_cut, second_cut)

pub returns-else-a-lt245 : goal.returns-else-a-lt245
returns-else-a-lt245 c = search (rules, character_one, character_early, character_two, two_cut, character_three, character_four, fourth_cut, character_late, third_cut, second_cut)

pub returns-else-between-3 : goal.returns-else-between-3
returns-else-between-3 c = search (rules, character_one, character_early, character_two, two_cut, character_three, character_four, fourth_cut, character_late, third_cut, second_cut)

pub returns-else-between-2 : goal.returns-else-between-2
returns-else-between-2 c = search (rules, character_one, character_early, character_two, two_cut, character_three, character_four, fourth_cut, character_late, third_cut, second_cut)
