-- The numbers of an answer; a refusal has none.
use borrow.Author.Rules.{rules}
use Rattle.locate.proofs.Locating.{room_at, put_at, put_none}
use Rattle.locate.proofs.put_located.Goals as goal

pub put_numbers-requires : goal.put_numbers-requires
put_numbers-requires c = search room_at

pub returns-in-At : goal.returns-in-At
returns-in-At c = search (rules, put_at)

pub returns-in-Refused : goal.returns-in-Refused
returns-in-Refused c = search put_none
