-- The numbers of an answer, a case for each; a refusal has none.
use borrow.Author.Rules.{rules}
use Rattle.endpoint.proofs.Openings.{room_is, room_unopened, put_is, put_unopened, put_refused}
use Rattle.endpoint.proofs.put_opened.Goals as goal

pub put_numbers-requires : goal.put_numbers-requires
put_numbers-requires c = search room_is

pub put_numbers-requires-in-Unopened : goal.put_numbers-requires-in-Unopened
put_numbers-requires-in-Unopened c = search room_unopened

pub returns-in-Is : goal.returns-in-Is
returns-in-Is c = search (rules, put_is)

pub returns-in-Unopened : goal.returns-in-Unopened
returns-in-Unopened c = search (rules, put_unopened)

pub returns-in-Refused : goal.returns-in-Refused
returns-in-Refused c = search put_refused
