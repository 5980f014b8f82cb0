-- The table's rules, then 2, 23, 26 and 3. Assumes nothing.
use borrow.Author.Rules.{rules}
use Rattle.prepare.proofs.Checking.{broken_checks, fine_table}
use Rattle.prepare.proofs.prepare.Goals as goal

pub after_rules-requires-clause-table_value : goal.after_rules-requires-clause-table_value
after_rules-requires-clause-table_value c = search (rules, fine_table)

pub returns-in-Err : goal.returns-in-Err
returns-in-Err c = search broken_checks
