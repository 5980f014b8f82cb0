-- Both counts are shorts of the part that is read.
use native.Mathlib.Omega.{arith}
use Rattle.encoding.proofs.TableLaws.{header_most}
use Rattle.table.proofs.Places.{counts_show, names_here}
use Rattle.table.proofs.names_at_in.Goals as goal

pub overflow_add-result : goal.overflow_add-result
overflow_add-result c = omega (arith, header_most c.args.table.now)

pub overflow_add-result-2 : goal.overflow_add-result-2
overflow_add-result-2 c = omega (arith, header_most c.args.table.now)

pub returns : goal.returns
returns c = (names_here _ _ (counts_show _) _ _ _ (search) (search) (search), omega (arith, header_most c.args.table.now))
