-- By the shape of the row below, and its kind where the shape is that of containers too.
use borrow.Author.Rules.{rules}
use native.Mathlib.Omega.{arith}
use Rattle.encoding.proofs.TableLaws.{rows_below}
use Rattle.shapes.proofs.Filling.{fixed_none, fixed_wide, fixed_bool, fixed_struct, fixed_not}
use Rattle.shapes.proofs.is_fixed.Goals as goal

pub returns-then-t-i : goal.returns-then-t-i
returns-then-t-i c = search fixed_none

pub bounds-shapes-i : goal.bounds-shapes-i
bounds-shapes-i c = omega (arith, rows_below c.before.before.args.table.now)

pub returns-then-x-gt10 : goal.returns-then-x-gt10
returns-then-x-gt10 c = search fixed_wide

pub returns-then-x-eq0 : goal.returns-then-x-eq0
returns-then-x-eq0 c = search fixed_bool

pub returns-then-x-eq9 : goal.returns-then-x-eq9
returns-then-x-eq9 c = search fixed_struct

pub returns : goal.returns
returns c = search fixed_not
