-- The loop's invariant: the entries that are left decide. The measure is their number.
use native.Mathlib.Omega.{arith}
use Rattle.table.proofs.Searches.{search_begin, search_here, search_after, search_before, search_end}
use Rattle.table.proofs.allowed.searched.Goals as goal

pub loop-lo-init : goal.loop-lo-init
loop-lo-init c = search search_begin

pub returns-then-x-n : goal.returns-then-x-n
returns-then-x-n c = search search_here

pub loop-lo-smaller-then-x-n-2 : goal.loop-lo-smaller-then-x-n-2
loop-lo-smaller-then-x-n-2 c = omega arith

pub loop-lo-preserved-then-x-n-2 : goal.loop-lo-preserved-then-x-n-2
loop-lo-preserved-then-x-n-2 c = search search_after

pub loop-lo-smaller : goal.loop-lo-smaller
loop-lo-smaller c = omega arith

pub loop-lo-preserved : goal.loop-lo-preserved
loop-lo-preserved c = search search_before

pub returns : goal.returns
returns c = search search_end
