-- That many bytes are there, or fewer.
use borrow.Author.Rules.{rules}
use Rattle.optional.proofs.Declared.{run_cut, run_whole}
use Rattle.optional.proofs.extents.bare.Goals as goal

pub returns-then-s-k : goal.returns-then-s-k
returns-then-s-k c = search (rules, run_cut, run_whole)

pub returns : goal.returns
returns c = search (rules, run_cut, run_whole)
