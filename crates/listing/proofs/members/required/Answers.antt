-- From the first required members on. Assumes nothing.
use Rattle.std.proofs.Common.{rules}
use Rattle.listing.proofs.Walking.{required_few, required_listed}
use Rattle.listing.proofs.members.required.Goals as goal

pub walk-requires-clause-stop_bound : goal.walk-requires-clause-stop_bound
walk-requires-clause-stop_bound c =
    required_few c.args.old.now c.args.new.now c.args.t c.args.u _ _ (search rules) (search rules) _ _ (search rules) (search rules) _ (search rules)

pub returns : goal.returns
returns c = search required_listed
