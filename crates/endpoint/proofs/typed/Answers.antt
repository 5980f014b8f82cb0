-- By the type: an endpoint that is opened, or another.
use Rattle.endpoint.proofs.Openings.{typed_cut, typed_none, typed_high, typed_is}
use Rattle.endpoint.proofs.typed.Goals.{then-kind-eq0-via-then-kind-eq0, then-kind-eq0-via-else-kind-eq0+then-kind-gt3}
use Rattle.endpoint.proofs.typed.Goals as goal

pub returns-then-s-lt2 : goal.returns-then-s-lt2
returns-then-s-lt2 c = search typed_cut

pub returns-then-kind-eq0 : goal.returns-then-kind-eq0
returns-then-kind-eq0 c =
    elim c.then-kind-eq0.branch [
      | then-kind-eq0-via-then-kind-eq0 w ↦ search typed_none
      | then-kind-eq0-via-else-kind-eq0+then-kind-gt3 w ↦ search typed_high
    ]

pub returns : goal.returns
returns c = search typed_is
