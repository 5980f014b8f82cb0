-- Where the member rows of each owner are there, the owners left decide the answer. Assumes nothing.
use Rattle.std.proofs.lemmas.Result.{err_from_is_err_and}
use Rattle.rules.proofs.Judging.{owners_fault, owners_next, owners_low, owners_end}
use Rattle.rules.proofs.member_rows.Goals as goal
use Rattle.rules.proofs.member_rows.Goals.{then-kind_in-ge9+in_ok-owner, else-kind_in-ge9}

pub returns-in_err-owner : goal.returns-in_err-owner
returns-in_err-owner c =
    let p = err_from_is_err_and c.from_residual.result c.from_residual.ensures.1 in
    λ there. rw (p.1, p.2) (owners_fault _ _ _ c.loop-o.invariant c.loop-o-test.true c.requires.n_value.0 _ c.owner.ensures _ c.in_err-owner.was there)

pub loop-o-preserved : goal.loop-o-preserved
loop-o-preserved c = elim c.if-kind_in-ge9.branch [ then-kind_in-ge9+in_ok-owner w ↦ owners_next _ _ _ c.loop-o.invariant c.loop-o-test.true c.requires.n_value.0 _ w.owner.ensures _ w.in_ok-owner.was | else-kind_in-ge9 w ↦ search owners_low ]

pub returns : goal.returns
returns c = search owners_end
