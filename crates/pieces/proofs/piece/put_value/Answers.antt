-- By the length: a few bytes one by one, any other part as `put_content` does. Assumes nothing.
use mathlib.Core.Path.{◌≡◌}
use native.Mathlib.Omega.{arith}
use Rattle.pieces.proofs.Copies.{few_none, room, few_put, few_end}
use Rattle.pieces.proofs.piece.put_value.Goals as goal

pub put_one-requires : goal.put_one-requires
put_one-requires c = (room _ _ _ _ _ c.fits-then-fits.ensures c.if-fits-2.true c.if-len-eq1.true, room _ _ _ _ _ c.fits.ensures c.if-fits.true c.if-len-eq1.true)

pub returns-then-len-eq1 : goal.returns-then-len-eq1
returns-then-len-eq1 c = (search few_put, search few_end)

pub put_two-requires : goal.put_two-requires
put_two-requires c = (room _ _ _ _ _ c.fits-then-fits.ensures c.if-fits-2.true c.if-len-eq2.true, room _ _ _ _ _ c.fits.ensures c.if-fits.true c.if-len-eq2.true)

pub returns-then-len-eq2 : goal.returns-then-len-eq2
returns-then-len-eq2 c = (search few_put, search few_end)

pub returns-then-len-lt3 : goal.returns-then-len-lt3
returns-then-len-lt3 c = (let z : c.args.len ≡ 0 = omega arith in few_none c.args.buffer.now c.args.place _ _ _ z, omega arith)

pub put_four-requires : goal.put_four-requires
put_four-requires c = (room _ _ _ _ _ c.fits-then-fits.ensures c.if-fits-2.true c.if-len-eq4.true, room _ _ _ _ _ c.fits.ensures c.if-fits.true c.if-len-eq4.true)

pub returns-then-len-eq4 : goal.returns-then-len-eq4
returns-then-len-eq4 c = (search few_put, search few_end)

pub put_eight-requires : goal.put_eight-requires
put_eight-requires c = (room _ _ _ _ _ c.fits-then-fits.ensures c.if-fits-2.true c.if-len-eq8.true, room _ _ _ _ _ c.fits.ensures c.if-fits.true c.if-len-eq8.true)

pub returns-then-len-eq8 : goal.returns-then-len-eq8
returns-then-len-eq8 c = (search few_put, search few_end)
