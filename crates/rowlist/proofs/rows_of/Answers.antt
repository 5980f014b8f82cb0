-- Row i is laid after the i rows before it; rows that the list has no room for are lost.
use Rattle.std.proofs.Common.{◌≡◌, ◌∙◌, ◌/◌, min, length, arith, add-one}
use Rattle.rowlist.proofs.Laying.{overlay_start, overlay_next, filled}
use Rattle.rowlist.proofs.rows_of.Goals as goal

pub loop-i-init : goal.loop-i-init
loop-i-init c = record { laid = overlay_start _ _; least = omega arith }

pub loop-i-preserved : goal.loop-i-preserved
loop-i-preserved c =
    record {
      laid = rw (c.loop-i.invariant.laid, c.row_at.ensures, add-one) (overlay_next _ _ _ (omega arith));
      least = omega arith;
    }

pub returns : goal.returns
returns c =
    let e : c.loop-i.i ≡ min (min c.args.n (length c.args.bytes.now / 12)) (length c.args.rows.now) = omega arith in
    (c.count-m.ensures, c.loop-i.invariant.laid ∙ filled _ _ _ _ e)
