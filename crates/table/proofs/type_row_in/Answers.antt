-- Each field from the row's own 12 bytes.
use native.Mathlib.Omega.{arith}
use Rattle.table.proofs.Places.{row_shows, kind_is, spare_is, field_is}
use Rattle.table.proofs.type_row_in.Goals as goal

pub returns : goal.returns
returns c =
    let shows = row_shows _ _ _ _ c.row_at-start.ensures c.row_at-end.ensures in
    record {
      kind_is = kind_is _ _ _ shows _ (search);
      spare_is = spare_is _ _ _ shows _ (search);
      a_is = field_is _ _ _ shows _ 0 (omega arith) _ c.field_at.ensures (search);
      b_is = field_is _ _ _ shows _ 1 (omega arith) _ c.field_at-2.ensures (search);
      c_is = field_is _ _ _ shows _ 2 (omega arith) _ c.field_at-3.ensures (search);
      d_is = field_is _ _ _ shows _ 3 (omega arith) _ c.field_at-4.ensures (search);
      e_is = field_is _ _ _ shows _ 4 (omega arith) _ c.field_at-5.ensures (search);
      kind_small = search;
      spare_small = search;
      a_small = search;
      b_small = search;
      c_small = search;
      d_small = search;
      e_small = search;
    }
