-- Each field by its look-up; the zero byte from the part that begins at the row.
use Rattle.table.proofs.Places.{row_rest_shows, spare_is}
use Rattle.table.proofs.type_row_outside.Goals as goal

pub returns : goal.returns
returns c = record {
  kind_is = search;
  spare_is = search (spare_is, row_rest_shows);
  a_is = search;
  b_is = search;
  c_is = search;
  d_is = search;
  e_is = search;
  kind_small = search;
  spare_small = search;
  a_small = search;
  b_small = search;
  c_small = search;
  d_small = search;
  e_small = search;
}
