-- Each field from the member row's own 8 bytes.
use Rattle.table.proofs.Places.{member_shows, member_type_is, mark_is, member_spare_is, tag_is}
use Rattle.table.proofs.member_row_in.Goals as goal

pub returns : goal.returns
returns c =
    let shows = member_shows _ _ _ _ c.member_at-start.ensures c.member_at-end.ensures in
    record {
      of_is = member_type_is _ _ _ shows _ (search);
      mark_is = mark_is _ _ _ shows _ (search);
      spare_is = member_spare_is _ _ _ shows _ (search);
      tag_is = tag_is _ _ _ shows _ (search);
      of_small = search;
      mark_small = search;
      spare_small = search;
      tag_small = search;
    }
