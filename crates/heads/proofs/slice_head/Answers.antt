-- The flags, then an ID if one is due, then what they mean; the ID lies within the bytes at hand.
use borrow.Author.Rules.{rules}
use Rattle.heads.proofs.Headings.{id_order, id_length, id_within, id_end_fits, id_place_fits, head_none, head_flags, head_unread, head_named}
use Rattle.heads.proofs.slice_head.Goals as goal

pub returns-then-s-lt1 : goal.returns-then-s-lt1
returns-then-s-lt1 c = search (rules, head_none, head_flags, head_named, head_unread)

pub returns-then-c-ne0 : goal.returns-then-c-ne0
returns-then-c-ne0 c = search (rules, head_none, head_flags, head_named, head_unread)

pub behind-requires : goal.behind-requires
behind-requires c = search (rules, head_none, head_flags, id_end_fits, id_length, id_order, id_within, id_place_fits, head_named, head_unread)

pub returns-in-Err : goal.returns-in-Err
returns-in-Err c = search (rules, head_none, head_flags, head_named, head_unread)

pub overflow_add-end : goal.overflow_add-end
overflow_add-end c = search (rules, id_end_fits, id_length, id_order, id_place_fits)

pub overflow_sub-start : goal.overflow_sub-start
overflow_sub-start c = search (rules, id_end_fits, id_length, id_order, id_place_fits)

pub slice_bounds-heading_at-end : goal.slice_bounds-heading_at-end
slice_bounds-heading_at-end c = search (rules, id_order, id_within)

pub returns : goal.returns
returns c = search (rules, head_none, head_flags, head_named, head_unread)
