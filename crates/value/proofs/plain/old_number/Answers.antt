-- By the greatest: one byte, two or four, or too few. Assumes nothing.
use borrow.Author.Rules.{rules}
use Rattle.value.proofs.PlainLaws.{byte_cut, byte_whole, short_cut, short_whole, int_cut, int_whole}
use Rattle.value.proofs.plain.old_number.Goals as goal

pub returns-then-s-lt1 : goal.returns-then-s-lt1
returns-then-s-lt1 c = search (rules, byte_cut, byte_whole, short_cut, short_whole, int_cut, int_whole)

pub returns-then-g-le126 : goal.returns-then-g-le126
returns-then-g-le126 c = search (rules, byte_cut, byte_whole, short_cut, short_whole, int_cut, int_whole)

pub returns-then-s-lt2 : goal.returns-then-s-lt2
returns-then-s-lt2 c = search (rules, byte_cut, byte_whole, short_cut, short_whole, int_cut, int_whole)

pub returns-then-g-le32766 : goal.returns-then-g-le32766
returns-then-g-le32766 c = search (rules, byte_cut, byte_whole, short_cut, short_whole, int_cut, int_whole)

pub returns-then-s-lt4 : goal.returns-then-s-lt4
returns-then-s-lt4 c = search (rules, byte_cut, byte_whole, short_cut, short_whole, int_cut, int_whole)

pub returns : goal.returns
returns c = search (rules, byte_cut, byte_whole, short_cut, short_whole, int_cut, int_whole)
