-- The place hangs on table and top alone. Assumes nothing.
use borrow.Author.Rules.{rules}
use Rattle.icehub.proofs.Seasonal.{sheet_place_same}
use Rattle.icehub.proofs.sheets.icehub_sheet_place.Statement.{statement}
use Rattle.icehub.proofs.sheets.icehub_sheet_place.Tie as tie

place_requires : tie.Need-place-requires
place_requires c κs = search rules

returns : tie.Need-returns
returns c = search sheet_place_same

pub icehub_sheet_place_spec : {M : Type 1} → statement M
icehub_sheet_place_spec = tie.close (tie.spec place_requires returns)
