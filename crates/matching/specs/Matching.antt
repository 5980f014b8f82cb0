-- The match of two owners, row by row.
--
--   optional_matches u m    member row m of the old table is required, or an optional of row u of the new one has its tag and agrees
--   row_matched t           row t of the old table is no record, or matches its partner
--   every_row f l           each row passes a test
use Rattle.std.specs.Prelude.{ℕ, suc, Bool, true, ◌&&◌, List, [], ◌∷◌, eqb}
use Rattle.encoding.specs.Result.{pick}
use Rattle.encoding.specs.Table.{kind, is_record, mark, tag, lookup, optional_members}
use Rattle.differences.specs.Compare.{member_row, partner, matched_by}
use Rattle.listing.specs.Listing.{agree_rows}

unfoldable pub optional_matches : (S T : List ℕ) → (u m : ℕ) → Bool
optional_matches S T u m = pick (eqb (mark S m) 0) true (agree_rows S T (suc m) (member_row (lookup (tag S m) (optional_members T u))))

unfoldable pub every_row : (ℕ → Bool) → List ℕ → Bool
every_row f [] = true
every_row f (i ∷ l) = f i && every_row f l

unfoldable pub row_matched : (S T : List ℕ) → ℕ → Bool
row_matched S T t = pick (is_record (kind S t)) (matched_by S T t (partner S T t)) true
