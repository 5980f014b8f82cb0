-- What the code answers of a search.
--
--   found_of       the row found, if any
--   member_found   the row of the member found and that of its type, if any
use Rattle.std.specs.Prelude.{ℕ, List, Option, Some, None}
use Rattle.std.proofs.Math.Option.{none, some}
use Rattle.std.proofs.Math.Option as maybe
use Rattle.encoding.specs.Table.{Member, member_type}
use Rattle.table.specs.declared.TaggedMember.{TaggedMember}

unfoldable pub found_of : maybe.Option ℕ → Option ℕ
found_of none = None
found_of (some i) = Some i

unfoldable pub member_found : List ℕ → maybe.Option Member → Option TaggedMember
member_found T none = None
member_found T (some m) = Some (record { member = m.row; of = member_type T m.row })
