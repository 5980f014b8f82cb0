-- What an old table makes of pieces that a new one read: what it does not know is skipped.
--
--   keep_or, lose_piece        of a piece
--   lose_known, lose_slice     of a slice
--   lose old top             of a message
use Rattle.std.proofs.Math.Option.{Option, none, some}
use Rattle.std.specs.Prelude.{List, ◌++◌, map, ℕ}
use Rattle.encoding.specs.Types.{Form, bits_of}
use Rattle.encoding.specs.Table.{Member, lookup, named}
use Rattle.encoding.specs.Table
use Rattle.encoding.specs.Optional.{Piece, required, optional, skipped, length_bytes}
use Rattle.encoding.specs.Slice.{Slice, known, passed, any_optional, data_bytes}
use Rattle.encoding.specs.Message.{Pieces, list, exception, class}

-- a known optional stays where the old table knows its tag, else its bytes after the header are skipped
unfoldable pub keep_or : ℕ → Form → List ℕ → Option Member → Piece
keep_or t f b none = skipped t (bits_of f) (length_bytes f b ++ b)
keep_or t f b (some m) = optional t f b

-- of one piece, where the old owner has these optionals
unfoldable pub lose_piece : List Member → Piece → Piece
lose_piece ms (required i b) = required i b
lose_piece ms (optional t f b) = keep_or t f b (lookup t ms)
lose_piece ms (skipped t k b) = skipped t k b

-- a known slice stays where the old table has a record of its name, else it is skipped
unfoldable pub lose_known : List ℕ → List ℕ → List Piece → Option ℕ → Slice
lose_known old o ps none = passed (any_optional ps) o (data_bytes (known o ps))
lose_known old o ps (some t) = known o (map (lose_piece (Table.optional_members old t)) ps)

-- of one slice
unfoldable pub lose_slice : List ℕ → Slice → Slice
lose_slice old (known o ps) = lose_known old o ps (named old o)
lose_slice old (passed b nm d) = passed b nm d

-- of a message under the old top
unfoldable pub lose : List ℕ → ℕ → Pieces → Pieces
lose old top (list ps) = list (map (lose_piece (Table.optional_members old top)) ps)
lose old top (exception ss) = exception (map (lose_slice old) ss)
lose old top (class ss) = class (map (lose_slice old) ss)
