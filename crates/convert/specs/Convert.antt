-- The converter: a compact record to the sliced one with the same members and bytes.
--
--   not_compact       any form but a compact record
--   not_convertible   what 47 and 48 judge of a message that was read
--   slice_out         the sliced message of what was read, however long, or a refusal
--   converting       the message or a refusal; room is the output's bytes
use Rattle.std.specs.Prelude.{Bool, true, List, [], ◌∷◌, ℕ, ◌+◌, ltb}
use Rattle.encoding.specs.Result.{Res, ok, bad, first_of}
use Rattle.encoding.specs.Slice.{sliced, is_sliced}
use Rattle.encoding.specs.Message.{Encoding, v10, v11, Read, rules, encode, encapsulate, optionals_skipped, slices_skipped}
use Rattle.encoding.specs.Write.{Out, out, stop, next, stopped_first, bounded}

-- a parameter list or a sliced record, or all of encoding 1.0
unfoldable pub not_compact : Encoding → Bool
not_compact v10 = true
not_compact (v11 g) = is_sliced g

-- 47 not a compact record; 48 something skipped
unfoldable pub not_convertible : Read → ℕ
not_convertible r =
    first_of ((47, not_compact r.format)
    ∷ (48, ltb 0 (optionals_skipped r.pieces + slices_skipped r.pieces))
    ∷ [])

-- the reader's own refusals but 19, as no list is lent; then 47 and 48, each at 0
unfoldable pub slice_out : Res Read → Out (List ℕ)
slice_out (bad c p) = stop c p
slice_out (ok r n) = next (stopped_first (not_convertible r)) λ _. out (encapsulate (v11 sliced) (encode (v11 sliced) r.pieces))

-- the converter: the sliced message, then 22 where it does not fit
unfoldable pub converting : List ℕ → ℕ → List ℕ → ℕ → Out (List ℕ)
converting T top m room = next (slice_out (rules T top m)) (bounded room)
