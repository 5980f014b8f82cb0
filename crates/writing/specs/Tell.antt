-- The writer's answer, as the calls make it of an outcome.
--
--   Fits         each number of an outcome fits 32 bits
--   tells        the answer of an outcome
--   fitted       the outcome for an output of some room, from the outcome for an output that is too short for any message
use Rattle.std.specs.Prelude.{Result, Ok, Err, ◌&&◌, ℕ, ◌<◌, eqb, leb}
use Rattle.encoding.specs.Result.{pick}
use Rattle.encoding.specs.Message.{limit}
use Rattle.encoding.specs.declared.Writing.{Writing}
use Rattle.encoding.specs.declared.Writing.TheVariants.{Written, Rejected}
use Rattle.wire.specs.declared.Refusal.{Refusal}

unfoldable pub Fits : Result ℕ Refusal → Type 0
Fits (Ok n) = n < 4294967296
Fits (Err x) = (x.number < 4294967296) × (x.place < 4294967296)

unfoldable pub tells : Result ℕ Refusal → Writing
tells (Ok n) = Written n
tells (Err x) = Rejected x.number x.place

-- 22 says how many bytes are needed
unfoldable pub fitted : ℕ → Result ℕ Refusal → Result ℕ Refusal
fitted room (Ok n) = Ok n
fitted room (Err x) = pick (eqb x.number 22 && (leb x.place limit && leb x.place room)) (Ok x.place) (Err x)
