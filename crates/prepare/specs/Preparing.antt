-- What is checked before a message is read or written.
--
--   before T top format len   the first of 2, 23, 26 and 3 that applies; 0 if none does
--   checks T top format len   the table's rules, then 2, 23, 26 and 3: a refusal, or ready
use Rattle.std.specs.Prelude.{◌&&◌, List, [], ◌∷◌, ℕ, zero, suc, eqb, ltb}
use Rattle.encoding.specs.Result.{first_of}
use Rattle.encoding.specs.Table.{kind, Fault, fine, fault, faults, rule_number}
use Rattle.encoding.specs.Old.{no_old}
use Rattle.encoding.specs.Message.{no_top, limit}
use Rattle.encoding.specs.Write.{no_format}
use Rattle.prepare.specs.declared.Prepared.{Prepared}
use Rattle.prepare.specs.declared.Prepared.TheVariants.{Ready, Refused}

unfoldable pub before : List ℕ → ℕ → ℕ → ℕ → ℕ
before T top format len = first_of ((2, no_top T top) ∷ (23, no_format (kind T top) format) ∷ (26, eqb format 2 && no_old T top) ∷ (3, ltb limit len) ∷ [])

-- the table's refusal comes first, at the place of the rule; the others are at 0
unfoldable pub checked : Fault → ℕ → Prepared
checked (fault c p) n = Refused (rule_number c) p
checked fine zero = Ready
checked fine (suc n) = Refused (suc n) 0

unfoldable pub checks : List ℕ → ℕ → ℕ → ℕ → Prepared
checks T top format len = checked (faults T) (before T top format len)
