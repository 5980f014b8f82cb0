-- The answer of comparing two tables as the struct that the call returns.
--
--   compared_of c                  refusal, place, number of differences, 1 for yes
--   whole_of old t new u bytes     the answer for tables that break no rule and rows that are tops
use Rattle.std.specs.Prelude.{ℕ, List, length}
use Rattle.encoding.specs.Result.{pick}
use Rattle.differences.specs.declared.Compared.{Compared}
use Rattle.differences.specs.Compare.{Comparison, differences, extending, compared_within, difference_room}

unfoldable pub compared_of : Comparison → Compared
compared_of c = record { refusal = c.refusal; place = c.place; count = length c.found; extends = pick c.extends 1 0 }

unfoldable pub whole_of : (old : List ℕ) → ℕ → (new : List ℕ) → (u bytes : ℕ) → Comparison
whole_of old t new u bytes =
    compared_within (difference_room bytes) (record { refusal = 0; place = 0; found = differences old new; extends = extending old new t u })
