-- The check of a plan and the planner as the code computes them, step by step.
--
--   Known ws es              the messages of entries are waiting ones
--   clashing ws m x          message x may not be before message m: it is m, or a later message of m's cabin
--   clashes ws m es          some entry's message may not be before message m
--   rising ws es above m     a number above m and the messages of entries, which are below `above`; none if m may not come after one of them
--   opening es               the first burst number, if there is one, is 0
--   may_follow last b         burst b may follow burst `last`
--   packed room n            what is left of `room` bytes after a message of n bytes, if it has no more
--   packing last left b n    the same of burst b after burst `last`, which has `left` bytes left
--   entering ws last left m b   the same for message m, if it is a waiting one
use Rattle.std.specs.Prelude.{ℕ, suc, ◌-◌, ◌<◌, Bool, true, ◌&&◌, ◌||◌, List, [], ◌∷◌, length, ◌==◌, nat_le, Option, Some, None}
use Rattle.encoding.specs.Result.{pick}
use Rattle.bursts.specs.Bursts.{Waiting, Entry, most, any_entry, length_of, cabin_of}
use Rattle.bursts.specs.BurstDemands.{entry_at}

pub record Known (ws : List Waiting) (es : List Entry) : Type 0 where
  pub at : (j : ℕ) → j < length es → (entry_at es j).message < length ws

unfoldable pub clashing : List Waiting → ℕ → ℕ → Bool
clashing ws m x = nat_le m x && cabin_of ws x == cabin_of ws m

unfoldable pub clashes : List Waiting → ℕ → List Entry → Bool
clashes ws m es = any_entry (λ e. clashing ws m e.message) es

unfoldable pub rising : List Waiting → List Entry → ℕ → ℕ → Option ℕ
rising ws es above m = pick (nat_le above m) (Some (suc m)) (pick (clashes ws m es) None (Some above))

unfoldable pub opening : List Entry → Bool
opening [] = true
opening (e ∷ es) = e.burst == 0

unfoldable pub may_follow : ℕ → ℕ → Bool
may_follow last b = b == last || b == suc last

unfoldable pub packed : ℕ → ℕ → Option ℕ
packed room n = pick (nat_le n room) (Some (room - n)) None

unfoldable pub packing : ℕ → ℕ → ℕ → ℕ → Option ℕ
packing last left b n = pick (may_follow last b) (packed (pick (b == last) left most) n) None

unfoldable pub entering : List Waiting → ℕ → ℕ → ℕ → ℕ → Option ℕ
entering ws last left m b = pick (nat_le (length ws) m) None (packing last left b (length_of ws m))
