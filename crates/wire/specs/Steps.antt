-- What the code answers of a reader's result.
--
--   step_of r     the bytes taken, or the refusal's number and place; what was read is left out
--   sized_of r    the number that was read and the bytes taken, or the refusal's number and place
--   bytes_of r    how many bytes were read and the bytes taken, or the refusal's number and place
--   refused c p, counted n k    a refusal by its numbers; a number and the bytes taken
--   behind n x, later n r       a refusal, an answer of what comes n bytes later; LaterFits: its sums do not wrap
use Rattle.std.specs.Prelude.{List, ℕ, ◌+◌, ◌^◌, ◌<◌, length, Result, Ok, Err}
use Rattle.encoding.specs.Result.{Res, ok, bad}
use Rattle.wire.specs.declared.Refusal.{Refusal}
use Rattle.wire.specs.declared.Counted.{Counted}

-- a refusal of a number at a place
abbrev pub refused : {T : Type 0} → ℕ → ℕ → Result T Refusal
refused c p = Err (record { number = c; place = p })

-- a number, and the bytes taken
abbrev pub counted : ℕ → ℕ → Result Counted Refusal
counted n k = Ok (record { number = n; bytes = k })

-- a refusal of what comes n bytes later, its place counted from the first of those bytes
abbrev pub behind : ℕ → Refusal → Refusal
behind n x = record { number = x.number; place = n + x.place }

-- an answer of what comes n bytes later: the bytes taken, counted with those n, or the refusal
abbrev pub later : ℕ → Result ℕ Refusal → Result ℕ Refusal
later n (Ok m) = Ok (n + m)
later n (Err x) = Err (behind n x)

-- its sums do not wrap
abbrev pub LaterFits : ℕ → Result ℕ Refusal → Type 0
LaterFits n (Ok m) = n + m < 2 ^ 64
LaterFits n (Err x) = n + x.place < 2 ^ 64

unfoldable pub step_of : {A : Type 0} → Res A → Result ℕ Refusal
step_of (ok a n) = Ok n
step_of (bad c p) = refused c p

unfoldable pub sized_of : Res ℕ → Result Counted Refusal
sized_of (ok a n) = counted a n
sized_of (bad c p) = refused c p

unfoldable pub bytes_of : Res (List ℕ) → Result Counted Refusal
bytes_of (ok d n) = counted (length d) n
bytes_of (bad c p) = refused c p
