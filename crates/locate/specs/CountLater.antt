-- What a reader of a number answers that begins n bytes later.
--
--   count_later n r   the number, and the bytes taken, counted with those n; or the refusal
--   CountFits         its sums do not wrap
use Rattle.std.specs.Prelude.{ℕ, ◌+◌, ◌^◌, ◌<◌, Result, Ok, Err}
use Rattle.wire.specs.declared.Refusal.{Refusal}
use Rattle.wire.specs.declared.Counted.{Counted}
use Rattle.wire.specs.Steps.{behind}

abbrev pub count_later : ℕ → Result Counted Refusal → Result Counted Refusal
count_later n (Ok x) = Ok (record { number = x.number; bytes = n + x.bytes })
count_later n (Err x) = Err (behind n x)

abbrev pub CountFits : ℕ → Result Counted Refusal → Type 0
CountFits n (Ok x) = n + x.bytes < 2 ^ 64
CountFits n (Err x) = n + x.place < 2 ^ 64
