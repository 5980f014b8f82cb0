-- Forms by their numbers (`form_number` of `shapes`).
--
--   run_width n     how many bytes a value of form n has, where that is F1, F2, F4 or F8
--   form_named n    the form of number n: bare of type F1 to Size, own, counted, sized
use Rattle.std.specs.Prelude.{ℕ, [], ◌∷◌, get_or, eqb, ltb}
use Rattle.encoding.specs.Result.{pick}
use Rattle.encoding.specs.Types.{bits_at, Form, bare, own, counted, sized}

-- the bytes of F1, F2, F4, F8
unfoldable pub run_width : ℕ → ℕ
run_width n = get_or (1 ∷ 2 ∷ 4 ∷ []) n 8

unfoldable pub form_named : ℕ → Form
form_named n = pick (ltb n 5) (bare (bits_at n)) (pick (eqb n 8) own (pick (eqb n 9) counted sized))
