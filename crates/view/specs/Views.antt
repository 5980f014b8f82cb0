-- What the member view returns, as the code has it.
--
--   view_of                      what the view returns
--   view_answer T top m member   what the view answers: the refusal, or what it returns
--   view_within n v              22 at 12 where n bytes are lent for the numbers, n below 12; after every other refusal
--   view_bytes v                 origin (0 an empty part, 1 the message, 2 the fallback), place and length in the message, 32 bits each; none of a refusal
--   with_view v lent             the bytes lent for the numbers after the call
--   PartInside l v              a part lies within l bytes
use Rattle.std.specs.Prelude.{◌≡◌, List, [], ◌++◌, ℕ, ◌+◌, ◌≤◌, length, drop, leb}
use Rattle.encoding.specs.Result.{Res, ok, bad, pick}
use Rattle.encoding.specs.Message.{Read, rules, row_bytes}
use Rattle.encoding.specs.View.{Seen, part, fallback, nothing, seen}
use Rattle.view.specs.declared.View.{View}
use Rattle.view.specs.declared.View.TheVariants.{Part, Fallback, Nothing, Refused}

unfoldable pub view_of : Seen → View
view_of (part p l) = Part p l
view_of fallback = Fallback
view_of nothing = Nothing

-- of what the rules say
unfoldable pub view_answer_of : List ℕ → ℕ → ℕ → Res Read → View
view_answer_of T top member (ok r n) = view_of (seen T top member (ok r n))
view_answer_of T top member (bad c p) = Refused c p

unfoldable pub view_answer : List ℕ → ℕ → List ℕ → ℕ → View
view_answer T top m member = view_answer_of T top member (rules T top m)

-- where fewer than 12 bytes are lent
unfoldable pub view_short : View → View
view_short (Part p l) = Refused 22 12
view_short Fallback = Refused 22 12
view_short Nothing = Refused 22 12
view_short (Refused c p) = Refused c p

unfoldable pub view_within : ℕ → View → View
view_within n v = pick (leb 12 n) v (view_short v)

-- laid out as a row
unfoldable pub view_bytes : View → List ℕ
view_bytes (Part p l) = row_bytes (record { member = 1; place = p; len = l })
view_bytes Fallback = row_bytes (record { member = 2; place = 0; len = 0 })
view_bytes Nothing = row_bytes (record { member = 0; place = 0; len = 0 })
view_bytes (Refused c p) = []

-- bytes beyond the numbers stay
unfoldable pub with_view : View → List ℕ → List ℕ
with_view v lent = view_bytes v ++ drop (length (view_bytes v)) lent

pub record PartInside (l : ℕ) (v : View) : Type 0 where
  pub inside : (p n : ℕ) → v ≡ Part p n → p + n ≤ l
