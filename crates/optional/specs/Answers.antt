-- What the code answers of a header and of declared bytes.
--
--   front             a header before it is judged; fronts, front_of what the code answers of it
--   LongTag s tag n   if s has n bytes, the tag follows the first byte as a size of n - 1 bytes, and is at least 30
--   Titled s tag k n  if s has n bytes, they are a header with this tag, which is not a long tag under 30, and type bits k
--   early             the judgements of a header before its tag is looked up: 12 for form and order, 13; or 0
--   type_of all m i    the row of the type of member m, of `all` members, whose row says i; without such a member, a row without a tree
--   type_row T m       the same of the table's
--   head_for, head_of   a header: of a known tag with its member row, the row of its type and the number of its form, or of an unknown one
--   whole_of           declared bytes of which all taken are delivered
use Rattle.std.specs.Prelude.{◌≡◌, Result, Ok, Err, Bool, false, ◌&&◌, List, [], ◌∷◌, ℕ, ◌-◌, ◌≤◌, length, take, drop, eqb, ltb}
use Rattle.std.proofs.Math.Option.{Option, none, some}
use Rattle.encoding.specs.Result.{Res, ok, bad, Parser, pick, ◌>>=◌, must, first_of}
use Rattle.encoding.specs.Number.{byte, size}
use Rattle.encoding.specs.Types.{bits}
use Rattle.encoding.specs.Table.{members, member_type, Member, lookup}
use Rattle.encoding.specs.Optional.{Header, first_form, header_tail}
use Rattle.wire.specs.declared.Refusal.{Refusal}
use Rattle.wire.specs.declared.Counted.{Counted}
use Rattle.wire.specs.Steps.{sized_of, refused, counted}
use Rattle.shapes.specs.Shapes.{shapes_of, form_in}
use Rattle.optional.specs.declared.Front.{Front}
use Rattle.optional.specs.declared.Head.{Head}
use Rattle.optional.specs.declared.Head.TheVariants.{Known, Unknown}

-- ---- headers

unfoldable pub front : Parser Header
front = must first_form byte >>= header_tail

-- a header as read, by its four parts
abbrev pub fronts : Bool → ℕ → ℕ → ℕ → Result Front Refusal
fronts long tag k n = Ok (record { long = long; tag = tag; bits = k; head = n })

unfoldable pub front_of : Res Header → Result Front Refusal
front_of (ok h n) = fronts h.long h.tag (bits h.type) n
front_of (bad c p) = refused c p

pub record LongTag (s : List ℕ) (tag n : ℕ) : Type 0 where
  pub least : 30 ≤ tag
  pub size_is : n ≤ length s → counted tag (n - 1) ≡ sized_of (size (take (length s - 1) (drop 1 s)))

pub record Titled (s : List ℕ) (tag k n : ℕ) : Type 0 where
  pub long : Bool
  pub fine : long && ltb tag 30 ≡ false
  pub front_is : n ≤ length s → fronts long tag k n ≡ front_of (front s)

unfoldable pub early : ℕ → Bool → ℕ → ℕ → ℕ
early least long tag k = first_of ((12, long && ltb tag 30) ∷ (12, ltb tag least) ∷ (13, eqb k 7) ∷ [])

unfoldable pub type_of : ℕ → ℕ → ℕ → ℕ
type_of all m i = pick (ltb m all) i 256

unfoldable pub type_row : List ℕ → ℕ → ℕ
type_row T m = type_of (members T) m (member_type T m)

unfoldable pub head_for : List ℕ → Option Member → Header → ℕ → Head
head_for T none h n = Unknown h.tag (bits h.type) n
head_for T (some m) h n = Known m.row (type_row T m.row) h.tag n (form_in (shapes_of T) (type_row T m.row))

unfoldable pub head_of : List ℕ → List Member → Res Header → Result Head Refusal
head_of T ms (ok h n) = Ok (head_for T (lookup h.tag ms) h n)
head_of T ms (bad c p) = refused c p

-- ---- declared bytes

unfoldable pub whole_of : Result Counted Refusal → Result Counted Refusal
whole_of (Ok x) = counted x.bytes x.bytes
whole_of (Err x) = Err x
