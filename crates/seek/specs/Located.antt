-- What the search for an optional answers, in the words of `edit`.
--
--   target_row             the owner of a target
--   slot_of, slices_at, slot_in    the slice of a name; where slices begin; where the members of owner o are, under a top of kind k
--   SlotInside at l r     a slice lies from `at` on within l bytes, its parts in order
--   Framed, FrameIs m at r      a slice at a place; what is read there
--   as_gap, SpotInside     a spot as a gap; within l bytes
use Rattle.std.specs.Prelude.{◌≡◌, List, ℕ, suc, ◌+◌, ◌-◌, ◌≤◌, length, take, drop, eqb}
use Rattle.std.specs.Prelude.{Some, None}
use Rattle.std.specs.Prelude.{Option as Maybe}
use Rattle.std.proofs.Math.Option.{Option, none, some}
use Rattle.encoding.specs.Result.{ok, pick}
use Rattle.encoding.specs.Number.{declared}
use Rattle.encoding.specs.Types.{vsize}
use Rattle.encoding.specs.Optional.{extent}
use Rattle.encoding.specs.Table.{name_of}
use Rattle.edit.specs.Change.{Target}
use Rattle.edit.specs.Place.{Gap, Seat, id_read, seek_slice}
use Rattle.seek.specs.declared.Slot.{Slot}
use Rattle.seek.specs.declared.Slot.TheVariants.{List as InList, At, Nothing}
use Rattle.seek.specs.declared.Frame.{Frame}
use Rattle.seek.specs.declared.Spot.{Spot}

unfoldable pub target_row : Option Target → Option ℕ
target_row none = none
target_row (some x) = some x.owner

unfoldable pub slot_of : Option Seat → Slot
slot_of none = Nothing
slot_of (some s) = At s.flags s.size s.end

-- slices begin after size and version, and the marker of a class
abbrev pub slices_at : ℕ → ℕ
slices_at k = pick (eqb k 14) 7 6

unfoldable pub slot_in : List ℕ → ℕ → ℕ → List ℕ → Slot
slot_in T k o m = pick (eqb k 15) InList (slot_of (seek_slice (name_of T o) (suc (length m)) (slices_at k) (drop (slices_at k) m)))

abbrev pub SlotInside : ℕ → ℕ → Slot → Type 0
SlotInside at l InList = Unit {0}
SlotInside at l (At f s e) = (at ≤ f) × (f + 1 ≤ s) × (s + 4 ≤ e) × (e ≤ l)
SlotInside at l Nothing = Unit {0}

-- a slice at place `at` of a message: its type ID is from a up to s, its size at s, its end at e
pub record Framed (m : List ℕ) (at a s e : ℕ) : Type 0 where
  pub id : List ℕ
  pub taken : ℕ
  pub reads_id : extent vsize (drop (at + 1) m) ≡ ok id taken
  pub size_at_lem : s ≡ at + 1 + taken
  pub body : List ℕ
  pub sized : ℕ
  pub reads_size : declared 4 4 (drop s m) ≡ ok body sized
  pub ends : e ≡ s + sized
  pub id_is : take (s - a) (drop a m) ≡ id
  pub id_order : a ≤ s
  pub least : s + 4 ≤ e
  pub fits : e ≤ length m

-- or there is none: no search goes on from there
abbrev pub FrameIs : List ℕ → ℕ → Maybe Frame → Type 0
FrameIs m at (Some x) = Framed m at x.id x.size x.end
FrameIs m at None = (nm : List ℕ) (further : ℕ → List ℕ → Option Seat) → id_read nm at (drop (at + 1) m) (extent vsize (drop (at + 1) m)) further ≡ none

abbrev pub as_gap : Spot → Gap
as_gap s = record { from = s.from; to = s.to; others = s.others }

pub record SpotInside (l : ℕ) (s : Spot) : Type 0 where
  pub order : s.from ≤ s.to
  pub inside : s.to ≤ l
