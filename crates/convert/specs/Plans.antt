-- What the code makes of a walk over a message.
--
--   rows_from    the rows of a list from row i on, of n rows
--   Narrow      the first known type of a walk is below 65,536, and the message is within the limit
--   end_at       the place after the rows i to k - 1; some start if there are none
--   OwnRows     the rows of an owner, as the code passes them
--   SliceMoved  a slice, as the code puts it
--   plan_of      what is to be put of a message of so many bytes into an output of some room: 47, 48, 22, or the first known type, the rows and the bytes needed
use Rattle.std.specs.Prelude.{◌≡◌, Bool, ◌&&◌, List, map, ℕ, ◌+◌, ◌-◌, ◌*◌, ◌≤◌, ◌<◌, eqb, leb}
use Rattle.encoding.specs.Result.{pick}
use Rattle.encoding.specs.Table.{at, range, chain}
use Rattle.encoding.specs.Message.{Row, limit}
use Rattle.encoding.specs.Write.{row_at}
use Rattle.slices.specs.declared.Walk.{Walk}
use Rattle.slices.specs.declared.Walk.TheVariants.{Done, Stop}
use Rattle.convert.specs.declared.Plan.{Plan}
use Rattle.convert.specs.declared.Plan.TheVariants.{Fits, Stopped}
use Rattle.pieces.specs.Puts.{Puts}
use Rattle.convert.specs.declared.Ended.{Ended}
use Rattle.convert.specs.declared.Moved.{Moved}
use Rattle.convert.specs.Reslice.{growth, own_end, own_count, data_end, reslice}

abbrev pub rows_from : List ℕ → ℕ → ℕ → List Row
rows_from list i n = map (row_at list) (range i (n - i))

unfoldable pub end_at : List ℕ → ℕ → ℕ → ℕ → ℕ
end_at list i k start = pick (eqb k i) start (at list 4 (12 * (k - 1) + 4) + at list 4 (12 * (k - 1) + 8))

pub record OwnRows (T list : List ℕ) (n i o start : ℕ) (r : Ended) : Type 0 where
  pub ends : r.end ≡ own_end T o start (rows_from list i n)
  pub next : r.row ≡ i + own_count T o (rows_from list i n)
  pub within : r.row ≤ n
  pub small : r.end ≤ 8589934592

pub record SliceMoved (T m list : List ℕ) (n i o : ℕ) (end : Bool) (at front : ℕ) (out last : List ℕ) (to : ℕ) (r : Moved) : Type 0 where
  pub puts : Puts to (reslice T m o end at front (rows_from list i n)) out last r.to
  pub ends : r.at ≡ data_end T m o at (at + front) (rows_from list i n)
  pub next : r.row ≡ i + own_count T o (rows_from list i n)
  pub within : r.row ≤ n
  pub small : r.at ≤ 65536
  pub few : r.to ≤ to + 131200

unfoldable pub Narrow : ℕ → Walk → Type 0
Narrow len (Done t g n o s e) = (t < 65536) × (len ≤ 65536)
Narrow len (Stop c p) = Unit {0}

-- the bytes needed if they fit; else 22 at the bytes needed
unfoldable pub fitting : ℕ → ℕ → ℕ → ℕ → Plan
fitting room t n k = pick (leb k limit && leb k room) (Fits t n k) (Stopped 22 k)

unfoldable pub plan_of : List ℕ → ℕ → ℕ → Walk → Plan
plan_of T len room (Done t g n o s e) = pick (eqb g 0) (pick (eqb (o + s) 0) (fitting room t n (len + growth T (chain T t))) (Stopped 48 0)) (Stopped 47 0)
plan_of T len room (Stop c p) = Stopped c p
