-- The state after some rows, as three numbers.
--
--   required_in       how many of some member rows are required
--   due_in            the required members of some member rows still due, where so many of them are passed
--   due_from          the same of an owner
--   bases            the bases of a row, one after another
--   Cursor           an owner, how many of its member rows are passed, and the least tag that may come
--   due_at            the cursor where required members may be due; at 0 the start of an owner
--   may_at            the cursor where all member rows are passed
--   state_of          the state of a cursor
--   may_member        an optional member
--   due_reached       a row gives a required member, the last one passed by a cursor; may_reached an optional one
--   IsDue            a member row is the required member that is due
--   Gone             no member is due of the owner, and a member row is no optional that may come
--   IsMay            a member row is an optional that may come, of a type row and tag
--   OptionalIn          the code's answer to the optional member of a row, of the owner alone
use Rattle.std.specs.Prelude.{◌≡◌, true, false, List, [], ℕ, zero, suc, ◌+◌, ◌-◌, ◌<◌, eqb}
use Rattle.std.proofs.Math.Option.{none, some}
use Rattle.encoding.specs.Result.{pick}
use Rattle.encoding.specs.Table.{field, mark, tag, range, Member, trees, ty_of, member_ty, requireds_in, optional_members, base, upward, chain}
use Rattle.encoding.specs.Write.{State, Reached, optional_row, reach}
use Rattle.std.specs.Prelude.{Option, Some, None}
use Rattle.pieces.specs.declared.Wanted.{Wanted}

-- among the k member rows from a on
unfoldable pub required_in : List ℕ → ℕ → ℕ → ℕ
required_in T a zero = 0
required_in T a (suc k) = required_in T a k + pick (eqb (mark T (a + k)) 0) 1 0

-- of the b member rows from a on
unfoldable pub due_in : List ℕ → ℕ → ℕ → ℕ → List Member
due_in T a b k = requireds_in T (trees T) (required_in T a k) (range (a + k) (b - k))

abbrev pub due_from : List ℕ → ℕ → ℕ → List Member
due_from T o k = due_in T (field T o 0) (field T o 1) k

abbrev pub bases : List ℕ → ℕ → List ℕ
bases T o = upward (chain T) (base T o)

pub record Cursor : Type 0 where
  pub owner : ℕ
  pub passed : ℕ
  pub least : ℕ

abbrev pub due_at : ℕ → ℕ → Cursor
due_at o k = record { owner = o; passed = k; least = 0 }

abbrev pub may_at : List ℕ → ℕ → ℕ → Cursor
may_at T o least = record { owner = o; passed = field T o 1; least = least }

-- the owners above are the bases of the owner
unfoldable pub state_of : List ℕ → Cursor → State
state_of T c = record {
  owner = c.owner;
  due = due_from T c.owner c.passed;
  least = c.least;
  above = bases T c.owner;
}

unfoldable pub may_member : List ℕ → ℕ → Member
may_member T m = record { row = m; key = tag T m; ty = member_ty T (trees T) m }

-- the member is row m
unfoldable pub due_reached : List ℕ → ℕ → Cursor → Reached
due_reached T m c = record { member = record { row = m; key = required_in T (field T c.owner 0) (c.passed - 1); ty = member_ty T (trees T) m }; required_one = true; state = state_of T c }

unfoldable pub may_reached : List ℕ → ℕ → Cursor → Reached
may_reached T m c = record { member = may_member T m; required_one = false; state = state_of T c }

-- a member row is the required member that is due where k member rows of an owner are passed
pub record IsDue (T : List ℕ) (o k m : ℕ) : Type 0 where
  pub here : m ≡ field T o 0 + k
  pub inside : k < field T o 1
  pub required : mark T m ≡ 0

pub record Gone (T : List ℕ) (c : Cursor) (m : ℕ) : Type 0 where
  pub due : due_from T c.owner c.passed ≡ []
  pub may : optional_row m c.least (optional_members T c.owner) ≡ none

pub record IsMay (T : List ℕ) (o least m t key : ℕ) : Type 0 where
  pub reached : reach T m (state_of T (may_at T o least)) ≡ some (may_reached T m (may_at T o (key + 1)))
  pub typed : ty_of T t ≡ member_ty T (trees T) m
  pub tagged : key ≡ tag T m
  pub small : key < 4294967296

abbrev pub OptionalIn : List ℕ → ℕ → ℕ → ℕ → Option Wanted → Type 0
OptionalIn T o least m (Some x) = IsMay T o least m x.of x.tag
OptionalIn T o least m None = Gone T (may_at T o least) m
