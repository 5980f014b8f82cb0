-- Encoding 1.0: what it has in place of 1.1's types and slices, and where it cannot be used.
-- What is the same is shared: required members, strings, declared lengths, the record that a type ID names.
--
--   as_old t, as_olds ts    a type as 1.0 encodes it: enumerators in a byte, short or int, proxies without protocol and encoding
--   type_as old t          a type as an encoding has it: 1.0 if old, else 1.1; members_as: members with these types
--   descends T r t        row t is row r or descends from it
--   related, no_old        a row of the same line of descent as the top; what 26 judges, of table and top
--   PairStage             the stage of the walk over pairs
--   pair_meaning           what a type ID means there: a pair to skip, that of a known row, or wrong (17)
--   id_pair, walk_pairs     one pair of type ID and size, with its data; one after another
--   lead_form, id_pairs     what 25 judges, of an exception's header byte; the pairs after it
--   pair_front             type ID and size of a pair, as they are written
use Rattle.std.specs.Prelude.{Bool, true, false, ◌&&◌, ◌||◌, List, [], ◌∷◌, ◌++◌, map, ℕ, zero, suc, ◌+◌, length, eqb}
use Rattle.std.proofs.Math.Option.{Option, none, some}
use Rattle.encoding.specs.Result.{Parser, pick, ◌>>=◌, pure, fail, must, mapc, inside, same_bytes}
use Rattle.encoding.specs.Number
use Rattle.encoding.specs.Number.{declared, le_bytes, string_bytes}
use Rattle.encoding.specs.Types.{Ty, Tys, nil, cons, broken, bool, byte, string, proxy, old_proxy, num, enum, old_enum, struct, seq, dict}
use Rattle.encoding.specs.Table.{types, range, any, Member, required_members, optional_members, name_of, named, base, chain}
use Rattle.encoding.specs.Optional.{requireds}
use Rattle.encoding.specs.Slice.{Slice, known, passed, Meaning, skip, row, wrong, meaning_form, id_of, data_bytes}

-- ---- types

-- enums and proxies differ, all else is as in 1.1
unfoldable mutual
  pub as_old : Ty → Ty
  as_old broken = broken
  as_old bool = bool
  as_old byte = byte
  as_old string = string
  as_old proxy = old_proxy
  as_old old_proxy = old_proxy
  as_old (num w) = num w
  as_old (enum g) = old_enum g
  as_old (old_enum g) = old_enum g
  as_old (struct ts) = struct (as_olds ts)
  as_old (seq t) = seq (as_old t)
  as_old (dict k v) = dict (as_old k) (as_old v)

  pub as_olds : Tys → Tys
  as_olds nil = nil
  as_olds (cons t ts) = cons (as_old t) (as_olds ts)

-- a type as an encoding has it, 1.0 or 1.1
abbrev pub type_as : Bool → Ty → Ty
type_as true t = as_old t
type_as false t = t

-- a member with its type as 1.0 has it
unfoldable pub old_member : Member → Member
old_member m = record { row = m.row; key = m.key; ty = as_old m.ty }

-- members with their types as an encoding has them
abbrev pub members_as : Bool → List Member → List Member
members_as true ms = map old_member ms
members_as false ms = ms

-- ---- 26

-- row t is row r or descends from it
abbrev pub descends : List ℕ → ℕ → ℕ → Bool
descends T r t = any (λ i. eqb i r) (chain T t)

-- the top, a base of it, or a record that descends from it; for a parameter list that list alone
unfoldable pub related : List ℕ → ℕ → ℕ → Bool
related T top t = descends T t top || descends T top t

-- there is one
unfoldable pub any_of : List Member → Bool
any_of [] = false
any_of (m ∷ ms) = true

-- 1.0 has no optionals: one of these rows has some
unfoldable pub no_old : List ℕ → ℕ → Bool
no_old T top = any (λ t. related T top t && any_of (optional_members T t)) (range 0 (types T))

-- ---- pairs of type ID and size

-- any_pair: no pair was known yet; pair_of b: that of row b - 1, the base of the pair before; pair_of 0: none, the pair before was the last
pub data PairStage : Type 0 where
  any_pair : PairStage
  pair_of : ℕ → PairStage

-- the first known type is the top or descends from it; unknown type IDs are skipped until one is known
unfoldable pub first_meaning : List ℕ → ℕ → Option ℕ → Meaning
first_meaning T top none = skip
first_meaning T top (some t) = pick (descends T top t) (row t) (wrong 17)

-- from there each pair is the base of the one before
unfoldable pub pair_meaning : List ℕ → ℕ → PairStage → List ℕ → Meaning
pair_meaning T top any_pair nm = first_meaning T top (named T nm)
pair_meaning T top (pair_of zero) nm = wrong 17
pair_meaning T top (pair_of (suc t)) nm = pick (same_bytes nm (name_of T t)) (row t) (wrong 17)

-- what follows a type ID: an int size counting itself, data; and the pair that is due then
unfoldable pub enter_pair : List ℕ → List ℕ → Meaning → Parser (Slice × PairStage)
enter_pair T nm skip = mapc (λ d _. (passed false nm d, any_pair)) (declared 4 4)
enter_pair T nm (row t) =
    mapc (λ ps _. (known (name_of T t) ps, pair_of (base T t))) (inside (declared 4 4) (requireds (members_as true (required_members T t))))
enter_pair T nm (wrong n) = fail n

-- one pair: the ID, 17 at it, then its size and data
unfoldable pub id_pair : List ℕ → ℕ → PairStage → Parser (Slice × PairStage)
id_pair T top d = must (λ nm. meaning_form (pair_meaning T top d nm)) Number.string >>= λ nm. enter_pair T nm (pair_meaning T top d nm)

-- the row without a base is last: no pair is due
unfoldable pub none_due : PairStage → Bool
none_due any_pair = false
none_due (pair_of zero) = true
none_due (pair_of (suc t)) = false

-- the first number is fuel, the bytes left: each pair takes one, and with none left the type ID is 4 here
unfoldable pub walk_pairs : List ℕ → ℕ → ℕ → PairStage → Parser (List Slice)
walk_pairs T top zero d = pick (none_due d) (pure []) (fail 4)
walk_pairs T top (suc f) d =
    pick (none_due d) (pure []) (id_pair T top d >>= λ (r : Slice × PairStage). mapc (λ ss _. r.0 ∷ ss) (walk_pairs T top f r.1))

-- header byte other than 0
unfoldable pub lead_form : ℕ → ℕ
lead_form b = pick (eqb b 0) 0 25

-- the pairs of an exception, most derived first
unfoldable pub id_pairs : List ℕ → ℕ → Parser (List Slice)
id_pairs T top xs = walk_pairs T top (length xs) any_pair xs

-- ---- encoding

-- type ID and size of a pair, before its data
unfoldable pub pair_front : Slice → List ℕ
pair_front sl = string_bytes (id_of sl) ++ le_bytes 4 (4 + length (data_bytes sl))
