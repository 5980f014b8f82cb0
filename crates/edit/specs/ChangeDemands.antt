-- What is promised of setting and removing an optional (M-112), each promise in full, to be read without its proof.
-- A promise is the type of its proof. Messages and new bytes are lists of bytes; content is some bytes to set, none to remove.
-- A message is of 1.1, in format f, unless it says otherwise: nothing can be changed in one of 1.0.
--
--   Others            all else keeps its bytes and order: the result is read to the same pieces but one
--   ChangedHere       under the hub's own table: accepted, and the list differs in that member only
--   ChangedNewer      the same under every table that extends the hub's and accepted the message under a matching top
--   ChangedAlike      that table's own call gives the same bytes
--   ChangedReading    the same of that table's reader, given room
--   SetAgain          setting a member to the bytes that it has gives the same message
--   SetUndone         setting what isn't there, then removing it, gives the same message
--   NotOfChain        what 49 refuses in 1.1, said apart from the search for the member
--   OldChange         a message of 1.0 has no optionals: 49
--   ChangeRefused     which refusals there are, where each is, and what it says
--   ChangeMade        what can be set or removed is refused by 22 alone
--   ChangeTooLong     where 22 is
--   ChangeTold        the numbers of the public calls are those of the change's answer
--   ChangeFilled      a lent output after the call: the result first, the bytes after it as they were; on a refusal every byte stays
use Rattle.std.specs.Prelude.{◌≡◌, Bool, true, false, not, List, [], ◌∷◌, map, ℕ, ◌≤◌, ◌<◌, length, take, drop, eqb}
use Rattle.std.proofs.Math.Option.{Option, none, some}
use Rattle.encoding.specs.Result.{ok, bad, pick}
use Rattle.encoding.specs.Number.{Bytes}
use Rattle.encoding.specs.Table.{fine, faults, members, mark, name_of, member_ty, trees}
use Rattle.encoding.specs.Grammar.{IsValue}
use Rattle.encoding.specs.Optional.{Piece, required, optional, skipped}
use Rattle.encoding.specs.Slice.{Format, compact, sliced, Slice, known}
use Rattle.encoding.specs.Message.{Pieces, list, exception, class, v10, v11, no_top, limit, rules, Row, rows, first_known, optionals_skipped, slices_skipped, answer, reading, room}
use Rattle.encoding.specs.View.{of_chain}
use Rattle.encoding.specs.Write.{out, stop, part_of, output, writing_of, writing_numbers}
use Rattle.encoding.specs.Extends.{Counterpart}
use Rattle.laws.specs.Demands.{read_as, In, SameMembers, Newer}
use Rattle.edit.specs.Change.{Target, target, piece_for, put_piece, changed, changing}

-- ---- all else stays

-- a piece is an optional, known or not, of tag k
unfoldable pub has_tag : ℕ → Piece → Bool
has_tag k (required i b) = false
has_tag k (optional t f b) = eqb t k
has_tag k (skipped t f b) = eqb t k

-- the elements that pass a test
unfoldable pub those : {A : Type 0} → (A → Bool) → List A → List A
those f [] = []
those f (a ∷ l) = pick (f a) (a ∷ those f l) (those f l)

-- pieces of one owner: those without tag k are the same in the same order, and of tag k there is the new piece, or none
pub record SamePieces (k : ℕ) (new : Option Piece) (ps ps' : List Piece) : Type 0 where
  pub others : those (λ p. not (has_tag k p)) ps ≡ those (λ p. not (has_tag k p)) ps'
  pub there : those (has_tag k) ps' ≡ put_piece new []

-- one slice, that of the owner, has other pieces; all others are the same, in the same order
pub data SameSlices (nm : List ℕ) (k : ℕ) (new : Option Piece) : List Slice → List Slice → Type 0 where
  here : {ps ps' : List Piece} {ss : List Slice} → SamePieces k new ps ps' → SameSlices nm k new (known nm ps ∷ ss) (known nm ps' ∷ ss)
  further : {s : Slice} {ss ss' : List Slice} → SameSlices nm k new ss ss' → SameSlices nm k new (s ∷ ss) (s ∷ ss')

-- a message of which one owner's pieces differ; nm is the owner's name
pub data Same (nm : List ℕ) (k : ℕ) (new : Option Piece) : Pieces → Pieces → Type 0 where
  a_list : {ps ps' : List Piece} → SamePieces k new ps ps' → Same nm k new (list ps) (list ps')
  an_exception : {ss ss' : List Slice} → SameSlices nm k new ss ss' → Same nm k new (exception ss) (exception ss')
  a_class : {ss ss' : List Slice} → SameSlices nm k new ss ss' → Same nm k new (class ss) (class ss')

-- new bytes are bytes
abbrev pub Fresh : Option (List ℕ) → Type 0
Fresh none = Unit {0}
Fresh (some b) = Bytes b

-- what the promises are about: an accepted message, and a change of it that is not refused
pub record Change (T : List ℕ) (top : ℕ) (m : List ℕ) (f : Format) (p : Pieces) (member : ℕ) (content : Option (List ℕ)) (m' : List ℕ) : Type 0 where
  pub bytes : Bytes m
  pub fresh : Fresh content
  pub taken : ℕ
  pub accepted : rules T top m ≡ ok (read_as (v11 f) p) taken
  pub space : ℕ
  pub made : changing T top m member content space ≡ out m'

-- the result is read to the same pieces but one. By demand 2 (`Exact`) it is their encoding, and they conform: so tag order, optional flag, end
-- marker and both sizes are right.
pub record OthersKept (T : List ℕ) (top : ℕ) (f : Format) (p : Pieces) (member : ℕ) (content : Option (List ℕ)) (m' : List ℕ) : Type 0 where
  pub place : Target
  pub found : target T (first_known T top p) member ≡ some place
  pub pieces : Pieces
  pub accepted : rules T top m' ≡ ok (read_as (v11 f) pieces) (length m')
  pub kept : Same (name_of T place.owner) place.member.key (piece_for place.member content) p pieces

-- Rules out a call that drops skipped optionals or slices, that writes them in another order, or that leaves a flag, a marker or a size as it was.
abbrev pub Others : Type 0
Others =
    (T : List ℕ) (top : ℕ) (m : List ℕ) (f : Format) (p : Pieces) (member : ℕ) (content : Option (List ℕ)) (m' : List ℕ)
    → Change T top m f p member content m' → OthersKept T top f p member content m'

-- ---- what a table reads of the result

-- the bytes that the member has afterwards, if it is there
abbrev pub afterwards : Option (List ℕ) → List (List ℕ)
afterwards none = []
afterwards (some b) = b ∷ []

-- lists differ in one member only, apart from places: the rows of all others are of the same members in the same order, with the same bytes;
-- of that member there is one row, with the new bytes, or none
pub record DiffersIn (member : ℕ) (content : Option (List ℕ)) (m m' : List ℕ) (rs rs' : List Row) : Type 0 where
  pub others : SameMembers m m' (those (λ (r : Row). not (eqb r.member member)) rs) (those (λ (r : Row). not (eqb r.member member)) rs')
  pub there : map (part_of m') (those (λ (r : Row). eqb r.member member) rs') ≡ afterwards content

-- a table makes of the result what it made of the message, but for that member
pub record StillRead (T : List ℕ) (top : ℕ) (m : List ℕ) (f : Format) (p : Pieces) (member : ℕ) (content : Option (List ℕ)) (m' : List ℕ) : Type 0 where
  pub pieces : Pieces
  pub accepted : rules T top m' ≡ ok (read_as (v11 f) pieces) (length m')
  pub type : first_known T top pieces ≡ first_known T top p
  pub optionals : optionals_skipped pieces ≡ optionals_skipped p
  pub slices : slices_skipped pieces ≡ slices_skipped p
  pub differs : DiffersIn member content m m' (rows T top (v11 f) p) (rows T top (v11 f) pieces)

-- Rules out a call that changes nothing, and one that touches another member.
abbrev pub ChangedHere : Type 0
ChangedHere =
    (T : List ℕ) (top : ℕ) (m : List ℕ) (f : Format) (p : Pieces) (member : ℕ) (content : Option (List ℕ)) (m' : List ℕ)
    → Change T top m f p member content m' → StillRead T top m f p member content m'

-- a change under the hub's table `old`, of a message that `new` accepted
pub record ChangeOf (old : List ℕ) (top : ℕ) (m : List ℕ) (member : ℕ) (content : Option (List ℕ)) (m' : List ℕ) : Type 0 where
  pub fresh : Fresh content
  pub space : ℕ
  pub made : changing old top m member content space ≡ out m'

-- the new table has a matching member, and reads the result as it read the message, but for that member
pub record StillReadBy (old new : List ℕ) (top top' : ℕ) (m : List ℕ) (f : Format) (p : Pieces) (member : ℕ) (content : Option (List ℕ)) (m' : List ℕ) : Type 0 where
  pub member' : ℕ
  pub matches : Counterpart old new top top' member member'
  pub read : StillRead new top' m f p member' content m'

-- Any table extending the hub's that accepted the message under a matching top accepts the result under it, and the list differs in that member only.
abbrev pub ChangedNewer : Type 0
ChangedNewer =
    (old new : List ℕ) (top top' : ℕ) (m : List ℕ) (f : Format) (p : Pieces) (member : ℕ) (content : Option (List ℕ)) (m' : List ℕ)
    → Newer old new top top' m f p → ChangeOf old top m member content m' → StillReadBy old new top top' m f p member content m'

-- The very bytes are those that the new table's own call gives: whose table it is makes no difference.
abbrev pub ChangedAlike : Type 0
ChangedAlike =
    (old new : List ℕ) (top top' : ℕ) (m : List ℕ) (f : Format) (p : Pieces) (member member' : ℕ) (content : Option (List ℕ)) (space : ℕ) (m' : List ℕ)
    → Newer old new top top' m f p → Counterpart old new top top' member member' → Fresh content
    → changing old top m member content space ≡ out m' → changing new top' m member' content space ≡ out m'

-- the reader's answers to message and result, each with a list that holds every row to be given
pub record StillAnswered (old new : List ℕ) (top top' : ℕ) (m : List ℕ) (lent lent' member : ℕ) (content : Option (List ℕ)) (m' : List ℕ) : Type 0 where
  pub member' : ℕ
  pub matches : Counterpart old new top top' member member'
  pub refusal : (reading new top' m' lent').refusal ≡ 0
  pub type : (reading new top' m' lent').type ≡ (reading new top' m lent).type
  pub format : (reading new top' m' lent').format ≡ (reading new top' m lent).format
  pub optionals : (reading new top' m' lent').optionals ≡ (reading new top' m lent).optionals
  pub slices : (reading new top' m' lent').slices ≡ (reading new top' m lent).slices
  pub differs : DiffersIn member' content m m' (reading new top' m lent).rows (reading new top' m' lent').rows

abbrev pub ChangedReading : Type 0
ChangedReading =
    (old new : List ℕ) (top top' : ℕ) (m : List ℕ) (f : Format) (p : Pieces) (member : ℕ) (content : Option (List ℕ)) (m' : List ℕ)
    → Newer old new top top' m f p → ChangeOf old top m member content m' → (lent lent' : ℕ)
    → length (answer new top' (rules new top' m)).rows ≤ room lent → length (answer new top' (rules new top' m')).rows ≤ room lent'
    → StillAnswered old new top top' m lent lent' member content m'

-- ---- changes that change nothing

-- rows have one of this member
pub record Has (member : ℕ) (rs : List Row) : Type 0 where
  pub listed : Row
  pub there : In listed rs
  pub of_member : listed.member ≡ member

-- r is a listed optional of an accepted parameter list or sliced record
abbrev pub SetAgain : Type 0
SetAgain =
    (T : List ℕ) (top : ℕ) (m : List ℕ) (p : Pieces) (n : ℕ) (r : Row) (space : ℕ) → Bytes m
    → rules T top m ≡ ok (read_as (v11 sliced) p) n → In r (rows T top (v11 sliced) p) → mark T r.member ≡ 1 → length m ≤ space
    → changing T top m r.member (some (part_of m r)) space ≡ out m

-- a member that is not listed, set and then removed
abbrev pub SetUndone : Type 0
SetUndone =
    (T : List ℕ) (top : ℕ) (m : List ℕ) (f : Format) (p : Pieces) (member : ℕ) (b m' : List ℕ) (space : ℕ)
    → Change T top m f p member (some b) m' → (Has member (rows T top (v11 f) p) → ⊥) → length m ≤ space
    → changing T top m' member none space ≡ out m

-- ---- refusals

-- an optional of the chain of row t, as the table's rows say it
pub record ChainOptional (T : List ℕ) (t m : ℕ) : Type 0 where
  pub inside : m < members T
  pub marked : mark T m ≡ 1
  pub owned : of_chain T t m ≡ true

-- 49 is where there is no target
abbrev pub NotOfChain : Type 0
NotOfChain =
    (T : List ℕ) (t m : ℕ) → faults T ≡ fine → no_top T t ≡ false
    → (target T t m ≡ none → ChainOptional T t m → ⊥) × ((ChainOptional T t m → ⊥) → target T t m ≡ none)

-- Rules out a change of a message of 1.0.
abbrev pub OldChange : Type 0
OldChange =
    (T : List ℕ) (top : ℕ) (m : List ℕ) (p : Pieces) (n member : ℕ) (content : Option (List ℕ)) (space : ℕ) → rules T top m ≡ ok (read_as v10 p) n
    → changing T top m member content space ≡ stop 49 0

-- the message is accepted, and the member is an optional of its first known type's chain
pub record Chosen (T : List ℕ) (top : ℕ) (m : List ℕ) (member : ℕ) (f : Format) (p : Pieces) : Type 0 where
  pub taken : ℕ
  pub accepted : rules T top m ≡ ok (read_as (v11 f) p) taken
  pub of_chain_lem : ChainOptional T (first_known T top p) member

-- the refusals of the two calls, their places, and what each says; each comes after those before it
pub data RefusedAt (T : List ℕ) (top : ℕ) (m : List ℕ) (member : ℕ) (content : Option (List ℕ)) (space : ℕ) : ℕ → ℕ → Type 0 where
  the_reader's : {n p : ℕ} → rules T top m ≡ bad n p → RefusedAt T top m member content space n p
  not_optional : {f : Format} {p : Pieces} {n : ℕ} → rules T top m ≡ ok (read_as (v11 f) p) n → (ChainOptional T (first_known T top p) member → ⊥)
      → RefusedAt T top m member content space 49 0
  of_old : {p : Pieces} {n : ℕ} → rules T top m ≡ ok (read_as v10 p) n → RefusedAt T top m member content space 49 0
  not_there : {f : Format} {p : Pieces} → Chosen T top m member f p → content ≡ none → (Has member (rows T top (v11 f) p) → ⊥)
      → RefusedAt T top m member content space 50 0
  compact_record : {p : Pieces} → Chosen T top m member compact p → (content ≡ none → Has member (rows T top (v11 compact) p))
      → RefusedAt T top m member content space 51 0
  over_limit : {p : Pieces} {b : List ℕ} → Chosen T top m member sliced p → content ≡ some b → limit < length b
      → RefusedAt T top m member content space 3 0
  not_of_type : {p : Pieces} {b : List ℕ} → Chosen T top m member sliced p → content ≡ some b → length b ≤ limit → (IsValue (member_ty T (trees T) member) b → ⊥)
      → RefusedAt T top m member content space 21 0
  too_long_lem : {m' : List ℕ} → changed T top member content (rules T top m) ≡ out m' → ((length m' ≤ limit) × (length m' ≤ space) → ⊥)
      → RefusedAt T top m member content space 22 (length m')

abbrev pub ChangeRefused : Type 0
ChangeRefused =
    (T : List ℕ) (top : ℕ) (m : List ℕ) (member : ℕ) (content : Option (List ℕ)) (space n p : ℕ) → Bytes m
    → changing T top m member content space ≡ stop n p → RefusedAt T top m member content space n p

-- the new bytes are exactly one value of the member's type; or the member to be removed is there
abbrev pub Doable : List ℕ → ℕ → Option (List ℕ) → List Row → Type 0
Doable T member none rs = Has member rs
Doable T member (some b) rs = (length b ≤ limit) × IsValue (member_ty T (trees T) member) b

-- Rules out calls that only refuse: whatever can be set or removed is, but for 22.
abbrev pub ChangeMade : Type 0
ChangeMade =
    (T : List ℕ) (top : ℕ) (m : List ℕ) (p : Pieces) (member : ℕ) (content : Option (List ℕ)) → Bytes m
    → Chosen T top m member sliced p → Doable T member content (rows T top (v11 sliced) p)
    → (m' : List ℕ) × (changed T top member content (rules T top m) ≡ out m')

-- 22 exactly where the result is over 65,536 bytes or its room, at its length
abbrev pub ChangeTooLong : Type 0
ChangeTooLong =
    (T : List ℕ) (top : ℕ) (m : List ℕ) (member : ℕ) (content : Option (List ℕ)) (m' : List ℕ) (space : ℕ)
    → changed T top member content (rules T top m) ≡ out m'
    → ((length m' ≤ limit) × (length m' ≤ space) → changing T top m member content space ≡ out m')
    × (((length m' ≤ limit) × (length m' ≤ space) → ⊥) → changing T top m member content space ≡ stop 22 (length m'))

-- ---- the answer and the output

-- the three numbers: 0, 0 and the result's length, or the refusal's number, which is not 0, its place and 0
abbrev pub ChangeTold : Type 0
ChangeTold =
    (T : List ℕ) (top : ℕ) (m : List ℕ) (member : ℕ) (content : Option (List ℕ)) (space : ℕ) → Bytes m
    → ((m' : List ℕ) → changing T top m member content space ≡ out m' → writing_numbers (writing_of (changing T top m member content space)) ≡ 0 ∷ 0 ∷ length m' ∷ [])
    × ((n p : ℕ) → changing T top m member content space ≡ stop n p → (1 ≤ n) × (writing_numbers (writing_of (changing T top m member content space)) ≡ n ∷ p ∷ 0 ∷ []))

-- Rules out a call that touches a byte after the result, or any byte on a refusal.
abbrev pub ChangeFilled : Type 0
ChangeFilled =
    (T : List ℕ) (top : ℕ) (m : List ℕ) (member : ℕ) (content : Option (List ℕ)) (lent : List ℕ)
    → ((m' : List ℕ) → changing T top m member content (length lent) ≡ out m'
    → (take (length m') (output (out m') lent) ≡ m') × (drop (length m') (output (out m') lent) ≡ drop (length m') lent) × (length (output (out m') lent) ≡ length lent))
    × ((n p : ℕ) → changing T top m member content (length lent) ≡ stop n p → output (stop n p) lent ≡ lent)
