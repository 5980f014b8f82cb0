-- Each listed row lies in the message, and its bytes are exactly one value of its member's type.
-- Rows are read off the pieces, and the message is the encoding of the pieces: so a row's place is where the encoding puts the piece's content.
--
--   Stands m at b      the bytes b are in m from the place `at` on
--   rows_exact         of pieces that conform
--   exact_rows_from    of every message that the rules accept, where `Exact` holds
use Rattle.std.specs.Prelude.{◌≡◌, Bool, take, drop, eqb}
use Rattle.std.proofs.Math.Path.{refl}
use Rattle.std.proofs.Common.{sym, ap, ◌∙◌, subst, arith, take_at, drop_at, eq-eqb, ne_eqb}
use Rattle.std.proofs.Math.Bool.{true, false}
use Rattle.std.proofs.Math.Option.{Option, some}
use mathlib.Core.List.{List, [], ◌∷◌, ◌++◌, append_assoc, append-nil}
use Prim.Native.Nat.{ℕ, suc, ◌+◌, ◌≤◌}
use Rattle.std.proofs.Math.ListN.{length, length-append}
use Rattle.encoding.specs.Result.{pick, concat}
use Rattle.encoding.proofs.ResultLaws.{some≢none}
use Rattle.encoding.specs.Number.{le_bytes}
use Rattle.encoding.proofs.NumberLaws.{length_le_bytes}
use Rattle.encoding.specs.Types.{Ty}
use Rattle.encoding.specs.Grammar.{IsValue}
use Rattle.encoding.specs.Table.{mark, Member, member_ty, trees, own_rows, requireds_in, optionals_in, lookup, chain}
use Rattle.encoding.specs.Table
use Rattle.encoding.specs.Optional.{Piece, required, optional, skipped, front_bytes, content_bytes, piece_bytes}
use Rattle.encoding.specs.Slice.{Format, Slice, known, passed, Stand, first, is_last, data_bytes}
use Rattle.encoding.specs.Old.{type_as, old_member, members_as}
use Rattle.encoding.specs.Message.{Pieces, list, exception, class, Encoding, v10, v11, is_old, front_as, later_as, encode, minor, encapsulate, Row, list_row, piece_member, piece_rows, slice_rows, or_zero, first_in, rows, slices_bytes}
use Rattle.encoding.specs.Conform.{Level, Bare, OwnedAs, Follow, Slices, Conform}
use Rattle.laws.specs.Demands.{All, end, more, RowExact, Exact, ExactRows}

-- ---- bytes at a place of a message

pub record Stands (m : List ℕ) (at : ℕ) (b : List ℕ) : Type 0 where
  pub before : List ℕ
  pub after : List ℕ
  pub spelt : m ≡ before ++ (b ++ after)
  pub place : length before ≡ at

module _ {m : List ℕ} {at : ℕ} (a b : List ℕ) (S : Stands m at (a ++ b)) where
  pub stands_first : Stands m at a
  stands_first = record {
    before = S.before;
    after = b ++ S.after;
    spelt = S.spelt ∙ ap (λ (z : List ℕ). S.before ++ z) (append_assoc a b S.after);
    place = S.place;
  }

  pub stands_next : (at' : ℕ) → at' ≡ at + length a → Stands m at' b
  stands_next at' e = record {
    before = S.before ++ a;
    after = S.after;
    spelt = S.spelt ∙ ap (λ (z : List ℕ). S.before ++ z) (append_assoc a b S.after) ∙ sym (append_assoc S.before a (b ++ S.after));
    place = omega (arith, length-append S.before a, S.place);
  }

pub stands_inside : {m : List ℕ} {at : ℕ} (b : List ℕ) → Stands m at b → at + length b ≤ length m
stands_inside b S = omega (arith, S.place, ap length S.spelt, length-append S.before (b ++ S.after), length-append b S.after)

pub stands_there : {m : List ℕ} {at : ℕ} (b : List ℕ) → Stands m at b → take (length b) (drop at m) ≡ b
stands_there {m} {at} b S =
    ap (λ (z : List ℕ). take (length b) (drop at z)) S.spelt
    ∙ ap (take (length b)) (drop_at S.before (b ++ S.after) at S.place)
    ∙ take_at b S.after (length b) refl

pub stands_encapsulated : (e : Encoding) (b : List ℕ) → Stands (encapsulate e b) 6 b
unfolding encapsulate
stands_encapsulated e b = record {
  before = le_bytes 4 (6 + length b) ++ (1 ∷ minor e ∷ []);
  after = [];
  spelt = rw (append-nil b, append_assoc) refl;
  place = omega (arith, length-append (le_bytes 4 (6 + length b)) (1 ∷ minor e ∷ []), length_le_bytes 4 (6 + length b));
}

-- ---- looking up members

pub all_append : {A : Type 0} {P : A → Type 0} {l k : List A} → All P l → All P k → All P (l ++ k)
all_append end K = K
all_append (more p L) K = more p (all_append L K)

pub all_map : {A : Type 0} {P Q : A → Type 0} {l : List A} → ((a : A) → P a → Q a) → All P l → All Q l
all_map f end = end
all_map f (more {a} p L) = more (f a p) (all_map f L)

pub lookup_all : {P : Member → Type 0} (k : ℕ) {ms : List Member} {m : Member} → All P ms → lookup k ms ≡ some m → P m
unfolding lookup
lookup_all k end h = absurd (some≢none h refl)
lookup_all {P} k {m = m} (more {a} {l} p L) h = go (eqb k a.key) h (λ e. lookup_all k L e)
  where
    go : (t : Bool) → pick t (some a) (lookup k l) ≡ some m → (lookup k l ≡ some m → P m) → P m
    go true e ih = let q : a ≡ m = cc in subst P q p
    go false e ih = ih e

module _ (T : List ℕ) (l : List Ty) where
  abbrev pub Typed : Member → Type 0
  Typed m = m.ty ≡ member_ty T l m.row

  pub required_typed : (i : ℕ) (ms : List ℕ) → All Typed (requireds_in T l i ms)
  unfolding requireds_in
  required_typed i [] = end
  required_typed i (m ∷ ms) = go (eqb (mark T m) 0) (required_typed (suc i) ms) (required_typed i ms)
    where
      go : (t : Bool) → All Typed (requireds_in T l (suc i) ms) → All Typed (requireds_in T l i ms)
          → All Typed (pick t (record { row = m; key = i; ty = member_ty T l m } ∷ requireds_in T l (suc i) ms) (requireds_in T l i ms))
      go true K L = more refl K
      go false K L = L

  pub optional_typed : (ms : List ℕ) → All Typed (optionals_in T l ms)
  unfolding optionals_in
  optional_typed [] = end
  optional_typed (m ∷ ms) = go (eqb (mark T m) 0) (optional_typed ms)
    where
      go : (t : Bool) → All Typed (optionals_in T l ms)
          → All Typed (pick t (optionals_in T l ms) (record { row = m; key = Table.tag T m; ty = member_ty T l m } ∷ optionals_in T l ms))
      go true L = L
      go false L = more refl L

  -- keys are positions: none is below the first
  abbrev From : ℕ → List Member → Member → Type 0
  From i os m = (i ≤ m.key) × (lookup m.key os ≡ some m)

  abbrev Each : ℕ → List Member → Type 0
  Each i os = All (From i os) os

  required_from : (i : ℕ) (ms : List ℕ) → Each i (requireds_in T l i ms)
  unfolding requireds_in lookup
  required_from i [] = end
  required_from i (m ∷ ms) = go (eqb (mark T m) 0) (required_from (suc i) ms) (required_from i ms)
    where
      this : Member
      this = record { row = m; key = i; ty = member_ty T l m }

      ahead : (os : List Member) → From i (this ∷ os) this
      ahead os = (omega arith, rw (eq-eqb i i refl) refl)

      behind : (os : List Member) (x : Member) → From (suc i) os x → From i (this ∷ os) x
      behind os x F = (omega (arith, F.0), rw (ne_eqb x.key i (λ q. omega (arith, F.0))) F.1)

      go : (t : Bool) → Each (suc i) (requireds_in T l (suc i) ms) → Each i (requireds_in T l i ms) → Each i (pick t (this ∷ requireds_in T l (suc i) ms) (requireds_in T l i ms))
      go true K L = more (ahead (requireds_in T l (suc i) ms)) (all_map (behind (requireds_in T l (suc i) ms)) K)
      go false K L = L

module _ (T : List ℕ) (t k : ℕ) {x : Member} where
  -- a member that is found has the type of its row
  required_ty : lookup k (Table.required_members T t) ≡ some x → x.ty ≡ member_ty T (trees T) x.row
  unfolding Table.required_members
  required_ty h = lookup_all k (required_typed T (trees T) 0 (own_rows T t)) h

  optional_ty : lookup k (Table.optional_members T t) ≡ some x → x.ty ≡ member_ty T (trees T) x.row
  unfolding Table.optional_members
  optional_ty h = lookup_all k (optional_typed T (trees T) (own_rows T t)) h

-- a required member is found by its key
abbrev pub Found : List Member → Member → Type 0
Found ms x = lookup x.key ms ≡ some x

pub required_found : (T : List ℕ) (t : ℕ) → All (Found (Table.required_members T t)) (Table.required_members T t)
unfolding Table.required_members
required_found T t = all_map (λ x F. F.1) (required_from T (trees T) 0 (own_rows T t))

-- ---- the rows of one owner

module _ (T m : List ℕ) where
  -- the row of a piece's content, of a member whose value it is, and rows after it
  listed_exact : (f : Encoding) {o : Option Member} {x : Member} (at : ℕ) (b : List ℕ) {rs : List Row} → o ≡ some x → x.ty ≡ member_ty T (trees T) x.row
      → IsValue (type_as (is_old f) x.ty) b → Stands m at b → All (RowExact T m f) rs → All (RowExact T m f) (list_row o at b rs)
  unfolding list_row
  listed_exact f {x = x} at b q e h S R = rw q (more row R)
    where
      row : RowExact T m f (record { member = x.row; place = at; len = length b })
      row = record { inside = stands_inside b S; one = rw (stands_there b S) (subst (λ (u : Ty). IsValue (type_as (is_old f) u) b) e h) }

  module _ (p : Piece) (ps : List Piece) (at : ℕ) (S : Stands m at (concat piece_bytes (p ∷ ps))) where
    pub content_stands : Stands m (at + length (front_bytes p)) (content_bytes p)
    unfolding concat piece_bytes
    content_stands = stands_next (front_bytes p) (content_bytes p) (stands_first (front_bytes p ++ content_bytes p) (concat piece_bytes ps) S) _ refl

    pub others_stand : Stands m (at + length (piece_bytes p)) (concat piece_bytes ps)
    unfolding concat
    others_stand = stands_next (piece_bytes p) (concat piece_bytes ps) S _ refl

  piece_rows_exact : (g : Format) (t : ℕ) (ms : List Member) → All (Found (Table.required_members T t)) ms → (least : ℕ) (ps : List Piece)
      → Level ms (Table.optional_members T t) least ps → (at : ℕ) → Stands m at (concat piece_bytes ps) → All (RowExact T m (v11 g)) (piece_rows T t at ps)
  unfolding piece_rows piece_member content_bytes list_row
  piece_rows_exact g t [] F least [] L at S = end
  piece_rows_exact g t [] F least (required i b ∷ ps) L at S = absurd L
  piece_rows_exact g t [] F least (optional k f b ∷ ps) (K, L) at S =
      listed_exact (v11 g) _ b K.found (optional_ty T t k K.found) K.one (content_stands (optional k f b) ps at S)
      (piece_rows_exact g t [] F (suc k) ps L _ (others_stand (optional k f b) ps at S))
  piece_rows_exact g t [] F least (skipped k f b ∷ ps) (U, L) at S = piece_rows_exact g t [] F (suc k) ps L _ (others_stand (skipped k f b) ps at S)
  piece_rows_exact g t (x ∷ ms) F least [] L at S = absurd L
  piece_rows_exact g t (x ∷ ms) (more q F) least (required i b ∷ ps) (e, h, L) at S =
      let f : lookup i (Table.required_members T t) ≡ some x = rw e q in
      listed_exact (v11 g) _ b f (required_ty T t i f) h (content_stands (required i b) ps at S)
      (piece_rows_exact g t ms F least ps L _ (others_stand (required i b) ps at S))
  piece_rows_exact g t (x ∷ ms) F least (optional k f b ∷ ps) L at S = absurd L
  piece_rows_exact g t (x ∷ ms) F least (skipped k f b ∷ ps) L at S = absurd L

  -- in 1.0 there are required members alone
  bare_rows_exact : (t : ℕ) (ms : List Member) → All (Found (Table.required_members T t)) ms → (ps : List Piece) → Bare (members_as true ms) ps → (at : ℕ) → Stands m at (concat piece_bytes ps)
      → All (RowExact T m v10) (piece_rows T t at ps)
  unfolding piece_rows piece_member content_bytes list_row old_member
  bare_rows_exact t [] F [] B at S = end
  bare_rows_exact t [] F (p ∷ ps) B at S = absurd B
  bare_rows_exact t (x ∷ ms) F [] B at S = absurd B
  bare_rows_exact t (x ∷ ms) (more q F) (required i b ∷ ps) (e, h, B) at S =
      let f : lookup i (Table.required_members T t) ≡ some x = rw e q in
      listed_exact v10 _ b f (required_ty T t i f) h (content_stands (required i b) ps at S) (bare_rows_exact t ms F ps B _ (others_stand (required i b) ps at S))
  bare_rows_exact t (x ∷ ms) F (optional k f b ∷ ps) B at S = absurd B
  bare_rows_exact t (x ∷ ms) F (skipped k f b ∷ ps) B at S = absurd B

  owned_exact : (e : Encoding) (t : ℕ) (ps : List Piece) → OwnedAs e T t ps → (at : ℕ) → Stands m at (concat piece_bytes ps) → All (RowExact T m e) (piece_rows T t at ps)
  owned_exact v10 t ps L at S = bare_rows_exact t (Table.required_members T t) (required_found T t) ps L at S
  owned_exact (v11 g) t ps L at S = piece_rows_exact g t (Table.required_members T t) (required_found T t) 0 ps L at S

  -- ---- the rows of slices

  module _ (e : Encoding) (s : Stand) (sl : Slice) (ss : List Slice) (at : ℕ) (S : Stands m at (slices_bytes e s (sl ∷ ss))) where
    pub data_stand : Stands m (at + length (front_as e s (is_last ss) sl)) (data_bytes sl)
    unfolding slices_bytes
    data_stand =
        let f : List ℕ = front_as e s (is_last ss) sl in
        stands_next f (data_bytes sl) (stands_first (f ++ data_bytes sl) (slices_bytes e (later_as e) ss) S) _ refl

    pub slices_stand : Stands m (at + length (front_as e s (is_last ss) sl) + length (data_bytes sl)) (slices_bytes e (later_as e) ss)
    unfolding slices_bytes
    slices_stand =
        let f : List ℕ = front_as e s (is_last ss) sl in
        stands_next (f ++ data_bytes sl) (slices_bytes e (later_as e) ss) S _ (omega (arith, length-append f (data_bytes sl)))

  follow_exact : (e : Encoding) (ts : List ℕ) (ss : List Slice) → Follow T e ts ss → (s : Stand) (at : ℕ) → Stands m at (slices_bytes e s ss)
      → All (RowExact T m e) (slice_rows T e s at ts ss)
  unfolding slice_rows data_bytes
  follow_exact e [] [] F s at S = end
  follow_exact e [] (sl ∷ ss) F s at S = absurd F
  follow_exact e (t ∷ ts) [] F s at S = absurd F
  follow_exact e (t ∷ ts) (known o ps ∷ ss) (i, L, F) s at S =
      all_append (owned_exact e t ps L _ (stands_first (concat piece_bytes ps) _ (data_stand e s (known o ps) ss at S)))
      (follow_exact e ts ss F (later_as e) _ (slices_stand e s (known o ps) ss at S))
  follow_exact e (t ∷ ts) (passed b nm d ∷ ss) F s at S = absurd F

  slices_exact : (top : ℕ) (e : Encoding) (ss : List Slice) → Slices T top e ss → (s : Stand) (at : ℕ) → Stands m at (slices_bytes e s ss)
      → All (RowExact T m e) (slice_rows T e s at (chain T (first_in T ss)) ss)
  unfolding slice_rows first_in data_bytes or_zero
  slices_exact top e [] C s at S = absurd C
  slices_exact top e (known o ps ∷ ss) C s at S = rw C.known (follow_exact e (chain T C.row) (known o ps ∷ ss) C.follow s at S)
  slices_exact top e (passed b nm d ∷ ss) (P, C) s at S = slices_exact top e ss C (later_as e) _ (slices_stand e s (passed b nm d) ss at S)

-- ---- the rows of a message

pub rows_exact : (T : List ℕ) (top : ℕ) (f : Encoding) (p : Pieces) → Conform T top f p → All (RowExact T (encapsulate f (encode f p)) f) (rows T top f p)
unfolding rows encode
rows_exact T top (v11 g) (list ps) (k, i, L) = owned_exact T _ (v11 g) top ps L 6 (stands_encapsulated (v11 g) _)
rows_exact T top (v11 g) (exception ss) (k, C) = slices_exact T _ top (v11 g) ss C first 6 (stands_encapsulated (v11 g) _)
rows_exact T top (v11 g) (class ss) (k, C) = slices_exact T _ top (v11 g) ss C first 7 (stands_next (1 ∷ []) _ (stands_encapsulated (v11 g) _) 7 refl)
rows_exact T top v10 (list ps) (k, W, L) = owned_exact T _ v10 top ps L 6 (stands_encapsulated v10 _)
rows_exact T top v10 (exception ss) (k, W, C) = slices_exact T _ top v10 ss C first 7 (stands_next (0 ∷ []) _ (stands_encapsulated v10 _) 7 refl)
rows_exact T top v10 (class ss) C = absurd C

pub exact_rows_from : Exact → ExactRows
exact_rows_from E T top m f p n y h =
    let F = ((E T top m f p n y).0 h).0 in
    subst (λ (z : List ℕ). All (RowExact T z f) (rows T top f p)) (sym F.encoded) (rows_exact T top f p F.conforms)
