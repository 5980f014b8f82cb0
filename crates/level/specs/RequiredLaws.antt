-- The rows of required members: the piece at a position is of the member at that position. Assumes nothing.
--
--   member_at T i r            the required member of row r at position i
--   required_past, _next      what an optional row and a required one add to the members
--   Ahead T t i rs            of owner t, the required members from position i on are those of the rows rs
--   ahead_begin               all of them are those of the owner's rows
--   ahead_past, ahead_next    one row further: an optional one, a required one
--   none_as, requireds_as     no member, and one before others, as an encoding reads them
--   piece_row                 the row of the next required piece
--   required_count            as many rows as required members
use Rattle.std.specs.Prelude.{◌≡◌, refl, Bool, true, false, List, [], ◌∷◌, ℕ, suc, ◌+◌, ◌≤◌, length, drop, eqb}
use Rattle.std.proofs.Common.{sym, ◌∙◌, add-zero, arith, eqb-true, eq-eqb, ne_eqb}
use Rattle.std.proofs.Math.Path.{ap}
use Rattle.std.proofs.Math.Option.{some}
use Rattle.std.proofs.lemmas.Bool.{eqb-false}
use Rattle.encoding.specs.Result.{Parser, ok, pick, ◌>>=◌, pure, mapc, bytes}
use Rattle.encoding.proofs.ResultLaws.{Bound, bind_ok, mapc_ok, pure_ok}
use Rattle.encoding.specs.Value.{value}
use Rattle.encoding.specs.Old.{type_as, old_member, members_as}
use Rattle.encoding.specs.Table.{mark, member_ty, own_rows, trees, Member, requireds_in, lookup}
use Rattle.encoding.specs.Table
use Rattle.encoding.specs.Optional.{Piece, required, requireds, front_bytes, content_bytes, piece_bytes}
use Rattle.encoding.specs.Message.{Row, list_row, piece_member, piece_rows}

abbrev pub member_at : List ℕ → ℕ → ℕ → Member
member_at T i r = record { row = r; key = i; ty = member_ty T (trees T) r }

pub record Ahead (T : List ℕ) (t i : ℕ) (rs : List ℕ) : Type 0 where
  pub same : (j : ℕ) → i ≤ j → lookup j (Table.required_members T t) ≡ lookup j (requireds_in T (trees T) i rs)

pub ahead_begin : (T : List ℕ) (t : ℕ) → Ahead T t 0 (own_rows T t)
unfolding Table.required_members
ahead_begin T t = record { same = λ j h. refl }

-- no member, and one before others, in either encoding
pub none_as : (old : Bool) → requireds (members_as old []) ≡ pure []
unfolding requireds
none_as true = refl
none_as false = refl

pub requireds_as : (old : Bool) (m : Member) (ms : List Member)
    → requireds (members_as old (m ∷ ms)) ≡ (bytes (value (type_as old m.ty)) >>= λ b. mapc (λ ps _. required m.key b ∷ ps) (requireds (members_as old ms)))
unfolding requireds old_member
requireds_as true m ms = refl
requireds_as false m ms = refl

-- an optional row adds nothing, a required one its member
pub required_past : (T : List ℕ) (i r : ℕ) (rs : List ℕ) → (mark T r ≡ 0 → ⊥) → requireds_in T (trees T) i (r ∷ rs) ≡ requireds_in T (trees T) i rs
unfolding requireds_in
required_past T i r rs h = rw (ne_eqb (mark T r) 0 h)

pub required_next : (T : List ℕ) (i r : ℕ) (rs : List ℕ) → mark T r ≡ 0 → requireds_in T (trees T) i (r ∷ rs) ≡ member_at T i r ∷ requireds_in T (trees T) (suc i) rs
unfolding requireds_in
required_next T i r rs h = rw (eq-eqb (mark T r) 0 h)

module _ (T : List ℕ) (t i r : ℕ) (rs : List ℕ) (A : Ahead T t i (r ∷ rs)) where
  pub ahead_past : (mark T r ≡ 0 → ⊥) → Ahead T t i rs
  ahead_past h = record { same = λ j l. A.same j l ∙ ap (lookup j) (required_past T i r rs h) }

  module _ (h : mark T r ≡ 0) where
    pub ahead_next : Ahead T t (suc i) rs
    unfolding lookup
    ahead_next = record { same = λ j l. A.same j (omega arith) ∙ ap (lookup j) (required_next T i r rs h) ∙ rw (ne_eqb j i (λ e. omega arith)) }

    ahead_here : lookup i (Table.required_members T t) ≡ some (member_at T i r)
    unfolding lookup
    ahead_here = A.same i (omega arith) ∙ ap (lookup i) (required_next T i r rs h) ∙ rw (eq-eqb i i refl)

    pub piece_row : (at : ℕ) (b : List ℕ) (ps : List Piece)
        → piece_rows T t at (required i b ∷ ps) ≡ record { member = r; place = at; len = length b } ∷ piece_rows T t (at + length b) ps
    unfolding piece_rows piece_member list_row front_bytes content_bytes piece_bytes
    piece_row at b ps = rw (ahead_here, add-zero)

required_many : (old : Bool) (T : List ℕ) (t : ℕ) (rs : List ℕ) (i : ℕ) → Ahead T t i rs → (s : List ℕ) (ps : List Piece) (n at : ℕ)
    → requireds (members_as old (requireds_in T (trees T) i rs)) s ≡ ok ps n → length (piece_rows T t at ps) ≡ length ps
unfolding requireds_in piece_rows
required_many old T t [] i A s ps n at h = let P = pure_ok [] s (sym (ap (λ (p : Parser (List Piece)). p s) (none_as old)) ∙ h) in rw P.0
required_many old T t (r ∷ rs) i A s ps n at h = go (eqb (mark T r) 0) refl (required_many old T t rs) h
  where
    more : mark T r ≡ 0 → Bound (bytes (value (type_as old (member_ty T (trees T) r)))) (λ b. mapc (λ ps _. required i b ∷ ps) (requireds (members_as old (requireds_in T (trees T) (suc i) rs)))) s ps n
        → ((i : ℕ) → Ahead T t i rs → (s : List ℕ) (ps : List Piece) (n at : ℕ) → requireds (members_as old (requireds_in T (trees T) i rs)) s ≡ ok ps n → length (piece_rows T t at ps) ≡ length ps)
        → length (piece_rows T t at ps) ≡ length ps
    more z B again =
        let M = mapc_ok (requireds (members_as old (requireds_in T (trees T) (suc i) rs))) (drop B.n s) (λ ps _. required i B.fst ∷ ps) B.next in
        ap (λ (l : List Piece). length (piece_rows T t at l)) M.2
        ∙ ap (λ (l : List Row). length l) (piece_row T t i r rs A z at B.fst M.0)
        ∙ ap suc (again (suc i) (ahead_next T t i r rs A z) (drop B.n s) M.0 B.m (at + length B.fst) M.1)
        ∙ sym (ap (λ (l : List Piece). length l) M.2)

    go : (b : Bool) → eqb (mark T r) 0 ≡ b
        → ((i : ℕ) → Ahead T t i rs → (s : List ℕ) (ps : List Piece) (n at : ℕ) → requireds (members_as old (requireds_in T (trees T) i rs)) s ≡ ok ps n → length (piece_rows T t at ps) ≡ length ps)
        → requireds (members_as old (pick b (member_at T i r ∷ requireds_in T (trees T) (suc i) rs) (requireds_in T (trees T) i rs))) s ≡ ok ps n → length (piece_rows T t at ps) ≡ length ps
    go true e again h = more (eqb-true (mark T r) 0 e)
        (bind_ok (bytes (value (type_as old (member_ty T (trees T) r)))) _ s (sym (ap (λ (p : Parser (List Piece)). p s) (requireds_as old (member_at T i r) (requireds_in T (trees T) (suc i) rs))) ∙ h)) again
    go false e again h = again i (ahead_past T t i r rs A (eqb-false (mark T r) 0 e)) s ps n at h

pub required_count : (old : Bool) (T : List ℕ) (t : ℕ) (s : List ℕ) (ps : List Piece) (n at : ℕ) → requireds (members_as old (Table.required_members T t)) s ≡ ok ps n
    → length (piece_rows T t at ps) ≡ length ps
unfolding Table.required_members
required_count old T t s ps n at h = required_many old T t (own_rows T t) 0 (ahead_begin T t) s ps n at h
