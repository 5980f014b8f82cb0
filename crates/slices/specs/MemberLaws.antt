-- The members of a slice as pieces: which are optional, how many bytes they take, and their rows, one list after another.
--
--   required_plain          required members are none of them optional, nor skipped
--   required_few            they are at most as many as the owner names
--   optional_is             an optional that was read is an optional piece
--   optional_two            it takes at least two bytes
--   mark_byte               an end marker takes one byte
--   fields_weight           the members of a slice take as many bytes as their encoding has
--   length_pieces, rows_append, skipped_append   of pieces after pieces
use Rattle.std.specs.Prelude.{◌≡◌, refl, false, ◌||◌, drop, eqb}
use Rattle.std.proofs.Common.{sym, ◌∙◌, add-zero, zero-add, arith}
use Rattle.std.proofs.Math.Path.{ap}
use Rattle.std.proofs.Math.Bool.{Bool, true}
use Rattle.std.proofs.Math.Option.{Option, none, some}
use mathlib.Core.List.{List, [], ◌∷◌, ◌++◌}
use Prim.Native.Nat.{ℕ, zero, suc, ◌+◌, ◌≤◌}
use Rattle.std.proofs.Math.ListN.{length, length-append}
use Rattle.encoding.specs.Result.{ok, Parser, pick, pure, must, mapc, bytes, inside, at_mark, concat}
use Rattle.encoding.proofs.ResultLaws.{some≢none, Bound, bind_ok, pure_ok, must_ok, mapc_ok, bytes_ok, inside_ok, Run, end, step, run_of, Eats, eats_chunk, eats_fail, eats_item, eats_mapc, eats_first}
use Rattle.encoding.proofs.NumberLaws.{eats_size, eats_declared}
use Rattle.encoding.specs.Number
use Rattle.encoding.specs.Types.{Ty, Bits, f1, f2, f4, f8, size, vsize, fsize, class, Form, bare, own, counted, sized, form_of}
use Rattle.encoding.specs.Value.{value}
use Rattle.encoding.specs.Table.{field, mark, member_ty, trees, range, own_rows, Member, requireds_in, lookup}
use Rattle.encoding.specs.Table
use Rattle.encoding.specs.Optional.{Piece, required, optional, skipped, Header, header, extent, part, content, next_optional, optionals, requireds, front_bytes, content_bytes, piece_bytes, is_optional, is_skipped}
use Rattle.encoding.proofs.OptionalLaws.{eats_header}
use Rattle.encoding.proofs.WeightLaws.{requireds_weight, run_weight}
use Rattle.encoding.specs.Old.{members_as}
use Rattle.encoding.specs.Slice.{known, some_form, fields, any_optional, data_bytes}
use Rattle.encoding.specs.Message.{Row, list_row, piece_member, piece_rows, skipped_pieces}

-- ---- pieces after pieces

pub length_pieces : (a b : List Piece) → length (concat piece_bytes (a ++ b)) ≡ length (concat piece_bytes a) + length (concat piece_bytes b)
unfolding concat
length_pieces [] b = sym (zero-add _)
length_pieces (x ∷ a) b =
    omega (arith, length-append (piece_bytes x) (concat piece_bytes (a ++ b)), length-append (piece_bytes x) (concat piece_bytes a), length_pieces a b)

pub skipped_append : (a b : List Piece) → skipped_pieces (a ++ b) ≡ skipped_pieces a + skipped_pieces b
unfolding skipped_pieces
skipped_append [] b = sym (zero-add _)
skipped_append (x ∷ a) b = omega (arith, skipped_append a b)

rows_put : (o : Option Member) (at : ℕ) (b : List ℕ) (rs qs : List Row) → list_row o at b (rs ++ qs) ≡ list_row o at b rs ++ qs
unfolding list_row
rows_put none at b rs qs = refl
rows_put (some m) at b rs qs = refl

module _ (T : List ℕ) (t : ℕ) where
  pub rows_append : (a b : List Piece) (at : ℕ) → piece_rows T t at (a ++ b) ≡ piece_rows T t at a ++ piece_rows T t (at + length (concat piece_bytes a)) b
  unfolding piece_rows concat
  rows_append [] b at = ap (λ (i : ℕ). piece_rows T t i b) (sym (add-zero at))
  rows_append (x ∷ a) b at =
      ap (list_row (piece_member T t x) (at + length (front_bytes x)) (content_bytes x)) (rows_append a b (at + length (piece_bytes x)))
      ∙ rows_put (piece_member T t x) (at + length (front_bytes x)) (content_bytes x) (piece_rows T t (at + length (piece_bytes x)) a) _
      ∙ ap (λ (i : ℕ). list_row (piece_member T t x) (at + length (front_bytes x)) (content_bytes x) (piece_rows T t (at + length (piece_bytes x)) a) ++ piece_rows T t i b)
      (omega (arith, length-append (piece_bytes x) (concat piece_bytes a)))

-- ---- required members

pub record Plain (ps : List Piece) : Type 0 where
  pub none_optional : any_optional ps ≡ false
  pub none_skipped : skipped_pieces ps ≡ 0

pub required_plain : (ms : List Member) (xs : List ℕ) (ps : List Piece) (n : ℕ) → requireds ms xs ≡ ok ps n → Plain ps
unfolding requireds any_optional skipped_pieces is_optional is_skipped
required_plain [] xs ps n h = let P = pure_ok [] xs h in rw P.0 (record { none_optional = refl; none_skipped = refl })
required_plain (m ∷ ms) xs ps n h = go (bind_ok (bytes (value m.ty)) _ xs h) (required_plain ms)
  where
    go : Bound (bytes (value m.ty)) (λ b. mapc (λ ps _. required m.key b ∷ ps) (requireds ms)) xs ps n
        → ((xs : List ℕ) (ps : List Piece) (n : ℕ) → requireds ms xs ≡ ok ps n → Plain ps) → Plain ps
    go B again =
        let M = mapc_ok (requireds ms) (drop B.n xs) (λ ps _. required m.key B.fst ∷ ps) B.next in
        let P = again (drop B.n xs) M.0 B.m M.1 in
        rw M.2 (record { none_optional = P.none_optional; none_skipped = omega (arith, P.none_skipped) })

-- as many as there are members, at most those that the owner names
required_all : (ms : List Member) (xs : List ℕ) (ps : List Piece) (n : ℕ) → requireds ms xs ≡ ok ps n → length ps ≡ length ms
unfolding requireds
required_all [] xs ps n h = ap (λ (l : List Piece). length l) (pure_ok [] xs h).0
required_all (m ∷ ms) xs ps n h = go (bind_ok (bytes (value m.ty)) _ xs h) (required_all ms)
  where
    go : Bound (bytes (value m.ty)) (λ b. mapc (λ ps _. required m.key b ∷ ps) (requireds ms)) xs ps n
        → ((xs : List ℕ) (ps : List Piece) (n : ℕ) → requireds ms xs ≡ ok ps n → length ps ≡ length ms) → length ps ≡ suc (length ms)
    go B again =
        let M = mapc_ok (requireds ms) (drop B.n xs) (λ ps _. required m.key B.fst ∷ ps) B.next in
        ap (λ (l : List Piece). length l) M.2 ∙ ap suc (again (drop B.n xs) M.0 B.m M.1)

required_of : (T : List ℕ) (l : List Ty) (i k j : ℕ) → length (requireds_in T l j (range i k)) ≤ k
unfolding requireds_in range
required_of T l i zero j = omega arith
required_of T l i (suc k) j = go (eqb (mark T i) 0) (required_of T l (suc i) k (suc j)) (required_of T l (suc i) k j)
  where
    go : (b : Bool) → length (requireds_in T l (suc j) (range (suc i) k)) ≤ k → length (requireds_in T l j (range (suc i) k)) ≤ k
        → length (pick b (record { row = i; key = j; ty = member_ty T l i } ∷ requireds_in T l (suc j) (range (suc i) k)) (requireds_in T l j (range (suc i) k))) ≤ suc k
    go true p q = omega arith
    go false p q = omega arith

-- in either encoding
length_as : (old : Bool) (ms : List Member) → length (members_as old ms) ≡ length ms
length_as false ms = refl
length_as true [] = refl
length_as true (m ∷ ms) = ap suc (length_as true ms)

pub required_few : (old : Bool) (T : List ℕ) (t : ℕ) (xs : List ℕ) (ps : List Piece) (n : ℕ) → requireds (members_as old (Table.required_members T t)) xs ≡ ok ps n → length ps ≤ field T t 1
unfolding Table.required_members own_rows
required_few old T t xs ps n h =
    omega (arith, required_all (members_as old (Table.required_members T t)) xs ps n h, length_as old (Table.required_members T t), required_of T (trees T) (field T t 0) (field T t 1) 0)

any_append : (a b : List Piece) → any_optional a ≡ false → any_optional (a ++ b) ≡ any_optional b
unfolding any_optional
any_append [] b h = refl
any_append (x ∷ a) b h = go (is_optional x) h (any_append a b)
  where
    go : (q : Bool) → q || any_optional a ≡ false → (any_optional a ≡ false → any_optional (a ++ b) ≡ any_optional b) → q || any_optional (a ++ b) ≡ any_optional b
    go true h again = let z : ◌≡◌ {A = ℕ} 0 1 = cc in absurd (omega arith)
    go false h again = again h

-- ---- optionals

module _ (ms : List Member) (least : ℕ) (xs : List ℕ) where
  rest : Header → Parser (Piece × ℕ)
  rest h = mapc (λ p _. (p, suc h.tag)) (content (lookup h.tag ms) h)

  content_is : (o : Option Member) (h : Header) (ys : List ℕ) (p : Piece) (n : ℕ) → content o h ys ≡ ok p n → is_optional p ≡ true
  unfolding content is_optional
  content_is none h ys p n e = rw (mapc_ok (bytes (extent h.type)) ys (λ b _. skipped h.tag h.type b) e).2
  content_is (some m) h ys p n e =
      rw (mapc_ok (inside (part (form_of m.ty)) (bytes (value m.ty))) ys (λ b _. optional h.tag (form_of m.ty) b) e).2

  pub optional_is : (r : Piece × ℕ) (n : ℕ) → next_optional ms least xs ≡ ok r n → is_optional r.0 ≡ true
  unfolding next_optional rest
  optional_is r n e = go (bind_ok (header ms least) rest xs e)
    where
      go : Bound (header ms least) rest xs r n → is_optional r.0 ≡ true
      go B =
          let M = mapc_ok (content (lookup B.fst.tag ms) B.fst) (drop B.n xs) (λ p _. (p, suc B.fst.tag)) B.next in
          ap (λ (z : Piece × ℕ). is_optional z.0) M.2 ∙ content_is (lookup B.fst.tag ms) B.fst (drop B.n xs) M.0 B.m M.1

eats_bytes : {A : Type 0} (p : Parser A) → Eats p → Eats (bytes p)
eats_bytes p P xs b n h = let e = bytes_ok p xs h in P xs e.0 n e.1

eats_extent : (k : Bits) → Eats (extent k)
unfolding extent
eats_extent f1 = eats_chunk 1 (λ b. b) (omega arith)
eats_extent f2 = eats_chunk 2 (λ b. b) (omega arith)
eats_extent f4 = eats_chunk 4 (λ b. b) (omega arith)
eats_extent f8 = eats_chunk 8 (λ b. b) (omega arith)
eats_extent size = eats_bytes Number.size eats_size
eats_extent vsize = eats_item _ (eats_first Number.size _ eats_size)
eats_extent fsize = eats_declared 1 0
eats_extent class = eats_fail 13

eats_part : (f : Form) → Eats (part f)
unfolding part
eats_part (bare k) = eats_extent k
eats_part own = eats_bytes _ (eats_extent vsize)
eats_part counted = eats_extent vsize
eats_part sized = eats_extent fsize

eats_inside : {B : Type 0} (p : Parser (List ℕ)) (q : Parser B) → Eats p → Eats (inside p q)
eats_inside p q P xs b n h = let E = inside_ok p q xs h in P xs E.part n E.outer

eats_content : (o : Option Member) (h : Header) → Eats (content o h)
unfolding content
eats_content none h = eats_mapc (λ b _. skipped h.tag h.type b) _ (eats_bytes _ (eats_extent h.type))
eats_content (some m) h = eats_mapc (λ b _. optional h.tag (form_of m.ty) b) _ (eats_inside (part (form_of m.ty)) _ (eats_part (form_of m.ty)))

pub optional_two : (ms : List Member) (least : ℕ) (xs : List ℕ) (r : Piece × ℕ) (n : ℕ) → next_optional ms least xs ≡ ok r n → 2 ≤ n
unfolding next_optional
optional_two ms least xs r n e = go (bind_ok (header ms least) _ xs e)
  where
    go : Bound (header ms least) (λ h. mapc (λ p _. (p, suc h.tag)) (content (lookup h.tag ms) h)) xs r n → 2 ≤ n
    go B =
        let M = mapc_ok (content (lookup B.fst.tag ms) B.fst) (drop B.n xs) (λ p _. (p, suc B.fst.tag)) B.next in
        omega (arith, B.sum, eats_header ms least xs B.fst B.n B.first, eats_content (lookup B.fst.tag ms) B.fst (drop B.n xs) M.0 B.m M.1)

-- ---- the members of a slice

-- a marker takes one byte
pub mark_byte : (xs : List ℕ) (j : ℕ) → at_mark xs ≡ some j → (j ≡ 1) × (1 ≤ length xs)
unfolding at_mark
mark_byte [] j e = absurd (some≢none e refl)
mark_byte (x ∷ xs) j e = (go (eqb x 255) e, omega arith)
  where
    go : (b : Bool) → pick b (some 1) none ≡ some j → j ≡ 1
    go true e = cc
    go false e = absurd (some≢none e refl)

some_optional : (ms : List Member) {f s : ℕ} {xs : List ℕ} {ps : List Piece} {n : ℕ} → Run at_mark (next_optional ms) f s xs ps n → some_form ps ≡ 0 → any_optional ps ≡ true
unfolding some_form any_optional
some_optional ms (end e) h = absurd (omega arith)
some_optional ms (step {s = s} {xs = xs} {a = p} {s' = s'} {n = n} e h r) z = rw (optional_is ms s xs (p, s') n h)

module _ (T : List ℕ) (t : ℕ) (o : List ℕ) where
  pub fields_weight : (opt : Bool) (xs : List ℕ) (ps : List Piece) (n : ℕ) → fields T t opt xs ≡ ok ps n → n ≡ length (data_bytes (known o ps))
  unfolding fields data_bytes optionals
  fields_weight opt xs ps n h = go opt (bind_ok (requireds (Table.required_members T t)) (next opt) xs h)
    where
      next : Bool → List Piece → Parser (List Piece)
      next opt a = pick opt (mapc (λ ps _. a ++ ps) (must some_form (optionals at_mark (Table.optional_members T t)))) (pure a)

      go : (opt : Bool) → Bound (requireds (Table.required_members T t)) (next opt) xs ps n → n ≡ length (concat piece_bytes ps ++ pick (any_optional ps) (255 ∷ []) [])
      go true B =
          let M = mapc_ok (must some_form (optionals at_mark (Table.optional_members T t))) (drop B.n xs) (λ ps _. B.fst ++ ps) B.next in
          let O = must_ok (optionals at_mark (Table.optional_members T t)) (drop B.n xs) some_form M.1 in
          let R = run_of at_mark (next_optional (Table.optional_members T t)) (length (drop B.n xs)) 0 (drop B.n xs) O.0 in
          let W = run_weight at_mark (Table.optional_members T t) R in
          let P = required_plain (Table.required_members T t) xs B.fst B.n B.first in
          let a : any_optional ps ≡ true = ap any_optional M.2 ∙ any_append B.fst M.0 P.none_optional ∙ some_optional (Table.optional_members T t) R O.1 in
          rw a (omega (
            arith,
            length-append (concat piece_bytes ps) (255 ∷ []),
            ap (λ (l : List Piece). length (concat piece_bytes l)) M.2,
            length_pieces B.fst M.0,
            B.sum,
            requireds_weight (Table.required_members T t) xs B.first,
            W.2,
            (mark_byte _ _ W.1).0,
          ))
      go false B =
          let Q = pure_ok B.fst (drop B.n xs) B.next in
          let P = required_plain (Table.required_members T t) xs B.fst B.n B.first in
          let a : any_optional ps ≡ false = ap any_optional Q.0 ∙ P.none_optional in
          rw a (omega (
            arith,
            length-append (concat piece_bytes ps) [],
            ap (λ (l : List Piece). length (concat piece_bytes l)) Q.0,
            B.sum,
            requireds_weight (Table.required_members T t) xs B.first,
            Q.1,
          ))
