-- What the answers say of the readers' results, in the shape of the facts after a call and a match. Assumes nothing.
--
--   header_rises                            the tag of a header is at least the least
--   KnownRead, SkippedRead                  an optional was read to a known piece, to a skipped one, and the least tag next is one above its own
--   known_read, skipped_read, wrong_read    what each answer says: that; or the refusal
--   known_rows, skipped_rows                what the piece adds to the rows
--   known_within, _start, _tag              all bytes are there, the value ends them, the tag is below 2 ^ 31
--   skipped_some, _within, _tag             the same of a skipped one; wrong_within a refusal's place is there
--   members_read, members_start             the pieces of the required members, and where the optional ones begin
--   members_refused                         or the refusal
--   members_within, refused_within          what they take, and where they are refused, is there
use Rattle.std.proofs.Math.Path.{◌≡◌, refl, ap}
use Rattle.std.proofs.Common.{sym, ◌∙◌, arith, ltb-true, ltb-false}
use Rattle.std.specs.Prelude.{Result, Ok, Err, Bool, true, false, ◌&&◌, ℕ, suc, ◌+◌, ◌-◌, ◌/◌, ◌%◌, ◌^◌, ◌≤◌, ◌<◌, drop, eqb, ltb}
use Rattle.std.proofs.Math.Option.{Option, none, some}
use mathlib.Core.List.{List, ◌∷◌, ◌++◌}
use Rattle.std.proofs.Math.ListN.{length, length-append}
use Rattle.encoding.specs.Result.{Res, ok, bad, pick, pure, must, mapc, bytes, inside}
use Rattle.encoding.proofs.ResultLaws.{first_of_ok, Bound, bind_ok, pure_ok, must_ok, mapc_ok, pick_true, held_took, held_refused}
use Rattle.encoding.specs.Number.{byte, size}
use Rattle.encoding.specs.Types.{Bits, bits_at, Form, form_of}
use Rattle.encoding.specs.Value.{value}
use Rattle.encoding.specs.Table.{Member, lookup}
use Rattle.encoding.specs.Table
use Rattle.encoding.specs.Optional.{Piece, optional, skipped, Header, first_form, header_tail, header_form, header, extent, part, content, next_optional, requireds, front_bytes, content_bytes, piece_bytes}
use Rattle.encoding.proofs.OptionalLaws.{held_optional, eats_optional, held_requireds}
use Rattle.encoding.proofs.WeightLaws.{optional_weight}
use Rattle.encoding.specs.Message.{list_row, piece_member, piece_rows}
use Rattle.wire.specs.declared.Refusal.{Refusal}
use Rattle.wire.specs.SizeLaws.{size_below}
use Rattle.level.specs.declared.Members.{Members}
use Rattle.level.specs.declared.Optional.{Optional}
use Rattle.level.specs.declared.Optional.TheVariants.{Known, Skipped}
use Rattle.level.specs.Answers.{members_of, row_or, piece_answer, optional_answer}

-- ---- tags

tag_below : (ms : List Member) (least : ℕ) (xs : List ℕ) {h : Header} {n : ℕ} → header ms least xs ≡ ok h n → h.tag < 2 ^ 31
unfolding header header_tail first_form
tag_below ms least xs {h} {n} e = go (bind_ok (must first_form byte) header_tail xs (must_ok _ xs (header_form ms least) e).0)
  where
    tail : (b : ℕ) (ys : List ℕ) (m : ℕ) → b / 8 < 31 → (t : Bool)
        → pick t (mapc (λ n _. record { long = true; tag = n; type = bits_at (b % 8) }) size) (pure (record { long = false; tag = b / 8; type = bits_at (b % 8) })) ys ≡ ok h m
        → h.tag < 2 ^ 31
    tail b ys m l true z =
        let N = mapc_ok size ys (λ n _. record { long = true; tag = n; type = bits_at (b % 8) }) z in
        omega (arith, size_below ys N.1, ap (λ (x : Header). x.tag) N.2)
    tail b ys m l false z =
        let P = pure_ok (record { long = false; tag = b / 8; type = bits_at (b % 8) }) ys z in
        omega (arith, ap (λ (x : Header). x.tag) P.0)

    go : Bound (must first_form byte) header_tail xs h n → h.tag < 2 ^ 31
    go B =
        let F = must_ok byte xs first_form B.first in
        tail B.fst (drop B.n xs) B.m (ltb-true (B.fst / 8) 31 (pick_true (ltb (B.fst / 8) 31) 11 F.1)) (eqb (B.fst / 8) 30) B.next

pub header_rises : (ms : List Member) (least : ℕ) (xs : List ℕ) {h : Header} {n : ℕ} → header ms least xs ≡ ok h n → least ≤ h.tag
unfolding header header_form
header_rises ms least xs {h} {n} e =
    let F = first_of_ok 11 (h.long && ltb h.tag 30) _ (must_ok _ xs (header_form ms least) e).1 in
    ltb-false h.tag least (first_of_ok 11 (ltb h.tag least) _ F.1).0

-- ---- the next optional

-- a known one
pub record KnownRead (ms : List Member) (least : ℕ) (s : List ℕ) (m k a n : ℕ) : Type 0 where
  pub member : Member
  pub form : Form
  pub bytes : List ℕ
  pub read : next_optional ms least s ≡ ok (optional k form bytes, suc k) n
  pub found : lookup k ms ≡ some member
  pub row : member.row ≡ m
  pub low : k < 2 ^ 31
  pub rises : least ≤ k
  pub sum : a + length bytes ≡ n

-- a skipped one
pub record SkippedRead (ms : List Member) (least : ℕ) (s : List ℕ) (k n : ℕ) : Type 0 where
  pub type : Bits
  pub bytes : List ℕ
  pub read : next_optional ms least s ≡ ok (skipped k type bytes, suc k) n
  pub low : k < 2 ^ 31
  pub rises : least ≤ k

-- an optional that was read is a known one or a skipped one
data Either (ms : List Member) (least : ℕ) (s : List ℕ) (r : Piece × ℕ) (n : ℕ) : Type 0 where
  one : (m k a : ℕ) → piece_answer ms n r.0 ≡ Known m k a n → KnownRead ms least s m k a n → Either ms least s r n
  other : (k : ℕ) → piece_answer ms n r.0 ≡ Skipped k n → SkippedRead ms least s k n → Either ms least s r n

either : (ms : List Member) (least : ℕ) (s : List ℕ) (r : Piece × ℕ) (n : ℕ) → next_optional ms least s ≡ ok r n → Either ms least s r n
unfolding next_optional content piece_answer row_or content_bytes piece_bytes
either ms least s r n e = go (bind_ok (header ms least) _ s e)
  where
    weight : n ≡ length (piece_bytes r.0)
    weight = optional_weight ms least s e

    piece : (h : Header) → h.tag < 2 ^ 31 → least ≤ h.tag → (xs : List ℕ) (p : Piece) (m : ℕ) → r ≡ (p, suc h.tag) → (o : Option Member) → lookup h.tag ms ≡ o
        → content o h xs ≡ ok p m → Either ms least s r n
    piece h l g xs p m q none f z =
        let M = mapc_ok (bytes (extent h.type)) xs (λ b _. skipped h.tag h.type b) z in
        let t : r ≡ (skipped h.tag h.type M.0, suc h.tag) = q ∙ ap (λ (x : Piece). (x, suc h.tag)) M.2 in
        other h.tag (ap (λ (x : Piece × ℕ). piece_answer ms n x.0) t)
        (record { type = h.type; bytes = M.0; read = e ∙ ap (λ (x : Piece × ℕ). ok x n) t; low = l; rises = g })
    piece h l g xs p m q (some y) f z =
        let M = mapc_ok (inside (part (form_of y.ty)) (bytes (value y.ty))) xs (λ b _. optional h.tag (form_of y.ty) b) z in
        let t : r ≡ (optional h.tag (form_of y.ty) M.0, suc h.tag) = q ∙ ap (λ (x : Piece). (x, suc h.tag)) M.2 in
        let w : n ≡ length (front_bytes (optional h.tag (form_of y.ty) M.0) ++ M.0) = weight ∙ ap (λ (x : Piece × ℕ). length (piece_bytes x.0)) t in
        let v = length-append (front_bytes (optional h.tag (form_of y.ty) M.0)) M.0 in
        one y.row h.tag (n - length M.0)
        (ap (λ (x : Piece × ℕ). piece_answer ms n x.0) t ∙ rw f)
        (record { member = y; form = form_of y.ty; bytes = M.0; read = e ∙ ap (λ (x : Piece × ℕ). ok x n) t; found = f; row = refl; low = l; rises = g; sum = omega arith })

    go : Bound (header ms least) (λ h. mapc (λ p _. (p, suc h.tag)) (content (lookup h.tag ms) h)) s r n → Either ms least s r n
    go B =
        let M = mapc_ok (content (lookup B.fst.tag ms) B.fst) (drop B.n s) (λ p _. (p, suc B.fst.tag)) B.next in
        piece B.fst (tag_below ms least s B.first) (header_rises ms least s B.first) (drop B.n s) M.0 B.m M.2 (lookup B.fst.tag ms) refl M.1

module _ (ms : List Member) (least : ℕ) (s : List ℕ) (r : Result Optional Refusal) (e : r ≡ optional_answer ms (next_optional ms least s)) where
  module _ (o : Optional) (q : r ≡ Ok o) where
    pub known_read : (m k a n : ℕ) → o ≡ Known m k a n → KnownRead ms least s m k a n
    unfolding optional_answer
    known_read m k a n w = go (next_optional ms least s) refl (sym q ∙ e)
      where
        by_piece : (x : Piece × ℕ) (l : ℕ) → Either ms least s x l → Known m k a n ≡ piece_answer ms l x.0 → KnownRead ms least s m k a n
        by_piece x l (one m' k' a' p K) h =
            let em : m' ≡ m = cc in
            let ek : k' ≡ k = cc in
            let ea : a' ≡ a = cc in
            let en : l ≡ n = cc in
            rw (em, ek, ea, en) at K
        by_piece x l (other k' p K) h = let z : ◌≡◌ {A = ℕ} 0 1 = cc in absurd (omega arith)

        go : (x : Res (Piece × ℕ)) → next_optional ms least s ≡ x → Ok o ≡ optional_answer ms x → KnownRead ms least s m k a n
        go (ok x l) f h = let g : Known m k a n ≡ piece_answer ms l x.0 = cc in by_piece x l (either ms least s x l f) g
        go (bad c p) f h = let z : ◌≡◌ {A = ℕ} 0 1 = cc in absurd (omega arith)

    pub skipped_read : (k n : ℕ) → o ≡ Skipped k n → SkippedRead ms least s k n
    unfolding optional_answer
    skipped_read k n w = go (next_optional ms least s) refl (sym q ∙ e)
      where
        by_piece : (x : Piece × ℕ) (l : ℕ) → Either ms least s x l → Skipped k n ≡ piece_answer ms l x.0 → SkippedRead ms least s k n
        by_piece x l (one m' k' a' p K) h = let z : ◌≡◌ {A = ℕ} 0 1 = cc in absurd (omega arith)
        by_piece x l (other k' p K) h =
            let ek : k' ≡ k = cc in
            let en : l ≡ n = cc in
            rw (ek, en) at K

        go : (x : Res (Piece × ℕ)) → next_optional ms least s ≡ x → Ok o ≡ optional_answer ms x → SkippedRead ms least s k n
        go (ok x l) f h = let g : Skipped k n ≡ piece_answer ms l x.0 = cc in by_piece x l (either ms least s x l f) g
        go (bad c p) f h = let z : ◌≡◌ {A = ℕ} 0 1 = cc in absurd (omega arith)

    -- the bytes of a known optional are all there, and its value ends them
    pub known_within : (m k a n : ℕ) → o ≡ Known m k a n → n ≤ length s
    known_within m k a n w = held_took (next_optional ms least) (held_optional ms least) s (known_read m k a n w).read

    pub known_start : (m k a n : ℕ) → o ≡ Known m k a n → a ≤ n
    known_start m k a n w = let K = known_read m k a n w in omega (arith, K.sum)

    pub known_tag : (m k a n : ℕ) → o ≡ Known m k a n → k < 2 ^ 31
    known_tag m k a n w = (known_read m k a n w).low

    pub skipped_some : (k n : ℕ) → o ≡ Skipped k n → 1 ≤ n
    skipped_some k n w = eats_optional ms least s _ n (skipped_read k n w).read

    pub skipped_within : (k n : ℕ) → o ≡ Skipped k n → n ≤ length s
    skipped_within k n w = held_took (next_optional ms least) (held_optional ms least) s (skipped_read k n w).read

    pub skipped_tag : (k n : ℕ) → o ≡ Skipped k n → k < 2 ^ 31
    skipped_tag k n w = (skipped_read k n w).low

  pub wrong_read : (x : Refusal) → r ≡ Err x → next_optional ms least s ≡ bad x.number x.place
  unfolding optional_answer
  wrong_read x q = go (next_optional ms least s) refl (sym q ∙ e)
    where
      go : (y : Res (Piece × ℕ)) → next_optional ms least s ≡ y → Err x ≡ optional_answer ms y → next_optional ms least s ≡ bad x.number x.place
      go (ok y l) f h = let z : ◌≡◌ {A = ℕ} 0 1 = cc in absurd (omega arith)
      go (bad d y) f h = let z : x ≡ record { number = d; place = y } = cc in rw z f

  pub wrong_within : (x : Refusal) → r ≡ Err x → x.place ≤ length s
  wrong_within x q = held_refused (next_optional ms least) (held_optional ms least) s (wrong_read x q)

-- ---- rows

module _ (T : List ℕ) (t least : ℕ) (s : List ℕ) (at : ℕ) (ps : List Piece) where
  pub known_rows : (m k a n : ℕ) (K : KnownRead (Table.optional_members T t) least s m k a n)
      → piece_rows T t at (optional k K.form K.bytes ∷ ps) ≡ record { member = m; place = at + a; len = n - a } ∷ piece_rows T t (at + n) ps
  unfolding piece_rows piece_member list_row content_bytes piece_bytes
  known_rows m k a n K =
      let p = optional k K.form K.bytes in
      let w : n ≡ length (front_bytes p ++ K.bytes) = optional_weight (Table.optional_members T t) least s K.read in
      let v : length (front_bytes p ++ K.bytes) ≡ length (front_bytes p) + length K.bytes = length-append (front_bytes p) K.bytes in
      let f : length (front_bytes p) ≡ a = omega (arith, K.sum) in
      let l : length K.bytes ≡ n - a = omega (arith, K.sum) in
      rw (K.found, K.row, f, l, ← w)

  pub skipped_rows : (k n : ℕ) (K : SkippedRead (Table.optional_members T t) least s k n)
      → piece_rows T t at (skipped k K.type K.bytes ∷ ps) ≡ piece_rows T t (at + n) ps
  unfolding piece_rows piece_member list_row
  skipped_rows k n K = ap (λ (i : ℕ). piece_rows T t (at + i) ps) (sym (optional_weight (Table.optional_members T t) least s K.read))

-- ---- required members

module _ (ms : List Member) (count start : ℕ) (s : List ℕ) (r : Result Members Refusal) (e : r ≡ members_of count start (requireds ms s)) where
  module _ (x : Members) (q : r ≡ Ok x) where
    pub members_read : (ps : List Piece) × (requireds ms s ≡ ok ps x.bytes) × (x.count ≡ count + length ps)
    unfolding members_of
    members_read = go (requireds ms s) refl (sym q ∙ e)
      where
        go : (y : Res (List Piece)) → requireds ms s ≡ y → Ok x ≡ members_of count start y → (ps : List Piece) × (requireds ms s ≡ ok ps x.bytes) × (x.count ≡ count + length ps)
        go (ok ps l) f h = let z : x ≡ record { bytes = l; count = count + length ps; optional = start } = cc in (ps, rw z f, rw z refl)
        go (bad c p) f h = let z : ◌≡◌ {A = ℕ} 0 1 = cc in absurd (omega arith)

    pub members_start : x.optional ≡ start
    unfolding members_of
    members_start = go (requireds ms s) (sym q ∙ e)
      where
        go : (y : Res (List Piece)) → Ok x ≡ members_of count start y → x.optional ≡ start
        go (ok ps l) h = let z : x ≡ record { bytes = l; count = count + length ps; optional = start } = cc in rw z refl
        go (bad c p) h = let z : ◌≡◌ {A = ℕ} 0 1 = cc in absurd (omega arith)

    pub members_within : x.bytes ≤ length s
    members_within = held_took (requireds ms) (held_requireds ms) s members_read.1

  module _ (x : Refusal) (q : r ≡ Err x) where
    pub members_refused : requireds ms s ≡ bad x.number x.place
    unfolding members_of
    members_refused = go (requireds ms s) refl (sym q ∙ e)
      where
        go : (y : Res (List Piece)) → requireds ms s ≡ y → Err x ≡ members_of count start y → requireds ms s ≡ bad x.number x.place
        go (ok ps l) f h = let z : ◌≡◌ {A = ℕ} 0 1 = cc in absurd (omega arith)
        go (bad d y) f h = let z : x ≡ record { number = d; place = y } = cc in rw z f

    pub refused_within : x.place ≤ length s
    refused_within = held_refused (requireds ms) (held_requireds ms) s members_refused
