-- What is put of one member: content, header, length field. Assumes nothing.
--
--   content_put                            the bytes of a row
--   long_put                               a long part in two puts
--   header_put_short, header_put_long      a header
--   length_put_none, length_put_size, length_put_int   a length field
--   optional_put                           header, length field and content, one after another
--   header_one, header_more, length_zero, length_same, length_four   how many bytes header and length field take
--   due_other, due_wrong, due_right        a row as the required member that is due: another one; by the judgement on its bytes, measured
--   due_quick                              the same, of a row that is seen to be right without a call
--   due_outside                            its part lies outside the buffer
--   due_given                              the same, its bytes judged before
--   may_gone, may_tag                      a row that is no optional member of the owner; the tag of one that is
--   part_small                             a part that is right is short
--   may_wrong, may_right, may_put          a row as an optional member: by the judgement on its bytes, measured; its bytes judged before, and put
use mathlib.Core.Path.{◌≡◌, refl, sym, ap, subst, ◌∙◌}
use mathlib.Core.Bool.{Bool, true, false}
use mathlib.Core.Option.{some}
use mathlib.Core.List.{List, [], ◌∷◌, ◌++◌}
use Prim.Native.Nat.{ℕ, ◌+◌, ◌-◌, ◌*◌, ◌%◌, ◌≤◌, ◌<◌}
use native.Mathlib.Omega.{arith}
use lib.ListN.{length, take, drop, length-append, length-drop}
use lib.Seq.{take-add, drop-drop, length-take-le}
use lib.Dec.{leb, ltb}
use borrow.Author.Tests.{eq-eqb}
use Rattle.encoding.specs.Result.{pick}
use Rattle.encoding.specs.Number.{le_bytes, size_bytes}
use Rattle.encoding.proofs.NumberLaws.{length_le_bytes}
use Rattle.encoding.specs.Types.{Ty, form_of}
use Rattle.encoding.specs.Table.{field, members, member_type, tag, trees, ty_of, member_ty}
use Rattle.encoding.specs.Optional.{required, optional, piece_bytes, is_optional}
use Rattle.encoding.specs.Old.{type_as}
use Rattle.encoding.specs.Message.{Row}
use Rattle.encoding.specs.Write.{stop, Reached, reach, given, part_of, row_at}
use Rattle.shapes.specs.Shapes.{form_number, shapes_of, form_in}
use Rattle.shapes.specs.ShapesLaws.{form_row}
use Rattle.wire.specs.Put.{put, header_bits}
use Rattle.wire.specs.PutLaws.{header_bits_lem}
use Rattle.table.proofs.Places.{member_row}
use Rattle.std.specs.Prelude.{Result, Ok, Err, Option, Some, None}
use Rattle.pieces.specs.declared.Wanted.{Wanted}
use Rattle.pieces.specs.Cursors.{required_in, Cursor, due_at, may_at, state_of, may_member, due_reached, may_reached, IsDue, Gone, IsMay, OptionalIn}
use Rattle.pieces.specs.Judged.{part_form, judged_row}
use Rattle.pieces.specs.Puts.{Puts}
use Rattle.pieces.specs.PutsLaws.{puts_one, puts_none, puts_is, puts_measured, puts_number, puts_byte, puts_size, puts_then}
use Rattle.wire.specs.Put.{form_bits}
use Rattle.pieces.specs.Pieces.{header_field, length_field, optional_field, here_of, taken_of, piece_at, RowIs, RowLaid}
use Rattle.pieces.specs.PiecesLaws.{required_bytes, optional_bytes, header_short, header_long, length_none, length_size, length_int}
use Rattle.pieces.proofs.Parts.{part_whole}
use Rattle.pieces.proofs.Reaches.{found_due, found_other}
use Rattle.pieces.proofs.Judges.{part_outside, part_fits, row_none, row_refused, row_right}

pub content_put : (buffer : List ℕ) (place len at k : ℕ) (out last : List ℕ)
    → last ≡ put at (take len (drop place buffer)) out → k ≡ length (take len (drop place buffer)) → Puts at (take len (drop place buffer)) out last (at + k)
content_put buffer place len at k out last e f = puts_one at _ out last (at + k) e (ap (λ (z : ℕ). at + z) f)

two_puts : (buffer : List ℕ) (place n lead at : ℕ) (out mid last : List ℕ) → place + n ≤ length buffer → lead ≤ n
    → mid ≡ put at (take lead (drop place buffer)) out → last ≡ put (at + lead) (take (n - lead) (drop (place + lead) buffer)) mid
    → Puts at (take n (drop place buffer)) out last (at + n)
two_puts buffer place n lead at out mid last h l e f =
    let b : List ℕ = take lead (drop place buffer) in
    let c : List ℕ = take (n - lead) (drop (place + lead) buffer) in
    let lb : length b ≡ lead = length-take-le lead (drop place buffer) (omega (arith, length-drop place buffer)) in
    let lc : length c ≡ n - lead = length-take-le (n - lead) (drop (place + lead) buffer) (omega (arith, length-drop (place + lead) buffer)) in
    let z : n ≡ lead + (n - lead) = omega arith in
    let d : take n (drop place buffer) ≡ b ++ c =
    ap (λ (k : ℕ). take k (drop place buffer)) z ∙ take-add lead (n - lead) (drop place buffer) ∙ ap (λ (x : List ℕ). b ++ take (n - lead) x) (drop-drop lead place buffer)
    in puts_is at _ _ out last (at + n) (sym d)
    (puts_then at b out mid (at + lead) (puts_one at b out mid (at + lead) e (omega (arith, lb))) c last (at + n) (puts_one (at + lead) c mid last (at + n) f (omega (arith, lc))))

pub long_put : (buffer : List ℕ) (place n at : ℕ) (out mid last : List ℕ) → 64 ≤ n → place + n ≤ length buffer
    → mid ≡ put at (take (64 - at % 64) (drop place buffer)) out
    → last ≡ put (at + (64 - at % 64)) (take (n - (64 - at % 64)) (drop (place + (64 - at % 64)) buffer)) mid
    → Puts at (take n (drop place buffer)) out last (at + n)
long_put buffer place n at out mid last h l e f = two_puts buffer place n (64 - at % 64) at out mid last l (omega arith) e f

-- ---- the header

module _ (t k at : ℕ) (out : List ℕ) (l : k < 8) where
  pub header_put_short : (h : ℕ) (last : List ℕ) → t < 30 → h ≡ header_bits t k → last ≡ put at (le_bytes 1 h) out → Puts at (header_field t k) out last (at + 1)
  header_put_short h last s e f =
      let g : h ≡ t * 8 + k = e ∙ header_bits_lem t k (omega arith) l in
      puts_is at _ _ out last (at + 1) (sym (header_short t k s)) (puts_byte (t * 8 + k) at out last (omega arith) (rw (← g) f))

  pub header_put_long : (h n : ℕ) (mid last : List ℕ) → 30 ≤ t → h ≡ header_bits 30 k → mid ≡ put at (le_bytes 1 h) out
      → last ≡ put (at + 1) (size_bytes t) mid → n ≡ length (size_bytes t) → Puts at (header_field t k) out last (at + 1 + n)
  header_put_long h n mid last s e f g z =
      let j : h ≡ 240 + k = e ∙ header_bits_lem 30 k (omega arith) l in
      puts_is at _ _ out last (at + 1 + n) (sym (header_long t k s))
      (puts_then at ((240 + k) ∷ []) out mid (at + 1) (puts_byte (240 + k) at out mid (omega arith) (rw (← j) f)) (size_bytes t) last (at + 1 + n) (puts_size t n (at + 1) mid last g z))

-- ---- the length field

module _ (form n at : ℕ) (out : List ℕ) where
  pub length_put_none : form < 9 → Puts at (length_field form n) out out at
  length_put_none h = puts_is at _ _ out out at (sym (length_none form n h)) (puts_none at out)

  pub length_put_size : (last : List ℕ) (k : ℕ) → form ≡ 9 → last ≡ put at (size_bytes n) out → k ≡ length (size_bytes n) → Puts at (length_field form n) out last (at + k)
  length_put_size last k h e f = puts_is at _ _ out last (at + k) (sym (length_size form n h)) (puts_size n k at out last e f)

  pub length_put_int : (last : List ℕ) → 9 ≤ form → (form ≡ 9 → ⊥) → last ≡ put at (le_bytes 4 n) out → Puts at (length_field form n) out last (at + 4)
  length_put_int last h q e = puts_is at _ _ out last (at + 4) (sym (length_int form n (omega (arith, q)))) (puts_number 4 n at out last e)

-- ---- their lengths

-- that of a header does not depend on the type bits
header_length : (t k : ℕ) → length (header_field t k) ≡ length (header_field t 0)
unfolding header_field
header_length t k = go (ltb t 30)
  where
    go : (b : Bool) → length (pick b ((t * 8 + k) ∷ []) ((240 + k) ∷ size_bytes t)) ≡ length (pick b ((t * 8 + 0) ∷ []) ((240 + 0) ∷ size_bytes t))
    go true = refl
    go false = refl

pub header_one : (t : ℕ) → t < 30 → 1 ≡ length (header_field t 0)
header_one t h = sym (ap length (header_short t 0 h))

pub header_more : (t n : ℕ) → 30 ≤ t → n ≡ length (size_bytes t) → 1 + n ≡ length (header_field t 0)
header_more t n h e = omega (arith, e, ap length (header_long t 0 h), length-append ((240 + 0) ∷ []) (size_bytes t))

module _ (form n : ℕ) where
  pub length_zero : form < 9 → 0 ≡ length (length_field form n)
  length_zero h = sym (ap length (length_none form n h))

  pub length_same : (k : ℕ) → form ≡ 9 → k ≡ length (size_bytes n) → k ≡ length (length_field form n)
  length_same k h e = e ∙ sym (ap length (length_size form n h))

  pub length_four : 9 ≤ form → (form ≡ 9 → ⊥) → 4 ≡ length (length_field form n)
  length_four h q = sym (ap length (length_int form n (omega (arith, q))) ∙ length_le_bytes 4 n)

-- ---- an optional

pub optional_put : (t form k n at : ℕ) (buffer : List ℕ) (r : Row) (out one two last : List ℕ) (d e g : ℕ) → k ≡ form_bits form → n ≡ length (take r.len (drop r.place buffer))
    → Puts at (header_field t k) out one d → Puts d (length_field form n) one two e → Puts e (take r.len (drop r.place buffer)) two last g → Puts at (optional_field t form (part_of buffer r)) out last g
unfolding optional_field part_of
optional_put t form k n at buffer r out one two last d e g ek en p q x =
    let b : List ℕ = take r.len (drop r.place buffer) in
    let z : header_field t k ++ length_field form n ++ b ≡ header_field t (form_bits form) ++ length_field form (length b) ++ b = rw (ek, en) in
    puts_is at _ _ out last g z (puts_then at (header_field t k ++ length_field form n) out two e (puts_then at (header_field t k) out one d p (length_field form n) two e q) b last g x)

-- ---- a row

-- the piece of what is reached
piece_is : (T rows buffer : List ℕ) (i : ℕ) (r : Row) → r ≡ row_at rows i → (from : Cursor) (z : Reached) → reach T r.member (state_of T from) ≡ some z → z.state.owner ≡ from.owner
    → piece_at T rows buffer (state_of T from) i ≡ some (record { piece = (given z (part_of buffer r)).piece; state = z.state })
unfolding piece_at taken_of here_of state_of
piece_is T rows buffer i r er from z e o = rw (← er, e, eq-eqb from.owner z.state.owner (sym o))

-- the tag of an optional member
pub may_tag : (T : List ℕ) (o least m : ℕ) (f : Option Wanted) → OptionalIn T o least m f → (x : Wanted) → f ≡ Some x → x.tag < 4294967296
may_tag T o least m f y x q = go (rw q at y)
  where
    go : OptionalIn T o least m (Some x) → x.tag < 4294967296
    go z = z.small

-- the length of a part that is right
part_length : (buffer : List ℕ) (r : Row) (w : Ty) (form : ℕ) → form ≡ part_form buffer r w → form ≡ 0 → (r.len ≡ length (part_of buffer r)) × (r.len ≤ length buffer)
unfolding part_of
part_length buffer r w form ef z =
    let h : r.place + r.len ≤ length buffer = part_fits buffer r w (sym ef ∙ z) in
    (part_whole buffer r.place r.len (omega arith), omega arith)

module _ (T : List ℕ) (old : Bool) (rows buffer : List ℕ) (i : ℕ) (r : Row) (er : r ≡ row_at rows i) where
  module _ (o k m : ℕ) (d : IsDue T o k m) where
    pub due_other : (r.member ≡ m → ⊥) → judged_row T old rows buffer (state_of T (due_at o k)) i ≡ stop 20 i
    due_other n = row_none T old rows buffer i r er (state_of T (due_at o k)) (found_other T o k m d r.member n)

    module _ (em : r.member ≡ m) where
      due_reached_lem : reach T r.member (state_of T (due_at o k)) ≡ some (due_reached T r.member (due_at o (k + 1)))
      due_reached_lem = rw em (found_due T o k m d)

      due_is : (judged : Bool) (form : ℕ) → form ≡ pick judged 0 (part_form buffer r (type_as old (member_ty T (trees T) r.member))) → form ≡ 0
          → RowIs T old rows buffer judged (due_at o k) i (due_at o (k + 1)) (required (required_in T (field T o 0) (k + 1 - 1)) (part_of buffer r))
      unfolding due_reached given state_of
      due_is judged form ef z = record {
        is = piece_is T rows buffer i r er (due_at o k) _ due_reached_lem refl;
        right = row_right T old rows buffer i r er (state_of T (due_at o k)) _ due_reached_lem judged form ef z;
        same = refl;
      }

      -- its part lies outside the buffer
      pub due_outside : (f : Bool) → f ≡ leb (r.place + r.len) (length buffer) → f ≡ false → judged_row T old rows buffer (state_of T (due_at o k)) i ≡ stop 20 i
      unfolding due_reached
      due_outside f ef q =
          row_refused T old rows buffer i r er (state_of T (due_at o k)) _ due_reached_lem false 20 (part_outside buffer r _ f ef q) (λ e. let z : ◌≡◌ {A = ℕ} 20 0 = e in absurd (omega arith))

      -- its part was judged before
      pub due_given : RowIs T old rows buffer true (due_at o k) i (due_at o (k + 1)) (required (required_in T (field T o 0) (k + 1 - 1)) (part_of buffer r))
      due_given = due_is true 0 refl refl

      module _ (t form : ℕ) (et : ty_of T t ≡ member_ty T (trees T) m) (ef : form ≡ part_form buffer r (type_as old (ty_of T t))) where
        due_form : form ≡ part_form buffer r (type_as old (member_ty T (trees T) r.member))
        due_form = ef ∙ ap (λ (x : Ty). part_form buffer r (type_as old x)) (et ∙ ap (member_ty T (trees T)) (sym em))

        pub due_wrong : (form ≡ 0 → ⊥) → judged_row T old rows buffer (state_of T (due_at o k)) i ≡ stop form i
        unfolding due_reached
        due_wrong n = row_refused T old rows buffer i r er (state_of T (due_at o k)) _ due_reached_lem false form due_form n

        pub due_right : form ≡ 0 → length buffer ≤ 65536 → (at : ℕ) → RowLaid T old rows buffer false (due_at o k) i at [] [] (due_at o (k + 1)) (at + r.len) false
        unfolding is_optional
        due_right z s at =
            let l = part_length buffer r _ form ef z in
            record {
              piece = required (required_in T (field T o 0) (k + 1 - 1)) (part_of buffer r);
              gives = due_is false form due_form z;
              puts = puts_is at _ _ [] [] (at + r.len) (sym (required_bytes _ _)) (puts_measured at (part_of buffer r) (at + r.len) (ap (λ (x : ℕ). at + x) l.0));
              flag = refl;
              few = omega (arith, l.1);
            }

      -- its part is seen to be right without a call
      pub due_quick : (t : ℕ) → m < members T → t ≡ member_type T m → (x : Bool) → (x ≡ true → 0 ≡ part_form buffer r (type_as old (ty_of T t))) → x ≡ true → length buffer ≤ 65536
          → (at end : ℕ) → ◌≡◌ {A = Result ℕ ℕ} (Ok (at + r.len)) (Ok end) → RowLaid T old rows buffer false (due_at o k) i at [] [] (due_at o (k + 1)) end false
      due_quick t h et x p q s at end e =
          let z : at + r.len ≡ end = cc in
          subst (λ (y : ℕ). RowLaid T old rows buffer false (due_at o k) i at [] [] (due_at o (k + 1)) y false) z (due_right t 0 (member_row T m (members T) t refl h et) (p q) refl s at)

  module _ (o least : ℕ) (f : Option Wanted) (y : OptionalIn T o least r.member f) where
    pub may_gone : f ≡ None → Gone T (may_at T o least) (row_at rows i).member
    may_gone q = rw (← er) (rw q at y)

  module _ (o least : ℕ) (f : Option Wanted) (w : OptionalIn T o least r.member f) (x : Wanted) (q : f ≡ Some x) where
    y : IsMay T o least r.member x.of x.tag
    y = rw q at w

    may_is : (judged : Bool) (form : ℕ) → form ≡ pick judged 0 (part_form buffer r (type_as old (member_ty T (trees T) r.member))) → form ≡ 0
        → RowIs T old rows buffer judged (may_at T o least) i (may_at T o (x.tag + 1)) (optional (tag T r.member) (form_of (member_ty T (trees T) r.member)) (part_of buffer r))
    unfolding may_reached may_member given state_of
    may_is judged form ef z = record {
      is = piece_is T rows buffer i r er (may_at T o least) _ y.reached refl;
      right = row_right T old rows buffer i r er (state_of T (may_at T o least)) _ y.reached judged form ef z;
      same = refl;
    }

    -- the bytes of its piece
    may_bytes : (shapes : List ℕ) → shapes ≡ shapes_of T → (g : ℕ) → g ≡ form_in shapes x.of
        → optional_field x.tag g (part_of buffer r) ≡ piece_bytes (optional (tag T r.member) (form_of (member_ty T (trees T) r.member)) (part_of buffer r))
    may_bytes shapes eo g eg =
        let b : g ≡ form_number (form_of (member_ty T (trees T) r.member)) = eg ∙ form_row T x.of shapes eo ∙ ap (λ (w : Ty). form_number (form_of w)) y.typed in
        rw (y.tagged, b) (sym (optional_bytes _ _ _))

    -- its part was judged before
    pub may_put : (shapes : List ℕ) → shapes ≡ shapes_of T → (g : ℕ) → g ≡ form_in shapes x.of → (at : ℕ) (out last : List ℕ) (end : ℕ) → end ≤ at + 66000
        → Puts at (optional_field x.tag g (part_of buffer r)) out last end → RowLaid T old rows buffer true (may_at T o least) i at out last (may_at T o (x.tag + 1)) end true
    unfolding is_optional
    may_put shapes eo g eg at out last end few p = record {
      piece = optional (tag T r.member) (form_of (member_ty T (trees T) r.member)) (part_of buffer r);
      gives = may_is true 0 refl refl;
      puts = puts_is at _ _ out last end (may_bytes shapes eo g eg) p;
      flag = refl;
      few = few;
    }

    module _ (form : ℕ) (ef : form ≡ part_form buffer r (type_as old (ty_of T x.of))) where
      may_form : form ≡ part_form buffer r (type_as old (member_ty T (trees T) r.member))
      may_form = ef ∙ ap (λ (w : Ty). part_form buffer r (type_as old w)) y.typed

      pub may_wrong : (form ≡ 0 → ⊥) → judged_row T old rows buffer (state_of T (may_at T o least)) i ≡ stop form i
      unfolding may_reached may_member
      may_wrong n = row_refused T old rows buffer i r er (state_of T (may_at T o least)) _ y.reached false form may_form n

      pub may_right : form ≡ 0 → length buffer ≤ 65536 → (shapes : List ℕ) → shapes ≡ shapes_of T → (g : ℕ) → g ≡ form_in shapes x.of
          → (at h k : ℕ) → h ≡ length (header_field x.tag 0) → h ≤ 6 → k ≡ length (length_field g r.len) → k ≤ 5
          → RowLaid T old rows buffer false (may_at T o least) i at [] [] (may_at T o (x.tag + 1)) (at + h + k + r.len) true
      unfolding is_optional optional_field
      may_right z s shapes eo g eg at h k eh hh ek hk =
          let l = part_length buffer r _ form ef z in
          let e : length_field g r.len ≡ length_field g (length (part_of buffer r)) = ap (length_field g) l.0 in
          let a = length-append (header_field x.tag (form_bits g)) (length_field g (length (part_of buffer r))) in
          let b = length-append (header_field x.tag (form_bits g) ++ length_field g (length (part_of buffer r))) (part_of buffer r) in
          record {
            piece = optional (tag T r.member) (form_of (member_ty T (trees T) r.member)) (part_of buffer r);
            gives = may_is false form may_form z;
            puts = puts_is at _ _ [] [] (at + h + k + r.len) (may_bytes shapes eo g eg)
                (puts_measured at (optional_field x.tag g (part_of buffer r)) (at + h + k + r.len)
                (omega (arith, eh, ek, header_length x.tag (form_bits g), ap length e, l.0, a, b)));
            flag = refl;
            few = omega (arith, l.1);
          }

-- a part that is right is short
pub part_small : (buffer : List ℕ) (r : Row) (w : Ty) (form : ℕ) → form ≡ part_form buffer r w → form ≡ 0 → length buffer ≤ 65536 → r.len ≤ 65536
part_small buffer r w form ef z s = omega (arith, (part_length buffer r w form ef z).1)
