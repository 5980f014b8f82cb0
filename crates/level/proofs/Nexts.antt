-- The next optional: its header, then a known value in its declared bytes or a skipped one. Assumes nothing.
--
--   head_fits, lost_fits        a header lies within the bytes at hand
--   next_wrong                  the header is refused
--   known_.., next_known        a known value after the header, or its refusal
--   skipped_.., next_skipped    a skipped one, or its refusal
use mathlib.Core.Path.{◌≡◌, refl, sym, ap, ap₂, ◌∙◌}
use mathlib.Core.Option.{Option, none, some}
use mathlib.Core.List.{List}
use Prim.Native.Nat.{ℕ, suc, ◌+◌, ◌-◌, ◌≤◌}
use native.Mathlib.Omega.{arith}
use mir.Syntax.{w64}
use mir.Val.{Fits}
use lib.ListN.{length, take, drop, length-drop}
use Rattle.encoding.specs.Result.{Res, ok, bad, shift, after, ◌>>=◌, made, mapc, bytes, inside}
use Rattle.encoding.proofs.ResultLaws.{held_took, held_refused}
use Rattle.encoding.specs.Types.{Bits, bits, bits_at, Form, form_of, Ty}
use Rattle.encoding.proofs.TypesLaws.{bits_back}
use Rattle.encoding.specs.Value.{value}
use Rattle.encoding.specs.Table.{ty_of, Member, lookup}
use Rattle.encoding.specs.Optional.{optional, skipped, Header, header, extent, part, content, next_optional}
use Rattle.encoding.proofs.OptionalLaws.{held_header, held_extent}
use Rattle.shapes.specs.Shapes.{shapes_of, form_in}
use Rattle.table.specs.Tags.{optional_from}
use Rattle.std.specs.Prelude.{Result, Ok, Err}
use Rattle.wire.specs.declared.Counted.{Counted}
use Rattle.wire.specs.declared.Refusal.{Refusal}
use Rattle.wire.specs.Steps.{bytes_of, behind}
use Rattle.wire.specs.StepLaws.{rest_is, bytes_is, bytes_isnt}
use Rattle.optional.specs.declared.Head.{Head}
use Rattle.optional.specs.declared.Head.TheVariants.{Known as Knows, Unknown as Unknows}
use Rattle.optional.specs.Forms.{form_named}
use Rattle.optional.specs.Answers.{type_row, head_for, head_of}
use Rattle.optional.proofs.Lookups.{row_form, row_type, optional_of}
use Rattle.level.specs.declared.Optional.TheVariants.{Known, Skipped}
use Rattle.level.specs.Answers.{row_or, piece_answer, optional_answer}
use Rattle.level.proofs.Parts.{used_within, used_placed, used_sum}

-- ---- what a header's answer says

record HeadKnown (T : List ℕ) (end from least : ℕ) (s : List ℕ) (row ty tag n g : ℕ) : Type 0 where
  head : Header
  member : Member
  is : header (optional_from T end from) least s ≡ ok head n
  there : lookup head.tag (optional_from T end from) ≡ some member
  row_is : member.row ≡ row
  tag_is : head.tag ≡ tag
  type : ty_of T ty ≡ member.ty
  form_is : g ≡ form_in (shapes_of T) ty

record HeadLost (T : List ℕ) (end from least : ℕ) (s : List ℕ) (tag k n : ℕ) : Type 0 where
  head : Header
  is : header (optional_from T end from) least s ≡ ok head n
  there : lookup head.tag (optional_from T end from) ≡ none
  tag_is : head.tag ≡ tag
  bits_is : bits head.type ≡ k

module _ (T : List ℕ) (end from least : ℕ) (s : List ℕ) (r : Result Head Refusal) (e : r ≡ head_of T (optional_from T end from) (header (optional_from T end from) least s)) where
  module _ (h : Head) (eh : r ≡ Ok h) where
    head_known : (row ty tag n g : ℕ) → h ≡ Knows row ty tag n g → HeadKnown T end from least s row ty tag n g
    unfolding head_of head_for
    head_known row ty tag n g q = go (header (optional_from T end from) least s) refl (sym eh ∙ e)
      where
        by_member : (x : Header) (l : ℕ) → header (optional_from T end from) least s ≡ ok x l → (o : Option Member) → lookup x.tag (optional_from T end from) ≡ o
            → Knows row ty tag n g ≡ head_for T o x l → HeadKnown T end from least s row ty tag n g
        by_member x l f none y z = let w : ◌≡◌ {A = ℕ} 0 1 = cc in absurd (omega arith)
        by_member x l f (some m) y z =
            let el : l ≡ n = cc in
            let ey : ty ≡ type_row T m.row = cc in
            record {
              head = x;
              member = m;
              is = f ∙ ap (ok x) el;
              there = y;
              row_is = cc;
              tag_is = cc;
              type = row_type T m.row ty ey ∙ sym (optional_of T end from x.tag m y);
              form_is = cc;
            }

        go : (x : Res Header) → header (optional_from T end from) least s ≡ x → Ok h ≡ head_of T (optional_from T end from) x → HeadKnown T end from least s row ty tag n g
        go (ok x l) f z = let w : Knows row ty tag n g ≡ head_for T (lookup x.tag (optional_from T end from)) x l = cc in by_member x l f (lookup x.tag (optional_from T end from)) refl w
        go (bad c p) f z = let w : ◌≡◌ {A = ℕ} 0 1 = cc in absurd (omega arith)

    head_lost : (tag k n : ℕ) → h ≡ Unknows tag k n → HeadLost T end from least s tag k n
    unfolding head_of head_for
    head_lost tag k n q = go (header (optional_from T end from) least s) refl (sym eh ∙ e)
      where
        by_member : (x : Header) (l : ℕ) → header (optional_from T end from) least s ≡ ok x l → (o : Option Member) → lookup x.tag (optional_from T end from) ≡ o
            → Unknows tag k n ≡ head_for T o x l → HeadLost T end from least s tag k n
        by_member x l f none g z = let el : l ≡ n = cc in record { head = x; is = f ∙ ap (ok x) el; there = g; tag_is = cc; bits_is = cc }
        by_member x l f (some m) g z = let w : ◌≡◌ {A = ℕ} 0 1 = cc in absurd (omega arith)

        go : (x : Res Header) → header (optional_from T end from) least s ≡ x → Ok h ≡ head_of T (optional_from T end from) x → HeadLost T end from least s tag k n
        go (ok x l) f z = let w : Unknows tag k n ≡ head_for T (lookup x.tag (optional_from T end from)) x l = cc in by_member x l f (lookup x.tag (optional_from T end from)) refl w
        go (bad c p) f z = let w : ◌≡◌ {A = ℕ} 0 1 = cc in absurd (omega arith)

    pub head_fits : (row ty tag n g : ℕ) → h ≡ Knows row ty tag n g → n ≤ length s
    head_fits row ty tag n g q = held_took (header (optional_from T end from) least) (held_header (optional_from T end from) least) s (head_known row ty tag n g q).is

    pub lost_fits : (tag k n : ℕ) → h ≡ Unknows tag k n → n ≤ length s
    lost_fits tag k n q = held_took (header (optional_from T end from) least) (held_header (optional_from T end from) least) s (head_lost tag k n q).is

  pub next_wrong : (x : Refusal) → r ≡ Err x → Err x ≡ optional_answer (optional_from T end from) (next_optional (optional_from T end from) least s)
  unfolding head_of next_optional ◌>>=◌ after optional_answer
  next_wrong x q = go (header (optional_from T end from) least s) refl (sym q ∙ e)
    where
      go : (y : Res Header) → header (optional_from T end from) least s ≡ y → Err x ≡ head_of T (optional_from T end from) y
          → Err x ≡ optional_answer (optional_from T end from) (next_optional (optional_from T end from) least s)
      go (ok y l) f z = let w : ◌≡◌ {A = ℕ} 0 1 = cc in absurd (omega arith)
      go (bad d y) f z = let w : x ≡ record { number = d; place = y } = cc in rw (w, f)

  -- what a header gives, and what follows it
  module _ (h : Head) (eh : r ≡ Ok h) where
    -- ---- a known value

    module _ (row ty tag n g : ℕ) (q : h ≡ Knows row ty tag n g) (p : Result Counted Refusal) (ep : p ≡ bytes_of (inside (part (form_named g)) (bytes (value (ty_of T ty))) (take (length s - n) (drop n s)))) where
      -- the part, as the definition has it
      known_part : (K : HeadKnown T end from least s row ty tag n g) → p ≡ bytes_of (inside (part (form_of K.member.ty)) (bytes (value K.member.ty)) (drop n s))
      known_part K =
          let f : form_named g ≡ form_of K.member.ty = row_form T (shapes_of T) ty g refl K.form_is ∙ ap form_of K.type in
          ep ∙ ap₂ (λ (a : Form) (b : Ty). bytes_of (inside (part a) (bytes (value b)) (take (length s - n) (drop n s)))) f K.type
          ∙ ap (λ (l : List ℕ). bytes_of (inside (part (form_of K.member.ty)) (bytes (value K.member.ty)) l)) (rest_is s n)

      known_is : (K : HeadKnown T end from least s row ty tag n g) → next_optional (optional_from T end from) least s
          ≡ shift n (made (λ x _. (x, suc K.head.tag)) (made (λ b _. optional K.head.tag (form_of K.member.ty) b) (inside (part (form_of K.member.ty)) (bytes (value K.member.ty)) (drop n s))))
      unfolding next_optional ◌>>=◌ after mapc content
      known_is K = rw (K.is, K.there)

      module _ (x : Counted) (z : p ≡ Ok x) where
        -- the value, and what its header and declared bytes take
        known_read : (K : HeadKnown T end from least s row ty tag n g)
            → (d : List ℕ) × (inside (part (form_of K.member.ty)) (bytes (value K.member.ty)) (drop n s) ≡ ok d x.bytes) × (x.number ≡ length d)
        known_read K = bytes_is (inside (part (form_of K.member.ty)) (bytes (value K.member.ty)) (drop n s)) x (sym z ∙ known_part K)

        known_sum : (K : HeadKnown T end from least s row ty tag n g) → x.number ≤ x.bytes
        known_sum K = let D = known_read K in omega (arith, D.2, used_sum (form_of K.member.ty) K.member.ty (drop n s) D.0 x.bytes D.1)

        pub known_start : x.number ≤ x.bytes
        known_start = known_sum (head_known h eh row ty tag n g q)

        pub known_end : Fits w64 (length s) → Fits w64 (n + x.bytes)
        known_end f = go (head_known h eh row ty tag n g q)
          where
            go : HeadKnown T end from least s row ty tag n g → Fits w64 (n + x.bytes)
            go K =
                let D = known_read K in
                omega (arith, used_within (form_of K.member.ty) K.member.ty (drop n s) D.0 x.bytes D.1, length-drop n s, head_fits h eh row ty tag n g q)

        pub known_from : Fits w64 (length s) → Fits w64 (n + (x.bytes - x.number))
        known_from f = omega (arith, known_end f)

        pub next_known : Ok (Known row tag (n + (x.bytes - x.number)) (n + x.bytes)) ≡ optional_answer (optional_from T end from) (next_optional (optional_from T end from) least s)
        unfolding shift made optional_answer piece_answer row_or
        next_known = go (head_known h eh row ty tag n g q)
          where
            go : HeadKnown T end from least s row ty tag n g → Ok (Known row tag (n + (x.bytes - x.number)) (n + x.bytes)) ≡ optional_answer (optional_from T end from) (next_optional (optional_from T end from) least s)
            go K = more (known_read K)
              where
                more : (d : List ℕ) × (inside (part (form_of K.member.ty)) (bytes (value K.member.ty)) (drop n s) ≡ ok d x.bytes) × (x.number ≡ length d)
                    → Ok (Known row tag (n + (x.bytes - x.number)) (n + x.bytes)) ≡ optional_answer (optional_from T end from) (next_optional (optional_from T end from) least s)
                more D =
                    let w : n + x.bytes - length D.0 ≡ n + (x.bytes - x.number) = omega (arith, D.2, known_sum K) in
                    sym (ap (optional_answer (optional_from T end from)) (known_is K) ∙ rw (D.1, K.there, K.row_is, K.tag_is, w))

      pub known_place : (y : Refusal) → p ≡ Err y → Fits w64 (length s) → Fits w64 (n + y.place)
      known_place y z l = go (head_known h eh row ty tag n g q)
        where
          go : HeadKnown T end from least s row ty tag n g → Fits w64 (n + y.place)
          go K =
              let D = bytes_isnt (inside (part (form_of K.member.ty)) (bytes (value K.member.ty)) (drop n s)) y (sym z ∙ known_part K) in
              omega (arith, used_placed (form_of K.member.ty) K.member.ty (drop n s) y.number y.place D, length-drop n s, head_fits h eh row ty tag n g q)

      pub next_refused : (y : Refusal) → p ≡ Err y → Err (behind n y) ≡ optional_answer (optional_from T end from) (next_optional (optional_from T end from) least s)
      unfolding shift made optional_answer
      next_refused y z = go (head_known h eh row ty tag n g q)
        where
          go : HeadKnown T end from least s row ty tag n g → Err (behind n y) ≡ optional_answer (optional_from T end from) (next_optional (optional_from T end from) least s)
          go K =
              sym (ap (optional_answer (optional_from T end from)) (known_is K)
              ∙ rw (bytes_isnt (inside (part (form_of K.member.ty)) (bytes (value K.member.ty)) (drop n s)) y (sym z ∙ known_part K)))

    -- ---- a skipped one

    module _ (tag k n : ℕ) (q : h ≡ Unknows tag k n) (p : Result Counted Refusal) (ep : p ≡ bytes_of (extent (bits_at k) (take (length s - n) (drop n s)))) where
      skipped_part : (L : HeadLost T end from least s tag k n) → p ≡ bytes_of (extent L.head.type (drop n s))
      skipped_part L =
          ep ∙ ap (λ (l : List ℕ). bytes_of (extent (bits_at k) l)) (rest_is s n)
          ∙ ap (λ (b : Bits). bytes_of (extent b (drop n s))) (ap bits_at (sym L.bits_is) ∙ bits_back L.head.type)

      skipped_is : (L : HeadLost T end from least s tag k n) → next_optional (optional_from T end from) least s
          ≡ shift n (made (λ x _. (x, suc L.head.tag)) (made (λ b _. skipped L.head.tag L.head.type b) (bytes (extent L.head.type) (drop n s))))
      unfolding next_optional ◌>>=◌ after mapc content
      skipped_is L = rw (L.is, L.there)

      pub skipped_end : (x : Counted) → p ≡ Ok x → Fits w64 (length s) → Fits w64 (n + x.bytes)
      skipped_end x z f = go (head_lost h eh tag k n q)
        where
          go : HeadLost T end from least s tag k n → Fits w64 (n + x.bytes)
          go L =
              let D = bytes_is (extent L.head.type (drop n s)) x (sym z ∙ skipped_part L) in
              omega (arith, held_took (extent L.head.type) (held_extent L.head.type) (drop n s) D.1, length-drop n s, lost_fits h eh tag k n q)

      pub skipped_place : (y : Refusal) → p ≡ Err y → Fits w64 (length s) → Fits w64 (n + y.place)
      skipped_place y z l = go (head_lost h eh tag k n q)
        where
          go : HeadLost T end from least s tag k n → Fits w64 (n + y.place)
          go L =
              let D = bytes_isnt (extent L.head.type (drop n s)) y (sym z ∙ skipped_part L) in
              omega (arith, held_refused (extent L.head.type) (held_extent L.head.type) (drop n s) D, length-drop n s, lost_fits h eh tag k n q)

      pub next_skipped : (x : Counted) → p ≡ Ok x → Ok (Skipped tag (n + x.bytes)) ≡ optional_answer (optional_from T end from) (next_optional (optional_from T end from) least s)
      unfolding shift made bytes optional_answer piece_answer
      next_skipped x z = go (head_lost h eh tag k n q)
        where
          go : HeadLost T end from least s tag k n → Ok (Skipped tag (n + x.bytes)) ≡ optional_answer (optional_from T end from) (next_optional (optional_from T end from) least s)
          go L = more (bytes_is (extent L.head.type (drop n s)) x (sym z ∙ skipped_part L))
            where
              more : (d : List ℕ) × (extent L.head.type (drop n s) ≡ ok d x.bytes) × (x.number ≡ length d) → Ok (Skipped tag (n + x.bytes)) ≡ optional_answer (optional_from T end from) (next_optional (optional_from T end from) least s)
              more D = sym (ap (optional_answer (optional_from T end from)) (skipped_is L) ∙ rw (D.1, L.tag_is))

      pub next_cut : (y : Refusal) → p ≡ Err y → Err (behind n y) ≡ optional_answer (optional_from T end from) (next_optional (optional_from T end from) least s)
      unfolding shift made bytes optional_answer
      next_cut y z = go (head_lost h eh tag k n q)
        where
          go : HeadLost T end from least s tag k n → Err (behind n y) ≡ optional_answer (optional_from T end from) (next_optional (optional_from T end from) least s)
          go L =
              sym (ap (optional_answer (optional_from T end from)) (skipped_is L)
              ∙ rw (bytes_isnt (extent L.head.type (drop n s)) y (sym z ∙ skipped_part L)))
