-- A known value, read in just its declared bytes. Assumes nothing.
--
--   part_start, part_within, part_end    the bytes that are delivered lie in those at hand
--   used_none                            the declared bytes are refused
--   used_all, used_less                  the value takes all of them, or fewer
--   used_wide                            it may be any bytes, and there are as many as its type has
--   used_text                            it is a string with its own size
--   used_bad, used_fits                  it is refused; its answer is counted with the bytes before it
--   used_within, used_placed, used_sum   bytes taken and places of the whole
use mathlib.Core.Path.{◌≡◌, refl, sym, ap, ◌∙◌}
use mathlib.Core.Bool.{Bool, true, false}
use mathlib.Core.List.{List}
use Prim.Native.Nat.{ℕ, ◌+◌, ◌-◌, ◌^◌, ◌≤◌, ◌<◌}
use native.Mathlib.Omega.{arith}
use lib.ListN.{length, take, drop}
use lib.Seq.{take-length, length-take-le}
use lib.Dec.{eqb}
use borrow.Author.Tests.{eq-eqb, ne_eqb}
use Rattle.encoding.specs.Result.{Res, ok, bad, pick, judged, must, made, mapc, bytes, leave, enter, inside}
use Rattle.encoding.proofs.ResultLaws.{framed_part, inside_ok, bytes_ok, held_took, held_refused, held_bytes, held_inside}
use Rattle.encoding.specs.Number.{Content, string}
use Rattle.encoding.specs.Proxy.{text}
use Rattle.encoding.specs.Types.{Ty, Form, own, vsize}
use Rattle.encoding.specs.Value.{value}
use Rattle.encoding.proofs.ValueLaws.{held_value}
use Rattle.encoding.specs.Table.{ty_of}
use Rattle.encoding.specs.Optional.{extent, part}
use Rattle.encoding.proofs.OptionalLaws.{framed_extent, held_extent, held_part, ends_part}
use Rattle.std.specs.Prelude.{Result, Ok, Err}
use Rattle.wire.specs.declared.Counted.{Counted}
use Rattle.wire.specs.declared.Refusal.{Refusal}
use Rattle.wire.specs.Steps.{step_of, bytes_of, refused, behind, later, LaterFits}
use Rattle.wire.specs.StepLaws.{step_took, step_fault, bytes_is, bytes_isnt}
use Rattle.shapes.specs.Shapes.{shapes_of, width_in, is_text_in}
use Rattle.shapes.specs.ShapesLaws.{text_row}
use Rattle.value.proofs.CycleLaws.{row_wide}
use Rattle.optional.specs.Forms.{form_named}
use Rattle.optional.specs.Answers.{whole_of}

-- what an answer says of a part: the bytes that it delivers, and where they are
record Delivered (f : Form) (s : List ℕ) (n e : ℕ) : Type 0 where
  bytes : List ℕ
  is : part f s ≡ ok bytes e
  start : n ≤ e
  end : e ≤ length s
  size : length bytes ≡ n
  there : take (e - (e - n)) (drop (e - n) s) ≡ bytes

delivered : (f : Form) (s : List ℕ) (p : Result Counted Refusal) → p ≡ bytes_of (part f s) → (x : Counted) → p ≡ Ok x → Delivered f s x.number x.bytes
delivered f s p ep x q = go (bytes_is (part f s) x (sym q ∙ ep))
  where
    go : (d : List ℕ) × (part f s ≡ ok d x.bytes) × (x.number ≡ length d) → Delivered f s x.number x.bytes
    go D =
        let E = ends_part f s D.0 x.bytes D.1 in
        let l : x.bytes - (x.bytes - x.number) ≡ length D.0 = omega (arith, E.within, D.2) in
        record {
          bytes = D.0;
          is = D.1;
          start = omega (arith, E.within, D.2);
          end = held_took (part f) (held_part f) s D.1;
          size = sym D.2;
          there = ap (λ (i : ℕ). take i (drop (x.bytes - x.number) s)) l ∙ ap (λ (i : ℕ). take (length D.0) (drop (x.bytes - i) s)) D.2 ∙ E.there;
        }

module _ (f : Form) (s : List ℕ) (p : Result Counted Refusal) (ep : p ≡ bytes_of (part f s)) where
  pub used_none : (ty : Ty) (y : Refusal) → p ≡ Err y → Err y ≡ bytes_of (inside (part f) (bytes (value ty)) s)
  unfolding inside enter bytes_of
  used_none ty y h = rw (bytes_isnt (part f s) y (sym h ∙ ep))

  module _ (x : Counted) (h : p ≡ Ok x) where
    pub part_start : x.number ≤ x.bytes
    part_start = (delivered f s p ep x h).start

    pub part_within : x.bytes - x.number ≤ x.bytes
    part_within = omega (arith, part_start)

    pub part_end : x.bytes ≤ length s
    part_end = (delivered f s p ep x h).end

    module _ (ty : Ty) (r : Result ℕ Refusal) (er : r ≡ step_of (value ty (take (x.bytes - (x.bytes - x.number)) (drop (x.bytes - x.number) s)))) where
      answer : (D : Delivered f s x.number x.bytes) → r ≡ step_of (value ty D.bytes)
      answer D = er ∙ ap (λ (l : List ℕ). step_of (value ty l)) D.there

      -- what the value's own result makes of the whole
      inside_is : (D : Delivered f s x.number x.bytes) → inside (part f) (bytes (value ty)) s ≡ leave (length D.bytes) x.bytes (bytes (value ty) D.bytes)
      unfolding inside enter
      inside_is D = rw D.is

      taken_all : (m : ℕ) → r ≡ Ok m → m ≡ x.number → Ok x ≡ bytes_of (inside (part f) (bytes (value ty)) s)
      unfolding bytes made leave bytes_of
      taken_all m q y = go (delivered f s p ep x h)
        where
          go : Delivered f s x.number x.bytes → Ok x ≡ bytes_of (inside (part f) (bytes (value ty)) s)
          go D =
              let v = (step_took (value ty D.bytes) m (sym q ∙ answer D)).1 in
              let l : m ≡ length D.bytes = y ∙ sym D.size in
              let w : length (take m D.bytes) ≡ x.number = length-take-le m D.bytes (omega arith) ∙ y in
              sym (ap bytes_of (inside_is D) ∙ rw (v, eq-eqb m (length D.bytes) l, w))

      taken_less : (m : ℕ) → r ≡ Ok m → (m ≡ x.number → ⊥) → refused 11 0 ≡ bytes_of (inside (part f) (bytes (value ty)) s)
      unfolding bytes made leave bytes_of
      taken_less m q y = go (delivered f s p ep x h)
        where
          go : Delivered f s x.number x.bytes → refused 11 0 ≡ bytes_of (inside (part f) (bytes (value ty)) s)
          go D =
              let v = (step_took (value ty D.bytes) m (sym q ∙ answer D)).1 in
              sym (ap bytes_of (inside_is D) ∙ rw (v, ne_eqb m (length D.bytes) (λ i. y (i ∙ D.size))))

      wrong_there : (y : Refusal) → r ≡ Err y → Err (behind (x.bytes - x.number) y) ≡ bytes_of (inside (part f) (bytes (value ty)) s)
      unfolding bytes made leave bytes_of
      wrong_there y q = go (delivered f s p ep x h)
        where
          go : Delivered f s x.number x.bytes → Err (behind (x.bytes - x.number) y) ≡ bytes_of (inside (part f) (bytes (value ty)) s)
          go D = sym (ap bytes_of (inside_is D) ∙ rw (step_fault (value ty D.bytes) y (sym q ∙ answer D), D.size))

      pub used_fits : length s < 2 ^ 64 → LaterFits (x.bytes - x.number) r
      used_fits l = go (delivered f s p ep x h)
        where
          go : Delivered f s x.number x.bytes → LaterFits (x.bytes - x.number) r
          go D = fits r (answer D)
            where
              fits : (a : Result ℕ Refusal) → a ≡ step_of (value ty D.bytes) → LaterFits (x.bytes - x.number) a
              fits (Ok m) g = omega (arith, D.size, D.start, D.end, held_took (value ty) (held_value ty) D.bytes (step_took (value ty D.bytes) m g).1)
              fits (Err y) g = omega (arith, D.size, D.start, D.end, held_refused (value ty) (held_value ty) D.bytes (step_fault (value ty D.bytes) y g))

      -- the value's answer, counted with the bytes before it
      module _ (a : Result ℕ Refusal) (ea : a ≡ later (x.bytes - x.number) r) where
        pub used_all : (m : ℕ) → a ≡ Ok m → m ≡ x.bytes → Ok x ≡ bytes_of (inside (part f) (bytes (value ty)) s)
        used_all m q y = go r refl
          where
            go : (b : Result ℕ Refusal) → r ≡ b → Ok x ≡ bytes_of (inside (part f) (bytes (value ty)) s)
            go (Ok k) g =
                let w = ap (later (x.bytes - x.number)) g in
                let z : m ≡ x.bytes - x.number + k = cc in
                taken_all k g (omega (arith, part_start))
            go (Err u) g =
                let w = ap (later (x.bytes - x.number)) g in
                let z : ◌≡◌ {A = ℕ} 0 1 = cc in
                absurd (omega arith)

        pub used_less : (m : ℕ) → a ≡ Ok m → (m ≡ x.bytes → ⊥) → refused 11 0 ≡ bytes_of (inside (part f) (bytes (value ty)) s)
        used_less m q y = go r refl
          where
            go : (b : Result ℕ Refusal) → r ≡ b → refused 11 0 ≡ bytes_of (inside (part f) (bytes (value ty)) s)
            go (Ok k) g =
                let w = ap (later (x.bytes - x.number)) g in
                let z : m ≡ x.bytes - x.number + k = cc in
                taken_less k g (λ i. y (omega (arith, part_start)))
            go (Err u) g =
                let w = ap (later (x.bytes - x.number)) g in
                let z : ◌≡◌ {A = ℕ} 0 1 = cc in
                absurd (omega arith)

        pub used_bad : (y : Refusal) → a ≡ Err y → Err y ≡ bytes_of (inside (part f) (bytes (value ty)) s)
        used_bad y q = go r refl
          where
            go : (b : Result ℕ Refusal) → r ≡ b → Err y ≡ bytes_of (inside (part f) (bytes (value ty)) s)
            go (Ok k) g =
                let w = ap (later (x.bytes - x.number)) g in
                let z : ◌≡◌ {A = ℕ} 0 1 = cc in
                absurd (omega arith)
            go (Err u) g =
                let w = ap (later (x.bytes - x.number)) g in
                let z : y ≡ behind (x.bytes - x.number) u = cc in
                rw z (wrong_there u g)

-- a value that may be any bytes, as many as there are
pub used_wide : (f : Form) (s : List ℕ) (p : Result Counted Refusal) → p ≡ bytes_of (part f s) → (x : Counted) → p ≡ Ok x → (T shapes : List ℕ) → shapes ≡ shapes_of T → (t w : ℕ) → w ≡ width_in shapes t
    → 0 < w → w ≡ x.number → Ok x ≡ bytes_of (inside (part f) (bytes (value (ty_of T t))) s)
used_wide f s p ep x h T shapes ef t w ew l q =
    let D = delivered f s p ep x h in
    taken_all f s p ep x h (ty_of T t) (Ok w)
    (row_wide false T shapes ef t (take (x.bytes - (x.bytes - x.number)) (drop (x.bytes - x.number) s)) w ew l (omega (arith, ap length D.there, D.size))) w refl q

-- ---- a string with its own size: the declared bytes are the string, whatever strings may hold

own_string : (s : List ℕ) → whole_of (bytes_of (string s)) ≡ bytes_of (inside (part own) (bytes text) s)
unfolding part extent string text must mapc inside enter bytes judged made leave bytes_of whole_of
own_string s = go (extent vsize s) refl
  where
    -- by the judgement of its content
    judge : (d : List ℕ) (e : ℕ) → e ≤ length s → (t : Bool) → whole_of (bytes_of (pick t (ok d e) (bad (Content d) 0)))
        ≡ bytes_of (leave (length (take e s)) e (made (λ _ n. take n (take e s)) (made {B = Unit {0}} (λ _ _. tt) (pick t (ok d e) (bad (Content d) 0)))))
    judge d e l true =
        let n = length-take-le e s l in
        let m = length-take-le e (take e s) (omega arith) in
        rw (eq-eqb e (length (take e s)) (sym n), m)
    judge d e l false = let z : e - length (take e s) + 0 ≡ 0 = omega (arith, length-take-le e s l) in rw z

    go : (r : Res (List ℕ)) → extent vsize s ≡ r → whole_of (bytes_of (judged Content r)) ≡ bytes_of (enter (bytes text) (made (λ _ n. take n s) r))
    go (ok d e) h =
        judge d e (held_took (extent vsize) (held_extent vsize) s h) (eqb (Content d) 0)
        ∙ ap (λ (x : Res (List ℕ)). bytes_of (leave (length (take e s)) e (made (λ _ n. take n (take e s)) (made {B = Unit {0}} (λ _ _. tt) (judged Content x)))))
        (sym (framed_part (extent vsize) (framed_extent vsize) s h))
    go (bad c p) h = refl

pub used_text : (f : ℕ) (s : List ℕ) (z : Result Counted Refusal) → z ≡ bytes_of (string s) → (r : Result Counted Refusal) → r ≡ whole_of z → f ≡ 8
    → (T shapes : List ℕ) → shapes ≡ shapes_of T → (t : ℕ) (b : Bool) → b ≡ is_text_in shapes t → b ≡ true
    → r ≡ bytes_of (inside (part (form_named f)) (bytes (value (ty_of T t))) s)
unfolding form_named value
used_text f s z ez r er y T shapes ef t b eb q = rw (y, text_row T t shapes ef (sym eb ∙ q)) (er ∙ ap whole_of ez ∙ own_string s)

-- ---- the whole

module _ (f : Form) (ty : Ty) (xs : List ℕ) where
  pub used_within : (b : List ℕ) (e : ℕ) → inside (part f) (bytes (value ty)) xs ≡ ok b e → e ≤ length xs
  used_within b e h = held_took (inside (part f) (bytes (value ty))) (held_inside (part f) (bytes (value ty)) (held_part f) (ends_part f) (held_bytes (value ty) (held_value ty))) xs h

  pub used_placed : (c k : ℕ) → inside (part f) (bytes (value ty)) xs ≡ bad c k → k ≤ length xs
  used_placed c k h = held_refused (inside (part f) (bytes (value ty))) (held_inside (part f) (bytes (value ty)) (held_part f) (ends_part f) (held_bytes (value ty) (held_value ty))) xs h

  -- the value is no longer than what was taken
  pub used_sum : (b : List ℕ) (e : ℕ) → inside (part f) (bytes (value ty)) xs ≡ ok b e → length b ≤ e
  used_sum b e h =
      let E = inside_ok (part f) (bytes (value ty)) xs h in
      let I = bytes_ok (value ty) E.part E.inner in
      let same : b ≡ E.part = I.2 ∙ take-length E.part in
      omega (arith, (ends_part f xs E.part e E.outer).within, ap length same)
