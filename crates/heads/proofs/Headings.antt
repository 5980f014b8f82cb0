-- Flags and type ID, a case for each way out of the code. Assumes nothing.
--
--   mixed_.., due_.., flags_..   the judgements of flags
--   id_..                        a type ID, due or not: its cases, and that it lies within the bytes at hand
--   seek_.., follow_..           the meaning of an ID before the first known slice, and after a known one
--   heading_..                   both, by the stage of the walk
--   head_..                      the cases of a head
use mathlib.Core.Path.{◌≡◌, refl, sym, ap, ◌∙◌}
use mathlib.Core.Logic.{◌⊎◌, ⊎_elim}
use mathlib.Core.Bool.{Bool, true, false, ◌&&◌, ◌||◌, not, beq}
use mathlib.Core.Option.{Option, none, some}
use mathlib.Core.List.{List, [], ◌∷◌}
use Prim.Native.Nat.{ℕ, zero, suc, ◌+◌, ◌-◌, ◌%◌, ◌^◌, ◌≤◌, ◌<◌}
use native.Mathlib.Numerals.{sub-one}
use native.Mathlib.Omega.{arith}
use lib.ListN.{length, take, drop, length-drop}
use lib.Seq.{drop-drop}
use lib.Dec.{eqb, ltb}
use denote.Enum.Declared.{tag_of}
use mir.Syntax.{w64}
use mir.Val.{Fits}
use borrow.Author.Tests.{le-leb, lt-leb, lt-ltb, le-ltb, ne_eqb}
use Rattle.encoding.specs.Result.{Res, ok, bad, pick, shift, after, ◌>>=◌, pure, chunk, judged, must, made, mapc, first_of, same_bytes}
use Rattle.encoding.proofs.ResultLaws.{first_of_ok, must_ok, Held, held_took, held_refused, held_pure, held_pick, Ends, ends_chunk, ends_item, ends_bind}
use Rattle.encoding.specs.Number.{byte, number, Content, string}
use Rattle.encoding.proofs.NumberLaws.{held_string}
use Rattle.encoding.specs.Table.{at, any, chain, named, name_of, base}
use Rattle.encoding.specs.Slice.{compact, sliced, is_sliced, bit, format_of_flags, first, later, seek, follow, mixed, due, flag_form, Head, head, stand_of, Meaning, skip, row, wrong, wrong_last, known_meaning, seek_meaning, meaning, is_none, id_form, meaning_form}
use Rattle.encoding.specs.Slice
use Rattle.wire.specs.declared.Counted.{Counted}
use Rattle.std.specs.Prelude.{Result, Ok, Err, Some, None}
use Rattle.std.specs.Prelude.{Option as Answer}
use Rattle.wire.specs.declared.Refusal.{Refusal}
use Rattle.wire.specs.Steps.{refused, counted, behind, bytes_of}
use Rattle.wire.specs.StepLaws.{rest_is, bytes_is, bytes_isnt}
use Rattle.table.specs.Found.{found_of}
use Rattle.heads.specs.declared.Stage.{Stage}
use Rattle.heads.specs.declared.Stage.TheVariants.{First, Seeking, Following}
use Rattle.heads.specs.contracts.Stage.{the_type}
use Rattle.heads.specs.declared.Heading.{Heading}
use Rattle.heads.specs.declared.Heading.TheVariants.{Skip, Known}
use Rattle.heads.specs.Stages.{stage_of, id_text, head_of, meaning_answer, head_answer, seek_heading, follow_heading, heading}

-- ---- flags

-- the test by which the code knows a format
format_sliced : (b : Bool) → is_sliced (pick b sliced compact) ≡ b
format_sliced true = refl
format_sliced false = refl

module _ (stage : Stage) (f : ℕ) where
  pub mixed_first : stage ≡ First → false ≡ mixed (stand_of (stage_of stage)) f
  unfolding mixed stand_of stage_of
  mixed_first q = rw q

  module _ (size : Bool) (e : size ≡ bit f 16) where
    pub mixed_seeking : stage ≡ Seeking → not size ≡ mixed (stand_of (stage_of stage)) f
    unfolding mixed stand_of stage_of
    mixed_seeking q = rw (q, e) (go (bit f 16))
      where
        go : (b : Bool) → not b ≡ not (beq true b)
        go true = refl
        go false = refl

    pub mixed_following : (s : Bool) (b : ℕ) → stage ≡ Following s b → not (beq s size) ≡ mixed (stand_of (stage_of stage)) f
    unfolding mixed stand_of stage_of
    mixed_following s b q = rw (q, e, format_sliced s)

    pub due_seeking : stage ≡ Seeking → size ≡ due (stand_of (stage_of stage)) (format_of_flags f)
    unfolding due stand_of stage_of
    due_seeking q = rw (q, format_sliced (bit f 16)) e

    pub due_following : (s : Bool) (b : ℕ) → stage ≡ Following s b → size ≡ due (stand_of (stage_of stage)) (format_of_flags f)
    unfolding due stand_of stage_of
    due_following s b q = rw (q, format_sliced (bit f 16)) e

  pub due_first : stage ≡ First → true ≡ due (stand_of (stage_of stage)) (format_of_flags f)
  unfolding due stand_of stage_of
  due_first q = rw q

  module _ (u : Bool) (eu : u ≡ ltb 63 f) where
    pub flags_unused : u ≡ true → 14 ≡ flag_form (stand_of (stage_of stage)) f
    unfolding flag_form first_of
    flags_unused q = rw (sym eu ∙ q)

    module _ (nu : u ≡ false) (m : Bool) (em : m ≡ mixed (stand_of (stage_of stage)) f) where
      pub flags_mixed : m ≡ true → 14 ≡ flag_form (stand_of (stage_of stage)) f
      unfolding flag_form first_of
      flags_mixed q = rw (sym eu ∙ nu, sym em ∙ q)

      module _ (nm : m ≡ false) (i : ℕ) (ei : i ≡ f % 4) (d : Bool) (ed : d ≡ due (stand_of (stage_of stage)) (format_of_flags f)) where
        pub flags_id : beq d (eqb i 0) ≡ true → 14 ≡ flag_form (stand_of (stage_of stage)) f
        unfolding flag_form first_of
        flags_id q = let g : beq (due (stand_of (stage_of stage)) (format_of_flags f)) (eqb (f % 4) 0) ≡ true = rw (ed, ei) at q in rw (sym eu ∙ nu, sym em ∙ nm, g)

        module _ (nd : beq d (eqb i 0) ≡ false) (t : Bool) (et : t ≡ bit f 8) where
          gone : beq (due (stand_of (stage_of stage)) (format_of_flags f)) (eqb (f % 4) 0) ≡ false
          gone = rw (ed, ei) at nd

          pub flags_table : t ≡ true → 13 ≡ flag_form (stand_of (stage_of stage)) f
          unfolding flag_form first_of
          flags_table q = rw (sym eu ∙ nu, sym em ∙ nm, gone, sym et ∙ q)

          pub flags_form : t ≡ false → 1 < i → 13 ≡ flag_form (stand_of (stage_of stage)) f
          unfolding flag_form first_of
          flags_form q l = rw (sym eu ∙ nu, sym em ∙ nm, gone, sym et ∙ q, ← ei, lt-ltb 1 i l)

          pub flags_fine : t ≡ false → i ≤ 1 → 0 ≡ flag_form (stand_of (stage_of stage)) f
          unfolding flag_form first_of
          flags_fine q l = rw (sym eu ∙ nu, sym em ∙ nm, gone, sym et ∙ q, ← ei, le-ltb 1 i l)

-- ---- the meaning of an ID

found_at : (o : Option ℕ) (t : ℕ) → Some t ≡ found_of o → o ≡ some t
unfolding found_of
found_at none t h = let z : ◌≡◌ {A = ℕ} 0 1 = cc in absurd (omega arith)
found_at (some i) t h = cc

found_none : (o : Option ℕ) → None ≡ found_of o → o ≡ none
unfolding found_of
found_none none h = refl
found_none (some i) h = let z : ◌≡◌ {A = ℕ} 0 1 = cc in absurd (omega arith)

module _ (T : List ℕ) (t : ℕ) (last : Bool) where
  pub last_wrong : (b : ℕ) → b ≡ base T t → not (beq last (eqb b 0)) ≡ wrong_last T t last
  unfolding wrong_last
  last_wrong b e = rw e

module _ (T : List ℕ) (top f : ℕ) (nm : List ℕ) (n : ℕ) where
  seek_known : (t : ℕ) → named T nm ≡ some t → seek_heading T top f nm n ≡ meaning_answer (head_of f nm) n (known_meaning T top (bit f 32) t)
  unfolding seek_heading is_none seek_meaning
  seek_known t e = rw e (go (not (is_sliced (format_of_flags f))))
    where
      go : (b : Bool) → pick (b && false) (refused 15 1) (meaning_answer (head_of f nm) n (known_meaning T top (bit f 32) t)) ≡ meaning_answer (head_of f nm) n (known_meaning T top (bit f 32) t)
      go true = refl
      go false = refl

  seek_unknown : (size last : Bool) → size ≡ bit f 16 → last ≡ bit f 32 → named T nm ≡ none
      → seek_heading T top f nm n ≡ pick size (meaning_answer (head_of f nm) n (pick last (wrong 16) skip)) (refused 15 1)
  unfolding seek_heading is_none seek_meaning
  seek_unknown size last es el e = rw (e, format_sliced (bit f 16)) (go (bit f 16) (bit f 32) es el)
    where
      go : (b c : Bool) → size ≡ b → last ≡ c
          → pick (not b && true) (refused 15 1) (meaning_answer (head_of f nm) n (pick c (wrong 16) skip)) ≡ pick size (meaning_answer (head_of f nm) n (pick last (wrong 16) skip)) (refused 15 1)
      go true c p q = rw (p, q)
      go false c p q = rw p

  module _ (size : Bool) (es : size ≡ bit f 16) (last : Bool) (el : last ≡ bit f 32) (found : Answer ℕ) (ef : found ≡ found_of (named T nm)) where
    module _ (t : ℕ) (q : found ≡ Some t) (c : Bool) (ec : c ≡ any (λ o. eqb o top) (chain T t)) where
      is_row : named T nm ≡ some t
      is_row = found_at (named T nm) t (sym q ∙ ef)

      pub seek_outside : c ≡ false → refused 17 0 ≡ seek_heading T top f nm n
      unfolding known_meaning meaning_answer
      seek_outside h = sym (seek_known t is_row ∙ rw (sym ec ∙ h))

      module _ (h : c ≡ true) (w : Bool) (ew : w ≡ wrong_last T t last) where
        pub seek_last : w ≡ true → refused 17 0 ≡ seek_heading T top f nm n
        unfolding known_meaning meaning_answer
        seek_last k = sym (seek_known t is_row ∙ rw (sym ec ∙ h, ← el, sym ew ∙ k))

        pub seek_row : w ≡ false → (o : Bool) → o ≡ bit f 4 → Ok (Known t o size n) ≡ seek_heading T top f nm n
        unfolding known_meaning meaning_answer
        seek_row k o eo = sym (seek_known t is_row ∙ rw (sym ec ∙ h, ← el, sym ew ∙ k, ← eo, ← es, format_sliced size))

    module _ (q : found ≡ None) where
      is_none_lem : named T nm ≡ none
      is_none_lem = found_none (named T nm) (sym q ∙ ef)

      pub seek_final : size ≡ true → last ≡ true → refused 16 0 ≡ seek_heading T top f nm n
      unfolding meaning_answer
      seek_final h k = sym (seek_unknown size last es el is_none_lem ∙ rw (h, k))

      pub seek_skip : size ≡ true → last ≡ false → Ok (Skip n) ≡ seek_heading T top f nm n
      unfolding meaning_answer
      seek_skip h k = sym (seek_unknown size last es el is_none_lem ∙ rw (h, k))

      pub seek_compact : size ≡ false → refused 15 1 ≡ seek_heading T top f nm n
      seek_compact h = sym (seek_unknown size last es el is_none_lem ∙ rw h)

module _ (T : List ℕ) (s : Bool) (t : ℕ) (nm : List ℕ) where
  pub other_named : s ≡ true → (i : Bool) → i ≡ same_bytes nm (name_of T t) → not i ≡ s && not (same_bytes nm (name_of T t))
  other_named q i e = rw (q, e)

  pub other_bare : s ≡ false → false ≡ s && not (same_bytes nm (name_of T t))
  other_bare q = rw q

module _ (T : List ℕ) (s : Bool) (b f : ℕ) (nm : List ℕ) (n : ℕ) where
  pub follow_end : b ≡ 0 → refused 17 0 ≡ follow_heading T s b f nm n
  unfolding follow_heading meaning meaning_answer
  follow_end h = rw h

  follow_base : (b ≡ 0 → ⊥) → follow_heading T s b f nm n
      ≡ meaning_answer (head_of f nm) n (pick (s && not (same_bytes nm (name_of T (b - 1))) || wrong_last T (b - 1) (bit f 32)) (wrong 17) (row (b - 1)))
  unfolding follow_heading meaning
  follow_base h = go b h
    where
      go : (b : ℕ) → (b ≡ 0 → ⊥) → meaning_answer (head_of f nm) n (meaning T 0 (follow (pick s sliced compact) b) (head_of f nm))
          ≡ meaning_answer (head_of f nm) n (pick (s && not (same_bytes nm (name_of T (b - 1))) || wrong_last T (b - 1) (bit f 32)) (wrong 17) (row (b - 1)))
      go zero h = absurd (h refl)
      go (suc t) h = rw (sub-one, format_sliced s)

  module _ (h : b ≡ 0 → ⊥) (o : Bool) (eo : o ≡ s && not (same_bytes nm (name_of T (b - 1)))) where
    pub follow_other : o ≡ true → refused 17 0 ≡ follow_heading T s b f nm n
    unfolding meaning_answer
    follow_other q = sym (follow_base h ∙ rw (sym eo ∙ q))

    module _ (no : o ≡ false) (last : Bool) (el : last ≡ bit f 32) (w : Bool) (ew : w ≡ wrong_last T (b - 1) last) where
      pub follow_last : w ≡ true → refused 17 0 ≡ follow_heading T s b f nm n
      unfolding meaning_answer
      follow_last q = sym (follow_base h ∙ rw (sym eo ∙ no, ← el, sym ew ∙ q))

      pub follow_row : w ≡ false → (x z : Bool) → x ≡ bit f 4 → z ≡ bit f 16 → Ok (Known (b - 1) x z n) ≡ follow_heading T s b f nm n
      unfolding meaning_answer
      follow_row q x z ex ez = sym (follow_base h ∙ rw (sym eo ∙ no, ← el, sym ew ∙ q, ← ex, ← ez, format_sliced z))

module _ (T : List ℕ) (top : ℕ) (stage : Stage) (f : ℕ) (nm : List ℕ) (n : ℕ) (r : Result Heading Refusal) where
  -- by the variant's number: no slice was known yet
  pub heading_seeking : (tag_of the_type stage ≡ 0) ⊎ (tag_of the_type stage ≡ 1) → r ≡ seek_heading T top f nm n → r ≡ heading T top stage f nm n
  unfolding heading
  heading_seeking q e = go stage q
    where
      go : (s : Stage) → (tag_of the_type s ≡ 0) ⊎ (tag_of the_type s ≡ 1) → r ≡ heading T top s f nm n
      go First q = e
      go Seeking q = e
      go (Following b k) q = absurd (⊎_elim (λ z. omega arith) (λ z. omega arith) q)

  pub heading_following : (s : Bool) (b : ℕ) → stage ≡ Following s b → r ≡ follow_heading T s b f nm n → r ≡ heading T top stage f nm n
  unfolding heading
  heading_following s b q e = rw q e

-- ---- a head

module _ (T : List ℕ) (top : ℕ) (st : Slice.Stage) where
  abbrev judge : Head → ℕ
  judge h = meaning_form (meaning T top st h)

  -- 16 and 17 are at the flags, judged or not
  head_judged : (r : Res Head) → head_answer T top st (judged judge r) ≡ head_answer T top st r
  unfolding head_answer judged meaning_answer meaning_form
  head_judged (ok h n) = go (meaning T top st h) refl
    where
      go₂ : (c : ℕ) (b : Bool) → meaning T top st h ≡ wrong c → head_answer T top st (pick b (ok h n) (bad c 0)) ≡ refused c 0
      go₂ c true e = ap (meaning_answer h n) e
      go₂ c false e = refl

      go : (m : Meaning) → meaning T top st h ≡ m → head_answer T top st (pick (eqb (meaning_form m) 0) (ok h n) (bad (meaning_form m) 0)) ≡ meaning_answer h n m
      go skip e = ap (meaning_answer h n) e
      go (row t) e = ap (meaning_answer h n) e
      go (wrong c) e = go₂ c (eqb c 0) e
  head_judged (bad c p) = refl

ends_string : Ends string
unfolding string
ends_string xs d n h = ends_item _ (ends_bind _ _ (λ n. ends_chunk n)) xs d n (must_ok _ xs Content h).0

module _ (d : Bool) where
  pub id_due : d ≡ true → (s : List ℕ) (r : Result Counted Refusal) → r ≡ bytes_of (string s) → r ≡ bytes_of (id_text d s)
  unfolding id_text
  id_due q s r e = rw q e

  pub id_none : d ≡ false → (s : List ℕ) → counted 0 0 ≡ bytes_of (id_text d s)
  unfolding id_text pure bytes_of
  id_none q s = rw q

  held_id : Held (id_text d)
  unfolding id_text
  held_id = held_pick d string (pure []) held_string (held_pure [])

ends_id : (d : Bool) → Ends (id_text d)
unfolding id_text pure
ends_id true xs b n h = ends_string xs b n h
ends_id false xs b n h = let e : [] ≡ b = cc in let z : 0 ≡ n = cc in rw (← e, ← z) (record { within = omega arith; there = refl })

module _ (s : List ℕ) (d : Bool) (r : Result Counted Refusal) (e : r ≡ bytes_of (id_text d (take (length s - 1) (drop 1 s)))) where
  id_text_lem : r ≡ bytes_of (id_text d (drop 1 s))
  id_text_lem = e ∙ ap (λ (z : List ℕ). bytes_of (id_text d z)) (rest_is s 1)

  module _ (h : 1 ≤ length s) where
    module _ (x : Counted) (q : r ≡ Ok x) where
      id_read_lem : (b : List ℕ) × (id_text d (drop 1 s) ≡ ok b x.bytes) × (x.number ≡ length b)
      id_read_lem = bytes_is (id_text d (drop 1 s)) x (sym q ∙ id_text_lem)

      pub id_within : 1 + x.bytes ≤ length s
      id_within = omega (arith, held_took (id_text d) (held_id d) (drop 1 s) id_read_lem.1, length-drop 1 s)

      pub id_end_fits : Fits w64 (length s) → Fits w64 (1 + x.bytes)
      id_end_fits f = omega (arith, id_within)

      pub id_length : x.number ≤ 1 + x.bytes
      id_length = go id_read_lem
        where
          go : (b : List ℕ) × (id_text d (drop 1 s) ≡ ok b x.bytes) × (x.number ≡ length b) → x.number ≤ 1 + x.bytes
          go I = omega (arith, I.2, (ends_id d (drop 1 s) I.0 x.bytes I.1).within)

      pub id_order : 1 + x.bytes - x.number ≤ 1 + x.bytes
      id_order = omega (arith, id_length)

    pub id_place_fits : (x : Refusal) → r ≡ Err x → length s < 2 ^ 64 → 1 + x.place < 2 ^ 64
    id_place_fits x q f =
        omega (arith, held_refused (id_text d) (held_id d) (drop 1 s) (bytes_isnt (id_text d (drop 1 s)) x (sym q ∙ id_text_lem)), length-drop 1 s)

-- flags and ID, judged by 15 at the ID
heading_answer : (T : List ℕ) (top : ℕ) (stage : Stage) (f : ℕ) (b : List ℕ) (n : ℕ)
    → heading T top stage f b (1 + n) ≡ head_answer T top (stage_of stage) (shift 1 (made (λ nm _. head_of f nm) (judged (id_form T (stage_of stage) (format_of_flags f)) (ok b n))))
unfolding heading seek_heading follow_heading head_answer stage_of shift made judged id_form meaning
heading_answer T top First f b n = go (not (is_sliced (format_of_flags f)) && is_none (named T b))
  where
    go : (x : Bool) → pick x (refused 15 1) (meaning_answer (head_of f b) (1 + n) (seek_meaning T top (bit f 32) (named T b)))
        ≡ head_answer T top (seek first) (shift 1 (made (λ nm _. head_of f nm) (pick (eqb (pick x 15 0) 0) (ok b n) (bad (pick x 15 0) 0))))
    go true = refl
    go false = refl
heading_answer T top Seeking f b n = go (not (is_sliced (format_of_flags f)) && is_none (named T b))
  where
    go : (x : Bool) → pick x (refused 15 1) (meaning_answer (head_of f b) (1 + n) (seek_meaning T top (bit f 32) (named T b)))
        ≡ head_answer T top (seek (later sliced)) (shift 1 (made (λ nm _. head_of f nm) (pick (eqb (pick x 15 0) 0) (ok b n) (bad (pick x 15 0) 0))))
    go true = refl
    go false = refl
heading_answer T top (Following s zero) f b n = refl
heading_answer T top (Following s (suc t)) f b n = refl

-- where no ID is due, none is judged
heading_bare : (T : List ℕ) (top : ℕ) (stage : Stage) (f : ℕ) → flag_form (stand_of (stage_of stage)) f ≡ 0 → due (stand_of (stage_of stage)) (format_of_flags f) ≡ false
    → heading T top stage f [] 1 ≡ head_answer T top (stage_of stage) (ok (head_of f []) 1)
unfolding heading follow_heading head_answer stage_of stand_of flag_form mixed due meaning
heading_bare T top First f z d = let y : ◌≡◌ {A = ℕ} 0 1 = cc in absurd (omega arith)
heading_bare T top Seeking f z d = absurd (go (bit f 16) z d)
  where
    go : (b : Bool) → first_of ((14, ltb 63 f) ∷ (14, not (beq true b)) ∷ (14, beq (is_sliced (pick b sliced compact)) (eqb (f % 4) 0)) ∷ (13, bit f 8) ∷ (13, ltb 1 (f % 4)) ∷ []) ≡ 0 → is_sliced (pick b sliced compact) ≡ false → ⊥
    go true z d = let y : ◌≡◌ {A = ℕ} 0 1 = cc in omega arith
    go false z d = let y = (first_of_ok 13 (ltb 63 f) _ z).1 in let x = (first_of_ok 13 true _ y).0 in let w : ◌≡◌ {A = ℕ} 0 1 = cc in omega arith
heading_bare T top (Following s zero) f z d = refl
heading_bare T top (Following s (suc t)) f z d = refl

module _ (T : List ℕ) (top : ℕ) (stage : Stage) (s : List ℕ) where
  -- the head, judged by what it means
  abbrev whole : Result Heading Refusal
  whole = head_answer T top (stage_of stage) (must (judge T top (stage_of stage)) (head (stand_of (stage_of stage)) (id_form T (stage_of stage))) s)

  whole_is : whole ≡ head_answer T top (stage_of stage) (head (stand_of (stage_of stage)) (id_form T (stage_of stage)) s)
  unfolding must
  whole_is = head_judged T top (stage_of stage) (head (stand_of (stage_of stage)) (id_form T (stage_of stage)) s)

  -- the head of flags f, with an ID where one is due
  abbrev heads : ℕ → Bool → Res Head
  heads f b = shift 1 (made (λ nm _. head_of f nm) (pick b (must (id_form T (stage_of stage) (format_of_flags f)) string) (pure []) (drop 1 s)))

  pub head_none : length s < 1 → refused 4 0 ≡ whole
  unfolding head must judged ◌>>=◌ after byte number chunk head_answer
  head_none h = sym (whole_is ∙ rw (lt-leb 1 (length s) h))

  module _ (h : 1 ≤ length s) (f : ℕ) (ef : f ≡ at s 1 0) (c : ℕ) (ec : c ≡ flag_form (stand_of (stage_of stage)) f) where
    pub head_flags : (c ≡ 0 → ⊥) → refused c 0 ≡ whole
    unfolding head must judged ◌>>=◌ after byte number chunk head_answer at
    head_flags n = sym (whole_is ∙ rw (le-leb 1 (length s) h, ← ef, ← ec, ne_eqb c 0 n))

    module _ (z : c ≡ 0) (d : Bool) (ed : d ≡ due (stand_of (stage_of stage)) (format_of_flags f)) where
      head_on : whole ≡ head_answer T top (stage_of stage) (heads f d)
      unfolding head must judged ◌>>=◌ after byte number chunk mapc at
      head_on = whole_is ∙ rw (le-leb 1 (length s) h, ← ef, ← ec, z, ← ed)

      -- the ID, due or not, was read
      head_read : (w : List ℕ) (n : ℕ) → id_text d (drop 1 s) ≡ ok w n → heading T top stage f w (1 + n) ≡ whole
      unfolding id_text must pure made shift
      head_read w n e = go d refl e ∙ sym head_on
        where
          go : (b : Bool) → d ≡ b → id_text b (drop 1 s) ≡ ok w n → heading T top stage f w (1 + n) ≡ head_answer T top (stage_of stage) (heads f b)
          go true q k =
              heading_answer T top stage f w n
              ∙ ap (λ (i : Res (List ℕ)). head_answer T top (stage_of stage) (shift 1 (made (λ nm _. head_of f nm) (judged (id_form T (stage_of stage) (format_of_flags f)) i)))) (sym k)
          go false q k =
              let v : w ≡ [] = cc in
              let o : n ≡ 0 = cc in
              rw (v, o) (heading_bare T top stage f (sym ec ∙ z) (sym ed ∙ q))

      module _ (t : Result Counted Refusal) (et : t ≡ bytes_of (id_text d (take (length s - 1) (drop 1 s)))) where
        pub head_unread : (x : Refusal) → t ≡ Err x → (y : Refusal) → y ≡ behind 1 x → Err y ≡ whole
        unfolding id_text must judged pure made shift head_answer
        head_unread x k y v = ap Err v ∙ sym (head_on ∙ go d (bytes_isnt (id_text d (drop 1 s)) x (sym k ∙ id_text_lem s d t et)))
          where
            go : (b : Bool) → id_text b (drop 1 s) ≡ bad x.number x.place → head_answer T top (stage_of stage) (heads f b) ≡ Err (behind 1 x)
            go true q = rw q
            go false q = let z : ◌≡◌ {A = ℕ} 0 1 = cc in absurd (omega arith)

        pub head_named : (x : Counted) → t ≡ Ok x → (r : Result Heading Refusal)
            → r ≡ heading T top stage f (take (1 + x.bytes - (1 + x.bytes - x.number)) (drop (1 + x.bytes - x.number) s)) (1 + x.bytes) → r ≡ whole
        head_named x k r e = go (bytes_is (id_text d (drop 1 s)) x (sym k ∙ id_text_lem s d t et))
          where
            go : (w : List ℕ) × (id_text d (drop 1 s) ≡ ok w x.bytes) × (x.number ≡ length w) → r ≡ whole
            go I =
                let n = x.bytes in
                let l = x.number in
                let E = ends_id d (drop 1 s) I.0 n I.1 in
                let i : 1 + n - l ≡ 1 + (n - length I.0) = omega (arith, I.2, E.within) in
                let j : 1 + n - (1 + n - l) ≡ length I.0 = omega (arith, I.2, E.within) in
                let w : take (1 + n - (1 + n - l)) (drop (1 + n - l) s) ≡ I.0 =
                ap (λ (y : ℕ). take y (drop (1 + n - l) s)) j ∙ ap (take (length I.0)) (ap (λ (y : ℕ). drop y s) i ∙ sym (drop-drop (n - length I.0) 1 s)) ∙ E.there in
                e ∙ ap (λ (y : List ℕ). heading T top stage f y (1 + n)) w ∙ head_read I.0 n I.1
