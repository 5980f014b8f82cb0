-- One slice, by its opening: what its reading gives, and how many bytes it takes.
--
--   skip_head_within, known_head_within   flags and ID lie within the bytes at hand
--   opening_wrong, opening_place          a refusal before the data, and its place
--   Skipped, opening_skip                 a skipped slice
--   Opened, opening_known                 a slice of a known row, and the part that its data lie in
--   Marks, format_kept                    the format that a stage fixes is that of the chain
--   owners_known, first_known             whose rows a known slice has, and the first known type after it
--   row_below, row_base                   its row is one of the table, or the base that was due
--   known_place, opened_eats, _sized      where its data begin
--   passed_end, passed_never              where a skipped slice ends; none comes after a known one
use Rattle.std.proofs.Math.Path.{◌≡◌, refl, sym, ap}
use Rattle.std.proofs.Common.{◌∙◌, subst, true≢false, length-append, drop-drop, eqb-true, eq-eqb, ne_eqb}
use Rattle.std.specs.Prelude.{Bool, ◌&&◌, ◌||◌, take, drop, Result, Ok, Err}
use Rattle.std.proofs.Math.Bool.{true, false, not}
use Rattle.std.proofs.Math.Option.{Option, none, some}
use mathlib.Core.List.{List, [], ◌∷◌}
use Prim.Native.Nat.{ℕ, zero, suc, ◌+◌, ◌-◌, ◌≤◌, ◌<◌}
use native.Mathlib.Omega.{arith}
use Rattle.std.proofs.Math.ListN.{length, length-drop}
use Rattle.std.proofs.Math.Dec.{eqb}
use Rattle.std.proofs.lemmas.Bool.{eqb-false, not-false}
use Rattle.encoding.specs.Result.{Res, ok, bad, Parser, pick, shift, pure, fail, made, mapc, recalled, recall, leave, enter, inside, same_bytes}
use Rattle.encoding.proofs.ResultLaws.{of_contents, ok≢bad, some≢none, same_bytes_ok, bind_bad, bind_next, pure_ok, must_ok, mapc_ok, held_took, held_refused, held_must}
use Rattle.encoding.specs.Number.{declared, le_bytes, string, string_bytes}
use Rattle.encoding.proofs.NumberLaws.{length_le_bytes, held_declared, ends_declared}
use Rattle.encoding.specs.Table.{types, any, name_of, named, base, upward, chain}
use Rattle.encoding.proofs.RuleLaws.{named_ok, chain_node}
use Rattle.encoding.specs.Optional.{Piece}
use Rattle.encoding.proofs.WeightLaws.{string_weight, declared_weight}
use Rattle.encoding.specs.Slice.{Format, compact, sliced, is_sliced, Slice, known, passed, Stand, first, later, due, Head, head, fields, known_data, wrong_last, seek, follow, stand_of, finished, Meaning, skip, row, wrong, known_meaning, seek_meaning, meaning, is_none, id_form, meaning_form, enter_slice, slice, Chain, ahead, id_of, data_bytes, slice_front}
use Rattle.encoding.specs.Slice
use Rattle.encoding.proofs.SliceLaws.{eats_head, Meant, meant_head, held_head}
use Rattle.encoding.proofs.WalkLaws.{Heads, head_ok, heads_later, Sliced, slice_ok, Walk, done, next}
use Rattle.encoding.specs.Message.{or_zero, first_in}
use Rattle.wire.specs.declared.Refusal.{Refusal}
use Rattle.wire.specs.Steps.{refused}
use Rattle.wire.specs.StepLaws.{rest_is}
use Rattle.heads.specs.declared.Stage.{Stage}
use Rattle.heads.specs.declared.Stage.TheVariants.{First, Seeking, Following}
use Rattle.heads.specs.declared.Heading.{Heading}
use Rattle.heads.specs.declared.Heading.TheVariants.{Skip as SkipHeading, Known as KnownHeading}
use Rattle.slices.specs.declared.Opening.{Opening}
use Rattle.slices.specs.declared.Opening.TheVariants.{Skip, Known}
use Rattle.heads.specs.Stages.{stage_of, meaning_answer, head_answer}
use Rattle.slices.specs.Openings.{skip_opening, part_opening, head_opening, headed, opening, ended, first_or}
use Rattle.slices.specs.Left.{recall_to, owners, first_from}

-- a refusal tells its number and its place
refused_same : {A : Type 0} {c p d q : ℕ} → refused {T = A} c p ≡ refused d q → (d ≡ c) × (q ≡ p)
refused_same {A} {c} {p} {d} {q} h =
    let e : ◌≡◌ {A = Refusal} (record { number = c; place = p }) (record { number = d; place = q }) = cc in
    (sym (ap (λ (x : Refusal). x.number) e), sym (ap (λ (x : Refusal). x.place) e))

-- ---- flags and ID

module _ (T : List ℕ) (top : ℕ) (st : Slice.Stage) (xs : List ℕ) where
  -- what the code's answer of a head says
  data Headed : Result Heading Refusal → Type 0 where
    skips : (h : Head) (n : ℕ) → head (stand_of st) (id_form T st) xs ≡ ok h n → meaning T top st h ≡ skip → headed T top st xs ≡ ok h n → Headed (Ok (SkipHeading n))
    knows : (h : Head) (n t : ℕ) → head (stand_of st) (id_form T st) xs ≡ ok h n → meaning T top st h ≡ row t → headed T top st xs ≡ ok h n
        → Headed (Ok (KnownHeading t h.optionals (is_sliced h.format) n))
    wrongs : (c p : ℕ) → headed T top st xs ≡ bad c p → Headed (refused c p)

  heading_told : Headed (head_answer T top st (headed T top st xs))
  unfolding head_answer meaning_answer meaning_form
  heading_told = go (headed T top st xs) refl
    where
      go₂ : (h : Head) (n : ℕ) → headed T top st xs ≡ ok h n → (m : Meaning) → meaning T top st h ≡ m → Meant m → meaning_form m ≡ 0 → Headed (meaning_answer h n m)
      go₂ h n e skip f q z = skips h n (must_ok (head (stand_of st) (id_form T st)) xs (λ h. meaning_form (meaning T top st h)) e).0 f e
      go₂ h n e (row t) f q z = knows h n t (must_ok (head (stand_of st) (id_form T st)) xs (λ h. meaning_form (meaning T top st h)) e).0 f e
      go₂ h n e (wrong c) f q z = absurd (true≢false (sym q ∙ ap (λ (k : ℕ). of_contents false k) z))

      go : (r : Res Head) → headed T top st xs ≡ r → Headed (head_answer T top st r)
      go (ok h n) e = go₂ h n e (meaning T top st h) refl (meant_head T top st h) (must_ok (head (stand_of st) (id_form T st)) xs (λ h. meaning_form (meaning T top st h)) e).1
      go (bad c p) e = wrongs c p e

  -- flags and ID lie within the bytes at hand
  module _ {r : Result Heading Refusal} (e : r ≡ head_answer T top st (headed T top st xs)) where
    pub skip_head_within : {n : ℕ} → r ≡ Ok (SkipHeading n) → n ≤ length xs
    skip_head_within {n} q = go (head_answer T top st (headed T top st xs)) heading_told (sym q ∙ e)
      where
        go : (x : Result Heading Refusal) → Headed x → Ok (SkipHeading n) ≡ x → n ≤ length xs
        go x (skips h k f i j) z = let s : n ≡ k = cc in omega (arith, held_took (head (stand_of st) (id_form T st)) (held_head T st) xs f)
        go x (knows h k t f i j) z = let y : ◌≡◌ {A = ℕ} 0 1 = cc in absurd (omega arith)
        go x (wrongs c p i) z = let y : ◌≡◌ {A = ℕ} 0 1 = cc in absurd (omega arith)

    pub known_head_within : {t n : ℕ} {o z : Bool} → r ≡ Ok (KnownHeading t o z n) → n ≤ length xs
    known_head_within {t} {n} {o} {z} q = go (head_answer T top st (headed T top st xs)) heading_told (sym q ∙ e)
      where
        go : (x : Result Heading Refusal) → Headed x → Ok (KnownHeading t o z n) ≡ x → n ≤ length xs
        go x (skips h k f i j) z = let y : ◌≡◌ {A = ℕ} 0 1 = cc in absurd (omega arith)
        go x (knows h k u f i j) z = let s : n ≡ k = cc in omega (arith, held_took (head (stand_of st) (id_form T st)) (held_head T st) xs f)
        go x (wrongs c p i) z = let y : ◌≡◌ {A = ℕ} 0 1 = cc in absurd (omega arith)

  -- ---- the slice

  recalled_bad : {A : Type 0} (c p : ℕ) → recalled {A = A} 14 (bad c p) ≡ bad c (recall_to c 0 p)
  unfolding recalled recall_to
  recalled_bad {A} c p = go (eqb c 14)
    where
      go : (b : Bool) → pick {X = Res A} b (bad c 0) (bad c p) ≡ bad c (pick b 0 p)
      go true = refl
      go false = refl

  enters : Head → Parser (Slice × Slice.Stage)
  enters h = enter_slice T h (meaning T top st h)

  slice_refused : (c p : ℕ) → headed T top st xs ≡ bad c p → slice T top st xs ≡ bad c (recall_to c 0 p)
  unfolding slice recall enters
  slice_refused c p e = ap (recalled 14) (bind_bad (λ (ys : List ℕ). headed T top st ys) enters xs e) ∙ recalled_bad c p

  slice_entered : (h : Head) (n : ℕ) (m : Meaning) → headed T top st xs ≡ ok h n → meaning T top st h ≡ m → slice T top st xs ≡ recalled 14 (shift n (enter_slice T h m (drop n xs)))
  unfolding slice recall enters
  slice_entered h n m e f =
      ap (recalled 14) (bind_next (λ (ys : List ℕ). headed T top st ys) enters xs e) ∙ ap (λ (w : Meaning). recalled 14 (shift n (enter_slice T h w (drop n xs)))) f

-- ---- a skipped slice

pub record Skipped (T : List ℕ) (top : ℕ) (st : Slice.Stage) (xs : List ℕ) (n : ℕ) : Type 0 where
  pub h : Head
  pub front : ℕ
  pub part : List ℕ
  pub heads : head (stand_of st) (id_form T st) xs ≡ ok h front
  pub means : meaning T top st h ≡ skip
  pub sum : n ≡ front + (4 + length part)
  pub read : slice T top st xs ≡ ok (passed h.optionals h.id part, seek (later sliced)) n

-- ---- a slice of a known row

pub record Opened (T : List ℕ) (top : ℕ) (st : Slice.Stage) (xs : List ℕ) (t : ℕ) (opt z : Bool) (a e : ℕ) : Type 0 where
  pub h : Head
  pub front : ℕ
  pub heads : head (stand_of st) (id_form T st) xs ≡ ok h front
  pub means : meaning T top st h ≡ row t
  pub bits : h.optionals ≡ opt
  pub sizes : is_sliced h.format ≡ z
  pub start : a ≡ front + pick z 4 0
  pub order : a ≤ e
  pub within : e ≤ length xs
  pub read : slice T top st xs
      ≡ recalled 14 (made (λ ps _. (known (name_of T t) ps, follow h.format (base T t))) (ended z a e (fields T t opt (take (e - a) (drop a xs)))))

shift_made : {A B : Type 0} (f : A → B) (n : ℕ) (r : Res A) → shift n (made (λ a _. f a) r) ≡ made (λ a _. f a) (shift n r)
unfolding shift made
shift_made f n (ok a m) = refl
shift_made f n (bad c p) = refl

made_made : {A B C : Type 0} (f : A → B) (g : B → C) (r : Res A) → made (λ b _. g b) (made (λ a _. f a) r) ≡ made (λ a _. g (f a)) r
unfolding made
made_made f g (ok a m) = refl
made_made f g (bad c p) = refl

-- in the rest
ended_compact : (n e : ℕ) (r : Res (List Piece)) → shift n r ≡ ended false n e r
unfolding shift ended
ended_compact n e (ok ps k) = refl
ended_compact n e (bad c p) = refl

-- in a declared part
pub ended_sliced : (n k l : ℕ) (r : Res (List Piece)) → k ≡ 4 + l → shift n (leave l k r) ≡ ended true (n + 4) (n + k) r
unfolding shift leave ended
ended_sliced n k l (ok ps m) h = go (eqb m l) refl
  where
    go : (b : Bool) → eqb m l ≡ b → shift n (pick b (ok ps k) (bad 11 0)) ≡ pick (not (eqb (n + 4 + m) (n + k))) (bad 11 (n + 4 - 4)) (ok ps (n + 4 + m))
    go true q =
        let s : m ≡ l = eqb-true m l q in
        rw (eq-eqb (n + 4 + m) (n + k) (omega arith)) (ap (ok ps) (omega arith))
    go false q =
        let s : m ≡ l → ⊥ = eqb-false m l q in
        rw (ne_eqb (n + 4 + m) (n + k) (λ z. s (omega arith))) (ap (bad 11) (omega arith))
ended_sliced n k l (bad c p) h = ap (bad c) (omega arith)

module _ (T : List ℕ) (top : ℕ) (st : Slice.Stage) (xs : List ℕ) where
  -- members after flags and ID
  slice_known : (h : Head) (n t : ℕ) → headed T top st xs ≡ ok h n → meaning T top st h ≡ row t
      → slice T top st xs ≡ recalled 14 (made (λ ps _. (known (name_of T t) ps, follow h.format (base T t)))
      (shift n (pick (is_sliced h.format) (inside (declared 4 4) (fields T t h.optionals)) (fields T t h.optionals) (drop n xs))))
  unfolding enter_slice known_data mapc
  slice_known h n t e f =
      slice_entered T top st xs h n (row t) e f
      ∙ ap (λ (r : Res (Slice × Slice.Stage)). recalled 14 (shift n r)) (made_made (known (name_of T t)) (λ s. (s, follow h.format (base T t))) _)
      ∙ ap (recalled 14) (shift_made (λ ps. (known (name_of T t) ps, follow h.format (base T t))) n _)

  -- the part that a declared length delivers
  module _ (n : ℕ) (d : List ℕ) (k : ℕ) (e : declared 4 4 (drop n xs) ≡ ok d k) where
    part_size : k ≡ 4 + length d
    part_size = declared_weight 4 4 (drop n xs) e

    part_end : n ≤ length xs → n + k ≤ length xs
    part_end h = omega (arith, held_took (declared 4 4) (held_declared 4 4) (drop n xs) e, length-drop n xs)

    part_is : take (n + k - (n + 4)) (drop (n + 4) xs) ≡ d
    part_is =
        let E = ends_declared 4 4 (drop n xs) d k e in
        let l : n + k - (n + 4) ≡ length d = omega (arith, part_size) in
        let j : k - length d ≡ 4 = omega (arith, part_size) in
        rw l (ap (take (length d)) (sym (drop-drop 4 n xs)) ∙ ap (λ (i : ℕ). take (length d) (drop i (drop n xs))) (sym j) ∙ E.there)

  head_end : (h : Head) (n : ℕ) → head (stand_of st) (id_form T st) xs ≡ ok h n → n ≤ length xs
  head_end h n e = held_took (head (stand_of st) (id_form T st)) (held_head T st) xs e

  module _ (r : Result Opening Refusal) (q : r ≡ opening T top st xs) where
    -- a refusal before the data, and its place
    opening_refused : (c p : ℕ) → r ≡ refused c p → (slice T top st xs ≡ bad c (recall_to c 0 p)) × (p ≤ length xs)
    unfolding opening head_opening skip_opening part_opening enter_slice mapc made shift inside enter
    opening_refused c p w = go (head_answer T top st (headed T top st xs)) (heading_told T top st xs) (sym w ∙ q)
      where
        place : (h : Head) (n : ℕ) → head (stand_of st) (id_form T st) xs ≡ ok h n → (c' p' : ℕ) → declared 4 4 (drop n xs) ≡ bad c' p' → n + p' ≤ length xs
        place h n x c' p' g = omega (arith, head_end h n x, held_refused (declared 4 4) (held_declared 4 4) (drop n xs) g, length-drop n xs)

        skipped : (h : Head) (n : ℕ) → head (stand_of st) (id_form T st) xs ≡ ok h n → meaning T top st h ≡ skip → headed T top st xs ≡ ok h n
            → (y : Res (List ℕ)) → declared 4 4 (drop n xs) ≡ y → refused c p ≡ skip_opening n y → (slice T top st xs ≡ bad c (recall_to c 0 p)) × (p ≤ length xs)
        skipped h n x f e (ok d k) g z = let x : ◌≡◌ {A = ℕ} 0 1 = cc in absurd (omega arith)
        skipped h n x f e (bad c' p') g z =
            let ec : c' ≡ c = (refused_same z).0 in
            let ep : n + p' ≡ p = (refused_same z).1 in (
              slice_entered T top st xs h n skip e f
                  ∙ ap (λ (y : Res (List ℕ)). recalled 14 (shift n (made (λ d _. (passed h.optionals h.id d, seek (later sliced))) y))) g
                  ∙ recalled_bad T top st xs c' (n + p') ∙ rw (ec, ep),
              omega (arith, place h n x c' p' g),
            )

        knew : (h : Head) (n t : ℕ) → head (stand_of st) (id_form T st) xs ≡ ok h n → meaning T top st h ≡ row t → headed T top st xs ≡ ok h n → is_sliced h.format ≡ true
            → (y : Res (List ℕ)) → declared 4 4 (drop n xs) ≡ y → refused c p ≡ part_opening t h.optionals n y → (slice T top st xs ≡ bad c (recall_to c 0 p)) × (p ≤ length xs)
        knew h n t x f e i (ok d k) g z = let x : ◌≡◌ {A = ℕ} 0 1 = cc in absurd (omega arith)
        knew h n t x f e i (bad c' p') g z =
            let ec : c' ≡ c = (refused_same z).0 in
            let ep : n + p' ≡ p = (refused_same z).1 in
            (slice_known h n t e f ∙ rw (i, g) (recalled_bad T top st xs c' (n + p') ∙ rw (ec, ep)), omega (arith, place h n x c' p' g))

        go : (x : Result Heading Refusal) → Headed T top st xs x → refused c p ≡ head_opening xs x → (slice T top st xs ≡ bad c (recall_to c 0 p)) × (p ≤ length xs)
        go x (skips h n e f i) z = skipped h n e f i (declared 4 4 (drop n xs)) refl z
        go x (knows h n t e f i) z = by (is_sliced h.format) refl z
          where
            by : (b : Bool) → is_sliced h.format ≡ b → refused c p ≡ head_opening xs (Ok (KnownHeading t h.optionals b n)) → (slice T top st xs ≡ bad c (recall_to c 0 p)) × (p ≤ length xs)
            by true j z = knew h n t e f i j (declared 4 4 (drop n xs)) refl z
            by false j z = let y : ◌≡◌ {A = ℕ} 0 1 = cc in absurd (omega arith)
        go x (wrongs c' p' i) z =
            let ec : c' ≡ c = (refused_same z).0 in
            let ep : p' ≡ p = (refused_same z).1 in (
              slice_refused T top st xs c' p' i ∙ rw (ec, ep),
              omega (arith, held_refused (λ (ys : List ℕ). headed T top st ys) (held_must (head (stand_of st) (id_form T st)) (held_head T st) (λ h. meaning_form (meaning T top st h))) xs i),
            )

    pub opening_wrong : (x : Refusal) → r ≡ Err x → slice T top st xs ≡ bad x.number (recall_to x.number 0 x.place)
    opening_wrong x w = (opening_refused x.number x.place w).0

    pub opening_place : (x : Refusal) → r ≡ Err x → x.place ≤ length xs
    opening_place x w = (opening_refused x.number x.place w).1

    pub opening_skip : (n : ℕ) → r ≡ Ok (Skip n) → Skipped T top st xs n
    unfolding opening head_opening skip_opening part_opening enter_slice mapc made shift recalled
    opening_skip m w = go (head_answer T top st (headed T top st xs)) (heading_told T top st xs) (sym w ∙ q)
      where
        skipped : (h : Head) (n : ℕ) → head (stand_of st) (id_form T st) xs ≡ ok h n → meaning T top st h ≡ skip → headed T top st xs ≡ ok h n
            → (y : Res (List ℕ)) → declared 4 4 (drop n xs) ≡ y → Ok (Skip m) ≡ skip_opening n y → Skipped T top st xs m
        skipped h n e f i (ok d k) g z =
            let em : m ≡ n + k = cc in
            let ek : k ≡ 4 + length d = declared_weight 4 4 (drop n xs) g in
            record {
              h = h;
              front = n;
              part = d;
              heads = e;
              means = f;
              sum = omega arith;
              read = slice_entered T top st xs h n skip i f ∙ rw (g, em);
            }
        skipped h n e f i (bad c p) g z = let x : ◌≡◌ {A = ℕ} 0 1 = cc in absurd (omega arith)

        other : (t n : ℕ) (o z : Bool) → Ok (Skip m) ≡ head_opening xs (Ok (KnownHeading t o z n)) → (y : Res (List ℕ)) → declared 4 4 (drop n xs) ≡ y → ⊥
        other t n o true h (ok d k) g = let x : ◌≡◌ {A = ℕ} 0 1 = cc in omega arith
        other t n o true h (bad c p) g = let x : ◌≡◌ {A = ℕ} 0 1 = cc in omega arith
        other t n o false h y g = let x : ◌≡◌ {A = ℕ} 0 1 = cc in omega arith

        go : (x : Result Heading Refusal) → Headed T top st xs x → Ok (Skip m) ≡ head_opening xs x → Skipped T top st xs m
        go x (skips h n e f i) z = skipped h n e f i (declared 4 4 (drop n xs)) refl z
        go x (knows h n t e f i) z = absurd (other t n h.optionals (is_sliced h.format) z (declared 4 4 (drop n xs)) refl)
        go x (wrongs c p i) z = let y : ◌≡◌ {A = ℕ} 0 1 = cc in absurd (omega arith)

    pub opening_known : (t : ℕ) (opt z : Bool) (a e : ℕ) → r ≡ Ok (Known t opt z a e) → Opened T top st xs t opt z a e
    unfolding opening head_opening skip_opening part_opening inside enter
    opening_known t opt z a e w = go (head_answer T top st (headed T top st xs)) (heading_told T top st xs) (sym w ∙ q)
      where
        -- a known slice, by its format
        knew : (h : Head) (n t' : ℕ) → head (stand_of st) (id_form T st) xs ≡ ok h n → meaning T top st h ≡ row t' → headed T top st xs ≡ ok h n → (b : Bool) → is_sliced h.format ≡ b
            → (y : Res (List ℕ)) → declared 4 4 (drop n xs) ≡ y → Ok (Known t opt z a e) ≡ pick b (part_opening t' h.optionals n y) (Ok (Known t' h.optionals false n (length xs)))
            → Opened T top st xs t opt z a e
        knew h n t' x f i true j (ok d k) g u =
            let et : t' ≡ t = cc in
            let eo : h.optionals ≡ opt = cc in
            let ez : z ≡ true = cc in
            let ea : a ≡ n + 4 = cc in
            let ee : e ≡ n + k = cc in
            let size = part_size n d k g in
            record {
              h = h;
              front = n;
              heads = x;
              means = f ∙ ap row et;
              bits = eo;
              sizes = j ∙ sym ez;
              start = rw ez ea;
              order = omega arith;
              within = omega (arith, part_end n d k g (head_end h n x));
              read = slice_known h n t i (f ∙ ap row et)
                  ∙ ap (λ (y : Res (List Piece)). recalled 14 (made (λ ps _. (known (name_of T t) ps, follow h.format (base T t))) y))
                  (rw (j, g, eo, ez, ea, ee, part_is n d k g) (ended_sliced n k (length d) (fields T t opt d) size));
            }
        knew h n t' x f i true j (bad c p) g u = let y : ◌≡◌ {A = ℕ} 0 1 = cc in absurd (omega arith)
        knew h n t' x f i false j y g u =
            let et : t' ≡ t = cc in
            let eo : h.optionals ≡ opt = cc in
            let ez : z ≡ false = cc in
            let ea : a ≡ n = cc in
            let ee : e ≡ length xs = cc in
            record {
              h = h;
              front = n;
              heads = x;
              means = f ∙ ap row et;
              bits = eo;
              sizes = j ∙ sym ez;
              start = rw ez (omega arith);
              order = omega (arith, head_end h n x);
              within = omega arith;
              read = slice_known h n t i (f ∙ ap row et)
                  ∙ ap (λ (y : Res (List Piece)). recalled 14 (made (λ ps _. (known (name_of T t) ps, follow h.format (base T t))) y))
                  (rw (j, eo, ez, ea, ee, rest_is xs n) (ended_compact n (length xs) (fields T t opt (drop n xs))));
            }

        other : (n : ℕ) (y : Res (List ℕ)) → Ok (Known t opt z a e) ≡ skip_opening n y → ⊥
        other n (ok d k) h = let x : ◌≡◌ {A = ℕ} 0 1 = cc in omega arith
        other n (bad c p) h = let x : ◌≡◌ {A = ℕ} 0 1 = cc in omega arith

        by_format : (t' n : ℕ) (o b : Bool) → head_opening xs (Ok (KnownHeading t' o b n)) ≡ pick b (part_opening t' o n (declared 4 4 (drop n xs))) (Ok (Known t' o false n (length xs)))
        by_format t' n o true = refl
        by_format t' n o false = refl

        go : (x : Result Heading Refusal) → Headed T top st xs x → Ok (Known t opt z a e) ≡ head_opening xs x → Opened T top st xs t opt z a e
        go x (skips h n f i j) u = absurd (other n (declared 4 4 (drop n xs)) u)
        go x (knows h n t' f i j) u = knew h n t' f i j (is_sliced h.format) refl (declared 4 4 (drop n xs)) refl (u ∙ by_format t' n h.optionals (is_sliced h.format))
        go x (wrongs c p i) u = let y : ◌≡◌ {A = ℕ} 0 1 = cc in absurd (omega arith)

-- ---- the format of a chain

-- the format that a stage fixes
abbrev pub Marks : Slice.Stage → Format → Type 0
Marks (seek first) g = ⊥
Marks (seek (later f)) g = (f ≡ sliced) × (g ≡ sliced)
Marks (follow f b) g = f ≡ g

marks_stand : (st : Slice.Stage) (g : Format) → Marks st g → stand_of st ≡ later g
unfolding stand_of
marks_stand (seek first) g m = absurd m
marks_stand (seek (later f)) g m = ap later (m.0 ∙ sym m.1)
marks_stand (follow f b) g m = ap later m

-- after a known slice none is skipped
follow_skips : (T : List ℕ) (top : ℕ) (g : Format) (b : ℕ) (h : Head) → meaning T top (follow g b) h ≡ skip → ⊥
unfolding meaning
follow_skips T top g zero h e = let z : ◌≡◌ {A = ℕ} 0 1 = cc in omega arith
follow_skips T top g (suc t) h e = go (is_sliced g && not (same_bytes h.id (name_of T t)) || wrong_last T t h.last) e
  where
    go : (b : Bool) → pick b (wrong 17) (row t) ≡ skip → ⊥
    go true e = let z : ◌≡◌ {A = ℕ} 0 1 = cc in omega arith
    go false e = let z : ◌≡◌ {A = ℕ} 0 1 = cc in omega arith

marks_skip : (T : List ℕ) (top : ℕ) (st : Slice.Stage) (g : Format) (h : Head) → Marks st g → meaning T top st h ≡ skip → g ≡ sliced
marks_skip T top (seek first) g h m e = absurd m
marks_skip T top (seek (later f)) g h m e = m.1
marks_skip T top (follow f b) g h m e = absurd (follow_skips T top f b h e)

slice_marks : (T : List ℕ) (top : ℕ) (st : Slice.Stage) (xs : List ℕ) (g : Format) (r : Slice × Slice.Stage) (n : ℕ) → Marks st g → slice T top st xs ≡ ok r n → Marks r.1 g
unfolding enter_slice fail
slice_marks T top st xs g r n m e = go (slice_ok T top st xs r n e)
  where
    by : (h : Head) (k : ℕ) → head (stand_of st) (id_form T st) xs ≡ ok h k → (w : Meaning) → meaning T top st h ≡ w → (ys : List ℕ) (l : ℕ) → enter_slice T h w ys ≡ ok r l → Marks r.1 g
    by h k f skip i ys l z =
        let M = mapc_ok (declared 4 4) ys (λ d _. (passed h.optionals h.id d, seek (later sliced))) z in
        subst (λ (x : Slice × Slice.Stage). Marks x.1 g) (sym M.2) (refl, marks_skip T top st g h m i)
    by h k f (row t) i ys l z =
        let M = mapc_ok (known_data T t h) ys (λ s _. (s, follow h.format (base T t))) z in
        let H = (head_ok (later g) (id_form T st) xs h k (rw (← (marks_stand st g m)) f)).0 in
        subst (λ (x : Slice × Slice.Stage). Marks x.1 g) (sym M.2) (heads_later g xs h k H)
    by h k f (wrong c) i ys l z = absurd (ok≢bad z refl)

    go : Sliced T top st xs r n → Marks r.1 g
    go S = by S.h S.head_bytes S.heads (meaning T top st S.h) refl (drop S.head_bytes xs) S.data_size S.read

pub format_kept : {T : List ℕ} {top f : ℕ} {st : Slice.Stage} {xs : List ℕ} {c : Chain} {n : ℕ} → Walk T top f st xs c n → (g : Format) → Marks st g → c.format ≡ g
unfolding finished ahead
format_kept (done {st = seek first} e) g m = absurd m
format_kept (done {st = seek (later f)} e) g m = absurd (some≢none e refl)
format_kept (done {st = follow f zero} {g = k} e) g m = cc
format_kept (done {st = follow f (suc t)} e) g m = absurd (some≢none e refl)
format_kept {T} {top} (next {st = st} {xs = xs} {sl = sl} {st' = st'} {k = k} d e r) g m = format_kept r g (slice_marks T top st xs g (sl, st') k m e)

-- ---- where a slice's data lie

-- flags and ID
head_weight : (s : Stand) (xs : List ℕ) (h : Head) (n : ℕ) → Heads s xs h n → n ≡ 1 + length (pick (due s h.format) (string_bytes h.id) [])
head_weight s xs h n H = H.sum ∙ ap (λ (i : ℕ). 1 + i) (go (due s h.format) H.id_read_lem)
  where
    go : (q : Bool) → pick q string (pure []) (drop 1 xs) ≡ ok h.id H.id_bytes → H.id_bytes ≡ length (pick q (string_bytes h.id) [])
    go true e = string_weight (drop 1 xs) e
    go false e = (pure_ok [] (drop 1 xs) e).1

front_weight : (g : Format) (s : Stand) (last : Bool) (sl : Slice) → length (slice_front g s last sl) ≡ 1 + length (pick (due s g) (string_bytes (id_of sl)) []) + pick (is_sliced g) 4 0
unfolding slice_front
front_weight g s last sl =
    omega (arith, length-append (pick (due s g) (string_bytes (id_of sl)) []) (pick (is_sliced g) (le_bytes 4 (4 + length (data_bytes sl))) []), go (is_sliced g))
  where
    go : (b : Bool) → length (pick b (le_bytes 4 (4 + length (data_bytes sl))) []) ≡ pick b 4 0
    go true = length_le_bytes 4 (4 + length (data_bytes sl))
    go false = refl

module _ (T : List ℕ) (top : ℕ) where
  seek_named : (h : Head) (t : ℕ) → seek_meaning T top h.last (named T h.id) ≡ row t → named T h.id ≡ some t
  unfolding seek_meaning known_meaning
  seek_named h t e = go (named T h.id) refl e
    where
      last : (b : Bool) → pick b (wrong 16) skip ≡ row t → ⊥
      last true e = let z : ◌≡◌ {A = ℕ} 0 1 = cc in omega arith
      last false e = let z : ◌≡◌ {A = ℕ} 0 1 = cc in omega arith

      right : (i : ℕ) (b : Bool) → pick b (row i) (wrong 17) ≡ row t → i ≡ t
      right i true e = cc
      right i false e = let z : ◌≡◌ {A = ℕ} 0 1 = cc in absurd (omega arith)

      go : (o : Option ℕ) → named T h.id ≡ o → seek_meaning T top h.last o ≡ row t → named T h.id ≡ some t
      go none f e = absurd (last h.last e)
      go (some i) f e = f ∙ ap some (right i (any (λ r. eqb r top) (chain T i) && not (wrong_last T i h.last)) e)

  follow_row : (g : Format) (b : ℕ) (h : Head) (t : ℕ) → meaning T top (follow g b) h ≡ row t → (b ≡ suc t) × (is_sliced g && not (same_bytes h.id (name_of T t)) ≡ false)
  unfolding meaning
  follow_row g zero h t e = let z : ◌≡◌ {A = ℕ} 0 1 = cc in absurd (omega arith)
  follow_row g (suc i) h t e = go (is_sliced g && not (same_bytes h.id (name_of T i))) refl (wrong_last T i h.last) e
    where
      go : (x : Bool) → is_sliced g && not (same_bytes h.id (name_of T i)) ≡ x → (y : Bool) → pick (x || y) (wrong 17) (row i) ≡ row t → (suc i ≡ suc t) × (is_sliced g && not (same_bytes h.id (name_of T t)) ≡ false)
      go true f y e = let z : ◌≡◌ {A = ℕ} 0 1 = cc in absurd (omega arith)
      go false f true e = let z : ◌≡◌ {A = ℕ} 0 1 = cc in absurd (omega arith)
      go false f false e = let it : i ≡ t = cc in (ap suc it, rw it at f)

  module _ (st : Slice.Stage) (h : Head) (t : ℕ) (e : meaning T top st h ≡ row t) where
    -- the owner's rows come next
    pub owners_known : (ps : List Piece) (ss : List Slice) → owners T st (known (name_of T t) ps ∷ ss) ≡ t ∷ upward (chain T) (base T t)
    unfolding owners first_in or_zero upward meaning
    owners_known ps ss = go st e
      where
        go : (st : Slice.Stage) → meaning T top st h ≡ row t → owners T st (known (name_of T t) ps ∷ ss) ≡ t ∷ upward (chain T) (base T t)
        go (seek s) e =
            let N = seek_named h t e in
            let I = named_ok T h.id t N in
            rw (ap (named T) (sym I.2) ∙ N) (chain_node T t)
        go (follow g b) e = rw (follow_row g b h t e).0 (chain_node T t)

    pub first_known : (k : ℕ) (ps : List Piece) (ss : List Slice) → first_from T st k (known (name_of T t) ps ∷ ss) ≡ first_or st k t
    unfolding first_from first_in or_zero first_or meaning
    first_known k ps ss = go st e
      where
        go : (st : Slice.Stage) → meaning T top st h ≡ row t → first_from T st k (known (name_of T t) ps ∷ ss) ≡ first_or st k t
        go (seek s) e =
            let N = seek_named h t e in
            rw (ap (named T) (sym (named_ok T h.id t N).2) ∙ N)
        go (follow g b) e = refl

    -- the row is one of the table, or the base that was due
    pub row_below : (s : Stand) → st ≡ seek s → t < types T
    unfolding meaning
    row_below s q = let f : meaning T top (seek s) h ≡ row t = ap (λ (x : Slice.Stage). meaning T top x h) (sym q) ∙ e in (named_ok T h.id t (seek_named h t f)).0

    pub row_base : (g : Format) (b : ℕ) → st ≡ follow g b → b ≡ suc t
    row_base g b q = (follow_row g b h t (ap (λ (x : Slice.Stage). meaning T top x h) (sym q) ∙ e)).0

    -- an ID that is due is the row's name
    id_name : (xs : List ℕ) (n : ℕ) → Heads (stand_of st) xs h n → due (stand_of st) h.format ≡ true → h.id ≡ name_of T t
    unfolding stand_of due meaning
    id_name xs n H d = go st e H d
      where
        go : (st : Slice.Stage) → meaning T top st h ≡ row t → Heads (stand_of st) xs h n → due (stand_of st) h.format ≡ true → h.id ≡ name_of T t
        go (seek s) e H d = (named_ok T h.id t (seek_named h t e)).2
        go (follow g b) e H d =
            let F = heads_later g xs h n H in
            let s : is_sliced g ≡ true = ap is_sliced (sym F) ∙ d in
            same_bytes_ok h.id (name_of T t) (not-false _ (rw s at (follow_row g b h t e).1))

    known_front : (xs : List ℕ) (n : ℕ) → Heads (stand_of st) xs h n → (last : Bool) (ps : List Piece)
        → length (slice_front h.format (stand_of st) last (known (name_of T t) ps)) ≡ n + pick (is_sliced h.format) 4 0
    unfolding id_of
    known_front xs n H last ps =
        front_weight h.format (stand_of st) last (known (name_of T t) ps)
        ∙ ap (λ (i : ℕ). i + pick (is_sliced h.format) 4 0) (ap (λ (i : ℕ). 1 + i) (go (due (stand_of st) h.format) refl) ∙ sym (head_weight (stand_of st) xs h n H))
      where
        go : (q : Bool) → due (stand_of st) h.format ≡ q → length (pick q (string_bytes (name_of T t)) []) ≡ length (pick q (string_bytes h.id) [])
        go true d = ap (λ (nm : List ℕ). length (string_bytes nm)) (sym (id_name xs n H d))
        go false d = refl

module _ (T : List ℕ) (top : ℕ) (st : Slice.Stage) (xs : List ℕ) (t : ℕ) (opt z : Bool) (a e : ℕ) (O : Opened T top st xs t opt z a e) where
  pub known_place : (last : Bool) (ps : List Piece) → length (slice_front O.h.format (stand_of st) last (known (name_of T t) ps)) ≡ a
  known_place last ps =
      known_front T top st O.h t O.means xs O.front (head_ok (stand_of st) (id_form T st) xs O.h O.front O.heads).0 last ps
      ∙ ap (λ (q : Bool). O.front + pick q 4 0) O.sizes ∙ sym O.start

  pub opened_eats : 1 ≤ a
  opened_eats = omega (arith, O.start, eats_head (stand_of st) (id_form T st) xs O.h O.front O.heads)

  pub opened_sized : z ≡ true → 4 ≤ a
  opened_sized q = go z q O.start
    where
      go : (b : Bool) → b ≡ true → a ≡ O.front + pick b 4 0 → 4 ≤ a
      go true h s = omega arith
      go false h s = let x : ◌≡◌ {A = ℕ} 0 1 = cc in absurd (omega arith)

-- ---- a skipped slice

module _ (T : List ℕ) (top : ℕ) (stage : Stage) (xs : List ℕ) (n : ℕ) (K : Skipped T top (stage_of stage) xs n) where
  -- a skipped slice is sliced: 15 in compact format
  skipped_format : K.h.format ≡ sliced
  unfolding stage_of stand_of id_form due is_none meaning seek_meaning known_meaning
  skipped_format = go stage (head_ok (stand_of (stage_of stage)) (id_form T (stage_of stage)) xs K.h K.front K.heads) K.means
    where
      unknown : (o : Option ℕ) → seek_meaning T top K.h.last o ≡ skip → is_none o ≡ true
      unknown none e = refl
      unknown (some t) e = absurd (skip_none (any (λ r. eqb r top) (chain T t) && not (wrong_last T t K.h.last)) e)
        where
          skip_none : (b : Bool) → pick b (row t) (wrong 17) ≡ skip → ⊥
          skip_none true e = let z : ◌≡◌ {A = ℕ} 0 1 = cc in omega arith
          skip_none false e = let z : ◌≡◌ {A = ℕ} 0 1 = cc in omega arith

      judged_away : (g : Format) (b : Bool) → b ≡ true → ◌≡◌ {A = ℕ} (pick (not (is_sliced g) && b) 15 0) 0 → g ≡ sliced
      judged_away compact true e h = absurd (omega arith)
      judged_away compact false e h = let z : ◌≡◌ {A = ℕ} 0 1 = cc in absurd (omega arith)
      judged_away sliced b e h = refl

      go : (stage : Stage) → Heads (stand_of (stage_of stage)) xs K.h K.front × (due (stand_of (stage_of stage)) K.h.format ≡ true → id_form T (stage_of stage) K.h.format K.h.id ≡ 0)
          → meaning T top (stage_of stage) K.h ≡ skip → K.h.format ≡ sliced
      go First H e = judged_away K.h.format (is_none (named T K.h.id)) (unknown (named T K.h.id) e) (H.1 refl)
      go Seeking H e = heads_later sliced xs K.h K.front H.0
      go (Following s b) H e = absurd (follow_skips T top (pick s sliced compact) b K.h e)

  skipped_due : due (stand_of (stage_of stage)) sliced ≡ true
  unfolding stage_of stand_of due
  skipped_due = go stage
    where
      go : (stage : Stage) → due (stand_of (stage_of stage)) sliced ≡ true
      go First = refl
      go Seeking = refl
      go (Following s b) = refl

  pub passed_end : (last : Bool) → length (slice_front sliced (stand_of (stage_of stage)) last (passed K.h.optionals K.h.id K.part)) + length K.part ≡ n
  unfolding id_of
  passed_end last =
      let H = (head_ok (stand_of (stage_of stage)) (id_form T (stage_of stage)) xs K.h K.front K.heads).0 in
      let w : K.front ≡ 1 + length (string_bytes K.h.id) =
      head_weight (stand_of (stage_of stage)) xs K.h K.front H
      ∙ ap (λ (q : Bool). 1 + length (pick q (string_bytes K.h.id) [])) (ap (due (stand_of (stage_of stage))) skipped_format ∙ skipped_due) in
      let v : length (slice_front sliced (stand_of (stage_of stage)) last (passed K.h.optionals K.h.id K.part)) ≡ 1 + length (string_bytes K.h.id) + 4 =
      front_weight sliced (stand_of (stage_of stage)) last (passed K.h.optionals K.h.id K.part)
      ∙ ap (λ (q : Bool). 1 + length (pick q (string_bytes K.h.id) []) + 4) skipped_due in
      omega (arith, K.sum)

-- none is skipped after a known one
pub passed_never : (T : List ℕ) (top : ℕ) (g : Format) (b : ℕ) (xs : List ℕ) (n : ℕ) → Skipped T top (follow g b) xs n → ⊥
passed_never T top g b xs n K = follow_skips T top g b K.h K.means
