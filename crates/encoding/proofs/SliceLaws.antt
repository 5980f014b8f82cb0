-- The laws of the slices of a record: frame, extent and fuel of their readers.
--
--   closed-                      heads, fields, a known slice's data, slices, and the walk over them have every property that all ways of joining readers keep
--   some_form_ok, _step           bit 2 of the flags asks for at least one optional
--   eats-, starved-              of heads and slices
--   Meant, meant_head            a meaning that is wrong has a refusal's number
--   walk_ended, walk_on          the walk where the row without a base is read, and where it is not
--   walk_fuel                    an accepted walk turns at most once for each byte taken
--   walk_enough, slices_enough   fuel is never used up: any that is not below the bytes left gives the same
use Rattle.std.specs.Prelude.{◌≡◌, Bool, true, ◌&&◌, ◌||◌, length, drop}
use Rattle.std.proofs.Math.Path.{refl, sym, ap}
use Rattle.std.proofs.Common.{◌∙◌, arith}
use Rattle.std.proofs.Math.Bool.{false, not}
use Rattle.std.proofs.Math.Option.{Option, none, some}
use mathlib.Core.List.{List, [], ◌∷◌, ◌++◌}
use Prim.Native.Nat.{ℕ, zero, suc, ◌+◌, ◌≤◌}
use Rattle.std.proofs.Math.ListN.{length-drop}
use Rattle.std.proofs.Math.Dec.{eqb}
use Rattle.encoding.specs.Result.{pick, same_bytes, Res, ok, bad, Parser, shift, after, ◌>>=◌, pure, fail, made, mapc, at_mark}
use Rattle.encoding.proofs.ResultLaws.{Closed, of_contents, Judges, by_pick, held, pick_judges, first_of_judges, none_judges, ok≢bad, Bound, bind_ok, bind_step, mapc_ok, mapc_step, Held, Eats, eats_must, eats_first, eats_recall, Starved, starved_must, starved_bind, starved_recall, at_mark_looks}
use Rattle.encoding.specs.Number.{byte}
use Rattle.encoding.proofs.NumberLaws.{closed_byte, closed_string, closed_declared, ends_declared, eats_byte, starved_byte}
use Rattle.encoding.specs.Table.{any, chain, named, required_members, optional_members, name_of, base}
use Rattle.encoding.specs.Optional.{Piece}
use Rattle.encoding.proofs.OptionalLaws.{closed_optionals, closed_requireds}
use Rattle.encoding.specs.Slice.{Format, sliced, is_sliced, Slice, known, passed, bit, format_of_flags, Stand, first, later, due, flag_form, Head, head, some_form, fields, known_data, Stage, seek, follow, stand_of, finished, Meaning, skip, row, wrong, wrong_last, known_meaning, seek_meaning, is_none, meaning, id_form, meaning_form, enter_slice, slice, Chain, ahead, unless_finished, walk, slices}

-- ---- flags and type ID

module _ (s : Stand) (judge : Format → List ℕ → ℕ) where
  pub eats_head : Eats (head s judge)
  unfolding head
  eats_head = eats_first _ _ (eats_must (flag_form s) byte eats_byte)

  pub starved_head : Starved (head s judge)
  unfolding head
  starved_head = starved_bind _ _ (starved_must (flag_form s) byte starved_byte)

flags_judge : (s : Stand) (f : ℕ) → Judges false (flag_form s f)
unfolding flag_form
flags_judge s f =
    first_of_judges false 14 _ _ refl (first_of_judges false 14 _ _ refl (first_of_judges false 14 _ _ refl
    (first_of_judges false 13 _ _ refl (first_of_judges false 13 _ [] refl (none_judges false)))))

-- bit 2 asks for at least one optional
pub some_form_ok : (ps : List Piece) → some_form ps ≡ 0 → 1 ≤ length ps
unfolding some_form
some_form_ok [] h = absurd (omega arith)
some_form_ok (p ∷ ps) h = omega arith

pub some_form_step : (ps : List Piece) → 1 ≤ length ps → some_form ps ≡ 0
unfolding some_form
some_form_step [] h = absurd (omega arith)
some_form_step (p ∷ ps) h = refl

some_judges : (ps : List Piece) → Judges false (some_form ps)
unfolding some_form
some_judges [] = refl
some_judges (p ∷ ps) = refl

-- a wrong meaning is 16 or 17
abbrev pub Meant : Meaning → Type 0
Meant skip = Unit {0}
Meant (row t) = Unit {0}
Meant (wrong n) = of_contents false n ≡ true

meant_pick : (b : Bool) (m n : Meaning) → Meant m → Meant n → Meant (pick b m n)
meant_pick true m n h k = h
meant_pick false m n h k = k

meant_judges : (m : Meaning) → Meant m → Judges false (meaning_form m)
unfolding meaning_form
meant_judges skip h = refl
meant_judges (row t) h = refl
meant_judges (wrong n) h = go (eqb n 0) (of_contents false n) h
  where
    go : (a b : Bool) → b ≡ true → a || b ≡ true
    go true b e = refl
    go false b e = e

module _ (T : List ℕ) where
  meant_seek : (top : ℕ) (last : Bool) (o : Option ℕ) → Meant (seek_meaning T top last o)
  unfolding seek_meaning known_meaning
  meant_seek top last none = meant_pick last _ _ refl tt
  meant_seek top last (some t) = meant_pick (any (λ r. eqb r top) (chain T t) && not (wrong_last T t last)) (row t) (wrong 17) tt refl

  pub meant_head : (top : ℕ) (st : Stage) (h : Head) → Meant (meaning T top st h)
  unfolding meaning
  meant_head top (seek s) h = meant_seek top h.last (named T h.id)
  meant_head top (follow g zero) h = refl
  meant_head top (follow g (suc t)) h =
      meant_pick (is_sliced g && not (same_bytes h.id (name_of T t)) || wrong_last T t h.last) (wrong 17) (row t) refl tt

  id_judges : (st : Stage) (g : Format) (nm : List ℕ) → Judges false (id_form T st g nm)
  unfolding id_form
  id_judges (seek s) g nm = pick_judges false (not (is_sliced g) && is_none (named T nm)) 15 0 refl refl
  id_judges (follow h b) g nm = refl

module _ (T : List ℕ) (top : ℕ) (st : Stage) where
  judge : Head → ℕ
  judge h = meaning_form (meaning T top st h)

  pub eats_slice : Eats (slice T top st)
  unfolding slice judge
  eats_slice = eats_recall 14 _ (eats_first _ _ (eats_must judge _ (eats_head (stand_of st) (id_form T st))))

  pub starved_slice : Starved (slice T top st)
  unfolding slice judge
  starved_slice = starved_recall _ (starved_bind _ _ (starved_must judge _ (starved_head (stand_of st) (id_form T st))))

-- ---- properties that all ways of joining readers keep

module _ {P : (A : Type 0) → Parser A → Type 0} {Stops : (List ℕ → Option ℕ) → Type 0} (C : Closed false P Stops) where
  -- whatever is judged of the type ID
  pub closed_head : (s : Stand) (judge : Format → List ℕ → ℕ) → ((g : Format) (nm : List ℕ) → Judges false (judge g nm)) → P Head (head s judge)
  unfolding head
  closed_head s judge most =
      C.by_bind _ _ (C.by_must _ (closed_byte C) (flag_form s) (flags_judge s))
      (λ f. C.by_mapc _ (by_pick C (due s (format_of_flags f)) _ _ (C.by_must _ (closed_string C) (judge (format_of_flags f)) (most (format_of_flags f))) (C.by_pure []))
      (λ nm _. record { format = format_of_flags f; optionals = bit f 4; last = bit f 32; id = nm }))

  module _ (marked : Stops at_mark) (T : List ℕ) where
    pub closed_fields : (t : ℕ) (opt : Bool) → P (List Piece) (fields T t opt)
    unfolding fields
    closed_fields t opt =
        C.by_bind _ _ (closed_requireds C (required_members T t))
        (λ a. by_pick C opt _ _ (C.by_mapc _ (C.by_must _ (closed_optionals C at_mark marked (optional_members T t)) some_form some_judges) (λ ps _. a ++ ps)) (C.by_pure a))

    pub closed_known_data : (t : ℕ) (h : Head) → P Slice (known_data T t h)
    unfolding known_data
    closed_known_data t h =
        C.by_mapc _
        (by_pick C (is_sliced h.format) _ _ (C.by_inside _ _ (closed_declared C 4 4) (ends_declared 4 4) (closed_fields t h.optionals)) (closed_fields t h.optionals))
        (λ ps _. known (name_of T t) ps)

    closed_enter : (h : Head) (m : Meaning) → Meant m → P (Slice × Stage) (enter_slice T h m)
    unfolding enter_slice
    closed_enter h skip w = C.by_mapc _ (closed_declared C 4 4) (λ d _. (passed h.optionals h.id d, seek (later sliced)))
    closed_enter h (row t) w = C.by_mapc _ (closed_known_data t h) (λ s _. (s, follow h.format (base T t)))
    closed_enter h (wrong n) w = C.by_fail (Slice × Stage) n w

    pub closed_slice : (top : ℕ) (st : Stage) → P (Slice × Stage) (slice T top st)
    unfolding slice
    closed_slice top st =
        C.by_recall _
        (C.by_bind _ _
        (C.by_must _ (closed_head (stand_of st) (id_form T st) (id_judges T st)) (λ h. meaning_form (meaning T top st h)) (λ h. meant_judges (meaning T top st h) (meant_head T top st h)))
        (λ h. closed_enter h (meaning T top st h) (meant_head T top st h)))
        14

    closed_unless : (p : Parser Chain) (o : Option Format) → P Chain p → P Chain (unless_finished p o)
    unfolding unless_finished
    closed_unless p none x = x
    closed_unless p (some g) x = C.by_pure (record { format = g; list = [] })

    pub closed_walk : (top f : ℕ) (st : Stage) → P Chain (walk T top f st)
    unfolding walk
    closed_walk top zero st = closed_unless (fail 4) (finished st) (C.by_fail Chain 4 refl)
    closed_walk top (suc f) st =
        closed_unless _ (finished st)
        (C.by_bind (slice T top st) _ (closed_slice top st) (λ (r : Slice × Stage). C.by_mapc _ (closed_walk top f r.1) (λ c _. ahead r.0 c)))

pub held_head : (T : List ℕ) (st : Stage) → Held (head (stand_of st) (id_form T st))
held_head T st = closed_head (held false) (stand_of st) (id_form T st) (id_judges T st)

pub held_slice : (T : List ℕ) (top : ℕ) (st : Stage) → Held (slice T top st)
held_slice T top st = closed_slice (held false) at_mark_looks.fits T top st

-- ---- the walk over slices

unless_same : (p q : Parser Chain) (o : Option Format) (xs : List ℕ) → p xs ≡ q xs → unless_finished p o xs ≡ unless_finished q o xs
unfolding unless_finished
unless_same p q none xs e = e
unless_same p q (some g) xs e = refl

module _ (T : List ℕ) (top : ℕ) where
  -- a slice, and the walk from there
  abbrev pub onward : ℕ → Stage → Parser Chain
  onward f st = slice T top st >>= λ (r : Slice × Stage). mapc (λ c _. ahead r.0 c) (walk T top f r.1)

  pub walk_ended : (f : ℕ) (st : Stage) {g : Format} → finished st ≡ some g → walk T top f st ≡ pure (record { format = g; list = [] })
  unfolding walk unless_finished
  walk_ended zero st e = rw e
  walk_ended (suc f) st e = rw e

  pub walk_on : (f : ℕ) (st : Stage) → finished st ≡ none → walk T top (suc f) st ≡ onward f st
  unfolding walk unless_finished
  walk_on f st e = rw e

  starved_onward : (f : ℕ) (st : Stage) → Starved (onward f st)
  starved_onward f st = starved_bind (slice T top st) _ (starved_slice T top st)

  -- a walk of fuel f needs no more turns than it takes bytes
  abbrev pub Fuelled : ℕ → Type 0
  Fuelled f = (st : Stage) (xs : List ℕ) (c : Chain) (n : ℕ) → walk T top f st xs ≡ ok c n → (g : ℕ) → n ≤ g → walk T top g st xs ≡ ok c n

  fuel_turn : (f : ℕ) → Fuelled f → (st : Stage) (xs : List ℕ) (c : Chain) (n : ℕ) → finished st ≡ none
      → Bound (slice T top st) (λ (r : Slice × Stage). mapc (λ c _. ahead r.0 c) (walk T top f r.1)) xs c n → (g : ℕ) → n ≤ g → walk T top g st xs ≡ ok c n
  fuel_turn f ih st xs c n e B zero l = absurd (omega (arith, B.sum, eats_slice T top st xs B.fst B.n B.first))
  fuel_turn f ih st xs c n e B (suc g) l =
      let M = mapc_ok (walk T top f B.fst.1) (drop B.n xs) (λ c _. ahead B.fst.0 c) B.next in
      let R = ih B.fst.1 (drop B.n xs) M.0 B.m M.1 g (omega (arith, B.sum, eats_slice T top st xs B.fst B.n B.first)) in
      ap (λ (p : Parser Chain). p xs) (walk_on g st e)
      ∙ bind_step (slice T top st) _ xs B.first (mapc_step (walk T top g B.fst.1) (drop B.n xs) (λ c _. ahead B.fst.0 c) R)
      ∙ ap (λ (z : Chain). ok z (B.n + B.m)) (sym M.2)
      ∙ ap (ok c) (sym B.sum)

  pub walk_fuel : (f : ℕ) → Fuelled f
  unfolding walk unless_finished fail
  walk_fuel zero st xs c n h g l = go (finished st) refl
    where
      go : (o : Option Format) → finished st ≡ o → walk T top g st xs ≡ ok c n
      go (some k) e = ap (λ (p : Parser Chain). p xs) (walk_ended g st e ∙ sym (walk_ended zero st e)) ∙ h
      go none e = absurd (ok≢bad (rw e at h) refl)
  walk_fuel (suc f) st xs c n h g l = go (finished st) refl (walk_fuel f)
    where
      go : (o : Option Format) → finished st ≡ o → Fuelled f → walk T top g st xs ≡ ok c n
      go (some k) e ih = ap (λ (p : Parser Chain). p xs) (walk_ended g st e ∙ sym (walk_ended (suc f) st e)) ∙ h
      go none e ih = fuel_turn f ih st xs c n e (bind_ok (slice T top st) _ xs (rw e at h)) g l

  pub walk_enough : (f g : ℕ) (st : Stage) (xs : List ℕ) → length xs ≤ f → length xs ≤ g → walk T top f st xs ≡ walk T top g st xs
  unfolding walk ◌>>=◌ after mapc made fail
  walk_enough zero zero st xs h k = refl
  walk_enough zero (suc g) st [] h k = unless_same (fail 4) (onward g st) (finished st) [] (sym (starved_onward g st))
  walk_enough zero (suc g) st (x ∷ xs) h k = absurd (omega arith)
  walk_enough (suc f) zero st [] h k = unless_same (onward f st) (fail 4) (finished st) [] (starved_onward f st)
  walk_enough (suc f) zero st (x ∷ xs) h k = absurd (omega arith)
  walk_enough (suc f) (suc g) st xs h k =
      unless_same (onward f st) (onward g st) (finished st) xs (go (slice T top st xs) refl
      (λ (st' : Stage) (n : ℕ) (l : 1 ≤ n). walk_enough f g st' (drop n xs) (omega (arith, length-drop n xs)) (omega (arith, length-drop n xs))))
    where
      cont : ℕ → Slice × Stage → Parser Chain
      cont i r = mapc (λ c _. ahead r.0 c) (walk T top i r.1)

      go : (r : Res (Slice × Stage)) → slice T top st xs ≡ r → ((st' : Stage) (n : ℕ) → 1 ≤ n → walk T top f st' (drop n xs) ≡ walk T top g st' (drop n xs))
          → after r (cont f) xs ≡ after r (cont g) xs
      go (ok a n) e ih = ap (λ (z : Res Chain). shift n (made (λ c _. ahead a.0 c) z)) (ih a.1 n (eats_slice T top st xs a n e))
      go (bad c q) e ih = refl

  pub slices_enough : (f : ℕ) (xs : List ℕ) → length xs ≤ f → slices T top xs ≡ walk T top f (seek first) xs
  unfolding slices
  slices_enough f xs h = walk_enough (length xs) f (seek first) xs (omega arith) h

pub closed_slices : {P : (A : Type 0) → Parser A → Type 0} {Stops : (List ℕ → Option ℕ) → Type 0} (C : Closed false P Stops) → Stops at_mark → (T : List ℕ) (top : ℕ)
    → P Chain (slices T top)
unfolding slices
closed_slices C marked T top =
    C.by_fuel (λ f. walk T top f (seek first)) (λ f. closed_walk C marked T top f (seek first)) (λ f xs c n h g l. walk_fuel T top f (seek first) xs c n h g l)
