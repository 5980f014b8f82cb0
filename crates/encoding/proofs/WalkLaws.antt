-- The slices of a record, step by step: what follows from acceptance, and when it is given.
--
--   Heads, head_ok               flags and type ID; head_refused where the ID is refused
--   heads_later                  after a slice of a format the flags say the same format
--   Sliced, slice_ok, slice_step one slice; slice_refused where its head is refused
--   Walk, walk_of                a walk over slices that accepts, slice by slice
use Rattle.std.proofs.Math.Path.{◌≡◌, refl, ap}
use Rattle.std.proofs.Common.{sym, ap₂, ◌∙◌, arith}
use Rattle.std.specs.Prelude.{Bool, drop}
use Rattle.std.proofs.Math.Bool.{true, false}
use Rattle.std.specs.Bool.{beq}
use Rattle.std.proofs.Math.Option.{Option, none, some}
use mathlib.Core.List.{List, []}
use Prim.Native.Nat.{ℕ, zero, suc, ◌+◌}
use borrow.Author.Tests.{not-false, ne_eqb}
use Rattle.encoding.specs.Result.{ok, bad, Parser, pick, ◌>>=◌, pure, fail, judged, must, made, mapc, shift, recall, recalled}
use Rattle.encoding.proofs.ResultLaws.{ok≢bad, first_of_ok, Bound, bind_ok, bind_step, bind_bad, bind_next, must_ok, must_step, mapc_ok, recall_ok, recall_step}
use Rattle.encoding.specs.Number.{byte, string}
use Rattle.encoding.proofs.NumberLaws.{byte_canonical}
use Rattle.encoding.specs.Slice.{Format, compact, sliced, is_sliced, Slice, bit, format_of_flags, Stand, later, mixed, due, flag_form, Head, head, Stage, stand_of, finished, meaning, Meaning, id_form, meaning_form, enter_slice, slice, Chain, ahead, unless_finished, walk}

-- ---- flags and type ID

-- what flags f and a type ID make
unfoldable pub head_of : ℕ → List ℕ → Head
head_of f nm = record { format = format_of_flags f; optionals = bit f 4; last = bit f 32; id = nm }

-- flags, and a type ID where one is due
pub record Heads (s : Stand) (xs : List ℕ) (h : Head) (n : ℕ) : Type 0 where
  pub flags : ℕ
  pub id_bytes : ℕ
  pub read : byte xs ≡ ok flags 1
  pub form : flag_form s flags ≡ 0
  pub is : h ≡ head_of flags h.id
  pub id_read_lem : pick (due s h.format) string (pure []) (drop 1 xs) ≡ ok h.id id_bytes
  pub sum : n ≡ 1 + id_bytes

module _ (s : Stand) (j : Format → List ℕ → ℕ) (xs : List ℕ) where
  id_of : ℕ → Parser Head
  id_of f = mapc (λ nm _. record { format = format_of_flags f; optionals = bit f 4; last = bit f 32; id = nm }) (pick (due s (format_of_flags f)) (must (j (format_of_flags f)) string) (pure []))

  pub head_ok : (h : Head) (n : ℕ) → head s j xs ≡ ok h n → Heads s xs h n × (due s h.format ≡ true → j h.format h.id ≡ 0)
  unfolding head id_of head_of
  head_ok h n e = go (bind_ok (must (flag_form s) byte) id_of xs e)
    where
      due_ok : (q : Bool) (g : Format) (nm : List ℕ) (k m : ℕ) → pick q (must (j g) string) (pure []) (drop k xs) ≡ ok nm m
          → (pick q string (pure []) (drop k xs) ≡ ok nm m) × (q ≡ true → j g nm ≡ 0)
      due_ok true g nm k m e = let M = must_ok string (drop k xs) (j g) e in (M.0, λ _. M.1)
      due_ok false g nm k m e = (e, λ z. let u : ◌≡◌ {A = ℕ} 0 1 = cc in absurd (omega arith))

      go : Bound (must (flag_form s) byte) id_of xs h n → Heads s xs h n × (due s h.format ≡ true → j h.format h.id ≡ 0)
      go B =
          let F = must_ok byte xs (flag_form s) B.first in
          let one : B.n ≡ 1 = (byte_canonical xs F.0).1 in
          let M = mapc_ok (pick (due s (format_of_flags B.fst)) (must (j (format_of_flags B.fst)) string) (pure [])) (drop B.n xs)
          (λ nm _. record { format = format_of_flags B.fst; optionals = bit B.fst 4; last = bit B.fst 32; id = nm }) B.next in
          let g : h.format ≡ format_of_flags B.fst = ap (λ (x : Head). x.format) M.2 in
          let i : h.id ≡ M.0 = ap (λ (x : Head). x.id) M.2 in
          let D = due_ok (due s (format_of_flags B.fst)) (format_of_flags B.fst) M.0 B.n B.m M.1 in (
            record {
              flags = B.fst;
              id_bytes = B.m;
              read = F.0 ∙ ap (ok B.fst) one;
              form = F.1;
              is = M.2 ∙ ap (head_of B.fst) (sym i);
              id_read_lem =
                  ap₂ (λ (g : Format) (k : ℕ). pick (due s g) string (pure []) (drop k xs)) g (sym one) ∙ D.0 ∙ ap (λ (nm : List ℕ). ok nm B.m) (sym i);
              sum = omega (arith, B.sum, one);
            },
            λ d. ap₂ j g i ∙ D.1 (ap (due s) (sym g) ∙ d),
          )

  module _ (h : Head) (n : ℕ) (H : Heads s xs h n) where
    same_format : h.format ≡ format_of_flags H.flags
    unfolding head_of
    same_format = ap (λ (x : Head). x.format) H.is

    -- an ID that is due and does not pass its judgement is refused at its own place
    pub head_refused : (c : ℕ) → due s h.format ≡ true → j h.format h.id ≡ suc c → head s j xs ≡ bad (suc c) 1
    unfolding head id_of head_of mapc made must judged shift
    head_refused c d e =
        let I : string (drop 1 xs) ≡ ok h.id H.id_bytes = ap (λ (q : Bool). pick q string (pure []) (drop 1 xs)) (sym d) ∙ H.id_read_lem in
        let R : must (j h.format) string (drop 1 xs) ≡ bad (suc c) 0 = rw (must, I, e, ne_eqb (suc c) 0 (λ z. omega arith)) in
        let Q : pick (due s (format_of_flags H.flags)) (must (j (format_of_flags H.flags)) string) (pure []) (drop 1 xs) ≡ bad (suc c) 0 =
        ap (λ (g : Format). pick (due s g) (must (j g) string) (pure []) (drop 1 xs)) (sym same_format) ∙ ap (λ (q : Bool). pick q (must (j h.format) string) (pure []) (drop 1 xs)) d ∙ R in
        bind_next (must (flag_form s) byte) id_of xs (must_step byte xs (flag_form s) H.read H.form) ∙ ap (λ r. shift 1 (made (λ nm _. head_of H.flags nm) r)) Q

-- after a slice of a format the flags say the same
pub heads_later : (g : Format) (xs : List ℕ) (h : Head) (n : ℕ) → Heads (later g) xs h n → h.format ≡ g
unfolding flag_form mixed head_of
heads_later g xs h n H = ap (λ (x : Head). x.format) H.is ∙ go g (bit H.flags 16) (not-false _ (first_of_ok 13 (mixed (later g) H.flags) _ (first_of_ok 13 _ _ H.form).1).0)
  where
    go : (g : Format) (b : Bool) → beq (is_sliced g) b ≡ true → pick b sliced compact ≡ g
    go compact true h = let z : ◌≡◌ {A = ℕ} 0 1 = cc in absurd (omega arith)
    go compact false h = refl
    go sliced true h = refl
    go sliced false h = let z : ◌≡◌ {A = ℕ} 0 1 = cc in absurd (omega arith)

-- ---- one slice

pub record Sliced (T : List ℕ) (top : ℕ) (st : Stage) (xs : List ℕ) (r : Slice × Stage) (n : ℕ) : Type 0 where
  pub h : Head
  pub head_bytes : ℕ
  pub data_size : ℕ
  pub heads : head (stand_of st) (id_form T st) xs ≡ ok h head_bytes
  pub right : meaning_form (meaning T top st h) ≡ 0
  pub read : enter_slice T h (meaning T top st h) (drop head_bytes xs) ≡ ok r data_size
  pub sum : n ≡ head_bytes + data_size

module _ (T : List ℕ) (top : ℕ) (st : Stage) (xs : List ℕ) where
  judgement : Head → ℕ
  judgement h = meaning_form (meaning T top st h)

  enters : Head → Parser (Slice × Stage)
  enters h = enter_slice T h (meaning T top st h)

  pub slice_ok : (r : Slice × Stage) (n : ℕ) → slice T top st xs ≡ ok r n → Sliced T top st xs r n
  unfolding slice judgement enters
  slice_ok r n e = go (bind_ok (must judgement (head (stand_of st) (id_form T st))) enters xs (recall_ok _ xs 14 e))
    where
      go : Bound (must judgement (head (stand_of st) (id_form T st))) enters xs r n → Sliced T top st xs r n
      go B =
          let M = must_ok (head (stand_of st) (id_form T st)) xs judgement B.first in
          record { h = B.fst; head_bytes = B.n; data_size = B.m; heads = M.0; right = M.1; read = B.next; sum = B.sum }

  pub slice_step : (h : Head) (w : Meaning) (r : Slice × Stage) (k m : ℕ) → head (stand_of st) (id_form T st) xs ≡ ok h k → meaning T top st h ≡ w → meaning_form w ≡ 0
      → enter_slice T h w (drop k xs) ≡ ok r m → slice T top st xs ≡ ok r (k + m)
  unfolding slice judgement enters
  slice_step h w r k m e f z d =
      recall_step _ xs 14 (bind_step (must judgement (head (stand_of st) (id_form T st))) enters xs (must_step (head (stand_of st) (id_form T st)) xs judgement e (ap meaning_form f ∙ z))
      (ap (λ (w : Meaning). enter_slice T h w (drop k xs)) f ∙ d))

  -- a type ID that is refused by 15
  pub slice_refused : (p : ℕ) → head (stand_of st) (id_form T st) xs ≡ bad 15 p → slice T top st xs ≡ bad 15 p
  unfolding slice judgement enters recall recalled must judged
  slice_refused p e = ap (recalled 14) (bind_bad (must judgement (head (stand_of st) (id_form T st))) enters xs (ap (judged judgement) e))

-- ---- the walk

-- a walk that accepts, slice by slice
pub data Walk (T : List ℕ) (top : ℕ) : ℕ → Stage → List ℕ → Chain → ℕ → Type 0 where
  done : {f : ℕ} {st : Stage} {xs : List ℕ} {g : Format} → finished st ≡ some g → Walk T top f st xs (record { format = g; list = [] }) 0
  next : {f : ℕ} {st : Stage} {xs : List ℕ} {sl : Slice} {st' : Stage} {k : ℕ} {c : Chain} {m : ℕ}
      → finished st ≡ none → slice T top st xs ≡ ok (sl, st') k → Walk T top f st' (drop k xs) c m → Walk T top (suc f) st xs (ahead sl c) (k + m)

module _ (T : List ℕ) (top : ℕ) where
  continue : ℕ → Slice × Stage → Parser Chain
  continue f r = mapc (λ c _. ahead r.0 c) (walk T top f r.1)

  pub walk_of : (f : ℕ) (st : Stage) (xs : List ℕ) {c : Chain} {n : ℕ} → walk T top f st xs ≡ ok c n → Walk T top f st xs c n
  unfolding walk unless_finished fail pure continue
  walk_of zero st xs {c} {n} e = go (finished st) refl e
    where
      go : (o : Option Format) → finished st ≡ o → unless_finished (fail 4) o xs ≡ ok c n → Walk T top zero st xs c n
      go none d e = absurd (ok≢bad e refl)
      go (some g) d e = let ec : c ≡ record { format = g; list = [] } = cc in let en : n ≡ 0 = cc in rw (ec, en) (done d)
  walk_of (suc f) st xs {c} {n} e = go (finished st) refl e (λ (st' : Stage) (ys : List ℕ) (c' : Chain) (m : ℕ) h. walk_of f st' ys {c = c'} {n = m} h)
    where
      go₂ : Bound (slice T top st) (continue f) xs c n → finished st ≡ none
          → ((st' : Stage) (ys : List ℕ) (c' : Chain) (m : ℕ) → walk T top f st' ys ≡ ok c' m → Walk T top f st' ys c' m) → Walk T top (suc f) st xs c n
      go₂ B d ih =
          let M = mapc_ok (walk T top f B.fst.1) (drop B.n xs) (λ c _. ahead B.fst.0 c) B.next in
          rw (B.sum, M.2) (next d B.first (ih B.fst.1 (drop B.n xs) M.0 B.m M.1))

      go : (o : Option Format) → finished st ≡ o → unless_finished (slice T top st >>= continue f) o xs ≡ ok c n
          → ((st' : Stage) (ys : List ℕ) (c' : Chain) (m : ℕ) → walk T top f st' ys ≡ ok c' m → Walk T top f st' ys c' m) → Walk T top (suc f) st xs c n
      go none d e ih = go₂ (bind_ok (slice T top st) (continue f) xs e) d ih
      go (some g) d e ih = let ec : c ≡ record { format = g; list = [] } = cc in let en : n ≡ 0 = cc in rw (ec, en) (done d)
