-- The planner: its answer, and the loop that writes the entries, one message a turn. Assumes nothing.
--
--   plan_count               a plan has an entry for each message
--   filled                   the lent list after the loop
--   Putting, putting_..      the messages left make the rest of the lent list
--   answer_..                the answer by the first message that is too long and the room
--   listed_..                the lent list after the call
use Rattle.std.proofs.Common.{◌≡◌, ℕ, suc, ◌+◌, ◌-◌, ◌*◌, ◌/◌, ◌<◌, ◌≤◌, Bool, true, false, leb, List, [], ◌∷◌, ◌++◌, length, get_or, take, drop, set, Option, Some, None, sym, refl, ap, ◌∙◌, ap₂, append_assoc, add-one, arith, length-set, take-append-drop, drop-cons, take-suc-set, drop-set-lt, le-leb, leb-true}
use borrow.Author.Tests.{lt-leb}
use Rattle.encoding.specs.Result.{pick}
use Rattle.bursts.specs.declared.Planned.{Planned}
use Rattle.bursts.specs.declared.Planned.TheVariants.{Made, Unplanned}
use Rattle.bursts.specs.Bursts.{Waiting, most, waitings, message_at, length_of, too_long, fill, plan, Plan, plan_of, no_plan, entry_room, plan_within, planning, entry_numbers, plan_listed, planned_of}
use Rattle.bursts.proofs.RunningLaws.{drop_all}
use Rattle.bursts.proofs.PairLaws.{waitings_count, length_at}

-- ---- the loop

fill_count : (i b left : ℕ) (ws : List Waiting) → length (fill i b left ws) ≡ length ws
unfolding fill
fill_count i b left [] = refl
fill_count i b left (w ∷ ws) = ap suc (fill_count (suc i) _ _ ws)

plan_count : (ws : List Waiting) → length (plan ws) ≡ length ws
unfolding plan
plan_count ws = fill_count 0 0 most ws

-- the list that the planner makes of a lent one
abbrev pub filled : List ℕ → List ℕ → List ℕ
filled ms lent = entry_numbers (plan (waitings ms)) ++ drop (2 * (length ms / 2)) lent

-- the first i entries as they are, the rest made of the messages left
abbrev to_fill : List ℕ → List ℕ → ℕ → ℕ → ℕ → List ℕ
to_fill ms out i burst left = take (2 * i) out ++ (entry_numbers (fill i burst left (drop i (waitings ms))) ++ drop (2 * (length ms / 2)) out)

pub record Putting (ms lent out : List ℕ) (i burst left : ℕ) : Type 0 where
  pub inside : i ≤ length ms / 2
  pub kept : length out ≡ length lent
  pub few : burst ≤ i
  pub rest : filled ms lent ≡ to_fill ms out i burst left

pub putting_begin : (ms lent : List ℕ) → Putting ms lent lent 0 0 most
unfolding plan
putting_begin ms lent = record { inside = omega arith; kept = refl; few = omega arith; rest = refl }

-- one message more
fill_step : (i b left b' left' : ℕ) (w : Waiting) (ws : List Waiting) → b' ≡ pick (leb w.bytes left) b (suc b) → left' ≡ pick (leb w.bytes left) left most - w.bytes
    → entry_numbers (fill i b left (w ∷ ws)) ≡ i ∷ b' ∷ entry_numbers (fill (suc i) b' left' ws)
unfolding fill entry_numbers
fill_step i b left b' left' w ws e f = rw (e, f)

-- the first numbers of a list after two more are written
take_two : (l : List ℕ) (k a b : ℕ) → suc k < length l → take (suc (suc k)) (set (set l k a) (suc k) b) ≡ take k l ++ (a ∷ []) ++ (b ∷ [])
take_two l k a b h =
    take-suc-set (set l k a) (suc k) b (simp length-set h) ∙ ap (λ (x : List ℕ). x ++ (b ∷ [])) (take-suc-set l k a (omega arith))

few_next : (t : Bool) (i b b' : ℕ) → b ≤ i → b' ≡ pick t b (suc b) → b' ≤ i + 1
few_next true i b b' h e = omega arith
few_next false i b b' h e = omega arith

module _ (ms lent out : List ℕ) (i burst left : ℕ) (p : Putting ms lent out i burst left) where
  module _ (room : length ms / 2 ≤ length lent / 2) (h : i < length ms / 2) (b left' : ℕ)
      (e : b ≡ pick (leb (get_or ms (2 * i) 0) left) burst (suc burst))
      (f : left' ≡ pick (leb (get_or ms (2 * i) 0) left) left most - get_or ms (2 * i) 0) where
    bytes : (message_at (waitings ms) i).bytes ≡ get_or ms (2 * i) 0
    unfolding length_of message_at
    bytes = length_at ms i h

    split : entry_numbers (fill i burst left (drop i (waitings ms))) ≡ i ∷ b ∷ entry_numbers (fill (suc i) b left' (drop (suc i) (waitings ms)))
    unfolding message_at
    split =
        ap (λ (x : List Waiting). entry_numbers (fill i burst left x)) (drop-cons (waitings ms) i _ (omega (arith, waitings_count ms)))
        ∙ fill_step i burst left b left' (message_at (waitings ms) i) (drop (suc i) (waitings ms))
        (e ∙ ap (λ (n : ℕ). pick (leb n left) burst (suc burst)) (sym bytes))
        (f ∙ ap (λ (n : ℕ). pick (leb n left) left most - n) (sym bytes))

    regroup : (x y z : List ℕ) → x ++ ((i ∷ b ∷ y) ++ z) ≡ x ++ (i ∷ []) ++ (b ∷ []) ++ (y ++ z)
    regroup x y z = simp append_assoc

    pub putting_next : Putting ms lent (set (set out (2 * i) i) (2 * i + 1) b) (i + 1) b left'
    putting_next = record {
      inside = omega arith;
      kept = simp length-set p.kept;
      few = few_next (leb (get_or ms (2 * i) 0) left) i burst b p.few e;
      rest = p.rest ∙ ap (λ (x : List ℕ). take (2 * i) out ++ (x ++ drop (2 * (length ms / 2)) out)) split ∙ regroup (take (2 * i) out) (entry_numbers (fill (suc i) b left' (drop (suc i) (waitings ms)))) (drop (2 * (length ms / 2)) out) ∙ ap₂ (λ (x y : List ℕ). x ++ (entry_numbers (fill (suc i) b left' (drop (suc i) (waitings ms))) ++ y)) (sym front) (sym behind) ∙ rw (add-one i);
    }
      where
        wide : suc (2 * i) < length out
        wide = let k = p.kept in omega arith

        places : set (set out (2 * i) i) (2 * i + 1) b ≡ set (set out (2 * i) i) (suc (2 * i)) b
        places = rw add-one

        front : take (2 * suc i) (set (set out (2 * i) i) (2 * i + 1) b) ≡ take (2 * i) out ++ (i ∷ []) ++ (b ∷ [])
        front = let z : 2 * suc i ≡ suc (suc (2 * i)) = omega arith in ap₂ (λ (n : ℕ) (x : List ℕ). take n x) z places ∙ take_two out (2 * i) i b wide

        behind : drop (2 * (length ms / 2)) (set (set out (2 * i) i) (2 * i + 1) b) ≡ drop (2 * (length ms / 2)) out
        behind = drop-set-lt (2 * (length ms / 2)) (set out (2 * i) i) (2 * i + 1) b (omega arith) ∙ drop-set-lt (2 * (length ms / 2)) out (2 * i) i (omega arith)

  pub putting_done : length ms / 2 ≤ i → out ≡ filled ms lent
  unfolding fill entry_numbers
  putting_done h =
      let z : i ≡ length ms / 2 = let l = p.inside in omega arith in
      sym (p.rest ∙ ap (λ (x : List Waiting). take (2 * i) out ++ (entry_numbers (fill i burst left x) ++ drop (2 * (length ms / 2)) out)) (drop_all i (waitings ms) (omega (arith, waitings_count ms))) ∙ ap (λ (n : ℕ). take (2 * n) out ++ drop (2 * (length ms / 2)) out) z ∙ take-append-drop (2 * (length ms / 2)) out)

-- ---- the answer

module _ (ms : List ℕ) (room : ℕ) where
  pub answer_long : (m : ℕ) → Some m ≡ too_long 0 (waitings ms) → Unplanned 45 m ≡ planned_of (planning ms room)
  unfolding planning plan_within planned_of
  answer_long m q = rw (← q)

  pub answer_made : None ≡ too_long 0 (waitings ms) → length ms / 2 ≤ room / 2 → Made (length ms / 2) ≡ planned_of (planning ms room)
  unfolding planning plan_within planned_of entry_room
  answer_made q h = rw (← q, waitings_count ms, le-leb (length ms / 2) (room / 2) h) (sym (ap Made (plan_count (waitings ms) ∙ waitings_count ms)))

  pub answer_short : None ≡ too_long 0 (waitings ms) → room / 2 < length ms / 2 → Unplanned 19 (length ms / 2) ≡ planned_of (planning ms room)
  unfolding planning plan_within planned_of entry_room
  answer_short q h = rw (← q, waitings_count ms, lt-leb (length ms / 2) (room / 2) h)

-- ---- the lent list

made≢unplanned : {p : Planned} {n c q : ℕ} → p ≡ Made n → p ≡ Unplanned c q → ⊥
made≢unplanned e h = cc

module _ (ms lent : List ℕ) (p : Planned) (e : p ≡ planned_of (planning ms (length lent))) where
  module _ (n : ℕ) (q : p ≡ Made n) where
    -- a plan was made: there is room for it
    made : (planning ms (length lent) ≡ plan_of (plan (waitings ms))) × (length ms / 2 ≤ length lent / 2)
    unfolding planning plan_within planned_of entry_room
    made = go (too_long 0 (waitings ms)) refl (leb (length (waitings ms)) (length lent / 2)) refl
      where
        go : (o : Option ℕ) → too_long 0 (waitings ms) ≡ o → (t : Bool) → leb (length (waitings ms)) (length lent / 2) ≡ t
            → (plan_within (waitings ms) (length lent / 2) (too_long 0 (waitings ms)) ≡ plan_of (plan (waitings ms))) × (length ms / 2 ≤ length lent / 2)
        go (Some i) w t v = absurd (made≢unplanned q (e ∙ ap (λ (o : Option ℕ). planned_of (plan_within (waitings ms) (length lent / 2) o)) w))
        go None w false v = absurd (made≢unplanned q (e ∙ ap (λ (o : Option ℕ). planned_of (plan_within (waitings ms) (length lent / 2) o)) w ∙ few))
          where
            few : planned_of (plan_within (waitings ms) (length lent / 2) None) ≡ Unplanned 19 (length (waitings ms))
            few = rw v
        go None w true v = (ap (plan_within (waitings ms) (length lent / 2)) w ∙ enough, omega (arith, waitings_count ms, leb-true (length (waitings ms)) (length lent / 2) v))
          where
            enough : plan_within (waitings ms) (length lent / 2) None ≡ plan_of (plan (waitings ms))
            enough = rw v

    pub listed_room : length ms / 2 ≤ length lent / 2
    listed_room = made.1

    pub listed_plan : (out : List ℕ) → out ≡ filled ms lent → out ≡ plan_listed (planning ms (length lent)) lent
    unfolding plan_listed
    listed_plan out f = f ∙ ap (λ (k : ℕ). entry_numbers (plan (waitings ms)) ++ drop (2 * k) lent) (sym (plan_count (waitings ms) ∙ waitings_count ms)) ∙ ap (λ (x : Plan). plan_listed x lent) (sym made.0)

  module _ (c k : ℕ) (q : p ≡ Unplanned c k) where
    pub listed_kept : lent ≡ plan_listed (planning ms (length lent)) lent
    unfolding plan_listed planned_of
    listed_kept = go (planning ms (length lent)) refl
      where
        go : (x : Plan) → planning ms (length lent) ≡ x → lent ≡ plan_listed (planning ms (length lent)) lent
        go (plan_of es) w = absurd (made≢unplanned (e ∙ ap planned_of w) q)
        go (no_plan a b) w = sym (ap (λ (x : Plan). plan_listed x lent) w)
