-- The laws of 1.0: its types, and its pairs: what they take and where they refuse, and the walk over them step by step.
--
--   fixed_as, fixed_same           a type is fixed_size in both encodings or in neither; a fixed_size type is the same in both
--   rises_as, members_rise_as      the lists of a type rise in both encodings
--   Seventeen, pair_wrong          the one number of a wrong meaning
--   eats_id_pair, starved_id_pair    a pair takes a byte; where no byte is left its type ID is 4
--   closed_id_pair, closed_id_pairs  they have every property that all ways of joining readers keep; held_id_pair the extent
--   pairs_ended, pairs_on          the walk over pairs: at its end, and one pair on
--   pairs_fuel, pairs_enough       it needs no more turns than it takes bytes; more fuel changes nothing
--   Paired, pair_ok, pair_step     one pair: its type ID, its meaning, and what follows
--   PairWalk, pairs_of, of-pairs   a walk over pairs that accepts, pair by pair
use Rattle.std.specs.Prelude.{◌≡◌, Bool, ◌&&◌, length, drop}
use Rattle.std.proofs.Math.Path.{refl, sym, ap}
use Rattle.std.proofs.Common.{ap₂, ◌∙◌, subst, arith}
use Rattle.std.proofs.Math.Bool.{true, false}
use Rattle.std.proofs.lemmas.Bool.{false≢true}
use Rattle.std.proofs.Math.Option.{Option, none, some}
use mathlib.Core.List.{List, [], ◌∷◌, map}
use Prim.Native.Nat.{ℕ, zero, suc, ◌+◌, ◌≤◌}
use Rattle.std.proofs.Math.ListN.{length-drop}
use Rattle.encoding.specs.Result.{Res, ok, bad, Parser, pick, shift, after, ◌>>=◌, pure, fail, must, made, mapc, same_bytes}
use Rattle.encoding.proofs.ResultLaws.{Closed, Judges, by_pick, held, ok≢bad, both_true, Bound, bind_ok, bind_step, must_ok, must_step, mapc_ok, mapc_step, pure_ok, Held, Eats, eats_first, eats_must, Starved, starved_bind, starved_must}
use Rattle.encoding.specs.Number
use Rattle.encoding.proofs.NumberLaws.{closed_declared, closed_string, ends_declared, eats_string, starved_string}
use Rattle.encoding.specs.Types.{Ty, Tys, nil, cons, broken, bool, byte, string, proxy, old_proxy, num, enum, old_enum, struct, seq, dict, fixed, fixeds}
use Rattle.encoding.specs.Grammar.{ListsRise, AllRise}
use Rattle.encoding.proofs.ListLaws.{MembersRise}
use Rattle.encoding.specs.Table.{Member, required_members, name_of, named, base}
use Rattle.encoding.proofs.OptionalLaws.{closed_requireds}
use Rattle.encoding.specs.Slice.{Slice, known, passed, Meaning, skip, row, wrong, meaning_form}
use Rattle.encoding.specs.Old.{as_old, as_olds, type_as, old_member, members_as, descends, PairStage, any_pair, pair_of, first_meaning, pair_meaning, enter_pair, id_pair, none_due, walk_pairs, id_pairs}

-- ---- types

mutual
  unfolding as_old as_olds fixed fixeds

  fixed_old : (t : Ty) → fixed (as_old t) ≡ fixed t
  fixed_old broken = refl
  fixed_old bool = refl
  fixed_old byte = refl
  fixed_old string = refl
  fixed_old proxy = refl
  fixed_old old_proxy = refl
  fixed_old (num w) = refl
  fixed_old (enum g) = refl
  fixed_old (old_enum g) = refl
  fixed_old (struct ts) = fixeds_old ts
  fixed_old (seq t) = refl
  fixed_old (dict k v) = refl

  fixeds_old : (ts : Tys) → fixeds (as_olds ts) ≡ fixeds ts
  fixeds_old nil = refl
  fixeds_old (cons t ts) = ap₂ ◌&&◌ (fixed_old t) (fixeds_old ts)

mutual
  unfolding as_old as_olds fixed fixeds

  same_old : (t : Ty) → fixed t ≡ true → as_old t ≡ t
  same_old broken f = refl
  same_old bool f = refl
  same_old byte f = refl
  same_old string f = refl
  same_old proxy f = absurd (false≢true f)
  same_old old_proxy f = refl
  same_old (num w) f = refl
  same_old (enum g) f = absurd (false≢true f)
  same_old (old_enum g) f = refl
  same_old (struct ts) f = ap struct (sames_old ts f)
  same_old (seq t) f = absurd (false≢true f)
  same_old (dict k v) f = absurd (false≢true f)

  sames_old : (ts : Tys) → fixeds ts ≡ true → as_olds ts ≡ ts
  sames_old nil f = refl
  sames_old (cons t ts) f = let b = both_true (fixed t) (fixeds ts) f in ap₂ cons (same_old t b.0) (sames_old ts b.1)

pub fixed_as : (old : Bool) (t : Ty) → fixed (type_as old t) ≡ fixed t
fixed_as true t = fixed_old t
fixed_as false t = refl

pub fixed_same : (old : Bool) (t : Ty) → fixed t ≡ true → type_as old t ≡ t
fixed_same true t f = same_old t f
fixed_same false t f = refl

mutual
  unfolding as_old as_olds ListsRise AllRise

  rises_old : (t : Ty) → ListsRise t → ListsRise (as_old t)
  rises_old broken R = tt
  rises_old bool R = tt
  rises_old byte R = tt
  rises_old string R = tt
  rises_old proxy R = tt
  rises_old old_proxy R = tt
  rises_old (num w) R = tt
  rises_old (enum g) R = R
  rises_old (old_enum g) R = R
  rises_old (struct ts) R = all_old ts R
  rises_old (seq t) R = rises_old t R
  rises_old (dict k v) R = (rises_old k R.0, rises_old v R.1)

  all_old : (ts : Tys) → AllRise ts → AllRise (as_olds ts)
  all_old nil R = tt
  all_old (cons t ts) R = (rises_old t R.0, all_old ts R.1)

pub rises_as : (old : Bool) (t : Ty) → ListsRise t → ListsRise (type_as old t)
rises_as true t R = rises_old t R
rises_as false t R = R

pub members_rise_as : (old : Bool) (ms : List Member) → MembersRise ms → MembersRise (members_as old ms)
unfolding old_member
members_rise_as false ms R = R
members_rise_as true ms R = go ms R
  where
    go : (ms : List Member) → MembersRise ms → MembersRise (map old_member ms)
    go [] R = tt
    go (m ∷ ms) R = (rises_old m.ty R.0, go ms R.1)

-- ---- one pair

-- a wrong meaning is 17
abbrev pub Seventeen : Meaning → Type 0
Seventeen skip = Unit {0}
Seventeen (row t) = Unit {0}
Seventeen (wrong n) = n ≡ 17

seventeen_judges : (old : Bool) (m : Meaning) → Seventeen m → Judges old (meaning_form m)
unfolding meaning_form
seventeen_judges old skip h = refl
seventeen_judges old (row t) h = refl
seventeen_judges old (wrong n) h = rw h

module _ (T : List ℕ) (top : ℕ) where
  pub pair_wrong : (d : PairStage) (nm : List ℕ) → Seventeen (pair_meaning T top d nm)
  unfolding pair_meaning first_meaning
  pair_wrong any_pair nm = go (named T nm)
    where
      top_or_below : (b : Bool) (t : ℕ) → Seventeen (pick b (row t) (wrong 17))
      top_or_below true t = tt
      top_or_below false t = refl

      go : (o : Option ℕ) → Seventeen (first_meaning T top o)
      go none = tt
      go (some t) = top_or_below (descends T top t) t
  pair_wrong (pair_of zero) nm = refl
  pair_wrong (pair_of (suc t)) nm = go (same_bytes nm (name_of T t))
    where
      go : (b : Bool) → Seventeen (pick b (row t) (wrong 17))
      go true = tt
      go false = refl

  -- what is judged of a type ID
  abbrev pub meant : PairStage → List ℕ → ℕ
  meant d nm = meaning_form (pair_meaning T top d nm)

  pub eats_id_pair : (d : PairStage) → Eats (id_pair T top d)
  unfolding id_pair
  eats_id_pair d = eats_first _ _ (eats_must (meant d) Number.string eats_string)

  pub starved_id_pair : (d : PairStage) → Starved (id_pair T top d)
  unfolding id_pair
  starved_id_pair d = starved_bind _ _ (starved_must (meant d) Number.string starved_string)

-- ---- properties that all ways of joining readers keep

-- no number of a pair is one encoding's own
module _ {old : Bool} {P : (A : Type 0) → Parser A → Type 0} {Stops : (List ℕ → Option ℕ) → Type 0} (C : Closed old P Stops) (T : List ℕ) where
  closed_enter_pair : (nm : List ℕ) (m : Meaning) → Seventeen m → P (Slice × PairStage) (enter_pair T nm m)
  unfolding enter_pair
  closed_enter_pair nm skip w = C.by_mapc _ (closed_declared C 4 4) (λ d _. (passed false nm d, any_pair))
  closed_enter_pair nm (row t) w =
      C.by_mapc _ (C.by_inside _ _ (closed_declared C 4 4) (ends_declared 4 4) (closed_requireds C (members_as true (required_members T t)))) (λ ps _. (known (name_of T t) ps, pair_of (base T t)))
  closed_enter_pair nm (wrong n) w = C.by_fail (Slice × PairStage) n (rw w)

  pub closed_id_pair : (top : ℕ) (d : PairStage) → P (Slice × PairStage) (id_pair T top d)
  unfolding id_pair
  closed_id_pair top d =
      C.by_bind _ _ (C.by_must _ (closed_string C) (meant T top d) (λ nm. seventeen_judges old (pair_meaning T top d nm) (pair_wrong T top d nm)))
      (λ nm. closed_enter_pair nm (pair_meaning T top d nm) (pair_wrong T top d nm))

  pub closed_walk_pairs : (top f : ℕ) (d : PairStage) → P (List Slice) (walk_pairs T top f d)
  unfolding walk_pairs
  closed_walk_pairs top zero d = by_pick C (none_due d) _ _ (C.by_pure []) (C.by_fail (List Slice) 4 refl)
  closed_walk_pairs top (suc f) d =
      by_pick C (none_due d) _ _ (C.by_pure [])
      (C.by_bind (id_pair T top d) _ (closed_id_pair top d) (λ (r : Slice × PairStage). C.by_mapc _ (closed_walk_pairs top f r.1) (λ ss _. r.0 ∷ ss)))

pub held_id_pair : (T : List ℕ) (top : ℕ) (d : PairStage) → Held (id_pair T top d)
held_id_pair = closed_id_pair (held true)

-- ---- the walk over pairs

module _ (T : List ℕ) (top : ℕ) where
  -- a pair, and the walk from there
  abbrev pub onward_pairs : ℕ → PairStage → Parser (List Slice)
  onward_pairs f d = id_pair T top d >>= λ (r : Slice × PairStage). mapc (λ ss _. r.0 ∷ ss) (walk_pairs T top f r.1)

  pub pairs_ended : (f : ℕ) (d : PairStage) → none_due d ≡ true → walk_pairs T top f d ≡ pure []
  unfolding walk_pairs
  pairs_ended zero d e = rw e
  pairs_ended (suc f) d e = rw e

  pub pairs_on : (f : ℕ) (d : PairStage) → none_due d ≡ false → walk_pairs T top (suc f) d ≡ onward_pairs f d
  unfolding walk_pairs
  pairs_on f d e = rw e

  -- a walk of fuel f needs no more turns than it takes bytes
  abbrev pub FuelledPairs : ℕ → Type 0
  FuelledPairs f = (d : PairStage) (xs : List ℕ) (ss : List Slice) (n : ℕ) → walk_pairs T top f d xs ≡ ok ss n → (g : ℕ) → n ≤ g → walk_pairs T top g d xs ≡ ok ss n

  fuel_turn : (f : ℕ) → FuelledPairs f → (d : PairStage) (xs : List ℕ) (ss : List Slice) (n : ℕ) → none_due d ≡ false
      → Bound (id_pair T top d) (λ (r : Slice × PairStage). mapc (λ ss _. r.0 ∷ ss) (walk_pairs T top f r.1)) xs ss n → (g : ℕ) → n ≤ g → walk_pairs T top g d xs ≡ ok ss n
  fuel_turn f ih d xs ss n e B zero l = absurd (omega (arith, B.sum, eats_id_pair T top d xs B.fst B.n B.first))
  fuel_turn f ih d xs ss n e B (suc g) l =
      let M = mapc_ok (walk_pairs T top f B.fst.1) (drop B.n xs) (λ ss _. B.fst.0 ∷ ss) B.next in
      let R = ih B.fst.1 (drop B.n xs) M.0 B.m M.1 g (omega (arith, B.sum, eats_id_pair T top d xs B.fst B.n B.first)) in
      ap (λ (p : Parser (List Slice)). p xs) (pairs_on g d e)
      ∙ bind_step (id_pair T top d) _ xs B.first (mapc_step (walk_pairs T top g B.fst.1) (drop B.n xs) (λ ss _. B.fst.0 ∷ ss) R)
      ∙ ap (λ (z : List Slice). ok z (B.n + B.m)) (sym M.2)
      ∙ ap (ok ss) (sym B.sum)

  pub pairs_fuel : (f : ℕ) → FuelledPairs f
  unfolding walk_pairs fail
  pairs_fuel zero d xs ss n h g l = go (none_due d) refl
    where
      go : (b : Bool) → none_due d ≡ b → walk_pairs T top g d xs ≡ ok ss n
      go true e = ap (λ (p : Parser (List Slice)). p xs) (pairs_ended g d e ∙ sym (pairs_ended zero d e)) ∙ h
      go false e = absurd (ok≢bad (rw e at h) refl)
  pairs_fuel (suc f) d xs ss n h g l = go (none_due d) refl (pairs_fuel f)
    where
      go : (b : Bool) → none_due d ≡ b → FuelledPairs f → walk_pairs T top g d xs ≡ ok ss n
      go true e ih = ap (λ (p : Parser (List Slice)). p xs) (pairs_ended g d e ∙ sym (pairs_ended (suc f) d e)) ∙ h
      go false e ih = fuel_turn f ih d xs ss n e (bind_ok (id_pair T top d) _ xs (rw e at h)) g l

  pick_same : (p q r : Parser (List Slice)) (b : Bool) (xs : List ℕ) → p xs ≡ q xs → pick b r p xs ≡ pick b r q xs
  pick_same p q r true xs e = refl
  pick_same p q r false xs e = e

  pub pairs_enough : (f g : ℕ) (d : PairStage) (xs : List ℕ) → length xs ≤ f → length xs ≤ g → walk_pairs T top f d xs ≡ walk_pairs T top g d xs
  unfolding walk_pairs ◌>>=◌ after mapc made fail
  pairs_enough zero zero d xs h k = refl
  pairs_enough zero (suc g) d [] h k = pick_same (fail 4) (onward_pairs g d) (pure []) (none_due d) [] (sym (starved_bind (id_pair T top d) _ (starved_id_pair T top d)))
  pairs_enough zero (suc g) d (x ∷ xs) h k = absurd (omega arith)
  pairs_enough (suc f) zero d [] h k = pick_same (onward_pairs f d) (fail 4) (pure []) (none_due d) [] (starved_bind (id_pair T top d) _ (starved_id_pair T top d))
  pairs_enough (suc f) zero d (x ∷ xs) h k = absurd (omega arith)
  pairs_enough (suc f) (suc g) d xs h k =
      pick_same (onward_pairs f d) (onward_pairs g d) (pure []) (none_due d) xs (go (id_pair T top d xs) refl
      (λ (d' : PairStage) (n : ℕ) (l : 1 ≤ n). pairs_enough f g d' (drop n xs) (omega (arith, length-drop n xs)) (omega (arith, length-drop n xs))))
    where
      cont : ℕ → Slice × PairStage → Parser (List Slice)
      cont i r = mapc (λ ss _. r.0 ∷ ss) (walk_pairs T top i r.1)

      go : (r : Res (Slice × PairStage)) → id_pair T top d xs ≡ r → ((d' : PairStage) (n : ℕ) → 1 ≤ n → walk_pairs T top f d' (drop n xs) ≡ walk_pairs T top g d' (drop n xs))
          → after r (cont f) xs ≡ after r (cont g) xs
      go (ok a n) e ih = ap (λ (z : Res (List Slice)). shift n (made (λ ss _. a.0 ∷ ss) z)) (ih a.1 n (eats_id_pair T top d xs a n e))
      go (bad c q) e ih = refl

pub closed_id_pairs : {old : Bool} {P : (A : Type 0) → Parser A → Type 0} {Stops : (List ℕ → Option ℕ) → Type 0} (C : Closed old P Stops) (T : List ℕ) (top : ℕ) → P (List Slice) (id_pairs T top)
unfolding id_pairs
closed_id_pairs C T top =
    C.by_fuel (λ f. walk_pairs T top f any_pair) (λ f. closed_walk_pairs C T top f any_pair) (λ f xs ss n h g l. pairs_fuel T top f any_pair xs ss n h g l)

-- ---- step by step

-- one pair: its type ID, which means something, and what follows
pub record Paired (T : List ℕ) (top : ℕ) (d : PairStage) (xs : List ℕ) (r : Slice × PairStage) (n : ℕ) : Type 0 where
  pub id : List ℕ
  pub id_bytes : ℕ
  pub data_size : ℕ
  pub id_read_lem : Number.string xs ≡ ok id id_bytes
  pub right : meaning_form (pair_meaning T top d id) ≡ 0
  pub read : enter_pair T id (pair_meaning T top d id) (drop id_bytes xs) ≡ ok r data_size
  pub sum : n ≡ id_bytes + data_size

module _ (T : List ℕ) (top : ℕ) (d : PairStage) (xs : List ℕ) (r : Slice × PairStage) (n : ℕ) where
  pub pair_ok : id_pair T top d xs ≡ ok r n → Paired T top d xs r n
  unfolding id_pair
  pair_ok h =
      let B = bind_ok (must (meant T top d) Number.string) (λ nm. enter_pair T nm (pair_meaning T top d nm)) xs h in
      let M = must_ok Number.string xs (meant T top d) B.first in
      record { id = B.fst; id_bytes = B.n; data_size = B.m; id_read_lem = M.0; right = M.1; read = B.next; sum = B.sum }

  pub pair_step : Paired T top d xs r n → id_pair T top d xs ≡ ok r n
  unfolding id_pair
  pair_step U =
      bind_step (must (meant T top d) Number.string) (λ nm. enter_pair T nm (pair_meaning T top d nm)) xs (must_step Number.string xs (meant T top d) U.id_read_lem U.right) U.read
      ∙ ap (ok r) (sym U.sum)

-- a walk over pairs that accepts: no pair is due, or a pair and the walk from there
pub data PairWalk (T : List ℕ) (top : ℕ) : PairStage → List ℕ → List Slice → ℕ → Type 0 where
  last : {d : PairStage} {xs : List ℕ} → none_due d ≡ true → PairWalk T top d xs [] 0
  more : {d : PairStage} {xs : List ℕ} {r : Slice × PairStage} {ss : List Slice} {n m : ℕ} → none_due d ≡ false → id_pair T top d xs ≡ ok r n
      → PairWalk T top r.1 (drop n xs) ss m → PairWalk T top d xs (r.0 ∷ ss) (n + m)

pub pairs_of : (T : List ℕ) (top f : ℕ) (d : PairStage) (xs : List ℕ) {ss : List Slice} {n : ℕ} → walk_pairs T top f d xs ≡ ok ss n → PairWalk T top d xs ss n
unfolding walk_pairs fail
pairs_of T top zero d xs {ss} {n} h = go (none_due d) refl h
  where
    go : (b : Bool) → none_due d ≡ b → pick b (pure []) (fail 4) xs ≡ ok ss n → PairWalk T top d xs ss n
    go true e h = let P = pure_ok [] xs h in rw (P.0, P.1) (last e)
    go false e h = absurd (ok≢bad h refl)
pairs_of T top (suc f) d xs {ss} {n} h = go (none_due d) refl h (λ d ys ss n h. pairs_of T top f d ys h)
  where
    go : (b : Bool) → none_due d ≡ b → pick b (pure []) (onward_pairs T top f d) xs ≡ ok ss n
        → ((d : PairStage) (ys : List ℕ) (ss : List Slice) (n : ℕ) → walk_pairs T top f d ys ≡ ok ss n → PairWalk T top d ys ss n) → PairWalk T top d xs ss n
    go true e h ih = let P = pure_ok [] xs h in rw (P.0, P.1) (last e)
    go false e h ih = turn (bind_ok (id_pair T top d) _ xs h)
      where
        turn : Bound (id_pair T top d) (λ (r : Slice × PairStage). mapc (λ ss _. r.0 ∷ ss) (walk_pairs T top f r.1)) xs ss n → PairWalk T top d xs ss n
        turn B =
            let M = mapc_ok (walk_pairs T top f B.fst.1) (drop B.n xs) (λ ss _. B.fst.0 ∷ ss) B.next in
            subst (λ (z : List Slice × ℕ). PairWalk T top d xs z.0 z.1) (ap (λ (z : List Slice). (z, n)) (sym M.2)) (rw B.sum (more e B.first (ih B.fst.1 (drop B.n xs) M.0 B.m M.1)))
