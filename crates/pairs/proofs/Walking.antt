-- The walk over pairs: what holds at the head of its loop, and what each pair makes of it. Assumes nothing.
--
--   credit                how many owners may still come
--   Ahead, ahead_..       at the head of the loop; after a skipped pair, and a known one
--   walk_says, walk_gives an outcome's answer and list are those of the walk
--   stop_.., done_..      the answer and the lent list at a refusal, and at the end
use mathlib.Core.Path.{◌≡◌, refl, sym, ap, ap₂, ◌∙◌}
use mathlib.Core.Bool.{Bool, true, false}
use mathlib.Core.List.{List}
use Prim.Native.Nat.{ℕ, zero, suc, ◌+◌, ◌-◌, ◌*◌, ◌^◌, ◌≤◌, ◌<◌}
use native.Mathlib.Nat.{add-zero}
use native.Mathlib.Omega.{arith}
use lib.ListN.{length, take, drop, length-drop}
use lib.Seq.{drop-drop}
use mir.Syntax.{w64}
use mir.Val.{Fits}
use Rattle.encoding.specs.Result.{Res, ok, bad}
use Rattle.encoding.proofs.ResultLaws.{held_took, held_refused}
use Rattle.encoding.specs.Table.{base}
use Rattle.encoding.proofs.TableLaws.{base_below}
use Rattle.encoding.specs.Optional.{Piece}
use Rattle.encoding.specs.Slice.{Slice, known, passed, row}
use Rattle.encoding.specs.Old.{PairStage, any_pair, pair_of, pair_meaning, id_pair, none_due, id_pairs}
use Rattle.encoding.proofs.OldLaws.{eats_id_pair, held_id_pair}
use Rattle.encoding.specs.Message.{skipped_in, passed_in, slice_rows}
use Rattle.wire.specs.StepLaws.{rest_is}
use Rattle.level.specs.Fill.{fill}
use Rattle.std.specs.Prelude.{Result, Ok, Err}
use Rattle.wire.specs.declared.Refusal.{Refusal}
use Rattle.slices.specs.declared.Walk.{Walk}
use Rattle.slices.specs.declared.Walk.TheVariants.{Done, Stop}
use Rattle.slices.specs.Walks.{pair_rows, pair_walk}
use Rattle.slices.specs.Left.{WalkEnd, Ends}
use Rattle.slices.specs.MemberLaws.{required_few}
use Rattle.slices.proofs.Endings.{ends_refused, ends_listed, ends_answer, ends_list, Small, types_below, field_below}
use Rattle.pairs.specs.declared.Turn.{Turn}
use Rattle.pairs.specs.declared.Turn.TheVariants.{Passed, Known}
use Rattle.pairs.specs.Pairs.{due_of, row_of, slice_turn, turn_of, turn_rows, first_by, onward, first_from, rows_from, left}
use Rattle.pairs.specs.PairLaws.{row_is, row_below, row_base, Knew, pair_knew}
use Rattle.pairs.specs.LeftLaws.{left_whole, left_listed, left_refused, left_passed, left_known, left_done}

-- ---- the whole walk

module _ (T : List ℕ) (at : ℕ) (out₀ : List ℕ) (r : Res (List Slice)) (v : Walk) (out : List ℕ) (E : Ends (left T any_pair at 0 0 0 out₀ r) v out) where
  walk_says : v ≡ pair_walk T at r
  walk_says = ends_answer E ∙ left_whole T at out₀ r

  walk_gives : (ss : List Slice) (n : ℕ) → r ≡ ok ss n → out ≡ fill 0 (pair_rows T at ss) out₀
  unfolding left
  walk_gives ss n e = ends_list E _ _ (ap (left T any_pair at 0 0 0 out₀) e) ∙ left_listed T at out₀ ss n _ _ refl

-- how many owners may still come
unfoldable pub credit : ℕ → ℕ
credit zero = 65536
credit (suc t) = suc t

-- some pair is due
due_on : (due : ℕ) → none_due (due_of due) ≡ false
unfolding due_of none_due
due_on zero = refl
due_on (suc t) = refl

-- the outcome follows from the pairs ahead
pub record Ahead (T : List ℕ) (top : ℕ) (m : List ℕ) (whole : WalkEnd) (due pos k s fst : ℕ) (out : List ℕ) : Type 0 where
  pub small : Small T
  pub room : length m < 2 ^ 63
  pub inside : pos ≤ length m
  pub few : k + 65536 * credit due ≤ 4294967296
  pub fewest : s ≤ pos
  pub rest : whole ≡ left T (due_of due) pos k s fst out (onward T top (due_of due) (drop pos m))

pub ahead_begin : (T : List ℕ) (top : ℕ) (m : List ℕ) (at : ℕ) (out : List ℕ) → Small T → length m < 2 ^ 63 → at ≤ length m
    → Ahead T top m (left T any_pair at 0 0 0 out (id_pairs T top (drop at m))) 0 at 0 0 0 out
unfolding credit due_of id_pairs onward
ahead_begin T top m at out S l h = record { small = S; room = l; inside = h; few = omega arith; fewest = omega arith; rest = refl }

-- what was read of a pair
record KnownTurn (T : List ℕ) (d : PairStage) (k : ℕ) (r : Res (Slice × PairStage)) (t j n : ℕ) : Type 0 where
  o : List ℕ
  ps : List Piece
  st : PairStage
  read : r ≡ ok (known o ps, st) n
  owner : t ≡ row_of T d o
  rows : j ≡ k + length ps

turn_known : (T : List ℕ) (d : PairStage) (k : ℕ) (r : Res (Slice × PairStage)) (t j n : ℕ) → Ok (Known t j n) ≡ turn_of T d k r → KnownTurn T d k r t j n
unfolding turn_of slice_turn
turn_known T d k (ok (known o ps, st) m) t j n h =
    let e : m ≡ n = cc in
    record { o = o; ps = ps; st = st; read = ap (ok (known o ps, st)) e; owner = cc; rows = cc }
turn_known T d k (ok (passed b nm x, st) m) t j n h = let z : ◌≡◌ {A = ℕ} 0 1 = cc in absurd (omega arith)
turn_known T d k (bad c p) t j n h = let z : ◌≡◌ {A = ℕ} 0 1 = cc in absurd (omega arith)

record PassedTurn (r : Res (Slice × PairStage)) (n : ℕ) : Type 0 where
  b : Bool
  nm : List ℕ
  x : List ℕ
  st : PairStage
  read : r ≡ ok (passed b nm x, st) n

turn_passed : (T : List ℕ) (d : PairStage) (k : ℕ) (r : Res (Slice × PairStage)) (n : ℕ) → Ok (Passed n) ≡ turn_of T d k r → PassedTurn r n
unfolding turn_of slice_turn
turn_passed T d k (ok (known o ps, st) m) n h = let z : ◌≡◌ {A = ℕ} 0 1 = cc in absurd (omega arith)
turn_passed T d k (ok (passed b nm x, st) m) n h = let e : m ≡ n = cc in record { b = b; nm = nm; x = x; st = st; read = ap (ok (passed b nm x, st)) e }
turn_passed T d k (bad c p) n h = let z : ◌≡◌ {A = ℕ} 0 1 = cc in absurd (omega arith)

turn_wrong : (T : List ℕ) (d : PairStage) (k : ℕ) (r : Res (Slice × PairStage)) (x : Refusal) → Err x ≡ turn_of T d k r → r ≡ bad x.number x.place
unfolding turn_of slice_turn
turn_wrong T d k (ok r m) x h = let z : ◌≡◌ {A = ℕ} 0 1 = cc in absurd (omega arith)
turn_wrong T d k (bad c p) x h = let f : x ≡ record { number = c; place = p } = cc in rw f refl

module _ {T : List ℕ} {top : ℕ} {m : List ℕ} {whole : WalkEnd} {due pos k s fst : ℕ} {out : List ℕ} (inv : Ahead T top m whole due pos k s fst out) where
  -- what the call asks
  pub asks_place : pos + length (take (length m - pos) (drop pos m)) < 2 ^ 63
  asks_place = omega (arith, inv.room, inv.inside, ap length (rest_is m pos), length-drop pos m)

  pub asks_count : k < 2 ^ 63
  asks_count = omega (arith, inv.few)

  module _ {r : Result Turn Refusal} (e : r ≡ turn_of T (due_of due) k (id_pair T top (due_of due) (take (length m - pos) (drop pos m)))) where
    turns : r ≡ turn_of T (due_of due) k (id_pair T top (due_of due) (drop pos m))
    turns = e ∙ ap (λ (l : List ℕ). turn_of T (due_of due) k (id_pair T top (due_of due) l)) (rest_is m pos)

    -- a refusal
    module _ {x : Refusal} (q : r ≡ Err x) where
      wrong : id_pair T top (due_of due) (drop pos m) ≡ bad x.number x.place
      wrong = turn_wrong T (due_of due) k (id_pair T top (due_of due) (drop pos m)) x (sym q ∙ turns)

      pub stop_fits : Fits w64 (pos + x.place)
      stop_fits = omega (arith, inv.room, inv.inside, held_refused (id_pair T top (due_of due)) (held_id_pair T top (due_of due)) (drop pos m) wrong, length-drop pos m)

      stop_ends : (out' : List ℕ) → Ends whole (Stop x.number (pos + x.place)) out'
      stop_ends out' =
          ends_refused whole x.number (pos + x.place) (Stop x.number (pos + x.place)) out' (inv.rest ∙ left_refused T top (due_of due) (drop pos m) pos k s fst out (due_on due) x.number x.place wrong) refl

    -- the bytes of a pair that was read
    taken : {sl : Slice} {st : PairStage} {n : ℕ} → id_pair T top (due_of due) (drop pos m) ≡ ok (sl, st) n → (1 ≤ n) × (pos + n ≤ length m)
    taken {sl} {st} {n} h =
        (eats_id_pair T top (due_of due) (drop pos m) (sl, st) n h, omega (arith, inv.inside, held_took (id_pair T top (due_of due)) (held_id_pair T top (due_of due)) (drop pos m) h, length-drop pos m))

    -- a skipped pair
    module _ {turn : Turn} (g : r ≡ Ok turn) {n : ℕ} (q : turn ≡ Passed n) where
      skips : PassedTurn (id_pair T top (due_of due) (drop pos m)) n
      skips = turn_passed T (due_of due) k (id_pair T top (due_of due) (drop pos m)) n (sym (g ∙ ap Ok q) ∙ turns)

      pub skip_less : length m - (pos + n) < length m - pos
      skip_less = let U = taken skips.read in omega arith

      pub skip_fits : Fits w64 (pos + n)
      skip_fits = let U = taken skips.read in omega (arith, inv.room)

      pub skip_count : Fits w64 (s + 1)
      skip_count = let U = taken skips.read in omega (arith, inv.room, inv.fewest)

      pub ahead_skip : {out' : List ℕ}
          → ((sl : Slice) (d : PairStage) (n : ℕ) → id_pair T top (due_of due) (take (length m - pos) (drop pos m)) ≡ ok (sl, d) n → out' ≡ fill k (turn_rows T (due_of due) pos sl) out)
          → Ahead T top m whole due (pos + n) k (s + 1) fst out'
      unfolding turn_rows fill
      ahead_skip {out'} fills =
          let U = taken skips.read in
          let same : out ≡ out' = sym (fills (passed skips.b skips.nm skips.x) skips.st n (ap (id_pair T top (due_of due)) (rest_is m pos) ∙ skips.read)) in
          record {
            small = inv.small;
            room = inv.room;
            inside = U.1;
            few = inv.few;
            fewest = omega (arith, inv.fewest);
            rest = inv.rest ∙ left_passed T top (due_of due) (drop pos m) pos k s fst out (due_on due) skips.b skips.nm skips.x skips.st n skips.read
                ∙ ap₂ (λ (o l : List ℕ). left T (due_of due) (pos + n) k (s + 1) fst o (onward T top (due_of due) l)) same (drop-drop n pos m);
          }

    -- a known pair
    module _ {turn : Turn} (g : r ≡ Ok turn) {t j n : ℕ} (q : turn ≡ Known t j n) where
      knows : KnownTurn T (due_of due) k (id_pair T top (due_of due) (drop pos m)) t j n
      knows = turn_known T (due_of due) k (id_pair T top (due_of due) (drop pos m)) t j n (sym (g ∙ ap Ok q) ∙ turns)

      knew : Knew T top (due_of due) knows.o knows.ps knows.st n
      knew = pair_knew T top (due_of due) (drop pos m) knows.o knows.ps knows.st n knows.read

      same_row : knew.t ≡ t
      same_row = sym (knows.owner ∙ row_is T top (due_of due) knows.o knew.t knew.means)

      pub known_less : length m - (pos + n) < length m - pos
      known_less = let U = taken knows.read in omega arith

      pub known_fits : Fits w64 (pos + n)
      known_fits = let U = taken knows.read in omega (arith, inv.room)

      -- an owner fewer may come
      owner_counts : suc t ≤ credit due
      unfolding credit due_of
      owner_counts = go due (ap (λ (i : ℕ). row i) same_row) knew.means
        where
          go : (i : ℕ) → row knew.t ≡ row t → pair_meaning T top (due_of i) knows.o ≡ row knew.t → suc t ≤ credit i
          go zero x y = omega (arith, row_below T top knows.o t (y ∙ x), types_below T inv.small)
          go (suc u) x y = omega (arith, row_base T top (suc u) knows.o t (y ∙ x))

      few_rows : j ≤ k + 65535
      few_rows = omega (arith, knows.rows, required_few true T knew.t knew.part knows.ps (length knew.part) knew.read, field_below T inv.small knew.t 1)

      module _ {out' : List ℕ}
          (fills : (sl : Slice) (d : PairStage) (n : ℕ) → id_pair T top (due_of due) (take (length m - pos) (drop pos m)) ≡ ok (sl, d) n → out' ≡ fill k (turn_rows T (due_of due) pos sl) out)
          {f : ℕ} (ef : f ≡ first_by (due_of due) fst t) {b : ℕ} (eb : b ≡ base T t) where
        same_list : out' ≡ fill k (turn_rows T (due_of due) pos (known knows.o knows.ps)) out
        same_list = fills (known knows.o knows.ps) knows.st n (ap (id_pair T top (due_of due)) (rest_is m pos) ∙ knows.read)

        onwards : whole ≡ left T (pair_of b) (pos + n) j s f out' (onward T top (pair_of b) (drop (pos + n) m))
        onwards =
            inv.rest
            ∙ left_known T top (due_of due) (drop pos m) pos k s fst out knows.o knows.ps knows.st n knew (due_on due) knows.read
            ∙ ap₂ (λ (x : ℕ) (y : List ℕ). left T (pair_of (base T knew.t)) (pos + n) x s (first_by (due_of due) fst knew.t) y (onward T top (pair_of (base T knew.t)) (drop n (drop pos m)))) (sym knows.rows) (sym same_list)
            ∙ ap₂ (λ (x : ℕ) (l : List ℕ). left T (pair_of (base T x)) (pos + n) j s (first_by (due_of due) fst x) out' (onward T top (pair_of (base T x)) l)) same_row (drop-drop n pos m)
            ∙ ap₂ (λ (x y : ℕ). left T (pair_of x) (pos + n) j s y out' (onward T top (pair_of x) (drop (pos + n) m))) (sym eb) (sym ef)

        pub ahead_known : (b ≡ 0 → ⊥) → Ahead T top m whole b (pos + n) j s f out'
        unfolding credit due_of
        ahead_known z =
            let U = taken knows.read in
            record {
              small = inv.small;
              room = inv.room;
              inside = U.1;
              few = omega (arith, inv.few, owner_counts, few_rows, counted b z, base_below T t);
              fewest = omega (arith, inv.fewest);
              rest = onwards ∙ ap (λ (d : PairStage). left T d (pos + n) j s f out' (onward T top d (drop (pos + n) m))) (sym (due_is b z));
            }
          where
            counted : (i : ℕ) → (i ≡ 0 → ⊥) → credit i ≡ i
            counted zero z = absurd (z refl)
            counted (suc u) z = refl

            due_is : (i : ℕ) → (i ≡ 0 → ⊥) → due_of i ≡ pair_of i
            due_is zero z = absurd (z refl)
            due_is (suc u) z = refl

        pub done_ends : b ≡ 0 → Ends whole (Done f 2 j 0 s (pos + n)) out'
        unfolding left rows_from first_from slice_rows fill skipped_in passed_in none_due
        done_ends z =
            ends_listed whole (Done f 2 j 0 s (pos + n)) out'
            (onwards
            ∙ ap (λ (x : ℕ). left T (pair_of x) (pos + n) j s f out' (onward T top (pair_of x) (drop (pos + n) m))) z
            ∙ left_done T top (pair_of 0) (drop (pos + n) m) (pos + n) j s f out' refl
            ∙ rw (add-zero j, add-zero s, add-zero (pos + n)))

-- ---- the answers

module _ (T : List ℕ) (top : ℕ) (m : List ℕ) (start : ℕ) (out₀ : List ℕ) (due pos k s fst : ℕ) (out : List ℕ)
    (inv : Ahead T top m (left T any_pair start 0 0 0 out₀ (id_pairs T top (drop start m))) due pos k s fst out)
    (r : Result Turn Refusal) (e : r ≡ turn_of T (due_of due) k (id_pair T top (due_of due) (take (length m - pos) (drop pos m)))) where
  module _ (x : Refusal) (q : r ≡ Err x) where
    pub stop_says : Stop x.number (pos + x.place) ≡ pair_walk T start (id_pairs T top (drop start m))
    stop_says = walk_says T start out₀ (id_pairs T top (drop start m)) (Stop x.number (pos + x.place)) out (stop_ends inv e q out)

    pub stop_gives : (out' : List ℕ) (ss : List Slice) (n : ℕ) → id_pairs T top (drop start m) ≡ ok ss n → out' ≡ fill 0 (pair_rows T start ss) out₀
    stop_gives out' = walk_gives T start out₀ (id_pairs T top (drop start m)) (Stop x.number (pos + x.place)) out' (stop_ends inv e q out')

  module _ (turn : Turn) (g : r ≡ Ok turn) (t j n : ℕ) (q : turn ≡ Known t j n) (out' : List ℕ)
      (fills : (sl : Slice) (d : PairStage) (n : ℕ) → id_pair T top (due_of due) (take (length m - pos) (drop pos m)) ≡ ok (sl, d) n → out' ≡ fill k (turn_rows T (due_of due) pos sl) out)
      (f : ℕ) (ef : f ≡ first_by (due_of due) fst t) (b : ℕ) (eb : b ≡ base T t) (z : b ≡ 0) where
    pub done_says : Done f 2 j 0 s (pos + n) ≡ pair_walk T start (id_pairs T top (drop start m))
    done_says = walk_says T start out₀ (id_pairs T top (drop start m)) (Done f 2 j 0 s (pos + n)) out' (done_ends inv e g q fills ef eb z)

    pub done_gives : (ss : List Slice) (i : ℕ) → id_pairs T top (drop start m) ≡ ok ss i → out' ≡ fill 0 (pair_rows T start ss) out₀
    done_gives = walk_gives T start out₀ (id_pairs T top (drop start m)) (Done f 2 j 0 s (pos + n)) out' (done_ends inv e g q fills ef eb z)
