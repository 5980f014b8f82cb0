-- A whole message: its encapsulation, the three kinds of top, its end. Assumes nothing.
--
--   judged_.., known_..                what is handed in of encoding 1.0, and what it says
--   capsule_..                         the cases of size and version
--   marker_.., lead_.., ended_..       those of a class's marker, of the header byte of 1.0, of the end
--   mark_.., lead_..                   the marker, or no byte, and the header byte lie within the message
--   new_.., old_..                     what a walk over a list, slices or pairs makes of the contents, in 1.1 and 1.0
--   body_takes                         the top's member rows, by its row
--   body_..                            what a walk over the contents makes of the message
use mathlib.Core.Path.{◌≡◌, refl, sym, ap, ap₂, ◌∙◌}
use mathlib.Core.Bool.{Bool, true, false}
use mathlib.Core.List.{List, [], ◌∷◌}
use Prim.Native.Nat.{ℕ, ◌+◌, ◌-◌, ◌≤◌, ◌<◌}
use native.Mathlib.Omega.{arith}
use lib.ListN.{length, take, drop, length-drop}
use lib.Seq.{drop-drop}
use lib.Dec.{eqb}
use borrow.Author.Tests.{lt-ltb, le-ltb, le-leb, lt-leb, eq-eqb, ne_eqb}
use mir.Syntax.{w64}
use mir.Val.{Fits}
use Rattle.encoding.specs.Result.{Res, ok, bad, Parser, pick, shift, after, ◌>>=◌, pure, chunk, judged, must, made, mapc}
use Rattle.encoding.proofs.ResultLaws.{ok≢bad, Bound, bind_ok, chunk_ok, must_ok, bind_bad, bind_next, Held, held_took, held_refused, held_pure, held_pick, held_must}
use Rattle.encoding.specs.Number.{val, byte, number}
use Rattle.encoding.proofs.NumberLaws.{held_byte, byte_canonical}
use Rattle.encoding.specs.Table.{kind}
use Rattle.encoding.specs.Table
use Rattle.encoding.specs.Optional.{Piece, requireds}
use Rattle.encoding.specs.Old.{members_as, no_old, lead_form, id_pairs}
use Rattle.encoding.specs.Slice.{sliced, Slice, Chain, slices}
use Rattle.encoding.specs.Message.{list, exception, class, Encoding, v10, v11, Read, parameters, marker_form, contents, old_contents, outer_form, version_form, old_form, outer, after_version, body, Row, piece_rows, first_known, rows, optionals_skipped, slices_skipped}
use Rattle.encoding.specs.Message
use Rattle.encoding.proofs.MessageLaws.{ended_ok, held_contents, held_old_contents}
use Rattle.std.specs.Prelude.{Result, Ok, Err}
use Rattle.wire.specs.declared.Refusal.{Refusal}
use Rattle.wire.specs.declared.Counted.{Counted}
use Rattle.wire.specs.Steps.{step_of, sized_of, refused, counted}
use Rattle.wire.specs.StepLaws.{rest_is, step_took, step_fault, sized_is, sized_isnt}
use Rattle.level.specs.Fill.{fill}
use Rattle.slices.specs.declared.Walk.{Walk}
use Rattle.slices.specs.declared.Walk.TheVariants.{Done, Stop}
use Rattle.reader.specs.OldUse.{OldUse}
use Rattle.slices.specs.Walks.{chain_rows, slice_walk, list_walk, old_walk, pair_rows, pair_walk, marker_of, ended_walk, read_done, read_walk, body_walk}
use Rattle.table.specs.declared.TypeRow.{TypeRow}
use Rattle.table.specs.Rows.{IsTypeRow}
use Rattle.reader.specs.Takes.{Takes}

-- the member rows of the top, by its row
pub body_takes : (T : List ℕ) (t : ℕ) (r : TypeRow) → IsTypeRow T t r → Takes T t r.a (r.a + r.b)
body_takes T t r is = record { from_is = is.a_is; stop_is = ap₂ ◌+◌ is.a_is is.b_is; from_small = is.a_small; stop_small = omega (arith, is.b_small) }

-- ---- what is known of encoding 1.0

module _ (T : List ℕ) (top : ℕ) (b : Bool) (eb : b ≡ no_old T top) where
  pub judged_barred : b ≡ true → OldUse T top 2
  judged_barred e = record { can = λ q. absurd (omega (arith, q)); cannot = λ q. sym eb ∙ e }

  pub judged_free : b ≡ false → OldUse T top 1
  judged_free e = record { can = λ q. sym eb ∙ e; cannot = λ q. absurd (omega (arith, q)) }

module _ (T : List ℕ) (top u : ℕ) (U : OldUse T top u) where
  pub known_free : u ≡ 1 → false ≡ no_old T top
  known_free e = sym (U.can e)

  pub known_barred : u ≡ 2 → true ≡ no_old T top
  known_barred e = sym (U.cannot e)

-- ---- size and version

module _ (T : List ℕ) (top : ℕ) (m : List ℕ) where
  pub capsule_none : length m < 4 → refused 4 0 ≡ sized_of (outer T top (length m) m)
  unfolding outer ◌>>=◌ after must judged number chunk sized_of
  capsule_none h = rw (lt-leb 4 (length m) h)

  module _ (h : 4 ≤ length m) (n : ℕ) (e : n ≡ Table.at m 4 0) where
    pub capsule_low : n < 6 → refused 5 0 ≡ sized_of (outer T top (length m) m)
    unfolding outer ◌>>=◌ after must judged number chunk outer_form sized_of Table.at
    capsule_low l = rw (le-leb 4 (length m) h, ← e, lt-ltb n 6 l)

    pub capsule_other : 6 ≤ n → (n ≡ length m → ⊥) → refused 5 0 ≡ sized_of (outer T top (length m) m)
    unfolding outer ◌>>=◌ after must judged number chunk outer_form sized_of Table.at
    capsule_other l d = rw (le-leb 4 (length m) h, ← e, le-ltb n 6 l, ne_eqb n (length m) d)

    module _ (l : 6 ≤ n) (d : n ≡ length m) (v : ℕ) (ev : v ≡ Table.at m 2 4) where
      version : number 2 (drop 4 m) ≡ ok v 2
      unfolding number chunk Table.at
      version = rw (le-leb 2 (length (drop 4 m)) (omega (arith, length-drop 4 m)), ← ev)

      -- by the version
      outer_by : outer T top (length m) m ≡ judged (old_form T top) (shift 4 (judged (version_form (kind T top)) (ok v 2)))
      unfolding outer ◌>>=◌ after must judged number chunk outer_form Table.at
      outer_by = ap (judged (old_form T top))
          (ap (λ (r : Res ℕ). after (judged (outer_form (length m)) r) (λ _. must (version_form (kind T top)) (number 2)) m) first
          ∙ ap (λ (c : ℕ). after (pick (eqb c 0) (ok n 4) (bad c 0)) (λ _. must (version_form (kind T top)) (number 2)) m) right
          ∙ ap (λ (r : Res ℕ). shift 4 (judged (version_form (kind T top)) r)) version)
        where
          first : number 4 m ≡ ok n 4
          first = rw (le-leb 4 (length m) h, ← e)

          right : outer_form (length m) n ≡ 0
          right = rw (le-ltb n 6 l, eq-eqb n (length m) d)

      pub capsule_new : v ≡ 257 → counted 257 6 ≡ sized_of (outer T top (length m) m)
      unfolding judged version_form old_form shift sized_of
      capsule_new q = sym (ap sized_of outer_by ∙ rw q)

      pub capsule_version : (v ≡ 257 → ⊥) → (v ≡ 1 → ⊥) → refused 6 4 ≡ sized_of (outer T top (length m) m)
      unfolding judged version_form old_form shift sized_of
      capsule_version q w = sym (ap sized_of outer_by ∙ rw (ne_eqb v 257 q, ne_eqb v 1 w))

      module _ (q : v ≡ 1) (k : ℕ) (ek : k ≡ kind T top) where
        pub capsule_class : k ≡ 14 → refused 6 4 ≡ sized_of (outer T top (length m) m)
        unfolding judged version_form old_form shift sized_of
        capsule_class z = sym (ap sized_of outer_by ∙ rw (q, eq-eqb (kind T top) 14 (sym ek ∙ z)))

        module _ (z : k ≡ 14 → ⊥) (b : Bool) (eb : b ≡ no_old T top) where
          pub capsule_barred : b ≡ true → refused 26 0 ≡ sized_of (outer T top (length m) m)
          unfolding judged version_form old_form shift sized_of
          capsule_barred y = sym (ap sized_of outer_by ∙ rw (q, ne_eqb (kind T top) 14 (λ x. z (ek ∙ x)), sym eb ∙ y))

          pub capsule_old : b ≡ false → counted 1 6 ≡ sized_of (outer T top (length m) m)
          unfolding judged version_form old_form shift sized_of
          capsule_old y = sym (ap sized_of outer_by ∙ rw (q, ne_eqb (kind T top) 14 (λ x. z (ek ∙ x)), sym eb ∙ y))

-- ---- a class's marker

module _ (s : List ℕ) where
  pub marker_none : length s < 1 → refused 4 0 ≡ step_of (must marker_form byte s)
  unfolding must judged byte number chunk step_of
  marker_none h = rw (lt-leb 1 (length s) h)

  module _ (h : 1 ≤ length s) (b : ℕ) (e : b ≡ Table.at s 1 0) where
    pub marker_other : (b ≡ 1 → ⊥) → refused 13 0 ≡ step_of (must marker_form byte s)
    unfolding must judged byte number chunk marker_form step_of Table.at
    marker_other q = rw (le-leb 1 (length s) h, ← e, ne_eqb b 1 q)

    pub marker_right : b ≡ 1 → Ok 1 ≡ step_of (must marker_form byte s)
    unfolding must judged byte number chunk marker_form step_of Table.at
    marker_right q = rw (le-leb 1 (length s) h, ← e, eq-eqb b 1 q)

-- the header byte of a 1.0 exception
module _ (s : List ℕ) where
  pub lead_none : length s < 1 → refused 4 0 ≡ step_of (must lead_form byte s)
  unfolding must judged byte number chunk step_of
  lead_none h = rw (lt-leb 1 (length s) h)

  module _ (h : 1 ≤ length s) (b : ℕ) (e : b ≡ Table.at s 1 0) where
    pub lead_other : (b ≡ 0 → ⊥) → refused 25 0 ≡ step_of (must lead_form byte s)
    unfolding must judged byte number chunk lead_form step_of Table.at
    lead_other q = rw (le-leb 1 (length s) h, ← e, ne_eqb b 0 q)

    pub lead_right : b ≡ 0 → Ok 1 ≡ step_of (must lead_form byte s)
    unfolding must judged byte number chunk lead_form step_of Table.at
    lead_right q = rw (le-leb 1 (length s) h, ← e, eq-eqb b 0 q)

module _ (k : ℕ) (s : List ℕ) where
  pub marker_class : k ≡ 14 → (r : Result ℕ Refusal) → r ≡ step_of (must marker_form byte s) → r ≡ step_of (marker_of k s)
  unfolding marker_of
  marker_class h r e = rw (eq-eqb k 14 h) e

  pub marker_bare : (k ≡ 14 → ⊥) → Ok 0 ≡ step_of (marker_of k s)
  unfolding marker_of pure step_of
  marker_bare h = rw (ne_eqb k 14 h)

held_marker : (k : ℕ) → Held (marker_of k)
unfolding marker_of
held_marker k = held_pick (eqb k 14) (must marker_form byte) (pure 0) (held_must byte held_byte marker_form) (held_pure 0)

-- a class instance's marker is one byte
marker_takes : (k : ℕ) (xs : List ℕ) (b i : ℕ) → marker_of k xs ≡ ok b i → i ≡ pick (eqb k 14) 1 0
unfolding marker_of pure
marker_takes k xs b i e = go (eqb k 14) e
  where
    go : (c : Bool) → pick c (must marker_form byte) (pure 0) xs ≡ ok b i → i ≡ pick c 1 0
    go true h = (byte_canonical xs (must_ok byte xs marker_form h).0).1
    go false h = cc

-- ---- the end

module _ (w : Walk) (l : ℕ) where
  module _ (t g k o s e : ℕ) (q : w ≡ Done t g k o s e) where
    pub ended_whole : e ≡ l → Done t g k o s e ≡ ended_walk l w
    unfolding ended_walk
    ended_whole h = rw (q, eq-eqb e l h)

    pub ended_behind : (e ≡ l → ⊥) → Stop 18 e ≡ ended_walk l w
    unfolding ended_walk
    ended_behind h = rw (q, ne_eqb e l h)

  pub ended_stop : (c p : ℕ) → w ≡ Stop c p → Stop c p ≡ ended_walk l w
  unfolding ended_walk
  ended_stop c p q = rw q

-- contents, and nothing after them
read_ended : (T : List ℕ) (top at : ℕ) (m : List ℕ) (r : Res Read) → at ≤ length m → ((x : Read) (n : ℕ) → r ≡ ok x n → at + n ≤ length m)
    → ended_walk (length m) (read_walk T top at r) ≡ body_walk T top (shift at (after r Message.ended (drop at m)))
unfolding ended_walk read_walk read_done body_walk after shift Message.ended
read_ended T top at m (ok x n) h k = go (drop n (drop at m)) (omega (arith, length-drop n (drop at m), length-drop at m, k x n refl))
  where
    go : (l : List ℕ) → length m ≡ at + n + length l → pick (eqb (at + n) (length m)) (read_done T top x (at + n)) (Stop 18 (at + n)) ≡ body_walk T top (shift at (shift n (Message.ended x l)))
    go [] e = rw (eq-eqb (at + n) (length m) (omega arith)) (ap (read_done T top x) (omega arith))
    go (y ∷ l) e = rw (ne_eqb (at + n) (length m) (λ z. omega arith)) (ap (Stop 18) (omega arith))
read_ended T top at m (bad c p) h k = refl

-- ---- the contents

ok_same : {A : Type 0} {a b : A} {n k : ℕ} → ok a n ≡ ok b k → a ≡ b
ok_same e = cc

as_list : Encoding → List Piece → ℕ → Read
as_list e ps _ = record { format = e; pieces = list ps }

-- a class instance's slices, or an exception's
as_slices : Bool → Chain → ℕ → Read
as_slices b c _ = record { format = v11 c.format; pieces = pick b class exception c.list }

-- an exception's pairs
as_pairs : List Slice → ℕ → Read
as_pairs ss _ = record { format = v10; pieces = exception ss }

shift_none : {A : Type 0} (r : Res A) → shift 0 r ≡ r
unfolding shift
shift_none (ok a n) = ap (ok a) (omega arith)
shift_none (bad c p) = ap (bad c) (omega arith)

-- the required members of 1.0
abbrev old_members : List ℕ → ℕ → Parser (List Piece)
old_members T top = requireds (members_as true (Table.required_members T top))

module _ (T : List ℕ) (top : ℕ) (xs : List ℕ) where
  contents_list : kind T top ≡ 15 → contents T top xs ≡ made (as_list (v11 sliced)) (parameters T top xs)
  unfolding contents mapc as_list
  contents_list k = rw (eq-eqb (kind T top) 15 k)

  contents_slices : (kind T top ≡ 15 → ⊥) → contents T top xs ≡ (marker_of (kind T top) >>= λ _. mapc (as_slices (eqb (kind T top) 14)) (slices T top)) xs
  unfolding contents marker_of ◌>>=◌ after pure mapc as_slices
  contents_slices n = rw (ne_eqb (kind T top) 15 n) (go (eqb (kind T top) 14))
    where
      go : (b : Bool) → pick b (must marker_form byte >>= λ _. mapc (as_slices true) (slices T top)) (mapc (as_slices false) (slices T top)) xs
          ≡ (pick b (must marker_form byte) (pure 0) >>= λ _. mapc (as_slices b) (slices T top)) xs
      go true = refl
      go false = sym (shift_none (mapc (as_slices false) (slices T top) xs))

  old_contents_list : kind T top ≡ 15 → old_contents T top xs ≡ made (as_list v10) (old_members T top xs)
  unfolding old_contents mapc as_list
  old_contents_list k = rw (eq-eqb (kind T top) 15 k)

  old_contents_pairs : (kind T top ≡ 15 → ⊥) → old_contents T top xs ≡ (must lead_form byte >>= λ _. mapc as_pairs (id_pairs T top)) xs
  unfolding old_contents as_pairs
  old_contents_pairs n = rw (ne_eqb (kind T top) 15 n)

-- ---- what the walks answer of them, and their rows

module _ (T : List ℕ) (top : ℕ) where
  walk_list : (r : Res (List Piece)) → read_walk T top 6 (made (as_list (v11 sliced)) r) ≡ list_walk T top 6 r
  unfolding read_walk read_done made as_list list_walk first_known rows optionals_skipped slices_skipped
  walk_list (ok ps n) = refl
  walk_list (bad c p) = refl

  walk_slices : (b : Bool) (r : Res Chain) → read_walk T top 6 (shift (pick b 1 0) (made (as_slices b) r)) ≡ slice_walk T (6 + pick b 1 0) r
  unfolding read_walk read_done shift made as_slices slice_walk chain_rows first_known rows optionals_skipped slices_skipped
  walk_slices b (ok c n) = ap (read_done T top (as_slices b c n)) (omega arith) ∙ go b
    where
      go : (b : Bool) → read_done T top (as_slices b c n) (6 + pick b 1 0 + n) ≡ slice_walk T (6 + pick b 1 0) (ok c n)
      go true = refl
      go false = refl
  walk_slices b (bad c p) = ap (Stop c) (omega arith)

  walk_old : (r : Res (List Piece)) → read_walk T top 6 (made (as_list v10) r) ≡ old_walk T top 6 r
  unfolding read_walk read_done made as_list old_walk first_known rows optionals_skipped slices_skipped
  walk_old (ok ps n) = refl
  walk_old (bad c p) = refl

  walk_pairs : (r : Res (List Slice)) → read_walk T top 6 (shift 1 (made as_pairs r)) ≡ pair_walk T 7 r
  unfolding read_walk read_done shift made as_pairs pair_walk pair_rows first_known rows optionals_skipped slices_skipped
  walk_pairs (ok ss n) = ap (read_done T top (as_pairs ss n)) (omega arith)
  walk_pairs (bad c p) = ap (Stop c) (omega arith)

  list_rows : (e : Encoding) (ps : List Piece) (n : ℕ) → piece_rows T top 6 ps ≡ rows T top (as_list e ps n).format (as_list e ps n).pieces
  unfolding as_list rows
  list_rows e ps n = refl

  slice_rows : (b : Bool) (c : Chain) (n : ℕ) → chain_rows T (6 + pick b 1 0) c ≡ rows T top (as_slices b c n).format (as_slices b c n).pieces
  unfolding as_slices rows chain_rows
  slice_rows true c n = refl
  slice_rows false c n = refl

  pair_rows_lem : (ss : List Slice) (n : ℕ) → pair_rows T 7 ss ≡ rows T top (as_pairs ss n).format (as_pairs ss n).pieces
  unfolding as_pairs rows pair_rows
  pair_rows_lem ss n = refl

  -- a list filled with the rows of what was read
  filled : {A : Type 0} (f : A → ℕ → Read) (g : A → List Row) → ((a : A) (n : ℕ) → g a ≡ rows T top (f a n).format (f a n).pieces) → (y : Res A) (r : Read) (j : ℕ) → made f y ≡ ok r j
      → (out l : List ℕ) → ((a : A) (n : ℕ) → y ≡ ok a n → out ≡ fill 0 (g a) l) → out ≡ fill 0 (rows T top r.format r.pieces) l
  unfolding made
  filled f g same (ok a n) r j e out l fills =
      fills a n refl ∙ ap (λ (x : List Row). fill 0 x l) (same a n) ∙ ap (λ (x : Read). fill 0 (rows T top x.format x.pieces) l) (ok_same e)
  filled f g same (bad c p) r j e out l fills = absurd (ok≢bad e refl)

shift_ok : {A : Type 0} (n : ℕ) (r : Res A) (a : A) (k : ℕ) → shift n r ≡ ok a k → (j : ℕ) × (r ≡ ok a j)
unfolding shift
shift_ok n (ok b m) a k e = (m, ap (λ (x : _). ok x m) (ok_same e))
shift_ok n (bad c p) a k e = absurd (ok≢bad e refl)

-- ---- 1.1

module _ (T : List ℕ) (top : ℕ) (m : List ℕ) (six : 6 ≤ length m) (k : ℕ) (ek : k ≡ kind T top) where
  -- a parameter list
  module _ (h : k ≡ 15) where
    lists : contents T top (drop 6 m) ≡ made (as_list (v11 sliced)) (parameters T top (drop 6 m))
    lists = contents_list T top (drop 6 m) (sym ek ∙ h)

    pub new_list : (w : Walk) → w ≡ list_walk T top 6 (parameters T top (drop 6 m)) → w ≡ read_walk T top 6 (contents T top (drop 6 m))
    new_list w ew = ew ∙ sym (ap (read_walk T top 6) lists ∙ walk_list T top (parameters T top (drop 6 m)))

    pub new_list_gives : (out l : List ℕ) → ((ps : List Piece) (n : ℕ) → parameters T top (drop 6 m) ≡ ok ps n → out ≡ fill 0 (piece_rows T top 6 ps) l)
        → (r : Read) (n : ℕ) → contents T top (drop 6 m) ≡ ok r n → out ≡ fill 0 (rows T top r.format r.pieces) l
    new_list_gives out l fills r n e = filled T top (as_list (v11 sliced)) (piece_rows T top 6) (list_rows T top (v11 sliced)) (parameters T top (drop 6 m)) r n (sym lists ∙ e) out l fills

    old_lists : old_contents T top (drop 6 m) ≡ made (as_list v10) (old_members T top (drop 6 m))
    old_lists = old_contents_list T top (drop 6 m) (sym ek ∙ h)

    pub old_list : (w : Walk) → w ≡ old_walk T top 6 (requireds (members_as true (Table.required_members T top)) (drop 6 m)) → w ≡ read_walk T top 6 (old_contents T top (drop 6 m))
    old_list w ew = ew ∙ sym (ap (read_walk T top 6) old_lists ∙ walk_old T top (old_members T top (drop 6 m)))

    pub old_list_gives : (out l : List ℕ) → ((ps : List Piece) (n : ℕ) → requireds (members_as true (Table.required_members T top)) (drop 6 m) ≡ ok ps n → out ≡ fill 0 (piece_rows T top 6 ps) l)
        → (r : Read) (n : ℕ) → old_contents T top (drop 6 m) ≡ ok r n → out ≡ fill 0 (rows T top r.format r.pieces) l
    old_list_gives out l fills r n e = filled T top (as_list v10) (piece_rows T top 6) (list_rows T top v10) (old_members T top (drop 6 m)) r n (sym old_lists ∙ e) out l fills

  -- slices, after a class instance's marker
  module _ (u : k ≡ 15 → ⊥) (mark : Result ℕ Refusal) (em : mark ≡ step_of (marker_of k (take (length m - 6) (drop 6 m)))) where
    marks : mark ≡ step_of (marker_of (kind T top) (drop 6 m))
    marks = em ∙ ap₂ (λ (i : ℕ) (l : List ℕ). step_of (marker_of i l)) ek (rest_is m 6)

    sliced_in : ℕ → Parser Read
    sliced_in _ = mapc (as_slices (eqb (kind T top) 14)) (slices T top)

    by_slices : contents T top (drop 6 m) ≡ (marker_of (kind T top) >>= sliced_in) (drop 6 m)
    unfolding sliced_in
    by_slices = contents_slices T top (drop 6 m) (λ z. u (ek ∙ z))

    module _ (x : Refusal) (g : mark ≡ Err x) where
      unmarked : marker_of (kind T top) (drop 6 m) ≡ bad x.number x.place
      unmarked = step_fault (marker_of (kind T top) (drop 6 m)) x (sym g ∙ marks)

      contents_bad : contents T top (drop 6 m) ≡ bad x.number x.place
      contents_bad = by_slices ∙ bind_bad (marker_of (kind T top)) sliced_in (drop 6 m) unmarked

      pub new_unmarked : Stop x.number (6 + x.place) ≡ read_walk T top 6 (contents T top (drop 6 m))
      unfolding read_walk
      new_unmarked = rw contents_bad

      pub new_unmarked_gives : (out l : List ℕ) (r : Read) (n : ℕ) → contents T top (drop 6 m) ≡ ok r n → out ≡ fill 0 (rows T top r.format r.pieces) l
      new_unmarked_gives out l r n e = absurd (ok≢bad e contents_bad)

      pub mark_place : Fits w64 (length m) → Fits w64 (6 + x.place)
      mark_place f = omega (arith, held_refused (marker_of (kind T top)) (held_marker (kind T top)) (drop 6 m) unmarked, length-drop 6 m, six)

    module _ (i : ℕ) (g : mark ≡ Ok i) where
      marked : (b : ℕ) × (marker_of (kind T top) (drop 6 m) ≡ ok b i)
      marked = step_took (marker_of (kind T top) (drop 6 m)) i (sym g ∙ marks)

      takes : i ≡ pick (eqb (kind T top) 14) 1 0
      takes = marker_takes (kind T top) (drop 6 m) marked.0 i marked.1

      pub mark_within : 6 + i ≤ length m
      mark_within = omega (arith, held_took (marker_of (kind T top)) (held_marker (kind T top)) (drop 6 m) marked.1, length-drop 6 m, six)

      pub mark_fits : Fits w64 (length m) → Fits w64 (6 + i)
      mark_fits f = omega (arith, mark_within)

      by_chain : contents T top (drop 6 m) ≡ shift i (made (as_slices (eqb (kind T top) 14)) (slices T top (drop (6 + i) m)))
      unfolding sliced_in mapc
      by_chain =
          by_slices ∙ bind_next (marker_of (kind T top)) sliced_in (drop 6 m) marked.1
          ∙ ap (λ (l : List ℕ). shift i (made (as_slices (eqb (kind T top) 14)) (slices T top l))) (drop-drop i 6 m)

      walked : read_walk T top 6 (contents T top (drop 6 m)) ≡ slice_walk T (6 + i) (slices T top (drop (6 + i) m))
      walked =
          ap (read_walk T top 6) by_chain
          ∙ ap (λ (j : ℕ). read_walk T top 6 (shift j (made (as_slices (eqb (kind T top) 14)) (slices T top (drop (6 + i) m))))) takes
          ∙ walk_slices T top (eqb (kind T top) 14) (slices T top (drop (6 + i) m))
          ∙ ap (λ (j : ℕ). slice_walk T (6 + j) (slices T top (drop (6 + i) m))) (sym takes)

      pub new_slices : (w : Walk) → w ≡ slice_walk T (6 + i) (slices T top (drop (6 + i) m)) → w ≡ read_walk T top 6 (contents T top (drop 6 m))
      new_slices w ew = ew ∙ sym walked

      pub new_slices_gives : (out l : List ℕ) → ((c : Chain) (n : ℕ) → slices T top (drop (6 + i) m) ≡ ok c n → out ≡ fill 0 (chain_rows T (6 + i) c) l)
          → (r : Read) (n : ℕ) → contents T top (drop 6 m) ≡ ok r n → out ≡ fill 0 (rows T top r.format r.pieces) l
      new_slices_gives out l fills r n e =
          let S = shift_ok i (made (as_slices (eqb (kind T top) 14)) (slices T top (drop (6 + i) m))) r n (sym by_chain ∙ e) in
          filled T top (as_slices (eqb (kind T top) 14)) (chain_rows T (6 + pick (eqb (kind T top) 14) 1 0)) (slice_rows T top (eqb (kind T top) 14)) (slices T top (drop (6 + i) m)) r S.0 S.1 out l
          (λ c j h. fills c j h ∙ ap (λ (x : ℕ). fill 0 (chain_rows T (6 + x) c) l) takes)

  -- ---- 1.0: pairs, after a header byte
  module _ (u : k ≡ 15 → ⊥) (step : Result ℕ Refusal) (em : step ≡ step_of (must lead_form byte (take (length m - 6) (drop 6 m)))) where
    leads : step ≡ step_of (must lead_form byte (drop 6 m))
    leads = em ∙ ap (λ (l : List ℕ). step_of (must lead_form byte l)) (rest_is m 6)

    pairs_in : ℕ → Parser Read
    pairs_in _ = mapc as_pairs (id_pairs T top)

    by_pairs : old_contents T top (drop 6 m) ≡ (must lead_form byte >>= pairs_in) (drop 6 m)
    unfolding pairs_in
    by_pairs = old_contents_pairs T top (drop 6 m) (λ z. u (ek ∙ z))

    module _ (x : Refusal) (g : step ≡ Err x) where
      unled : must lead_form byte (drop 6 m) ≡ bad x.number x.place
      unled = step_fault (must lead_form byte (drop 6 m)) x (sym g ∙ leads)

      old_bad : old_contents T top (drop 6 m) ≡ bad x.number x.place
      old_bad = by_pairs ∙ bind_bad (must lead_form byte) pairs_in (drop 6 m) unled

      pub old_unled : Stop x.number (6 + x.place) ≡ read_walk T top 6 (old_contents T top (drop 6 m))
      unfolding read_walk
      old_unled = rw old_bad

      pub old_unled_gives : (out l : List ℕ) (r : Read) (n : ℕ) → old_contents T top (drop 6 m) ≡ ok r n → out ≡ fill 0 (rows T top r.format r.pieces) l
      old_unled_gives out l r n e = absurd (ok≢bad e old_bad)

      pub lead_place : Fits w64 (length m) → Fits w64 (6 + x.place)
      lead_place f = omega (arith, held_refused (must lead_form byte) (held_must byte held_byte lead_form) (drop 6 m) unled, length-drop 6 m, six)

    module _ (i : ℕ) (g : step ≡ Ok i) where
      led : (b : ℕ) × (must lead_form byte (drop 6 m) ≡ ok b i)
      led = step_took (must lead_form byte (drop 6 m)) i (sym g ∙ leads)

      one : i ≡ 1
      one = (byte_canonical (drop 6 m) (must_ok byte (drop 6 m) lead_form led.1).0).1

      pub lead_within : 7 ≤ length m
      lead_within = omega (arith, one, held_took (must lead_form byte) (held_must byte held_byte lead_form) (drop 6 m) led.1, length-drop 6 m, six)

      by_ids : old_contents T top (drop 6 m) ≡ shift 1 (made as_pairs (id_pairs T top (drop 7 m)))
      unfolding pairs_in mapc
      by_ids =
          by_pairs ∙ bind_next (must lead_form byte) pairs_in (drop 6 m) led.1
          ∙ ap (λ (j : ℕ). shift j (made as_pairs (id_pairs T top (drop j (drop 6 m))))) one
          ∙ ap (λ (l : List ℕ). shift 1 (made as_pairs (id_pairs T top l))) (drop-drop 1 6 m)

      pub old_pairs : (w : Walk) → w ≡ pair_walk T 7 (id_pairs T top (drop 7 m)) → w ≡ read_walk T top 6 (old_contents T top (drop 6 m))
      old_pairs w ew = ew ∙ sym (ap (read_walk T top 6) by_ids ∙ walk_pairs T top (id_pairs T top (drop 7 m)))

      pub old_pairs_gives : (out l : List ℕ) → ((ss : List Slice) (n : ℕ) → id_pairs T top (drop 7 m) ≡ ok ss n → out ≡ fill 0 (pair_rows T 7 ss) l)
          → (r : Read) (n : ℕ) → old_contents T top (drop 6 m) ≡ ok r n → out ≡ fill 0 (rows T top r.format r.pieces) l
      old_pairs_gives out l fills r n e =
          let S = shift_ok 1 (made as_pairs (id_pairs T top (drop 7 m))) r n (sym by_ids ∙ e) in
          filled T top as_pairs (pair_rows T 7) (pair_rows_lem T top) (id_pairs T top (drop 7 m)) r S.0 S.1 out l fills

-- ---- the message

module _ (T : List ℕ) (top : ℕ) (m : List ℕ) where
  versioned : ℕ → Parser ℕ
  versioned _ = must (version_form (kind T top)) (number 2)

  held_in : ℕ → Parser Read
  held_in v = after_version T top v >>= Message.ended

  -- size and version take six bytes
  outer_six : (v k : ℕ) → outer T top (length m) m ≡ ok v k → (6 ≤ length m) × (k ≡ 6)
  unfolding outer versioned number
  outer_six v k e = go (bind_ok (must (outer_form (length m)) (number 4)) versioned m (must_ok (must (outer_form (length m)) (number 4) >>= versioned) m (old_form T top) e).0)
    where
      go : Bound (must (outer_form (length m)) (number 4)) versioned m v k → (6 ≤ length m) × (k ≡ 6)
      go B =
          let A = chunk_ok 4 val m (must_ok (number 4) m (outer_form (length m)) B.first).0 in
          let W = chunk_ok 2 val (drop B.n m) (must_ok (number 2) (drop B.n m) (version_form (kind T top)) B.next).0 in
          (omega (arith, A.0, A.2, W.0, length-drop B.n m), omega (arith, B.sum, A.2, W.2))

  module _ (z : Result Counted Refusal) (ez : z ≡ sized_of (outer T top (length m) m)) where
    module _ (x : Refusal) (q : z ≡ Err x) where
      unread : body T top m ≡ bad x.number x.place
      unfolding body held_in
      unread = bind_bad (outer T top (length m)) held_in m (sized_isnt (outer T top (length m) m) x (sym q ∙ ez))

      pub body_fault : Stop x.number x.place ≡ body_walk T top (body T top m)
      unfolding body_walk
      body_fault = rw unread

      pub body_fault_gives : (out l : List ℕ) (r : Read) (n : ℕ) → body T top m ≡ ok r n → out ≡ fill 0 (rows T top r.format r.pieces) l
      body_fault_gives out l r n e = absurd (ok≢bad e unread)

    module _ (x : Counted) (q : z ≡ Ok x) where
      sized : outer T top (length m) m ≡ ok x.number x.bytes
      sized = sized_is (outer T top (length m) m) x (sym q ∙ ez)

      pub body_six : 6 ≤ length m
      body_six = (outer_six x.number x.bytes sized).0

      -- what the version decides comes after it, and nothing after that
      module _ (C : Parser Read) (H : Held C) (ev : after_version T top x.number ≡ C) where
        inside : body T top m ≡ shift 6 (after (C (drop 6 m)) Message.ended (drop 6 m))
        unfolding body held_in ◌>>=◌
        inside =
            bind_next (outer T top (length m)) held_in m sized
            ∙ ap (λ (i : ℕ). shift i (held_in x.number (drop i m))) (outer_six x.number x.bytes sized).1
            ∙ ap (λ (p : Parser Read). shift 6 (after (p (drop 6 m)) Message.ended (drop 6 m))) ev

        by_contents : ended_walk (length m) (read_walk T top 6 (C (drop 6 m))) ≡ body_walk T top (body T top m)
        by_contents =
            read_ended T top 6 m (C (drop 6 m)) body_six (λ y j e. omega (arith, held_took C H (drop 6 m) e, length-drop 6 m, body_six))
            ∙ ap (body_walk T top) (sym inside)

        contents_ok : (r : Read) (j : ℕ) → body T top m ≡ ok r j → (i : ℕ) × (C (drop 6 m) ≡ ok r i)
        unfolding ◌>>=◌
        contents_ok r j e =
            let S = shift_ok 6 ((C >>= Message.ended) (drop 6 m)) r j (sym inside ∙ e) in
            let B = bind_ok C Message.ended (drop 6 m) S.1 in
            (B.n, B.first ∙ ap (λ (y : Read). ok y B.n) (sym (ended_ok B.fst (drop B.n (drop 6 m)) B.next).1))

      module _ (h : x.number ≡ 1) where
        is_old : after_version T top x.number ≡ old_contents T top
        unfolding after_version
        is_old = rw (eq-eqb x.number 1 h)

        pub body_old : (w u : Walk) → w ≡ read_walk T top 6 (old_contents T top (drop 6 m)) → u ≡ ended_walk (length m) w → u ≡ body_walk T top (body T top m)
        body_old w u ew eu = eu ∙ ap (ended_walk (length m)) ew ∙ by_contents (old_contents T top) (held_old_contents T top) is_old

        pub body_old_gives : (out l : List ℕ) → ((r : Read) (n : ℕ) → old_contents T top (drop 6 m) ≡ ok r n → out ≡ fill 0 (rows T top r.format r.pieces) l)
            → (r : Read) (n : ℕ) → body T top m ≡ ok r n → out ≡ fill 0 (rows T top r.format r.pieces) l
        body_old_gives out l fills r n e = let C = contents_ok (old_contents T top) (held_old_contents T top) is_old r n e in fills r C.0 C.1

      module _ (h : x.number ≡ 1 → ⊥) where
        is_new : after_version T top x.number ≡ contents T top
        unfolding after_version
        is_new = rw (ne_eqb x.number 1 h)

        pub body_new : (w u : Walk) → w ≡ read_walk T top 6 (contents T top (drop 6 m)) → u ≡ ended_walk (length m) w → u ≡ body_walk T top (body T top m)
        body_new w u ew eu = eu ∙ ap (ended_walk (length m)) ew ∙ by_contents (contents T top) (held_contents T top) is_new

        pub body_new_gives : (out l : List ℕ) → ((r : Read) (n : ℕ) → contents T top (drop 6 m) ≡ ok r n → out ≡ fill 0 (rows T top r.format r.pieces) l)
            → (r : Read) (n : ℕ) → body T top m ≡ ok r n → out ≡ fill 0 (rows T top r.format r.pieces) l
        body_new_gives out l fills r n e = let C = contents_ok (contents T top) (held_contents T top) is_new r n e in fills r C.0 C.1
