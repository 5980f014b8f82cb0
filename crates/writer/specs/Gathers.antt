-- Rows that were judged right make the message owner by owner, each owner's rows one after another. Assumes nothing.
--
--   Under, under_bases         bases are smaller, one after another
--   begin_is                   the state at the start of an owner is that of a cursor
--   Where, reach_where         what is reached is of the same owner, or is reached from the base's start
--   reach_low                  its owner is this one or a base
--   gone_none                  a row that is none of the owner gives no piece
--   contents_are               rows that were judged right make the data of the encapsulation
-- On the way: First, a first row that was judged right; Split, the pieces of the owner are those of the first rows, the slices above are made of the rest.
use Rattle.std.proofs.Math.Path.{◌≡◌, refl, sym, ap, ap₂}
use Rattle.std.proofs.Common.{◌∙◌}
use Rattle.std.specs.Prelude.{Bool, leb}
use Rattle.std.proofs.Math.Bool.{true, false}
use Rattle.std.proofs.Math.Option.{Option, none, some}
use mathlib.Core.List.{List, [], ◌∷◌, ◌++◌, map}
use Prim.Native.Nat.{ℕ, zero, suc, ◌+◌, ◌-◌, ◌≤◌, ◌<◌}
use native.Mathlib.Omega.{arith}
use Rattle.std.proofs.Math.ListN.{length}
use Rattle.std.proofs.Math.Dec.{eqb}
use borrow.Author.Tests.{eq-eqb, ne_eqb}
use Rattle.encoding.specs.Result.{pick, concat}
use Rattle.encoding.specs.Value.{exact}
use Rattle.encoding.specs.Table.{kind, range, Member, required_members, optional_members, name_of, base, upward, chain}
use Rattle.encoding.proofs.TableLaws.{base_below, chain_row}
use Rattle.encoding.specs.Optional.{Piece, piece_bytes}
use Rattle.encoding.specs.Slice.{first, Slice, known}
use Rattle.encoding.specs.Old.{type_as}
use Rattle.encoding.specs.Message.{Row, list, exception, class, slices_bytes, lead, encode}
use Rattle.encoding.specs.Write.{Out, out, stop, next, State, begin, Reached, reach_due, optional_row, or_above, entered, reach_may, reach, still_due, Given, given, part_of, judge, prepend, judge_all, pieces_of, slices_of, gathered, row_at}
use Rattle.pieces.specs.Cursors.{bases, Cursor, due_at, state_of, Gone}
use Rattle.pieces.specs.CursorsLaws.{due_begin, reach_end, reach_above}
use Rattle.pieces.specs.JudgedLaws.{judged_up}
use Rattle.pieces.specs.Pieces.{here_of, Taken, taken_of, piece_at, grown, group}
use Rattle.writer.specs.Slices.{encoding_as, group_of, slice_of, slices_from}
use Rattle.writer.specs.Messages.{contents_of}

-- ---- bases

abbrev pub Under : ℕ → List ℕ → Type 0
Under o [] = Unit {0}
Under o (t ∷ ts) = (t < o) × Under t ts

module _ (T : List ℕ) where
  bases_more : (o t : ℕ) (ts : List ℕ) → t ∷ ts ≡ bases T o → (t < o) × (ts ≡ bases T t)
  unfolding upward
  bases_more o t ts e = go (base T o) (base_below T o) e
    where
      go : (b : ℕ) → b ≤ o → t ∷ ts ≡ upward (chain T) b → (t < o) × (ts ≡ bases T t)
      go zero h e = let z : ◌≡◌ {A = ℕ} 0 1 = cc in absurd (omega arith)
      go (suc r) h e =
          let f : t ∷ ts ≡ r ∷ bases T r = e ∙ chain_row T r in
          let q : t ≡ r = cc in
          let p : ts ≡ bases T r = cc in
          (omega arith, p ∙ ap (bases T) (sym q))

  pub under_bases : (ts : List ℕ) (o : ℕ) → ts ≡ bases T o → Under o ts
  under_bases [] o e = tt
  under_bases (t ∷ ts) o e = let m = bases_more o t ts e in (m.0, under_bases ts t m.1)

  -- the state at the start of an owner
  pub begin_is : (t : ℕ) (ts : List ℕ) → ts ≡ bases T t → begin T t ts ≡ state_of T (due_at t 0)
  unfolding begin state_of
  begin_is t ts e = rw (due_begin T t, e)

-- ---- what is reached

-- of the same owner, or what is reached from the base's start
pub data Where (T : List ℕ) (m o : ℕ) (ts : List ℕ) (w : Option Reached) (z : Reached) : Type 0 where
  here : z.state.owner ≡ o → z.state.above ≡ ts → Where T m o ts w z
  up : (t : ℕ) (us : List ℕ) → ts ≡ t ∷ us → w ≡ reach T m (begin T t us) → Where T m o ts w z

-- a state of the same owner
where_same : (T : List ℕ) (m o : ℕ) (ts : List ℕ) (w : Option Reached) (x z : Reached) → x.state.owner ≡ o → x.state.above ≡ ts → some x ≡ some z → Where T m o ts w z
where_same T m o ts w x z p q e =
    let f : x ≡ z = cc in
    here (ap (λ (r : Reached). r.state.owner) (sym f) ∙ p) (ap (λ (r : Reached). r.state.above) (sym f) ∙ q)

where_none : (T : List ℕ) (m o : ℕ) (ts : List ℕ) (w : Option Reached) (z : Reached) → none ≡ some z → Where T m o ts w z
where_none T m o ts w z e = let y : ◌≡◌ {A = ℕ} 0 1 = cc in absurd (omega arith)

module _ (T : List ℕ) (m : ℕ) where
  may_where : (o least : ℕ) (ts : List ℕ) (z : Reached) → reach_may T m o least ts ≡ some z → Where T m o ts (reach_may T m o least ts) z
  unfolding reach_may or_above reach begin
  may_where o least [] z e = go (optional_row m least (optional_members T o)) e
    where
      go : (x : Option Member) → or_above o [] none x ≡ some z → Where T m o [] (or_above o [] none x) z
      go none q = where_none T m o [] none z q
      go (some d) q = where_same T m o [] _ _ z refl refl q
  may_where o least (t ∷ ts) z e = go (optional_row m least (optional_members T o)) e
    where
      go : (x : Option Member) → or_above o (t ∷ ts) (entered t ts m (reach_may T m t 0 ts) (required_members T t)) x ≡ some z
          → Where T m o (t ∷ ts) (or_above o (t ∷ ts) (entered t ts m (reach_may T m t 0 ts) (required_members T t)) x) z
      go none q = up t ts refl refl
      go (some d) q = where_same T m o (t ∷ ts) _ _ z refl refl q

  pub reach_where : (s : State) (z : Reached) → reach T m s ≡ some z → Where T m s.owner s.above (reach T m s) z
  unfolding reach entered reach_due
  reach_where s z e = go s.due e
    where
      due : (d : Member) (ds : List Member) (t : Bool) (w : Option Reached)
          → pick t (some (record { member = d; required_one = true; state = record { owner = s.owner; due = ds; least = 0; above = s.above } })) none ≡ some z
          → Where T m s.owner s.above w z
      due d ds true w q = where_same T m s.owner s.above w _ z refl refl q
      due d ds false w q = where_none T m s.owner s.above w z q

      go : (l : List Member) → entered s.owner s.above m (reach_may T m s.owner s.least s.above) l ≡ some z
          → Where T m s.owner s.above (entered s.owner s.above m (reach_may T m s.owner s.least s.above) l) z
      go [] q = may_where s.owner s.least s.above z q
      go (d ∷ ds) q = due d ds (eqb m d.row) _ q

  -- its owner is this one or a base
  pub reach_low : (ts : List ℕ) (s : State) (z : Reached) → s.above ≡ ts → Under s.owner ts → reach T m s ≡ some z → z.state.owner ≤ s.owner
  unfolding begin
  reach_low [] s z e u r = go (reach_where s z r)
    where
      go : Where T m s.owner s.above (reach T m s) z → z.state.owner ≤ s.owner
      go (here p q) = omega arith
      go (up t us p q) = let f : t ∷ us ≡ [] = cc in let y : ◌≡◌ {A = ℕ} 0 1 = cc in absurd (omega arith)
  reach_low (t ∷ ts) s z e u r = go (reach_where s z r) (λ q. reach_low ts (begin T t ts) z refl u.1 q)
    where
      go : Where T m s.owner s.above (reach T m s) z → (reach T m (begin T t ts) ≡ some z → z.state.owner ≤ t) → z.state.owner ≤ s.owner
      go (here p q) ih = omega arith
      go (up v us p q) ih =
          let f : v ∷ us ≡ t ∷ ts = cc in
          let a : v ≡ t = cc in
          let b : us ≡ ts = cc in
          let l : z.state.owner ≤ t = ih (ap₂ (λ (x : ℕ) (y : List ℕ). reach T m (begin T x y)) (sym a) (sym b) ∙ sym q ∙ r) in
          omega (arith, u.0)

-- none of the owner where nothing of it is due and no optional of it may come
pub gone_none : (T rows buffer : List ℕ) (c : Cursor) (i : ℕ) → Gone T c (row_at rows i).member → piece_at T rows buffer (state_of T c) i ≡ none
unfolding piece_at taken_of here_of state_of
gone_none T rows buffer c i g = go (base T c.owner) refl
  where
    m : ℕ
    m = (row_at rows i).member

    taken : Option Reached → Option Taken
    taken w = taken_of (part_of buffer (row_at rows i)) (here_of c.owner w)

    lower : (t : ℕ) → t < c.owner → (w : Option Reached) → reach T m (state_of T (due_at t 0)) ≡ w → taken w ≡ none
    lower t l none e = refl
    lower t l (some z) e =
        let h : z.state.owner ≤ t = reach_low T m (bases T t) (state_of T (due_at t 0)) z refl (under_bases T (bases T t) t refl) e in
        rw (ne_eqb c.owner z.state.owner (λ q. omega arith))

    go : (up : ℕ) → base T c.owner ≡ up → taken (reach T m (state_of T c)) ≡ none
    go zero e = ap taken (reach_end T m c g.due g.may e)
    go (suc t) e = ap taken (reach_above T m c t g.due g.may e) ∙ lower t (omega (arith, base_below T c.owner)) (reach T m (state_of T (due_at t 0))) refl

-- ---- a first row that was judged right

module _ (T : List ℕ) (old : Bool) (rows buffer : List ℕ) where
  -- rows i, i + 1, .., k of them
  abbrev from : ℕ → ℕ → List Row
  from i k = map (row_at rows) (range i k)

  record First (s : State) (i k : ℕ) (gs : List Given) : Type 0 where
    z : Reached
    rest : List Given
    reached : reach T (row_at rows i).member s ≡ some z
    more : judge_all T old buffer z.state (suc i) (from (suc i) k) ≡ out rest
    is : gs ≡ given z (part_of buffer (row_at rows i)) ∷ rest

  judged_first : (s : State) (i k : ℕ) (gs : List Given) → judge_all T old buffer s i (from i (suc k)) ≡ out gs → First s i k gs
  unfolding judge_all judge next prepend range
  judged_first s i k gs e = go (reach T (row_at rows i).member s) refl e
    where
      r : Row
      r = row_at rows i

      second : (z : Reached) → reach T r.member s ≡ some z → (w : Out (List Given)) → judge_all T old buffer z.state (suc i) (from (suc i) k) ≡ w
          → next w (prepend (given z (part_of buffer r))) ≡ out gs → First s i k gs
      second z q (out l) f h = record { z = z; rest = l; reached = q; more = f; is = cc }
      second z q (stop n p) f h = let y : ◌≡◌ {A = ℕ} 0 1 = cc in absurd (omega arith)

      parts : (z : Reached) → reach T r.member s ≡ some z → (a b : Bool)
          → next (pick a (pick b (out z) (stop 21 i)) (stop 20 i)) (λ (z : Reached). next (judge_all T old buffer z.state (suc i) (from (suc i) k)) (prepend (given z (part_of buffer r)))) ≡ out gs
          → First s i k gs
      parts z q true true h = second z q _ refl h
      parts z q true false h = let y : ◌≡◌ {A = ℕ} 0 1 = cc in absurd (omega arith)
      parts z q false b h = let y : ◌≡◌ {A = ℕ} 0 1 = cc in absurd (omega arith)

      go : (w : Option Reached) → reach T r.member s ≡ w
          → next (judge old buffer i r w) (λ (z : Reached). next (judge_all T old buffer z.state (suc i) (from (suc i) k)) (prepend (given z (part_of buffer r)))) ≡ out gs
          → First s i k gs
      go none q h = let y : ◌≡◌ {A = ℕ} 0 1 = cc in absurd (omega arith)
      go (some z) q h = parts z q (leb (r.place + r.len) (length buffer)) (exact (type_as old z.member.ty) (part_of buffer r)) h

  -- ---- owner by owner

  record Split (count : ℕ) (s : State) (i k : ℕ) (gs : List Given) : Type 0 where
    mine : pieces_of s.owner gs ≡ group T rows buffer s i k
    others : slices_of T gs s.above ≡ slices_from T rows buffer count (i + length (group T rows buffer s i k)) s.above
    free : (u : ℕ) → s.owner < u → pieces_of u gs ≡ []

  slices_empty : (count i : ℕ) (ts : List ℕ) → count ≤ i → slices_of T [] ts ≡ slices_from T rows buffer count i ts
  unfolding slices_of slices_from slice_of pieces_of group
  slices_empty count i [] h = refl
  slices_empty count i (t ∷ ts) h =
      let z : count - i ≡ 0 = omega arith in
      let e : group_of T rows buffer count t i ≡ [] = rw z in
      ap₂ (λ (p : List Piece) (l : List Slice). known (name_of T t) p ∷ l) (sym e) (slices_empty count (i + length (group_of T rows buffer count t i)) ts (omega arith))

  slices_skip : (g : Given) (gs : List Given) (ts : List ℕ) (u : ℕ) → u ≤ g.owner → Under u ts → slices_of T (g ∷ gs) ts ≡ slices_of T gs ts
  unfolding slices_of pieces_of
  slices_skip g gs [] u h b = refl
  slices_skip g gs (t ∷ ts) u h b =
      let l = b.0 in
      let n : eqb t g.owner ≡ false = ne_eqb t g.owner (λ q. omega arith) in
      ap₂ (λ (p : List Piece) (l : List Slice). known (name_of T t) p ∷ l) (rw n) (slices_skip g gs ts t (omega arith) b.1)

  module _ (count : ℕ) (s : State) (i k : ℕ) (gs : List Given) (F : First s i k gs) where
    -- the row is of the same owner
    group_here : F.z.state.owner ≡ s.owner → group T rows buffer s i (suc k) ≡ (given F.z (part_of buffer (row_at rows i))).piece ∷ group T rows buffer F.z.state (suc i) k
    unfolding group grown piece_at taken_of here_of
    group_here p = rw (F.reached, eq-eqb s.owner F.z.state.owner (sym p))

    pieces_here : (u : ℕ) → u ≡ F.z.state.owner → pieces_of u gs ≡ (given F.z (part_of buffer (row_at rows i))).piece ∷ pieces_of u F.rest
    unfolding pieces_of given
    pieces_here u p = ap (pieces_of u) F.is ∙ rw (eq-eqb u F.z.state.owner p)

    pieces_other : (u : ℕ) → (u ≡ F.z.state.owner → ⊥) → pieces_of u gs ≡ pieces_of u F.rest
    unfolding pieces_of given
    pieces_other u p = ap (pieces_of u) F.is ∙ rw (ne_eqb u F.z.state.owner p)

    split_here : F.z.state.owner ≡ s.owner → F.z.state.above ≡ s.above → Under s.owner s.above → Split count F.z.state (suc i) k F.rest → Split count s i (suc k) gs
    unfolding given
    split_here p q u S =
        let e = group_here p in
        let n : i + length (group T rows buffer s i (suc k)) ≡ suc i + length (group T rows buffer F.z.state (suc i) k) = omega (arith, ap length e) in
        record {
          mine = pieces_here s.owner (sym p) ∙ ap (λ (l : List Piece). (given F.z (part_of buffer (row_at rows i))).piece ∷ l) (ap (λ (x : ℕ). pieces_of x F.rest) (sym p) ∙ S.mine) ∙ sym e;
          others = ap (λ (l : List Given). slices_of T l s.above) F.is ∙ slices_skip _ F.rest s.above s.owner (omega arith) u
              ∙ ap (slices_of T F.rest) (sym q) ∙ S.others ∙ ap₂ (λ (x : ℕ) (l : List ℕ). slices_from T rows buffer count x l) (sym n) q;
          free = λ v h. pieces_other v (λ r. omega arith) ∙ S.free v (omega arith);
        }

    -- it is of a base
    group_above : F.z.state.owner < s.owner → group T rows buffer s i (suc k) ≡ []
    unfolding group grown piece_at taken_of here_of
    group_above l = rw (F.reached, ne_eqb s.owner F.z.state.owner (λ q. omega arith))

    split_up : (t : ℕ) (us : List ℕ) → s.above ≡ t ∷ us → us ≡ bases T t → t < s.owner → F.z.state.owner ≤ t → count - i ≡ suc k
        → Split count (begin T t us) i (suc k) gs → Split count s i (suc k) gs
    unfolding begin slices_of slices_from slice_of
    split_up t us p b l h n S =
        let e = group_above (omega arith) in
        let w : group T rows buffer (begin T t us) i (suc k) ≡ group_of T rows buffer count t i = ap₂ (λ (x : State) (y : ℕ). group T rows buffer x i y) (begin_is T t us b) (sym n) in
        let z : i + length (group T rows buffer s i (suc k)) ≡ i = omega (arith, ap length e) in
        record {
          mine = S.free s.owner l ∙ sym e;
          others = ap (slices_of T gs) p
              ∙ ap₂ (λ (x : List Piece) (y : List Slice). known (name_of T t) x ∷ y) (S.mine ∙ w)
              (S.others ∙ ap (λ (x : List Piece). slices_from T rows buffer count (i + length x) us) w)
              ∙ ap₂ (λ (x : ℕ) (l : List ℕ). slices_from T rows buffer count x l) (sym z) (sym p);
          free = λ u q. S.free u (omega arith);
        }

  split_end : (count : ℕ) (s : State) (i : ℕ) (gs : List Given) → count - i ≡ 0 → judge_all T old buffer s i (from i 0) ≡ out gs → Split count s i 0 gs
  unfolding judge_all range group pieces_of
  split_end count s i gs n e = go (still_due T s) e
    where
      go : (t : Bool) → pick t (stop 20 i) (out []) ≡ out gs → Split count s i 0 gs
      go true q = let y : ◌≡◌ {A = ℕ} 0 1 = cc in absurd (omega arith)
      go false q =
          let f : gs ≡ [] = cc in
          record {
            mine = ap (pieces_of s.owner) f;
            others = ap (λ (l : List Given). slices_of T l s.above) f ∙ slices_empty count (i + 0) s.above (omega arith);
            free = λ u h. ap (pieces_of u) f;
          }

  -- one more row, where it is known of fewer
  split_more : (count k : ℕ)
      → ((s : State) (i : ℕ) (gs : List Given) → s.above ≡ bases T s.owner → count - i ≡ k → judge_all T old buffer s i (from i k) ≡ out gs → Split count s i k gs)
      → (ts : List ℕ) (s : State) (i : ℕ) (gs : List Given) → s.above ≡ ts → ts ≡ bases T s.owner → count - i ≡ suc k
      → judge_all T old buffer s i (from i (suc k)) ≡ out gs → Split count s i (suc k) gs
  unfolding begin
  split_more count k ih [] s i gs e b n j = go (judged_first s i k gs j)
    where
      go : First s i k gs → Split count s i (suc k) gs
      go F = side (reach_where T (row_at rows i).member s F.z F.reached)
        where
          side : Where T (row_at rows i).member s.owner s.above (reach T (row_at rows i).member s) F.z → Split count s i (suc k) gs
          side (here p q) = split_here count s i k gs F p q (rw e tt) (ih F.z.state (suc i) F.rest (q ∙ e ∙ b ∙ ap (bases T) (sym p)) (omega arith) F.more)
          side (up t us p q) = let f : t ∷ us ≡ [] = cc in let y : ◌≡◌ {A = ℕ} 0 1 = cc in absurd (omega arith)
  split_more count k ih (t ∷ ts) s i gs e b n j = go (judged_first s i k gs j) (λ q. split_more count k ih ts (begin T t ts) i gs refl (bases_more T s.owner t ts b).1 n q)
    where
      go : First s i k gs → (judge_all T old buffer (begin T t ts) i (from i (suc k)) ≡ out gs → Split count (begin T t ts) i (suc k) gs) → Split count s i (suc k) gs
      go F rec = side (reach_where T (row_at rows i).member s F.z F.reached)
        where
          side : Where T (row_at rows i).member s.owner s.above (reach T (row_at rows i).member s) F.z → Split count s i (suc k) gs
          side (here p q) =
              split_here count s i k gs F p q (rw e (under_bases T (t ∷ ts) s.owner b))
              (ih F.z.state (suc i) F.rest (q ∙ e ∙ b ∙ ap (bases T) (sym p)) (omega arith) F.more)
          side (up v us p q) =
              let f : v ∷ us ≡ t ∷ ts = cc in
              let a : v ≡ t = cc in
              let c : us ≡ ts = cc in
              let r : reach T (row_at rows i).member s ≡ reach T (row_at rows i).member (begin T t ts) = q ∙ ap₂ (λ (x : ℕ) (y : List ℕ). reach T (row_at rows i).member (begin T x y)) a c in
              let m = bases_more T s.owner t ts b in
              split_up count s i k gs F t ts e m.1 m.0
              (reach_low T (row_at rows i).member ts (begin T t ts) F.z refl (under_bases T ts t m.1) (sym r ∙ F.reached))
              n (rec (sym (judged_up T old rows buffer s (begin T t ts) i k r) ∙ j))

  split : (count k : ℕ) (s : State) (i : ℕ) (gs : List Given) → s.above ≡ bases T s.owner → count - i ≡ k → judge_all T old buffer s i (from i k) ≡ out gs → Split count s i k gs
  split count zero s i gs b n j = split_end count s i gs n j
  split count (suc k) s i gs b n j = split_more count k (λ s i gs b n j. split count k s i gs b n j) s.above s i gs refl b n j

  -- ---- the message

  pub contents_are : (count type : ℕ) (gs : List Given) → judge_all T old buffer (state_of T (due_at type 0)) 0 (from 0 count) ≡ out gs
      → encode (encoding_as old) (gathered T type gs) ≡ contents_of T old rows buffer count type
  unfolding encode gathered contents_of state_of slices_of slices_from slice_of
  contents_are count type gs j = go (eqb (kind T type) 15) (eqb (kind T type) 14)
    where
      S : Split count (state_of T (due_at type 0)) 0 count gs
      S = split count count (state_of T (due_at type 0)) 0 gs refl (omega arith) j

      list_is : pieces_of type gs ≡ group_of T rows buffer count type 0
      list_is = S.mine ∙ ap (group T rows buffer (state_of T (due_at type 0)) 0) (omega arith)

      slices_are : slices_of T gs (chain T type) ≡ slices_from T rows buffer count 0 (chain T type)
      slices_are =
          ap (slices_of T gs) (chain_row T type)
          ∙ ap₂ (λ (x : List Piece) (y : List Slice). known (name_of T type) x ∷ y) list_is (S.others ∙ ap (λ (x : List Piece). slices_from T rows buffer count (0 + length x) (bases T type)) (sym S.mine ∙ list_is))
          ∙ ap (slices_from T rows buffer count 0) (sym (chain_row T type))

      go : (a b : Bool) → encode (encoding_as old) (pick a (list (pieces_of type gs)) (pick b (class (slices_of T gs (chain T type))) (exception (slices_of T gs (chain T type)))))
          ≡ pick a (concat piece_bytes (group_of T rows buffer count type 0)) (pick b (1 ∷ slices_bytes (encoding_as old) first (slices_from T rows buffer count 0 (chain T type))) (lead (encoding_as old) ++ slices_bytes (encoding_as old) first (slices_from T rows buffer count 0 (chain T type))))
      go true b = ap (concat piece_bytes) list_is
      go false true = ap (λ (l : List Slice). 1 ∷ slices_bytes (encoding_as old) first l) slices_are
      go false false = ap (λ (l : List Slice). lead (encoding_as old) ++ slices_bytes (encoding_as old) first l) slices_are
