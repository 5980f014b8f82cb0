-- The loops over the rows of an owner. Assumes nothing.
--
--   group_more, group_stop, group_end    the pieces of an owner, row by row
--   grouping_begin                       what the loops keep, at first
--   is_due                               the next required member
--   row_within, row_inside, row_due      a member row that lies inside the table, and that is the next required member
--   is_true, is_false                    a test that is turned round
--   pass_..                              a member row that is passed; a required member that is missing, that is another, that is wrong; one more row; all are passed
--   row_over, quick_next, at_small       a member row that is passed; one more row, which is seen to be right without a call; the bytes are few
--   run_..                               the same where bytes of the buffer wait to be put: a row's bytes follow them, or begin anew after they are put
--   tags_..                              one more row of an optional member; a row that is none; a wrong one; no row is left
--   rows_joined, rows_refused            the rows of required members, then those of optional ones
use mathlib.Core.Path.{◌≡◌, refl, sym, ap, subst, ◌∙◌}
use mathlib.Core.Bool.{Bool, true, false, ◌||◌, not}
use mathlib.Core.Option.{none, some}
use mathlib.Core.List.{List, [], ◌∷◌, ◌++◌, append_assoc}
use Prim.Native.Nat.{ℕ, zero, suc, ◌+◌, ◌-◌, ◌≤◌, ◌<◌}
use native.Mathlib.Numerals.{add-one}
use native.Mathlib.Omega.{arith}
use lib.ListN.{length, take, drop, length-take, length-append}
use lib.Seq.{take-add, drop-drop}
use lib.Dec.{leb}
use Rattle.encoding.specs.Result.{concat}
use Rattle.encoding.specs.Optional.{Piece, required, piece_bytes, is_optional}
use Rattle.encoding.specs.Slice.{any_optional}
use Rattle.encoding.specs.Table.{field, members, member_at, mark, base}
use Rattle.encoding.specs.Old.{any_of}
use Rattle.encoding.specs.Message.{Row}
use Rattle.encoding.specs.Write.{State, stop, part_of, row_at}
use Rattle.table.specs.declared.MemberRow.{MemberRow}
use Rattle.table.specs.Rows.{IsMemberRow, Whole}
use Rattle.writer.specs.declared.Laid.{Laid}
use Rattle.std.specs.Prelude.{Result, Ok, Err, Option, Some, None}
use Rattle.pieces.specs.declared.Placed.{Placed}
use Rattle.pieces.specs.Cursors.{required_in, Cursor, due_from, due_at, may_at, state_of, IsDue}
use Rattle.pieces.specs.CursorsLaws.{due_more, due_none, due_skip}
use Rattle.pieces.specs.Judged.{judged_row, verdict_from, verdict_above}
use Rattle.pieces.specs.JudgedLaws.{gives_then, verdict_right, verdict_wrong, verdict_due, leave_row, leave_end}
use Rattle.pieces.specs.Puts.{Puts, Leaves}
use Rattle.pieces.specs.PutsLaws.{leaves_begin, leaves_next, leaves_end}
use Rattle.pieces.specs.Pieces.{piece_at, grown, group, RowIs, RowLaid, DuePut, MayPut}
use Rattle.pieces.specs.PiecesLaws.{required_bytes}
use Rattle.pieces.proofs.Fields.{due_other, due_outside, due_given}
use Rattle.writer.specs.Slices.{group_from, Grouping, Judges, RequiredsPut, RowsPut}
use Rattle.writer.specs.Gathers.{gone_none}

module _ (T rows buffer : List ℕ) (s : State) (i count : ℕ) where
  group_more : i < count → (p : Piece) (z : State) → piece_at T rows buffer s i ≡ some (record { piece = p; state = z })
      → group T rows buffer s i (count - i) ≡ p ∷ group T rows buffer z (i + 1) (count - (i + 1))
  unfolding group grown
  group_more h p z e =
      let n : count - i ≡ suc (count - (i + 1)) = omega arith in
      ap (group T rows buffer s i) n ∙ rw (e, add-one i)

  group_stop : piece_at T rows buffer s i ≡ none → group T rows buffer s i (count - i) ≡ []
  unfolding group grown
  group_stop e = go (count - i)
    where
      go : (k : ℕ) → group T rows buffer s i k ≡ []
      go zero = refl
      go (suc k) = rw e

  group_end : count ≤ i → group T rows buffer s i (count - i) ≡ []
  unfolding group
  group_end h = let n : count - i ≡ 0 = omega arith in ap (group T rows buffer s i) n

pub grouping_begin : (T : List ℕ) (old : Bool) (rows buffer : List ℕ) (judged : Bool) (count : ℕ) (s : Cursor) (first begin : ℕ) (out : List ℕ) → first ≤ count
    → Grouping T old rows buffer judged count s first begin out [] s begin first false out
grouping_begin T old rows buffer judged count s first begin out h = record {
  leaves = leaves_begin begin _ out;
  left = refl;
  flags = refl;
  rest = λ _. refl;
  same = refl;
  behind = omega arith;
  within = h;
  few = omega arith;
}

pub is_due : (T : List ℕ) (o a b k g : ℕ) → a ≡ field T o 0 → b ≡ field T o 1 → k < b → g ≡ mark T (a + k) → g ≡ 0 → IsDue T o k (a + k)
is_due T o a b k g ea eb h eg z = record { here = ap (λ (x : ℕ). x + k) ea; inside = omega arith; required = sym eg ∙ z }

-- a member row before a limit up to which they lie inside the table
module _ (T : List ℕ) (limit : ℕ) (W : 0 < limit → Whole T limit) (row : ℕ) (h : row < limit) where
  pub row_within : row < members T
  row_within = omega (arith, (W (omega arith)).few)

  pub row_inside : member_at T (row + 1) ≤ length T
  row_inside = omega (arith, (W (omega arith)).inside)

pub row_due : (T : List ℕ) (o a b k limit : ℕ) → a ≡ field T o 0 → b ≡ field T o 1 → limit ≤ a + b → a + k < limit → (r : MemberRow) → IsMemberRow T (a + k) r → r.mark ≡ 0 → IsDue T o k (a + k)
row_due T o a b k limit ea eb l h r is z = is_due T o a b k r.mark ea eb (omega arith) is.mark_is z

or_assoc : (a b c : Bool) → ((a || b) || c) ≡ (a || (b || c))
or_assoc true b c = refl
or_assoc false b c = refl

or_none : (a : Bool) → (a || false) ≡ a
or_none true = refl
or_none false = refl

or_true : (a : Bool) → (a || true) ≡ true
or_true true = refl
or_true false = refl

pub is_true : (b : Bool) → not b ≡ false → b ≡ true
is_true true e = refl
is_true false e = sym e

pub is_false : (b : Bool) → not b ≡ true → b ≡ false
is_false true e = sym e
is_false false e = refl

-- ---- one more row

module _ (T : List ℕ) (old : Bool) (rows buffer : List ℕ) (judged : Bool) (count : ℕ) (s : Cursor) (first begin : ℕ) (out₀ waits : List ℕ) (c : Cursor) (at i : ℕ) (optionals : Bool) (out : List ℕ)
    (g : Grouping T old rows buffer judged count s first begin out₀ waits c at i optionals out) where
  -- its bytes wait behind those that wait
  row_waits : i < count → (d : Cursor) (p : Piece) → RowIs T old rows buffer judged c i d p → length (piece_bytes p) ≤ 66000
      → Grouping T old rows buffer judged count s first begin out₀ (waits ++ piece_bytes p) d at (i + 1) (optionals || is_optional p) out
  unfolding concat any_optional
  row_waits l d p r few =
      let e = group_more T rows buffer (state_of T c) i count l p (state_of T d) r.is in
      record {
        leaves = subst (λ (z : List ℕ). Leaves begin (concat piece_bytes (group_from T rows buffer count s first)) out₀ at z out) (ap (λ (z : List Piece). waits ++ concat piece_bytes z) e ∙ sym (append_assoc waits (piece_bytes p) _)) g.leaves;
        left = omega (arith, g.left, ap length e);
        flags = or_assoc optionals (is_optional p) _ ∙ sym (ap (λ (z : List Piece). optionals || any_optional z) e) ∙ g.flags;
        rest = gives_then judged _ _ _ g.rest (verdict_right T old rows buffer count (state_of T c) i l judged (state_of T d) r.right);
        same = r.same ∙ g.same;
        behind = omega (arith, g.behind);
        within = omega arith;
        few = omega (arith, g.few, g.behind, length-append waits (piece_bytes p));
      }

  -- what waits is put
  waits_put : (last : List ℕ) (end : ℕ) → Puts at waits out last end → Grouping T old rows buffer judged count s first begin out₀ [] c end i optionals last
  waits_put last end p = record {
    leaves = leaves_next begin _ out₀ at _ out g.leaves waits _ last end refl p;
    left = g.left;
    flags = g.flags;
    rest = g.rest;
    same = g.same;
    behind = g.behind;
    within = g.within;
    few = omega (arith, g.few, p.ends);
  }

  -- they are refused
  refused : (r : Laid) (R : Type 0) → r.row ≡ i → 0 < r.fault → verdict_from T old rows buffer count (state_of T c) i ≡ stop r.fault i → Judges T old rows buffer judged count s first r R
  refused r R e n v = record { right = λ z. absurd (omega arith); wrong = λ _ a. g.rest a ∙ v ∙ ap (λ (x : ℕ). stop r.fault x) (sym e) }

row_next : (T : List ℕ) (old : Bool) (rows buffer : List ℕ) (judged : Bool) (count : ℕ) (s : Cursor) (first begin : ℕ) (out₀ : List ℕ) (c : Cursor) (at i : ℕ) (optionals : Bool) (out : List ℕ)
    → Grouping T old rows buffer judged count s first begin out₀ [] c at i optionals out → i < count → (last : List ℕ) (d : Cursor) (end : ℕ) (optional : Bool)
    → RowLaid T old rows buffer judged c i at out last d end optional
    → Grouping T old rows buffer judged count s first begin out₀ [] d end (i + 1) (optionals || optional) last
row_next T old rows buffer judged count s first begin out₀ c at i optionals out g l last d end optional r =
    let n : length (piece_bytes r.piece) ≤ 66000 = omega (arith, r.few, r.puts.ends) in
    let w = row_waits T old rows buffer judged count s first begin out₀ [] c at i optionals out g l d r.piece r.gives n in
    subst (λ (b : Bool). Grouping T old rows buffer judged count s first begin out₀ [] d end (i + 1) (optionals || b) last) (sym r.flag)
    (waits_put T old rows buffer judged count s first begin out₀ _ d at (i + 1) _ out w last end r.puts)

-- ---- required members

module _ (T : List ℕ) (old : Bool) (rows buffer : List ℕ) (judged : Bool) (count o first begin : ℕ) (out₀ waits : List ℕ) (k at i : ℕ) (out : List ℕ)
    (g : Grouping T old rows buffer judged count (due_at o 0) first begin out₀ waits (due_at o k) at i false out) where
  pub pass_over : (a b m : ℕ) → a ≡ field T o 0 → b ≡ field T o 1 → k < b → m ≡ mark T (a + k) → (m ≡ 0 → ⊥)
      → Grouping T old rows buffer judged count (due_at o 0) first begin out₀ waits (due_at o (k + 1)) at i false out
  unfolding state_of
  pass_over a b m ea eb h em n =
      let e : due_from T o k ≡ due_from T o (k + 1) = due_skip T (field T o 0) (field T o 1) k (omega arith) (λ q. n (em ∙ ap (λ (x : ℕ). mark T (x + k)) ea ∙ q)) in
      record {
        leaves = rw e at g.leaves;
        left = rw e at g.left;
        flags = rw e at g.flags;
        rest = rw e at g.rest;
        same = refl;
        behind = g.behind;
        within = g.within;
        few = g.few;
      }

  -- all are passed
  passed : (b : ℕ) → b ≡ field T o 1 → k ≡ b → Grouping T old rows buffer judged count (due_at o 0) first begin out₀ waits (may_at T o 0) at i false out
  passed b eb e = subst (λ (x : ℕ). Grouping T old rows buffer judged count (due_at o 0) first begin out₀ waits (due_at o x) at i false out) (e ∙ eb) g

  module _ (m : ℕ) (d : IsDue T o k m) (last : List ℕ) where
    pub pass_due : count ≤ i → RequiredsPut T old rows buffer judged count o first begin out₀ last (record { end = at; row = i; optionals = false; fault = 20 })
    unfolding any_of
    pass_due l =
        let e = due_more T (field T o 0) (field T o 1) k d.inside (ap (mark T) (sym d.here) ∙ d.required) in
        refused T old rows buffer judged count (due_at o 0) first begin out₀ waits (due_at o k) at i false out g _ _ refl (omega arith)
        (verdict_due T old rows buffer count (due_at o k) i l (ap any_of e))

    -- wrong by its judgement
    pub pass_wrong : i < count → (n : ℕ) → judged_row T old rows buffer (state_of T (due_at o k)) i ≡ stop n i → 0 < n
        → RequiredsPut T old rows buffer judged count o first begin out₀ last (record { end = at; row = i; optionals = false; fault = n })
    pass_wrong l n e h =
        refused T old rows buffer judged count (due_at o 0) first begin out₀ waits (due_at o k) at i false out g _ _ refl h
        (verdict_wrong T old rows buffer count (state_of T (due_at o k)) i l n e)

    module _ (l : i < count) (r : Row) (er : r ≡ row_at rows i) where
      pub pass_other : (r.member ≡ m → ⊥) → RequiredsPut T old rows buffer judged count o first begin out₀ last (record { end = at; row = i; optionals = false; fault = 20 })
      pass_other n = pass_wrong l 20 (due_other T old rows buffer i r er o k m d n) (omega arith)

      pub pass_outside : r.member ≡ m → (f : Bool) → f ≡ leb (r.place + r.len) (length buffer) → f ≡ false
          → RequiredsPut T old rows buffer judged count o first begin out₀ last (record { end = at; row = i; optionals = false; fault = 20 })
      pass_outside em f ef q = pass_wrong l 20 (due_outside T old rows buffer i r er o k m d em f ef q) (omega arith)

module _ (T : List ℕ) (old : Bool) (rows buffer : List ℕ) (judged : Bool) (count o first begin : ℕ) (out₀ : List ℕ) (k at i : ℕ) (out : List ℕ)
    (g : Grouping T old rows buffer judged count (due_at o 0) first begin out₀ [] (due_at o k) at i false out) where
  pub row_over : (a b limit : ℕ) → a ≡ field T o 0 → b ≡ field T o 1 → limit ≤ a + b → a + k < limit → (r : MemberRow) → IsMemberRow T (a + k) r → (r.mark ≡ 0 → ⊥)
      → Grouping T old rows buffer judged count (due_at o 0) first begin out₀ [] (due_at o (k + 1)) at i false out
  row_over a b limit ea eb l h r is n = pass_over T old rows buffer judged count o first begin out₀ [] k at i out g a b r.mark ea eb (omega arith) is.mark_is n

  pub at_small : begin ≤ 576460752303423488 → count ≤ 4294967296 → at ≤ 1152921504606846976
  at_small hb hc = omega (arith, g.few, g.within)

  pub quick_next : i < count → (p : Result ℕ ℕ) (last : List ℕ)
      → ((end : ℕ) → p ≡ Ok end → RowLaid T old rows buffer judged (due_at o k) i at out last (due_at o (k + 1)) end false) → (end : ℕ) → p ≡ Ok end
      → Grouping T old rows buffer judged count (due_at o 0) first begin out₀ [] (due_at o (k + 1)) end (i + 1) false last
  quick_next l p last h end q = row_next T old rows buffer judged count (due_at o 0) first begin out₀ (due_at o k) at i false out g l last (due_at o (k + 1)) end false (h end q)

  module _ (l : i < count) (p : Result ℕ ℕ) (last : List ℕ) (h : DuePut T old rows buffer judged o k i at out last p) where
    pub pass_next : (end : ℕ) → p ≡ Ok end → Grouping T old rows buffer judged count (due_at o 0) first begin out₀ [] (due_at o (k + 1)) end (i + 1) false last
    pass_next end q = row_next T old rows buffer judged count (due_at o 0) first begin out₀ (due_at o k) at i false out g l last (due_at o (k + 1)) end false (rw q at h)

    pub pass_fault : (m : ℕ) → IsDue T o k m → (n : ℕ) → p ≡ Err n → RequiredsPut T old rows buffer judged count o first begin out₀ last (record { end = at; row = i; optionals = false; fault = n })
    pass_fault m d n q = go (rw q at h)
      where
        go : DuePut T old rows buffer judged o k i at out last (Err n) → RequiredsPut T old rows buffer judged count o first begin out₀ last (record { end = at; row = i; optionals = false; fault = n })
        go r = pass_wrong T old rows buffer judged count o first begin out₀ [] k at i out g m d last l n r.0 r.1

  pub pass_end : (b : ℕ) → b ≡ field T o 1 → k ≡ b → RequiredsPut T old rows buffer judged count o first begin out₀ out (record { end = at; row = i; optionals = false; fault = 0 })
  pass_end b eb e = record { right = λ _. passed T old rows buffer judged count o first begin out₀ [] k at i out g b eb e; wrong = λ n. absurd (n refl) }

-- ---- bytes that wait

part_join : (buffer : List ℕ) (place len n : ℕ) → take len (drop place buffer) ++ take n (drop (place + len) buffer) ≡ take (len + n) (drop place buffer)
part_join buffer place len n = ap (λ (x : List ℕ). take len (drop place buffer) ++ take n x) (sym (drop-drop len place buffer)) ∙ sym (take-add len n (drop place buffer))

module _ (T : List ℕ) (old : Bool) (rows buffer : List ℕ) (count o first begin : ℕ) (out₀ : List ℕ) (place len k at i : ℕ) (out : List ℕ)
    (g : Grouping T old rows buffer true count (due_at o 0) first begin out₀ (take len (drop place buffer)) (due_at o k) at i false out) where
  module _ (l : i < count) (r : Row) (er : r ≡ row_at rows i) (m : ℕ) (d : IsDue T o k m) (em : r.member ≡ m) (short : r.len ≤ 65536) where
    pub run_more : r.place ≡ place + len → Grouping T old rows buffer true count (due_at o 0) first begin out₀ (take (len + r.len) (drop place buffer)) (due_at o (k + 1)) at (i + 1) false out
    unfolding part_of is_optional
    run_more e =
        let b : piece_bytes (required (required_in T (field T o 0) (k + 1 - 1)) (part_of buffer r)) ≡ take r.len (drop r.place buffer) = required_bytes _ _ in
        let n : length (piece_bytes (required (required_in T (field T o 0) (k + 1 - 1)) (part_of buffer r))) ≤ 66000 = omega (arith, length-take r.len (drop r.place buffer), ap length b) in
        subst (λ (z : List ℕ). Grouping T old rows buffer true count (due_at o 0) first begin out₀ z (due_at o (k + 1)) at (i + 1) false out)
        (ap (λ (z : List ℕ). take len (drop place buffer) ++ z) (b ∙ ap (λ (x : ℕ). take r.len (drop x buffer)) e) ∙ part_join buffer place len r.len)
        (row_waits T old rows buffer true count (due_at o 0) first begin out₀ _ (due_at o k) at i false out g l (due_at o (k + 1)) _ (due_given T old rows buffer i r er o k m d em) n)

    pub run_anew : (last : List ℕ) (end : ℕ) → Puts at (take len (drop place buffer)) out last end
        → Grouping T old rows buffer true count (due_at o 0) first begin out₀ (take r.len (drop r.place buffer)) (due_at o (k + 1)) end (i + 1) false last
    unfolding part_of is_optional
    run_anew last end p =
        let b : piece_bytes (required (required_in T (field T o 0) (k + 1 - 1)) (part_of buffer r)) ≡ take r.len (drop r.place buffer) = required_bytes _ _ in
        let n : length (piece_bytes (required (required_in T (field T o 0) (k + 1 - 1)) (part_of buffer r))) ≤ 66000 = omega (arith, length-take r.len (drop r.place buffer), ap length b) in
        let w = waits_put T old rows buffer true count (due_at o 0) first begin out₀ _ (due_at o k) at i false out g last end p in
        subst (λ (z : List ℕ). Grouping T old rows buffer true count (due_at o 0) first begin out₀ z (due_at o (k + 1)) end (i + 1) false last) b
        (row_waits T old rows buffer true count (due_at o 0) first begin out₀ [] (due_at o k) end i false last w l (due_at o (k + 1)) _ (due_given T old rows buffer i r er o k m d em) n)

  pub run_end : (b : ℕ) → b ≡ field T o 1 → k ≡ b → (last : List ℕ) (end : ℕ) → Puts at (take len (drop place buffer)) out last end
      → RequiredsPut T old rows buffer true count o first begin out₀ last (record { end = end; row = i; optionals = false; fault = 0 })
  run_end b eb e last end p =
      pass_end T old rows buffer true count o first begin out₀ k end i last (waits_put T old rows buffer true count (due_at o 0) first begin out₀ _ (due_at o k) at i false out g last end p) b eb e

-- ---- optional members

module _ (T : List ℕ) (old : Bool) (rows buffer : List ℕ) (judged : Bool) (count o first begin : ℕ) (out₀ : List ℕ) (least at i : ℕ) (optionals : Bool) (out : List ℕ)
    (g : Grouping T old rows buffer judged count (may_at T o 0) first begin out₀ [] (may_at T o least) at i optionals out) where
  -- no row of the owner is left
  rows_end : group_from T rows buffer count (may_at T o least) i ≡ [] → verdict_from T old rows buffer count (state_of T (may_at T o least)) i ≡ verdict_above T old rows buffer count (base T o) i
      → RowsPut T old rows buffer judged count (may_at T o 0) first begin out₀ out (record { end = at; row = i; optionals = optionals; fault = 0 })
  unfolding concat any_optional
  rows_end e v = record {
    right = λ _. record {
      puts = leaves_end begin _ out₀ at _ out g.leaves (ap (concat piece_bytes) e);
      next = omega (arith, g.left, ap length e);
      flag = sym (sym g.flags ∙ ap (λ (l : List Piece). optionals || any_optional l) e ∙ or_none optionals);
      within = g.within;
      rest = λ a. g.rest a ∙ v;
      few = omega (arith, g.few);
    };
    wrong = λ n. absurd (n refl);
  }

  pub tags_end : count ≤ i → RowsPut T old rows buffer judged count (may_at T o 0) first begin out₀ out (record { end = at; row = count; optionals = optionals; fault = 0 })
  unfolding any_of
  tags_end l =
      let z : i ≡ count = omega (arith, l, g.within) in
      subst (λ (n : ℕ). RowsPut T old rows buffer judged count (may_at T o 0) first begin out₀ out (record { end = at; row = n; optionals = optionals; fault = 0 })) z
      (rows_end (group_end T rows buffer (state_of T (may_at T o least)) i count l)
      (leave_end T old rows buffer count (may_at T o least) i l (ap any_of (due_none T (field T o 0) (field T o 1) (field T o 1) (omega arith)))))

  module _ (l : i < count) (p : Result (Option Placed) ℕ) (last : List ℕ) (h : MayPut T old rows buffer judged o least i at out last p) where
    pub tags_next : (x : Placed) → p ≡ Ok (Some x) → Grouping T old rows buffer judged count (may_at T o 0) first begin out₀ [] (may_at T o (x.tag + 1)) x.end (i + 1) true last
    tags_next x q = go (rw q at h)
      where
        go : MayPut T old rows buffer judged o least i at out last (Ok (Some x)) → Grouping T old rows buffer judged count (may_at T o 0) first begin out₀ [] (may_at T o (x.tag + 1)) x.end (i + 1) true last
        go r = subst (λ (b : Bool). Grouping T old rows buffer judged count (may_at T o 0) first begin out₀ [] (may_at T o (x.tag + 1)) x.end (i + 1) b last) (or_true optionals)
            (row_next T old rows buffer judged count (may_at T o 0) first begin out₀ (may_at T o least) at i optionals out g l last (may_at T o (x.tag + 1)) x.end true r.0)

    pub tags_small : (x : Placed) → p ≡ Ok (Some x) → x.tag < 4294967296
    tags_small x q = go (rw q at h)
      where
        go : MayPut T old rows buffer judged o least i at out last (Ok (Some x)) → x.tag < 4294967296
        go r = r.1

    pub tags_wrong : (n : ℕ) → p ≡ Err n → RowsPut T old rows buffer judged count (may_at T o 0) first begin out₀ last (record { end = at; row = i; optionals = optionals; fault = n })
    tags_wrong n q = go (rw q at h)
      where
        go : MayPut T old rows buffer judged o least i at out last (Err n) → RowsPut T old rows buffer judged count (may_at T o 0) first begin out₀ last (record { end = at; row = i; optionals = optionals; fault = n })
        go r = refused T old rows buffer judged count (may_at T o 0) first begin out₀ [] (may_at T o least) at i optionals out g _ _ refl r.1
            (verdict_wrong T old rows buffer count (state_of T (may_at T o least)) i l n r.0)

    pub tags_stop : p ≡ Ok None → RowsPut T old rows buffer judged count (may_at T o 0) first begin out₀ last (record { end = at; row = i; optionals = optionals; fault = 0 })
    tags_stop q = go (rw q at h)
      where
        go : MayPut T old rows buffer judged o least i at out last (Ok None) → RowsPut T old rows buffer judged count (may_at T o 0) first begin out₀ last (record { end = at; row = i; optionals = optionals; fault = 0 })
        go r = rw r.1 (rows_end (group_stop T rows buffer (state_of T (may_at T o least)) i count (gone_none T rows buffer (may_at T o least) i r.0)) (leave_row T old rows buffer count (may_at T o least) i l r.0))

-- ---- the rows of an owner

module _ (T : List ℕ) (old : Bool) (rows buffer : List ℕ) (judged : Bool) (count o first begin : ℕ) (out₀ mid : List ℕ) (d : Laid) (j : RequiredsPut T old rows buffer judged count o first begin out₀ mid d) where
  pub rows_refused : (d.fault ≡ 0 → ⊥) → RowsPut T old rows buffer judged count (due_at o 0) first begin out₀ mid d
  rows_refused n = record { right = λ e. absurd (n e); wrong = j.wrong }

  pub rows_joined : d.fault ≡ 0 → (last : List ℕ) (r : Laid) → RowsPut T old rows buffer judged count (may_at T o 0) d.row d.end mid last r → RowsPut T old rows buffer judged count (due_at o 0) first begin out₀ last r
  rows_joined z last r k =
      let g = j.right z in
      record {
        right = λ e.
            let q = k.right e in
            record {
              puts = leaves_end begin _ out₀ r.end [] last (leaves_next begin _ out₀ d.end _ mid g.leaves (concat piece_bytes (group_from T rows buffer count (may_at T o 0) d.row)) [] last r.end (sym (append_none _)) q.puts) refl;
              next = omega (arith, q.next, g.left);
              flag = q.flag ∙ g.flags;
              within = q.within;
              rest = gives_then judged _ _ _ g.rest q.rest;
              few = omega (arith, q.few, g.few, g.behind, q.next, g.left);
            };
        wrong = λ n. gives_then judged _ _ _ g.rest (k.wrong n);
      }
    where
      append_none : (b : List ℕ) → b ++ [] ≡ b
      append_none [] = refl
      append_none (x ∷ b) = ap (λ (l : List ℕ). x ∷ l) (append_none b)
