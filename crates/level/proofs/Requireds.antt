-- The loop over an owner's rows that reads its required members and puts a row for each. Assumes nothing.
--
--   due_begin      at the start
--   due_past, due_run   after an optional row, and after those that follow it
--   due_next       after a required member that was read, counted from the first byte; due_step after one of n bytes
--   due_fault, due_never     after a value that is refused; then nothing was accepted
--   due_says, due_gives      at the end
--   due_room, due_fits       what is added fits
use mathlib.Core.Path.{◌≡◌, refl, sym, ap, ap₂, ◌∙◌, subst}
use mathlib.Core.Bool.{Bool, true, false}
use mathlib.Core.List.{List, [], ◌∷◌}
use Prim.Native.Nat.{ℕ, zero, suc, ◌+◌, ◌-◌, ◌*◌, ◌^◌, ◌≤◌, ◌<◌, min}
use native.Mathlib.Nat.{add-zero, zero-add, add_assoc}
use native.Mathlib.Numerals.{add-one}
use native.Mathlib.Omega.{arith}
use mir.Syntax.{w64}
use mir.Val.{Fits}
use lib.ListN.{length, take, drop, length-drop}
use lib.Seq.{drop-drop, length-take-le}
use lib.Dec.{eqb}
use borrow.Author.Tests.{eqb-false, eq-eqb, ne_eqb}
use Rattle.encoding.specs.Result.{Parser, Res, ok, bad, pick, shift, ◌>>=◌, pure, made, mapc, bytes}
use Rattle.encoding.proofs.ResultLaws.{ok≢bad, Bound, bind_ok, bind_next, bind_bad, bytes_step, mapc_ok, held_took, held_refused}
use Rattle.encoding.specs.Value.{value}
use Rattle.encoding.proofs.ValueLaws.{held_value}
use Rattle.encoding.specs.Old.{type_as, members_as}
use Rattle.encoding.specs.Table.{field, mark, range, ty_of, member_ty, own_rows, trees, Member, requireds_in}
use Rattle.encoding.specs.Table
use Rattle.encoding.specs.Optional.{Piece, required, requireds}
use Rattle.encoding.specs.Message.{Row, row_bytes, piece_rows}
use Rattle.std.specs.Prelude.{Result, Ok, Err}
use Rattle.wire.specs.declared.Refusal.{Refusal}
use Rattle.wire.specs.Steps.{step_of, refused, behind, later, LaterFits}
use Rattle.wire.specs.Put.{put}
use Rattle.wire.specs.PutLaws.{put_length}
use Rattle.table.specs.Tags.{first_optional, optional_start, first_required}
use Rattle.table.specs.TagsLaws.{first_begun, first_most}
use Rattle.table.proofs.Ranges.{range_more, range_none}
use Rattle.wire.specs.StepLaws.{rest_is, step_took, step_fault}
use Rattle.level.specs.Fill.{fill}
use Rattle.optional.specs.Answers.{type_row}
use Rattle.level.specs.Answers.{members_of, reads}
use Rattle.level.specs.Due.{Later, Due}
use Rattle.level.specs.RequiredLaws.{member_at, Ahead, ahead_begin, ahead_past, ahead_next, required_past, required_next, none_as, requireds_as, piece_row}
use Rattle.optional.proofs.Lookups.{row_type}

shift_none : {A : Type 0} (r : Res A) → r ≡ shift 0 r
unfolding shift
shift_none (ok a n) = ap (ok a) (sym (zero-add n))
shift_none (bad c p) = ap (bad c) (sym (zero-add p))

-- ---- the loop

-- one member, and the rest after it
one_more : (k i pos n : ℕ) (p : Piece) (r : Res (List Piece)) → members_of k i (shift pos (shift n (made (λ ps _. p ∷ ps) r))) ≡ members_of (k + 1) i (shift (pos + n) r)
unfolding members_of shift made
one_more k i pos n p (ok ps l) = ap₂ (λ (x y : ℕ). reads x y i) (sym (add_assoc pos n l)) (omega arith)
one_more k i pos n p (bad c q) = ap (refused c) (sym (add_assoc pos n q))

pub due_begin : (old : Bool) (T : List ℕ) (t at count : ℕ) (s out : List ℕ) (a b : ℕ) → a ≡ field T t 0 → b ≡ field T t 1 → a < 65536 → b < 65536
    → Due old T t at count s out a (a + b) 0 count (a + b) out
unfolding own_rows Table.required_members optional_start
due_begin old T t at count s out a b ea eb ha hb =
    let z : a + b - a ≡ b = omega arith in
    let e : range a (a + b - a) ≡ own_rows T t = rw (z, ea, eb) in
    record {
      seen = 0;
      inside = omega arith;
      within = omega arith;
      few = omega arith;
      ends = ap₂ ◌+◌ ea eb;
      most = omega arith;
      start = rw (z, ← ea, ← eb) (omega (arith, first_most T (a + b) b a (omega arith)));
      low = omega arith;
      same = refl;
      ahead = rw e (ahead_begin T t);
      says = rw e (ap (members_of count (optional_start T t)) (shift_none (requireds (members_as old (Table.required_members T t)) s)));
      gives = λ ps n h. record {
        pieces = ps;
        taken = n;
        read = rw e h;
        made = ap (λ (i : ℕ). fill count (piece_rows T t i ps) out) (sym (add-zero at));
      };
    }

module _ (old : Bool) (T : List ℕ) (t at count : ℕ) (s out₀ : List ℕ) (m end pos k next : ℕ) (out : List ℕ) (D : Due old T t at count s out₀ m end pos k next out) where
  -- ---- the end
  pub due_says : end ≤ m → reads pos k next ≡ members_of count (optional_start T t) (requireds (members_as old (Table.required_members T t)) s)
  unfolding requireds_in pure shift members_of first_optional
  due_says h =
      let z : end - m ≡ 0 = omega arith in
      let i : optional_start T t ≡ next = D.start ∙ rw z (omega (arith, D.ends, D.most)) in
      sym (D.says ∙ rw (range_none m end h, none_as old, add-zero pos, add-zero k, i))

  pub due_gives : end ≤ m → (ps : List Piece) (n : ℕ) → requireds (members_as old (Table.required_members T t)) s ≡ ok ps n → out ≡ fill count (piece_rows T t at ps) out₀
  unfolding requireds_in pure piece_rows fill
  due_gives h ps n e = go (D.gives ps n e)
    where
      go : Later T t at s (members_as old (requireds_in T (trees T) D.seen (range m (end - m)))) pos k (fill count (piece_rows T t at ps) out₀) out → out ≡ fill count (piece_rows T t at ps) out₀
      go L =
          let r : ok [] 0 ≡ ok L.pieces L.taken = rw (range_none m end h, none_as old) at L.read in
          let z : L.pieces ≡ [] = cc in
          sym (L.made ∙ ap (λ (l : List Piece). fill k (piece_rows T t (at + pos) l) out) z)

  -- ---- one row
  module _ (h : m < end) where
    split : range m (end - m) ≡ m ∷ range (m + 1) (end - (m + 1))
    split = range_more m end h

    ahead_split : Ahead T t D.seen (m ∷ range (m + 1) (end - (m + 1)))
    ahead_split = rw split at D.ahead

    -- where the optional members begin, by the row at hand
    start_split : first_optional T (field T t 0 + field T t 1) m (end - m) ≡ pick (eqb (mark T m) 0) (first_optional T (field T t 0 + field T t 1) (m + 1) (end - (m + 1))) m
    unfolding first_optional
    start_split = let e : end - m ≡ suc (end - (m + 1)) = omega arith in ap (first_optional T (field T t 0 + field T t 1) m) e ∙ rw (add-one m)

    due_past : (mark T m ≡ 0 → ⊥) → (i : ℕ) → i ≡ min next m → Due old T t at count s out₀ (m + 1) end pos k i out
    due_past y i ei =
        let e : members_as old (requireds_in T (trees T) D.seen (range m (end - m))) ≡ members_as old (requireds_in T (trees T) D.seen (range (m + 1) (end - (m + 1)))) =
        ap (λ (l : List ℕ). members_as old (requireds_in T (trees T) D.seen l)) split ∙ ap (members_as old) (required_past T D.seen m (range (m + 1) (end - (m + 1))) y) in
        record {
          seen = D.seen;
          inside = D.inside;
          within = omega arith;
          few = D.few;
          ends = D.ends;
          most = omega arith;
          start = D.start ∙ rw (start_split, ne_eqb (mark T m) 0 y)
              (omega (arith, D.ends, first_begun T (field T t 0 + field T t 1) (end - (m + 1)) (m + 1) (omega (arith, D.ends))));
          low = omega (arith, D.low);
          same = D.same;
          ahead = ahead_past T t D.seen m (range (m + 1) (end - (m + 1))) ahead_split y;
          says = D.says ∙ ap (λ (l : List Member). members_of k (optional_start T t) (shift pos (requireds l (drop pos s)))) e;
          gives = λ ps n q. subst (λ (l : List Member). Later T t at s l pos k (fill count (piece_rows T t at ps) out₀) out) e (D.gives ps n q);
        }

    -- ---- a required member
    module _ (g : ℕ) (eg : g ≡ mark T m) (z : g ≡ 0) (ty : ℕ) (et : ty ≡ type_row T m)
        (r : Result ℕ Refusal) (er : r ≡ step_of (value (type_as old (ty_of T ty)) (take (length s - pos) (drop pos s)))) where
      abbrev rest : List Member
      rest = members_as old (requireds_in T (trees T) (suc D.seen) (range (m + 1) (end - (m + 1))))

      abbrev cont : List ℕ → List ℕ → Res (List Piece)
      cont b = mapc (λ ps _. required D.seen b ∷ ps) (requireds rest)

      ms_split : requireds_in T (trees T) D.seen (range m (end - m)) ≡ member_at T D.seen m ∷ requireds_in T (trees T) (suc D.seen) (range (m + 1) (end - (m + 1)))
      ms_split = ap (requireds_in T (trees T) D.seen) split ∙ required_next T D.seen m (range (m + 1) (end - (m + 1))) (sym eg ∙ z)

      requireds_split : requireds (members_as old (requireds_in T (trees T) D.seen (range m (end - m)))) (drop pos s) ≡ (bytes (value (type_as old (member_ty T (trees T) m))) >>= cont) (drop pos s)
      requireds_split =
          ap (λ (l : List Member). requireds (members_as old l) (drop pos s)) ms_split
          ∙ ap (λ (p : Parser (List Piece)). p (drop pos s)) (requireds_as old (member_at T D.seen m) (requireds_in T (trees T) (suc D.seen) (range (m + 1) (end - (m + 1)))))

      answer : r ≡ step_of (value (type_as old (member_ty T (trees T) m)) (drop pos s))
      answer = rw (row_type T m ty et, rest_is s pos) at er

      value_held : (n : ℕ) → r ≡ Ok n → n ≤ length s - pos
      value_held n q =
          omega (arith, held_took (value (type_as old (member_ty T (trees T) m))) (held_value (type_as old (member_ty T (trees T) m))) (drop pos s) (step_took (value (type_as old (member_ty T (trees T) m)) (drop pos s)) n (sym q ∙ answer)).1, length-drop pos s)

      value_is : (n : ℕ) → r ≡ Ok n → bytes (value (type_as old (member_ty T (trees T) m))) (drop pos s) ≡ ok (take n (drop pos s)) n
      value_is n q = bytes_step (value (type_as old (member_ty T (trees T) m))) (drop pos s) (step_took (value (type_as old (member_ty T (trees T) m)) (drop pos s)) n (sym q ∙ answer)).1

      value_bad : (x : Refusal) → r ≡ Err x → bytes (value (type_as old (member_ty T (trees T) m))) (drop pos s) ≡ bad x.number x.place
      unfolding bytes made
      value_bad x q = rw (step_fault (value (type_as old (member_ty T (trees T) m)) (drop pos s)) x (sym q ∙ answer))

      place_held : (x : Refusal) → r ≡ Err x → x.place ≤ length s - pos
      place_held x q =
          omega (arith, held_refused (value (type_as old (member_ty T (trees T) m))) (held_value (type_as old (member_ty T (trees T) m))) (drop pos s) (step_fault (value (type_as old (member_ty T (trees T) m)) (drop pos s)) x (sym q ∙ answer)), length-drop pos s)

      next_later : (n : ℕ) → r ≡ Ok n → (o : List ℕ) → o ≡ put (12 * k) (row_bytes (record { member = m; place = at + pos; len = n })) out → (last : List ℕ)
          → Later T t at s (members_as old (requireds_in T (trees T) D.seen (range m (end - m)))) pos k last out → Later T t at s rest (pos + n) (k + 1) last o
      unfolding fill
      next_later n q o eo last L = go (bind_ok (bytes (value (type_as old (member_ty T (trees T) m)))) cont (drop pos s) (sym requireds_split ∙ L.read))
        where
          go : Bound (bytes (value (type_as old (member_ty T (trees T) m)))) cont (drop pos s) L.pieces L.taken → Later T t at s rest (pos + n) (k + 1) last o
          go B =
              let M = mapc_ok (requireds rest) (drop B.n (drop pos s)) (λ ps _. required D.seen B.fst ∷ ps) B.next in
              let same_bytes : ok B.fst B.n ≡ ok (take n (drop pos s)) n = sym B.first ∙ value_is n q in
              let eb : B.fst ≡ take n (drop pos s) = cc in
              let en : B.n ≡ n = cc in
              let el : length B.fst ≡ n = ap length eb ∙ length-take-le n (drop pos s) (omega (arith, value_held n q, length-drop pos s)) in
              record {
                pieces = M.0;
                taken = B.m;
                read = ap (requireds rest) (sym (ap (λ (i : ℕ). drop i (drop pos s)) en ∙ drop-drop n pos s)) ∙ M.1;
                made = L.made ∙ ap (λ (l : List Piece). fill k (piece_rows T t (at + pos) l) out) M.2
                    ∙ ap (λ (l : List Row). fill k l out) (piece_row T t D.seen m (range (m + 1) (end - (m + 1))) ahead_split (sym eg ∙ z) (at + pos) B.fst M.0)
                    ∙ ap (λ (i : ℕ). fill (suc k) (piece_rows T t (at + pos + i) M.0) (put (12 * k) (row_bytes (record { member = m; place = at + pos; len = i })) out)) el
                    ∙ ap (λ (l : List ℕ). fill (suc k) (piece_rows T t (at + pos + n) M.0) l) (sym eo)
                    ∙ ap₂ (λ (i j : ℕ). fill i (piece_rows T t j M.0) o) (sym (add-one k)) (add_assoc at pos n);
              }

      due_put : (n : ℕ) → r ≡ Ok n → (o : List ℕ) → o ≡ put (12 * k) (row_bytes (record { member = m; place = at + pos; len = n })) out
          → Due old T t at count s out₀ (m + 1) end (pos + n) (k + 1) next o
      unfolding mapc
      due_put n q o eo = record {
        seen = suc D.seen;
        inside = omega (arith, D.inside, value_held n q);
        within = omega arith;
        few = D.few;
        ends = D.ends;
        most = D.most;
        start = D.start ∙ rw (start_split, eq-eqb (mark T m) 0 (sym eg ∙ z));
        low = omega (arith, D.low);
        same = ap length eo ∙ put_length (12 * k) _ out ∙ D.same;
        ahead = ahead_next T t D.seen m (range (m + 1) (end - (m + 1))) ahead_split (sym eg ∙ z);
        says = D.says ∙ ap (λ (x : Res (List Piece)). members_of k (optional_start T t) (shift pos x)) (requireds_split ∙ bind_next (bytes (value (type_as old (member_ty T (trees T) m)))) cont (drop pos s) (value_is n q))
            ∙ one_more k (optional_start T t) pos n (required D.seen (take n (drop pos s))) (requireds rest (drop n (drop pos s)))
            ∙ ap (λ (l : List ℕ). members_of (k + 1) (optional_start T t) (shift (pos + n) (requireds rest l))) (drop-drop n pos s);
        gives = λ ps i h. next_later n q o eo _ (D.gives ps i h);
      }

      -- the answer, counted from the first byte
      module _ (a : Result ℕ Refusal) (ea : a ≡ later pos r) where
        pub due_next : (n : ℕ) → a ≡ Ok n → (o : List ℕ) → ((n : ℕ) → r ≡ Ok n → o ≡ put (12 * k) (row_bytes (record { member = m; place = at + pos; len = n })) out)
            → Due old T t at count s out₀ (m + 1) end n (k + 1) next o
        due_next n q o puts = go r refl
          where
            go : (b : Result ℕ Refusal) → r ≡ b → Due old T t at count s out₀ (m + 1) end n (k + 1) next o
            go (Ok i) g =
                let w = ap (later pos) g in
                let z : n ≡ pos + i = cc in
                rw z (due_put i g o (puts i g))
            go (Err x) g =
                let w = ap (later pos) g in
                let z : ◌≡◌ {A = ℕ} 0 1 = cc in
                absurd (omega arith)

        pub due_fault : (x : Refusal) → a ≡ Err x → Err x ≡ members_of count (optional_start T t) (requireds (members_as old (Table.required_members T t)) s)
        unfolding shift members_of
        due_fault x q = go r refl
          where
            go : (b : Result ℕ Refusal) → r ≡ b → Err x ≡ members_of count (optional_start T t) (requireds (members_as old (Table.required_members T t)) s)
            go (Ok i) g =
                let w = ap (later pos) g in
                let z : ◌≡◌ {A = ℕ} 0 1 = cc in
                absurd (omega arith)
            go (Err y) g =
                let w = ap (later pos) g in
                let z : x ≡ behind pos y = cc in
                rw z (sym (D.says ∙ ap (λ (x : Res (List Piece)). members_of k (optional_start T t) (shift pos x)) (requireds_split ∙ bind_bad (bytes (value (type_as old (member_ty T (trees T) m)))) cont (drop pos s) (value_bad y g))))

        -- then nothing is accepted
        pub due_never : (x : Refusal) → a ≡ Err x → (o : List ℕ) (ps : List Piece) (n : ℕ) → requireds (members_as old (Table.required_members T t)) s ≡ ok ps n → o ≡ fill count (piece_rows T t at ps) out₀
        due_never x q o ps n h = go r refl
          where
            go : (b : Result ℕ Refusal) → r ≡ b → o ≡ fill count (piece_rows T t at ps) out₀
            go (Ok i) g =
                let w = ap (later pos) g in
                let z : ◌≡◌ {A = ℕ} 0 1 = cc in
                absurd (omega arith)
            go (Err y) g = absurd (ok≢bad (D.gives ps n h).read (requireds_split ∙ bind_bad (bytes (value (type_as old (member_ty T (trees T) m)))) cont (drop pos s) (value_bad y g)))

      pub due_step : (n : ℕ) → r ≡ Ok n → (o : List ℕ) → ((n : ℕ) → r ≡ Ok n → o ≡ put (12 * k) (row_bytes (record { member = m; place = at + pos; len = n })) out)
          → Due old T t at count s out₀ (m + 1) end (pos + n) (k + 1) next o
      due_step n q o puts = due_put n q o (puts n q)

      -- ---- what is added fits
      pub due_room : (n : ℕ) → r ≡ Ok n → at + length s < 2 ^ 63 → Fits w64 (pos + n)
      due_room n q l = omega (arith, D.inside, value_held n q)

      pub due_fits : at + length s < 2 ^ 63 → LaterFits pos r
      due_fits l = go r refl
        where
          go : (b : Result ℕ Refusal) → r ≡ b → LaterFits pos b
          go (Ok n) g = omega (arith, D.inside, value_held n g)
          go (Err x) g = omega (arith, D.inside, place_held x g)

-- ---- optional rows

module _ (old : Bool) (T : List ℕ) (t at count : ℕ) (s out₀ : List ℕ) (end pos k next : ℕ) (out : List ℕ) where
  -- rows after the first optional one
  due_skip : (n m : ℕ) → m + n ≡ end → next ≤ m → Due old T t at count s out₀ m end pos k next out → Due old T t at count s out₀ (first_required T m n) end pos k next out
  unfolding first_required
  due_skip zero m e l D = D
  due_skip (suc n) m e l D = go (eqb (mark T m) 0) refl (due_skip n (suc m) (omega arith) (omega arith))
    where
      go : (b : Bool) → eqb (mark T m) 0 ≡ b → (Due old T t at count s out₀ (suc m) end pos k next out → Due old T t at count s out₀ (first_required T (suc m) n) end pos k next out)
          → Due old T t at count s out₀ (pick b m (first_required T (suc m) n)) end pos k next out
      go true q again = D
      go false q again =
          again (subst (λ (i : ℕ). Due old T t at count s out₀ i end pos k next out) (add-one m)
          (due_past old T t at count s out₀ m end pos k next out D (omega arith) (eqb-false (mark T m) 0 q) next (omega arith)))

pub due_run : (old : Bool) (T : List ℕ) (t at count : ℕ) (s out₀ : List ℕ) (m end pos k next : ℕ) (out : List ℕ) → Due old T t at count s out₀ m end pos k next out → m < end
    → (g : ℕ) → g ≡ mark T m → (g ≡ 0 → ⊥) → (i : ℕ) → i ≡ min next m → (r : ℕ) → r ≡ first_required T (m + 1) (end - (m + 1)) → Due old T t at count s out₀ r end pos k i out
due_run old T t at count s out₀ m end pos k next out D h g eg z i ei r er = rw er
    (due_skip old T t at count s out₀ end pos k i out (end - (m + 1)) (m + 1) (omega arith) (omega arith)
    (due_past old T t at count s out₀ m end pos k next out D h (λ q. z (eg ∙ q)) i ei))
