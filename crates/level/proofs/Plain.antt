-- Members and optionals that may be any bytes, read without a call. Assumes nothing.
--
--   limit_whole         a limit that is not before the end is the end
--   row_within, row_inside    a row before the limit is a member's and lies inside the table
--   tagged_is           the member that a tag names, as the code finds it
--   shape_at, shape_past, shape_least    the shape by type bits, that there is none for other bits, and that it is above 10
--   simple_answer       a simple optional is what the reader of optionals gives
--   simple_is                    a required member of any bytes, as the code finds it
--   simple_begin                 the loop over rows at its start
--   simple_room, simple_next     it lies within the bytes at hand, and the loop over rows goes on after it
--   log_is, log_next             the same of a sequence
--   log_place, log_room, log_count    what is added for it fits
--   log_none, log_last           no sequence, or one as the last required member; log_length    the list keeps its length
--   last_says, last_gives        from a row on all are optional: the required members are read
--   log_says, log_gives          the same after a sequence
--   log_anew            rows that were put before `required` begins anew are put over
use mathlib.Core.Path.{◌≡◌, refl, sym, ap, ap₂, ◌∙◌, subst}
use mathlib.Core.Bool.{Bool, true, false}
use mathlib.Core.List.{List}
use Prim.Native.Nat.{ℕ, zero, suc, ◌+◌, ◌-◌, ◌*◌, ◌^◌, ◌≤◌, ◌<◌}
use native.Mathlib.Numerals.{add-one}
use native.Mathlib.Omega.{arith}
use mir.Syntax.{w64}
use mir.Val.{Fits}
use lib.ListN.{length, take, drop, length-drop}
use lib.Seq.{length-take-le}
use lib.Dec.{eqb, leb}
use borrow.Author.Tests.{lt-ltb, leb-true, leb-false, eqb-true, eqb-false}
use Rattle.encoding.specs.Result.{Res, ok, bad, pick, shift, bytes, inside}
use Rattle.encoding.specs.Value.{value}
use Rattle.encoding.specs.Old.{type_as, members_as}
use Rattle.encoding.specs.Table.{at, members, field, member_at, member_type, mark, range, ty_of, trees, requireds_in}
use Rattle.encoding.specs.Table
use Rattle.encoding.specs.Optional.{Piece, requireds, part, header, next_optional}
use Rattle.encoding.specs.Message.{row_bytes, piece_rows}
use Rattle.std.specs.Prelude.{Result, Ok, Some}
use Rattle.wire.specs.declared.Refusal.{Refusal}
use Rattle.wire.specs.Steps.{bytes_of, step_of, counted}
use Rattle.wire.specs.Put.{put, form_bits}
use Rattle.wire.specs.PutLaws.{put_length}
use Rattle.table.specs.declared.MemberRow.{MemberRow}
use Rattle.table.specs.Rows.{IsMemberRow, Whole}
use Rattle.table.specs.Tags.{optional_from, optional_start, first_required}
use Rattle.table.proofs.Chains.{optionals_begin, optionals_here}
use Rattle.shapes.specs.Shapes.{shapes_of, form_code, width_code, shape_in, form_in, width_in}
use Rattle.shapes.specs.ShapesLaws.{form_row, width_row}
use Rattle.value.proofs.CycleLaws.{row_wide}
use Rattle.optional.specs.Forms.{form_named, run_width}
use Rattle.optional.specs.FormsLaws.{bare_width}
use Rattle.optional.specs.declared.Head.TheVariants.{Known as Knows}
use Rattle.optional.specs.Answers.{type_row, head_of, Titled}
use Rattle.optional.proofs.Lookups.{type_here, typed}
use Rattle.optional.proofs.Declared.{run_whole, part_run}
use Rattle.optional.proofs.Heads.{early_fine, head_known}
use Rattle.level.specs.declared.Members.{Members}
use Rattle.level.specs.declared.Optional.TheVariants.{Known}
use Rattle.level.specs.Fill.{fill}
use Rattle.level.specs.FillLaws.{Covered}
use Rattle.level.specs.Answers.{members_of, reads, Simple, Logged, LastLog, Tagged, bare_shape, optional_answer}
use Rattle.level.specs.RequiredLaws.{required_count}
use Rattle.level.proofs.Parts.{used_wide}
use Rattle.level.proofs.Nexts.{next_known}
use Rattle.level.specs.Due.{Due}
use Rattle.level.proofs.Requireds.{due_begin, due_step, due_run, due_says, due_gives, due_room}

-- ---- an optional

pub limit_whole : (T : List ℕ) (limit end : ℕ) → (0 < limit → Whole T limit) → limit ≤ end → end ≤ limit → 0 < end → Whole T end
limit_whole T limit end W h l z = let e : limit ≡ end = omega arith in subst (Whole T) e (W (omega arith))

module _ (T : List ℕ) (limit : ℕ) (W : 0 < limit → Whole T limit) (row : ℕ) (h : row < limit) where
  pub row_within : row < members T
  row_within = omega (arith, (W (omega arith)).few)

  pub row_inside : member_at T (row + 1) ≤ length T
  row_inside = omega (arith, (W (omega arith)).inside)

  pub tagged_is : (end : ℕ) → limit ≤ end → (tag : ℕ) (r : MemberRow) → IsMemberRow T row r → (r.mark ≡ 0 → ⊥) → tag ≡ r.tag → Tagged T end row tag r.of
  tagged_is end l tag r is o e = record {
    found = ap (λ (i : ℕ). Some (record { member = row; of = i })) (sym is.of_is) ∙ optionals_here T end row tag row (optionals_begin T end row tag) (omega arith) r is o e;
    type_is = typed T row (members T) r.of r.of refl is.of_is (type_here (members T) row r.of row_within);
  }

-- optionals of row t have type bits k, one of F1 to F8, and width w
record Fixed (shapes : List ℕ) (t k w : ℕ) : Type 0 where
  few : k < 4
  form_is : k ≡ form_in shapes t
  width_is : w ≡ width_in shapes t
  some : 0 < w

bare_is : (shapes : List ℕ) (t k x : ℕ) → x ≡ shape_in shapes t → x < 256 → x ≡ bare_shape k → Fixed shapes t k (x - 10)
unfolding bare_shape form_code width_code
bare_is shapes t zero x ex l e = record { few = omega arith; form_is = rw (← ex, e); width_is = rw (← ex, e); some = omega arith }
bare_is shapes t (suc zero) x ex l e = record { few = omega arith; form_is = rw (← ex, e); width_is = rw (← ex, e); some = omega arith }
bare_is shapes t (suc (suc zero)) x ex l e = record { few = omega arith; form_is = rw (← ex, e); width_is = rw (← ex, e); some = omega arith }
bare_is shapes t (suc (suc (suc zero))) x ex l e = record { few = omega arith; form_is = rw (← ex, e); width_is = rw (← ex, e); some = omega arith }
bare_is shapes t (suc (suc (suc (suc k)))) x ex l e = absurd (omega arith)

pub shape_at : (n k : ℕ) → k ≡ n → bare_shape n ≡ bare_shape k
shape_at n k e = ap bare_shape (sym e)

pub shape_least : (x y k : ℕ) → y ≡ bare_shape k → x ≡ y → 10 ≤ x
unfolding bare_shape
shape_least x y zero ey e = omega arith
shape_least x y (suc zero) ey e = omega arith
shape_least x y (suc (suc zero)) ey e = omega arith
shape_least x y (suc (suc (suc zero))) ey e = omega arith
shape_least x y (suc (suc (suc (suc k)))) ey e = omega arith

pub shape_past : (k : ℕ) → (k ≡ 0 → ⊥) → (k ≡ 1 → ⊥) → (k ≡ 2 → ⊥) → (k ≡ 3 → ⊥) → 256 ≡ bare_shape k
unfolding bare_shape
shape_past zero a b c d = absurd (a refl)
shape_past (suc zero) a b c d = absurd (b refl)
shape_past (suc (suc zero)) a b c d = absurd (c refl)
shape_past (suc (suc (suc zero))) a b c d = absurd (d refl)
shape_past (suc (suc (suc (suc k)))) a b c d = refl

module _ (T shapes : List ℕ) (ef : shapes ≡ shapes_of T) (end row least : ℕ) (s : List ℕ) (tag k n : ℕ) (N : Titled s tag k n)
    (rises : least ≤ tag) (t : ℕ) (G : Tagged T end row tag t) (w : ℕ) (B : Fixed shapes t k w) (there : n + w ≤ length s) where
  rest : List ℕ
  rest = take (length s - n) (drop n s)

  -- the header, and the declared bytes after it
  simple_head : Ok (Knows row t tag n k) ≡ head_of T (optional_from T end row) (header (optional_from T end row) least s)
  unfolding form_bits type_row
  simple_head =
      head_known T end row least s _ (N.front_is (omega arith)) _ refl
      0 (early_fine least N.long tag k false (sym N.fine) refl rises (λ q. omega (arith, B.few))) refl
      _ G.found _ refl (members T) refl t G.type_is shapes ef k B.form_is k (rw (lt-ltb k 8 (omega (arith, B.few)))) refl

  simple_run : w ≡ run_width k
  simple_run =
      let f = B.form_is ∙ form_row T t shapes ef in
      let v = B.width_is ∙ width_row T t shapes ef in
      v ∙ bare_width (ty_of T t) (rw (← f) B.few) (rw (← v) B.some) ∙ ap run_width (sym f)

  simple_part : counted w w ≡ bytes_of (inside (part (form_named k)) (bytes (value (ty_of T t))) rest)
  unfolding rest
  simple_part =
      let l : w ≤ length rest = omega (arith, length-take-le (length s - n) (drop n s) (omega (arith, length-drop n s))) in
      used_wide (form_named k) rest (counted w w) (part_run rest k (counted w w) B.few w simple_run (run_whole rest w l)) _ refl T shapes ef t w B.width_is B.some refl

  simple_known : Ok (Known row tag n (n + w)) ≡ optional_answer (optional_from T end row) (next_optional (optional_from T end row) least s)
  unfolding rest
  simple_known =
      let z : n + (w - w) ≡ n = omega arith in
      ap (λ (x : ℕ). Ok (Known row tag x (n + w))) (sym z)
      ∙ next_known T end row least s _ simple_head _ refl row t tag n k refl (counted w w) simple_part _ refl

pub simple_answer : (T shapes : List ℕ) → shapes ≡ shapes_of T → (end row least : ℕ) (s : List ℕ) (tag k n : ℕ) → (0 < n → Titled s tag k n) → (n ≡ 0 → ⊥) → least ≤ tag
    → (t : ℕ) → (t < 65536 → Tagged T end row tag t) → t < 65536 → (x : ℕ) → x ≡ shape_in shapes t → x < 256 → (y : ℕ) → y ≡ bare_shape k → x ≡ y → n + (x - 10) ≤ length s
    → Ok (Known row tag n (n + (x - 10))) ≡ optional_answer (optional_from T end row) (next_optional (optional_from T end row) least s)
simple_answer T shapes ef end row least s tag k n N some rises t G small x ex l y ey e there =
    simple_known T shapes ef end row least s tag k n (N (omega (arith, some))) rises t (G small) (x - 10) (bare_is shapes t k x ex l (e ∙ ey)) there

-- ---- a required member

pub simple_is : (T : List ℕ) (m : ℕ) (r : MemberRow) → IsMemberRow T m r → r.mark ≡ 0 → m < members T
    → (shapes : List ℕ) → shapes ≡ shapes_of T → (w : ℕ) → w ≡ width_in shapes r.of → (left : ℕ) → w ≤ left → Simple T m left w
simple_is T m r is z h shapes ef w ew left l = record {
  mark_is = sym is.mark_is ∙ z;
  width_is = ew ∙ ap₂ width_in ef (typed T m (members T) r.of r.of refl is.of_is (type_here (members T) m r.of h));
  there = l;
}

pub log_is : (T : List ℕ) (m : ℕ) (r : MemberRow) → IsMemberRow T m r → r.mark ≡ 0 → m < members T
    → (s : List ℕ) (n : ℕ) → (0 < n → (old : Bool) → Ok n ≡ step_of (value (type_as old (ty_of T r.of)) s)) → 0 < n → Logged T m s n
log_is T m r is z h s n says l = record {
  mark_is = sym is.mark_is ∙ z;
  taken = says l false ∙ ap (λ (t : ℕ). step_of (value (type_as false (ty_of T t)) s)) (typed T m (members T) r.of r.of refl is.of_is (type_here (members T) m r.of h));
}

pub simple_begin : (T : List ℕ) (t at count : ℕ) (s out : List ℕ) (from end : ℕ) → from ≡ field T t 0 → end ≡ field T t 0 + field T t 1 → from < 65536 → end < from + 65536
    → Due false T t at count s out from end 0 count end out
simple_begin T t at count s out from end ef ee lf le = rw (ef, ee) (due_begin false T t at count s out (field T t 0) (field T t 1) refl refl (omega arith) (omega arith))

module _ (T : List ℕ) (t at count : ℕ) (s out₀ : List ℕ) (m end pos k : ℕ) (out : List ℕ) (D : Due false T t at count s out₀ m end pos k end out) where
  pub simple_next : m < end → (w : ℕ) → (w ≡ 0 → ⊥) → (0 < w → Simple T m (length s - pos) w)
      → (o : List ℕ) → o ≡ put (12 * k) (row_bytes (record { member = m; place = at + pos; len = w })) out → Due false T t at count s out₀ (m + 1) end (pos + w) (k + 1) end o
  simple_next h w wz simple o eo = go (simple (omega (arith, wz)))
    where
      took : (a b : ℕ) → ◌≡◌ {A = Result ℕ Refusal} (Ok a) (Ok b) → a ≡ b
      took a b q = cc

      go : Simple T m (length s - pos) w → Due false T t at count s out₀ (m + 1) end (pos + w) (k + 1) end o
      go S =
          let rest : w ≤ length (take (length s - pos) (drop pos s)) = omega (arith, S.there, length-take-le (length s - pos) (drop pos s) (omega (arith, length-drop pos s))) in
          due_step false T t at count s out₀ m end pos k end out D h (mark T m) refl S.mark_is (type_row T m) refl (Ok w)
          (row_wide false T (shapes_of T) refl (type_row T m) (take (length s - pos) (drop pos s)) w S.width_is (omega (arith, wz)) rest) w refl o (λ n q. rw (took w n q) at eo)

  pub log_place : at + length s < 2 ^ 63 → Fits w64 (at + pos)
  log_place l = omega (arith, D.inside)

  pub log_count : count < 2 ^ 63 → Fits w64 (k + 1)
  log_count l = omega (arith, D.low)

  pub simple_room : (w : ℕ) → (w ≡ 0 → ⊥) → (0 < w → Simple T m (length s - pos) w) → at + length s < 2 ^ 63 → Fits w64 (pos + w)
  simple_room w wz simple l = omega (arith, D.inside, (simple (omega (arith, wz))).there)

  -- a required row is left, and the next member is a sequence
  module _ (h : m < end) (n : ℕ) (L : Logged T m (take (length s - pos) (drop pos s)) n) where
    pub log_next : (o : List ℕ) → o ≡ put (12 * k) (row_bytes (record { member = m; place = at + pos; len = n })) out → Due false T t at count s out₀ (m + 1) end (pos + n) (k + 1) end o
    log_next o eo =
        due_step false T t at count s out₀ m end pos k end out D h (mark T m) refl L.mark_is (type_row T m) refl (Ok n) L.taken n refl o (λ i q. let z : n ≡ i = cc in rw z at eo)

    log_held : at + length s < 2 ^ 63 → Fits w64 (pos + n)
    log_held l = due_room false T t at count s out₀ m end pos k end out D h (mark T m) refl L.mark_is (type_row T m) refl (Ok n) L.taken n refl l

  -- no row from m on is required
  module _ (i : ℕ) (ei : i ≡ first_required T m (end - m)) (last : i ≡ end) where
    record Done : Type 0 where
      row : ℕ
      due : Due false T t at count s out₀ row end pos k m out
      past : end ≤ row

    done : Done
    unfolding first_required
    done = go (leb end m) refl
      where
        more : m < end → (b : Bool) → eqb (mark T m) 0 ≡ b → i ≡ pick b m (first_required T (m + 1) (end - (m + 1))) → Done
        more h true q e = absurd (omega arith)
        more h false q e = record {
          row = i;
          due = due_run false T t at count s out₀ m end pos k end out D h (mark T m) refl (eqb-false (mark T m) 0 q) m (omega arith) i e;
          past = omega arith;
        }

        go : (b : Bool) → leb end m ≡ b → Done
        go true q =
            let h = leb-true end m q in
            let z : end ≡ m = omega (arith, D.within) in
            record { row = m; due = subst (λ (j : ℕ). Due false T t at count s out₀ m end pos k j out) z D; past = h }
        go false q =
            let h = leb-false end m q in
            let z : end - m ≡ suc (end - (m + 1)) = omega arith in
            more h (eqb (mark T m) 0) refl (ei ∙ ap (first_required T m) z ∙ rw (add-one m))

    pub last_says : reads pos k m ≡ members_of count (optional_start T t) (requireds (members_as false (Table.required_members T t)) s)
    last_says = due_says false T t at count s out₀ done.row end pos k m out done.due done.past

    pub last_gives : (ps : List Piece) (n : ℕ) → requireds (members_as false (Table.required_members T t)) s ≡ ok ps n → out ≡ fill count (piece_rows T t at ps) out₀
    last_gives = due_gives false T t at count s out₀ done.row end pos k m out done.due done.past

  -- no fewer rows than were put
  enough : (ps : List Piece) (n : ℕ) → requireds (members_as false (Table.required_members T t)) s ≡ ok ps n → k ≤ count + length ps
  unfolding members_of shift
  enough ps n q = go (requireds (members_as false (requireds_in T (trees T) D.seen (range m (end - m)))) (drop pos s)) (sym (ap (members_of count (optional_start T t)) q) ∙ D.says)
    where
      go : (x : Res (List Piece)) → reads n (count + length ps) (optional_start T t) ≡ members_of k (optional_start T t) (shift pos x) → k ≤ count + length ps
      go (ok qs j) e =
          let x : ◌≡◌ {A = Members} (record { bytes = n; count = count + length ps; optional = optional_start T t }) (record { bytes = pos + j; count = k + length qs; optional = optional_start T t }) = cc in
          omega (arith, ap (λ (y : Members). y.count) x)
      go (bad c p) e = let y : ◌≡◌ {A = ℕ} 0 1 = cc in absurd (omega arith)

  anew_gives : Covered count k out out₀ → (o : List ℕ) → ((ps : List Piece) (n : ℕ) → requireds (members_as false (Table.required_members T t)) s ≡ ok ps n → o ≡ fill count (piece_rows T t at ps) out)
      → (ps : List Piece) (n : ℕ) → requireds (members_as false (Table.required_members T t)) s ≡ ok ps n → o ≡ fill count (piece_rows T t at ps) out₀
  anew_gives C o gives ps n q = gives ps n q ∙ C.over (piece_rows T t at ps) (omega (arith, enough ps n q, required_count false T t s ps n at q))

-- ---- a sequence as the last required member

module _ (T : List ℕ) (m end : ℕ) (s : List ℕ) (at k : ℕ) (out : List ℕ) where
  pub log_none : LastLog T m end s at k 0 out out
  log_none = record { none = λ _. refl; logged = λ h. absurd (h refl); past = λ h. absurd (h refl); put_is = λ h. absurd (h refl) }

  pub log_last : (n : ℕ) → (n ≡ 0 → ⊥) → (0 < n → Logged T m s n) → (i : ℕ) → i ≡ first_required T (m + 1) (end - (m + 1)) → i ≡ end
      → (o : List ℕ) → o ≡ put (12 * k) (row_bytes (record { member = m; place = at; len = n })) out → LastLog T m end s at k n out o
  log_last n z L i ei e o eo = record { none = λ q. absurd (z q); logged = λ h. L (omega (arith, h)); past = λ h. sym e ∙ ei; put_is = λ h. eo }

pub log_length : (T : List ℕ) (m end : ℕ) (s : List ℕ) (at k n : ℕ) (out last : List ℕ) → LastLog T m end s at k n out last → length last ≡ length out
log_length T m end s at k n out last L = go (eqb n 0) refl
  where
    go : (b : Bool) → eqb n 0 ≡ b → length last ≡ length out
    go true e = ap length (L.none (eqb-true n 0 e))
    go false e = ap length (L.put_is (eqb-false n 0 e)) ∙ put_length (12 * k) _ out

module _ (T : List ℕ) (t at count : ℕ) (s out₀ : List ℕ) (m end pos k : ℕ) (out : List ℕ) (D : Due false T t at count s out₀ m end pos k end out)
    (j : ℕ) (low : m ≤ j) (high : j ≤ end) (more : j ≡ end → ⊥) (n : ℕ) (o : List ℕ) (L : LastLog T m end (take (length s - pos) (drop pos s)) (at + pos) k n out o) where
  here : m < end
  here = omega (arith, more)

  -- nothing was put: rows that were put before are put over
  pub log_anew : n ≡ 0 → Covered count k out out₀ → (z : List ℕ) → ((ps : List Piece) (i : ℕ) → requireds (members_as false (Table.required_members T t)) s ≡ ok ps i → z ≡ fill count (piece_rows T t at ps) o)
      → (ps : List Piece) (i : ℕ) → requireds (members_as false (Table.required_members T t)) s ≡ ok ps i → z ≡ fill count (piece_rows T t at ps) out₀
  log_anew e C z gives = anew_gives T t at count s out₀ m end pos k out D C z (λ ps i q. gives ps i q ∙ ap (fill count (piece_rows T t at ps)) (L.none e))

  module _ (some : n ≡ 0 → ⊥) where
    after : Due false T t at count s out₀ (m + 1) end (pos + n) (k + 1) end o
    after = log_next T t at count s out₀ m end pos k out D here n (L.logged some) o (L.put_is some)

    pub log_room : at + length s < 2 ^ 63 → Fits w64 (pos + n)
    log_room = log_held T t at count s out₀ m end pos k out D here n (L.logged some)

    pub log_says : reads (pos + n) (k + 1) (m + 1) ≡ members_of count (optional_start T t) (requireds (members_as false (Table.required_members T t)) s)
    log_says = last_says T t at count s out₀ (m + 1) end (pos + n) (k + 1) o after end (L.past some) refl

    pub log_gives : (ps : List Piece) (n : ℕ) → requireds (members_as false (Table.required_members T t)) s ≡ ok ps n → o ≡ fill count (piece_rows T t at ps) out₀
    log_gives = last_gives T t at count s out₀ (m + 1) end (pos + n) (k + 1) o after end (L.past some) refl
