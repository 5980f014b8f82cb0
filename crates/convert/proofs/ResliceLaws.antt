-- The sliced form of a compact record is what the code puts: the last row of an owner ends with its last piece, and no later row is of that owner.
--
--   Held, level_held            a piece has a member, which its owner takes
--   Others, follow_others       the rows after an owner's are of other owners
--   pieces_end, pieces_count    so the first rows of an owner end with its pieces, and are as many
--   slice_flagged               bit 2 of a slice's flags
--   follow_resliced             the slices of a chain
--   first_growth                how long they are
use Rattle.std.specs.Prelude.{◌≡◌, Bool, take, drop, leb, ltb}
use Rattle.std.proofs.Math.Path.{refl, ap, ap₂}
use Rattle.std.proofs.Common.{sym, ◌∙◌, subst}
use Rattle.std.proofs.Math.Bool.{true, false}
use Rattle.std.proofs.Math.Option.{some}
use mathlib.Core.List.{List, [], ◌∷◌, ◌++◌}
use Prim.Native.Nat.{ℕ, suc, ◌+◌, ◌-◌, ◌≤◌, ◌<◌, min}
use native.Mathlib.Omega.{arith}
use Rattle.std.proofs.Math.ListN.{length, length-append}
use borrow.Author.Tests.{leb-true, ltb-true, le-leb, lt-ltb}
use Rattle.encoding.specs.Result.{pick, concat}
use Rattle.encoding.proofs.ResultLaws.{both_true}
use Rattle.encoding.specs.Number.{le_bytes, string_bytes, val}
use Rattle.encoding.proofs.NumberLaws.{length_le_bytes}
use Rattle.encoding.specs.Table.{at, field, kind, owns, takes, name_of, chain, fine, faults, Member, lookup}
use Rattle.encoding.specs.Table
use Rattle.encoding.proofs.RuleLaws.{required_own, optional_own, rows_apart}
use Rattle.encoding.specs.Optional.{Piece, required, optional, skipped, front_bytes, content_bytes, piece_bytes, is_skipped}
use Rattle.encoding.specs.Slice.{Format, compact, sliced, Stand, first, later, due, bit, Slice, known, passed, any_optional, has_optionals, id_of, is_last, flag_bits, data_bytes, slice_front}
use Rattle.encoding.specs.Message.{v11, slices_bytes, Row, list_row, piece_member, piece_rows, slice_rows, skipped_pieces, skipped_in}
use Rattle.encoding.specs.Conform.{Level, Owned, Follow}
use Rattle.laws.specs.Demands.{All, end, more}
use Rattle.laws.proofs.RowsExact.{Stands, stands_first, stands_inside, stands_there, all_append, all_map, data_stand, slices_stand, Found, required_found}
use Rattle.laws.proofs.PlanLaws.{Pairs, before}
use Rattle.laws.proofs.PlanRules.{Owner, Falls}
use Rattle.convert.specs.Reslice.{growth, later_growth, own_end, own_count, flagged, data_end, front, reslice, none_above, reslices}

-- ---- the rows of an owner

module _ (T : List ℕ) (t : ℕ) where
  -- a piece that has a member, which row t takes
  pub record Held (p : Piece) : Type 0 where
    pub member : Member
    pub found : piece_member T t p ≡ some member
    pub taken : takes T t member.row ≡ true

  own_taken : (m : ℕ) → field T t 0 ≤ m → m < field T t 0 + field T t 1 → takes T t m ≡ true
  unfolding takes
  own_taken m a b = rw (le-leb (field T t 0) m a, lt-ltb m (field T t 0 + field T t 1) b)

  level_held : (ms : List Member) → All (Found (Table.required_members T t)) ms → (least : ℕ) (ps : List Piece) → Level ms (Table.optional_members T t) least ps
      → skipped_pieces ps ≡ 0 → All Held ps
  unfolding piece_member skipped_pieces is_skipped
  level_held [] F least [] L z = end
  level_held [] F least (required i b ∷ ps) L z = absurd L
  level_held [] F least (optional k f b ∷ ps) (K, L) z =
      let O = optional_own T t k K.member K.found in
      more (record { member = K.member; found = K.found; taken = own_taken K.member.row O.from O.to }) (level_held [] F (suc k) ps L (omega arith))
  level_held [] F least (skipped k f b ∷ ps) L z = absurd (omega arith)
  level_held (x ∷ ms) F least [] L z = absurd L
  level_held (x ∷ ms) (more q F) least (required i b ∷ ps) (e, h, L) z =
      let f : lookup i (Table.required_members T t) ≡ some x = rw e q in
      let O = required_own T t i x f in
      more (record { member = x; found = f; taken = own_taken x.row O.from O.to }) (level_held ms F least ps L (omega arith))
  level_held (x ∷ ms) F least (optional k f b ∷ ps) L z = absurd L
  level_held (x ∷ ms) F least (skipped k f b ∷ ps) L z = absurd L

  pub owned_held : (ps : List Piece) → Owned T t ps → skipped_pieces ps ≡ 0 → All Held ps
  owned_held ps L z = level_held (Table.required_members T t) (required_found T t) 0 ps L z

  -- rows that row t does not take
  abbrev pub Others : List Row → Type 0
  Others rs = All (λ (r : Row). takes T t r.member ≡ false) rs

  others_end : (p : ℕ) {rs : List Row} → Others rs → own_end T t p rs ≡ p
  unfolding own_end
  others_end p end = refl
  others_end p (more e O) = rw e

  others_count : {rs : List Row} → Others rs → own_count T t rs ≡ 0
  unfolding own_count
  others_count end = refl
  others_count (more e O) = rw e

  -- what the rows of pieces come to
  piece_long : (p : Piece) → length (piece_bytes p) ≡ length (front_bytes p) + length (content_bytes p)
  unfolding piece_bytes
  piece_long p = length-append (front_bytes p) (content_bytes p)

  pub pieces_end : (p : ℕ) {ps : List Piece} → All Held ps → {rs : List Row} → Others rs → own_end T t p (piece_rows T t p ps ++ rs) ≡ p + length (concat piece_bytes ps)
  unfolding piece_rows list_row own_end concat
  pieces_end p end O = others_end p O ∙ omega arith
  pieces_end p (more {a = q} {l = ps} H L) {rs} O =
      rw (H.found, H.taken)
      (ap (λ (n : ℕ). own_end T t n (piece_rows T t (p + length (piece_bytes q)) ps ++ rs)) (omega (arith, piece_long q))
      ∙ pieces_end (p + length (piece_bytes q)) L O ∙ omega (arith, length-append (piece_bytes q) (concat piece_bytes ps)))

  pub pieces_count : (p : ℕ) {ps : List Piece} → All Held ps → {rs : List Row} → Others rs → drop (own_count T t (piece_rows T t p ps ++ rs)) (piece_rows T t p ps ++ rs) ≡ rs
  unfolding piece_rows list_row own_count
  pieces_count p end O = rw (others_count O)
  pieces_count p (more {a = q} {l = ps} H L) O = rw (H.found, H.taken) (pieces_count (p + length (piece_bytes q)) L O)

  pub pieces_taken : (p : ℕ) {ps : List Piece} → All Held ps → All (λ (r : Row). takes T t r.member ≡ true) (piece_rows T t p ps)
  unfolding piece_rows list_row
  pieces_taken p end = end
  pieces_taken p (more {a = q} {l = ps} H L) = rw H.found (more H.taken (pieces_taken (p + length (piece_bytes q)) L))

module _ (T : List ℕ) (right : faults T ≡ fine) where
  -- a member row has one owner
  taken_once : (t u m : ℕ) → Owner T t → Owner T u → u < t → takes T u m ≡ true → takes T t m ≡ false
  unfolding takes
  taken_once t u m A B l h = go (takes T t m) refl
    where
      go : (b : Bool) → takes T t m ≡ b → takes T t m ≡ false
      go false e = e
      go true e =
          let x = both_true (leb (field T u 0) m) (ltb m (field T u 0 + field T u 1)) h in
          let y = both_true (leb (field T t 0) m) (ltb m (field T t 0 + field T t 1)) e in
          let s : t ≡ u = rows_apart T right t u m A.below B.below A.own B.own (leb-true _ m y.0) (ltb-true m _ y.1) (leb-true _ m x.0) (ltb-true m _ x.1) in
          absurd (omega arith)

  -- the rows of the slices above row t
  follow_others : (t : ℕ) → Owner T t → (s : Stand) (p : ℕ) (ts : List ℕ) (ss : List Slice) → All (Owner T) ts → All (Falls t) ts → Follow T (v11 compact) ts ss → skipped_in ss ≡ 0
      → Others T t (slice_rows T (v11 compact) s p ts ss)
  unfolding slice_rows skipped_in
  follow_others t O s p [] [] A B F z = end
  follow_others t O s p [] (sl ∷ ss) A B F z = absurd F
  follow_others t O s p (u ∷ us) [] A B F z = absurd F
  follow_others t O s p (u ∷ us) (known o ps ∷ ss) (more a A) (more b B) (e, L, F) z =
      all_append
      (all_map (λ (r : Row) (h : takes T u r.member ≡ true). taken_once t u r.member O a b h) (pieces_taken T u _ (owned_held T u ps L (omega arith))))
      (follow_others t O (later compact) _ us ss A B F (omega arith))
  follow_others t O s p (u ∷ us) (passed b nm d ∷ ss) A B F z = absurd F

-- ---- flags

bit_two : (id opt last : Bool) → bit (flag_bits compact id opt last) 4 ≡ opt
unfolding flag_bits
bit_two false false false = refl
bit_two false false true = refl
bit_two false true false = refl
bit_two false true true = refl
bit_two true false false = refl
bit_two true false true = refl
bit_two true true false = refl
bit_two true true true = refl

pub slice_flagged : (m : List ℕ) (s : Stand) (o : List ℕ) (ps : List Piece) (ss : List Slice) (p : ℕ) → Stands m p (slices_bytes (v11 compact) s (known o ps ∷ ss)) → flagged m p ≡ any_optional ps
unfolding slices_bytes slice_front has_optionals at val
slice_flagged m s o ps ss p S =
    let f : ℕ = flag_bits compact (due s compact) (any_optional ps) (is_last ss) in
    let b : take 1 (drop p m) ≡ f ∷ [] = stands_there (f ∷ []) (stands_first (f ∷ []) _ S) in
    ap (λ (l : List ℕ). bit (val l) 4) b ∙ one f ∙ bit_two (due s compact) (any_optional ps) (is_last ss)
  where
    one : (f : ℕ) → bit (val (f ∷ [])) 4 ≡ bit f 4
    one f = let e : val (f ∷ []) ≡ f = omega arith in ap (λ (n : ℕ). bit n 4) e

-- ---- the slices of a chain

-- the bytes before the data of the first of some slices
abbrev pub Before : Stand → ℕ → List Slice → Type 0
Before s n [] = Unit {0}
Before s n (sl ∷ ss) = n ≡ 1 + length (pick (due s compact) (string_bytes (id_of sl)) [])

last_above : (T ts : List ℕ) (ss : List Slice) → Follow T (v11 compact) ts ss → none_above ts ≡ is_last ss
unfolding none_above is_last
last_above T [] [] F = refl
last_above T [] (sl ∷ ss) F = absurd F
last_above T (t ∷ ts) [] F = absurd F
last_above T (t ∷ ts) (sl ∷ ss) F = refl

compact_front : (s : Stand) (last : Bool) (sl : Slice) → length (slice_front compact s last sl) ≡ 1 + length (pick (due s compact) (string_bytes (id_of sl)) [])
unfolding slice_front
compact_front s last sl = omega (arith, length-append (pick (due s compact) (string_bytes (id_of sl)) []) [])

sliced_front : (s : Stand) (last : Bool) (sl : Slice) → due s sliced ≡ true → length (slice_front sliced s last sl) ≡ 5 + length (string_bytes (id_of sl))
unfolding slice_front
sliced_front s last sl e = rw e (omega (arith, length-append (string_bytes (id_of sl)) (le_bytes 4 (4 + length (data_bytes sl))), length_le_bytes 4 (4 + length (data_bytes sl))))

data_long : (o : List ℕ) (ps : List Piece) → length (data_bytes (known o ps)) ≡ length (concat piece_bytes ps) + pick (any_optional ps) 1 0
unfolding data_bytes
data_long o ps = length-append (concat piece_bytes ps) (pick (any_optional ps) (255 ∷ []) []) ∙ ap (λ (n : ℕ). length (concat piece_bytes ps) + n) (go (any_optional ps))
  where
    go : (b : Bool) → length {A = ℕ} (pick b (255 ∷ []) []) ≡ pick b 1 0
    go true = refl
    go false = refl

min_least : (a b : ℕ) → a ≤ b → min a b ≡ a
min_least a b h = omega arith

module _ (T m : List ℕ) (right : faults T ≡ fine) where
  -- one slice: its data end where they end, and its sliced form is its front and its data
  module _ (t : ℕ) (s : Stand) (p n : ℕ) (ps : List Piece) (ss : List Slice) (rs : List Row) (L : Owned T t ps) (z : skipped_pieces ps ≡ 0) (O : Others T t rs)
      (S : Stands m p (slices_bytes (v11 compact) s (known (name_of T t) ps ∷ ss))) (B : Before s n (known (name_of T t) ps ∷ ss)) where
    abbrev sl : Slice
    sl = known (name_of T t) ps

    data_at : p + length (slice_front compact s (is_last ss) sl) ≡ p + n
    data_at = omega (arith, compact_front s (is_last ss) sl, B)

    data_stands : Stands m (p + n) (data_bytes sl)
    data_stands = subst (λ (d : ℕ). Stands m d (data_bytes sl)) data_at (data_stand T m (v11 compact) s sl ss p S)

    pub end_is : data_end T m t p (p + n) (piece_rows T t (p + n) ps ++ rs) ≡ p + n + length (data_bytes sl)
    unfolding data_end
    end_is =
        ap₂ (λ (a : ℕ) (b : Bool). min (a + pick b 1 0) (length m)) (pieces_end T t (p + n) (owned_held T t ps L z) O) (slice_flagged m s (name_of T t) ps ss p S)
        ∙ ap (λ (a : ℕ). min a (length m)) (omega (arith, data_long (name_of T t) ps))
        ∙ min_least _ _ (stands_inside (data_bytes sl) data_stands)

    pub slice_is : (s' : Stand) → due s' sliced ≡ true → reslice T m t (is_last ss) p n (piece_rows T t (p + n) ps ++ rs) ≡ slice_front sliced s' (is_last ss) sl ++ data_bytes sl
    unfolding reslice front slice_front has_optionals id_of
    slice_is s' d =
        let k : data_end T m t p (p + n) (piece_rows T t (p + n) ps ++ rs) - (p + n) ≡ length (data_bytes sl) = omega (arith, end_is) in
        rw (k, d, slice_flagged m s (name_of T t) ps ss p S, stands_there (data_bytes sl) data_stands)

  -- only the flags come before the data of a later slice
  before_later : (ss : List Slice) → Before (later compact) 1 ss
  unfolding due
  before_later [] = tt
  before_later (sl ∷ ss) = refl

  pub follow_resliced : (ts : List ℕ) (ss : List Slice) → All (Owner T) ts → Pairs Falls ts → Follow T (v11 compact) ts ss → skipped_in ss ≡ 0
      → (s s' : Stand) → due s' sliced ≡ true → (p n : ℕ) → Stands m p (slices_bytes (v11 compact) s ss) → Before s n ss
      → reslices T m p n ts (slice_rows T (v11 compact) s p ts ss) ≡ slices_bytes (v11 sliced) s' ss
  unfolding reslices slice_rows slices_bytes skipped_in due
  follow_resliced [] [] A P F z s s' d p n S B = refl
  follow_resliced [] (sl ∷ ss) A P F z s s' d p n S B = absurd F
  follow_resliced (t ∷ ts) [] A P F z s s' d p n S B = absurd F
  follow_resliced (t ∷ ts) (passed b nm x ∷ ss) A P F z s s' d p n S B = absurd F
  follow_resliced (t ∷ ts) (known o ps ∷ ss) (more a A) (before f P) (e, L, F) z s s' d p n S B =
      go o e S B (λ q n' S' B'. follow_resliced ts ss A P F (omega arith) (later compact) (later sliced) refl q n' S' B')
    where
      Goal : List ℕ → Type 0
      Goal o =
          Stands m p (slices_bytes (v11 compact) s (known o ps ∷ ss)) → Before s n (known o ps ∷ ss)
          → ((q n' : ℕ) → Stands m q (slices_bytes (v11 compact) (later compact) ss) → Before (later compact) n' ss → reslices T m q n' ts (slice_rows T (v11 compact) (later compact) q ts ss) ≡ slices_bytes (v11 sliced) (later sliced) ss)
          → reslices T m p n (t ∷ ts) (slice_rows T (v11 compact) s p (t ∷ ts) (known o ps ∷ ss)) ≡ slices_bytes (v11 sliced) s' (known o ps ∷ ss)

      step : Goal (name_of T t)
      step S B ih =
          let sl : Slice = known (name_of T t) ps in
          let q : ℕ = p + n + length (data_bytes sl) in
          let rest : List Row = slice_rows T (v11 compact) (later compact) q ts ss in
          let rows : List Row = slice_rows T (v11 compact) s p (t ∷ ts) (sl ∷ ss) in
          let O : Others T t rest = follow_others T right t a (later compact) q ts ss A f F (omega arith) in
          let y : skipped_pieces ps ≡ 0 = omega arith in
          let h : p + length (slice_front compact s (is_last ss) sl) ≡ p + n = data_at t s p n ps ss rest L y O S B in
          let R : rows ≡ piece_rows T t (p + n) ps ++ rest = ap (λ (d : ℕ). piece_rows T t d ps ++ slice_rows T (v11 compact) (later compact) (d + length (data_bytes sl)) ts ss) h in
          ap₂ (λ (x y : List ℕ). x ++ y)
          (ap₂ (λ (l : Bool) (r : List Row). reslice T m t l p n r) (last_above T ts ss F) R ∙ slice_is t s p n ps ss rest L y O S B s' d)
          (ap₂ (λ (k : ℕ) (r : List Row). reslices T m k 1 ts r) (ap (data_end T m t p (p + n)) R ∙ end_is t s p n ps ss rest L y O S B)
          (ap (λ (r : List Row). drop (own_count T t r) r) R ∙ pieces_count T t (p + n) (owned_held T t ps L y) O)
          ∙ ih q 1 (subst (λ (d : ℕ). Stands m (d + length (data_bytes sl)) (slices_bytes (v11 compact) (later compact) ss)) h (slices_stand T m (v11 compact) s sl ss p S)) (before_later ss))

      go : (o : List ℕ) → o ≡ name_of T t → Goal o
      go o e = subst Goal (sym e) step

-- ---- how long they are

slices_long : (g : Format) (s : Stand) (sl : Slice) (ss : List Slice)
    → length (slices_bytes (v11 g) s (sl ∷ ss)) ≡ length (slice_front g s (is_last ss) sl) + length (data_bytes sl) + length (slices_bytes (v11 g) (later g) ss)
unfolding slices_bytes
slices_long g s sl ss =
    omega (arith, length-append (slice_front g s (is_last ss) sl ++ data_bytes sl) (slices_bytes (v11 g) (later g) ss), length-append (slice_front g s (is_last ss) sl) (data_bytes sl))

slices_none : length (slices_bytes (v11 sliced) (later sliced) []) ≡ length (slices_bytes (v11 compact) (later compact) []) + 0
unfolding slices_bytes
slices_none = refl

module _ (T : List ℕ) where
  later_growth_lem : (ts : List ℕ) (ss : List Slice) → Follow T (v11 compact) ts ss
      → length (slices_bytes (v11 sliced) (later sliced) ss) ≡ length (slices_bytes (v11 compact) (later compact) ss) + later_growth T ts
  unfolding later_growth due id_of
  later_growth_lem [] [] F = slices_none
  later_growth_lem [] (sl ∷ ss) F = absurd F
  later_growth_lem (t ∷ ts) [] F = absurd F
  later_growth_lem (t ∷ ts) (passed b nm x ∷ ss) F = absurd F
  later_growth_lem (t ∷ ts) (known o ps ∷ ss) (e, L, F) =
      let sl : Slice = known o ps in
      omega (
        arith,
        slices_long sliced (later sliced) sl ss,
        slices_long compact (later compact) sl ss,
        sliced_front (later sliced) (is_last ss) sl refl,
        compact_front (later compact) (is_last ss) sl,
        ap (λ (x : List ℕ). length (string_bytes x)) e,
        later_growth_lem ts ss F,
      )

  pub first_growth : (ts : List ℕ) (sl : Slice) (ss : List Slice) → Follow T (v11 compact) ts (sl ∷ ss)
      → length (slices_bytes (v11 sliced) first (sl ∷ ss)) ≡ length (slices_bytes (v11 compact) first (sl ∷ ss)) + growth T ts
  unfolding growth due id_of
  first_growth [] sl ss F = absurd F
  first_growth (t ∷ ts) (passed b nm x) ss F = absurd F
  first_growth (t ∷ ts) (known o ps) ss (e, L, F) =
      let sl : Slice = known o ps in
      omega (
        arith,
        slices_long sliced first sl ss,
        slices_long compact first sl ss,
        sliced_front first (is_last ss) sl refl,
        compact_front first (is_last ss) sl,
        later_growth_lem ts ss F,
      )
