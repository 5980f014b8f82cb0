-- A whole message: the rules accept it exactly when it is the encoding of pieces that conform, and those are read.
--
--   contents_written, _canonical   what is in the encapsulation, by the top's kind
--   body_written, _canonical       the encapsulation around it
--   rules_written                  what follows the rules is accepted
--   exact_message, exact_rows      demand 2, first sentence, and the rows listed
use Rattle.std.specs.Prelude.{◌≡◌, Bool, take, eqb}
use Rattle.std.proofs.Math.Path.{refl, sym, ap, ap₂}
use Rattle.std.proofs.Common.{◌∙◌, subst, true≢false, ⊎_elim, add-zero, arith, take-append-drop, drop-drop, eqb-true}
use Rattle.std.proofs.Math.Bool.{true, false}
use mathlib.Core.List.{List, [], ◌∷◌, ◌++◌, append-nil}
use Prim.Native.Nat.{ℕ, ◌+◌, ◌≤◌}
use Rattle.std.proofs.Math.ListN.{length, drop, length-drop}
use Rattle.std.proofs.Math.Seq.{drop-length}
use Rattle.std.proofs.lemmas.Bool.{eqb-false}
use Rattle.encoding.specs.Result.{ok, Parser, pick, shift, ◌>>=◌, must, mapc}
use Rattle.encoding.proofs.ResultLaws.{pick_true, Bound, bind_ok, bind_step, bind_take, must_ok, must_step, mapc_ok, mapc_step, Held, held_took}
use Rattle.encoding.specs.Number.{Bytes, Short, byte, le_bytes}
use Rattle.encoding.proofs.NumberLaws.{bytes_drop, byte_written, byte_canonical, number_canonical}
use Rattle.encoding.specs.Table.{kind, required_members, fine, faults}
use Rattle.encoding.proofs.RuleLaws.{kind_known}
use Rattle.encoding.proofs.ListLaws.{required_rise}
use Rattle.encoding.specs.Optional.{requireds}
use Rattle.encoding.specs.Slice.{sliced, Chain, slices, first}
use Rattle.encoding.specs.Old.{members_as, lead_form, id_pairs}
use Rattle.encoding.proofs.OldLaws.{members_rise_as}
use Rattle.encoding.specs.Message.{Pieces, list, exception, class, Encoding, v10, v11, is_old, Read, slices_bytes, encode, minor, encapsulate, parameters, marker_form, contents, old_contents, ended, body, rules}
use Rattle.encoding.proofs.MessageLaws.{held_contents, held_old_contents, ended_ok, version_of, Permits, contents_as, OpenedAs, body_opened, length_encapsulate, body_encapsulated, top_there, rules_ok, rules_step}
use Rattle.encoding.specs.Conform.{WithoutOptionals, Conform}
use Rattle.laws.specs.Demands.{read_as, Follows, Exact, ExactRows}
use Rattle.laws.proofs.TableExact.{valid, sound}
use Rattle.laws.proofs.RowsExact.{exact_rows_from}
use Rattle.laws.proofs.OptionalExact.{parameters_written, parameters_canonical}
use Rattle.laws.proofs.SliceExact.{slices_written, slices_canonical}
use Rattle.laws.proofs.OldExact.{bare_written, bare_canonical, pairs_written, pairs_canonical}
use Rattle.laws.proofs.OldLine.{bare_line, line_bare}

-- ---- contents

-- what was read conforms, and z is its encoding
abbrev Right : List ℕ → ℕ → List ℕ → Read → Type 0
Right T top z r = Conform T top r.format r.pieces × (z ≡ encode r.format r.pieces)

module _ (T : List ℕ) (right : faults T ≡ fine) (top : ℕ) where
  abbrev list_p : Parser Read
  list_p = mapc (λ ps _. read_as (v11 sliced) (list ps)) (parameters T top)

  abbrev class_p : Parser Read
  class_p = must marker_form byte >>= λ _. mapc (λ (c : Chain) _. read_as (v11 c.format) (class c.list)) (slices T top)

  abbrev exception_p : Parser Read
  exception_p = mapc (λ (c : Chain) _. read_as (v11 c.format) (exception c.list)) (slices T top)

  class_canonical : (xs : List ℕ) → Bytes xs → Short (length xs) → kind T top ≡ 14 → {r : Read} {n : ℕ} → class_p xs ≡ ok r n → Right T top (take n xs) r
  unfolding encode marker_form
  class_canonical xs y sh k {r} {n} h = go (bind_ok (must marker_form byte) next xs h)
    where
      next : ℕ → Parser Read
      next b = mapc (λ (c : Chain) _. read_as (v11 c.format) (class c.list)) (slices T top)

      go : Bound (must marker_form byte) next xs r n → Right T top (take n xs) r
      go B =
          let M = must_ok byte xs marker_form B.first in
          let C = byte_canonical xs M.0 in
          let one : B.fst ≡ 1 = eqb-true B.fst 1 (pick_true (eqb B.fst 1) 12 M.1) in
          let N = mapc_ok (slices T top) (drop B.n xs) (λ (c : Chain) _. read_as (v11 c.format) (class c.list)) B.next in
          let S = slices_canonical T top right (drop B.n xs) (bytes_drop B.n xs y) (omega (arith, length-drop B.n xs)) N.1 in
          subst (Right T top (take n xs)) (sym N.2) ((k, S.0), bind_take (must marker_form byte) next xs B ∙ ap₂ ◌++◌ (C.0 ∙ ap (λ (b : ℕ). b ∷ []) one) S.1)

  pub contents_canonical : (xs : List ℕ) → Bytes xs → Short (length xs) → 13 ≤ kind T top → kind T top ≤ 15 → {r : Read} {n : ℕ} → contents T top xs ≡ ok r n
      → Right T top (take n xs) r × (is_old r.format ≡ false)
  unfolding contents encode
  contents_canonical xs y sh low high {r} {n} h = go (eqb (kind T top) 15) refl (eqb (kind T top) 14) refl h
    where
      -- what was read is of 1.1
      new : (r r' : Read) → is_old r'.format ≡ false → r ≡ r' → is_old r.format ≡ false
      new r r' o e = ap (λ (r : Read). is_old r.format) e ∙ o

      go : (a : Bool) → eqb (kind T top) 15 ≡ a → (b : Bool) → eqb (kind T top) 14 ≡ b → pick a list_p (pick b class_p exception_p) xs ≡ ok r n
          → Right T top (take n xs) r × (is_old r.format ≡ false)
      go true e b f h =
          let M = mapc_ok (parameters T top) xs (λ ps _. read_as (v11 sliced) (list ps)) h in
          let P = parameters_canonical T right top xs y sh M.1 in
          (subst (Right T top (take n xs)) (sym M.2) ((eqb-true (kind T top) 15 e, refl, P.0), P.1), new r _ refl M.2)
      go false e true f h =
          let B = bind_ok (must marker_form byte) (λ _. mapc (λ (c : Chain) _. read_as (v11 c.format) (class c.list)) (slices T top)) xs h in
          let N = mapc_ok (slices T top) (drop B.n xs) (λ (c : Chain) _. read_as (v11 c.format) (class c.list)) B.next in
          (class_canonical xs y sh (eqb-true (kind T top) 14 f) h, new r _ refl N.2)
      go false e false f h =
          let M = mapc_ok (slices T top) xs (λ (c : Chain) _. read_as (v11 c.format) (exception c.list)) h in
          let S = slices_canonical T top right xs y sh M.1 in
          let k : kind T top ≡ 13 = omega (arith, eqb-false (kind T top) 15 e, eqb-false (kind T top) 14 f) in
          (subst (Right T top (take n xs)) (sym M.2) ((k, S.0), S.1), new r _ refl M.2)

  -- ---- 1.0

  abbrev old_list_p : Parser Read
  old_list_p = mapc (λ ps _. read_as v10 (list ps)) (requireds (members_as true (required_members T top)))

  abbrev old_exception_p : Parser Read
  old_exception_p = must lead_form byte >>= λ _. mapc (λ ss _. read_as v10 (exception ss)) (id_pairs T top)

  pub old_contents_canonical : (xs : List ℕ) → Bytes xs → 13 ≤ kind T top → kind T top ≤ 15 → Permits T top v10 → {r : Read} {n : ℕ} → old_contents T top xs ≡ ok r n
      → Right T top (take n xs) r × (r.format ≡ v10)
  unfolding old_contents encode lead_form
  old_contents_canonical xs y low high permits {r} {n} h = go (eqb (kind T top) 15) refl h
    where
      bare : WithoutOptionals T top
      bare = bare_line T top permits.1

      go : (a : Bool) → eqb (kind T top) 15 ≡ a → pick a old_list_p old_exception_p xs ≡ ok r n → Right T top (take n xs) r × (r.format ≡ v10)
      go true e h =
          let M = mapc_ok (requireds (members_as true (required_members T top))) xs (λ ps _. read_as v10 (list ps)) h in
          let P = bare_canonical (members_as true (required_members T top)) (members_rise_as true (required_members T top) (required_rise T right top)) xs M.1 in
          (subst (Right T top (take n xs)) (sym M.2) ((eqb-true (kind T top) 15 e, bare, P.0), P.1), ap (λ (r : Read). r.format) M.2)
      go false e h = pairs (bind_ok (must lead_form byte) next xs h)
        where
          next : ℕ → Parser Read
          next b = mapc (λ ss _. read_as v10 (exception ss)) (id_pairs T top)

          pairs : Bound (must lead_form byte) next xs r n → Right T top (take n xs) r × (r.format ≡ v10)
          pairs B =
              let M = must_ok byte xs lead_form B.first in
              let C = byte_canonical xs M.0 in
              let none : B.fst ≡ 0 = eqb-true B.fst 0 (pick_true (eqb B.fst 0) 24 M.1) in
              let N = mapc_ok (id_pairs T top) (drop B.n xs) (λ ss _. read_as v10 (exception ss)) B.next in
              let S = pairs_canonical T top right (drop B.n xs) (bytes_drop B.n xs y) N.1 in
              let k : kind T top ≡ 13 = omega (arith, eqb-false (kind T top) 15 e, permits.0) in (
                subst (Right T top (take n xs)) (sym N.2) ((k, bare, S.0), bind_take (must lead_form byte) next xs B ∙ ap₂ ◌++◌ (C.0 ∙ ap (λ (b : ℕ). b ∷ []) none) S.1),
                ap (λ (r : Read). r.format) N.2,
              )

  -- ---- either encoding

  -- what conforms may have its encoding
  pub conform_permits : (f : Encoding) (p : Pieces) → Conform T top f p → Permits T top f
  conform_permits v10 (list ps) C = ((λ e. omega (arith, C.0)), line_bare T top C.1)
  conform_permits v10 (exception ss) C = ((λ e. omega (arith, C.0)), line_bare T top C.1)
  conform_permits v10 (class ss) C = absurd C
  conform_permits (v11 g) p C = tt

  pub contents_written : (f : Encoding) (p : Pieces) → Conform T top f p → Short (length (encode f p)) → contents_as f T top (encode f p) ≡ ok (read_as f p) (length (encode f p))
  unfolding contents old_contents encode marker_form lead_form
  contents_written (v11 g) (list ps) C sh =
      rw (C.0, C.1) (mapc_step (parameters T top) _ (λ ps _. read_as (v11 sliced) (list ps)) (parameters_written T right top ps C.2))
  contents_written (v11 g) (exception ss) C sh =
      rw C.0 (mapc_step (slices T top) _ (λ (c : Chain) _. read_as (v11 c.format) (exception c.list)) (rw append-nil at (slices_written T top right g ss [] C.1 sh)))
  contents_written (v11 g) (class ss) C sh =
      let w : List ℕ = slices_bytes (v11 g) first ss in
      rw C.0 (bind_step (must marker_form byte) (λ _. mapc (λ (c : Chain) _. read_as (v11 c.format) (class c.list)) (slices T top)) (1 ∷ w)
      (must_step byte (1 ∷ w) marker_form (byte_written 1 w) refl)
      (mapc_step (slices T top) w (λ (c : Chain) _. read_as (v11 c.format) (class c.list)) (rw append-nil at (slices_written T top right g ss [] C.1 (omega arith))))
      ∙ ap (ok (read_as (v11 g) (class ss))) (omega arith))
  contents_written v10 (list ps) C sh =
      rw C.0 (mapc_step (requireds (members_as true (required_members T top))) _ (λ ps _. read_as v10 (list ps))
      (rw append-nil at (bare_written (members_as true (required_members T top)) (members_rise_as true (required_members T top) (required_rise T right top)) ps [] C.2)))
  contents_written v10 (exception ss) C sh =
      let w : List ℕ = slices_bytes v10 first ss in
      rw C.0 (bind_step (must lead_form byte) (λ _. mapc (λ ss _. read_as v10 (exception ss)) (id_pairs T top)) (0 ∷ w)
      (must_step byte (0 ∷ w) lead_form (byte_written 0 w) refl)
      (mapc_step (id_pairs T top) w (λ ss _. read_as v10 (exception ss)) (rw append-nil at (pairs_written T top right ss [] C.2 (omega arith))))
      ∙ ap (ok (read_as v10 (exception ss))) (omega arith))
  contents_written v10 (class ss) C sh = absurd C

  -- ---- the encapsulation

  -- nothing comes after the record
  closed_canonical : (p : Parser Read) → Held p → (xs : List ℕ) (P : Read → Type 0) → ((r : Read) (n : ℕ) → p xs ≡ ok r n → Right T top (take n xs) r × P r)
      → {r : Read} {n : ℕ} → (p >>= ended) xs ≡ ok r n → Right T top xs r × P r × (n ≡ length xs)
  closed_canonical p held xs P canonical {r} {n} h = go (bind_ok p ended xs h)
    where
      go : Bound p ended xs r n → Right T top xs r × P r × (n ≡ length xs)
      go B =
          let E = ended_ok B.fst (drop B.n xs) B.next in
          let C = canonical B.fst B.n B.first in
          let fits = held_took p held xs B.first in
          let all : take B.n xs ≡ xs = sym (append-nil (take B.n xs)) ∙ ap (λ (z : List ℕ). take B.n xs ++ z) (sym E.0) ∙ take-append-drop B.n xs in
          (subst (Right T top xs) (sym E.1) (C.0.0, sym all ∙ C.0.1), subst P (sym E.1) C.1, omega (arith, B.sum, E.2, ap length E.0, length-drop B.n xs))

  -- what an accepted message holds, in its encoding
  held_canonical : (e : Encoding) (m : List ℕ) → Bytes m → Short (length m) → 13 ≤ kind T top → kind T top ≤ 15 → {r : Read} {n : ℕ} → OpenedAs T top e m r n
      → ((k : ℕ) → (contents_as e T top >>= ended) (drop 6 m) ≡ ok r k → Right T top (drop 6 m) r × (minor r.format ≡ minor e) × (k ≡ length (drop 6 m)))
      → Conform T top r.format r.pieces × (m ≡ encapsulate r.format (encode r.format r.pieces)) × (n ≡ length m)
  unfolding encapsulate le_bytes
  held_canonical e m y sh low high {r} {n} O canonical =
      let C = canonical O.taken O.held_read in
      let b : List ℕ = encode r.format r.pieces in
      let N = number_canonical 4 m y O.size_read_lem in
      let L = number_canonical 2 (drop 4 m) (bytes_drop 4 m y) O.version_read in
      let l : length m ≡ 6 + length b = omega (arith, O.six, ap length C.0.1, length-drop 6 m) in
      let two : drop 4 m ≡ 1 ∷ minor r.format ∷ b =
      sym (take-append-drop 2 (drop 4 m)) ∙ ap₂ ◌++◌ (L.0 ∙ version_bytes e ∙ ap (λ (v : ℕ). 1 ∷ v ∷ []) (sym C.1)) (drop-drop 2 4 m ∙ C.0.1) in
      (C.0.0, sym (take-append-drop 4 m) ∙ ap₂ ◌++◌ (N.0 ∙ ap (le_bytes 4) l) two, omega (arith, O.sum, C.2, length-drop 6 m, O.six))
    where
      version_bytes : (e : Encoding) → le_bytes 2 (version_of e) ≡ 1 ∷ minor e ∷ []
      version_bytes v10 = refl
      version_bytes (v11 g) = refl

  pub body_canonical : (m : List ℕ) → Bytes m → Short (length m) → 13 ≤ kind T top → kind T top ≤ 15 → {r : Read} {n : ℕ} → body T top m ≡ ok r n
      → Conform T top r.format r.pieces × (m ≡ encapsulate r.format (encode r.format r.pieces)) × (n ≡ length m)
  body_canonical m y sh low high {r} {n} h = ⊎_elim new old (body_opened T top m r n h)
    where
      d : List ℕ
      d = drop 6 m

      yd : Bytes d
      yd = bytes_drop 6 m y

      minor_new : (f : Encoding) → is_old f ≡ false → minor f ≡ 1
      minor_new v10 e = absurd (true≢false e)
      minor_new (v11 g) e = refl

      new : OpenedAs T top (v11 sliced) m r n → Conform T top r.format r.pieces × (m ≡ encapsulate r.format (encode r.format r.pieces)) × (n ≡ length m)
      new O = held_canonical (v11 sliced) m y sh low high O
          (λ k h. let C = closed_canonical (contents T top) (held_contents T top) d (λ r. is_old r.format ≡ false)
          (λ r n e. contents_canonical d yd (omega (arith, length-drop 6 m)) low high e) h in (C.0, minor_new r.format C.1, C.2))

      old : OpenedAs T top v10 m r n → Conform T top r.format r.pieces × (m ≡ encapsulate r.format (encode r.format r.pieces)) × (n ≡ length m)
      old O = held_canonical v10 m y sh low high O
          (λ k h. let C = closed_canonical (old_contents T top) (held_old_contents T top) d (λ r. r.format ≡ v10)
          (λ r n e. old_contents_canonical d yd low high O.permits e) h in (C.0, ap minor C.1, C.2))

  closed_written : (f : Encoding) (p : Pieces) → Conform T top f p → Short (length (encode f p)) → (contents_as f T top >>= ended) (encode f p) ≡ ok (read_as f p) (length (encode f p))
  unfolding ended
  closed_written f p C sh =
      let b : List ℕ = encode f p in
      bind_step (contents_as f T top) ended b {m = 0} (contents_written f p C sh) (ap (ended (read_as f p)) (drop-length b)) ∙ ap (ok (read_as f p)) (add-zero (length b))

  pub body_written : (f : Encoding) (p : Pieces) → Conform T top f p → Short (length (encapsulate f (encode f p)))
      → body T top (encapsulate f (encode f p)) ≡ ok (read_as f p) (length (encapsulate f (encode f p)))
  unfolding shift
  body_written f p C sh =
      let b : List ℕ = encode f p in
      let l = length_encapsulate f b in
      body_encapsulated T top f b (conform_permits f p C) (omega (arith, l)) ∙ ap (shift 6) (closed_written f p C (omega (arith, l))) ∙ ap (ok (read_as f p)) (sym l)

-- ---- the rules

pub rules_written : (T : List ℕ) (top : ℕ) (m : List ℕ) (f : Encoding) (p : Pieces) → Follows T top m f p → rules T top m ≡ ok (read_as f p) (length m)
rules_written T top m f p F =
    let b : body T top m ≡ ok (read_as f p) (length m) =
    subst (λ (z : List ℕ). Short (length z) → body T top z ≡ ok (read_as f p) (length z)) (sym F.encoded) (body_written T (sound T F.table) top f p F.conforms) (omega (arith, F.short)) in
    rules_step T top m (record { table = sound T F.table; top_right = F.top_there; short = F.short; read = b })

pub exact_message : Exact
exact_message T top m f p n y = (read, rules_written T top m f p)
  where
    read : rules T top m ≡ ok (read_as f p) n → Follows T top m f p × (n ≡ length m)
    read h =
        let A = rules_ok T top m h in
        let t = top_there T top A.top_right in
        let B = body_canonical T A.table top m y (omega (arith, A.short)) t.1 (kind_known T A.table top t.0) A.read in
        (record { table = valid T A.table; top_there = A.top_right; short = A.short; conforms = B.0; encoded = B.1 }, B.2)

pub exact_rows : ExactRows
exact_rows = exact_rows_from exact_message
