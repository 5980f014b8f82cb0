-- The laws of a whole message: what its readers take and where they refuse lies within the input, and what follows from acceptance.
--
--   closed_parameters, closed_contents, closed_rest   they have every property that all ways of joining readers keep; held_contents, held_rest the extent
--   ended_ok               nothing comes after the record
--   length_encapsulate, body_encapsulated   an encapsulation is six bytes longer than what it holds, and read as that
--   Opened, body_opened    an accepted message: its size, its version, and what it holds, in 1.1 or 1.0
--   top_there              a top is a row of a kind from 13 on
--   rules_ok, rules_step   what the rules accept: table, top, limit and body; rules_body where only the body is left
--   length_row, length_rows   a row has twelve bytes in a list
use Rattle.std.proofs.Math.Path.{◌≡◌, refl, ap}
use Rattle.std.proofs.Common.{sym, ap₂, ◌∙◌, subst, arith, length-append, drop-drop}
use Rattle.std.specs.Prelude.{◌⊎◌, Bool, ◌&&◌, ◌||◌, leb}
use Rattle.std.proofs.Math.Logic.{inl, inr}
use Rattle.std.proofs.Math.Bool.{true, false, not}
use Rattle.std.proofs.Math.Option.{Option}
use mathlib.Core.List.{List, [], ◌∷◌, ◌++◌}
use Prim.Native.Nat.{ℕ, zero, suc, ◌+◌, ◌*◌, ◌^◌, ◌≤◌, ◌<◌}
use Rattle.std.proofs.Math.ListN.{length, drop}
use Rattle.std.proofs.Math.Seq.{drop_at}
use Rattle.std.proofs.Math.Dec.{eqb, ltb}
use borrow.Author.Tests.{not-false, eqb-true, eqb-false, leb-false, ltb-false, le-ltb, eq-eqb, ne_eqb}
use Rattle.encoding.specs.Result.{ok, Parser, pick, shift, ◌>>=◌, must, at_end, at_mark, first_of, concat}
use Rattle.encoding.proofs.ResultLaws.{Closed, Lies, by_pick, held, pick_judges, at_mark_looks, ok≢bad, either_false, first_of_ok, pick_ok, Bound, bind_ok, bind_next, bind_step, chunk_ok, must_ok, must_step, Held, at_end_fits}
use Rattle.encoding.specs.Number.{byte, val, number, le_bytes}
use Rattle.encoding.proofs.NumberLaws.{closed_byte, length_le_bytes, number_written}
use Rattle.encoding.specs.Table.{types, kind, Fault, fine, fault, faults, required_members, optional_members}
use Rattle.encoding.specs.Optional.{Piece}
use Rattle.encoding.proofs.OptionalLaws.{closed_optionals, closed_requireds}
use Rattle.encoding.specs.Slice.{sliced, Chain}
use Rattle.encoding.proofs.SliceLaws.{closed_slices}
use Rattle.encoding.specs.Old.{members_as, no_old, lead_form}
use Rattle.encoding.proofs.OldLaws.{closed_id_pairs}
use Rattle.encoding.specs.Message.{list, exception, class, Encoding, v10, v11, Read, minor, encapsulate, parameters, marker_form, contents, old_contents, outer_form, version10, version11, version_form, old_form, outer, after_version, ended, body, no_top, limit, after_rules, refused_first, rules, Row, row_bytes}

ended_in : {A : Type 0} (a : A) (xs : List ℕ) → Lies (length xs) (ended a xs)
unfolding ended
ended_in a [] = omega arith
ended_in a (x ∷ xs) = omega arith

-- a property that all ways of joining readers keep; a parameter list is read to the end
-- 1.1
module _ {P : (A : Type 0) → Parser A → Type 0} {Stops : (List ℕ → Option ℕ) → Type 0} (C : Closed false P Stops) (marked : Stops at_mark) (to_end : Stops at_end) (T : List ℕ) (top : ℕ) where
  pub closed_parameters : P (List Piece) (parameters T top)
  unfolding parameters
  closed_parameters = C.by_bind _ _ (closed_requireds C (required_members T top)) (λ a. C.by_mapc _ (closed_optionals C at_end to_end (optional_members T top)) (λ ps _. a ++ ps))

  pub closed_contents : P Read (contents T top)
  unfolding contents marker_form
  closed_contents =
      by_pick C (eqb (kind T top) 15) _ _ (C.by_mapc _ closed_parameters (λ ps _. record { format = v11 sliced; pieces = list ps }))
      (by_pick C (eqb (kind T top) 14) _ _
      (C.by_bind _ _ (C.by_must byte (closed_byte C) marker_form (λ b. pick_judges false (eqb b 1) 0 13 refl refl))
      (λ _. C.by_mapc _ (closed_slices C marked T top) (λ (c : Chain) _. record { format = v11 c.format; pieces = class c.list })))
      (C.by_mapc _ (closed_slices C marked T top) (λ (c : Chain) _. record { format = v11 c.format; pieces = exception c.list })))

  -- then nothing more
  pub closed_rest : ((r : Read) → P Read (ended r)) → P Read (contents T top >>= ended)
  closed_rest nothing = C.by_bind _ ended closed_contents nothing

-- 1.0
module _ {P : (A : Type 0) → Parser A → Type 0} {Stops : (List ℕ → Option ℕ) → Type 0} (C : Closed true P Stops) (T : List ℕ) (top : ℕ) where
  pub closed_old_contents : P Read (old_contents T top)
  unfolding old_contents lead_form
  closed_old_contents =
      by_pick C (eqb (kind T top) 15) _ _ (C.by_mapc _ (closed_requireds C (members_as true (required_members T top))) (λ ps _. record { format = v10; pieces = list ps }))
      (C.by_bind _ _ (C.by_must byte (closed_byte C) lead_form (λ b. pick_judges true (eqb b 0) 0 25 refl refl))
      (λ _. C.by_mapc _ (closed_id_pairs C T top) (λ ss _. record { format = v10; pieces = exception ss })))

  -- then nothing more
  pub closed_old_rest : ((r : Read) → P Read (ended r)) → P Read (old_contents T top >>= ended)
  closed_old_rest nothing = C.by_bind _ ended closed_old_contents nothing

pub held_old_contents : (T : List ℕ) (top : ℕ) → Held (old_contents T top)
held_old_contents = closed_old_contents (held true)

pub held_old_rest : (T : List ℕ) (top : ℕ) → Held (old_contents T top >>= ended)
held_old_rest T top = closed_old_rest (held true) T top ended_in

pub held_contents : (T : List ℕ) (top : ℕ) → Held (contents T top)
held_contents = closed_contents (held false) at_mark_looks.fits at_end_fits

pub held_rest : (T : List ℕ) (top : ℕ) → Held (contents T top >>= ended)
held_rest T top = closed_rest (held false) at_mark_looks.fits at_end_fits T top ended_in

pub ended_ok : {A : Type 0} (a : A) (xs : List ℕ) {b : A} {n : ℕ} → ended a xs ≡ ok b n → (xs ≡ []) × (b ≡ a) × (n ≡ 0)
unfolding ended
ended_ok a [] h = (refl, cc, cc)
ended_ok a (x ∷ xs) h = absurd (ok≢bad h refl)

-- ---- the encapsulation

pub length_encapsulate : (e : Encoding) (b : List ℕ) → length (encapsulate e b) ≡ 6 + length b
unfolding encapsulate
length_encapsulate e b = length-append (le_bytes 4 (6 + length b)) (1 ∷ minor e ∷ b) ∙ omega (arith, length_le_bytes 4 (6 + length b))

-- the version of an encoding, as a number of two bytes
abbrev pub version_of : Encoding → ℕ
version_of v10 = version10
version_of (v11 g) = version11

-- an encoding may be used for a top: 1.0 for no class, and for no top whose line of descent has optionals
abbrev pub Permits : List ℕ → ℕ → Encoding → Type 0
Permits T top v10 = (kind T top ≡ 14 → ⊥) × (no_old T top ≡ false)
Permits T top (v11 g) = Unit {0}

-- what an encapsulation holds in an encoding
abbrev pub contents_as : Encoding → List ℕ → ℕ → Parser Read
contents_as v10 T top = old_contents T top
contents_as (v11 g) T top = contents T top

module _ (T : List ℕ) (top : ℕ) where
  version_step : (e : Encoding) → Permits T top e → (version_form (kind T top) (version_of e) ≡ 0) × (old_form T top (version_of e) ≡ 0)
  unfolding version_form old_form
  version_step v10 (k, o) = (rw (ne_eqb (kind T top) 14 k), rw o)
  version_step (v11 g) p = (refl, refl)

  version_written : (e : Encoding) (b : List ℕ) → number 2 (1 ∷ minor e ∷ b) ≡ ok (version_of e) 2
  unfolding le_bytes
  version_written v10 b = number_written 2 1 b (omega arith)
  version_written (v11 g) b = number_written 2 257 b (omega arith)

  pub after_version_lem : (e : Encoding) → after_version T top (version_of e) ≡ contents_as e T top
  unfolding after_version
  after_version_lem v10 = refl
  after_version_lem (v11 g) = refl

  -- an encapsulation is read as what it holds, six bytes on
  pub body_encapsulated : (e : Encoding) (b : List ℕ) → Permits T top e → 6 + length b < 2 ^ 31 → body T top (encapsulate e b) ≡ shift 6 ((contents_as e T top >>= ended) b)
  unfolding body outer outer_form encapsulate
  body_encapsulated e b p h =
      let n : ℕ = 6 + length b in
      let w : List ℕ = le_bytes 4 n in
      let d : List ℕ = 1 ∷ minor e ∷ b in
      let m : List ℕ = w ++ d in
      let right-version = version_step e p in
      let right : outer_form (length m) n ≡ 0 = rw (le-ltb n 6 (omega arith), eq-eqb n (length m) (sym (length_encapsulate e b))) in
      let cut : drop 4 m ≡ d = drop_at w d 4 (length_le_bytes 4 n) in
      let size : must (outer_form (length m)) (number 4) m ≡ ok n 4 = must_step (number 4) m (outer_form (length m)) (number_written 4 n d (omega arith)) right in
      let version : must (version_form (kind T top)) (number 2) (drop 4 m) ≡ ok (version_of e) 2 =
      ap (must (version_form (kind T top)) (number 2)) cut ∙ must_step (number 2) d (version_form (kind T top)) (version_written e b) right-version.0 in
      bind_next (outer T top (length m)) (λ v. after_version T top v >>= ended) m
      (must_step _ m (old_form T top) (bind_step (must (outer_form (length m)) (number 4)) (λ _. must (version_form (kind T top)) (number 2)) m size version) right-version.1)
      ∙ ap (λ (z : List ℕ). shift 6 ((after_version T top (version_of e) >>= ended) z)) (sym (drop-drop 2 4 m) ∙ ap (drop 2) cut)
      ∙ ap (λ (p : Parser Read). shift 6 ((p >>= ended) b)) (after_version_lem e)

  -- an accepted message: its size and version, and what it holds
  pub record OpenedAs (e : Encoding) (m : List ℕ) (r : Read) (n : ℕ) : Type 0 where
    pub six : 6 ≤ length m
    pub size_read_lem : number 4 m ≡ ok (length m) 4
    pub version_read : number 2 (drop 4 m) ≡ ok (version_of e) 2
    pub permits : Permits T top e
    pub taken : ℕ
    pub held_read : (contents_as e T top >>= ended) (drop 6 m) ≡ ok r taken
    pub sum : n ≡ 6 + taken

  -- in 1.1, of any format, or in 1.0
  abbrev pub Opened : List ℕ → Read → ℕ → Type 0
  Opened m r n = OpenedAs (v11 sliced) m r n ⊎ OpenedAs v10 m r n

  pub known_version : (v : ℕ) → version_form (kind T top) v ≡ 0 → old_form T top v ≡ 0 → (v ≡ version11) ⊎ ((v ≡ version10) × Permits T top v10)
  unfolding version_form old_form
  known_version v h o = go (eqb v version11) refl (eqb v version10) refl (eqb (kind T top) 14) refl h o
    where
      go : (a : Bool) → eqb v version11 ≡ a → (b : Bool) → eqb v version10 ≡ b → (c : Bool) → eqb (kind T top) 14 ≡ c → ◌≡◌ {A = ℕ} (pick (a || (b && not c)) 0 6) 0
          → ◌≡◌ {A = ℕ} (pick (b && no_old T top) 26 0) 0 → (v ≡ version11) ⊎ ((v ≡ version10) × Permits T top v10)
      go true ea b eb c ec h o = inl (eqb-true v version11 ea)
      go false ea true eb false ec h o = inr (eqb-true v version10 eb, (eqb-false (kind T top) 14 ec, pick_ok (no_old T top) 25 o))
      go false ea true eb true ec h o = absurd (omega arith)
      go false ea false eb c ec h o = absurd (omega arith)

  pub body_opened : (m : List ℕ) (r : Read) (n : ℕ) → body T top m ≡ ok r n → Opened m r n
  unfolding body outer outer_form number
  body_opened m r n h = go (bind_ok (outer T top (length m)) (λ v. after_version T top v >>= ended) m h)
    where
      size_p : Parser ℕ
      size_p = must (outer_form (length m)) (number 4)

      version_p : ℕ → Parser ℕ
      version_p s = must (version_form (kind T top)) (number 2)

      -- the bytes of size and version are six
      split : (B : Bound (outer T top (length m)) (λ v. after_version T top v >>= ended) m r n) → Bound size_p version_p m B.fst B.n → old_form T top B.fst ≡ 0 → Opened m r n
      split B D o =
          let S = must_ok (number 4) m (outer_form (length m)) D.first in
          let c = chunk_ok 4 val m S.0 in
          let q = either_false (ltb D.fst 6) (not (eqb D.fst (length m))) (pick_ok _ 4 S.1) in
          let size : D.fst ≡ length m = eqb-true D.fst (length m) (not-false _ q.1) in
          let k = must_ok (number 2) (drop D.n m) (version_form (kind T top)) D.next in
          let d = chunk_ok 2 val (drop D.n m) k.0 in
          let six : B.n ≡ 6 = omega (arith, D.sum, c.2, d.2) in
          let rest : (after_version T top B.fst >>= ended) (drop 6 m) ≡ ok r B.m = subst (λ (i : ℕ). (after_version T top B.fst >>= ended) (drop i m) ≡ ok r B.m) six B.next in
          let sized : number 4 m ≡ ok (length m) 4 = S.0 ∙ ap₂ (λ (a : ℕ) (b : ℕ). ok a b) size c.2 in
          let versioned : number 2 (drop 4 m) ≡ ok B.fst 2 =
          ap (λ (i : ℕ). number 2 (drop i m)) (sym c.2) ∙ k.0 ∙ ap (ok B.fst) d.2 in
          opened B.fst (known_version B.fst k.1 o) (omega (arith, ltb-false D.fst 6 q.0, size)) sized versioned B.m rest (omega (arith, B.sum, six))
        where
          opened : (v : ℕ) → (v ≡ version11) ⊎ ((v ≡ version10) × Permits T top v10) → 6 ≤ length m → number 4 m ≡ ok (length m) 4 → number 2 (drop 4 m) ≡ ok v 2
              → (k : ℕ) → (after_version T top v >>= ended) (drop 6 m) ≡ ok r k → n ≡ 6 + k → Opened m r n
          opened v (inl e) l s w k x z = inl (record {
            six = l;
            size_read_lem = s;
            version_read = w ∙ ap (λ (v : ℕ). ok v 2) e;
            permits = tt;
            taken = k;
            held_read = ap (λ (p : Parser Read). (p >>= ended) (drop 6 m)) (sym (after_version_lem (v11 sliced)) ∙ ap (after_version T top) (sym e)) ∙ x;
            sum = z;
          })
          opened v (inr e) l s w k x z = inr (record {
            six = l;
            size_read_lem = s;
            version_read = w ∙ ap (λ (v : ℕ). ok v 2) e.0;
            permits = e.1;
            taken = k;
            held_read = ap (λ (p : Parser Read). (p >>= ended) (drop 6 m)) (sym (after_version_lem v10) ∙ ap (after_version T top) (sym e.0)) ∙ x;
            sum = z;
          })

      go : Bound (outer T top (length m)) (λ v. after_version T top v >>= ended) m r n → Opened m r n
      go B = let M = must_ok (size_p >>= version_p) m (old_form T top) B.first in split B (bind_ok size_p version_p m M.0) M.1

-- ---- the rules before the body

pub top_there : (T : List ℕ) (top : ℕ) → no_top T top ≡ false → (top < types T) × (13 ≤ kind T top)
unfolding no_top
top_there T top h =
    let e = either_false (leb (types T) top) (ltb (kind T top) 13) h in
    (leb-false (types T) top e.0, ltb-false (kind T top) 13 e.1)

pub record Admitted (T : List ℕ) (top : ℕ) (m : List ℕ) (r : Read) (n : ℕ) : Type 0 where
  pub table : faults T ≡ fine
  pub top_right : no_top T top ≡ false
  pub short : length m ≤ limit
  pub read : body T top m ≡ ok r n

module _ (T : List ℕ) (top : ℕ) (m : List ℕ) where
  pub rules_ok : {r : Read} {n : ℕ} → rules T top m ≡ ok r n → Admitted T top m r n
  unfolding rules after_rules refused_first
  rules_ok {r} {n} h = go (faults T) refl h
    where
      judged : ℕ
      judged = first_of ((2, no_top T top) ∷ (3, ltb limit (length m)) ∷ [])

      go₂ : (c : ℕ) → judged ≡ c → faults T ≡ fine → refused_first c (body T top m) ≡ ok r n → Admitted T top m r n
      go₂ zero e F h =
          let a = first_of_ok 1 (no_top T top) _ e in
          let b = first_of_ok 2 (ltb limit (length m)) _ a.1 in
          record { table = F; top_right = a.0; short = ltb-false limit (length m) b.0; read = h }
      go₂ (suc c) e F h = absurd (ok≢bad h refl)

      go : (f : Fault) → faults T ≡ f → after_rules f (refused_first judged (body T top m)) ≡ ok r n → Admitted T top m r n
      go fine e h = go₂ judged refl e h
      go (fault c p) e h = absurd (ok≢bad h refl)

  -- past table, top and limit the rules are the body
  pub rules_body : faults T ≡ fine → no_top T top ≡ false → length m ≤ limit → rules T top m ≡ body T top m
  unfolding rules after_rules refused_first first_of
  rules_body f t l = rw (f, t, le-ltb limit (length m) l)

  pub rules_step : {r : Read} {n : ℕ} → Admitted T top m r n → rules T top m ≡ ok r n
  rules_step A = rules_body A.table A.top_right A.short ∙ A.read

-- ---- rows as bytes

pub length_row : (r : Row) → length (row_bytes r) ≡ 12
unfolding row_bytes
length_row r =
    length-append (le_bytes 4 r.member ++ le_bytes 4 r.place) (le_bytes 4 r.len)
    ∙ omega (arith, length-append (le_bytes 4 r.member) (le_bytes 4 r.place), length_le_bytes 4 r.member, length_le_bytes 4 r.place, length_le_bytes 4 r.len)

pub length_rows : (rs : List Row) → length (concat row_bytes rs) ≡ 12 * length rs
unfolding concat
length_rows [] = refl
length_rows (r ∷ rs) = length-append (row_bytes r) (concat row_bytes rs) ∙ omega (arith, length_row r, length_rows rs)
