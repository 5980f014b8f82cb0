-- The answer of a walk is document 01's answer, and the lent list is as document 01 says. Assumes nothing.
--
--   same_walk                          a walk taken apart and put together again
--   count_done, count_stop             the rows of a walk, case by case
--   copy_fits, copy_short              the lent list after the rows of a walk are copied, where they fit and where they do not
--   told_done, told_short, told_stop   the answer of a walk, case by case
--   anew_lent, anew_walked, anew_shapes, anew_most, anew_listed, anew_list   what is asked and given of slices taken anew
--   unasked                            10s are lent where the checks are made; lent_ready: the shapes, where they are not
--   anew_old, old_unasked              what is known of encoding 1.0 of slices taken anew; nothing is
--   ready_known, ready_shapes          what is known where they are left out; blank_lent where they are made
--   found_ready                        the checks refuse nothing where their answer is ready
--   stop_walked, body_walked           a check refuses, or the walk over the body says all
--   told_walked, told_listed           the answer of a walk
--   rows_put                           a list that holds the rows, after they are put
--   list_few, _some, _more, _many, _all   the lent list after rows are copied from a list of 5 rows, of 21, 128, 512 or 1,024
use mathlib.Core.Path.{◌≡◌, refl, sym, ap, ap₂, ◌∙◌}
use mathlib.Core.Bool.{Bool, true, false}
use mathlib.Core.List.{List, [], ◌∷◌, ◌++◌}
use Prim.Native.Nat.{ℕ, ◌+◌, ◌-◌, ◌*◌, ◌/◌, ◌≤◌, ◌<◌, min}
use native.Mathlib.Omega.{arith}
use lib.ListN.{length, take, drop, replicate}
use lib.Seq.{take_at}
use lib.Dec.{eqb, leb}
use borrow.Author.Tests.{le-leb, lt-leb, leb-true, leb-false, ne_eqb}
use Rattle.encoding.specs.Result.{Res, ok, bad, pick, concat}
use Rattle.encoding.proofs.ResultLaws.{ok≢bad}
use Rattle.encoding.specs.Number.{Bytes}
use Rattle.encoding.specs.Slice.{sliced, compact}
use Rattle.encoding.specs.Table.{members}
use Rattle.encoding.specs.Message.{Encoding, v10, v11, encoding_number, Read, body, limit, rules, Row, rows, row_bytes, first_known, optionals_skipped, slices_skipped, Answer, refused, accepted, answer, room, within, reading, listed, reading_of}
use Rattle.encoding.proofs.MessageLaws.{length_rows}
use Rattle.encoding.specs.declared.Reading.{Reading}
use Rattle.encoding.specs.declared.Reading.TheVariants.{Accepted, Refused}
use Rattle.wire.specs.StepLaws.{rest_is}
use Rattle.wire.specs.Put.{put}
use Rattle.wire.specs.PutLaws.{put_none, put_front}
use Rattle.level.specs.Fill.{fill}
use Rattle.level.specs.FillLaws.{fill_listed}
use Rattle.slices.specs.Walks.{body_walk, read_done}
use Rattle.slices.specs.declared.Walk.{Walk}
use Rattle.slices.specs.declared.Walk.TheVariants.{Done, Stop}
use Rattle.laws.proofs.Refusals.{Numbered, refusal_numbered, rules_refused}
use Rattle.laws.proofs.Small.{Small, accepted_small}
use Rattle.prepare.specs.Preparing.{checks}
use Rattle.prepare.specs.PreparingLaws.{reading_ready, reading_refused}
use Rattle.prepare.specs.declared.Prepared.{Prepared}
use Rattle.prepare.specs.declared.Prepared.TheVariants.{Ready, Refused as Stopped}
use Rattle.shapes.specs.Shapes.{shapes_of}
use Rattle.reader.specs.OldUse.{OldUse}
use Rattle.reading.specs.Told.{Lent, Walked, Listed, low, told_of, row_count, with_rows}

-- ---- a walk, case by case

pub same_walk : (w v : Walk) → w ≡ v → v ≡ w
same_walk w v e = sym e

pub copy_fits : (w : Walk) (own R x : List ℕ) (n : ℕ) → n ≡ row_count w → n ≤ length R / 12 → x ≡ put 0 (take (12 * n) (drop 0 own)) R → x ≡ with_rows w own R
unfolding with_rows
copy_fits w own R x n e h ex = rw (← e, le-leb n (length R / 12) h) ex

pub copy_short : (w : Walk) (own R : List ℕ) (n : ℕ) → n ≡ row_count w → length R / 12 < n → R ≡ with_rows w own R
unfolding with_rows
copy_short w own R n e h = rw (← e, lt-leb n (length R / 12) h) refl

module _ (w : Walk) (t g n o s e : ℕ) (q : w ≡ Done t g n o s e) where
  pub count_done : n ≡ row_count w
  unfolding row_count
  count_done = sym (ap row_count q)

  pub told_done : (k : ℕ) → n ≤ k → (a b c d f : ℕ) → a ≡ low t → b ≡ low g → c ≡ low n → d ≡ low o → f ≡ low s → Accepted a b c d f ≡ told_of k w
  unfolding told_of
  told_done k h a b c d f ea eb ec ed ef = rw (q, told_of, le-leb n k h) cc

  pub told_short : (k : ℕ) → k < n → (c : ℕ) → c ≡ low n → Refused 19 c ≡ told_of k w
  unfolding told_of
  told_short k h c ec = rw (q, told_of, lt-leb n k h) cc

module _ (w : Walk) (c p : ℕ) (q : w ≡ Stop c p) where
  pub count_stop : 0 ≡ row_count w
  unfolding row_count
  count_stop = sym (ap row_count q)

  pub told_stop : (k a b : ℕ) → a ≡ low c → b ≡ low p → Refused a b ≡ told_of k w
  unfolding told_of
  told_stop k a b ea eb = rw (q, told_of) cc

-- ---- each number fits 32 bits

low_small : (x : ℕ) → x ≤ limit → low x ≡ x
low_small x h = omega arith

format_small : (f : Encoding) → encoding_number f ≤ limit
format_small v10 = omega arith
format_small (v11 sliced) = omega arith
format_small (v11 compact) = omega arith

-- ---- the answer

told_accepted : (T : List ℕ) (top : ℕ) (rd : Read) (n k : ℕ) → Small T top rd.format rd.pieces
    → told_of k (body_walk T top (ok rd n)) ≡ reading_of (within k (accepted T top rd))
unfolding told_of body_walk read_done reading_of within accepted refused
told_accepted T top rd n k S = go (leb (length (rows T top rd.format rd.pieces)) k)
  where
    t : ℕ
    t = first_known T top rd.pieces

    g : ℕ
    g = encoding_number rd.format

    c : ℕ
    c = length (rows T top rd.format rd.pieces)

    o : ℕ
    o = optionals_skipped rd.pieces

    s : ℕ
    s = slices_skipped rd.pieces

    go : (q : Bool) → pick q (Accepted (low t) (low g) (low c) (low o) (low s)) (Refused 19 (low c)) ≡ reading_of (pick q (accepted T top rd) (refused 19 c))
    go true =
        cc (low_small t (omega (arith, S.first)), low_small g (format_small rd.format), low_small c (omega (arith, S.count)), low_small o S.optionals, low_small s S.slices)
    go false = ap (Refused 19) (low_small c (omega (arith, S.count)))

told_refused : (T : List ℕ) (top k c p : ℕ) → Numbered c p → told_of k (body_walk T top (bad c p)) ≡ reading_of (within k (refused c p))
unfolding told_of body_walk reading_of within refused
told_refused T top k c p N =
    let num : low c ≡ c = low_small c (omega (arith, N.known_number)) in
    let at : low p ≡ p = low_small p N.small_place in
    let some : eqb c 0 ≡ false = ne_eqb c 0 (λ e. omega (arith, N.some_number)) in
    let it : Refused (low c) (low p) ≡ Refused c p = cc in
    let kept : within k (refused c p) ≡ refused c p = ap (λ (b : Bool). pick b (refused c p) (refused 19 0)) (le-leb 0 k (omega arith)) in
    it ∙ sym (ap reading_of kept ∙ ap (λ (b : Bool). pick b (Accepted 0 0 0 0 0) (Refused c p)) some)

module _ (T : List ℕ) (top : ℕ) (m : List ℕ) (b : ℕ) where
  told_rules : Bytes m → told_of (b / 12) (body_walk T top (rules T top m)) ≡ reading_of (reading T top m b)
  unfolding reading answer room
  told_rules y = go (rules T top m) refl
    where
      go : (r : Res Read) → rules T top m ≡ r → told_of (b / 12) (body_walk T top r) ≡ reading_of (within (b / 12) (answer T top r))
      go (ok rd n) e = told_accepted T top rd n (b / 12) (accepted_small T top m rd.format rd.pieces n y e)
      go (bad c p) e = told_refused T top (b / 12) c p (refusal_numbered (rules_refused T top m e))

-- a slice from 0 on, as the check names it
abbrev anew : List ℕ → List ℕ
anew s = take (length s - 0) (drop 0 s)

no_ready : false ≡ true → ⊥
no_ready e = let z : ◌≡◌ {A = ℕ} 0 1 = cc in omega arith

module _ (T : List ℕ) (top : ℕ) where
  pub anew_old : (u : ℕ) → OldUse T top u → OldUse (anew T) top u
  anew_old u U = rw (rest_is T 0) U

  pub old_unasked : OldUse T top 0
  old_unasked = record { can = λ e. absurd (omega (arith, e)); cannot = λ e. absurd (omega (arith, e)) }

module _ (T : List ℕ) (top : ℕ) (m : List ℕ) where
  pub anew_lent : (b : Bool) (s : List ℕ) → Lent T top (length m) b s → Lent (anew T) top (length (anew m)) b s
  anew_lent b s L = rw (rest_is T 0, rest_is m 0) L

  pub anew_shapes : (s : List ℕ) → (checks (anew T) top 1 (length (anew m)) ≡ Ready → s ≡ shapes_of (anew T)) → checks T top 1 (length m) ≡ Ready → s ≡ shapes_of T
  anew_shapes s h = rw (rest_is T 0, rest_is m 0) at h

  pub anew_walked : (w : Walk) (out last : List ℕ) → Walked (anew T) top (anew m) w out last → Walked T top m w out last
  anew_walked w out last W = rw (rest_is T 0, rest_is m 0) at W

  pub anew_most : (k r : ℕ) → min k (members T) ≤ r → min k (members (anew T)) ≤ r
  anew_most k r h = rw (rest_is T 0) h

  pub anew_listed : (w : Walk) (R last : List ℕ) → Listed (anew T) top (anew m) w R last → Listed T top m w R last
  anew_listed w R last L = rw (rest_is T 0, rest_is m 0) at L

  pub anew_list : (w : Walk) (R last : List ℕ) → Listed (anew T) top (anew m) w R last → last ≡ listed (reading T top m (length R)) R
  anew_list w R last L = (anew_listed w R last L).list

  pub unasked : Lent T top (length m) false (replicate 256 10)
  unasked = record {
    known = λ e. absurd (no_ready e);
    given = λ e. absurd (no_ready e);
    blank = λ e. refl;
  }

  pub lent_ready : checks T top 1 (length m) ≡ Ready → (s : List ℕ) → s ≡ shapes_of T → Lent T top (length m) true s
  lent_ready h s e = record {
    known = λ q. h;
    given = λ q. e;
    blank = λ q. absurd (no_ready (sym q));
  }

  pub told_walked : (w : Walk) (out last : List ℕ) → Walked T top m w out last → (b : ℕ) (r : Reading) → r ≡ told_of (b / 12) w → r ≡ reading_of (reading T top m b)
  told_walked w out last W b r er = er ∙ ap (told_of (b / 12)) W.says ∙ told_rules T top m b W.bytes

  pub told_listed : (w : Walk) (R last : List ℕ) → Listed T top m w R last → (k : ℕ) → k ≡ length R / 12 → (r : Reading) → r ≡ told_of k w → r ≡ reading_of (reading T top m (length R))
  told_listed w R last L k ek r er = er ∙ ap₂ told_of ek L.says ∙ told_rules T top m (length R) L.bytes

-- ---- the checks before the message

module _ (T : List ℕ) (top l : ℕ) (b : Bool) (s : List ℕ) (L : Lent T top l b s) where
  pub ready_known : b ≡ true → Ready ≡ checks T top 1 l
  ready_known e = sym (L.known e)

  pub ready_shapes : b ≡ true → checks T top 1 l ≡ Ready → s ≡ shapes_of T
  ready_shapes e h = L.given e

  pub blank_lent : b ≡ false → s ≡ replicate 256 10
  blank_lent e = L.blank e

pub found_ready : (T : List ℕ) (top l : ℕ) (p : Prepared) → p ≡ checks T top 1 l → p ≡ Ready → checks T top 1 l ≡ Ready
found_ready T top l p ep e = sym ep ∙ e

module _ (T : List ℕ) (top : ℕ) (m : List ℕ) (y : Bytes m) (p : Prepared) (ep : p ≡ checks T top 1 (length m)) where
  pub stop_walked : (c q : ℕ) → p ≡ Stopped c q → (out : List ℕ) → Walked T top m (Stop c q) out out
  unfolding body_walk
  stop_walked c q e out =
      let none : rules T top m ≡ bad c q = reading_refused T top m (length m) refl p ep c q e in
      record {
        says = sym (ap (body_walk T top) none);
        bytes = y;
        kept = refl;
        lays = λ rd n h. absurd (ok≢bad h none);
      }

  pub body_walked : p ≡ Ready → (out last : List ℕ) (w : Walk) → w ≡ body_walk T top (body T top m) → length last ≡ length out
      → ((rd : Read) (n : ℕ) → body T top m ≡ ok rd n → last ≡ fill 0 (rows T top rd.format rd.pieces) out) → Walked T top m w out last
  body_walked e out last w says kept lays =
      let same : rules T top m ≡ body T top m = reading_ready T top m (length m) refl p ep e in
      record {
        says = says ∙ sym (ap (body_walk T top) same);
        bytes = y;
        kept = kept;
        lays = λ rd n h. lays rd n (sym same ∙ h);
      }

-- ---- the lent list

-- where it holds the rows, and where it does not
listed_fits : (k : ℕ) (a : Answer) (R : List ℕ) → length a.rows ≤ k → listed (within k a) R ≡ concat row_bytes a.rows ++ drop (12 * length a.rows) R
unfolding listed within
listed_fits k a R h = rw (le-leb (length a.rows) k h)

listed_short : (k : ℕ) (a : Answer) (R : List ℕ) → k < length a.rows → listed (within k a) R ≡ R
unfolding listed within refused concat
listed_short k a R h = rw (lt-leb (length a.rows) k h)

rows_told : (T : List ℕ) (top : ℕ) (r : Res Read) → row_count (body_walk T top r) ≡ length (answer T top r).rows
unfolding row_count body_walk read_done answer accepted refused
rows_told T top (ok rd n) = refl
rows_told T top (bad c p) = refl

-- rows put into a list that holds them
pub rows_put : (rs : List Row) (out : List ℕ) → 12 * length rs ≤ length out → fill 0 rs out ≡ concat row_bytes rs ++ drop (12 * length rs) out
rows_put rs out h =
    let z : 12 * (0 + length rs) ≡ 12 * length rs = omega arith in
    fill_listed rs 0 out (omega arith) ∙ ap (λ (i : ℕ). concat row_bytes rs ++ drop i out) z

-- an accepted message has at most as many rows as the table has members, which are at most 1,024; a refused one none
module _ (T : List ℕ) (top : ℕ) (m : List ℕ) (y : Bytes m) where
  owned_most : (length (answer T top (rules T top m)).rows ≤ members T) × (length (answer T top (rules T top m)).rows ≤ 1024)
  unfolding answer accepted refused
  owned_most = go (rules T top m) refl
    where
      go : (r : Res Read) → rules T top m ≡ r → (length (answer T top r).rows ≤ members T) × (length (answer T top r).rows ≤ 1024)
      go (ok rd n) e = let z = accepted_small T top m rd.format rd.pieces n y e in (z.owned, z.count)
      go (bad c p) e = (omega arith, omega arith)

put_answer : (T : List ℕ) (top : ℕ) (m out last : List ℕ) (w : Walk) → Walked T top m w out last → 0 < length (answer T top (rules T top m)).rows
    → last ≡ fill 0 (answer T top (rules T top m)).rows out
unfolding answer accepted refused
put_answer T top m out last w W h = go (rules T top m) refl h
  where
    go : (r : Res Read) → rules T top m ≡ r → 0 < length (answer T top r).rows → last ≡ fill 0 (answer T top r).rows out
    go (ok rd n) e h = W.lays rd n e
    go (bad c p) e h = absurd (omega arith)

module _ (T : List ℕ) (top : ℕ) (m own last R : List ℕ) (w : Walk) (W : Walked T top m w own last) where
  count : row_count w ≡ length (answer T top (rules T top m)).rows
  count = ap row_count W.says ∙ rows_told T top (rules T top m)

  -- rows that do not fit leave the list as it is
  copied_short : length R / 12 < row_count w → R ≡ listed (reading T top m (length R)) R
  unfolding reading room
  copied_short h = sym (listed_short (length R / 12) (answer T top (rules T top m)) R (omega (arith, count)))

  copied_fits : row_count w ≤ length R / 12 → 12 * row_count w ≤ length own → put 0 (take (12 * row_count w) last) R ≡ listed (reading T top m (length R)) R
  unfolding reading room concat
  copied_fits h l =
      ap (λ (i : ℕ). put 0 (take (12 * i) last) R) count
      ∙ go (answer T top (rules T top m)).rows (omega (arith, count)) (λ p. put_answer T top m own last w W p)
      ∙ sym (listed_fits (length R / 12) (answer T top (rules T top m)) R (omega (arith, count)))
    where
      go : (rs : List Row) → (12 * length rs ≤ length own) × (length rs ≤ length R / 12) → (0 < length rs → last ≡ fill 0 rs own)
          → put 0 (take (12 * length rs) last) R ≡ concat row_bytes rs ++ drop (12 * length rs) R
      go [] b F = put_none 0 R
      go (r ∷ rs) b F =
          let all : List ℕ = concat row_bytes (r ∷ rs) in
          let len : length all ≡ 12 * length (r ∷ rs) = length_rows (r ∷ rs) in
          let e : last ≡ all ++ drop (12 * length (r ∷ rs)) own = F (omega arith) ∙ rows_put (r ∷ rs) own b.0 in
          ap (λ (z : List ℕ). put 0 z R) (ap (take (12 * length (r ∷ rs))) e ∙ take_at all (drop (12 * length (r ∷ rs)) own) (12 * length (r ∷ rs)) len)
          ∙ put_front all R (omega arith) ∙ ap (λ (i : ℕ). all ++ drop i R) len

  list_own : (row_count w ≤ length R / 12 → 12 * row_count w ≤ length own) → (v : Walk) → v ≡ w → (x : List ℕ) → x ≡ with_rows w last R → Listed T top m v R x
  unfolding with_rows
  list_own l v ev x ex = record { says = ev ∙ W.says; bytes = W.bytes; list = ex ∙ go (leb (row_count w) (length R / 12)) refl }
    where
      go : (b : Bool) → leb (row_count w) (length R / 12) ≡ b → pick b (put 0 (take (12 * row_count w) last) R) R ≡ listed (reading T top m (length R)) R
      go true e = copied_fits (leb-true (row_count w) (length R / 12) e) (l (leb-true (row_count w) (length R / 12) e))
      go false e = copied_short (leb-false (row_count w) (length R / 12) e)

  own_most : (row_count w ≤ members T) × (row_count w ≤ 1024)
  own_most = let z = owned_most T top m W.bytes in omega (arith, count, z)

  pub list_few : min (length R / 12) (members T) ≤ 5 → length own ≡ 60 → (v : Walk) → v ≡ w → (x : List ℕ) → x ≡ with_rows w last R → Listed T top m v R x
  list_few f l = list_own (λ h. omega (arith, own_most))

  pub list_some : min (length R / 12) (members T) ≤ 21 → length own ≡ 252 → (v : Walk) → v ≡ w → (x : List ℕ) → x ≡ with_rows w last R → Listed T top m v R x
  list_some f l = list_own (λ h. omega (arith, own_most))

  pub list_more : min (length R / 12) (members T) ≤ 128 → length own ≡ 1536 → (v : Walk) → v ≡ w → (x : List ℕ) → x ≡ with_rows w last R → Listed T top m v R x
  list_more f l = list_own (λ h. omega (arith, own_most))

  pub list_many : min (length R / 12) (members T) ≤ 512 → length own ≡ 6144 → (v : Walk) → v ≡ w → (x : List ℕ) → x ≡ with_rows w last R → Listed T top m v R x
  list_many f l = list_own (λ h. omega (arith, own_most))

  pub list_all : length own ≡ 12288 → (v : Walk) → v ≡ w → (x : List ℕ) → x ≡ with_rows w last R → Listed T top m v R x
  list_all l = list_own (λ h. omega (arith, own_most))
