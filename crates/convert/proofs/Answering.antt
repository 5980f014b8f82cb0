-- The answer made of a plan is the converter's, and what is put is its message. Assumes nothing.
--
--   walk_narrow                          what a plan asks of a walk
--   Agrees, plan_agrees                  what a plan says of the converter
--   stopped_answer, stopped_output       a refusal
--   fits_answer, output_fits             a message
--   fits_count, fits_type, fits_start, fits_length   what the code asks before it puts the message
use mathlib.Core.Path.{◌≡◌, refl, sym, ap, ap₂, ◌∙◌, subst}
use mathlib.Core.Bool.{Bool, true, false, ◌&&◌}
use mathlib.Core.List.{List, ◌∷◌, ◌++◌, map}
use Prim.Native.Nat.{ℕ, ◌+◌, ◌*◌, ◌≤◌, ◌<◌, min}
use native.Mathlib.Nat.{sub-zero}
use native.Mathlib.Omega.{arith}
use lib.ListN.{length, drop}
use lib.Dec.{eqb, leb}
use borrow.Author.Tests.{leb-true, le-leb, eq-eqb, ne_eqb}
use Rattle.encoding.specs.Result.{Res, ok, bad, pick, concat}
use Rattle.encoding.proofs.ResultLaws.{both_true}
use Rattle.encoding.specs.Number.{Bytes}
use Rattle.encoding.specs.Table.{members, range, kind, chain}
use Rattle.encoding.specs.Slice.{compact, sliced, format_number, first}
use Rattle.encoding.specs.Message.{v10, v11, slices_bytes, Pieces, list, exception, class, Read, encode, encapsulate, rules, limit, Row, rows, row_bytes, first_known, optionals_skipped, slices_skipped}
use Rattle.encoding.proofs.MessageLaws.{length_encapsulate}
use Rattle.encoding.specs.Conform.{Conform}
use Rattle.encoding.specs.Write.{out, stop, bounded, row_at, output, writing_of}
use Rattle.encoding.specs.declared.Writing.TheVariants.{Written, Rejected}
use Rattle.slices.specs.Walks.{body_walk, read_done}
use Rattle.slices.specs.declared.Walk.{Walk}
use Rattle.laws.specs.Demands.{read_as}
use Rattle.laws.proofs.MessageExact.{exact_message}
use Rattle.laws.proofs.Refusals.{refusal_numbered, rules_refused}
use Rattle.laws.proofs.Small.{accepted_small}
use Rattle.laws.proofs.WriteSmall.{Narrow as Brief, writing_narrow}
use Rattle.laws.proofs.RowsBack.{rows_back, accepted_rows_small}
use Rattle.reading.specs.Told.{Walked, low}
use Rattle.reading.proofs.Telling.{rows_put}
use Rattle.wire.specs.Put.{put}
use Rattle.wire.specs.PutLaws.{put_front}
use Rattle.convert.specs.declared.Plan.{Plan}
use Rattle.convert.specs.declared.Plan.TheVariants.{Fits, Stopped}
use Rattle.convert.specs.Convert.{converting}
use Rattle.convert.specs.Demands.{Convertible}
use Rattle.convert.specs.Reslice.{growth, resliced}
use Rattle.convert.proofs.ConvertLaws.{Answers, is_refused, is_other, is_skipping, is_convertible, answers, convert_is, convert_written, needed_is, resliced_is}
use Rattle.convert.specs.Plans.{rows_from, Narrow, fitting, plan_of}

-- ---- what a walk says

module _ (T : List ℕ) (top : ℕ) (m : List ℕ) (yM : Bytes m) where
  rules_narrow : Narrow (length m) (body_walk T top (rules T top m))
  unfolding Narrow body_walk read_done
  rules_narrow = go (rules T top m) refl
    where
      go : (r : Res Read) → rules T top m ≡ r → Narrow (length m) (body_walk T top r)
      go (ok r n) e =
          let S = accepted_small T top m r.format r.pieces n yM e in
          let E = ((exact_message T top m r.format r.pieces n yM).0 e).0 in
          (omega (arith, S.first), E.short)
      go (bad c p) e = tt

  -- what a plan says of the converter, given some room
  pub data Agrees (room : ℕ) : Plan → Type 0 where
    stopped : {c q : ℕ} → converting T top m room ≡ stop c q → c < 4294967296 → q < 4294967296 → Agrees room (Stopped c q)
    fits : {t n k : ℕ} (p : Pieces) → Convertible T top m p → t ≡ first_known T top p → n ≡ length (rows T top (v11 compact) p) → k ≡ length m + growth T (chain T (first_known T top p))
        → k ≤ limit → k ≤ room → Agrees room (Fits t n k)

  module _ (room : ℕ) (p : Pieces) (C : Convertible T top m p) where
    -- the message
    abbrev made : List ℕ
    made = encapsulate (v11 sliced) (encode (v11 sliced) p)

    long : length made ≡ length m + growth T (chain T (first_known T top p))
    long = needed_is T top m p C.taken yM C.accepted

    needed_small : (k : ℕ) → converting T top m room ≡ stop 22 k → k < 4294967296
    needed_small k e =
        let rs : List Row = rows T top (v11 compact) p in
        let few = (accepted_small T top m (v11 compact) p C.taken yM C.accepted).count in
        (subst Brief (sym (convert_written T top m room p yM C) ∙ e) (writing_narrow T (first_known T top p) 1 (length rs) (concat row_bytes rs) m room (omega arith))).1

    fitting_agrees : Agrees room (fitting room (first_known T top p) (length (rows T top (v11 compact) p)) (length m + growth T (chain T (first_known T top p))))
    unfolding fitting bounded
    fitting_agrees =
        go (leb (length m + growth T (chain T (first_known T top p))) limit && leb (length m + growth T (chain T (first_known T top p))) room) refl
      where
        k : ℕ
        k = length m + growth T (chain T (first_known T top p))

        go : (b : Bool) → leb k limit && leb k room ≡ b → Agrees room (pick b (Fits (first_known T top p) (length (rows T top (v11 compact) p)) k) (Stopped 22 k))
        go true e = let x = both_true (leb k limit) (leb k room) e in fits p C refl refl refl (leb-true k limit x.0) (leb-true k room x.1)
        go false e = let w : converting T top m room ≡ stop 22 k = convert_is T top m p C room ∙ rw (long, e) in stopped w (omega arith) (needed_small k w)

  pub plan_agrees : (room : ℕ) → Agrees room (plan_of T (length m) room (body_walk T top (rules T top m)))
  unfolding plan_of body_walk read_done
  plan_agrees room = go (answers T top m room)
    where
      go : Answers T top m room → Agrees room (plan_of T (length m) room (body_walk T top (rules T top m)))
      go (is_refused {n} {i} e s) =
          let N = refusal_numbered (rules_refused T top m e) in
          rw e (stopped s (omega (arith, N.known_number)) (omega (arith, N.small_place)))
      go (is_other {e = v10} h z s) = rw h (stopped s (omega arith) (omega arith))
      go (is_other {e = v11 sliced} h z s) = rw h (stopped s (omega arith) (omega arith))
      go (is_other {e = v11 compact} h z s) = absurd (z refl)
      go (is_skipping {p} {n} e z s) = rw (e, ne_eqb (optionals_skipped p + slices_skipped p) 0 (λ h. z (record { optionals = omega arith; slices = omega arith }))) (stopped s (omega arith) (omega arith))
      go (is_convertible {p} C) =
          let z : optionals_skipped p + slices_skipped p ≡ 0 = omega (arith, C.complete.optionals, C.complete.slices) in
          rw (C.accepted, eq-eqb (optionals_skipped p + slices_skipped p) 0 z) (fitting_agrees room p C)

-- ---- the answer

-- a number below 2^32 is its low 32 bits
low_small : (x : ℕ) → x < 4294967296 → low x ≡ x
low_small x h = omega arith

module _ (T : List ℕ) (top : ℕ) (m : List ℕ) (w : Walk) (lent after : List ℕ) (W : Walked T top m w lent after) where
  pub walk_narrow : Narrow (length m) w
  walk_narrow = subst (Narrow (length m)) (sym W.says) (rules_narrow T top m W.bytes)

  module _ (room : ℕ) (p : Plan) (e : p ≡ plan_of T (length m) room w) where
    agrees : Agrees T top m W.bytes room p
    agrees = subst (Agrees T top m W.bytes room) (sym (e ∙ ap (plan_of T (length m) room) W.says)) (plan_agrees T top m W.bytes room)

    module _ (c q : ℕ) (h : p ≡ Stopped c q) where
      refusal : (converting T top m room ≡ stop c q) × (c < 4294967296) × (q < 4294967296)
      refusal = go (rw h at agrees)
        where
          go : Agrees T top m W.bytes room (Stopped c q) → (converting T top m room ≡ stop c q) × (c < 4294967296) × (q < 4294967296)
          go (stopped s a b) = (s, a, b)

      pub stopped_answer : (i j : ℕ) → i ≡ low c → j ≡ low q → Rejected i j ≡ writing_of (converting T top m room)
      unfolding writing_of
      stopped_answer i j ei ej =
          let R = refusal in
          rw (R.0, ei, ej, low_small c R.1, low_small q R.2)

      pub stopped_output : (out₀ : List ℕ) → out₀ ≡ output (converting T top m room) out₀
      unfolding output
      stopped_output out₀ = rw refusal.0

    module _ (t n k : ℕ) (h : p ≡ Fits t n k) where
      record Whole : Type 0 where
        pieces : Pieces
        convertible : Convertible T top m pieces
        of_type : t ≡ first_known T top pieces
        count : n ≡ length (rows T top (v11 compact) pieces)
        needed : k ≡ length m + growth T (chain T (first_known T top pieces))
        short : k ≤ limit
        fits : k ≤ room

      whole : Whole
      whole = go (rw h at agrees)
        where
          go : Agrees T top m W.bytes room (Fits t n k) → Whole
          go (fits p C a b c d f) = record { pieces = p; convertible = C; of_type = a; count = b; needed = c; short = d; fits = f }

      whole_long : (H : Whole) → length (encapsulate (v11 sliced) (encode (v11 sliced) H.pieces)) ≡ k
      whole_long H = needed_is T top m H.pieces H.convertible.taken W.bytes H.convertible.accepted ∙ sym H.needed

      gives : (H : Whole) → converting T top m room ≡ out (encapsulate (v11 sliced) (encode (v11 sliced) H.pieces))
      unfolding bounded
      gives H = convert_is T top m H.pieces H.convertible room ∙ rw (whole_long H, le-leb k limit H.short, le-leb k room H.fits)

      pub fits_answer : (i : ℕ) → i ≡ low k → Written i ≡ writing_of (converting T top m room)
      unfolding writing_of
      fits_answer i ei = let H = whole in rw (gives H, ei, low_small k (omega (arith, H.short)), whole_long H)

      pub fits_count : n ≤ 1024
      fits_count = let H = whole in omega (arith, H.count, (accepted_small T top m (v11 compact) H.pieces H.convertible.taken W.bytes H.convertible.accepted).count)

      pub fits_type : t < 65536
      fits_type = let H = whole in omega (arith, H.of_type, (accepted_small T top m (v11 compact) H.pieces H.convertible.taken W.bytes H.convertible.accepted).first)

      pub fits_length : length m ≤ 65536
      fits_length = let H = whole in ((exact_message T top m (v11 compact) H.pieces H.convertible.taken W.bytes).0 H.convertible.accepted).0.short

      pub fits_start : (at : ℕ) → at ≡ 6 + pick (eqb (kind T top) 14) 1 0 → at ≤ length m
      unfolding encode
      fits_start at ea = let H = whole in let F = ((exact_message T top m (v11 compact) H.pieces H.convertible.taken W.bytes).0 H.convertible.accepted).0 in go H.pieces F.conforms (ap length F.encoded)
        where
          go : (p : Pieces) → Conform T top (v11 compact) p → length m ≡ length (encapsulate (v11 compact) (encode (v11 compact) p)) → at ≤ length m
          go (list ps) (a, b, L) e = absurd (let q : format_number compact ≡ format_number sliced = ap format_number b in omega arith)
          go (exception ss) (a, L) e = let q : at ≡ 6 = ea ∙ rw a in omega (arith, length_encapsulate (v11 compact) (slices_bytes (v11 compact) first ss))
          go (class ss) (a, L) e = let q : at ≡ 7 = ea ∙ rw a in omega (arith, length_encapsulate (v11 compact) (1 ∷ slices_bytes (v11 compact) first ss))

      -- the rows of the walk's list are the record's
      rows_there : (H : Whole) → 12 * min (members T) 1024 ≤ length lent → rows_from after 0 n ≡ rows T top (v11 compact) H.pieces
      rows_there H hold =
          let C = H.convertible in
          let rs : List Row = rows T top (v11 compact) H.pieces in
          let S = accepted_rows_small T top m (v11 compact) H.pieces C.taken W.bytes C.accepted in
          let few = accepted_small T top m (v11 compact) H.pieces C.taken W.bytes C.accepted in
          let f : after ≡ concat row_bytes rs ++ drop (12 * length rs) lent = W.lays (read_as (v11 compact) H.pieces) C.taken C.accepted ∙ rows_put rs lent (omega (arith, few.count, few.owned)) in
          ap (λ (i : ℕ). map (row_at after) (range 0 i)) (sub-zero n ∙ H.count) ∙ rows_back S after (drop (12 * length rs) lent) f

      fits_output : 12 * min (members T) 1024 ≤ length lent → (at : ℕ) → at ≡ 6 + pick (eqb (kind T top) 14) 1 0 → (out₀ last : List ℕ) → room ≡ length out₀
          → (length (resliced T m t at k (rows_from after 0 n)) ≤ length out₀ → last ≡ put 0 (resliced T m t at k (rows_from after 0 n)) out₀)
          → last ≡ output (converting T top m room) out₀
      unfolding output
      fits_output hold at ea out₀ last er lays =
          let H = whole in
          let C = H.convertible in
          let M : List ℕ = encapsulate (v11 sliced) (encode (v11 sliced) H.pieces) in
          let r : resliced T m t at k (rows_from after 0 n) ≡ M =
          ap₂ (λ (x y : ℕ). resliced T m x y k (rows_from after 0 n)) H.of_type ea
          ∙ ap₂ (λ (x : ℕ) (l : List Row). resliced T m (first_known T top H.pieces) (6 + pick (eqb (kind T top) 14) 1 0) x l) H.needed (rows_there H hold)
          ∙ sym (resliced_is T top m H.pieces C.taken W.bytes C.accepted C.complete) in
          let fit : length M ≤ length out₀ = omega (arith, whole_long H, H.fits) in
          lays (omega (arith, ap length r)) ∙ ap (λ (b : List ℕ). put 0 b out₀) r ∙ put_front M out₀ fit ∙ sym (rw (gives H))

  -- the same where the output is lent
  module _ (lent_out : List ℕ) (p : Plan) (e : p ≡ plan_of T (length m) (length lent_out) w) (t n k : ℕ) (h : p ≡ Fits t n k) where
    pub output_fits : 12 * min (members T) 1024 ≤ length lent → (at : ℕ) → at ≡ 6 + pick (eqb (kind T top) 14) 1 0 → (last : List ℕ)
        → (length (resliced T m t at k (rows_from after 0 n)) ≤ length lent_out → last ≡ put 0 (resliced T m t at k (rows_from after 0 n)) lent_out)
        → last ≡ output (converting T top m (length lent_out)) lent_out
    output_fits hold at ea last lays = fits_output (length lent_out) p e t n k h hold at ea lent_out last refl lays
