-- The converter gives what the writer makes of the record's own rows, since these make its pieces; that is read back.
--
--   Compact, compact_first      the slices of a compact record are known, from the first known type on
--   convert_is                  what is converted: the sliced encoding of the pieces, if it fits
--   needed_is                   how long that is
--   resliced_is                 it is what the code puts
--   converted, convert_written, convert_refuses, convert_numbers, convert_filled   the promises
use Rattle.std.specs.Prelude.{◌≡◌, Bool, true, false, ◌&&◌, drop, leb, ltb, eqb}
use Rattle.std.proofs.Math.Path.{refl, sym, ap, ap₂, subst}
use Rattle.std.proofs.Common.{◌∙◌, subst₂, length-append, length-drop, drop_at, ltb-true, ltb-false, lt-ltb}
use mathlib.Core.List.{List, [], ◌∷◌, ◌++◌, append_assoc, append-nil}
use Prim.Native.Nat.{ℕ, zero, suc, ◌+◌, ◌-◌, ◌≤◌}
use native.Mathlib.Omega.{arith}
use Rattle.std.proofs.Math.ListN.{length, take}
use Rattle.std.proofs.Math.Seq.{take_at}
use Rattle.encoding.specs.Result.{Res, ok, bad, pick, concat, first_of}
use Rattle.encoding.specs.Number.{Bytes, le_bytes, string_bytes}
use Rattle.encoding.proofs.NumberLaws.{length_le_bytes}
use Rattle.encoding.specs.Table.{name_of, chain, kind, fine, faults}
use Rattle.encoding.proofs.RuleLaws.{named_ok}
use Rattle.encoding.specs.Slice.{compact, sliced, format_number, first, due, Slice, known, passed, id_of}
use Rattle.encoding.specs.Message.{Encoding, v10, v11, encoding_number, slices_bytes, Pieces, list, exception, class, Read, encode, encapsulate, no_top, rules, limit, Row, slice_rows, rows, row_bytes, first_in, first_known, or_zero, optionals_skipped, slices_skipped, skipped_in}
use Rattle.encoding.proofs.MessageLaws.{length_encapsulate}
use Rattle.encoding.specs.Write.{Out, out, stop, next, stopped_first, bounded, writing, output, writing_of, writing_numbers}
use Rattle.encoding.specs.Conform.{Conform, Slices, Follow}
use Rattle.laws.specs.Demands.{read_as, Follows, Complete, SameMembers, UnderTop, row_list, from_above}
use Rattle.laws.proofs.TableExact.{sound}
use Rattle.laws.proofs.MessageExact.{exact_message}
use Rattle.laws.proofs.RowsBack.{rows_back, accepted_rows_small}
use Rattle.laws.proofs.RowsExact.{Stands, stands_next, stands_encapsulated}
use Rattle.laws.proofs.PlanLaws.{out≢stop}
use Rattle.laws.proofs.PlanRules.{record_there, chain_falls, chain_owners}
use Rattle.laws.proofs.Refusals.{rules_refused, refusal_numbered}
use Rattle.laws.proofs.MessageWritten.{message_step, writing_ok}
use Rattle.laws.proofs.WriteAgain.{message_again}
use Rattle.laws.proofs.WriteBack.{read_back}
use Rattle.laws.proofs.WriterAnswers.{encoding_one}
use Rattle.convert.specs.Convert.{not_compact, not_convertible, slice_out, converting}
use Rattle.convert.specs.Reslice.{growth, reslices, resliced}
use Rattle.convert.proofs.ResliceLaws.{Before, follow_resliced, first_growth}
use Rattle.convert.specs.Demands.{Convertible, ConvertedTo, Converted, ConvertWritten, ConvertRefusal, by_reader, not_compact_lem, skips, no_room, ConvertRefuses, ConvertNumbers, ConvertFilled}

-- ---- a compact record

compact≢sliced : compact ≡ sliced → ⊥
compact≢sliced e = let q : format_number compact ≡ format_number sliced = ap format_number e in omega arith

-- its slices: of the first known type and its bases
pub record Compact (T : List ℕ) (top : ℕ) (ss : List Slice) : Type 0 where
  pub row : ℕ
  pub is_first : first_in T ss ≡ row
  pub there : no_top T row ≡ false
  pub below : UnderTop T top row
  pub follow : Follow T (v11 compact) (chain T row) ss
  pub front : Before first (1 + length (string_bytes (name_of T row))) ss
  pub longer : length (slices_bytes (v11 sliced) first ss) ≡ length (slices_bytes (v11 compact) first ss) + growth T (chain T row)

compact_first : (T : List ℕ) (top : ℕ) (ss : List Slice) → Slices T top (v11 compact) ss → Compact T top ss
unfolding first_in or_zero due id_of
compact_first T top [] C = absurd C
compact_first T top (known o ps ∷ ss) C =
    let N = named_ok T o C.row C.known in
    record {
      row = C.row;
      is_first = ap or_zero C.known;
      there = record_there T C.row N.0 N.1;
      below = C.descends;
      follow = C.follow;
      front = ap (λ (x : List ℕ). 1 + length (string_bytes x)) (sym N.2);
      longer = first_growth T (chain T C.row) (known o ps) ss C.follow;
    }
compact_first T top (passed b nm d ∷ ss) (P, C) = absurd (compact≢sliced P.format)

-- ---- what is converted

complete_passes : (p : Pieces) → Complete p → not_convertible (read_as (v11 compact) p) ≡ 0
unfolding not_convertible not_compact first_of
complete_passes p Z = rw (Z.optionals, Z.slices)

module _ (T : List ℕ) (top : ℕ) (m : List ℕ) (p : Pieces) (C : Convertible T top m p) where
  pub convert_is : (room : ℕ) → converting T top m room ≡ bounded room (encapsulate (v11 sliced) (encode (v11 sliced) p))
  unfolding converting slice_out stopped_first next
  convert_is room = rw (C.accepted, complete_passes p C.complete)

pub convert_written : ConvertWritten
unfolding writing next
convert_written T top m room p yM C =
    convert_is T top m p C room
    ∙ sym (rw (message_step T (first_known T top p) 1 (length (rows T top (v11 compact) p)) (concat row_bytes (rows T top (v11 compact) p)) m (message_again T top m compact p C.taken yM C.accepted C.complete)))

-- ---- the message

module _ (T : List ℕ) (top : ℕ) (m : List ℕ) (p : Pieces) (n : ℕ) (yM : Bytes m) (h : rules T top m ≡ ok (read_as (v11 compact) p) n) where
  follows : Follows T top m (v11 compact) p
  follows = ((exact_message T top m (v11 compact) p n yM).0 h).0

  right : faults T ≡ fine
  right = sound T follows.table

  pub under_top : UnderTop T top (first_known T top p)
  unfolding first_known
  under_top = go p follows.conforms
    where
      go : (p : Pieces) → Conform T top (v11 compact) p → UnderTop T top (first_known T top p)
      go (list ps) (k, g, L) = absurd (compact≢sliced g)
      go (exception ss) (k, C) = let K = compact_first T top ss C in subst (UnderTop T top) (sym K.is_first) K.below
      go (class ss) (k, C) = let K = compact_first T top ss C in subst (UnderTop T top) (sym K.is_first) K.below

  -- how long it is
  pub needed_is : length (encapsulate (v11 sliced) (encode (v11 sliced) p)) ≡ length m + growth T (chain T (first_known T top p))
  unfolding first_known encode
  needed_is = go p follows.conforms (ap length follows.encoded)
    where
      go : (p : Pieces) → Conform T top (v11 compact) p → length m ≡ length (encapsulate (v11 compact) (encode (v11 compact) p)) → length (encapsulate (v11 sliced) (encode (v11 sliced) p)) ≡ length m + growth T (chain T (first_known T top p))
      go (list ps) (k, g, L) e = absurd (compact≢sliced g)
      go (exception ss) (k, C) e =
          let K = compact_first T top ss C in
          omega (arith, length_encapsulate (v11 sliced) (slices_bytes (v11 sliced) first ss), length_encapsulate (v11 compact) (slices_bytes (v11 compact) first ss), K.longer, ap (λ (t : ℕ). growth T (chain T t)) K.is_first)
      go (class ss) (k, C) e =
          let K = compact_first T top ss C in
          omega (arith, length_encapsulate (v11 sliced) (1 ∷ slices_bytes (v11 sliced) first ss), length_encapsulate (v11 compact) (1 ∷ slices_bytes (v11 compact) first ss), K.longer, ap (λ (t : ℕ). growth T (chain T t)) K.is_first)

-- what follows the size of an encapsulation
after_size : (b : List ℕ) → drop 4 (encapsulate (v11 compact) b) ≡ 1 ∷ 1 ∷ b
unfolding encapsulate
after_size b = drop_at (le_bytes 4 (6 + length b)) (1 ∷ 1 ∷ b) 4 (length_le_bytes 4 (6 + length b))

module _ (T : List ℕ) (top : ℕ) (m : List ℕ) (p : Pieces) (n : ℕ) (yM : Bytes m) (h : rules T top m ≡ ok (read_as (v11 compact) p) n) (Z : Complete p) where
  -- the slices of a record that begin at a place of the message
  slices_resliced : (ss : List Slice) (K : Compact T top ss) (at : ℕ) → skipped_in ss ≡ 0 → Stands m at (slices_bytes (v11 compact) first ss)
      → reslices T m at (1 + length (string_bytes (name_of T K.row))) (chain T K.row) (slice_rows T (v11 compact) first at (chain T K.row) ss) ≡ slices_bytes (v11 sliced) first ss
  unfolding due
  slices_resliced ss K at z S =
      follow_resliced T m (right T top m p n yM h) (chain T K.row) ss (chain_owners T (right T top m p n yM h) K.row K.there) (chain_falls T (right T top m p n yM h) K.row K.there) K.follow z first first refl at _ S K.front

  -- size and version come before the sliced form of the slices, and the marker of a class
  whole_resliced : (mark : List ℕ) (ss : List Slice) (K : Compact T top ss) (at : ℕ) → m ≡ encapsulate (v11 compact) (mark ++ slices_bytes (v11 compact) first ss) → at ≡ 6 + length mark → skipped_in ss ≡ 0
      → length (encapsulate (v11 sliced) (mark ++ slices_bytes (v11 sliced) first ss)) ≡ length m + growth T (chain T K.row)
      → encapsulate (v11 sliced) (mark ++ slices_bytes (v11 sliced) first ss) ≡ resliced T m K.row at (length m + growth T (chain T K.row)) (slice_rows T (v11 compact) first at (chain T K.row) ss)
  unfolding resliced encapsulate
  whole_resliced mark ss K at e a z l =
      let X : List ℕ = slices_bytes (v11 sliced) first ss in
      let size : 6 + length (mark ++ X) ≡ length m + growth T (chain T K.row) = omega (arith, length_encapsulate (v11 sliced) (mark ++ X)) in
      let S : Stands m at (slices_bytes (v11 compact) first ss) =
      subst (λ (w : List ℕ). Stands w at (slices_bytes (v11 compact) first ss)) (sym e) (stands_next mark _ (stands_encapsulated (v11 compact) (mark ++ slices_bytes (v11 compact) first ss)) at a) in
      let k : at - 4 ≡ length (1 ∷ 1 ∷ mark) = omega arith in
      let head : take (at - 4) (drop 4 m) ≡ 1 ∷ 1 ∷ mark =
      ap (λ (w : List ℕ). take (at - 4) (drop 4 w)) e ∙ ap (take (at - 4)) (after_size (mark ++ slices_bytes (v11 compact) first ss)) ∙ take_at (1 ∷ 1 ∷ mark) (slices_bytes (v11 compact) first ss) (at - 4) (sym k) in
      sym (append_assoc (le_bytes 4 (6 + length (mark ++ X))) (1 ∷ 1 ∷ mark) X)
      ∙ ap₂ (λ (b c : List ℕ). b ++ c) (ap₂ (λ (n : ℕ) (b : List ℕ). le_bytes 4 n ++ b) size (sym head)) (sym (slices_resliced ss K at z S))

  pub resliced_is : encapsulate (v11 sliced) (encode (v11 sliced) p) ≡ resliced T m (first_known T top p) (6 + pick (eqb (kind T top) 14) 1 0) (length m + growth T (chain T (first_known T top p))) (rows T top (v11 compact) p)
  unfolding first_known encode rows optionals_skipped
  resliced_is = go p (follows T top m p n yM h).conforms (follows T top m p n yM h).encoded Z.optionals (needed_is T top m p n yM h)
    where
      go : (p : Pieces) → Conform T top (v11 compact) p → m ≡ encapsulate (v11 compact) (encode (v11 compact) p) → optionals_skipped p ≡ 0
          → length (encapsulate (v11 sliced) (encode (v11 sliced) p)) ≡ length m + growth T (chain T (first_known T top p))
          → encapsulate (v11 sliced) (encode (v11 sliced) p) ≡ resliced T m (first_known T top p) (6 + pick (eqb (kind T top) 14) 1 0) (length m + growth T (chain T (first_known T top p))) (rows T top (v11 compact) p)
      go (list ps) (k, g, L) e z l = absurd (compact≢sliced g)
      go (exception ss) (k, C) e z l =
          let K = compact_first T top ss C in
          whole_resliced [] ss K 6 e refl z (l ∙ ap (λ (t : ℕ). length m + growth T (chain T t)) K.is_first)
          ∙ ap₂ (λ (t s : ℕ). resliced T m t s (length m + growth T (chain T t)) (slice_rows T (v11 compact) first 6 (chain T t) ss)) (sym K.is_first) (rw k)
      go (class ss) (k, C) e z l =
          let K = compact_first T top ss C in
          whole_resliced (1 ∷ []) ss K 7 e refl z (l ∙ ap (λ (t : ℕ). length m + growth T (chain T t)) K.is_first)
          ∙ ap₂ (λ (t s : ℕ). resliced T m t s (length m + growth T (chain T t)) (slice_rows T (v11 compact) first 7 (chain T t) ss)) (sym K.is_first) (rw k)

-- ---- the answers

-- what the converter answers, by what the rules say
pub data Answers (T : List ℕ) (top : ℕ) (m : List ℕ) (room : ℕ) : Type 0 where
  is_refused : {n i : ℕ} → rules T top m ≡ bad n i → converting T top m room ≡ stop n i → Answers T top m room
  is_other : {e : Encoding} {p : Pieces} {n : ℕ} → rules T top m ≡ ok (read_as e p) n → (e ≡ v11 compact → ⊥) → converting T top m room ≡ stop 47 0 → Answers T top m room
  is_skipping : {p : Pieces} {n : ℕ} → rules T top m ≡ ok (read_as (v11 compact) p) n → (Complete p → ⊥) → converting T top m room ≡ stop 48 0 → Answers T top m room
  is_convertible : {p : Pieces} → Convertible T top m p → Answers T top m room

module _ (T : List ℕ) (top : ℕ) (m : List ℕ) (room : ℕ) where
  reader_stops : {n i : ℕ} → rules T top m ≡ bad n i → converting T top m room ≡ stop n i
  unfolding converting slice_out next
  reader_stops e = rw e

  other_stops : (f : Encoding) (p : Pieces) (n : ℕ) → rules T top m ≡ ok (read_as f p) n → (f ≡ v11 compact → ⊥) → converting T top m room ≡ stop 47 0
  unfolding converting slice_out next not_convertible not_compact first_of stopped_first
  other_stops v10 p n e z = rw e
  other_stops (v11 sliced) p n e z = rw e
  other_stops (v11 compact) p n e z = absurd (z refl)

  skipping_stops : {p : Pieces} {n : ℕ} → rules T top m ≡ ok (read_as (v11 compact) p) n → ltb 0 (optionals_skipped p + slices_skipped p) ≡ true → converting T top m room ≡ stop 48 0
  unfolding converting slice_out next not_convertible not_compact first_of stopped_first
  skipping_stops e t = rw (e, t)

  pub answers : Answers T top m room
  answers = go (rules T top m) refl
    where
      other : (f : Encoding) (p : Pieces) (n : ℕ) → rules T top m ≡ ok (read_as f p) n → (f ≡ v11 compact → ⊥) → Answers T top m room
      other f p n e z = is_other e z (other_stops f p n e z)

      form : (f : Encoding) (p : Pieces) (n : ℕ) → rules T top m ≡ ok (read_as f p) n → Answers T top m room
      form v10 p n e = other v10 p n e (λ q. omega (arith, ap encoding_number q))
      form (v11 sliced) p n e = other (v11 sliced) p n e (λ q. omega (arith, ap encoding_number q))
      form (v11 compact) p n e = skipped (ltb 0 (optionals_skipped p + slices_skipped p)) refl
        where
          skipped : (b : Bool) → ltb 0 (optionals_skipped p + slices_skipped p) ≡ b → Answers T top m room
          skipped true t = is_skipping e (λ Z. omega (arith, ltb-true 0 (optionals_skipped p + slices_skipped p) t, Z.optionals, Z.slices)) (skipping_stops e t)
          skipped false t =
              let l = ltb-false 0 (optionals_skipped p + slices_skipped p) t in
              is_convertible (record { taken = n; accepted = e; complete = record { optionals = omega arith; slices = omega arith } })

      go : (r : Res Read) → rules T top m ≡ r → Answers T top m room
      go (bad c i) e = is_refused e (reader_stops e)
      go (ok r n) e = form r.format r.pieces n e

-- only 22 comes of a message's length
bounded_stops : (room : ℕ) (b : List ℕ) (n i : ℕ) → bounded room b ≡ stop n i → n ≡ 22
unfolding bounded
bounded_stops room b n i h = go (leb (length b) limit && leb (length b) room) h
  where
    go : (q : Bool) → pick q (out b) (stop 22 (length b)) ≡ stop n i → n ≡ 22
    go true h = absurd (out≢stop refl h)
    go false h = cc

-- where not everything was listed, something was skipped
some_skipped : (p : Pieces) → (Complete p → ⊥) → ltb 0 (optionals_skipped p + slices_skipped p) ≡ true
some_skipped p z = go (optionals_skipped p) refl (slices_skipped p) refl
  where
    go : (a : ℕ) → optionals_skipped p ≡ a → (b : ℕ) → slices_skipped p ≡ b → ltb 0 (a + b) ≡ true
    go zero e zero f = absurd (z (record { optionals = e; slices = f }))
    go zero e (suc b) f = lt-ltb 0 (0 + suc b) (omega arith)
    go (suc a) e b f = lt-ltb 0 (suc a + b) (omega arith)

pub converted : Converted
converted T top m room o yM h = go (answers T top m room)
  where
    go : Answers T top m room → (p : Pieces) × Convertible T top m p × ConvertedTo T top m p o × (length o ≤ room)
    go (is_refused e s) = absurd (out≢stop h s)
    go (is_other e z s) = absurd (out≢stop h s)
    go (is_skipping e z s) = absurd (out≢stop h s)
    go (is_convertible {p} C) =
        let type : ℕ = first_known T top p in
        let rs : List Row = rows T top (v11 compact) p in
        let b : List ℕ = concat row_bytes rs in
        let W : writing T type 1 (length rs) b m room ≡ out o = sym (convert_written T top m room p yM C) ∙ h in
        let L = writing_ok T type 1 (length rs) b m room W in
        let R = read_back T top type 1 (length rs) b m room o W (from_above (under_top T top m p C.taken yM C.accepted) (λ e. absurd (omega arith))) in
        let s : R.read.format ≡ v11 sliced = encoding_one R.read.format (v11 sliced) R.in_format in
        let back : row_list (length rs) b ≡ rs = rows_back (accepted_rows_small T top m (v11 compact) p C.taken yM C.accepted) b [] (sym (append-nil b)) in (
          p,
          C,
          record {
            pieces = R.read.pieces;
            taken = R.taken;
            accepted = R.accepted ∙ ap (λ (f : Encoding). ok (read_as f R.read.pieces) R.taken) s;
            of_type = R.of_type;
            complete = R.complete;
            members = subst (λ (f : Encoding). SameMembers m o rs (rows T top f R.read.pieces)) s (subst (λ (l : List Row). SameMembers m o l (rows T top R.read.format R.read.pieces)) back R.members);
            short = L.short;
          },
          L.fits,
        )

pub convert_refuses : ConvertRefuses
unfolding output
convert_refuses T top m room n i yM = ((λ h. (refused h (answers T top m room), λ lent. ap (λ (w : Out (List ℕ)). output w lent) h)), stops)
  where
    same : {k j : ℕ} → converting T top m room ≡ stop k j → converting T top m room ≡ stop n i → ConvertRefusal T top m room k j → ConvertRefusal T top m room n i
    same {k} {j} s h R =
        let q : stop k j ≡ stop n i = sym s ∙ h in
        let a : k ≡ n = cc in
        let b : j ≡ i = cc in
        subst₂ (ConvertRefusal T top m room) a b R

    refused : converting T top m room ≡ stop n i → Answers T top m room → ConvertRefusal T top m room n i
    refused h (is_refused e s) = same s h (by_reader e)
    refused h (is_other e z s) = same s h (not_compact_lem e z)
    refused h (is_skipping e z s) = same s h (skips e z)
    refused h (is_convertible {p} C) =
        let k : n ≡ 22 = bounded_stops room (encapsulate (v11 sliced) (encode (v11 sliced) p)) n i (sym (convert_is T top m p C room) ∙ h) in
        let t : converting T top m room ≡ stop 22 i = h ∙ ap (λ (x : ℕ). stop x i) k in
        same t h (no_room C (sym (convert_written T top m room p yM C) ∙ t))

    stops : {k j : ℕ} → ConvertRefusal T top m room k j → converting T top m room ≡ stop k j
    stops (by_reader e) = reader_stops T top m room e
    stops (not_compact_lem {e = f} {p} {n} e z) = other_stops T top m room f p n e z
    stops (skips {p} e z) = skipping_stops T top m room e (some_skipped p z)
    stops (no_room {p} C w) = convert_written T top m room p yM C ∙ w

pub convert_numbers : ConvertNumbers
unfolding writing_numbers writing_of
convert_numbers T top m room yM = ((λ o h. ap (λ (w : Out (List ℕ)). writing_numbers (writing_of w)) h), λ n i h. (number n i h ((convert_refuses T top m room n i yM).0 h).0, ap (λ (w : Out (List ℕ)). writing_numbers (writing_of w)) h))
  where
    number : (n i : ℕ) → converting T top m room ≡ stop n i → ConvertRefusal T top m room n i → 1 ≤ n
    number n i h (by_reader e) = (refusal_numbered (rules_refused T top m e)).some_number
    number n i h (not_compact_lem e z) = omega arith
    number n i h (skips e z) = omega arith
    number n i h (no_room C w) = omega arith

pub convert_filled : ConvertFilled
unfolding output
convert_filled T top m lent o yM h =
    let F : length o ≤ length lent = (converted T top m (length lent) o yM h).3 in
    (take_at o (drop (length o) lent) (length o) refl, drop_at o (drop (length o) lent) (length o) refl, omega (arith, length-append o (drop (length o) lent), length-drop (length o) lent))
