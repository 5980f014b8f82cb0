-- Which answer the writer gives, for every input: its judgements one after another, each with what the laws of the rows say of it.
--
--   Ends, message_ends, ends_message   where no message is made: before the rows, for too few row bytes, or at a row
--   early_refused                      31 to 39, 2, 23 and 3
--   right_lists, wrong_bytes           20 and 21
--   encoding_one                       encodings of one number are one
--   message_one                        rows have one message
--   right_makes                        a right list has a message: what `message` makes
--   too_long_written, right_written    22, and what is written
use Rattle.std.specs.Prelude.{◌≡◌, Bool, ◌&&◌, ◌⊎◌, ℕ, ◌*◌, ◌≤◌, ◌<◌, length, eqb, leb, ltb}
use Rattle.std.proofs.Math.Path.{refl}
use Rattle.std.proofs.Common.{sym, ap, ◌∙◌, subst, subst₂, true≢false, inl, inr, ⊎_elim, arith}
use Rattle.std.proofs.Math.Bool.{true, false}
use mathlib.Core.List.{List}
use borrow.Author.Tests.{eqb-true, leb-true, leb-false, ltb-true, ltb-false, le-leb, lt-leb, lt-ltb, le-ltb}
use Rattle.encoding.specs.Result.{pick, first_of}
use Rattle.encoding.proofs.ResultLaws.{both_true}
use Rattle.encoding.specs.Table.{kind, Fault, fine, fault, faults, rule_number}
use Rattle.encoding.specs.Slice.{compact, sliced}
use Rattle.encoding.specs.Old.{no_old}
use Rattle.encoding.specs.Message.{Pieces, Encoding, v10, v11, encoding_number, Row, encode, encapsulate, no_top, limit, rows}
use Rattle.encoding.specs.Write.{Out, out, stop, next, Given, no_format, table_rules, early, stopped_first, rows_given, encoding_of, gathered, message, bounded, writing}
use Rattle.encoding.specs.Conform.{WithoutOptionals, Conform}
use Rattle.laws.specs.Demands.{read_as, SameMembers, no_members, same_member, row_list, Formed, Ready, Early, table_refused, type_refused, format_refused, optionals_refused, buffer_refused, EarlyRefused, Twenty, too_few, none_right, RightLists, TwentyOne, WrongBytes, Writable, MessageOf, RightMakes, TwentyTwo, TooLong, WrittenAs, RightWritten}
use Rattle.laws.proofs.TableFault.{table_fault, broken_class}
use Rattle.laws.proofs.PlanLaws.{out≢stop}
use Rattle.laws.proofs.PlanRules.{judging}
use Rattle.laws.proofs.OldLine.{bare_line, line_bare}
use Rattle.laws.proofs.MessageWritten.{formed_is, is_formed, bare_is, is_bare, Composed, message_ok, message_step, writing_ok, writing_step, too_long_lem}
use Rattle.laws.proofs.WriteBack.{gathers, format_number, format_encodable, below_itself, slots_judged}
use Rattle.laws.proofs.WriteAgain.{one_pieces}
use Rattle.laws.proofs.RightLists.{judging_twenty, judging_twenty_one, judging_number, judging_right, right_judging}

-- ---- refusals

-- what 23 does not let pass
not_formed : (T : List ℕ) (type format : ℕ) → (Formed T type format → ⊥) → no_format (kind T type) format ≡ true
not_formed T type format h = go (no_format (kind T type) format) refl
  where
    go : (b : Bool) → no_format (kind T type) format ≡ b → b ≡ true
    go true e = refl
    go false e = absurd (h (formed_is T type format e))

-- what 26 does not let pass
not_bare : (T : List ℕ) (type format : ℕ) → format ≡ 2 → (WithoutOptionals T type → ⊥) → eqb format 2 && no_old T type ≡ true
not_bare T type format e h = go (no_old T type) refl
  where
    go : (b : Bool) → no_old T type ≡ b → eqb format 2 && b ≡ true
    go true q = rw e
    go false q = absurd (h (bare_line T type q))

module _ (T : List ℕ) (type format count : ℕ) (rs buffer : List ℕ) where
  -- where no message is made
  data Ends (n i : ℕ) : Type 0 where
    before : Early T type format buffer n i → Ends n i
    few : Ready T type format buffer → length rs < 12 * count → n ≡ 20 → i ≡ count → Ends n i
    at_rows : Ready T type format buffer → 12 * count ≤ length rs → judging T type (eqb format 2) buffer (row_list count rs) ≡ stop n i → Ends n i

  ends_message : {n i : ℕ} → Ends n i → message T type format count rs buffer ≡ stop n i
  unfolding message table_rules rule_number early stopped_first first_of rows_given next
  ends_message (before (table_refused {c} {p} B)) = rw ((table_fault T c p).1 B)
  ends_message (before (type_refused e a)) = rw (e, a)
  ends_message (before (format_refused e a b)) = rw (e, a, not_formed T type format b)
  ends_message (before (optionals_refused e a b o w)) = rw (e, a, is_formed T type format b, not_bare T type format o w)
  ends_message (before (buffer_refused e a b w c)) = rw (e, a, is_formed T type format b, is_bare T type format w, lt-ltb limit (length buffer) c)
  ends_message (few R l n i) = rw (R.table, R.there, is_formed T type format R.formed, is_bare T type format R.bare, le-ltb limit (length buffer) R.short, lt-leb (12 * count) (length rs) l, n, i)
  ends_message (at_rows R l h) = rw (R.table, R.there, is_formed T type format R.formed, is_bare T type format R.bare, le-ltb limit (length buffer) R.short, le-leb (12 * count) (length rs) l, h)

  message_ends : {n i : ℕ} → message T type format count rs buffer ≡ stop n i → Ends n i
  message_ends {n} {i} h =
      go (faults T) refl (no_top T type) refl (no_format (kind T type) format) refl (eqb format 2 && no_old T type) refl (ltb limit (length buffer)) refl (leb (12 * count) (length rs)) refl (judging T type (eqb format 2) buffer (row_list count rs)) refl
    where
      same : {k p : ℕ} → Ends k p → Ends n i
      same {k} {p} E =
          let q : stop k p ≡ stop n i = sym (ends_message E) ∙ h in
          let a : k ≡ n = cc in
          let b : p ≡ i = cc in
          subst₂ Ends a b E

      go : (f : Fault) → faults T ≡ f → (a : Bool) → no_top T type ≡ a → (b : Bool) → no_format (kind T type) format ≡ b → (w : Bool) → eqb format 2 && no_old T type ≡ w → (c : Bool) → ltb limit (length buffer) ≡ c
          → (d : Bool) → leb (12 * count) (length rs) ≡ d → (o : Out (List Given)) → judging T type (eqb format 2) buffer (row_list count rs) ≡ o → Ends n i
      go (fault k p) e a ea b eb w ew c ec d ed o eo = same (before (table_refused ((table_fault T k p).0 e)))
      go fine e true ea b eb w ew c ec d ed o eo = same (before (type_refused e ea))
      go fine e false ea true eb w ew c ec d ed o eo = same (before (format_refused e ea (λ q. true≢false (sym eb ∙ is_formed T type format q))))
      go fine e false ea false eb true ew c ec d ed o eo =
          let B = both_true (eqb format 2) (no_old T type) ew in
          same (before (optionals_refused e ea (formed_is T type format eb) (eqb-true format 2 B.0) (λ q. true≢false (sym B.1 ∙ line_bare T type q))))
      go fine e false ea false eb false ew true ec d ed o eo = same (before (buffer_refused e ea (formed_is T type format eb) (bare_is T type format ew) (ltb-true limit (length buffer) ec)))
      go fine e false ea false eb false ew false ec d ed o eo =
          rows d ed o eo (record { table = e; there = ea; formed = formed_is T type format eb; bare = bare_is T type format ew; short = ltb-false limit (length buffer) ec })
        where
          rows : (d : Bool) → leb (12 * count) (length rs) ≡ d → (o : Out (List Given)) → judging T type (eqb format 2) buffer (row_list count rs) ≡ o → Ready T type format buffer → Ends n i
          rows false ed o eo R = same (few R (leb-false (12 * count) (length rs) ed) refl refl)
          rows true ed (stop k p) eo R = same (at_rows R (leb-true (12 * count) (length rs) ed) eo)
          rows true ed (out gs) eo R =
              let C : Composed T type format count rs buffer (encapsulate (encoding_of format) (encode (encoding_of format) (gathered T type gs))) =
              record { table = R.table; there = R.there; formed = is_formed T type format R.formed; bare = is_bare T type format R.bare; short = R.short; enough = leb-true (12 * count) (length rs) ed; given = gs; judged = eo; made = refl } in
              absurd (out≢stop (message_step T type format count rs buffer C) h)

  -- what stops before the message is made stops the writer, and only 22 comes after
  writing_stops : (room : ℕ) {n i : ℕ} → Ends n i → writing T type format count rs buffer room ≡ stop n i
  unfolding writing next
  writing_stops room E = rw (ends_message E)

  writing_ends : (room : ℕ) {n i : ℕ} → writing T type format count rs buffer room ≡ stop n i → Ends n i ⊎ (n ≡ 22)
  unfolding writing next bounded
  writing_ends room {n} {i} h = go (message T type format count rs buffer) refl h
    where
      go₂ : (m : List ℕ) (q : Bool) → pick q (out m) (stop 22 (length m)) ≡ stop n i → n ≡ 22
      go₂ m true h = absurd (out≢stop refl h)
      go₂ m false h = cc

      go : (o : Out (List ℕ)) → message T type format count rs buffer ≡ o → next o (bounded room) ≡ stop n i → Ends n i ⊎ (n ≡ 22)
      go (out m) e h = inr (go₂ m (leb (length m) limit && leb (length m) room) h)
      go (stop k p) e h = inl (message_ends (e ∙ h))

  early_number : {n i : ℕ} → Early T type format buffer n i → 20 ≤ n → n ≤ 22 → ⊥
  early_number (table_refused B) l h = omega (arith, (broken_class B).0)
  early_number (type_refused e a) l h = omega arith
  early_number (format_refused e a b) l h = omega arith
  early_number (optionals_refused e a b o w) l h = omega arith
  early_number (buffer_refused e a b w c) l h = omega arith

pub early_refused : EarlyRefused
early_refused T type format count rs buffer room n i =
    (λ h. ⊎_elim told (λ q. inr (inr (inr q))) (writing_ends T type format count rs buffer room h), λ E. writing_stops T type format count rs buffer room (before E))
  where
    told : Ends T type format count rs buffer n i → Early T type format buffer n i ⊎ ((n ≡ 20) ⊎ ((n ≡ 21) ⊎ (n ≡ 22)))
    told (before E) = inl E
    told (few R l q p) = inr (inl q)
    told (at_rows R l h) = inr (⊎_elim (λ q. inl q) (λ q. inr (inl q)) (judging_number T type format buffer (row_list count rs) i R.table R.there n h))

pub right_lists : RightLists
right_lists T type format count rs buffer room i = (λ h. ⊎_elim told (λ q. absurd (omega arith)) (writing_ends T type format count rs buffer room h), stops)
  where
    told : Ends T type format count rs buffer 20 i → Ready T type format buffer × Twenty T type format count rs buffer i
    told (before E) = absurd (early_number T type format count rs buffer E (omega arith) (omega arith))
    told (few R l q p) = (R, too_few l p)
    told (at_rows R l h) = (R, none_right l ((judging_twenty T type format buffer (row_list count rs) i R.table R.there).0 h))

    stops : Ready T type format buffer → Twenty T type format count rs buffer i → writing T type format count rs buffer room ≡ stop 20 i
    stops R (too_few l p) = writing_stops T type format count rs buffer room (few R l refl p)
    stops R (none_right l W) = writing_stops T type format count rs buffer room (at_rows R l ((judging_twenty T type format buffer (row_list count rs) i R.table R.there).1 W))

pub wrong_bytes : WrongBytes
wrong_bytes T type format count rs buffer room i = (
  λ h. ⊎_elim told (λ q. absurd (omega arith)) (writing_ends T type format count rs buffer room h),
  λ R l W. writing_stops T type format count rs buffer room (at_rows R l ((judging_twenty_one T type format buffer (row_list count rs) i R.table R.there).1 W)),
)
  where
    told : Ends T type format count rs buffer 21 i → Ready T type format buffer × (12 * count ≤ length rs) × TwentyOne T type format buffer (row_list count rs) i
    told (before E) = absurd (early_number T type format count rs buffer E (omega arith) (omega arith))
    told (few R l q p) = absurd (omega arith)
    told (at_rows R l h) = (R, l, (judging_twenty_one T type format buffer (row_list count rs) i R.table R.there).0 h)

-- ---- the message

module _ (T : List ℕ) (type format count : ℕ) (rs buffer : List ℕ) where
  composed_writable : {m : List ℕ} → Composed T type format count rs buffer m → Writable T type format count rs buffer
  composed_writable C =
      let R = right_judging T type format buffer (row_list count rs) C.table C.there C.judged in
      record { ready = record { table = C.table; there = C.there; formed = formed_is T type format C.formed; bare = bare_is T type format C.bare; short = C.short }; enough = C.enough; right = R.0; fits = R.1 }

  composed_message : {m : List ℕ} → Composed T type format count rs buffer m → MessageOf T type format (row_list count rs) buffer m
  composed_message C =
      let formed = formed_is T type format C.formed in
      let e : Encoding = encoding_of format in
      let K = slots_judged T C.table type C.there format buffer (row_list count rs) C.judged in
      let G = gathers T buffer C.table C.short type C.there type (below_itself T C.table type C.there) e (format_encodable T type type format formed (bare_is T type format C.bare)) K in
      let p : Pieces = gathered T type C.given in
      record {
        read = read_as e p;
        in_format = format_number T type format formed;
        conforms = G.conforms;
        of_type = G.of_type;
        complete = G.complete;
        encoded = C.made;
        members = subst (λ (z : List ℕ). SameMembers buffer z (row_list count rs) (rows T type e p)) (sym C.made) G.listed;
      }

  writable_composed : Writable T type format count rs buffer → (m : List ℕ) × Composed T type format count rs buffer m
  writable_composed W =
      let R = W.ready in
      let J = judging_right T type format buffer (row_list count rs) R.table R.there W.right W.fits in (
        encapsulate (encoding_of format) (encode (encoding_of format) (gathered T type J.0)),
        record { table = R.table; there = R.there; formed = is_formed T type format R.formed; bare = is_bare T type format R.bare; short = R.short; enough = W.enough; given = J.0; judged = J.1; made = refl },
      )

same_across : {b m o : List ℕ} {rs ms os : List Row} → SameMembers b m rs ms → SameMembers b o rs os → SameMembers m o ms os
same_across no_members no_members = no_members
same_across (same_member e p l M) (same_member f q k O) = same_member (sym e ∙ f) (sym p ∙ q) (sym l ∙ k) (same_across M O)

-- encodings of one number are one
pub encoding_one : (f g : Encoding) → encoding_number f ≡ encoding_number g → f ≡ g
encoding_one v10 v10 e = refl
encoding_one v10 (v11 compact) e = absurd (omega arith)
encoding_one v10 (v11 sliced) e = absurd (omega arith)
encoding_one (v11 compact) v10 e = absurd (omega arith)
encoding_one (v11 sliced) v10 e = absurd (omega arith)
encoding_one (v11 compact) (v11 compact) e = refl
encoding_one (v11 compact) (v11 sliced) e = absurd (omega arith)
encoding_one (v11 sliced) (v11 compact) e = absurd (omega arith)
encoding_one (v11 sliced) (v11 sliced) e = refl

-- rows have one message
message_one : (T : List ℕ) (type format : ℕ) (rs : List Row) (buffer m o : List ℕ) → faults T ≡ fine → no_top T type ≡ false
    → MessageOf T type format rs buffer m → MessageOf T type format rs buffer o → m ≡ o
message_one T type format rs buffer m o right there M O =
    let f : Encoding = M.read.format in
    let p : Pieces = M.read.pieces in
    let q : Pieces = O.read.pieces in
    subst (λ (g : Encoding). Conform T type g q → o ≡ encapsulate g (encode g q) → SameMembers m o (rows T type f p) (rows T type g q) → m ≡ o)
    (encoding_one f O.read.format (M.in_format ∙ sym O.in_format))
    (λ C e S.
    let N = subst₂ (λ (x y : List ℕ). SameMembers x y (rows T type f p) (rows T type f q)) M.encoded e S in
    M.encoded ∙ ap (λ (x : Pieces). encapsulate f (encode f x)) (one_pieces T type type f p q right there there M.conforms C (M.of_type ∙ sym O.of_type) M.complete O.complete N) ∙ sym e)
    O.conforms O.encoded (same_across M.members O.members)

-- the message of what the writer takes is the one that is made
message_made : (T : List ℕ) (type format count : ℕ) (rs buffer m o : List ℕ) → Composed T type format count rs buffer m → MessageOf T type format (row_list count rs) buffer o → o ≡ m
message_made T type format count rs buffer m o C O = message_one T type format (row_list count rs) buffer o m C.table C.there O (composed_message T type format count rs buffer C)

message_composed : (T : List ℕ) (type format count : ℕ) (rs buffer m : List ℕ) → Writable T type format count rs buffer → MessageOf T type format (row_list count rs) buffer m
    → Composed T type format count rs buffer m
message_composed T type format count rs buffer m W M =
    let C = writable_composed T type format count rs buffer W in
    subst (Composed T type format count rs buffer) (sym (message_made T type format count rs buffer C.0 m C.1 M)) C.1

pub right_makes : RightMakes
right_makes T type format count rs buffer W =
    let C = writable_composed T type format count rs buffer W in
    (C.0, composed_message T type format count rs buffer C.1, λ o O. message_made T type format count rs buffer C.0 o C.1 O)

pub too_long_written : TooLong
too_long_written T type format count rs buffer room i = (told, stops)
  where
    told : writing T type format count rs buffer room ≡ stop 22 i → TwentyTwo T type format count rs buffer room i
    told h =
        let L = (too_long_lem T type format count rs buffer room i).0 h in
        let C = message_ok T type format count rs buffer L.is_made in
        record { writable = composed_writable T type format count rs buffer C; made = L.made; is_message = composed_message T type format count rs buffer C; too_long_lem = L.too_long_lem; place = L.place }

    stops : TwentyTwo T type format count rs buffer room i → writing T type format count rs buffer room ≡ stop 22 i
    stops W =
        let C = message_composed T type format count rs buffer W.made W.writable W.is_message in
        (too_long_lem T type format count rs buffer room i).1 (record { made = W.made; is_made = message_step T type format count rs buffer C; too_long_lem = W.too_long_lem; place = W.place })

pub right_written : RightWritten
right_written T type format count rs buffer room m = (told, writes)
  where
    told : writing T type format count rs buffer room ≡ out m → WrittenAs T type format count rs buffer room m
    told h =
        let W = writing_ok T type format count rs buffer room h in
        record {
          writable = composed_writable T type format count rs buffer W.composed;
          is_message = composed_message T type format count rs buffer W.composed;
          short = W.short;
          fits = W.fits;
        }

    writes : WrittenAs T type format count rs buffer room m → writing T type format count rs buffer room ≡ out m
    writes W =
        writing_step T type format count rs buffer room (record {
          composed = message_composed T type format count rs buffer m W.writable W.is_message;
          short = W.short;
          fits = W.fits;
        })
