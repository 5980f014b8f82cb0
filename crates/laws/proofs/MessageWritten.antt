-- The writer's judgements one after another, and when 22 comes.
--
--   formed_is, is_formed                 what 23 lets pass; bare_is, is_bare: what 26 lets pass
--   Composed, message_ok, message_step   a message is made exactly when each judgement lets pass
--   writing_ok, writing_step             the same of what is written, within limit and room
--   too_long_lem                             22 comes exactly where the message is too long
use Rattle.std.specs.Prelude.{◌≡◌, Bool, ◌&&◌, ◌||◌, not, ℕ, zero, suc, ◌+◌, ◌*◌, ◌≤◌, length, eqb, ltb}
use Rattle.std.proofs.Math.Path.{refl, ap, subst}
use Rattle.std.proofs.Common.{sym, ◌∙◌, true≢false, arith}
use Rattle.std.proofs.Math.Bool.{true, false}
use Rattle.std.proofs.Math.Option.{Option, none, some}
use mathlib.Core.List.{List, [], ◌∷◌, map}
use Rattle.std.proofs.Math.Dec.{leb}
use borrow.Author.Tests.{eqb-true, eqb-false, eq-eqb, ne_eqb, leb-true, ltb-false, le-leb, le-ltb}
use Rattle.encoding.specs.Result.{pick, first_of}
use Rattle.encoding.proofs.ResultLaws.{both_true, both_false, first_of_ok}
use Rattle.encoding.specs.Value.{exact}
use Rattle.encoding.specs.Table.{kind, chain, range, Fault, fine, fault, faults, rule_number}
use Rattle.encoding.specs.Old.{type_as, no_old}
use Rattle.encoding.specs.Message.{Row, encode, encapsulate, no_top, limit}
use Rattle.encoding.specs.Write.{Out, out, stop, next, Given, no_format, row_at, table_rules, early, stopped_first, rows_given, judge_all, judge, State, Reached, prepend, still_due, reach, part_of, above, begin, encoding_of, gathered, message, bounded, writing}
use Rattle.encoding.specs.Conform.{WithoutOptionals}
use Rattle.laws.proofs.TableFault.{fault_class}
use Rattle.laws.specs.Demands.{row_list, Formed, in_slices, in_pairs}
use Rattle.laws.proofs.OldLine.{bare_line, line_bare}
use Rattle.laws.proofs.PlanLaws.{out≢stop, next_ok}
use Rattle.laws.proofs.PlanRules.{judging}

-- what each judgement lets pass, and the message that is made
pub record Composed (T : List ℕ) (type format count : ℕ) (rs buffer m : List ℕ) : Type 0 where
  pub table : faults T ≡ fine
  pub there : no_top T type ≡ false
  pub formed : no_format (kind T type) format ≡ false
  pub bare : eqb format 2 && no_old T type ≡ false
  pub short : length buffer ≤ limit
  pub enough : 12 * count ≤ length rs
  pub given : List Given
  pub judged : judging T type (eqb format 2) buffer (row_list count rs) ≡ out given
  pub made : m ≡ encapsulate (encoding_of format) (encode (encoding_of format) (gathered T type given))

-- what 23 lets pass: format 1; and 2, but for a class
pub formed_is : (T : List ℕ) (type format : ℕ) → no_format (kind T type) format ≡ false → Formed T type format
unfolding no_format
formed_is T type format h = go (eqb format 1) refl (eqb format 2) refl (eqb (kind T type) 14) refl h
  where
    go : (a : Bool) → eqb format 1 ≡ a → (b : Bool) → eqb format 2 ≡ b → (c : Bool) → eqb (kind T type) 14 ≡ c → not (a || (b && not c)) ≡ false → Formed T type format
    go true ea b eb c ec h = in_slices (eqb-true format 1 ea)
    go false ea true eb false ec h = in_pairs (eqb-true format 2 eb) (eqb-false (kind T type) 14 ec)
    go false ea true eb true ec h = absurd (true≢false h)
    go false ea false eb c ec h = absurd (true≢false h)

pub is_formed : (T : List ℕ) (type format : ℕ) → Formed T type format → no_format (kind T type) format ≡ false
unfolding no_format
is_formed T type format (in_slices e) = rw e
is_formed T type format (in_pairs e k) = rw (e, ne_eqb (kind T type) 14 k)

-- what 26 lets pass
pub bare_is : (T : List ℕ) (type format : ℕ) → eqb format 2 && no_old T type ≡ false → format ≡ 2 → WithoutOptionals T type
bare_is T type format h e = bare_line T type (both_false (eqb format 2) (no_old T type) h (eq-eqb format 2 e))

pub is_bare : (T : List ℕ) (type format : ℕ) → (format ≡ 2 → WithoutOptionals T type) → eqb format 2 && no_old T type ≡ false
is_bare T type format W = go (eqb format 2) refl
  where
    go : (b : Bool) → eqb format 2 ≡ b → b && no_old T type ≡ false
    go true e = line_bare T type (W (eqb-true format 2 e))
    go false e = refl

table_rules_ok : (T : List ℕ) → {u : Unit {0}} → table_rules T ≡ out u → faults T ≡ fine
unfolding table_rules
table_rules_ok T {u} h = go (faults T) refl
  where
    go : (f : Fault) → faults T ≡ f → faults T ≡ fine
    go fine e = e
    go (fault c p) e = let g : stop (rule_number c) p ≡ out u = rw e at h in absurd (out≢stop g refl)

unless_ok : (n : ℕ) {u : Unit {0}} → stopped_first n ≡ out u → n ≡ 0
unfolding stopped_first
unless_ok zero h = refl
unless_ok (suc n) h = absurd (out≢stop h refl)

rows_given_ok : (count : ℕ) (rs : List ℕ) {l : List Row} → rows_given count rs ≡ out l → (12 * count ≤ length rs) × (row_list count rs ≡ l)
unfolding rows_given
rows_given_ok count rs {l} h = go (leb (12 * count) (length rs)) refl h
  where
    go : (q : Bool) → leb (12 * count) (length rs) ≡ q → pick q (out (map (row_at rs) (range 0 count))) (stop 20 count) ≡ out l → (12 * count ≤ length rs) × (row_list count rs ≡ l)
    go true e h = (leb-true (12 * count) (length rs) e, cc)
    go false e h = absurd (out≢stop h refl)

module _ (T : List ℕ) (type format count : ℕ) (rs buffer : List ℕ) where
  pub message_ok : {m : List ℕ} → message T type format count rs buffer ≡ out m → Composed T type format count rs buffer m
  unfolding message early
  message_ok {m} h =
      let A = next_ok (table_rules T) _ h in
      let B = next_ok (stopped_first (early T type format buffer)) _ A.2 in
      let C = next_ok (rows_given count rs) _ B.2 in
      let D = next_ok (judge_all T (eqb format 2) buffer (begin T type (above (chain T type))) 0 C.0) _ C.2 in
      let R = rows_given_ok count rs C.1 in
      let a = first_of_ok 1 (no_top T type) _ (unless_ok (early T type format buffer) B.1) in
      let b = first_of_ok 22 (no_format (kind T type) format) _ a.1 in
      let o = first_of_ok 25 (eqb format 2 && no_old T type) _ b.1 in
      let c = first_of_ok 2 (ltb limit (length buffer)) _ o.1 in
      record {
        table = table_rules_ok T A.1;
        there = a.0;
        formed = b.0;
        bare = o.0;
        short = ltb-false limit (length buffer) c.0;
        enough = R.0;
        given = D.0;
        judged = ap (judging T type (eqb format 2) buffer) R.1 ∙ D.1;
        made = cc;
      }

  pub message_step : {m : List ℕ} → Composed T type format count rs buffer m → message T type format count rs buffer ≡ out m
  unfolding message early table_rules stopped_first rows_given next first_of
  message_step C =
      rw (C.table, C.there, C.formed, C.bare, le-ltb limit (length buffer) C.short, le-leb (12 * count) (length rs) C.enough, C.judged) (ap out (sym C.made))

  pub record Written (room : ℕ) (m : List ℕ) : Type 0 where
    pub composed : Composed T type format count rs buffer m
    pub short : length m ≤ limit
    pub fits : length m ≤ room

  pub writing_ok : (room : ℕ) {m : List ℕ} → writing T type format count rs buffer room ≡ out m → Written room m
  unfolding writing bounded
  writing_ok room {m} h =
      let A = next_ok (message T type format count rs buffer) (bounded room) h in
      go A.0 A.1 (leb (length A.0) limit && leb (length A.0) room) refl A.2
    where
      go : (l : List ℕ) → message T type format count rs buffer ≡ out l → (q : Bool) → leb (length l) limit && leb (length l) room ≡ q → pick q (out l) (stop 22 (length l)) ≡ out m → Written room m
      go l e true f h =
          let b = both_true (leb (length l) limit) (leb (length l) room) f in
          let s : l ≡ m = cc in
          subst (Written room) s (record { composed = message_ok e; short = leb-true (length l) limit b.0; fits = leb-true (length l) room b.1 })
      go l e false f h = absurd (out≢stop h refl)

  pub writing_step : (room : ℕ) {m : List ℕ} → Written room m → writing T type format count rs buffer room ≡ out m
  unfolding writing bounded next
  writing_step room {m} W = rw (message_step W.composed, le-leb (length m) limit W.short, le-leb (length m) room W.fits)

-- ---- 22

-- no other judgement stops with 22
abbrev Others : {A : Type 0} → Out A → Type 0
Others (out a) = Unit {0}
Others (stop n p) = n ≡ 22 → ⊥

others_next : {A B : Type 0} (o : Out A) (f : A → Out B) → Others o → ((a : A) → Others (f a)) → Others (next o f)
unfolding next
others_next (out a) f h k = k a
others_next (stop n p) f h k = h

others_judge : (T : List ℕ) (old : Bool) (buffer : List ℕ) (rs : List Row) (s : State) (i : ℕ) → Others (judge_all T old buffer s i rs)
unfolding judge_all judge prepend
others_judge T old buffer [] s i = go (still_due T s)
  where
    go : (q : Bool) → Others {A = List Given} (pick q (stop 20 i) (out []))
    go true = λ e. omega arith
    go false = tt
others_judge T old buffer (r ∷ rs) s i =
    others_next (judge old buffer i r (reach T r.member s)) _ (one (reach T r.member s))
    (λ z. others_next (judge_all T old buffer z.state (suc i) rs) _ (others_judge T old buffer rs z.state (suc i)) (λ gs. tt))
  where
    one : (z : Option Reached) → Others (judge old buffer i r z)
    one none = λ e. omega arith
    one (some z) = go (leb (r.place + r.len) (length buffer)) (exact (type_as old z.member.ty) (part_of buffer r))
      where
        go : (p q : Bool) → Others (pick p (pick q (out z) (stop 21 i)) (stop 20 i))
        go true true = tt
        go true false = λ e. omega arith
        go false q = λ e. omega arith

module _ (T : List ℕ) (type format count : ℕ) (rs buffer : List ℕ) where
  others_message : Others (message T type format count rs buffer)
  unfolding message rows_given table_rules rule_number stopped_first early first_of
  others_message =
      others_next (table_rules T) _ (table (faults T) refl)
      (λ _. others_next (stopped_first (early T type format buffer)) _ (first (no_top T type) (no_format (kind T type) format) (eqb format 2 && no_old T type) (ltb limit (length buffer)))
      (λ _. others_next (rows_given count rs) _ (given (leb (12 * count) (length rs)))
      (λ l. others_next (judge_all T (eqb format 2) buffer (begin T type (above (chain T type))) 0 l) _ (others_judge T (eqb format 2) buffer l (begin T type (above (chain T type))) 0) (λ gs. tt))))
    where
      table : (f : Fault) → faults T ≡ f → Others (table_rules T)
      table fine e = rw e tt
      table (fault c p) e = rw e (λ (q : rule_number c ≡ 22). omega (arith, (fault_class T c p e).0))

      first : (a b c d : Bool) → Others (stopped_first (first_of ((2, a) ∷ (23, b) ∷ (26, c) ∷ (3, d) ∷ [])))
      first true b c d = λ e. omega arith
      first false true c d = λ e. omega arith
      first false false true d = λ e. omega arith
      first false false false true = λ e. omega arith
      first false false false false = tt

      given : (q : Bool) → Others (pick q (out (map (row_at rs) (range 0 count))) (stop 20 count))
      given true = tt
      given false = λ e. omega arith

-- a message over limit or room, and its length
pub record Overlong (T : List ℕ) (type format count : ℕ) (rs buffer : List ℕ) (room i : ℕ) : Type 0 where
  pub made : List ℕ
  pub is_made : message T type format count rs buffer ≡ out made
  pub too_long_lem : (length made ≤ limit) × (length made ≤ room) → ⊥
  pub place : i ≡ length made

pub too_long_lem : (T : List ℕ) (type format count : ℕ) (rs buffer : List ℕ) (room i : ℕ)
    → (writing T type format count rs buffer room ≡ stop 22 i → Overlong T type format count rs buffer room i)
    × (Overlong T type format count rs buffer room i → writing T type format count rs buffer room ≡ stop 22 i)
unfolding writing next bounded
too_long_lem T type format count rs buffer room i = (stopped, stops)
  where
    tested : List ℕ → Bool
    tested l = leb (length l) limit && leb (length l) room

    refused : (l : List ℕ) → tested l ≡ false → (length l ≤ limit) × (length l ≤ room) → ⊥
    refused l e b = true≢false (sym (rw (le-leb (length l) limit b.0, le-leb (length l) room b.1)) ∙ e)

    stopped : writing T type format count rs buffer room ≡ stop 22 i → Overlong T type format count rs buffer room i
    stopped h = go (message T type format count rs buffer) refl (others_message T type format count rs buffer) h
      where
        go₂ : (l : List ℕ) → message T type format count rs buffer ≡ out l → (q : Bool) → tested l ≡ q → pick q (out l) (stop 22 (length l)) ≡ stop 22 i → Overlong T type format count rs buffer room i
        go₂ l e true f h = absurd (out≢stop refl h)
        go₂ l e false f h = record { made = l; is_made = e; too_long_lem = refused l f; place = cc }

        go : (o : Out (List ℕ)) → message T type format count rs buffer ≡ o → Others o → next o (bounded room) ≡ stop 22 i → Overlong T type format count rs buffer room i
        go (out l) e O h = go₂ l e (tested l) refl h
        go (stop n p) e O h = absurd (O (cc))

    stops : Overlong T type format count rs buffer room i → writing T type format count rs buffer room ≡ stop 22 i
    stops W = ap (λ (o : Out (List ℕ)). next o (bounded room)) W.is_made ∙ go (leb (length W.made) limit) refl (leb (length W.made) room) refl
      where
        go : (p : Bool) → leb (length W.made) limit ≡ p → (q : Bool) → leb (length W.made) room ≡ q → pick (p && q) (out W.made) (stop 22 (length W.made)) ≡ stop 22 i
        go true e true f = absurd (W.too_long_lem (leb-true (length W.made) limit e, leb-true (length W.made) room f))
        go true e false f = ap (stop 22) (sym W.place)
        go false e q f = ap (stop 22) (sym W.place)
