-- Demand 1: each refusal has its number and its place of document 01's table, and gives nothing else.
-- The rules judge one thing after another, so a refusal is that of the first judgement that does not pass; what an encapsulation holds is refused
-- with one of its own numbers (`refuses_rest`), at a place within the message (`held_rest`).
--
--   rules_refused                a refusal by the rules
--   Numbered, refusal_numbered   its number is between 1 and the greatest, its place within 65,536
--   Answered, answered           an answer is that of an accepted message, or a refusal and nothing else
--   reader_refuses               demand 1
--   old_numbers                  12 to 16 are no refusals of a 1.0 message
--   reader_number, numbers_told  a refusal's number is not 0, so the numbers of the public calls are the answer's
use Rattle.std.proofs.Math.Path.{◌≡◌, refl, sym, ap, ap₂, subst}
use Rattle.std.proofs.Common.{◌∙◌, true≢false, length-drop, length-take-le}
use Rattle.std.proofs.Math.Logic.{⊎_elim}
use Rattle.std.specs.Prelude.{Bool, ◌&&◌, ◌||◌, ℕ, ◌+◌, ◌*◌, ◌/◌, ◌≤◌, take, drop}
use Rattle.std.proofs.Math.Bool.{true, false, not, false≢true}
use mathlib.Core.List.{List, [], ◌∷◌}
use native.Mathlib.Omega.{arith}
use Rattle.std.proofs.Math.ListN.{length}
use Rattle.std.proofs.Math.Dec.{eqb, leb, ltb}
use borrow.Author.Tests.{not-false, eqb-true, eqb-false, leb-true, leb-false, ltb-true, ltb-false, le-leb, eq-eqb, ne_eqb}
use Rattle.encoding.specs.Result.{Res, ok, bad, Parser, pick, ◌>>=◌, must, first_of, concat}
use Rattle.encoding.proofs.ResultLaws.{of_contents, both_true, either_false, pick_ok, Bound, bind_ok, chunk_ok, must_ok, BindRefused, at_first_lem, at_next, bind_refused, MustRefused, by_reader, by_judge, must_refused, chunk_refused, held_refused}
use Rattle.encoding.specs.Number.{val, number}
use Rattle.encoding.specs.Table.{kind, Fault, fine, fault, faults, rule_number}
use Rattle.encoding.proofs.RuleLaws.{fault_place, kind_known}
use Rattle.encoding.specs.Slice.{sliced}
use Rattle.encoding.specs.Old.{no_old}
use Rattle.encoding.specs.Message.{v10, v11, Read, contents, old_contents, ended, outer_form, version10, version11, version_form, old_form, outer, after_version, body, no_top, limit, after_rules, refused_first, rules, rows, greatest_refusal, Answer, numbers, refused, accepted, answer, room, within, reading, listed, reading_of, reading_numbers}
use Rattle.encoding.proofs.MessageLaws.{held_rest, held_old_rest, after_version_lem, known_version, top_there}
use Rattle.encoding.proofs.RefusalLaws.{Told, refuses_rest, OldRefused, shared, by_lead, old_refused}
use Rattle.laws.specs.Demands.{Admissible, Sized, Version10, OldSized, in_both, in_new, Refusal, broken_table, no_top_lem, too_great, no_size_lem, wrong_size, wrong_version, with_optionals, cut_off, misread, no_text, wrong_lead, ReaderRefusal, by_rules, short_list, NothingElse, ReaderRefuses, OldNumbers, NumbersTold}
use Rattle.laws.proofs.OldLine.{line_bare}
use Rattle.laws.proofs.TableFault.{table_fault, broken_class}

-- ---- what the encapsulation holds

-- the tests of `of_contents`, by cases
data Of (old : Bool) (c : ℕ) : Type 0 where
  is_four : c ≡ 4 → Of old c
  is_text : c ≡ 24 → Of old c
  is_both : 7 ≤ c → c ≤ 18 → (12 ≤ c → c ≤ 16 → ⊥) → Of old c
  is_new : old ≡ false → 12 ≤ c → c ≤ 16 → Of old c
  is_lead : old ≡ true → c ≡ 25 → Of old c

contents_number : (old : Bool) (c : ℕ) → of_contents old c ≡ true → Of old c
contents_number old c h = four (eqb c 4) refl (leb 7 c && leb c 11) refl (leb 17 c && leb c 18) refl (eqb c 24) refl h
  where
    own : (old : Bool) → pick old (eqb c 25) (leb 12 c && leb c 16) ≡ true → Of old c
    own true h = is_lead refl (eqb-true c 25 h)
    own false h = let b = both_true (leb 12 c) (leb c 16) h in is_new refl (leb-true 12 c b.0) (leb-true c 16 b.1)

    four : (a : Bool) → eqb c 4 ≡ a → (b : Bool) → leb 7 c && leb c 11 ≡ b → (d : Bool) → leb 17 c && leb c 18 ≡ d → (e : Bool) → eqb c 24 ≡ e
        → a || b || d || e || pick old (eqb c 25) (leb 12 c && leb c 16) ≡ true → Of old c
    four true ea b eb d ed e ee h = is_four (eqb-true c 4 ea)
    four false ea true eb d ed e ee h = let b = both_true (leb 7 c) (leb c 11) eb in let u = leb-true c 11 b.1 in is_both (leb-true 7 c b.0) (omega arith) (λ x y. omega arith)
    four false ea false eb true ed e ee h = let b = both_true (leb 17 c) (leb c 18) ed in let u = leb-true 17 c b.0 in is_both (omega arith) (leb-true c 18 b.1) (λ x y. omega arith)
    four false ea false eb false ed true ee h = is_text (eqb-true c 24 ee)
    four false ea false eb false ed false ee h = own old h

module _ (T : List ℕ) (top : ℕ) (m : List ℕ) where
  -- a refusal is the one that it is equal to
  same : {c q n p : ℕ} → Refusal T top m c q → c ≡ n → q ≡ p → Refusal T top m n p
  same {c = c} {q = q} {n = n} {p = p} R ec eq = subst (λ (i : ℕ). Refusal T top m n i) eq (subst (λ (i : ℕ). Refusal T top m i q) ec R)

  -- in what an encapsulation of 1.1 holds
  in_new_contents : Sized T top m → (Version10 m → ⊥) → (c q : ℕ) → Of false c → 6 ≤ q → q ≤ length m → Refusal T top m c q
  in_new_contents S o c q (is_four e) a b = same (cut_off S a b) (sym e) refl
  in_new_contents S o c q (is_text e) a b = same (no_text S a b) (sym e) refl
  in_new_contents S o c q (is_both l h n) a b = misread S (in_both l h n) a b
  in_new_contents S o c q (is_new e l h) a b = misread S (in_new o l h) a b
  in_new_contents S o c q (is_lead e z) a b = absurd (false≢true e)

  -- of either encoding, a number that both have
  in_contents : Sized T top m → (c q : ℕ) → Of true c → Of false c → 6 ≤ q → q ≤ length m → Refusal T top m c q
  in_contents S c q (is_four e) U a b = same (cut_off S a b) (sym e) refl
  in_contents S c q (is_text e) U a b = same (no_text S a b) (sym e) refl
  in_contents S c q (is_both l h n) U a b = misread S (in_both l h n) a b
  in_contents S c q (is_new e l h) U a b = absurd (true≢false e)
  in_contents S c q (is_lead e z) (is_four x) a b = absurd (omega arith)
  in_contents S c q (is_lead e z) (is_text x) a b = absurd (omega arith)
  in_contents S c q (is_lead e z) (is_both l h n) a b = absurd (omega arith)
  in_contents S c q (is_lead e z) (is_new x l h) a b = absurd (omega arith)
  in_contents S c q (is_lead e z) (is_lead x y) a b = absurd (false≢true x)

  -- size and version

  sized_ok : Admissible T top m → {v n : ℕ} → must (outer_form (length m)) (number 4) m ≡ ok v n → Sized T top m × (n ≡ 4)
  unfolding outer_form number
  sized_ok A {v} {n} h =
      let M = must_ok (number 4) m (outer_form (length m)) h in
      let C = chunk_ok 4 val m M.0 in
      let q = either_false (ltb v 6) (not (eqb v (length m))) (pick_ok _ 4 M.1) in
      let size : v ≡ length m = eqb-true v (length m) (not-false _ q.1) in
      (record { admissible = A; least = omega (arith, ltb-false v 6 q.0, size); size = sym C.1 ∙ size }, C.2)

  size_refused : Admissible T top m → {c q : ℕ} → must (outer_form (length m)) (number 4) m ≡ bad c q → Refusal T top m c q
  unfolding outer_form number
  size_refused A {c} {q} h = go (must_refused (number 4) (outer_form (length m)) m h)
    where
      judged : (v : ℕ) → v ≡ val (take 4 m) → (a : Bool) → ltb v 6 ≡ a → (b : Bool) → eqb v (length m) ≡ b → 4 ≤ length m → (◌≡◌ {A = ℕ} (pick (a || not b) 5 0) 0 → ⊥)
          → (◌≡◌ {A = ℕ} (pick (a || not b) 5 0) 5) × Refusal T top m 5 0
      judged v e true ea b eb l z = (refl, wrong_size A l (λ s. let u = ltb-true v 6 ea in omega (arith, s.0, s.1)))
      judged v e false ea false eb l z = (refl, wrong_size A l (λ s. eqb-false v (length m) eb (e ∙ s.1)))
      judged v e false ea true eb l z = absurd (z refl)

      go : MustRefused (number 4) (outer_form (length m)) m c q → Refusal T top m c q
      go (by_reader e) = let C = chunk_refused 4 val m e in same (no_size_lem A C.0) (sym C.1) (sym C.2)
      go (by_judge {a = v} e j z w) =
          let C = chunk_ok 4 val m e in
          let R = judged v C.1 (ltb v 6) refl (eqb v (length m)) refl C.0 z in
          same R.1 (sym R.0 ∙ j) (sym w)

  -- the version bytes by their number
  two_of : (xs : List ℕ) → length xs ≡ 2 → val xs ≡ 1 → xs ≡ 1 ∷ 0 ∷ []
  unfolding val
  two_of [] l e = absurd (omega arith)
  two_of (x ∷ []) l e = absurd (omega arith)
  two_of (x ∷ y ∷ []) l e =
      let one : x ≡ 1 = omega arith in
      let none : y ≡ 0 = omega arith in
      ap₂ (λ (a b : ℕ). a ∷ b ∷ []) one none
  two_of (x ∷ y ∷ z ∷ xs) l e = absurd (omega arith)

  version_refused : Sized T top m → {c q : ℕ} → must (version_form (kind T top)) (number 2) (drop 4 m) ≡ bad c q → (c ≡ 6) × (q ≡ 0) × Refusal T top m 6 4
  unfolding version_form number val
  version_refused S {c} {q} h = go (must_refused (number 2) (version_form (kind T top)) (drop 4 m) h)
    where
      judged : (v : ℕ) → v ≡ val (take 2 (drop 4 m)) → (a : Bool) → eqb v version11 ≡ a → (b : Bool) → eqb v version10 ≡ b → (d : Bool) → eqb (kind T top) 14 ≡ d
          → (◌≡◌ {A = ℕ} (pick (a || (b && not d)) 0 6) 0 → ⊥) → (◌≡◌ {A = ℕ} (pick (a || (b && not d)) 0 6) 6) × Refusal T top m 6 4
      judged v e true ea b eb d ed z = absurd (z refl)
      judged v e false ea true eb true ed z = (refl, wrong_version S (λ w. eqb-false v version11 ea (e ∙ ap val w)) (λ w. eqb-true (kind T top) 14 ed))
      judged v e false ea true eb false ed z = absurd (z refl)
      judged v e false ea false eb d ed z = (refl, wrong_version S (λ w. eqb-false v version11 ea (e ∙ ap val w)) (λ w. absurd (eqb-false v version10 eb (e ∙ ap val w))))

      go : MustRefused (number 2) (version_form (kind T top)) (drop 4 m) c q → (c ≡ 6) × (q ≡ 0) × Refusal T top m 6 4
      go (by_reader e) = absurd (omega (arith, (chunk_refused 2 val (drop 4 m) e).0, length-drop 4 m, S.least))
      go (by_judge {a = v} e j z w) =
          let R = judged v (chunk_ok 2 val (drop 4 m) e).1 (eqb v version11) refl (eqb v version10) refl (eqb (kind T top) 14) refl z in
          (sym j ∙ R.0, w, R.1)

  old_sized : Sized T top m → {v n : ℕ} → must (version_form (kind T top)) (number 2) (drop 4 m) ≡ ok v n → v ≡ version10 → OldSized T top m
  unfolding version_form number
  old_sized S {v} h e =
      let M = must_ok (number 2) (drop 4 m) (version_form (kind T top)) h in
      let C = chunk_ok 2 val (drop 4 m) M.0 in
      record {
        sized = S;
        version = two_of (take 2 (drop 4 m)) (length-take-le 2 (drop 4 m) C.0) (sym C.1 ∙ e);
        no_class = λ k. none (subst (λ (v : ℕ). version_form (kind T top) v ≡ 0) e M.1) (eq-eqb (kind T top) 14 k);
      }
    where
      none : version_form (kind T top) version10 ≡ 0 → eqb (kind T top) 14 ≡ true → ⊥
      none h k = go (eqb (kind T top) 14) k h
        where
          go : (d : Bool) → d ≡ true → ◌≡◌ {A = ℕ} (pick (not d) 0 6) 0 → ⊥
          go true k h = omega arith
          go false k h = false≢true k

  -- size and version
  abbrev size_p : Parser ℕ
  size_p = must (outer_form (length m)) (number 4)

  abbrev version_p : ℕ → Parser ℕ
  version_p _ = must (version_form (kind T top)) (number 2)

  version_at : (n : ℕ) (r : Res ℕ) → n ≡ 4 → version_p 0 (drop n m) ≡ r → version_p 0 (drop 4 m) ≡ r
  version_at n r e h = subst (λ (x : ℕ). version_p 0 (drop x m) ≡ r) e h

  outer_refused : Admissible T top m → {c q : ℕ} → outer T top (length m) m ≡ bad c q → Refusal T top m c q
  unfolding outer old_form
  outer_refused A {c} {q} h = go (must_refused (size_p >>= version_p) (old_form T top) m h)
    where
      parts : BindRefused size_p version_p m c q → Refusal T top m c q
      parts (at_first_lem e) = size_refused A e
      parts (at_next {a = v} {n = n} {k = k} e i w) =
          let S = sized_ok A e in
          let R = version_refused S.0 (version_at n (bad c k) S.1 i) in
          same R.2 (sym R.0) (omega (arith, S.1, w, R.1))

      judged : (v n : ℕ) → Bound size_p version_p m v n → (a : Bool) → eqb v version10 ≡ a → (b : Bool) → no_old T top ≡ b → ◌≡◌ {A = ℕ} (pick (a && b) 26 0) c
          → (◌≡◌ {A = ℕ} (pick (a && b) 26 0) 0 → ⊥) → q ≡ 0 → Refusal T top m c q
      judged v n B true ea true eb j z w =
          let S = sized_ok A B.first in
          same (with_optionals (old_sized S.0 (version_at B.n (ok v B.m) S.1 B.next) (eqb-true v version10 ea)) (λ W. true≢false (sym eb ∙ line_bare T top W))) j (sym w)
      judged v n B true ea false eb j z w = absurd (z refl)
      judged v n B false ea b eb j z w = absurd (z refl)

      go : MustRefused (size_p >>= version_p) (old_form T top) m c q → Refusal T top m c q
      go (by_reader e) = parts (bind_refused size_p version_p m e)
      go (by_judge {a = v} {n = n} e j z w) = judged v n (bind_ok size_p version_p m e) (eqb v version10) refl (no_old T top) refl j z w

  -- what an encapsulation holds

  new_refused : Sized T top m → (Version10 m → ⊥) → {c k : ℕ} → (contents T top >>= ended) (drop 6 m) ≡ bad c k → Refusal T top m c (6 + k)
  new_refused S o {c} {k} h =
      in_new_contents S o c (6 + k) (contents_number false c (subst (λ (r : Res Read). Told false r) h (refuses_rest T top (drop 6 m)))) (omega arith)
      (omega (arith, held_refused (contents T top >>= ended) (held_rest T top) (drop 6 m) h, length-drop 6 m, S.least))

  old_contents_refused : OldSized T top m → 13 ≤ kind T top → kind T top ≤ 15 → {c k : ℕ} → (old_contents T top >>= ended) (drop 6 m) ≡ bad c k → Refusal T top m c (6 + k)
  old_contents_refused O low high {c} {k} h = go (old_refused T top (drop 6 m) h)
    where
      go : OldRefused T top (drop 6 m) c k → Refusal T top m c (6 + k)
      go (shared a b) =
          in_contents O.sized c (6 + k) (contents_number true c a) (contents_number false c b) (omega arith)
          (omega (arith, held_refused (old_contents T top >>= ended) (held_old_rest T top) (drop 6 m) h, length-drop 6 m, O.sized.least))
      go (by_lead e z n l) = same (wrong_lead O (omega (arith, n, O.no_class)) l) (sym e) (omega arith)

  body_refused : Admissible T top m → 13 ≤ kind T top → kind T top ≤ 15 → {c q : ℕ} → body T top m ≡ bad c q → Refusal T top m c q
  unfolding body outer number val
  body_refused A low high {c} {q} h = go (bind_refused (outer T top (length m)) (λ v. after_version T top v >>= ended) m h)
    where
      held : (v n k : ℕ) → Bound size_p version_p m v n → old_form T top v ≡ 0 → (after_version T top v >>= ended) (drop n m) ≡ bad c k → q ≡ n + k → Refusal T top m c q
      held v n k B o i w =
          let S = sized_ok A B.first in
          let x = version_at B.n (ok v B.m) S.1 B.next in
          let M = must_ok (number 2) (drop 4 m) (version_form (kind T top)) x in
          let C = chunk_ok 2 val (drop 4 m) M.0 in
          let six : n ≡ 6 = omega (arith, B.sum, S.1, C.2) in
          let r : (after_version T top v >>= ended) (drop 6 m) ≡ bad c k = subst (λ (y : ℕ). (after_version T top v >>= ended) (drop y m) ≡ bad c k) six i in
          ⊎_elim
          (λ e. same (new_refused S.0 (λ z. wide (sym e ∙ C.1 ∙ ap val z)) (subst (λ (p : Parser Read). (p >>= ended) (drop 6 m) ≡ bad c k) (ap (after_version T top) e ∙ after_version_lem T top (v11 sliced)) r)) refl (omega arith))
          (λ e. same (old_contents_refused (old_sized S.0 x e.0) low high (subst (λ (p : Parser Read). (p >>= ended) (drop 6 m) ≡ bad c k) (ap (after_version T top) e.0 ∙ after_version_lem T top v10) r)) refl (omega arith))
          (known_version T top v M.1 o)
        where
          wide : version11 ≡ val (1 ∷ 0 ∷ []) → ⊥
          wide e = omega arith

      go : BindRefused (outer T top (length m)) (λ v. after_version T top v >>= ended) m c q → Refusal T top m c q
      go (at_first_lem e) = outer_refused A e
      go (at_next {a = v} {n = n} {k = k} e i w) = let M = must_ok (size_p >>= version_p) m (old_form T top) e in held v n k (bind_ok size_p version_p m M.0) M.1 i w

  -- each refusal by the rules
  pub rules_refused : {n p : ℕ} → rules T top m ≡ bad n p → Refusal T top m n p
  unfolding rules after_rules refused_first first_of rule_number
  rules_refused {n} {p} h = table (faults T) refl h
    where
      bad_same : {c q : ℕ} → Refusal T top m c q → ◌≡◌ {A = Res Read} (bad c q) (bad n p) → Refusal T top m n p
      bad_same {c = c} {q = q} R e =
          let ec : c ≡ n = cc in
          let eq : q ≡ p = cc in
          same R ec eq

      early : faults T ≡ fine → (a : Bool) → no_top T top ≡ a → (b : Bool) → ltb limit (length m) ≡ b
          → refused_first (first_of ((2, a) ∷ (3, b) ∷ [])) (body T top m) ≡ bad n p → Refusal T top m n p
      early F true e b f h = bad_same (no_top_lem F e) h
      early F false e true f h = bad_same (too_great F e (ltb-true limit (length m) f)) h
      early F false e false f h =
          let t = top_there T top e in
          body_refused (record { table = F; top_there = e; short = ltb-false limit (length m) f }) t.1 (kind_known T F top t.0) h

      table : (f : Fault) → faults T ≡ f → after_rules f (refused_first (first_of ((2, no_top T top) ∷ (3, ltb limit (length m)) ∷ [])) (body T top m)) ≡ bad n p → Refusal T top m n p
      table fine e h = early e (no_top T top) refl (ltb limit (length m)) refl h
      table (fault c q) e h = bad_same (broken_table ((table_fault T c q).0 e)) h

-- what a call needs to know of a refusal to give it in 32 bits: its number is one of document 01's table, its place is within the limit
pub record Numbered (n p : ℕ) : Type 0 where
  pub some_number : 1 ≤ n
  pub known_number : n ≤ greatest_refusal
  pub small_place : p ≤ limit

numbered : {n p : ℕ} → 1 ≤ n → n ≤ greatest_refusal → p ≤ limit → Numbered n p
numbered a b c = record { some_number = a; known_number = b; small_place = c }

pub refusal_numbered : {T : List ℕ} {top : ℕ} {m : List ℕ} {n p : ℕ} → Refusal T top m n p → Numbered n p
refusal_numbered {T} (broken_table {c} {p} B) = let k = broken_class B in numbered (omega (arith, k.0)) (omega (arith, k.1)) (omega (arith, fault_place T c p ((table_fault T c p).1 B)))
refusal_numbered (no_top_lem F t) = numbered (omega arith) (omega arith) (omega arith)
refusal_numbered (too_great F t l) = numbered (omega arith) (omega arith) (omega arith)
refusal_numbered (no_size_lem A l) = numbered (omega arith) (omega arith) (omega arith)
refusal_numbered (wrong_size A l e) = numbered (omega arith) (omega arith) (omega arith)
refusal_numbered (wrong_version S e k) = numbered (omega arith) (omega arith) (omega arith)
refusal_numbered (with_optionals O w) = numbered (omega arith) (omega arith) (omega arith)
refusal_numbered (cut_off S a b) = numbered (omega arith) (omega arith) (omega (arith, S.admissible.short))
refusal_numbered (misread S (in_both l h n) a b) = numbered (omega arith) (omega arith) (omega (arith, S.admissible.short))
refusal_numbered (misread S (in_new v l h) a b) = numbered (omega arith) (omega arith) (omega (arith, S.admissible.short))
refusal_numbered (no_text S a b) = numbered (omega arith) (omega arith) (omega (arith, S.admissible.short))
refusal_numbered (wrong_lead O k l) = numbered (omega arith) (omega arith) (omega arith)

-- ---- the reader

refused_nothing : (n p : ℕ) → NothingElse (refused n p)
unfolding refused listed concat
refused_nothing n p = record { type = refl; format = refl; none_listed = refl; optionals = refl; slices = refl; list_kept = λ lent. refl }

module _ (T : List ℕ) (top : ℕ) (m : List ℕ) (bytes : ℕ) where
  -- an answer is accepted, or it is a refusal and nothing else
  pub data Answered : Answer → Type 0 where
    yes_read : {r : Read} {n : ℕ} → rules T top m ≡ ok r n → 12 * length (rows T top r.format r.pieces) ≤ bytes → Answered (accepted T top r)
    not_read : {n p : ℕ} → ReaderRefusal T top m bytes n p → Answered (refused n p)

  pub answered : Answered (reading T top m bytes)
  unfolding reading within answer accepted refused room
  answered = go (rules T top m) refl
    where
      fits : (r : Read) (n : ℕ) → rules T top m ≡ ok r n → (t : Bool) → leb (length (rows T top r.format r.pieces)) (bytes / 12) ≡ t
          → Answered (pick t (accepted T top r) (refused 19 (length (rows T top r.format r.pieces))))
      fits r n e true f = yes_read e (omega (arith, leb-true (length (rows T top r.format r.pieces)) (bytes / 12) f))
      fits r n e false f = not_read (short_list e (omega (arith, leb-false (length (rows T top r.format r.pieces)) (bytes / 12) f)))

      go : (r : Res Read) → rules T top m ≡ r → Answered (within (bytes / 12) (answer T top r))
      go (ok r n) e = fits r n e (leb (length (rows T top r.format r.pieces)) (bytes / 12)) refl
      go (bad n p) e = rw (le-leb 0 (bytes / 12) (omega arith)) (not_read (by_rules (rules_refused T top m e)))

pub reader_refuses : ReaderRefuses
unfolding accepted refused
reader_refuses T top m bytes h = go (reading T top m bytes) (answered T top m bytes) h
  where
    go : (a : Answer) → Answered T top m bytes a → (a.refusal ≡ 0 → ⊥) → ReaderRefusal T top m bytes a.refusal a.place × NothingElse a
    go a (yes_read e f) h = absurd (h refl)
    go a (not_read R) h = (R, refused_nothing _ _)

-- ---- its numbers

pub reader_number : {T : List ℕ} {top : ℕ} {m : List ℕ} {bytes n p : ℕ} → ReaderRefusal T top m bytes n p → 1 ≤ n
reader_number (by_rules R) = (refusal_numbered R).some_number
reader_number (short_list e l) = omega arith

refused_numbers : (n p : ℕ) → 1 ≤ n → reading_numbers (reading_of (refused n p)) ≡ numbers (refused n p)
unfolding reading_numbers reading_of refused numbers
refused_numbers n p h = rw (ne_eqb n 0 (λ e. omega arith))

pub numbers_told : NumbersTold
unfolding reading_numbers reading_of accepted numbers
numbers_told T top m bytes = go (reading T top m bytes) (answered T top m bytes)
  where
    go : (a : Answer) → Answered T top m bytes a → reading_numbers (reading_of a) ≡ numbers a
    go a (yes_read e f) = refl
    go a (not_read {n} {p} R) = refused_numbers n p (reader_number R)

-- ---- 12 to 16

-- none of them is a refusal of a 1.0 message
old_number : {T : List ℕ} {top : ℕ} {m : List ℕ} {n p : ℕ} → Version10 m → Refusal T top m n p → 12 ≤ n → n ≤ 16 → ⊥
old_number o (broken_table B) a b = let k = broken_class B in omega (arith, k.0)
old_number o (no_top_lem F t) a b = omega arith
old_number o (too_great F t l) a b = omega arith
old_number o (no_size_lem A l) a b = omega arith
old_number o (wrong_size A l e) a b = omega arith
old_number o (wrong_version S e k) a b = omega arith
old_number o (with_optionals O w) a b = omega arith
old_number o (cut_off S x y) a b = omega arith
old_number o (misread S (in_both l h n) x y) a b = n a b
old_number o (misread S (in_new v l h) x y) a b = v o
old_number o (no_text S x y) a b = omega arith
old_number o (wrong_lead O k l) a b = omega arith

pub old_numbers : OldNumbers
unfolding accepted refused
old_numbers T top m bytes o a b = go (reading T top m bytes) (answered T top m bytes) a b
  where
    go : (r : Answer) → Answered T top m bytes r → 12 ≤ r.refusal → r.refusal ≤ 16 → ⊥
    go r (yes_read e f) a b = omega arith
    go r (not_read (by_rules R)) a b = old_number o R a b
    go r (not_read (short_list e l)) a b = omega arith
