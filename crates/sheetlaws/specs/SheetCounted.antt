-- The counts are those of M-107's answers. Assumes nothing.
--
--   Agrees, agree_counts      what the messages say, by their answers
--   says_agree                of a buffer, with room for all
--   sheet_counts              the promise
use Rattle.std.proofs.Math.Path.{◌≡◌, refl, sym, ap, ap₂, subst}
use Rattle.std.proofs.Common.{◌∙◌, length-drop}
use Rattle.std.proofs.Math.Bool.{Bool, true, false, not}
use Rattle.std.specs.Prelude.{◌&&◌, ℕ, zero, suc, ◌+◌, ◌-◌, ◌*◌, ◌/◌, ◌≤◌, ◌<◌, take, drop, leb, ltb}
use mathlib.Core.List.{List, [], ◌∷◌}
use native.Mathlib.Omega.{arith}
use Rattle.std.proofs.Math.Decide.{ℕ_discrete}
use Rattle.std.proofs.Math.ListN.{length}
use Rattle.std.proofs.Math.Dec.{eqb}
use borrow.Author.Tests.{le-leb, ne_eqb, eq-eqb}
use Rattle.encoding.specs.Result.{Res, ok, bad, pick}
use Rattle.encoding.specs.Number.{Bytes, negative}
use Rattle.encoding.proofs.NumberLaws.{bytes_take, bytes_drop}
use Rattle.encoding.specs.Message.{Read, limit, rules, Row, rows, Answer, refused, accepted, answer, room, within, reading}
use Rattle.encoding.specs.View.{Seen, part, fallback, nothing, row_of}
use Rattle.laws.proofs.Refusals.{refusal_numbered, rules_refused}
use Rattle.laws.proofs.Small.{accepted_small}
use Rattle.prepare.specs.Preparing.{checks}
use Rattle.prepare.specs.declared.Prepared.{Prepared}
use Rattle.prepare.specs.declared.Prepared.TheVariants.{Ready, Refused}
use Rattle.night.specs.Night.{size_at, stretch_at, advance, stretch_read, stretch_answer, night, Night}
use Rattle.night.proofs.NightLaws.{night_none, night_pass, night_stop}
use Rattle.night.proofs.StopLaws.{stop_read_lem}
use Rattle.night.specs.Steps.{stop_number, stop_read}
use Rattle.sums.specs.declared.Sheet.{Sheet}
use Rattle.sums.specs.declared.Says.{Says}
use Rattle.sums.specs.declared.Says.TheVariants.{Carries as Value, Lacks, Refuses}
use Rattle.sums.specs.Sums.{lift_sheet, tally_one, tally}
use Rattle.season.specs.Season.{width, seen_says, read_says, says_of}
use Rattle.season.specs.SeasonLaws.{passes_here, stops_here, says_none, says_pass, says_stop}
use Rattle.sheet.specs.SheetLaws.{refused_small}
use Rattle.sheetlaws.specs.SheetDemands.{how_many, is_refused, is_carrier, is_lacking, Counted, SheetCounts}
use Rattle.sheetlaws.specs.SheetProofs.{After, after_of}

module _ (member : ℕ) where
  -- a row of the member
  abbrev of_member : Row → Bool
  of_member r = eqb r.member member

  data Agree : Says → Answer → Type 0 where
    values : {u : ℕ} {a : Answer} → is_refused a ≡ false → eqb (how_many of_member a.rows) 0 ≡ false → Agree (Value u) a
    lackings : {a : Answer} → is_refused a ≡ false → eqb (how_many of_member a.rows) 0 ≡ true → Agree Lacks a
    refusals : {a : Answer} → is_refused a ≡ true → Agree Refuses a

  data Agrees : List Says → List Answer → Type 0 where
    none : Agrees [] []
    one_more : {x : Says} {a : Answer} {l : List Says} {ys : List Answer} → Agree x a → Agrees l ys → Agrees (x ∷ l) (a ∷ ys)

  -- ---- the counts

  record Counts (t u : Sheet) (ys : List Answer) : Type 0 where
    carriers : u.carriers ≡ t.carriers + how_many (is_carrier member) ys
    lacking : u.lacking ≡ t.lacking + how_many (is_lacking member) ys
    refused : u.refused ≡ t.refused + how_many is_refused ys

  counts_next : (t u : Sheet) (x : Says) (a : Answer) (ys : List Answer) → Agree x a → Counts (tally_one x t) u ys → Counts t u (a ∷ ys)
  unfolding tally_one how_many is_carrier is_lacking
  counts_next t u (Value n) a ys (values r h) C =
      let c : ◌≡◌ {A = ℕ} (pick (is_carrier member a) 1 0) 1 = ap₂ (λ (x y : Bool). pick (not x && not y) 1 0) r h in
      let l : ◌≡◌ {A = ℕ} (pick (is_lacking member a) 1 0) 0 = ap₂ (λ (x y : Bool). pick (not x && y) 1 0) r h in
      let f : ◌≡◌ {A = ℕ} (pick (is_refused a) 1 0) 0 = ap (λ (x : Bool). pick x 1 0) r in
      record { carriers = omega (arith, C.carriers, c); lacking = omega (arith, C.lacking, l); refused = omega (arith, C.refused, f) }
  counts_next t u Lacks a ys (lackings r h) C =
      let c : ◌≡◌ {A = ℕ} (pick (is_carrier member a) 1 0) 0 = ap₂ (λ (x y : Bool). pick (not x && not y) 1 0) r h in
      let l : ◌≡◌ {A = ℕ} (pick (is_lacking member a) 1 0) 1 = ap₂ (λ (x y : Bool). pick (not x && y) 1 0) r h in
      let f : ◌≡◌ {A = ℕ} (pick (is_refused a) 1 0) 0 = ap (λ (x : Bool). pick x 1 0) r in
      record { carriers = omega (arith, C.carriers, c); lacking = omega (arith, C.lacking, l); refused = omega (arith, C.refused, f) }
  counts_next t u Refuses a ys (refusals r) C =
      let n : Bool = eqb (how_many of_member a.rows) 0 in
      let c : ◌≡◌ {A = ℕ} (pick (is_carrier member a) 1 0) 0 = ap (λ (x : Bool). pick (not x && not n) 1 0) r in
      let l : ◌≡◌ {A = ℕ} (pick (is_lacking member a) 1 0) 0 = ap (λ (x : Bool). pick (not x && n) 1 0) r in
      let f : ◌≡◌ {A = ℕ} (pick (is_refused a) 1 0) 1 = ap (λ (x : Bool). pick x 1 0) r in
      record { carriers = omega (arith, C.carriers, c); lacking = omega (arith, C.lacking, l); refused = omega (arith, C.refused, f) }

  agree_counts : {l : List Says} {ys : List Answer} → Agrees l ys → (t : Sheet) → Counts t (tally l t) ys
  unfolding tally how_many
  agree_counts none t = record { carriers = omega arith; lacking = omega arith; refused = omega arith }
  agree_counts (one_more {x} {a} {l} {ys} A L) t = counts_next t (tally l (tally_one x t)) x a ys A (agree_counts L (tally_one x t))

  -- ---- one message

  some_row : (rs : List Row) (p l : ℕ) → row_of member rs ≡ part p l → eqb (how_many of_member rs) 0 ≡ false
  unfolding row_of how_many
  some_row [] p l h = let z : ◌≡◌ {A = ℕ} 0 1 = cc in absurd (omega arith)
  some_row (r ∷ rs) p l h = go (eqb r.member member) refl (ℕ_discrete member r.member) h (λ x. some_row rs p l x)
    where
      go : (b : Bool) → eqb r.member member ≡ b → Dec (member ≡ r.member) → pick (eqb member r.member) (part r.place r.len) (row_of member rs) ≡ part p l
          → (row_of member rs ≡ part p l → eqb (how_many of_member rs) 0 ≡ false) → eqb (pick (eqb r.member member) 1 0 + how_many of_member rs) 0 ≡ false
      go b e (yes q) h ih =
          let k : ◌≡◌ {A = ℕ} (pick (eqb r.member member) 1 0) 1 = ap (λ (x : Bool). pick x 1 0) (eq-eqb r.member member (sym q)) in
          ne_eqb (pick (eqb r.member member) 1 0 + how_many of_member rs) 0 (λ z. omega (arith, z, k))
      go b e (no q) h ih =
          let k : eqb (how_many of_member rs) 0 ≡ false = ih (sym (ap (λ (x : Bool). pick x (part r.place r.len) (row_of member rs)) (ne_eqb member r.member q)) ∙ h) in
          ap (λ (x : Bool). eqb (pick x 1 0 + how_many of_member rs) 0) (ne_eqb r.member member (λ z. q (sym z)))
          ∙ ap (λ (i : ℕ). eqb i 0) (zero_more (how_many of_member rs)) ∙ k
        where
          zero_more : (n : ℕ) → 0 + n ≡ n
          zero_more n = omega arith

  no_row : (rs : List Row) → row_of member rs ≡ fallback → how_many of_member rs ≡ 0
  unfolding row_of how_many
  no_row [] h = refl
  no_row (r ∷ rs) h = go (ℕ_discrete member r.member) h (λ x. no_row rs x)
    where
      go : Dec (member ≡ r.member) → pick (eqb member r.member) (part r.place r.len) (row_of member rs) ≡ fallback → (row_of member rs ≡ fallback → how_many of_member rs ≡ 0)
          → pick (eqb r.member member) 1 0 + how_many of_member rs ≡ 0
      go (yes q) h ih =
          let e : part r.place r.len ≡ fallback = sym (ap (λ (x : Bool). pick x (part r.place r.len) (row_of member rs)) (eq-eqb member r.member q)) ∙ h in
          let z : ◌≡◌ {A = ℕ} 0 1 = cc in absurd (omega arith)
      go (no q) h ih =
          let k : how_many of_member rs ≡ 0 = ih (sym (ap (λ (x : Bool). pick x (part r.place r.len) (row_of member rs)) (ne_eqb member r.member q)) ∙ h) in
          let j : ◌≡◌ {A = ℕ} (pick (eqb r.member member) 1 0) 0 = ap (λ (x : Bool). pick x 1 0) (ne_eqb r.member member (λ z. q (sym z))) in
          omega (arith, k, j)

  never_nothing : (rs : List Row) → row_of member rs ≡ nothing → ⊥
  unfolding row_of
  never_nothing [] h = let z : ◌≡◌ {A = ℕ} 0 1 = cc in omega arith
  never_nothing (r ∷ rs) h = go (eqb member r.member) h (λ x. never_nothing rs x)
    where
      go : (b : Bool) → pick b (part r.place r.len) (row_of member rs) ≡ nothing → (row_of member rs ≡ nothing → ⊥) → ⊥
      go true h ih = let z : ◌≡◌ {A = ℕ} 0 1 = cc in omega arith
      go false h ih = ih h

  module _ (T : List ℕ) (top : ℕ) where
    -- with room for the rows of any message
    says_one : (m : List ℕ) → Bytes m → (left : ℕ) → 12288 ≤ left → Agree (read_says T top member m (rules T top m)) (reading T top m left)
    unfolding read_says reading answer within room refused seen_says accepted is_refused
    says_one m y left room-there = go (rules T top m) refl
      where
        fits : (a : Answer) → length a.rows ≤ 1024 → within (room left) a ≡ a
        fits a h = ap (λ (b : Bool). pick b a (refused 19 (length a.rows))) (le-leb (length a.rows) (left / 12) (omega arith))

        seen : (rd : Read) → (v : Seen) → row_of member (rows T top rd.format rd.pieces) ≡ v → Agree (seen_says (width T member) m v) (accepted T top rd)
        seen rd (part p l) e = values refl (some_row (rows T top rd.format rd.pieces) p l e)
        seen rd fallback e = lackings refl (eq-eqb (how_many of_member (rows T top rd.format rd.pieces)) 0 (no_row (rows T top rd.format rd.pieces) e))
        seen rd nothing e = absurd (never_nothing (rows T top rd.format rd.pieces) e)

        go : (r : Res Read) → rules T top m ≡ r → Agree (read_says T top member m r) (within (room left) (answer T top r))
        go (bad c p) e =
            let N = refusal_numbered (rules_refused T top m e) in
            subst (λ (a : Answer). Agree Refuses a) (sym (fits (refused c p) (omega arith))) (refusals (ap not (ne_eqb c 0 (λ z. omega (arith, N.some_number)))))
        go (ok rd n) e =
            let S = accepted_small T top m rd.format rd.pieces n y e in
            subst (λ (a : Answer). Agree (read_says T top member m (ok rd n)) a) (sym (fits (accepted T top rd) S.count)) (seen rd (row_of member (rows T top rd.format rd.pieces)) refl)

    reading_few : (m : List ℕ) → Bytes m → (left : ℕ) → length (reading T top m left).rows ≤ 1024
    unfolding reading answer within refused accepted
    reading_few m y left = go (rules T top m) refl
      where
        by : (a : Answer) → length a.rows ≤ 1024 → (b : Bool) → length (pick b a (refused 19 (length a.rows))).rows ≤ 1024
        by a h true = h
        by a h false = omega arith

        go : (r : Res Read) → rules T top m ≡ r → length (within (room left) (answer T top r)).rows ≤ 1024
        go (bad c p) e = by (refused c p) (omega arith) (leb 0 (room left))
        go (ok rd n) e =
            let S = accepted_small T top m rd.format rd.pieces n y e in by (accepted T top rd) S.count (leb (length (rows T top rd.format rd.pieces)) (room left))

    -- what stops the walk
    says_last : (xs : List ℕ) → 0 < length xs → advance (stretch_at xs) ≡ 0 → (left : ℕ) → Agree Refuses (stretch_answer T top left (stretch_at xs))
    unfolding stretch_answer stop_read answer within refused is_refused stop_number
    says_last xs l z left = go (checks T top 1 0) refl
      where
        is : (c q : ℕ) → 0 < c → stretch_read T top (stretch_at xs) ≡ bad c q → Agree Refuses (within (room left) (answer T top (stretch_read T top (stretch_at xs))))
        is c q h e =
            subst (λ (r : Res Read). Agree Refuses (within (room left) (answer T top r))) (sym e)
            (refusals (ap (λ (b : Bool). not (eqb (pick b (refused c q) (refused 19 0)).refusal 0)) (le-leb 0 (room left) (omega arith)) ∙ ap not (ne_eqb c 0 (λ x. omega arith))))

        some_number : (n : ℕ) → n ≡ stop_number xs → 0 < n
        some_number n e = by (ltb limit (length xs)) (ltb (length xs) 4) (leb (size_at xs) limit) (negative 4 (size_at xs)) e
          where
            by : (a b c d : Bool) → n ≡ pick a 3 (pick b 4 (pick c 5 (pick d 5 3))) → 0 < n
            by true b c d e = omega arith
            by false true c d e = omega arith
            by false false true d e = omega arith
            by false false false true e = omega arith
            by false false false false e = omega arith

        go : (p : Prepared) → checks T top 1 0 ≡ p → Agree Refuses (within (room left) (answer T top (stretch_read T top (stretch_at xs))))
        go (Refused c q) e = is c q (refused_small T top c q (sym e)).0 (stop_read_lem T top xs l z (Refused c q) (sym e))
        go Ready e = is (stop_number xs) 0 (some_number (stop_number xs) refl) (stop_read_lem T top xs l z Ready (sym e))

    -- ---- all messages; the first number is fuel
    says_agree : (f : ℕ) (xs : List ℕ) → length xs ≤ f → Bytes xs → (space left : ℕ) → 28 * length xs ≤ space → 12288 * length xs ≤ left
        → Agrees (says_of T top xs member) (night T top xs space left).answers
    says_agree zero xs h y space left hs hl =
        subst (λ (l : List Says). Agrees l (night T top xs space left).answers) (sym (says_none T top member xs (omega arith)))
        (subst (λ (w : Night). Agrees [] w.answers) (sym (night_none T top space left xs (omega arith))) none)
    says_agree (suc f) xs h y space left hs hl = by (ℕ_discrete (length xs) 0) (ℕ_discrete (advance (stretch_at xs)) 0) (λ n k a b. says_agree f (drop n xs) k (bytes_drop n xs y) (space - 28) (left - 12 * length (reading T top (take n xs) left).rows) a b)
      where
        by : Dec (length xs ≡ 0) → Dec (advance (stretch_at xs) ≡ 0)
            → ((n : ℕ) → length (drop n xs) ≤ f → 28 * length (drop n xs) ≤ space - 28 → 12288 * length (drop n xs) ≤ left - 12 * length (reading T top (take n xs) left).rows
            → Agrees (says_of T top (drop n xs) member) (night T top (drop n xs) (space - 28) (left - 12 * length (reading T top (take n xs) left).rows)).answers)
            → Agrees (says_of T top xs member) (night T top xs space left).answers
        by (yes e) d ih =
            subst (λ (l : List Says). Agrees l (night T top xs space left).answers) (sym (says_none T top member xs e))
            (subst (λ (w : Night). Agrees [] w.answers) (sym (night_none T top space left xs e)) none)
        by (no e) (yes z) ih =
            let l : 0 < length xs = omega arith in
            subst (λ (k : List Says). Agrees k (night T top xs space left).answers) (sym (says_stop T top member xs l z))
            (subst (λ (w : Night). Agrees (Refuses ∷ []) w.answers) (sym (night_stop T top space left (omega arith) xs (stretch_at xs) (stops_here xs l z) z)) (one_more (says_last xs l z left) none))
        by (no e) (no z) ih =
            let n : ℕ = advance (stretch_at xs) in
            let l : 0 < length xs = omega arith in
            let P = passes_here xs n l refl (omega arith) in
            let d = length-drop n xs in
            let few = reading_few (take n xs) (bytes_take n xs y) left in
            subst (λ (k : List Says). Agrees k (night T top xs space left).answers) (sym (says_pass T top member xs n P))
            (subst (λ (w : Night). Agrees (read_says T top member (take n xs) (rules T top (take n xs)) ∷ says_of T top (drop n xs) member) w.answers) (sym (night_pass T top space left (omega arith) xs n P))
            (one_more (says_one (take n xs) (bytes_take n xs y) left (omega arith)) (ih n (omega (arith, d, P.least)) (omega (arith, d, P.least)) (omega (arith, d, P.least, few)))))

pub sheet_counts : SheetCounts
unfolding lift_sheet
sheet_counts T top buffer member s s' space left A hs hl = go (after_of T top buffer member s s' A.call) (agree_counts member (says_agree member T top (length buffer) buffer (omega arith) A.bytes space left hs (omega arith)) (lift_sheet s))
  where
    go : After T top buffer member s s' → Counts member (lift_sheet s) (tally (says_of T top buffer member) (lift_sheet s)) (night T top buffer space left).answers → Counted member s s' (night T top buffer space left).answers
    go F C = record {
      carriers = ap (λ (x : Sheet). x.carriers) F.sheet ∙ C.carriers;
      lacking = ap (λ (x : Sheet). x.lacking) F.sheet ∙ C.lacking;
      refused = ap (λ (x : Sheet). x.refused) F.sheet ∙ C.refused;
    }
