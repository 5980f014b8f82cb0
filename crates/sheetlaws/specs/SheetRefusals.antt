-- Which calls are refused, and why. Assumes nothing.
--
--   messages_are       the messages of a buffer are as many as its answers with room for all
--   sheet_refused      each refusal says what is wrong
--   sheet_given        nothing else is refused
use Rattle.std.specs.Prelude.{◌≡◌, refl, Bool, true, false, ◌||◌, List, [], ◌∷◌, ℕ, zero, suc, ◌+◌, ◌-◌, ◌*◌, ◌≤◌, ◌<◌, length, drop, eqb, ltb}
use Rattle.std.proofs.Common.{sym, ap, ap₂, ◌∙◌, true≢false, arith, length-drop, ltb-true, le-ltb}
use Rattle.std.proofs.Math.Decide.{ℕ_discrete}
use Rattle.std.proofs.lemmas.Bool.{lt-leb}
use Rattle.encoding.specs.Result.{pick, first_of}
use Rattle.encoding.specs.Table.{members, member_type, kind, Fault, fine, fault, faults}
use Rattle.encoding.specs.Message.{no_top}
use Rattle.encoding.specs.Write.{no_format}
use Rattle.prepare.specs.Preparing.{before, checked, checks}
use Rattle.prepare.specs.declared.Prepared.TheVariants.{Ready}
use Rattle.night.specs.Night.{Stretch, stretch_at, stretches, advance, stretch_answer, answer_then, answers_to, night}
use Rattle.night.proofs.NightLaws.{stretches_none, stretches_pass}
use Rattle.sums.specs.declared.Sheet.{Sheet}
use Rattle.sums.specs.Sums.{lift_sheet, total, most, amiss, judgement, tally}
use Rattle.season.specs.Season.{width_of, width, says_of}
use Rattle.season.specs.SeasonLaws.{passes_here, stops_here}
use Rattle.sheet.specs.Sheet.{sheet_form, summed, adding, add}
use Rattle.sheetlaws.specs.SheetDemands.{Summable, a_short, an_int, messages, SheetRefusedAt, broken_table, no_top_lem, not_summable, too_many, not_sound, SheetRefused, SheetGiven}
use Rattle.sheetlaws.specs.SheetProofs.{answers, fifty_three}

-- ---- the messages

-- the first number is fuel
stretches_short : (f : ℕ) (xs : List ℕ) → length xs ≤ f → length (stretches xs) ≤ length xs
stretches_short zero xs h = omega (arith, ap length (stretches_none xs (omega arith)))
stretches_short (suc f) xs h = by (ℕ_discrete (length xs) 0) (ℕ_discrete (advance (stretch_at xs)) 0) (λ n k. stretches_short f (drop n xs) k)
  where
    by : Dec (length xs ≡ 0) → Dec (advance (stretch_at xs) ≡ 0) → ((n : ℕ) → length (drop n xs) ≤ f → length (stretches (drop n xs)) ≤ length (drop n xs)) → length (stretches xs) ≤ length xs
    by (yes e) d ih = omega (arith, ap length (stretches_none xs e))
    by (no e) (yes z) ih = let l : 0 < length xs = omega arith in omega (arith, ap length (stops_here xs l z))
    by (no e) (no z) ih =
        let n : ℕ = advance (stretch_at xs) in
        let P = passes_here xs n (omega arith) refl (omega arith) in
        let d = length-drop n xs in
        omega (arith, ap length (stretches_pass xs n P), ih n (omega (arith, d, P.least)), d, P.least, P.inside)

answers_count : (T : List ℕ) (top : ℕ) (l : List Stretch) (space left : ℕ) → 28 * length l ≤ space → length (answers_to T top space left l) ≡ length l
unfolding answers_to answer_then
answers_count T top [] space left h = refl
answers_count T top (s ∷ l) space left h =
    ap (λ (b : Bool). length (pick b [] (stretch_answer T top left s ∷ answers_to T top (space - 28) (left - 12 * length (stretch_answer T top left s).rows) l))) (le-ltb space 28 (omega arith))
    ∙ ap suc (answers_count T top l (space - 28) (left - 12 * length (stretch_answer T top left s).rows) (omega arith))

messages_are : (T : List ℕ) (top : ℕ) (buffer : List ℕ) → messages T top buffer ≡ length (stretches buffer)
unfolding night
messages_are T top buffer = answers_count T top (stretches buffer) (28 * length buffer) 0 (omega (arith, stretches_short (length buffer) buffer (omega arith)))

-- ---- the member

summable_width : (T : List ℕ) (member : ℕ) → Summable T member → eqb (width T member) 0 ≡ false
unfolding width width_of
summable_width T member (a_short h k) =
    ap (λ (i : ℕ). eqb i 0) (ap (λ (b : Bool). pick b 0 (width_of (kind T (member_type T member)))) (lt-leb (members T) member h) ∙ ap width_of k)
summable_width T member (an_int h k) =
    ap (λ (i : ℕ). eqb i 0) (ap (λ (b : Bool). pick b 0 (width_of (kind T (member_type T member)))) (lt-leb (members T) member h) ∙ ap width_of k)

-- ---- the refusals

pub sheet_refused : SheetRefused
unfolding add adding sheet_form summed judgement first_of total
sheet_refused T top buffer member s W h =
    go (faults T) refl (no_top T top) refl (eqb (width T member) 0) refl (ltb most (length (stretches buffer) + total s)) refl (amiss (lift_sheet s)) refl h
  where
    u : Sheet
    u = lift_sheet (tally (says_of T top buffer member) (lift_sheet s))

    n : Bool → Bool → Bool → Bool → ℕ
    n a b c d = pick a 2 (first_of ((43, b) ∷ (53, false) ∷ (44, c) ∷ (53, false || d) ∷ []))

    go : (f : Fault) → faults T ≡ f → (a : Bool) → no_top T top ≡ a → (b : Bool) → eqb (width T member) 0 ≡ b
        → (c : Bool) → ltb most (length (stretches buffer) + total s) ≡ c → (d : Bool) → amiss (lift_sheet s) ≡ d → ((summed f (n a b c d) s u).refusal ≡ 0 → ⊥)
        → SheetRefusedAt T top buffer member s (summed f (n a b c d) s u).refusal (summed f (n a b c d) s u).place
    go (fault x p) ef a ea b eb c ec d ed h = broken_table ef
    go fine ef true ea b eb c ec d ed h = no_top_lem ea
    go fine ef false ea true eb c ec d ed h = not_summable (λ S. true≢false (sym eb ∙ summable_width T member S))
    go fine ef false ea false eb true ec d ed h = too_many (omega (arith, ltb-true most (length (stretches buffer) + total s) ec, messages_are T top buffer))
    go fine ef false ea false eb false ec true ed h = not_sound (λ S. true≢false (sym ed ∙ (fifty_three s W).1 S))
    go fine ef false ea false eb false ec false ed h = absurd (h refl)

ready_of : (T : List ℕ) (top : ℕ) → faults T ≡ fine → no_top T top ≡ false → Ready ≡ checks T top 1 0
unfolding checks checked before first_of no_format
ready_of T top f n = sym (ap₂ (λ (x : Fault) (b : Bool). checked x (first_of ((2, b) ∷ (23, no_format (kind T top) 1) ∷ (26, false) ∷ (3, false) ∷ []))) f n)

pub sheet_given : SheetGiven
unfolding total
sheet_given T top buffer member s W f n S few sound = (
  lift_sheet (tally (says_of T top buffer member) (lift_sheet s)),
  answers T top buffer member s (ready_of T top f n) (summable_width T member S) (omega (arith, few, messages_are T top buffer)) ((fifty_three s W).1 sound),
)
