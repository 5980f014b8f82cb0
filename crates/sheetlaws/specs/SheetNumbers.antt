-- Laws of a sheet's numbers as integers, and of the messages that are added. Assumes nothing.
--
--   signed_short, signed_int, signed_long    the number of a pattern, by its lifted one
--   AllFit, says_all, season_all             further messages keep a season a season
--   sheet_back                               lifted twice, a season is itself
--   says_split                               what a buffer says, cut after messages that the walk passed
--   MeanIs, mean_inv, mean_there             what holds of a mean that is there; when a mean is there
use Rattle.std.specs.Prelude.{◌≡◌, refl, Bool, true, false, ◌||◌, List, [], ◌∷◌, ◌++◌, map, ℕ, zero, suc, ◌+◌, ◌%◌, ◌^◌, ◌≤◌, ◌<◌, length, take, drop, leb, ltb}
use Rattle.std.proofs.Common.{sym, ap, ap₂, ◌∙◌, arith, length-take, drop-drop, take-take, take-add, drop_at, leb-true, leb-false, ltb-false, le-ltb}
use Rattle.std.proofs.Math.IntN.{sub_ℕ}
use Rattle.encoding.specs.Result.{pick}
use Rattle.encoding.specs.Number.{val, negative}
use Rattle.encoding.specs.Message.{rules}
use Rattle.night.specs.Night.{Stretch, stretch_read}
use Rattle.night.specs.NightDemands.{Passes, Reaches, start, onward}
use Rattle.sums.specs.declared.Extreme.{Extreme}
use Rattle.sums.specs.declared.Sheet.{Sheet}
use Rattle.sums.specs.declared.Says.{Says}
use Rattle.sums.specs.declared.Mean.TheVariants.{Absent as NoMean, Is as IsMean}
use Rattle.sums.specs.Sums.{half, lift, lift_sheet, total, most, amiss, Season, tally_one, tally, lifted_sum, mean_of, mean}
use Rattle.sums.proofs.SumLaws.{SaysFits, season_next, total_next, season_sum, extreme_back, lift_long_back}
use Rattle.season.specs.Season.{read_says, stretch_bytes, stretch_says, says_of}
use Rattle.season.specs.SeasonLaws.{says_fit, says_none, says_pass}
use Rattle.sheetlaws.specs.Integers.{sub_same}
use Rattle.sheetlaws.specs.SheetDemands.{signed}

-- ---- signed numbers

pub signed_short : (n : ℕ) → n < 2 ^ 16 → signed 2 n ≡ sub_ℕ (lift 2 n + 2147450880) (half 4)
unfolding signed negative lift
signed_short n h = go (leb (2 ^ 15) n) refl
  where
    go : (b : Bool) → leb (2 ^ 15) n ≡ b → sub_ℕ n (pick b (2 ^ 16) 0) ≡ sub_ℕ ((n + 2 ^ 15) % 2 ^ 16 + 2147450880) (2 ^ 31)
    go true e = let l = leb-true (2 ^ 15) n e in sub_same n (2 ^ 16) ((n + 2 ^ 15) % 2 ^ 16 + 2147450880) (2 ^ 31) (omega arith)
    go false e = let l = leb-false (2 ^ 15) n e in sub_same n 0 ((n + 2 ^ 15) % 2 ^ 16 + 2147450880) (2 ^ 31) (omega arith)

pub signed_int : (n : ℕ) → n < 2 ^ 32 → signed 4 n ≡ sub_ℕ (lift 4 n) (half 4)
unfolding signed negative lift
signed_int n h = go (leb (2 ^ 31) n) refl
  where
    go : (b : Bool) → leb (2 ^ 31) n ≡ b → sub_ℕ n (pick b (2 ^ 32) 0) ≡ sub_ℕ ((n + 2 ^ 31) % 2 ^ 32) (2 ^ 31)
    go true e = let l = leb-true (2 ^ 31) n e in sub_same n (2 ^ 32) ((n + 2 ^ 31) % 2 ^ 32) (2 ^ 31) (omega arith)
    go false e = let l = leb-false (2 ^ 31) n e in sub_same n 0 ((n + 2 ^ 31) % 2 ^ 32) (2 ^ 31) (omega arith)

pub signed_long : (n : ℕ) → n < 2 ^ 64 → signed 8 n ≡ sub_ℕ (lift 8 n) (half 8)
unfolding signed negative lift
signed_long n h = go (leb (2 ^ 63) n) refl
  where
    go : (b : Bool) → leb (2 ^ 63) n ≡ b → sub_ℕ n (pick b (2 ^ 64) 0) ≡ sub_ℕ ((n + 2 ^ 63) % 2 ^ 64) (2 ^ 63)
    go true e = let l = leb-true (2 ^ 63) n e in sub_same n (2 ^ 64) ((n + 2 ^ 63) % 2 ^ 64) (2 ^ 63) (omega arith)
    go false e = let l = leb-false (2 ^ 63) n e in sub_same n 0 ((n + 2 ^ 63) % 2 ^ 64) (2 ^ 63) (omega arith)

-- ---- further messages

abbrev pub AllFit : List Says → Type 0
AllFit [] = Unit {0}
AllFit (x ∷ l) = SaysFits x × AllFit l

pub says_all : (T : List ℕ) (top member : ℕ) (l : List Stretch) → AllFit (map (stretch_says T top member) l)
unfolding stretch_says
says_all T top member [] = tt
says_all T top member (s ∷ l) = (says_fit T top member (stretch_bytes s) (stretch_read T top s), says_all T top member l)

pub season_all : (l : List Says) → AllFit l → (t : Sheet) → Season t → length l + total t ≤ most → Season (tally l t)
unfolding tally
season_all [] f t S h = S
season_all (x ∷ l) f t S h =
    season_all l f.1 (tally_one x t) (season_next t S (omega arith) x f.0) (omega (arith, total_next x t))

pub length_map : {A B : Type 0} (f : A → B) (l : List A) → length (map f l) ≡ length l
length_map f [] = refl
length_map f (x ∷ l) = ap suc (length_map f l)

-- a season's numbers fit, so the sheet that a call gives holds it
pub sheet_back : (t : Sheet) → Season t → lift_sheet (lift_sheet t) ≡ t
unfolding lift_sheet
sheet_back t S =
    ap₂ (λ (a b : Extreme). record { carriers = t.carriers; lacking = t.lacking; refused = t.refused; smallest = a; largest = b; sum = lift 8 (lift 8 t.sum) }) (extreme_back t.smallest S.low_fits) (extreme_back t.largest S.high_fits)
    ∙ ap (λ (n : ℕ). record { carriers = t.carriers; lacking = t.lacking; refused = t.refused; smallest = t.smallest; largest = t.largest; sum = n }) (lift_long_back t.sum (let R = season_sum t S in omega (arith, R.most_sum)))

-- ---- a buffer in two parts

part_rest : (buffer : List ℕ) (n k : ℕ) → n ≤ length buffer → drop n (take (n + k) buffer) ≡ take k (drop n buffer)
part_rest buffer n k h = ap (drop n) (take-add n k buffer) ∙ drop_at (take n buffer) (take k (drop n buffer)) n (omega (arith, length-take n buffer))

part_passes : (buffer : List ℕ) (n k : ℕ) → Passes buffer n → Passes (take (n + k) buffer) n
part_passes buffer n k P = record {
  there = omega (arith, length-take (n + k) buffer, P.least, P.there);
  size = ap val (take-take 4 (n + k) buffer (omega (arith, P.least))) ∙ P.size;
  least = P.least;
  most = P.most;
  inside = omega (arith, length-take (n + k) buffer, P.inside);
}

module _ (T : List ℕ) (top member : ℕ) where
  -- what a message says
  abbrev one : List ℕ → Says
  one m = read_says T top member m (rules T top m)

  pub says_split : {buffer : List ℕ} {j k : ℕ} → Reaches buffer j k → says_of T top buffer member ≡ says_of T top (take k buffer) member ++ says_of T top (drop k buffer) member
  says_split {buffer} start = ap (λ (l : List Says). l ++ says_of T top buffer member) (sym (says_none T top member (take 0 buffer) (omega (arith, length-take 0 buffer))))
  says_split {buffer} (onward {n} {j} {k} P R) =
      says_pass T top member buffer n P
      ∙ ap (λ (l : List Says). one (take n buffer) ∷ l) (says_split R)
      ∙ ap₂ (λ (m z : List ℕ). one m ∷ (says_of T top z member ++ says_of T top (drop k (drop n buffer)) member)) (sym (take-take n (n + k) buffer (omega arith))) (sym (part_rest buffer n k P.inside))
      ∙ ap₂ (λ (l : List Says) (z : List ℕ). l ++ says_of T top z member) (sym (says_pass T top member (take (n + k) buffer) n (part_passes buffer n k P))) (drop-drop k n buffer)

-- ---- the mean

pub record MeanIs (s : Sheet) (w r : ℕ) : Type 0 where
  pub few : total s ≤ most
  pub right : amiss (lift_sheet s) ≡ false
  pub some : 0 < s.carriers
  pub told : mean_of s.carriers (lifted_sum (lift_sheet s)) ≡ IsMean w r

pub mean_inv : (s : Sheet) (w r : ℕ) → mean s ≡ IsMean w r → MeanIs s w r
unfolding mean mean_of
mean_inv s w r h = go (ltb most (total s)) refl (amiss (lift_sheet s)) refl s.carriers refl h
  where
    go : (a : Bool) → ltb most (total s) ≡ a → (b : Bool) → amiss (lift_sheet s) ≡ b → (n : ℕ) → s.carriers ≡ n
        → pick (a || b) NoMean (mean_of n (lifted_sum (lift_sheet s))) ≡ IsMean w r → MeanIs s w r
    go true ea b eb n en h = let z : ◌≡◌ {A = ℕ} 0 1 = cc in absurd (omega arith)
    go false ea true eb n en h = let z : ◌≡◌ {A = ℕ} 0 1 = cc in absurd (omega arith)
    go false ea false eb zero en h = let z : ◌≡◌ {A = ℕ} 0 1 = cc in absurd (omega arith)
    go false ea false eb (suc n) en h = record {
      few = ltb-false most (total s) ea;
      right = eb;
      some = omega (arith, en);
      told = ap (λ (i : ℕ). mean_of i (lifted_sum (lift_sheet s))) en ∙ h;
    }

-- a sheet of at most 1,000,000 messages that 53 lets pass has the mean of its numbers
pub mean_there : (s : Sheet) → total s ≤ most → amiss (lift_sheet s) ≡ false → mean s ≡ mean_of s.carriers (lifted_sum (lift_sheet s))
unfolding mean
mean_there s h e = ap₂ (λ (a b : Bool). pick (a || b) NoMean (mean_of s.carriers (lifted_sum (lift_sheet s)))) (le-ltb most (total s) h) e
