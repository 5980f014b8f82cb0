-- Numbers one after another are judged by their count and the bytes left: each is so many bytes of any content. Assumes nothing.
--
--   wide_skips          a so-wide number is so many bytes of any content
--   skips_whole         all of them, where the bytes are there
--   skips_cut           4 at the first that does not fit
--   numbers_together    the two of each kind of number; numbers_counted of a sequence
use Rattle.std.specs.Prelude.{◌≡◌, refl, List, ℕ, zero, suc, ◌*◌, ◌≤◌, ◌<◌, length, drop}
use Rattle.std.proofs.Common.{sym, ap, ◌∙◌, zero-mul, suc-mul, arith, length-drop}
use Rattle.std.proofs.lemmas.Bool.{lt-leb}
use Rattle.encoding.specs.Result.{ok, bad, Parser, shift, pure, chunk, skip, times}
use Rattle.encoding.proofs.ResultLaws.{bind_step, bind_bad, bind_next, chunk_step}
use Rattle.encoding.specs.Number.{size}
use Rattle.encoding.specs.Types.{Ty, seq}
use Rattle.encoding.specs.Value.{value}
use Rattle.laws.specs.Demands.{Wide, of_byte, of_short, of_int, of_long, of_float, of_double, NumbersTogether, NumbersCounted}

wide_skips : {t : Ty} {w : ℕ} → Wide t w → value t ≡ skip w
unfolding value
wide_skips of_byte = refl
wide_skips of_short = refl
wide_skips of_int = refl
wide_skips of_long = refl
wide_skips of_float = refl
wide_skips of_double = refl

skip_there : (w : ℕ) (b : List ℕ) → w ≤ length b → skip w b ≡ ok tt w
unfolding skip
skip_there w b h = chunk_step w (λ _. tt) b h

skip_cut : (w : ℕ) (b : List ℕ) → length b < w → skip w b ≡ bad 4 0
unfolding skip chunk
skip_cut w b h = rw (lt-leb w (length b) h)

skips_whole : (w n : ℕ) (b : List ℕ) → n * w ≤ length b → times n (skip w) b ≡ ok tt (n * w)
unfolding times pure
skips_whole w zero b h = ap (ok tt) (sym (zero-mul w))
skips_whole w (suc n) b h =
    let e = suc-mul n w in
    bind_step (skip w) (λ _. times n (skip w)) b (skip_there w b (omega arith)) (skips_whole w n (drop w b) (omega (arith, length-drop w b)))
    ∙ ap (ok tt) (omega arith)

skips_cut : (w n k : ℕ) (b : List ℕ) → k < n → k * w ≤ length b → length b < suc k * w → times n (skip w) b ≡ bad 4 (k * w)
unfolding times shift
skips_cut w zero k b l h c = absurd (omega arith)
skips_cut w (suc n) zero b l h c =
    let e = suc-mul 0 w in
    let z = zero-mul w in
    bind_bad (skip w) (λ _. times n (skip w)) b (skip_cut w b (omega arith)) ∙ ap (bad 4) (sym z)
skips_cut w (suc n) (suc k) b l h c =
    let e = suc-mul k w in
    let f = suc-mul (suc k) w in
    bind_next (skip w) (λ _. times n (skip w)) b (skip_there w b (omega arith))
    ∙ ap (shift w) (skips_cut w n k (drop w b) (omega arith) (omega (arith, length-drop w b)) (omega (arith, length-drop w b)))
    ∙ ap (bad 4) (omega arith)

pub numbers_together : NumbersTogether
numbers_together t w W n b =
    let e : times n (value t) b ≡ times n (skip w) b = ap (λ (p : Parser (Unit {0})). times n p b) (wide_skips W) in
    (λ h. e ∙ skips_whole w n b h, λ k l h c. e ∙ skips_cut w n k b l h c)

pub numbers_counted : NumbersCounted
unfolding value shift
numbers_counted t w W b n k e =
    let rest = numbers_together t w W n (drop k b) in
    let len = length-drop k b in
    let f : value (seq t) b ≡ shift k (times n (value t) (drop k b)) = bind_next size (λ n. times n (value t)) b e in
    (λ h. f ∙ ap (shift k) (rest.0 (omega arith)), λ j l h c. f ∙ ap (shift k) (rest.1 j l (omega arith) (omega arith)))
