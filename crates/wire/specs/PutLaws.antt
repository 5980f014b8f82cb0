-- Laws of `Put.put`: parts put one after another are put all at once. Assumes nothing.
--
--   put_fits, put_over, put_none    what it is where the bytes fit, where they do not, and of no bytes
--   put_sets                        where they fit, it is a store for each byte
--   put_length                      the list keeps its length
--   put_put                         bytes put after bytes
--   put_front                       bytes put at the start
--   header_bits_lem                     a header byte of bits in their range
use Rattle.std.specs.Prelude.{◌≡◌, refl, Bool, true, false, List, [], ◌∷◌, ◌++◌, ℕ, suc, ◌+◌, ◌*◌, ◌≤◌, ◌<◌, length, take, drop, set, leb}
use Rattle.std.proofs.Common.{sym, ap, ◌∙◌, arith, add-zero, zero-add, length-append, leb-true, leb-false, le-leb}
use Rattle.std.proofs.lemmas.List.Edits.{sets, sets-eq}
use Rattle.std.proofs.Math.Seq.{length-sets}
use Rattle.std.proofs.lemmas.Bool.{lt-leb}
use Rattle.wire.specs.Put.{put, header_bits}

pub put_fits : (at : ℕ) (b out : List ℕ) → at + length b ≤ length out → put at b out ≡ take at out ++ b ++ drop (at + length b) out
unfolding put
put_fits at b out h = rw (le-leb (at + length b) (length out) h)

pub put_over : (at : ℕ) (b out : List ℕ) → length out < at + length b → put at b out ≡ out
unfolding put
put_over at b out h = rw (lt-leb (at + length b) (length out) h)

pub put_sets : (at : ℕ) (b out : List ℕ) → at + length b ≤ length out → put at b out ≡ sets out at b
put_sets at b out h = put_fits at b out h ∙ sym (sets-eq b out at h)

pub put_none : (at : ℕ) (out : List ℕ) → put at [] out ≡ out
put_none at out = go (leb (at + 0) (length out)) refl
  where
    go : (t : Bool) → leb (at + 0) (length out) ≡ t → put at [] out ≡ out
    go true e = put_sets at [] out (leb-true _ _ e)
    go false e = put_over at [] out (leb-false _ _ e)

pub put_length : (at : ℕ) (b out : List ℕ) → length (put at b out) ≡ length out
put_length at b out = go (leb (at + length b) (length out)) refl
  where
    go : (t : Bool) → leb (at + length b) (length out) ≡ t → length (put at b out) ≡ length out
    go true e = ap length (put_sets at b out (leb-true _ _ e)) ∙ length-sets out at b
    go false e = ap length (put_over at b out (leb-false _ _ e))

-- stores after stores
sets_append : (b c out : List ℕ) (at : ℕ) → sets out at (b ++ c) ≡ sets (sets out at b) (at + length b) c
sets_append [] c out at = ap (λ (n : ℕ). sets out n c) (sym (add-zero at))
sets_append (x ∷ b) c out at =
    sets_append b c (set out at x) (suc at) ∙ ap (λ (n : ℕ). sets (sets (set out at x) (suc at) b) n c) (omega arith)

pub put_put : (at p : ℕ) (b c out : List ℕ) → p ≡ at + length b → at + length b + length c ≤ length out
    → put p c (put at b out) ≡ put at (b ++ c) out
put_put at p b c out e h =
    let l = put_length at b out in
    let k = length-append b c in
    rw e (put_sets (at + length b) c (put at b out) (omega arith)
    ∙ ap (λ (z : List ℕ). sets z (at + length b) c) (put_sets at b out (omega arith))
    ∙ sym (sets_append b c out at) ∙ sym (put_sets at (b ++ c) out (omega arith)))

pub put_front : (b out : List ℕ) → length b ≤ length out → put 0 b out ≡ b ++ drop (length b) out
put_front b out h = rw zero-add at (put_fits 0 b out (omega arith))

pub header_bits_lem : (t k : ℕ) → t < 32 → k < 8 → header_bits t k ≡ t * 8 + k
unfolding header_bits
header_bits_lem t k h l = omega arith
