-- A few bytes of the buffer, put one by one: stores of the bytes of a part one after another are that part, put at once. Assumes nothing.
--
--   stores                  stores of so many bytes of s from a place on, one after another; i of them were stored before
--   copied                  they are one put
--   few_none                a part of no bytes
--   room, few_put, few_end  a part of so many bytes: it fits, is put, and ends inside
use mathlib.Core.Path.{◌≡◌, refl, sym, ap, ◌∙◌}
use mathlib.Core.Bool.{Bool, true}
use mathlib.Core.List.{List}
use Prim.Native.Nat.{ℕ, zero, suc, ◌+◌, ◌≤◌}
use native.Mathlib.Nat.{add-zero}
use native.Mathlib.Omega.{arith}
use lib.ListN.{length, take, drop, get_or, set, length-drop}
use lib.Seq.{sets, drop-cons, length-take-le}
use lib.Dec.{leb}
use Rattle.wire.specs.Put.{put}
use Rattle.wire.specs.PutLaws.{put_sets}
use Rattle.pieces.specs.Puts.{Puts}
use Rattle.pieces.specs.PutsLaws.{puts_one, puts_none, puts_is}
use Rattle.pieces.proofs.Judges.{part_inside}

abbrev stores : ℕ → List ℕ → ℕ → List ℕ → ℕ → ℕ → List ℕ
stores zero out at s p i = out
stores (suc k) out at s p i = stores k (set out (at + i) (get_or s (p + i) 0)) at s p (suc i)

stored : (k : ℕ) (out : List ℕ) (at : ℕ) (s : List ℕ) (p i : ℕ) → p + i + k ≤ length s → stores k out at s p i ≡ sets out (at + i) (take k (drop (p + i) s))
stored zero out at s p i h = refl
stored (suc k) out at s p i h =
    let e : at + suc i ≡ suc (at + i) = omega arith in
    let f : p + suc i ≡ suc (p + i) = omega arith in
    stored k (set out (at + i) (get_or s (p + i) 0)) at s p (suc i) (omega arith)
    ∙ ap (λ (q : ℕ). sets (set out (at + i) (get_or s (p + i) 0)) q (take k (drop (p + suc i) s))) e
    ∙ ap (λ (q : ℕ). sets (set out (at + i) (get_or s (p + i) 0)) (suc (at + i)) (take k (drop q s))) f
    ∙ ap (λ (l : List ℕ). sets out (at + i) (take (suc k) l)) (sym (drop-cons s (p + i) 0 (omega arith)))

-- as many bytes as there are
part_long : (k : ℕ) (s : List ℕ) (p : ℕ) → p + k ≤ length s → length (take k (drop p s)) ≡ k
part_long k s p h = length-take-le k (drop p s) (omega (arith, length-drop p s))

pub copied : (k : ℕ) (out : List ℕ) (at : ℕ) (s : List ℕ) (p : ℕ) → at + k ≤ length out → p + k ≤ length s → stores k out at s p 0 ≡ put at (take k (drop p s)) out
copied k out at s p h l =
    stored k out at s p 0 (omega arith)
    ∙ ap (λ (q : ℕ). sets out q (take k (drop (p + 0) s))) (add-zero at)
    ∙ ap (λ (q : ℕ). sets out at (take k (drop q s))) (add-zero p)
    ∙ sym (put_sets at (take k (drop p s)) out (omega (arith, part_long k s p l)))

pub few_none : (s : List ℕ) (p n at : ℕ) (out : List ℕ) → n ≡ 0 → Puts at (take n (drop p s)) out out at
few_none s p n at out z = puts_is at _ _ out out at (ap (λ (x : ℕ). take x (drop p s)) (sym z)) (puts_none at out)

module _ (l p n k : ℕ) (f : Bool) (e : f ≡ leb (p + n) l) (q : f ≡ true) (z : n ≡ k) where
  pub room : p + k ≤ l
  room = omega (arith, part_inside l p n f e q)

module _ (s : List ℕ) (p n k : ℕ) (f : Bool) (e : f ≡ leb (p + n) (length s)) (q : f ≡ true) (z : n ≡ k) (at : ℕ) where
  pub few_put : (out last : List ℕ) → last ≡ put at (take k (drop p s)) out → Puts at (take n (drop p s)) out last (at + k)
  few_put out last g =
      let l = part_long k s p (room (length s) p n k f e q z) in
      puts_is at _ _ out last (at + k) (ap (λ (x : ℕ). take x (drop p s)) (sym z)) (puts_one at (take k (drop p s)) out last (at + k) g (omega arith))

  pub few_end : at + k ≤ at + length s
  few_end = omega (arith, room (length s) p n k f e q z)
