-- The 32 bytes of a state, put by eights: `state_put`. Assumes nothing.
use mathlib.Core.Path.{◌≡◌, sym, ap, ap₂, ◌∙◌}
use mathlib.Core.Option.{Option, none, some}
use mathlib.Core.List.{List, [], ◌∷◌, ◌++◌, append_assoc}
use Prim.Native.Nat.{ℕ, suc, ◌+◌, ◌*◌, ◌/◌, ◌%◌, ◌≤◌, ◌<◌}
use native.Mathlib.Omega.{arith}
use lib.ListN.{length, drop, length-append}
use Rattle.encoding.specs.Number.{le_bytes}
use Rattle.encoding.proofs.NumberLaws.{length_le_bytes}
use Rattle.encoding.specs.Table.{at}
use Rattle.wire.specs.Put.{put}
use Rattle.wire.specs.PutLaws.{put_put, put_front}
use Rattle.frost.specs.Frost.{Guard, mark_of, or_none, state_bytes}
use Rattle.guard.specs.Bytes.{head_of}

-- the first byte of a number
first_byte : (k a n : ℕ) → a < 256 → le_bytes (suc k) (a + 256 * n) ≡ a ∷ le_bytes k n
unfolding le_bytes
first_byte k a n h = ap₂ ◌∷◌ (omega arith) (ap (le_bytes k) (omega arith))

-- its first two bytes
first_two : (k a n : ℕ) → a < 65536 → le_bytes (suc (suc k)) (a + 65536 * n) ≡ le_bytes 2 a ++ le_bytes k n
unfolding le_bytes
first_two k a n h = ap₂ ◌∷◌ (omega arith) (ap₂ ◌∷◌ (omega arith) (ap (le_bytes k) (omega arith)))

mark_small : (o : Option ℕ) → mark_of o < 2
unfolding mark_of
mark_small none = omega arith
mark_small (some n) = omega arith

last_mark : (c : ℕ) → c < 2 → le_bytes 4 c ≡ c ∷ 0 ∷ 0 ∷ 0 ∷ []
unfolding le_bytes
last_mark c h = ap (le_bytes 4) {y = c + 256 * 0} (omega arith) ∙ first_byte 3 c 0 (omega arith)

head_bytes : (g : Guard) → g.set < 65536 → le_bytes 8 (head_of g) ≡ le_bytes 2 g.set ++ (mark_of g.tick ∷ mark_of g.start ∷ mark_of g.delay ∷ 0 ∷ 0 ∷ 0 ∷ [])
unfolding head_of
head_bytes g h =
    first_two 6 g.set _ h
    ∙ ap (λ (l : List ℕ). le_bytes 2 g.set ++ l)
    (first_byte 5 (mark_of g.tick) _ (omega (arith, mark_small g.tick))
    ∙ ap (λ (l : List ℕ). mark_of g.tick ∷ l)
    (first_byte 4 (mark_of g.start) _ (omega (arith, mark_small g.start))
    ∙ ap (λ (l : List ℕ). mark_of g.start ∷ l) (last_mark (mark_of g.delay) (mark_small g.delay))))

-- a number of four bytes, written in eight
four_bytes : (d : ℕ) → d < 4294967296 → le_bytes 8 d ≡ le_bytes 4 d ++ (0 ∷ 0 ∷ 0 ∷ 0 ∷ [])
unfolding le_bytes
four_bytes d h =
    let z : d / 256 / 256 / 256 / 256 ≡ 0 = omega arith in
    ap (λ (n : ℕ). d % 256 ∷ d / 256 % 256 ∷ d / 256 / 256 % 256 ∷ d / 256 / 256 / 256 % 256 ∷ le_bytes 4 n) z

-- eight bytes are put right after the bytes b at the start
eight_more : (at v : ℕ) (b lent x y : List ℕ) → x ≡ put 0 b lent → y ≡ put at (le_bytes 8 v) x → length b ≡ at → at + 8 ≤ length lent
    → (y ≡ put 0 (b ++ le_bytes 8 v) lent) × (length (b ++ le_bytes 8 v) ≡ at + 8)
eight_more at v b lent x y ex ey e l =
    let w = length_le_bytes 8 v in
    (ey ∙ ap (put at (le_bytes 8 v)) ex ∙ put_put 0 at b (le_bytes 8 v) lent (omega arith) (omega arith), omega (arith, length-append b (le_bytes 8 v)))

module _ (g : Guard) (lent : List ℕ) (room : 32 ≤ length lent) (h : ℕ) (eh : h ≡ head_of g) (ls : g.set < 65536) where
  pub state_put : (r u v w : List ℕ) (t s d : ℕ) → t ≡ or_none g.tick → s ≡ or_none g.start → d ≡ or_none g.delay → d < 4294967296
      → r ≡ put 0 (le_bytes 8 h) lent → u ≡ put 8 (le_bytes 8 t) r → v ≡ put 16 (le_bytes 8 s) u → w ≡ put 24 (le_bytes 8 d) v
      → w ≡ state_bytes g ++ drop 32 lent
  unfolding state_bytes
  state_put r u v w t s d et es ed ld er eu ev ew =
      let l = length_le_bytes 8 h in
      let fu = eight_more 8 t (le_bytes 8 h) lent r u er eu l (omega arith) in
      let fv = eight_more 16 s (le_bytes 8 h ++ le_bytes 8 t) lent u v fu.0 ev fu.1 (omega arith) in
      let fw = eight_more 24 d (le_bytes 8 h ++ le_bytes 8 t ++ le_bytes 8 s) lent v w fv.0 ew fv.1 (omega arith) in
      fw.0 ∙ put_front _ lent (omega (arith, fw.1)) ∙ ap₂ (λ (b : List ℕ) (n : ℕ). b ++ drop n lent) bytes fw.1
    where
      bytes : le_bytes 8 h ++ le_bytes 8 t ++ le_bytes 8 s ++ le_bytes 8 d
          ≡ le_bytes 2 g.set ++ (mark_of g.tick ∷ mark_of g.start ∷ mark_of g.delay ∷ 0 ∷ 0 ∷ 0 ∷ []) ++ le_bytes 8 (or_none g.tick) ++ le_bytes 8 (or_none g.start) ++ le_bytes 4 (or_none g.delay) ++ (0 ∷ 0 ∷ 0 ∷ 0 ∷ [])
      bytes =
          ap₂ (λ (a b : List ℕ). a ++ b)
          (ap₂ (λ (a b : List ℕ). a ++ b) (ap₂ (λ (a b : List ℕ). a ++ b) (ap (le_bytes 8) eh ∙ head_bytes g ls) (ap (le_bytes 8) et)) (ap (le_bytes 8) es))
          (four_bytes d ld ∙ ap (λ (n : ℕ). le_bytes 4 n ++ (0 ∷ 0 ∷ 0 ∷ 0 ∷ [])) ed)
          ∙ sym (append_assoc (le_bytes 2 g.set ++ (mark_of g.tick ∷ mark_of g.start ∷ mark_of g.delay ∷ 0 ∷ 0 ∷ 0 ∷ []) ++ le_bytes 8 (or_none g.tick) ++ le_bytes 8 (or_none g.start)) (le_bytes 4 (or_none g.delay)) (0 ∷ 0 ∷ 0 ∷ 0 ∷ []))
