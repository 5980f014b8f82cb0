-- How a walk ends, numbers that stay small, and parts of a message. Assumes nothing.
--
--   ends_..                             an answer and a lent list are those of an outcome
--   put_keeps                           a list that is written into keeps its length
--   Small, types_below, field_below     a table is of bytes, so that it has few types and a row names few members
--   part_on, part_length                what is left of a part of a message
use mathlib.Core.Path.{◌≡◌, refl, sym, ap, ap₂, ◌∙◌, subst}
use mathlib.Core.List.{List, [], ◌∷◌}
use Prim.Native.Nat.{ℕ, zero, suc, ◌+◌, ◌-◌, ◌≤◌, ◌<◌}
use native.Mathlib.Nat.{sub-zero}
use native.Mathlib.Omega.{arith}
use lib.ListN.{length, take, drop, get_or, length-drop}
use lib.Seq.{take-nil, drop-drop, length-take-le}
use mir.Syntax.{w8}
use mir.Val.{Fits}
use Rattle.encoding.specs.Table.{at as number_at, types, field}
use Rattle.wire.specs.At.{at_more, at_byte}
use Rattle.wire.specs.Put.{put}
use Rattle.wire.specs.PutLaws.{put_length}
use Rattle.slices.specs.declared.Walk.{Walk}
use Rattle.slices.specs.declared.Walk.TheVariants.{Stop}
use Rattle.slices.specs.Left.{WalkEnd, listed, refused, answer_of, Ends, accepted, stopped}

-- ---- how a walk ends

pub ends_refused : (whole : WalkEnd) (c p : ℕ) (v : Walk) (out : List ℕ) → whole ≡ refused c p → v ≡ Stop c p → Ends whole v out
ends_refused whole c p v out e h = rw (e, h) stopped

pub ends_listed : (whole : WalkEnd) (w : Walk) (out : List ℕ) → whole ≡ listed w out → Ends whole w out
ends_listed whole w out e = rw e accepted

pub ends_same : {whole other : WalkEnd} {v : Walk} {out : List ℕ} → whole ≡ other → Ends other v out → Ends whole v out
ends_same {v = v} {out = out} e E = subst (λ (x : WalkEnd). Ends x v out) (sym e) E

pub ends_answer : {o : WalkEnd} {v : Walk} {out : List ℕ} → Ends o v out → v ≡ answer_of o
unfolding answer_of
ends_answer accepted = refl
ends_answer stopped = refl

pub ends_list : {o : WalkEnd} {v : Walk} {out : List ℕ} → Ends o v out → (w : Walk) (l : List ℕ) → o ≡ listed w l → out ≡ l
ends_list accepted w l e = cc
ends_list stopped w l e = let z : ◌≡◌ {A = ℕ} 0 1 = cc in absurd (omega arith)

-- a list that is written into keeps its length
pub put_keeps : (at : ℕ) (b l out out' : List ℕ) → out' ≡ put at b out → length out ≡ length l → length out' ≡ length l
put_keeps at b l out out' e h = ap length e ∙ put_length at b out ∙ h

-- ---- numbers that stay small

-- a table is of bytes
abbrev pub Small : List ℕ → Type 0
Small T = (i : ℕ) → Fits w8 (get_or T i 0)

short_below : (T : List ℕ) → Small T → (i : ℕ) → number_at T 2 i < 65536
short_below T S i = omega (arith, at_more T 1 i, at_byte T (suc i), S i, S (suc i))

pub types_below : (T : List ℕ) → Small T → types T < 65536
unfolding types
types_below T S = short_below T S 5

pub field_below : (T : List ℕ) → Small T → (t i : ℕ) → field T t i < 65536
unfolding field
field_below T S t i = short_below T S _

-- ---- parts

take_none : (l : List ℕ) → take 0 l ≡ []
take_none [] = refl
take_none (x ∷ l) = refl

drop_take : (n k : ℕ) (l : List ℕ) → drop n (take k l) ≡ take (k - n) (drop n l)
drop_take zero k l = ap (λ (i : ℕ). take i l) (sym (sub-zero k))
drop_take (suc n) zero l = let z : 0 - suc n ≡ 0 = omega arith in rw (z, take_none l, take_none (drop (suc n) l))
drop_take (suc n) (suc k) [] = sym (take-nil (suc k - suc n))
drop_take (suc n) (suc k) (x ∷ l) = let z : k - n ≡ suc k - suc n = omega arith in drop_take n k l ∙ ap (λ (i : ℕ). take i (drop n l)) z

-- one step further in a part
pub part_on : (m : List ℕ) (at n end : ℕ) → drop n (take (end - at) (drop at m)) ≡ take (end - (at + n)) (drop (at + n) m)
part_on m at n end =
    let z : end - at - n ≡ end - (at + n) = omega arith in
    drop_take n (end - at) (drop at m) ∙ ap₂ (λ (i : ℕ) (l : List ℕ). take i l) z (drop-drop n at m)

pub part_length : (m : List ℕ) (at end : ℕ) → at ≤ end → end ≤ length m → length (take (end - at) (drop at m)) ≡ end - at
part_length m at end h k = length-take-le (end - at) (drop at m) (omega (arith, length-drop at m))
