-- Laws of `Puts`: parts laid one after another, or one before another, are laid at once. Assumes nothing.
--
--   puts_one, puts_none, puts_is            one put; no bytes; the same bytes
--   put_empty, puts_measured                an output of no bytes stays; bytes that are only measured
--   puts_number, puts_byte, puts_size       a number, a byte, a size
--   puts_then, puts_under                   bytes after those laid; bytes before those laid
--   leaves_begin, leaves_next, leaves_end   what is still to be laid, at first, after more bytes, at the end
use Rattle.std.specs.Prelude.{◌≡◌, refl, List, [], ◌∷◌, ◌++◌, ℕ, ◌+◌, ◌%◌, ◌≤◌, ◌<◌, length, take, drop}
use Rattle.std.proofs.Common.{sym, ap, ap₂, subst, ◌∙◌, append_assoc, arith, add-zero, length-append, take-take, length-take-le, drop_at}
use Rattle.std.proofs.lemmas.List.{take-append-le}
use Rattle.encoding.specs.Number.{le_bytes, size_bytes}
use Rattle.encoding.proofs.NumberLaws.{length_le_bytes}
use Rattle.wire.specs.Put.{put}
use Rattle.wire.specs.PutLaws.{put_fits, put_none, put_length, put_put}
use Rattle.pieces.specs.Puts.{Puts, Leaves}

pub puts_one : (at : ℕ) (b out last : List ℕ) (end : ℕ) → last ≡ put at b out → end ≡ at + length b → Puts at b out last end
puts_one at b out last end e f = record { ends = f; lays = λ h. e }

pub puts_none : (at : ℕ) (out : List ℕ) → Puts at [] out out at
puts_none at out = record { ends = sym (add-zero at); lays = λ h. sym (put_none at out) }

pub puts_is : (at : ℕ) (b c out last : List ℕ) (end : ℕ) → b ≡ c → Puts at b out last end → Puts at c out last end
puts_is at b c out last end e p = subst (λ (z : List ℕ). Puts at z out last end) e p

pub put_empty : (at : ℕ) (b : List ℕ) → [] ≡ put at b []
put_empty at b = sym (none (put at b []) (put_length at b []))
  where
    none : (l : List ℕ) → length l ≡ 0 → l ≡ []
    none [] e = refl
    none (x ∷ l) e = absurd (omega arith)

pub puts_measured : (at : ℕ) (b : List ℕ) (end : ℕ) → end ≡ at + length b → Puts at b [] [] end
puts_measured at b end e = puts_one at b [] [] end (put_empty at b) e

pub puts_number : (k v at : ℕ) (out last : List ℕ) → last ≡ put at (le_bytes k v) out → Puts at (le_bytes k v) out last (at + k)
puts_number k v at out last e = puts_one at (le_bytes k v) out last (at + k) e (omega (arith, length_le_bytes k v))

byte_bytes : (v : ℕ) → v < 256 → le_bytes 1 v ≡ v ∷ []
unfolding le_bytes
byte_bytes v h = let e : v % 256 ≡ v = omega arith in rw e

pub puts_byte : (v at : ℕ) (out last : List ℕ) → v < 256 → last ≡ put at (le_bytes 1 v) out → Puts at (v ∷ []) out last (at + 1)
puts_byte v at out last h e = puts_is at _ _ out last (at + 1) (byte_bytes v h) (puts_number 1 v at out last e)

pub puts_size : (n k at : ℕ) (out last : List ℕ) → last ≡ put at (size_bytes n) out → k ≡ length (size_bytes n) → Puts at (size_bytes n) out last (at + k)
puts_size n k at out last e f = puts_one at (size_bytes n) out last (at + k) e (omega arith)

pub puts_then : (at : ℕ) (b out mid : List ℕ) (e : ℕ) → Puts at b out mid e → (c last : List ℕ) (f : ℕ) → Puts e c mid last f → Puts at (b ++ c) out last f
puts_then at b out mid e p c last f q =
    let l = length-append b c in
    record {
      ends = omega (arith, p.ends, q.ends);
      lays = λ h.
          let m = p.lays (omega arith) in
          let k : e + length c ≤ length mid = omega (arith, p.ends, ap length m, put_length at b out) in
          q.lays k ∙ ap (put e c) m ∙ put_put at e b c out p.ends (omega arith);
    }

put_under : (at : ℕ) (b c out : List ℕ) → at + length b + length c ≤ length out → put at b (put (at + length b) c out) ≡ put at (b ++ c) out
put_under at b c out h =
    let p = at + length b in
    let rest = drop (p + length c) out in
    let l = length-take-le p out (omega arith) in
    let m : put p c out ≡ take p out ++ (c ++ rest) = put_fits p c out h ∙ append_assoc (take p out) c rest in
    let front : take at (put p c out) ≡ take at out = ap (take at) m ∙ take-append-le at (take p out) (c ++ rest) (omega arith) ∙ take-take at p out (omega arith) in
    let back : drop p (put p c out) ≡ c ++ rest = ap (drop p) m ∙ drop_at (take p out) (c ++ rest) p l in
    let k : at + length (b ++ c) ≡ p + length c = omega (arith, length-append b c) in
    let j : take at out ++ b ++ (c ++ rest) ≡ take at out ++ (b ++ c) ++ rest = simp append_assoc in
    put_fits at b (put p c out) (omega (arith, put_length p c out))
    ∙ ap₂ (λ (x y : List ℕ). x ++ b ++ y) front back
    ∙ j
    ∙ sym (put_fits at (b ++ c) out (omega arith) ∙ ap (λ (n : ℕ). take at out ++ (b ++ c) ++ drop n out) k)

pub puts_under : (at s : ℕ) (b c out mid last : List ℕ) (e f : ℕ) → s ≡ at + length b → Puts s c out mid f → Puts at b mid last e → Puts at (b ++ c) out last f
puts_under at s b c out mid last e f z p q =
    let l = length-append b c in
    record {
      ends = omega (arith, p.ends);
      lays = λ h.
          let m = p.lays (omega arith) in
          let k : at + length b ≤ length mid = omega (arith, ap length m, put_length s c out) in
          q.lays k ∙ ap (put at b) (m ∙ ap (λ (n : ℕ). put n c out) z) ∙ put_under at b c out (omega arith);
    }

-- ---- what is still to be laid

pub leaves_begin : (at : ℕ) (w out : List ℕ) → Leaves at w out at w out
leaves_begin at w out = record { ends = refl; same = λ h. refl; lays = λ h. refl }

module _ (start : ℕ) (w first : List ℕ) (at : ℕ) (rest out : List ℕ) (l : Leaves start w first at rest out) where
  pub leaves_next : (b more last : List ℕ) (end : ℕ) → rest ≡ b ++ more → Puts at b out last end → Leaves start w first end more last
  leaves_next b more last end e p =
      let n : length rest ≡ length b + length more = ap length e ∙ length-append b more in
      record {
        ends = omega (arith, p.ends, l.ends);
        same = λ h. ap length (p.lays (omega (arith, l.ends, l.same h))) ∙ put_length at b out ∙ l.same h;
        lays = λ h.
            l.lays h ∙ ap (λ (z : List ℕ). put at z out) e
            ∙ sym (put_put at end b more out p.ends (omega (arith, l.ends, l.same h)))
            ∙ ap (put end more) (sym (p.lays (omega (arith, l.ends, l.same h))));
      }

  pub leaves_end : rest ≡ [] → Puts start w first out at
  leaves_end e =
      let n : length rest ≡ 0 = ap length e in
      record {
        ends = omega (arith, l.ends);
        lays = λ h. sym (l.lays h ∙ ap (λ (z : List ℕ). put at z out) e ∙ put_none at out);
      }
