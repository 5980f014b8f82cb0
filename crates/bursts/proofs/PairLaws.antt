-- The pairs of a lent list by their places: pair i is the numbers at 2 i and 2 i + 1, and half a pair is none.
-- Assumes nothing.
--
--   waitings_count, entries_count    how many pairs there are
--   entries_take                     the first of them
--   length_at, cabin_at              length and cabin of a message
--   entry_pair, message_at_lem, burst_at an entry by its two numbers; its message and burst
use Rattle.std.specs.Prelude.{◌≡◌, ℕ, zero, suc, ◌+◌, ◌*◌, ◌/◌, ◌<◌, List, [], ◌∷◌, length, take, slice_index, refl}
use Rattle.std.proofs.Common.{sym, ap, ◌∙◌, arith}
use Rattle.bursts.specs.Bursts.{Waiting, Entry, waitings, entries, message_at, length_of, cabin_of}
use Rattle.bursts.specs.BurstDemands.{entry_at}

pub waitings_count : (ms : List ℕ) → length (waitings ms) ≡ length ms / 2
unfolding waitings
waitings_count [] = refl
waitings_count (a ∷ []) = refl
waitings_count (a ∷ b ∷ l) = omega (arith, waitings_count l)

pub entries_count : (es : List ℕ) → length (entries es) ≡ length es / 2
unfolding entries
entries_count [] = refl
entries_count (a ∷ []) = refl
entries_count (a ∷ b ∷ l) = omega (arith, entries_count l)

two : (i : ℕ) → 2 * suc i ≡ suc (suc (2 * i))
two i = omega arith

-- the first pairs are the entries of the first numbers
pub entries_take : (i : ℕ) (es : List ℕ) → entries (take (2 * i) es) ≡ take i (entries es)
unfolding entries
entries_take zero es = refl
entries_take (suc i) [] = ap (λ (n : ℕ). entries (take n [])) (two i)
entries_take (suc i) (a ∷ []) = ap (λ (n : ℕ). entries (take n (a ∷ []))) (two i)
entries_take (suc i) (a ∷ b ∷ l) = ap (λ (n : ℕ). entries (take n (a ∷ b ∷ l))) (two i) ∙ ap {B = List Entry} (λ x. record { message = a; burst = b } ∷ x) (entries_take i l)

-- the place of a pair after the first
later : (a b : ℕ) (l : List ℕ) (i k : ℕ) → slice_index (a ∷ b ∷ l) (2 * suc i + k) ≡ slice_index l (2 * i + k)
later a b l i k = let z : 2 * suc i + k ≡ suc (suc (2 * i + k)) = omega arith in ap (λ (n : ℕ). slice_index (a ∷ b ∷ l) n) z

plain : (l : List ℕ) (i : ℕ) → slice_index l (2 * i) ≡ slice_index l (2 * i + 0)
plain l i = let z : 2 * i ≡ 2 * i + 0 = omega arith in ap (λ (n : ℕ). slice_index l n) z

waiting_at : (ms : List ℕ) (m : ℕ) → m < length ms / 2 → message_at (waitings ms) m ≡ record { bytes = slice_index ms (2 * m + 0); cabin = slice_index ms (2 * m + 1) }
unfolding waitings message_at
waiting_at [] m h = absurd (omega arith)
waiting_at (a ∷ []) m h = absurd (omega arith)
waiting_at (a ∷ b ∷ l) zero h = refl
waiting_at (a ∷ b ∷ l) (suc m) h = rw (later a b l m 0, later a b l m 1) (waiting_at l m (omega arith))

pub length_at : (ms : List ℕ) (m : ℕ) → m < length ms / 2 → length_of (waitings ms) m ≡ slice_index ms (2 * m)
unfolding length_of
length_at ms m h = ap (λ (w : Waiting). w.bytes) (waiting_at ms m h) ∙ sym (plain ms m)

pub cabin_at : (ms : List ℕ) (m : ℕ) → m < length ms / 2 → cabin_of (waitings ms) m ≡ slice_index ms (2 * m + 1)
unfolding cabin_of
cabin_at ms m h = ap (λ (w : Waiting). w.cabin) (waiting_at ms m h)

entry_at_lem : (es : List ℕ) (i : ℕ) → i < length es / 2 → entry_at (entries es) i ≡ record { message = slice_index es (2 * i + 0); burst = slice_index es (2 * i + 1) }
unfolding entries
entry_at_lem [] i h = absurd (omega arith)
entry_at_lem (a ∷ []) i h = absurd (omega arith)
entry_at_lem (a ∷ b ∷ l) zero h = refl
entry_at_lem (a ∷ b ∷ l) (suc i) h = rw (later a b l i 0, later a b l i 1) (entry_at_lem l i (omega arith))

-- an entry by its two numbers
pub entry_pair : (es : List ℕ) (i : ℕ) → i < length es / 2 → entry_at (entries es) i ≡ record { message = slice_index es (2 * i); burst = slice_index es (2 * i + 1) }
entry_pair es i h = entry_at_lem es i h ∙ ap (λ (n : ℕ). record { message = n; burst = slice_index es (2 * i + 1) }) (sym (plain es i))

pub message_at_lem : (es : List ℕ) (i : ℕ) → i < length es / 2 → (entry_at (entries es) i).message ≡ slice_index es (2 * i)
message_at_lem es i h = ap (λ (e : Entry). e.message) (entry_pair es i h)

pub burst_at : (es : List ℕ) (i : ℕ) → i < length es / 2 → (entry_at (entries es) i).burst ≡ slice_index es (2 * i + 1)
burst_at es i h = ap (λ (e : Entry). e.burst) (entry_pair es i h)
