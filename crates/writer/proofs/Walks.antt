-- The slices of a chain one after another, and the message. Assumes nothing.
--
--   Slicing, slicing_..                             what the loop over the owners of a chain keeps
--   Parting, parting_..                             the same of the one owner of a parameter list too
--   long_.., put_..                                 what comes before the members or slices: its length, and what is put of it
--   contents_put                                    it, and the members or slices after it
--   version_old, version_new                        the version
--   message_made, message_wrong                     size and version put before the data, if the rows are right
--   message_measured                                the message where nothing is put
use mathlib.Core.Path.{◌≡◌, refl, sym, ap, ◌∙◌}
use mathlib.Core.Bool.{Bool, true, false}
use mathlib.Core.List.{List, [], ◌∷◌, ◌++◌, append_assoc}
use Prim.Native.Nat.{ℕ, zero, suc, ◌+◌, ◌-◌, ◌*◌, ◌≤◌, ◌<◌}
use native.Mathlib.Omega.{arith}
use lib.ListN.{length}
use lib.Dec.{eqb}
use Rattle.std.specs.Prelude.{Result, Ok, Err}
use Rattle.wire.specs.declared.Refusal.{Refusal}
use Rattle.wire.specs.Steps.{refused}
use Rattle.encoding.specs.Result.{pick, concat}
use Rattle.encoding.specs.Optional.{piece_bytes}
use borrow.Author.Tests.{lt-ltb, le-ltb, eqb-true, eq-eqb, ne_eqb}
use Rattle.encoding.specs.Number.{le_bytes}
use Rattle.encoding.specs.Table.{kind, base, upward, chain}
use Rattle.encoding.proofs.TableLaws.{chain_row}
use Rattle.encoding.specs.Slice.{sliced, Stand, first, due, Slice, has_optionals, id_of, is_last, slice_front}
use Rattle.encoding.specs.Old.{pair_front}
use Rattle.encoding.specs.Message.{slices_bytes, later_as, lead, minor, encapsulate}
use Rattle.encoding.specs.Write.{out, stop}
use Rattle.wire.specs.Put.{put}
use Rattle.writer.specs.declared.Laid.{Laid}
use Rattle.pieces.specs.Cursors.{due_at, state_of}
use Rattle.pieces.specs.Judged.{verdict_from, verdict_above, Gives}
use Rattle.pieces.specs.JudgedLaws.{gives_then}
use Rattle.pieces.specs.Puts.{Puts, Leaves}
use Rattle.pieces.specs.PutsLaws.{put_empty, puts_none, puts_is, puts_measured, puts_number, puts_byte, puts_then, puts_under, leaves_begin, leaves_next, leaves_end}
use Rattle.writer.specs.Slices.{encoding_as, group_of, slice_of, slices_from, front_field, pair_field, front_of, slice_field, RowsPut, SlicePut, PartPut}
use Rattle.writer.specs.Messages.{version_of, lead_of, parts_of, contents_of, AllPut}

true≢false : ◌≡◌ {A = Bool} true false → ⊥
true≢false e = let z : ◌≡◌ {A = ℕ} 0 1 = cc in omega arith

-- ---- the last owner

-- a row left after it is 20, and none is right
module _ (T : List ℕ) (old : Bool) (rows buffer : List ℕ) (count up i : ℕ) (z : up ≡ 0) where
  above_over : i < count → verdict_above T old rows buffer count up i ≡ stop 20 i
  unfolding verdict_above
  above_over h = rw (z, lt-ltb i count h)

  above_right : count ≤ i → verdict_above T old rows buffer count up i ≡ out tt
  unfolding verdict_above
  above_right h = rw (z, le-ltb i count h)

-- ---- the slices of a chain

module _ (T rows buffer : List ℕ) (count : ℕ) where
  -- the slices after that of owner o
  abbrev behind : ℕ → ℕ → ℕ → List Slice
  behind o i up = slices_from T rows buffer count (i + length (group_of T rows buffer count o i)) (upward (chain T) up)

  slices_more : (old : Bool) (st : Stand) (o i : ℕ) → due st sliced ≡ true → slices_bytes (encoding_as old) st (slices_from T rows buffer count i (chain T o))
      ≡ slice_field T old rows buffer count (is_last (behind o i (base T o))) o i ++ slices_bytes (encoding_as old) (later_as (encoding_as old)) (behind o i (base T o))
  unfolding slices_bytes slices_from slice_front pair_front has_optionals id_of front_of front_field pair_field slice_of slice_field
  slices_more true st o i d = rw (chain_row T o)
  slices_more false st o i d = rw (chain_row T o, d)

  -- each slice has its type ID
  later_named : (old : Bool) → due (later_as (encoding_as old)) sliced ≡ true
  unfolding due
  later_named true = refl
  later_named false = refl

  last_is : (o i up : ℕ) → is_last (behind o i up) ≡ eqb up 0
  unfolding is_last slices_from upward
  last_is o i zero = refl
  last_is o i (suc t) = ap (λ (l : List ℕ). is_last (slices_from T rows buffer count (i + length (group_of T rows buffer count o i)) l)) (chain_row T t) ∙ sym (ne_eqb (suc t) 0 (λ q. omega arith))

pub record Slicing (T : List ℕ) (old : Bool) (rows buffer : List ℕ) (judged : Bool) (count t begin : ℕ) (lent : List ℕ) (at o i : ℕ) (mid : List ℕ) : Type 0 where
  pub stand : Stand
  pub named : due stand sliced ≡ true
  pub leaves : Leaves begin (slices_bytes (encoding_as old) first (slices_from T rows buffer count 0 (chain T t))) lent at (slices_bytes (encoding_as old) stand (slices_from T rows buffer count i (chain T o))) mid
  pub rest : Gives judged (verdict_from T old rows buffer count (state_of T (due_at t 0)) 0) (verdict_from T old rows buffer count (state_of T (due_at o 0)) i)
  pub within : i ≤ count
  pub below : o ≤ t
  pub few : at ≤ begin + 66000 * (i + (t - o))

pub slicing_begin : (T : List ℕ) (old : Bool) (rows buffer : List ℕ) (judged : Bool) (count t begin : ℕ) (lent : List ℕ) → Slicing T old rows buffer judged count t begin lent begin t 0 lent
unfolding due
slicing_begin T old rows buffer judged count t begin lent = record {
  stand = first;
  named = refl;
  leaves = leaves_begin begin _ lent;
  rest = λ _. refl;
  within = omega arith;
  below = omega arith;
  few = omega arith;
}

module _ (T : List ℕ) (old : Bool) (rows buffer : List ℕ) (judged : Bool) (count t begin : ℕ) (lent : List ℕ) (at o i : ℕ) (mid : List ℕ)
    (w : Slicing T old rows buffer judged count t begin lent at o i mid) (up : ℕ) (e : up ≡ base T o)
    (last : List ℕ) (d : Laid) (j : SlicePut T old rows buffer judged count (eqb up 0) o i at mid last d) where
  -- the slices of the chain
  abbrev slices : List ℕ
  slices = slices_bytes (encoding_as old) first (slices_from T rows buffer count 0 (chain T t))

  pub slicing_wrong : (d.fault ≡ 0 → ⊥) → AllPut T old rows buffer judged count t begin slices lent last (refused d.fault d.row)
  slicing_wrong n = gives_then judged _ _ _ w.rest (j.wrong n)

  module _ (f : d.fault ≡ 0) where
    slice_left : Leaves begin slices lent d.end (slices_bytes (encoding_as old) (later_as (encoding_as old)) (behind T rows buffer count o i up)) last
    slice_left =
        let b : slice_field T old rows buffer count (is_last (behind T rows buffer count o i (base T o))) o i ≡ slice_field T old rows buffer count (eqb up 0) o i
        = rw (last_is T rows buffer count o i (base T o), ← e) in
        leaves_next begin _ lent at _ mid w.leaves (slice_field T old rows buffer count (eqb up 0) o i) _ last d.end
        (slices_more T rows buffer count old w.stand o i w.named ∙ ap (λ (z : List ℕ). z ++ slices_bytes (encoding_as old) (later_as (encoding_as old)) (behind T rows buffer count o i (base T o))) b ∙ rw e)
        (j.right f).puts

    verdict_left : Gives judged (verdict_from T old rows buffer count (state_of T (due_at t 0)) 0) (verdict_above T old rows buffer count up d.row)
    verdict_left a = gives_then judged _ _ _ w.rest (j.right f).rest a ∙ ap (λ (x : ℕ). verdict_above T old rows buffer count x d.row) (sym e)

    module _ (z : up ≡ 0) where
      pub slicing_over : d.row < count → AllPut T old rows buffer judged count t begin slices lent last (refused 20 d.row)
      slicing_over h a = verdict_left a ∙ above_over T old rows buffer count up d.row z h

      pub slicing_end : count ≤ d.row → AllPut T old rows buffer judged count t begin slices lent last (Ok d.end)
      unfolding slices_bytes slices_from upward
      slicing_end h = ((λ a. verdict_left a ∙ above_right T old rows buffer count up d.row z h), leaves_end begin _ lent d.end _ last slice_left (rw z))

    pub slicing_next : (up ≡ 0 → ⊥) → up ≤ o → Slicing T old rows buffer judged count t begin lent d.end (up - 1) d.row last
    unfolding upward verdict_above
    slicing_next z h =
        let l = j.right f in
        let q : up ≡ suc (up - 1) = omega (arith, z) in
        record {
          stand = later_as (encoding_as old);
          named = later_named T rows buffer count old;
          leaves = rw l.next (rw q at slice_left);
          rest = rw q at verdict_left;
          within = l.within;
          below = omega (arith, w.below);
          few = omega (arith, l.few, w.few, w.below, z, l.next);
        }

-- ---- the members of a parameter list, or the slices

no_base_lem : (T : List ℕ) (t : ℕ) → kind T t ≡ 15 → base T t ≡ 0
unfolding base
no_base_lem T t e = rw e

-- a parameter list has one owner
pub record Parting (T : List ℕ) (old : Bool) (rows buffer : List ℕ) (judged : Bool) (count t begin : ℕ) (list : Bool) (lent : List ℕ) (at o i : ℕ) (mid : List ℕ) : Type 0 where
  pub owner : list ≡ true → o ≡ t
  pub whole : list ≡ true → (last : List ℕ) (d : Laid) → RowsPut T old rows buffer judged count (due_at o 0) i at mid last d → RowsPut T old rows buffer judged count (due_at t 0) 0 begin lent last d
  pub slicing : list ≡ false → Slicing T old rows buffer judged count t begin lent at o i mid
  pub within : i ≤ count
  pub below : o ≤ t
  pub few : at ≤ begin + 66000 * (i + (t - o))

pub parting_begin : (T : List ℕ) (old : Bool) (rows buffer : List ℕ) (judged : Bool) (count t begin : ℕ) (list : Bool) (lent : List ℕ) → Parting T old rows buffer judged count t begin list lent begin t 0 lent
parting_begin T old rows buffer judged count t begin list lent = record {
  owner = λ _. refl;
  whole = λ _ last d j. j;
  slicing = λ _. slicing_begin T old rows buffer judged count t begin lent;
  within = omega arith;
  below = omega arith;
  few = omega arith;
}

module _ (T : List ℕ) (old : Bool) (rows buffer : List ℕ) (judged : Bool) (count t begin : ℕ) (list : Bool) (lent : List ℕ) (at o i : ℕ) (mid : List ℕ) (el : list ≡ eqb (kind T t) 15)
    (w : Parting T old rows buffer judged count t begin list lent at o i mid) (up : ℕ) (e : up ≡ base T o)
    (last : List ℕ) (d : Laid) (j : PartPut T old rows buffer judged count list (eqb up 0) o i at mid last d) where
  -- by what it is
  list_put : list ≡ true → RowsPut T old rows buffer judged count (due_at t 0) 0 begin lent last d
  list_put q = w.whole q last d (rw q at j)

  slice_put : list ≡ false → SlicePut T old rows buffer judged count (eqb up 0) o i at mid last d
  slice_put q = rw q at j

  list_base : list ≡ true → base T t ≡ 0
  list_base q = no_base_lem T t (eqb-true (kind T t) 15 (sym el ∙ q))

  pub parting_wrong : (d.fault ≡ 0 → ⊥) → AllPut T old rows buffer judged count t begin (parts_of T old list rows buffer count t) lent last (refused d.fault d.row)
  parting_wrong n = go list refl
    where
      go : (b : Bool) → list ≡ b → Gives judged (verdict_from T old rows buffer count (state_of T (due_at t 0)) 0) (stop d.fault d.row)
      go true q = (list_put q).wrong n
      go false q = slicing_wrong T old rows buffer judged count t begin lent at o i mid (w.slicing q) up e last d (slice_put q) n

  module _ (f : d.fault ≡ 0) where
    module _ (z : up ≡ 0) where
      pub parting_over : d.row < count → AllPut T old rows buffer judged count t begin (parts_of T old list rows buffer count t) lent last (refused 20 d.row)
      parting_over h = go list refl
        where
          go : (b : Bool) → list ≡ b → Gives judged (verdict_from T old rows buffer count (state_of T (due_at t 0)) 0) (stop 20 d.row)
          go true q = λ a. ((list_put q).right f).rest a ∙ above_over T old rows buffer count (base T t) d.row (list_base q) h
          go false q = slicing_over T old rows buffer judged count t begin lent at o i mid (w.slicing q) up e last d (slice_put q) f z h

      pub parting_end : count ≤ d.row → AllPut T old rows buffer judged count t begin (parts_of T old list rows buffer count t) lent last (Ok d.end)
      unfolding parts_of
      parting_end h = go list refl
        where
          go : (b : Bool) → list ≡ b → AllPut T old rows buffer judged count t begin (pick list (concat piece_bytes (group_of T rows buffer count t 0)) (slices_bytes (encoding_as old) first (slices_from T rows buffer count 0 (chain T t)))) lent last (Ok d.end)
          go true q = rw q ((λ a. ((list_put q).right f).rest a ∙ above_right T old rows buffer count (base T t) d.row (list_base q) h), ((list_put q).right f).puts)
          go false q = rw q (slicing_end T old rows buffer judged count t begin lent at o i mid (w.slicing q) up e last d (slice_put q) f z h)

    pub parting_next : (up ≡ 0 → ⊥) → up ≤ o → Parting T old rows buffer judged count t begin list lent d.end (up - 1) d.row last
    parting_next z h = go list refl
      where
        go : (b : Bool) → list ≡ b → Parting T old rows buffer judged count t begin list lent d.end (up - 1) d.row last
        go true q = absurd (z (e ∙ ap (base T) (w.owner q) ∙ list_base q))
        go false q =
            let s = slicing_next T old rows buffer judged count t begin lent at o i mid (w.slicing q) up e last d (slice_put q) f z h in
            record {
              owner = λ p. absurd (true≢false (sym p ∙ q));
              whole = λ p. absurd (true≢false (sym p ∙ q));
              slicing = λ _. s;
              within = s.within;
              below = s.below;
              few = s.few;
            }

-- ---- the message

module _ (k : ℕ) (old : Bool) where
  lead_list : k ≡ 15 → lead_of k old ≡ []
  unfolding lead_of
  lead_list z = rw (eq-eqb k 15 z)

  module _ (n : k ≡ 15 → ⊥) where
    lead_class : k ≡ 14 → lead_of k old ≡ 1 ∷ []
    unfolding lead_of
    lead_class z = rw (ne_eqb k 15 n, eq-eqb k 14 z)

    module _ (z : k ≡ 14 → ⊥) where
      lead_old : old ≡ true → lead_of k old ≡ 0 ∷ []
      unfolding lead_of
      lead_old q = rw (ne_eqb k 15 n, ne_eqb k 14 z, q)

      lead_new : old ≡ false → lead_of k old ≡ []
      unfolding lead_of
      lead_new q = rw (ne_eqb k 15 n, ne_eqb k 14 z, q)

  -- how many bytes it takes
  pub long_list : k ≡ 15 → 0 ≡ length (lead_of k old)
  long_list z = sym (ap length (lead_list z))

  module _ (lent : List ℕ) where
    pub put_list : k ≡ 15 → Puts 6 (lead_of k old) lent lent 6
    put_list z = puts_is 6 _ _ lent lent 6 (sym (lead_list z)) (puts_none 6 lent)

  module _ (n : k ≡ 15 → ⊥) where
    pub long_class : k ≡ 14 → 1 ≡ length (lead_of k old)
    long_class z = sym (ap length (lead_class n z))

    pub put_class : k ≡ 14 → (lent last : List ℕ) → last ≡ put 6 (le_bytes 1 1) lent → Puts 6 (lead_of k old) lent last 7
    put_class z lent last e = puts_is 6 _ _ lent last 7 (sym (lead_class n z)) (puts_byte 1 6 lent last (omega arith) e)

    module _ (z : k ≡ 14 → ⊥) where
      pub long_old : old ≡ true → 1 ≡ length (lead_of k old)
      long_old q = sym (ap length (lead_old n z q))

      pub long_new : old ≡ false → 0 ≡ length (lead_of k old)
      long_new q = sym (ap length (lead_new n z q))

      pub put_old : old ≡ true → (lent last : List ℕ) → last ≡ put 6 (le_bytes 1 0) lent → Puts 6 (lead_of k old) lent last 7
      put_old q lent last e = puts_is 6 _ _ lent last 7 (sym (lead_old n z q)) (puts_byte 0 6 lent last (omega arith) e)

      pub put_new : old ≡ false → (lent : List ℕ) → Puts 6 (lead_of k old) lent lent 6
      put_new q lent = puts_is 6 _ _ lent lent 6 (sym (lead_new n z q)) (puts_none 6 lent)

module _ (T : List ℕ) (old : Bool) (rows buffer : List ℕ) (judged : Bool) (count t k : ℕ) (ek : k ≡ kind T t) where
  contents_lead : contents_of T old rows buffer count t ≡ lead_of k old ++ parts_of T old (eqb k 15) rows buffer count t
  unfolding contents_of lead_of parts_of
  contents_lead = rw ek (go (eqb (kind T t) 15) (eqb (kind T t) 14))
    where
      all : List ℕ
      all = slices_bytes (encoding_as old) first (slices_from T rows buffer count 0 (chain T t))

      go : (a b : Bool) → pick a (concat piece_bytes (group_of T rows buffer count t 0)) (pick b (1 ∷ all) (lead (encoding_as old) ++ all))
          ≡ pick a [] (pick b (1 ∷ []) (lead (encoding_as old))) ++ pick a (concat piece_bytes (group_of T rows buffer count t 0)) all
      go true b = refl
      go false true = refl
      go false false = refl

  pub contents_put : (lent mid last : List ℕ) (s : ℕ) → Puts 6 (lead_of k old) lent mid s → (r : Result ℕ Refusal) → AllPut T old rows buffer judged count t s (parts_of T old (eqb k 15) rows buffer count t) mid last r
      → AllPut T old rows buffer judged count t 6 (contents_of T old rows buffer count t) lent last r
  contents_put lent mid last s p (Ok n) j = (j.0, puts_is 6 _ _ lent last n (sym contents_lead) (puts_then 6 (lead_of k old) lent mid s p _ last n j.1))
  contents_put lent mid last s p (Err x) j = j

-- the version as a number
pub version_old : (old : Bool) → old ≡ true → 1 ≡ version_of old
version_old old q = rw q

pub version_new : (old : Bool) → old ≡ false → 257 ≡ version_of old
version_new old q = rw q

version_bytes : (old : Bool) (b : List ℕ) → le_bytes 2 (version_of old) ++ b ≡ 1 ∷ minor (encoding_as old) ∷ b
unfolding le_bytes
version_bytes true b = refl
version_bytes false b = refl

size_put : (old : Bool) (b lent one two last : List ℕ) (n v : ℕ) → v ≡ version_of old → Puts 6 b lent one n → two ≡ put 0 (le_bytes 4 n) one → last ≡ put 4 (le_bytes 2 v) two
    → Puts 0 (encapsulate (encoding_as old) b) lent last n
unfolding encapsulate le_bytes
size_put old b lent one two last n v ev p e f =
    let z : le_bytes 4 n ++ le_bytes 2 v ++ b ≡ le_bytes 4 (6 + length b) ++ (1 ∷ minor (encoding_as old) ∷ b)
    = ap (λ (m : ℕ). le_bytes 4 m ++ le_bytes 2 v ++ b) p.ends ∙ append_assoc (le_bytes 4 (6 + length b)) (le_bytes 2 v) b ∙ ap (λ (x : ℕ). le_bytes 4 (6 + length b) ++ (le_bytes 2 x ++ b)) ev ∙ ap (λ (x : List ℕ). le_bytes 4 (6 + length b) ++ x) (version_bytes old b) in
    puts_is 0 _ _ lent last n z
    (puts_under 0 6 (le_bytes 4 n ++ le_bytes 2 v) b lent one last 6 n refl p
    (puts_then 0 (le_bytes 4 n) one two 4 (puts_number 4 n 0 one two e) (le_bytes 2 v) last 6 (puts_number 2 v 4 two last f)))

module _ (T : List ℕ) (old : Bool) (rows buffer : List ℕ) (judged : Bool) (count t : ℕ) (b lent one : List ℕ) (r : Result ℕ Refusal) (j : AllPut T old rows buffer judged count t 6 b lent one r) where
  pub message_made : (n : ℕ) → r ≡ Ok n → (v : ℕ) → v ≡ version_of old → (two last : List ℕ) → two ≡ put 0 (le_bytes 4 n) one → last ≡ put 4 (le_bytes 2 v) two
      → AllPut T old rows buffer judged count t 0 (encapsulate (encoding_as old) b) lent last (Ok n)
  message_made n q v ev two last e f = go (rw q at j)
    where
      go : AllPut T old rows buffer judged count t 6 b lent one (Ok n) → AllPut T old rows buffer judged count t 0 (encapsulate (encoding_as old) b) lent last (Ok n)
      go p = (p.0, size_put old b lent one two last n v ev p.1 e f)

  pub message_wrong : (x : Refusal) → r ≡ Err x → AllPut T old rows buffer judged count t 0 (encapsulate (encoding_as old) b) lent one (Err x)
  message_wrong x q = rw q at j

-- nothing is put
pub message_measured : (T : List ℕ) (old : Bool) (rows buffer : List ℕ) (count t k : ℕ) → k ≡ kind T t → (l : ℕ) → l ≡ length (lead_of k old) → (r : Result ℕ Refusal)
    → AllPut T old rows buffer false count t (6 + l) (parts_of T old (eqb k 15) rows buffer count t) [] [] r
    → AllPut T old rows buffer false count t 0 (encapsulate (encoding_as old) (contents_of T old rows buffer count t)) [] [] r
message_measured T old rows buffer count t k ek l el r j =
    go r (contents_put T old rows buffer false count t k ek [] [] [] (6 + l) (puts_measured 6 (lead_of k old) (6 + l) (ap (λ (x : ℕ). 6 + x) el)) r j)
  where
    go : (r : Result ℕ Refusal) → AllPut T old rows buffer false count t 6 (contents_of T old rows buffer count t) [] [] r → AllPut T old rows buffer false count t 0 (encapsulate (encoding_as old) (contents_of T old rows buffer count t)) [] [] r
    go (Ok n) p = message_made T old rows buffer false count t _ [] [] (Ok n) p n refl (version_of old) refl [] [] (put_empty 0 _) (put_empty 4 _)
    go (Err x) p = p
