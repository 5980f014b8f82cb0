-- The loops over a row's bases and over its members. Assumes nothing.
--
--   base_is ..        the base of a row
--   top_.., owner_..  the loop up a chain that looks for a row, or for the owner of a member
--   takes_.., end_is  whether a row takes a member, and where its members end
--   Optionals, optionals_..   the loop over a row's members that looks for a tag
--   Skipping, skipping_..     the loops over member rows that pass optional rows, four at a time and one by one
--   bare_..                   rows from which on none is required
--   Searching, searching_..   the loops over member rows that look for an optional one, four rows at a time and one by one
--   Passing, passing_..       the loop over the rows before a member that looks for a tag above its own
use Prim.Native.Nat.{ℕ, zero, suc, ◌+◌, ◌-◌, ◌≤◌, ◌<◌}
use mathlib.Core.Path.{◌≡◌, refl, sym, ap, ap₂, ◌∙◌, subst}
use mathlib.Core.Bool.{Bool, true, false, not}
use mathlib.Core.List.{List, ◌∷◌}
use native.Mathlib.Nat.{add-zero}
use native.Mathlib.Numerals.{add-one, sub-one}
use native.Mathlib.Omega.{arith}
use lib.ListN.{get_or}
use lib.Bits.{bit_and, bit_or, and_zero_r, and_le_l, and_le_r, or_add_and}
use lib.Dec.{eqb, ltb}
use borrow.Author.Tests.{le-leb, lt-leb, lt-ltb, le-ltb, eqb-true, eqb-false, eq-eqb, ne_eqb}
use Rattle.encoding.specs.Result.{pick}
use Rattle.wire.specs.At.{at_byte}
use Rattle.encoding.specs.Table.{at, member_at, kind, field, is_record, member_type, mark, tag, range, takes, any, base, upward, chain, Member, member_ty, optionals_in, trees, lookup}
use Rattle.encoding.proofs.TableLaws.{chain_row}
use Rattle.table.specs.Found.{member_found}
use Rattle.table.specs.Rows.{IsMemberRow}
use Rattle.table.specs.Tags.{optional_from, first_required, has_optional, is_above, first_above, behind}
use Rattle.table.specs.declared.MemberRow.{MemberRow}
use Rattle.table.specs.declared.TaggedMember.{TaggedMember}
use Rattle.std.specs.Prelude.{Option, Some, None}
use Rattle.table.proofs.Ranges.{range_more, range_none, any_here, any_next, any_none}

-- ---- bases

module _ (T : List ℕ) (t k : ℕ) (ek : k ≡ kind T t) (r : Bool) (er : r ≡ is_record k) where
  record_is : (b : Bool) → r ≡ b → is_record (kind T t) ≡ b
  record_is b q = ap is_record (sym ek) ∙ sym er ∙ q

  pub base_is : (b : ℕ) → r ≡ true → b ≡ field T t 2 → b ≤ t → b ≡ base T t
  unfolding base
  base_is b q e h = let l : field T t 2 ≤ t = omega arith in rw (record_is true q, le-leb _ _ l) e

  pub base_above : (b : ℕ) → r ≡ true → b ≡ field T t 2 → t < b → 0 ≡ base T t
  unfolding base
  base_above b q e h = let l : t < field T t 2 = omega arith in rw (record_is true q, lt-leb _ _ l)

  pub base_none : r ≡ false → 0 ≡ base T t
  unfolding base
  base_none q = rw (record_is false q)

-- ---- up the chain

module _ (T : List ℕ) (f : ℕ → Bool) (t : ℕ) where
  up_here : f t ≡ true → any f (chain T t) ≡ true
  unfolding any
  up_here e = rw (chain_row T t, e)

  up_end : f t ≡ false → base T t ≡ 0 → any f (chain T t) ≡ false
  unfolding any upward
  up_end e b = rw (chain_row T t, e, b)

  up_next : f t ≡ false → (base T t ≡ 0 → ⊥) → any f (chain T t) ≡ any f (chain T (base T t - 1))
  unfolding any upward
  up_next e h = rw (chain_row T t, e) (go (base T t) h)
    where
      go : (b : ℕ) → (b ≡ 0 → ⊥) → any f (upward (chain T) b) ≡ any f (chain T (b - 1))
      go zero h = absurd (h refl)
      go (suc r) h = rw sub-one

-- the loop that looks for a row
module _ (T : List ℕ) (top o : ℕ) (whole : Bool) (inv : whole ≡ any (λ r. eqb r top) (chain T o)) where
  pub top_here : o ≡ top → true ≡ whole
  top_here e = sym (inv ∙ up_here T (λ r. eqb r top) o (eq-eqb o top e))

  module _ (ne : o ≡ top → ⊥) (b : ℕ) (e : b ≡ base T o) where
    pub top_end : b ≡ 0 → false ≡ whole
    top_end z = sym (inv ∙ up_end T (λ r. eqb r top) o (ne_eqb o top ne) (sym e ∙ z))

    pub top_next : (b ≡ 0 → ⊥) → whole ≡ any (λ r. eqb r top) (chain T (b - 1))
    top_next z = inv ∙ rw e (up_next T (λ r. eqb r top) o (ne_eqb o top ne) (λ q. z (e ∙ q)))

-- the loop that looks for the owner of a member
module _ (T : List ℕ) (m o : ℕ) (whole : Bool) (inv : whole ≡ any (λ r. takes T r m) (chain T o)) (r : Bool) (er : r ≡ takes T o m) where
  pub owner_here : r ≡ true → true ≡ whole
  owner_here q = sym (inv ∙ up_here T (λ r. takes T r m) o (sym er ∙ q))

  module _ (ne : r ≡ false) (b : ℕ) (e : b ≡ base T o) where
    pub owner_end : b ≡ 0 → false ≡ whole
    owner_end z = sym (inv ∙ up_end T (λ r. takes T r m) o (sym er ∙ ne) (sym e ∙ z))

    pub owner_next : (b ≡ 0 → ⊥) → whole ≡ any (λ r. takes T r m) (chain T (b - 1))
    owner_next z = inv ∙ rw e (up_next T (λ r. takes T r m) o (sym er ∙ ne) (λ q. z (e ∙ q)))

-- ---- members

module _ (T : List ℕ) (t m a : ℕ) (ea : a ≡ field T t 0) where
  pub takes_before : m < a → false ≡ takes T t m
  unfolding takes
  takes_before h = let l : m < field T t 0 = omega arith in rw (lt-leb _ _ l)

  pub takes_is : (b : ℕ) → b ≡ field T t 1 → a ≤ m → ltb m (a + b) ≡ takes T t m
  unfolding takes
  takes_is b eb h = let l : field T t 0 ≤ m = omega arith in rw (le-leb _ _ l, ea, eb)

pub end_is : (T : List ℕ) (t a b : ℕ) → a ≡ field T t 0 → b ≡ field T t 1 → a + b ≡ field T t 0 + field T t 1
end_is T t a b ea eb = ap₂ ◌+◌ ea eb

-- ---- members from a row on

-- the rows left to look at decide the answer
abbrev pub Optionals : List ℕ → ℕ → ℕ → ℕ → ℕ → Type 0
Optionals T end from key m = member_found T (lookup key (optional_from T end from)) ≡ member_found T (lookup key (optionals_in T (trees T) (range m (end - m))))

pub optionals_begin : (T : List ℕ) (end from key : ℕ) → Optionals T end from key from
unfolding optional_from
optionals_begin T end from key = refl

module _ (T : List ℕ) (end from key m : ℕ) (inv : Optionals T end from key m) where
  pub optionals_end : end ≤ m → None ≡ member_found T (lookup key (optional_from T end from))
  unfolding optionals_in lookup member_found
  optionals_end h = sym (inv ∙ rw (range_none m end h))

  module _ (h : m < end) (r : MemberRow) (is : IsMemberRow T m r) where
    rest : Option TaggedMember
    rest = member_found T (lookup key (optionals_in T (trees T) (range (m + 1) (end - (m + 1)))))

    optionals_more : member_found T (lookup key (optional_from T end from)) ≡ pick (eqb r.mark 0) rest (pick (eqb key r.tag) (Some (record { member = m; of = r.of })) rest)
    unfolding optionals_in lookup member_found rest
    optionals_more = inv ∙ rw (range_more m end h, is.mark_is, is.tag_is, is.of_is) (go (eqb (mark T m) 0) (eqb key (tag T m)) refl)
      where
        ahead : List Member
        ahead = optionals_in T (trees T) (range (m + 1) (end - (m + 1)))

        go : (a b : Bool) → eqb key (tag T m) ≡ b → member_found T (lookup key (pick a ahead (record { row = m; key = tag T m; ty = member_ty T (trees T) m } ∷ ahead)))
            ≡ pick a (member_found T (lookup key ahead)) (pick b (Some (record { member = m; of = member_type T m })) (member_found T (lookup key ahead)))
        go true b e = refl
        go false true e = rw e
        go false false e = rw e

    pub optionals_required : r.mark ≡ 0 → Optionals T end from key (m + 1)
    unfolding rest
    optionals_required z = optionals_more ∙ rw (eq-eqb r.mark 0 z)

    module _ (o : r.mark ≡ 0 → ⊥) where
      pub optionals_here : key ≡ r.tag → Some (record { member = m; of = r.of }) ≡ member_found T (lookup key (optional_from T end from))
      optionals_here e = sym (optionals_more ∙ rw (ne_eqb r.mark 0 o, eq-eqb key r.tag e))

      pub optionals_other : (key ≡ r.tag → ⊥) → Optionals T end from key (m + 1)
      unfolding rest
      optionals_other e = optionals_more ∙ rw (ne_eqb r.mark 0 o, ne_eqb key r.tag e)

-- ---- after a member

-- the rows left to look at decide the answer
abbrev pub Passing : List ℕ → ℕ → ℕ → ℕ → ℕ → Type 0
Passing T from m key i = behind T from m key ≡ first_above T key (m + 1) i (m - i)

pub passing_begin : (T : List ℕ) (from m key : ℕ) → Passing T from m key from
unfolding behind
passing_begin T from m key = refl

module _ (T : List ℕ) (from m key i : ℕ) (inv : Passing T from m key i) where
  passing_more : i < m → first_above T key (m + 1) i (m - i) ≡ pick (is_above T key i) i (first_above T key (m + 1) (i + 1) (m - (i + 1)))
  unfolding first_above
  passing_more h = let e : m - i ≡ suc (m - (i + 1)) = omega arith in rw (e, add-one i)

  module _ (h : i < m) (r : MemberRow) (is : IsMemberRow T i r) where
    pub passing_required : r.mark ≡ 0 → Passing T from m key (i + 1)
    passing_required z = inv ∙ passing_more h ∙ rw (eq-eqb (mark T i) 0 (sym is.mark_is ∙ z))

    module _ (o : r.mark ≡ 0 → ⊥) where
      passing_by : (b : Bool) → ltb key r.tag ≡ b → is_above T key i ≡ b
      passing_by b q = rw (ne_eqb (mark T i) 0 (λ z. o (is.mark_is ∙ z)), ← is.tag_is) q

      pub passing_here : key < r.tag → i ≡ behind T from m key
      passing_here l = sym (inv ∙ passing_more h ∙ rw (passing_by true (lt-ltb key r.tag l)))

      pub passing_next : r.tag ≤ key → Passing T from m key (i + 1)
      passing_next l = inv ∙ passing_more h ∙ rw (passing_by false (le-ltb key r.tag l))

  pub passing_end : m ≤ i → m + 1 ≡ behind T from m key
  unfolding first_above
  passing_end h = let e : m - i ≡ 0 = omega arith in sym (inv ∙ rw e)

-- ---- optional rows that are passed

required_here : (T : List ℕ) (i end : ℕ) → i < end → mark T i ≡ 0 → first_required T i (end - i) ≡ i
unfolding first_required
required_here T i end h z = let e : end - i ≡ suc (end - (i + 1)) = omega arith in rw (e, z)

required_past : (T : List ℕ) (i end : ℕ) → i < end → (mark T i ≡ 0 → ⊥) → first_required T i (end - i) ≡ first_required T (i + 1) (end - (i + 1))
unfolding first_required
required_past T i end h z = let e : end - i ≡ suc (end - (i + 1)) = omega arith in rw (e, ne_eqb (mark T i) 0 z, add-one i)

-- the row that is looked at has the same first required row as row m
pub record Skipping (T : List ℕ) (m end i : ℕ) : Type 0 where
  pub begun : m ≤ i
  pub within : i ≤ end
  pub same : first_required T i (end - i) ≡ first_required T m (end - m)

pub skipping_begin : (T : List ℕ) (m end : ℕ) → m ≤ end → {i : ℕ} → i ≡ m → Skipping T m end i
skipping_begin T m end h q = rw q (record { begun = omega arith; within = h; same = refl })

pub skipping_begun : (T : List ℕ) (m end r : ℕ) → first_required T r (end - r) ≡ first_required T m (end - m) → m ≤ r → r ≤ end → {i : ℕ} → i ≡ r → Skipping T m end i
skipping_begun T m end r e l h q = rw q (record { begun = l; within = h; same = e })

module _ (T : List ℕ) (m end i : ℕ) (inv : Skipping T m end i) where
  pub skipping_same : first_required T i (end - i) ≡ first_required T m (end - m)
  skipping_same = inv.same

  pub skipping_past : m ≤ i
  skipping_past = inv.begun

  pub skipping_within : i ≤ end
  skipping_within = inv.within

  pub skipping_end : end ≤ i → end ≡ first_required T m (end - m)
  unfolding first_required
  skipping_end h =
      let z : end - i ≡ 0 = omega arith in
      let e : end ≡ i = omega (arith, inv.within) in
      e ∙ (rw z at inv.same)

  module _ (h : i < end) (k : ℕ) (e : k ≡ mark T i) where
    pub skipping_here : k ≡ 0 → i ≡ first_required T m (end - m)
    skipping_here z = sym (required_here T i end h (sym e ∙ z)) ∙ inv.same

    pub skipping_next : (k ≡ 0 → ⊥) → Skipping T m end (i + 1)
    skipping_next z = record { begun = omega (arith, inv.begun); within = omega arith; same = sym (required_past T i end h (λ q. z (e ∙ q))) ∙ inv.same }

-- ---- rows from which on none is required

-- the loop ends where no required row is left
pub bare_end : (T : List ℕ) (from end i : ℕ) → i ≡ first_required T from (end - from) → i ≤ end → end ≤ i → first_required T from (end - from) ≡ end
bare_end T from end i e h l = let z : i ≡ end = omega arith in sym e ∙ z

-- so is every later row
bare_more : (T : List ℕ) (end r : ℕ) → first_required T r (end - r) ≡ end → (d : ℕ) → r + d ≤ end → first_required T (r + d) (end - (r + d)) ≡ end
bare_more T end r e zero h = rw (add-zero r) e
bare_more T end r e (suc d) h = go (eqb (mark T (r + d)) 0) refl (bare_more T end r e d (omega arith))
  where
    go : (b : Bool) → eqb (mark T (r + d)) 0 ≡ b → first_required T (r + d) (end - (r + d)) ≡ end → first_required T (r + suc d) (end - (r + suc d)) ≡ end
    go true q i = absurd (omega (arith, sym (required_here T (r + d) end (omega arith) (eqb-true (mark T (r + d)) 0 q)) ∙ i))
    go false q i =
        let z : r + d + 1 ≡ r + suc d = omega arith in
        subst (λ (j : ℕ). first_required T j (end - j) ≡ end) z (sym (required_past T (r + d) end (omega arith) (eqb-false (mark T (r + d)) 0 q)) ∙ i)

pub bare_later : (T : List ℕ) (r end : ℕ) → first_required T r (end - r) ≡ end → (m : ℕ) → r ≤ m → m ≤ end → end ≡ first_required T m (end - m)
bare_later T r end e m l h = let z : r + (m - r) ≡ m = omega arith in sym (subst (λ (j : ℕ). first_required T j (end - j) ≡ end) z (bare_more T end r e (m - r) (omega arith)))

-- four marks at a time
some_mark : (a b c d : ℕ) → (bit_and (bit_and (bit_and a b) c) d ≡ 0 → ⊥) → (a ≡ 0 → ⊥) × (b ≡ 0 → ⊥) × (c ≡ 0 → ⊥) × (d ≡ 0 → ⊥)
some_mark a b c d h =
    (λ z. h (rw z), λ z. h (rw (z, and_zero_r a)), λ z. h (rw (z, and_zero_r (bit_and a b))), λ z. h (rw (z, and_zero_r (bit_and (bit_and a b) c))))

mark_byte : (T : List ℕ) (i p : ℕ) → p ≡ member_at T i + 2 → get_or T p 0 ≡ mark T i
unfolding mark
mark_byte T i p e = sym (at_byte T p) ∙ ap (at T 1) e

-- what each of four rows keeps, by its mark, all four keep
four_marks : (T : List ℕ) (i p : ℕ) → p ≡ member_at T i → (Q S : ℕ → Type 0) → ((j : ℕ) → j < i + 4 → Q (mark T j) → S j → S (j + 1))
    → Q (get_or T (p + 2) 0) → Q (get_or T (p + 2 + 8) 0) → Q (get_or T (p + 2 + 16) 0) → Q (get_or T (p + 2 + 24) 0) → S i → S (i + 4)
four_marks T i p e Q S step q₀ q₁ q₂ q₃ start =
    let a = step i (omega arith) (subst Q (mark_byte T i (p + 2) (omega arith)) q₀) start in
    let b = step (i + 1) (omega arith) (subst Q (mark_byte T (i + 1) (p + 2 + 8) (omega arith)) q₁) a in
    let c = step (i + 1 + 1) (omega arith) (subst Q (mark_byte T (i + 1 + 1) (p + 2 + 16) (omega arith)) q₂) b in
    let d = step (i + 1 + 1 + 1) (omega arith) (subst Q (mark_byte T (i + 1 + 1 + 1) (p + 2 + 24) (omega arith)) q₃) c in
    let z : i + 1 + 1 + 1 + 1 ≡ i + 4 = omega arith in
    subst S z d

pub skipping_four : (T : List ℕ) (m end i : ℕ) → Skipping T m end i → 4 ≤ end - i → (p : ℕ) → p ≡ member_at T i
    → (bit_and (bit_and (bit_and (get_or T (p + 2) 0) (get_or T (p + 2 + 8) 0)) (get_or T (p + 2 + 16) 0)) (get_or T (p + 2 + 24) 0) ≡ 0 → ⊥) → {j : ℕ} → j ≡ i + 4 → Skipping T m end j
skipping_four T m end i inv h p e n z =
    let M = some_mark (get_or T (p + 2) 0) (get_or T (p + 2 + 8) 0) (get_or T (p + 2 + 16) 0) (get_or T (p + 2 + 24) 0) n in
    rw z (four_marks T i p e (λ k. k ≡ 0 → ⊥) (Skipping T m end) (λ j l q s. skipping_next T m end j s (omega arith) (mark T j) refl q) M.0 M.1 M.2 M.3 inv)

-- ---- an optional row that is looked for

abbrev optional : List ℕ → ℕ → Bool
optional T i = not (eqb (mark T i) 0)

-- the rows from the one that is looked at decide
pub record Searching (T : List ℕ) (m end i : ℕ) : Type 0 where
  pub within : i ≤ end
  pub same : has_optional T i (end - i) ≡ has_optional T m (end - m)

pub searching_begin : (T : List ℕ) (m end : ℕ) → m ≤ end → {i : ℕ} → i ≡ m → Searching T m end i
searching_begin T m end h q = rw q (record { within = h; same = refl })

pub searching_begun : (T : List ℕ) (m end r : ℕ) → has_optional T r (end - r) ≡ has_optional T m (end - m) → r ≤ end → {i : ℕ} → i ≡ r → Searching T m end i
searching_begun T m end r e h q = rw q (record { within = h; same = e })

module _ (T : List ℕ) (m end i : ℕ) (inv : Searching T m end i) where
  pub searching_same : has_optional T i (end - i) ≡ has_optional T m (end - m)
  searching_same = inv.same

  pub searching_within : i ≤ end
  searching_within = inv.within

  pub searching_end : end ≤ i → false ≡ has_optional T m (end - m)
  unfolding has_optional
  searching_end h = sym (any_none (optional T) i end h) ∙ inv.same

  module _ (h : i < end) (k : ℕ) (e : k ≡ mark T i) where
    pub searching_here : (k ≡ 0 → ⊥) → true ≡ has_optional T m (end - m)
    unfolding has_optional
    searching_here z = sym (any_here (optional T) i end h (rw (ne_eqb (mark T i) 0 (λ q. z (e ∙ q))))) ∙ inv.same

    pub searching_next : k ≡ 0 → Searching T m end (i + 1)
    unfolding has_optional
    searching_next z = record { within = omega arith; same = sym (any_next (optional T) i end h (rw (sym e ∙ z))) ∙ inv.same }

-- four marks at a time
no_mark : (a b c d : ℕ) → bit_or (bit_or (bit_or a b) c) d ≡ 0 → (a ≡ 0) × (b ≡ 0) × (c ≡ 0) × (d ≡ 0)
no_mark a b c d h =
    let x : bit_or (bit_or a b) c ≡ 0 = (none (bit_or (bit_or a b) c) d h).0 in
    let y : bit_or a b ≡ 0 = (none (bit_or a b) c x).0 in
    ((none a b y).0, (none a b y).1, (none (bit_or a b) c x).1, (none (bit_or (bit_or a b) c) d h).1)
  where
    none : (a b : ℕ) → bit_or a b ≡ 0 → (a ≡ 0) × (b ≡ 0)
    none a b h = (omega (arith, or_add_and a b, and_le_r a b), omega (arith, or_add_and a b, and_le_l a b))

pub searching_four : (T : List ℕ) (m end i : ℕ) → Searching T m end i → 4 ≤ end - i → (p : ℕ) → p ≡ member_at T i
    → bit_or (bit_or (bit_or (get_or T (p + 2) 0) (get_or T (p + 2 + 8) 0)) (get_or T (p + 2 + 16) 0)) (get_or T (p + 2 + 24) 0) ≡ 0 → {j : ℕ} → j ≡ i + 4 → Searching T m end j
searching_four T m end i inv h p e n z =
    let M = no_mark (get_or T (p + 2) 0) (get_or T (p + 2 + 8) 0) (get_or T (p + 2 + 16) 0) (get_or T (p + 2 + 24) 0) n in
    rw z (four_marks T i p e (λ k. k ≡ 0) (Searching T m end) (λ j l q s. searching_next T m end j s (omega arith) (mark T j) refl q) M.0 M.1 M.2 M.3 inv)
