-- The check by one pass over the entries is the check: `running_stuck`, `running_late`, `running_next`, `running_missing`, `running_sound`.
-- The idea: what the pass keeps (the last burst, its bytes, a number above all messages so far) is all that `Fits` needs of the entries before.
-- Assumes nothing.
use Rattle.std.specs.Prelude.{◌≡◌, ℕ, zero, suc, ◌+◌, ◌-◌, ◌<◌, ◌≤◌, Bool, true, false, ◌&&◌, ◌||◌, List, [], ◌∷◌, ◌++◌, length, take, drop, ◌==◌, ◌≢◌, nat_le, nat_lt, Option, Some, None}
use Rattle.std.proofs.Math.Path.{refl, sym, ap}
use Rattle.std.proofs.Common.{◌∙◌, subst, true≢false, take-suc, take_all, drop-cons, get_or-take, length-take-le}
use native.Mathlib.Omega.{arith}
use borrow.Author.Tests.{eqb-true, eqb-false, leb-true, leb-false, ltb-true, ltb-false, lt-ltb, le-ltb, le-leb, lt-leb, eq-eqb, ne_eqb}
use Rattle.encoding.specs.Result.{pick}
use Rattle.encoding.proofs.ResultLaws.{both_true}
use Rattle.bursts.specs.declared.Checked.TheVariants.{Sound, Breaks}
use Rattle.bursts.specs.Bursts.{Waiting, Entry, most, length_of, cabin_of, bytes_in, broken_by, first_broken, verdict, judge, missing}
use Rattle.bursts.specs.BurstDemands.{no_entry, entry_at, Or, one, other, Begun}
use Rattle.bursts.proofs.BurstLaws.{any_found, any_none, Fits, fits_of, of_fits, begun_snoc, begun_empty, broken_here, broken_step, bytes_append, bytes_one, bytes_other}
use Rattle.bursts.proofs.BurstCounts.{missing_counted}
use Rattle.bursts.specs.Running.{Known, clashing, clashes, rising, opening, may_follow, packed, packing, entering}

pub drop_all : {A : Type 0} (n : ℕ) (l : List A) → length l ≤ n → drop n l ≡ []
drop_all zero [] h = refl
drop_all zero (x ∷ l) h = absurd (omega arith)
drop_all (suc n) [] h = refl
drop_all (suc n) (x ∷ l) h = drop_all n l (omega arith)

-- ---- bursts

-- burst number b may come at entry i, after burst number `last`
data Follows (i last b : ℕ) : Type 0 where
  first : i ≡ 0 → b ≡ 0 → Follows i last b
  same : (i ≢ 0) → b ≡ last → Follows i last b
  new : (i ≢ 0) → b ≡ suc last → Follows i last b

follow_same : (last b : ℕ) → b ≡ last → may_follow last b ≡ true
unfolding may_follow
follow_same last b h = rw (eq-eqb b last h)

follow_new : (last b : ℕ) → b ≡ suc last → may_follow last b ≡ true
unfolding may_follow
follow_new last b h = rw (eq-eqb b (suc last) h) (go (b == last))
  where
    go : (t : Bool) → t || true ≡ true
    go true = refl
    go false = refl

-- the bytes left in burst b: those left in the last one, or a whole burst
abbrev room : ℕ → ℕ → ℕ → ℕ
room last left b = pick (b == last) left most

some_none : {o : Option ℕ} {a : ℕ} → o ≡ Some a → o ≢ None
some_none e f = cc

some_same : {o : Option ℕ} {a b : ℕ} → o ≡ Some a → o ≡ Some b → a ≡ b
some_same e f = cc

module _ (last left b n : ℕ) where
  packing_fits : may_follow last b ≡ true → n ≤ room last left b → packing last left b n ≡ Some (room last left b - n)
  unfolding packing packed
  packing_fits m l = rw (m, le-leb n (room last left b) l)

  packing_over : may_follow last b ≡ true → room last left b < n → packing last left b n ≡ None
  unfolding packing packed
  packing_over m l = rw (m, lt-leb n (room last left b) l)

  packing_astray : may_follow last b ≡ false → packing last left b n ≡ None
  unfolding packing
  packing_astray m = rw m

  -- what `Some h` says of a burst
  record Held (h : ℕ) : Type 0 where
    follows : may_follow last b ≡ true
    fits : n ≤ room last left b
    rest : room last left b - n ≡ h

  packing_held : (h : ℕ) → packing last left b n ≡ Some h → Held h
  packing_held h e = go (may_follow last b) refl (nat_le n (room last left b)) refl
    where
      go : (t : Bool) → may_follow last b ≡ t → (u : Bool) → nat_le n (room last left b) ≡ u → Held h
      go false w u v = absurd (some_none e (packing_astray w))
      go true w false v = absurd (some_none e (packing_over w (leb-false n (room last left b) v)))
      go true w true v = let l = leb-true n (room last left b) v in record { follows = w; fits = l; rest = some_same (packing_fits w l) e }

room_same : (last left b : ℕ) → b ≡ last → room last left b ≡ left
room_same last left b e = rw (eq-eqb b last e)

room_new : (last left b : ℕ) → (b ≢ last) → room last left b ≡ most
room_new last left b e = rw (ne_eqb b last e)

-- the first burst number, if there is one, is 0
abbrev pub Opens : List Entry → Type 0
Opens es = 0 < length es → (entry_at es 0).burst ≡ 0

pub opens_of : (es : List Entry) → opening es ≡ true → Opens es
unfolding opening
opens_of [] e h = absurd (omega arith)
opens_of (x ∷ es) e h = eqb-true x.burst 0 e

-- else there is an entry, and its burst number is not 0
pub opens_not : (es : List Entry) → opening es ≡ false → (0 < length es) × ((entry_at es 0).burst ≢ 0)
unfolding opening
opens_not [] e = absurd (true≢false e)
opens_not (x ∷ es) e = (omega arith, eqb-false x.burst 0 e)

-- ---- the pass

-- what the pass knows after i entries
pub record Running (ws : List Waiting) (es : List Entry) (i above last left : ℕ) : Type 0 where
  pub inside : i ≤ length es
  pub begun : Begun ws (take i es)
  pub below : (j : ℕ) → j < i → (entry_at es j).message < above
  pub latest : (j : ℕ) → suc j ≡ i → (entry_at es j).burst ≡ last
  pub start : i ≡ 0 → last ≡ 0
  pub few : last ≤ i
  pub bytes : bytes_in ws last (take i es) + left ≡ most
  pub later : (c : ℕ) → last < c → bytes_in ws c (take i es) ≡ 0
  pub rest : judge ws es ≡ verdict ws es (first_broken ws i (take i es) (drop i es))

pub running_begin : (ws : List Waiting) (es : List Entry) → Running ws es 0 0 0 most
unfolding bytes_in judge
running_begin ws es = record {
  inside = omega arith;
  begun = begun_empty ws;
  below = λ j h. absurd (omega (arith, h));
  latest = λ j h. absurd (omega (arith, h));
  start = λ h. refl;
  few = omega arith;
  bytes = refl;
  later = λ c h. refl;
  rest = refl;
}

module _ (ws : List Waiting) (es : List Entry) (i above last left : ℕ) (r : Running ws es i above last left) where
  -- the bytes of a burst that may come next, and its room, add up to a whole burst
  follows_bytes : (b : ℕ) → Follows i last b → bytes_in ws b (take i es) + room last left b ≡ most
  follows_bytes b f = go f
    where
      on : b ≡ last → bytes_in ws b (take i es) + room last left b ≡ most
      on e = let z = ap (λ (x : ℕ). bytes_in ws x (take i es)) e in omega (arith, z, r.bytes, room_same last left b e)

      away : b ≡ suc last → b ≢ last
      away e q = omega arith

      go : Follows i last b → bytes_in ws b (take i es) + room last left b ≡ most
      go (first z h) = on (h ∙ sym (r.start z))
      go (same n e) = on e
      go (new n e) = omega (arith, r.later b (omega arith), room_new last left b (away e))

  -- its number is not below the last one
  follows_least : (b : ℕ) → Follows i last b → last ≤ b
  follows_least b (first z h) = let s = r.start z in omega arith
  follows_least b (same n e) = omega arith
  follows_least b (new n e) = omega arith

  -- its number is at most one more than the number of entries before
  follows_few : (b : ℕ) → Follows i last b → b ≤ suc i
  follows_few b (first z h) = omega arith
  follows_few b (same n e) = omega (arith, r.few)
  follows_few b (new n e) = omega (arith, r.few)

  -- the messages so far are waiting ones
  pub running_before : Known ws (take i es)
  running_before = record { at = r.begun.known }

  -- an entry before is the same among the first i
  front : (j : ℕ) → j < i → entry_at (take i es) j ≡ entry_at es j
  front j h = get_or-take i es j no_entry h

  counted : length (take i es) ≡ i
  counted = length-take-le i es r.inside

  front_message : (j : ℕ) → j < i → (entry_at (take i es) j).message ≡ (entry_at es j).message
  front_message j h = ap (λ (e : Entry). e.message) (front j h)

  module _ (h : i < length es) (e : Entry) (is : entry_at es i ≡ e) where
    -- 46 is at an entry that breaks a rule
    pub running_broken : (Fits ws (take i es) e → ⊥) → Breaks i ≡ judge ws es
    unfolding verdict
    running_broken n =
        sym
        (r.rest
        ∙ ap (λ (l : List Entry). verdict ws es (first_broken ws i (take i es) l)) (drop-cons es i no_entry h ∙ ap (λ (x : Entry). x ∷ drop (suc i) es) is)
        ∙ ap (verdict ws es) (broken_here ws i (take i es) e (drop (suc i) es) (go (broken_by ws (take i es) e) refl)))
      where
        go : (t : Bool) → broken_by ws (take i es) e ≡ t → broken_by ws (take i es) e ≡ true
        go true w = w
        go false w = absurd (n (fits_of ws (take i es) e w))

    -- the burst number of an entry that breaks no rule may come next
    fits_follows : Fits ws (take i es) e → Follows i last e.burst
    fits_follows f = go i refl
      where
        some_entry : (j : ℕ) → i ≡ suc j → i ≢ 0
        some_entry j a b = omega arith

        steps_on : (j : ℕ) → i ≡ suc j → Or (e.burst ≡ (entry_at (take i es) j).burst) (e.burst ≡ suc (entry_at (take i es) j).burst) → Follows i last e.burst
        steps_on j z (one q) = same (some_entry j z) (q ∙ ap (λ (x : Entry). x.burst) (front j (omega arith)) ∙ r.latest j (sym z))
        steps_on j z (other q) = new (some_entry j z) (q ∙ ap suc (ap (λ (x : Entry). x.burst) (front j (omega arith)) ∙ r.latest j (sym z)))

        go : (n : ℕ) → i ≡ n → Follows i last e.burst
        go zero z = first z (f.starts (counted ∙ z))
        go (suc j) z = steps_on j z (f.steps j (omega (arith, counted, z)))

    follows_may : Follows i last e.burst → may_follow last e.burst ≡ true
    follows_may (first z q) = follow_same last e.burst (q ∙ sym (r.start z))
    follows_may (same n q) = follow_same last e.burst q
    follows_may (new n q) = follow_new last e.burst q

    running_full : packing last left e.burst (length_of ws e.message) ≡ None → Fits ws (take i es) e → ⊥
    running_full p f =
        let m = fits_follows f in
        let b = follows_bytes e.burst m in
        some_none (packing_fits last left e.burst (length_of ws e.message) (follows_may m) (omega (arith, b, f.sum))) p

    -- a message that clashes with one before breaks a rule
    running_clash : clashes ws e.message (take i es) ≡ true → Fits ws (take i es) e → ⊥
    unfolding clashes clashing
    running_clash c f = go (any_found (λ x. clashing ws e.message x.message) (take i es) c)
      where
        go : (j : ℕ) × (j < length (take i es)) × (clashing ws e.message (entry_at (take i es) j).message ≡ true) → ⊥
        go (j, k, w) =
            let b = both_true (nat_le e.message (entry_at (take i es) j).message) _ w in
            let o = f.order j k (eqb-true _ _ b.1) in
            f.new j k (omega (arith, o, leb-true e.message (entry_at (take i es) j).message b.0))

    -- no message before clashes: none is equal, and those of the cabin are lower
    record Early : Type 0 where
      apart : (j : ℕ) → j < length (take i es) → (entry_at (take i es) j).message ≢ e.message
      order : (j : ℕ) → j < length (take i es) → cabin_of ws (entry_at (take i es) j).message ≡ cabin_of ws e.message → (entry_at (take i es) j).message ≤ e.message

    early_looked : clashes ws e.message (take i es) ≡ false → Early
    unfolding clashes clashing
    early_looked c = record {
      apart = λ j k q. let l = lower j k (ap (cabin_of ws) q) in away l q;
      order = λ j k alike. let l = lower j k alike in omega arith;
    }
      where
        away : {x : ℕ} → x < e.message → x ≢ e.message
        away l q = omega arith

        lower : (j : ℕ) → j < length (take i es) → cabin_of ws (entry_at (take i es) j).message ≡ cabin_of ws e.message → (entry_at (take i es) j).message < e.message
        lower j k alike = let n = any_none (λ x. clashing ws e.message x.message) (take i es) c j k in go (nat_le e.message (entry_at (take i es) j).message) refl (rw (eq-eqb _ _ alike) at n)
          where
            go : (t : Bool) → nat_le e.message (entry_at (take i es) j).message ≡ t → (t && true) ≡ false → (entry_at (take i es) j).message < e.message
            go true q w = absurd (true≢false w)
            go false q w = leb-false e.message (entry_at (take i es) j).message q

    early_above : above ≤ e.message → Early
    early_above a = record { apart = λ j k q. less j k (lower j k) q; order = λ j k alike. let l = lower j k in omega arith }
      where
        lower : (j : ℕ) → j < length (take i es) → (entry_at (take i es) j).message < e.message
        lower j k = let q = front_message j (omega (arith, counted, k)) in let l = r.below j (omega (arith, counted, k)) in omega arith

        less : (j : ℕ) → j < length (take i es) → (entry_at (take i es) j).message < e.message → (entry_at (take i es) j).message ≢ e.message
        less j k l q = omega arith

    -- an entry that breaks no rule
    module _ (o : Opens es) (p : ℕ) (known : e.message < length ws) (y : Early) (d : Held last left e.burst (length_of ws e.message) p) where
      goes : Follows i last e.burst
      unfolding may_follow
      goes = go (i == 0) refl (e.burst == last) refl d.follows
        where
          open_burst : i ≡ 0 → e.burst ≡ 0
          open_burst z = sym (ap (λ (x : Entry). x.burst) (ap (entry_at es) (sym z) ∙ is)) ∙ o (omega (arith, h))

          go : (t : Bool) → (i == 0) ≡ t → (u : Bool) → (e.burst == last) ≡ u → u || (e.burst == suc last) ≡ true → Follows i last e.burst
          go true w u v m = first (eqb-true i 0 w) (open_burst (eqb-true i 0 w))
          go false w true v m = same (eqb-false i 0 w) (eqb-true e.burst last v)
          go false w false v m = new (eqb-false i 0 w) (eqb-true e.burst (suc last) m)

      running_fits : Fits ws (take i es) e
      running_fits = record {
        known = known;
        new = y.apart;
        starts = λ z. starts_at (omega (arith, counted, z)) goes;
        steps = λ j z. steps_at j (omega (arith, counted, z)) goes;
        sum = omega (arith, follows_bytes e.burst goes, d.fits);
        order = y.order;
      }
        where
          starts_at : i ≡ 0 → Follows i last e.burst → e.burst ≡ 0
          starts_at z (first a b) = b
          starts_at z (same n q) = absurd (n z)
          starts_at z (new n q) = absurd (n z)

          at_last : (j : ℕ) → suc j ≡ i → (entry_at (take i es) j).burst ≡ last
          at_last j z = ap (λ (x : Entry). x.burst) (front j (omega arith)) ∙ r.latest j z

          steps_at : (j : ℕ) → suc j ≡ i → Follows i last e.burst → Or (e.burst ≡ (entry_at (take i es) j).burst) (e.burst ≡ suc (entry_at (take i es) j).burst)
          steps_at j z (first a b) = absurd (omega arith)
          steps_at j z (same n q) = one (q ∙ sym (at_last j z))
          steps_at j z (new n q) = other (q ∙ ap suc (sym (at_last j z)))

      more : take (suc i) es ≡ take i es ++ (e ∷ [])
      more = take-suc es i no_entry h ∙ ap (λ (x : Entry). take i es ++ (x ∷ [])) is

      broken_none : broken_by ws (take i es) e ≡ false
      broken_none = of_fits ws (take i es) e running_fits

      running_step : (above' : ℕ) → above ≤ above' → e.message < above' → Running ws es (suc i) above' e.burst p
      running_step above' a l = record {
        inside = h;
        begun = subst (λ (x : List Entry). Begun ws x) (sym more) (begun_snoc ws (take i es) e r.begun running_fits);
        below = λ j k. below_at j k (nat_lt j i) refl;
        latest = λ j k. latest_at j k;
        start = λ z. absurd (omega (arith, z));
        few = follows_few e.burst goes;
        bytes = let m = ap (bytes_in ws e.burst) more in omega (arith, m, bytes_append ws e.burst (take i es) (e ∷ []), bytes_one ws e, follows_bytes e.burst goes, d.fits, d.rest);
        later = λ c k. ap (bytes_in ws c) more ∙ omega (arith, bytes_append ws c (take i es) (e ∷ []), bytes_other ws c e (λ q. differ c k q), r.later c (omega (arith, follows_least e.burst goes, k)));
        rest =
            r.rest
            ∙ ap (λ (x : List Entry). verdict ws es (first_broken ws i (take i es) x)) (drop-cons es i no_entry h ∙ ap (λ (x : Entry). x ∷ drop (suc i) es) is)
            ∙ ap (verdict ws es) (broken_step ws i (take i es) e (drop (suc i) es) broken_none ∙ ap (λ (x : List Entry). first_broken ws (suc i) x (drop (suc i) es)) (sym more));
      }
        where
          differ : (c : ℕ) → e.burst < c → e.burst ≢ c
          differ c k q = omega arith

          here : (j : ℕ) → j ≡ i → entry_at es j ≡ e
          here j q = ap (entry_at es) q ∙ is

          below_at : (j : ℕ) → j < suc i → (t : Bool) → nat_lt j i ≡ t → (entry_at es j).message < above'
          below_at j k true w = let b = r.below j (ltb-true j i w) in omega arith
          below_at j k false w = let n = ltb-false j i w in let q = ap (λ (x : Entry). x.message) (here j (omega arith)) in omega arith

          latest_at : (j : ℕ) → suc j ≡ suc i → (entry_at es j).burst ≡ e.burst
          latest_at j k = ap (λ (x : Entry). x.burst) (here j (omega arith))

    -- the cases of `entering`
    data Entered (x : Option ℕ) : Type 0 where
      unknown : length ws ≤ e.message → x ≡ None → Entered x
      goes_on : e.message < length ws → packing last left e.burst (length_of ws e.message) ≡ x → Entered x

    entered : Entered (entering ws last left e.message e.burst)
    unfolding entering
    entered = go (nat_le (length ws) e.message) refl
      where
        go : (t : Bool) → nat_le (length ws) e.message ≡ t → Entered (pick t None (packing last left e.burst (length_of ws e.message)))
        go true w = unknown (leb-true (length ws) e.message w) refl
        go false w = goes_on (leb-false (length ws) e.message w) refl

    data Rose (x : Option ℕ) : Type 0 where
      over : above ≤ e.message → x ≡ Some (suc e.message) → Rose x
      clash : clashes ws e.message (take i es) ≡ true → x ≡ None → Rose x
      clear : e.message < above → clashes ws e.message (take i es) ≡ false → x ≡ Some above → Rose x

    rose : Rose (rising ws (take i es) above e.message)
    unfolding rising
    rose = go (nat_le above e.message) refl (clashes ws e.message (take i es)) refl
      where
        go : (t : Bool) → nat_le above e.message ≡ t → (u : Bool) → clashes ws e.message (take i es) ≡ u → Rose (pick t (Some (suc e.message)) (pick u None (Some above)))
        go true w u v = over (leb-true above e.message w) refl
        go false w true v = clash v refl
        go false w false v = clear (leb-false above e.message w) v refl

    module _ (y : Option ℕ) (q : y ≡ rising ws (take i es) above e.message) where
      pub running_late : y ≡ None → Breaks i ≡ judge ws es
      running_late f = running_broken (go (subst Rose (sym q) rose))
        where
          go : Rose y → Fits ws (take i es) e → ⊥
          go (over k g) t = some_none g f
          go (clash c g) t = running_clash c t
          go (clear k c g) t = some_none g f

      -- what `Some a` says of a message
      record Came (a : ℕ) : Type 0 where
        early : Early
        more : above ≤ a
        most_so_far : e.message < a

      came : (a : ℕ) → y ≡ Some a → Came a
      came a f = go (subst Rose (sym q) rose)
        where
          go : Rose y → Came a
          go (over k g) = let z : a ≡ suc e.message = cc in record { early = early_above k; more = omega arith; most_so_far = omega arith }
          go (clash c g) = absurd (some_none f g)
          go (clear k c g) = let z : a ≡ above = cc in record { early = early_looked c; more = omega arith; most_so_far = omega arith }

    module _ (x : Option ℕ) (q : x ≡ entering ws last left e.message e.burst) where
      pub running_stuck : x ≡ None → Breaks i ≡ judge ws es
      running_stuck f = running_broken (go (subst Entered (sym q) entered))
        where
          go : Entered x → Fits ws (take i es) e → ⊥
          go (unknown k g) t = omega (arith, k, t.known)
          go (goes_on k g) t = running_full (g ∙ f) t

      module _ (p : ℕ) (f : x ≡ Some p) where
        pub running_known : e.message < length ws
        running_known = go (subst Entered (sym q) entered)
          where
            go : Entered x → e.message < length ws
            go (unknown k g) = absurd (some_none f g)
            go (goes_on k g) = k

        pub running_next : Opens es → (y : Option ℕ) → y ≡ rising ws (take i es) above e.message → (a : ℕ) → y ≡ Some a → Running ws es (suc i) a e.burst p
        running_next o y s a t = go (came y s a t) (subst Entered (sym q) entered)
          where
            go : Came y s a → Entered x → Running ws es (suc i) a e.burst p
            go c (unknown k g) = absurd (some_none f g)
            go c (goes_on k g) = running_step o p k c.early (packing_held last left e.burst (length_of ws e.message) p (g ∙ f)) a c.more c.most_so_far

  -- the pass is over
  module _ (h : length es ≤ i) where
    ended : judge ws es ≡ pick (missing ws es) (Breaks (length es)) Sound
    unfolding verdict first_broken
    ended = r.rest ∙ ap (λ (x : List Entry). verdict ws es (first_broken ws i (take i es) x)) (drop_all i es h)

    whole : Begun ws es
    whole = subst (λ (x : List Entry). Begun ws x) (take_all i es h) r.begun

    pub running_missing : length es < length ws → Breaks (length es) ≡ judge ws es
    running_missing l = sym (ended ∙ ap (λ (t : Bool). pick t (Breaks (length es)) Sound) (missing_counted ws es whole ∙ lt-ltb (length es) (length ws) l))

    pub running_sound : length ws ≤ length es → Sound ≡ judge ws es
    running_sound l = sym (ended ∙ ap (λ (t : Bool). pick t (Breaks (length es)) Sound) (missing_counted ws es whole ∙ le-ltb (length es) (length ws) l))
