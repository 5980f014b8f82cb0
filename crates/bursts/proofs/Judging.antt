-- The loop of the check over the entries. Assumes nothing.
--
--   Passed                           what the loop keeps of the entries so far
--   judged_begin, judged_astray      before the first entry, by its burst number
--   judged_stuck, judged_late        an entry that breaks a rule
--   judged_next                      an entry that breaks none
--   judged_known, judged_before      its message is a waiting one; so are those before
--   judged_missing, judged_sound     after the last entry
use Rattle.std.proofs.Common.{◌≡◌, ℕ, ◌+◌, ◌*◌, ◌/◌, ◌<◌, ◌≤◌, Bool, true, false, not, List, length, get_or, take, Option, Some, None, sym, refl, ap, ◌∙◌, add-one, arith, subst}
use borrow.Author.Tests.{not-true, not-false}
use Rattle.bursts.specs.declared.Checked.TheVariants.{Sound, Breaks}
use Rattle.bursts.specs.Bursts.{Entry, waitings, entries, checking}
use Rattle.bursts.specs.BurstDemands.{entry_at}
use Rattle.bursts.specs.Running.{rising, opening, entering, Known}
use Rattle.bursts.proofs.RunningLaws.{Running, Opens, opens_of, opens_not, running_begin, running_broken, running_late, running_stuck, running_known, running_next, running_missing, running_sound, running_before}
use Rattle.bursts.proofs.PairLaws.{waitings_count, entries_count, entries_take, entry_pair}

-- what the loop keeps; a data type, so that a search does not look into it
pub data Passed (ms ns : List ℕ) (i above last left : ℕ) : Type 0 where
  passed : Running (waitings ms) (entries ns) i above last left → Opens (entries ns) → Passed ms ns i above last left

module _ (ms ns : List ℕ) (t : Bool) (e : t ≡ opening (entries ns)) where
  pub judged_begin : not t ≡ false → Passed ms ns 0 0 0 340
  judged_begin q = passed (running_begin (waitings ms) (entries ns)) (opens_of (entries ns) (sym e ∙ not-false t q))

  pub judged_astray : not t ≡ true → Breaks 0 ≡ checking ms ns
  unfolding checking
  judged_astray q =
      let o = opens_not (entries ns) (sym e ∙ not-true t q) in
      running_broken (waitings ms) (entries ns) 0 0 0 340 (running_begin (waitings ms) (entries ns)) o.0 (entry_at (entries ns) 0) refl (λ f. o.1 (f.starts refl))

runs : {ms ns : List ℕ} {i above last left : ℕ} → Passed ms ns i above last left → Running (waitings ms) (entries ns) i above last left
runs (passed r o) = r

opened : {ms ns : List ℕ} {i above last left : ℕ} → Passed ms ns i above last left → Opens (entries ns)
opened (passed r o) = o

module _ (ms ns : List ℕ) (i above last left : ℕ) (o : Passed ms ns i above last left) where
  module _ (h : i < length ns / 2) where
    -- the entry at hand
    abbrev here : Entry
    here = record { message = get_or ns (2 * i) 0; burst = get_or ns (2 * i + 1) 0 }

    within : i < length (entries ns)
    within = omega (arith, entries_count ns)

    -- the entries before, as the code takes them
    before : entries (take (2 * i) ns) ≡ take i (entries ns)
    before = entries_take i ns

    risen : {y : Option ℕ} → y ≡ rising (waitings ms) (entries (take (2 * i) ns)) above (get_or ns (2 * i) 0) → y ≡ rising (waitings ms) (take i (entries ns)) above (get_or ns (2 * i) 0)
    risen q = q ∙ ap (λ (es : List Entry). rising (waitings ms) es above (get_or ns (2 * i) 0)) before

    pub judged_before : Known (waitings ms) (entries (take (2 * i) ns))
    judged_before = subst (λ (es : List Entry). Known (waitings ms) es) (sym before) (running_before (waitings ms) (entries ns) i above last left (runs o))

    pub judged_late : (y : Option ℕ) → y ≡ rising (waitings ms) (entries (take (2 * i) ns)) above (get_or ns (2 * i) 0) → y ≡ None → Breaks i ≡ checking ms ns
    unfolding checking
    judged_late y q f = running_late (waitings ms) (entries ns) i above last left (runs o) within here (entry_pair ns i h) y (risen q) f

    module _ (x : Option ℕ) (q : x ≡ entering (waitings ms) last left (get_or ns (2 * i) 0) (get_or ns (2 * i + 1) 0)) where
      pub judged_stuck : x ≡ None → Breaks i ≡ checking ms ns
      unfolding checking
      judged_stuck f = running_stuck (waitings ms) (entries ns) i above last left (runs o) within here (entry_pair ns i h) x q f

      module _ (b : ℕ) (f : x ≡ Some b) where
        pub judged_known : get_or ns (2 * i) 0 < length ms / 2
        judged_known = omega (arith, running_known (waitings ms) (entries ns) i above last left (runs o) within here (entry_pair ns i h) x q b f, waitings_count ms)

        pub judged_next : (y : Option ℕ) → y ≡ rising (waitings ms) (entries (take (2 * i) ns)) above (get_or ns (2 * i) 0) → (a : ℕ) → y ≡ Some a → Passed ms ns (i + 1) a (get_or ns (2 * i + 1) 0) b
        judged_next y s a t =
            rw (add-one i) (passed (running_next (waitings ms) (entries ns) i above last left (runs o) within here (entry_pair ns i h) x q b f (opened o) y (risen s) a t) (opened o))

  module _ (h : length ns / 2 ≤ i) where
    ended : length (entries ns) ≤ i
    ended = omega (arith, entries_count ns)

    pub judged_missing : length ns / 2 < length ms / 2 → Breaks (length ns / 2) ≡ checking ms ns
    unfolding checking
    judged_missing l =
        ap Breaks (sym (entries_count ns))
        ∙ running_missing (waitings ms) (entries ns) i above last left (runs o) ended (omega (arith, entries_count ns, waitings_count ms))

    pub judged_sound : length ms / 2 ≤ length ns / 2 → Sound ≡ checking ms ns
    unfolding checking
    judged_sound l = running_sound (waitings ms) (entries ns) i above last left (runs o) ended (omega (arith, entries_count ns, waitings_count ms))
