-- What each check finds, in the shape in which the code has it. Assumes nothing.
--
--   bytes_known                                       a list whose elements are below 256 is one of bytes
--   top_beyond, top_kind                              2
--   format_one, format_other, format_two              23
--   old_other, old_two                                26
--   early_top, early_format, early_old, early_long, early_none   2, 23, 26 and 3 in turn, where the table breaks no rule
--   broken_checks                                     what the table's rules refuse; fine_table the table breaks no rule
use mathlib.Core.Path.{◌≡◌, refl, sym, ap, ◌∙◌}
use mathlib.Core.Bool.{Bool, true, false, ◌&&◌, not}
use mathlib.Core.List.{List, [], ◌∷◌}
use Prim.Native.Nat.{ℕ, suc, ◌≤◌, ◌<◌}
use native.Mathlib.Omega.{arith}
use lib.ListN.{get_or}
use lib.Dec.{eqb, ltb}
use borrow.Author.Tests.{le-leb, lt-leb, le-ltb, lt-ltb, eq-eqb, ne_eqb}
use Rattle.encoding.specs.Result.{first_of}
use Rattle.encoding.specs.Number.{Bytes}
use Rattle.encoding.specs.Table.{types, kind, Fault, fine, fault, faults, rule_number}
use Rattle.encoding.specs.Old.{no_old}
use Rattle.encoding.specs.Message.{no_top, limit}
use Rattle.encoding.specs.Write.{no_format}
use Rattle.rules.specs.Checks.{finding_of}
use Rattle.std.specs.Prelude.{Result, Ok, Err}
use Rattle.wire.specs.declared.Refusal.{Refusal}
use Rattle.rules.proofs.Judging.{is_fine}
use Rattle.prepare.specs.declared.Prepared.TheVariants.{Ready, Refused}
use Rattle.prepare.specs.Preparing.{before, checked, checks}

pub bytes_known : (s : List ℕ) → ((i : ℕ) → get_or s i 0 < 256) → Bytes s
bytes_known [] h = tt
bytes_known (x ∷ s) h = (h 0, bytes_known s (λ i. h (suc i)))

-- ---- 2, 23, 26, 3

module _ (T : List ℕ) (top : ℕ) (n : ℕ) (en : n ≡ types T) where
  pub top_beyond : n ≤ top → true ≡ no_top T top
  unfolding no_top
  top_beyond h = rw (le-leb (types T) top (omega arith))

  pub top_kind : top < n → (k : ℕ) → k ≡ kind T top → ltb k 13 ≡ no_top T top
  unfolding no_top
  top_kind h k ek = rw (lt-leb (types T) top (omega arith), ek)

module _ (k format : ℕ) where
  pub format_one : format ≡ 1 → false ≡ no_format k format
  unfolding no_format
  format_one e = rw e

  pub format_other : (format ≡ 1 → ⊥) → (format ≡ 2 → ⊥) → true ≡ no_format k format
  unfolding no_format
  format_other n m = rw (ne_eqb format 1 n, ne_eqb format 2 m)

  pub format_two : format ≡ 2 → eqb k 14 ≡ no_format k format
  unfolding no_format
  format_two e = rw e (go (eqb k 14))
    where
      go : (b : Bool) → b ≡ not (not b)
      go true = refl
      go false = refl

module _ (T : List ℕ) (top format : ℕ) where
  pub old_other : (format ≡ 2 → ⊥) → false ≡ eqb format 2 && no_old T top
  old_other n = rw (ne_eqb format 2 n)

  pub old_two : format ≡ 2 → (b : Bool) → b ≡ no_old T top → b ≡ eqb format 2 && no_old T top
  old_two e b q = rw (eq-eqb format 2 e) q

module _ (T : List ℕ) (top format len : ℕ) (table : faults T ≡ fine) (a : Bool) (ea : a ≡ no_top T top) where
  passed : checks T top format len ≡ checked fine (before T top format len)
  unfolding checks
  passed = rw table

  pub early_top : a ≡ true → Refused 2 0 ≡ checks T top format len
  unfolding checked before first_of
  early_top q = sym (passed ∙ rw (sym ea ∙ q))

  module _ (qa : a ≡ false) (k : ℕ) (ek : k ≡ kind T top) (b : Bool) (eb : b ≡ no_format k format) where
    -- what 23 judges
    format_is : no_format (kind T top) format ≡ b
    format_is = sym (eb ∙ ap (λ (x : ℕ). no_format x format) ek)

    pub early_format : b ≡ true → Refused 23 0 ≡ checks T top format len
    unfolding checked before first_of
    early_format q = sym (passed ∙ rw (sym ea ∙ qa, format_is ∙ q))

    module _ (qb : b ≡ false) (c : Bool) (ec : c ≡ eqb format 2 && no_old T top) where
      pub early_old : c ≡ true → Refused 26 0 ≡ checks T top format len
      unfolding checked before first_of
      early_old q = sym (passed ∙ rw (sym ea ∙ qa, format_is ∙ qb, sym ec ∙ q))

      module _ (qc : c ≡ false) where
        pub early_long : limit < len → Refused 3 0 ≡ checks T top format len
        unfolding checked before first_of
        early_long h = sym (passed ∙ rw (sym ea ∙ qa, format_is ∙ qb, sym ec ∙ qc, lt-ltb limit len h))

        pub early_none : len ≤ limit → Ready ≡ checks T top format len
        unfolding checked before first_of
        early_none h = sym (passed ∙ rw (sym ea ∙ qa, format_is ∙ qb, sym ec ∙ qc, le-ltb limit len h))

-- ---- the table's rules

module _ (T : List ℕ) (top format len : ℕ) (v : Result Unit Refusal) (ev : v ≡ finding_of (faults T)) where
  pub broken_checks : (x : Refusal) → v ≡ Err x → Refused x.number x.place ≡ checks T top format len
  unfolding finding_of checks checked rule_number
  broken_checks x q = go (faults T) (sym q ∙ ev)
    where
      go : (f : Fault) → Err x ≡ finding_of f → Refused x.number x.place ≡ checked f (before T top format len)
      go fine h = let z : ◌≡◌ {A = ℕ} 0 1 = cc in absurd (omega arith)
      go (fault d p) h = let z : x ≡ record { number = d; place = p } = cc in rw z refl

  pub fine_table : (u : Unit {0}) → v ≡ Ok u → faults T ≡ fine
  fine_table u q = is_fine (faults T) u (sym ev ∙ q)
