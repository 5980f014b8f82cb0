-- The cases of values without parts, by the bytes at the head. Assumes nothing.
--
--   skip_cut, _whole           k bytes of any content
--   bool_none, _high, _whole   a bool
--   enum_none, _allowed, _other   an enum, by its number
--   upto_none, _allowed, _above   an enum up to a greatest
--   byte_cut .. int_whole      the number of an enumerator of 1.0; number_old, number_new in either encoding
use mathlib.Core.Path.{◌≡◌, refl, sym, ap, ◌∙◌}
use mathlib.Core.Bool.{Bool, true, false}
use mathlib.Core.List.{List}
use Prim.Native.Nat.{ℕ, ◌≤◌, ◌<◌}
use lib.ListN.{length}
use borrow.Author.Tests.{le-leb, lt-leb, lt-ltb, le-ltb}
use Rattle.encoding.specs.Result.{Parser, chunk, skip, judged, must, made, mapc}
use Rattle.encoding.specs.Number.{number, byte, bool_form, bool, size}
use Rattle.encoding.specs.Table.{at}
use Rattle.encoding.specs.Types.{Allowed, upto, allows, most, enum}
use Rattle.encoding.specs.Value.{enum_form, enum_width, value}
use Rattle.encoding.specs.Old.{as_old, type_as}
use Rattle.std.specs.Prelude.{Result, Ok, Err}
use Rattle.wire.specs.declared.Counted.{Counted}
use Rattle.wire.specs.declared.Refusal.{Refusal}
use Rattle.wire.specs.Steps.{step_of, sized_of, refused, counted}
use Rattle.wire.specs.StepLaws.{sized_is, sized_isnt}
use Rattle.value.specs.Parts.{enum_number}

module _ (s : List ℕ) (k : ℕ) where
  pub skip_cut : length s < k → refused 4 0 ≡ step_of (skip k s)
  unfolding skip chunk step_of
  skip_cut h = rw (lt-leb k (length s) h)

  pub skip_whole : k ≤ length s → Ok k ≡ step_of (skip k s)
  unfolding skip chunk step_of
  skip_whole h = rw (le-leb k (length s) h)

module _ (s : List ℕ) where
  pub bool_none : length s < 1 → refused 4 0 ≡ step_of (bool s)
  unfolding bool mapc made must judged byte number chunk step_of
  bool_none h = rw (lt-leb 1 (length s) h)

  module _ (b : ℕ) (e : b ≡ at s 1 0) (h : 1 ≤ length s) where
    pub bool_high : 2 ≤ b → refused 8 0 ≡ step_of (bool s)
    unfolding bool mapc made must judged byte number chunk bool_form step_of at
    bool_high l = rw (le-leb 1 (length s) h, ← e, le-ltb b 2 l)

    pub bool_whole : b < 2 → Ok 1 ≡ step_of (bool s)
    unfolding bool mapc made must judged byte number chunk bool_form step_of at
    bool_whole l = rw (le-leb 1 (length s) h, ← e, lt-ltb b 2 l)

-- an enumerator by how its number is read
abbrev chosen : Allowed → Parser ℕ → Parser (Unit {0})
chosen a num = mapc (λ _ _. tt) (must (enum_form a) num)

module _ (num : Parser ℕ) (s : List ℕ) (a : Allowed) (r : Result Counted Refusal) (e : r ≡ sized_of (num s)) where
  judged_none : (x : Refusal) → r ≡ Err x → Err x ≡ step_of (chosen a num s)
  unfolding mapc made must judged step_of
  judged_none x q = rw (sized_isnt (num s) x (sym q ∙ e))

  module _ (x : Counted) (q : r ≡ Ok x) (b : Bool) (eb : b ≡ allows a x.number) where
    judged_allowed : b ≡ true → Ok x.bytes ≡ step_of (chosen a num s)
    unfolding mapc made must judged enum_form step_of
    judged_allowed h = rw (sized_is (num s) x (sym q ∙ e), ← eb, h)

    judged_other : b ≡ false → refused 9 0 ≡ step_of (chosen a num s)
    unfolding mapc made must judged enum_form step_of
    judged_other h = rw (sized_is (num s) x (sym q ∙ e), ← eb, h)

-- an enum in either encoding
enum_as : (old : Bool) (a : Allowed) (s : List ℕ) → value (type_as old (enum a)) s ≡ chosen a (enum_number old a) s
unfolding value as_old enum_number
enum_as true a s = refl
enum_as false a s = refl

module _ (old : Bool) (s : List ℕ) (a : Allowed) (r : Result Counted Refusal) (e : r ≡ sized_of (enum_number old a s)) where
  pub enum_none : (x : Refusal) → r ≡ Err x → Err x ≡ step_of (value (type_as old (enum a)) s)
  enum_none x q = rw (enum_as old a s) (judged_none (enum_number old a) s a r e x q)

  module _ (x : Counted) (q : r ≡ Ok x) (b : Bool) (eb : b ≡ allows a x.number) where
    pub enum_allowed : b ≡ true → Ok x.bytes ≡ step_of (value (type_as old (enum a)) s)
    enum_allowed h = rw (enum_as old a s) (judged_allowed (enum_number old a) s a r e x q b eb h)

    pub enum_other : b ≡ false → refused 9 0 ≡ step_of (value (type_as old (enum a)) s)
    enum_other h = rw (enum_as old a s) (judged_other (enum_number old a) s a r e x q b eb h)

module _ (old : Bool) (s : List ℕ) (g : ℕ) (r : Result Counted Refusal) (e : r ≡ sized_of (enum_number old (upto g) s)) where
  pub upto_none : (x : Refusal) → r ≡ Err x → Err x ≡ step_of (value (type_as old (enum (upto g))) s)
  upto_none x q = enum_none old s (upto g) r e x q

  module _ (x : Counted) (q : r ≡ Ok x) where
    pub upto_allowed : x.number ≤ g → Ok x.bytes ≡ step_of (value (type_as old (enum (upto g))) s)
    unfolding allows
    upto_allowed h = enum_allowed old s (upto g) r e x q true (sym (le-leb x.number g h)) refl

    pub upto_above : g < x.number → refused 9 0 ≡ step_of (value (type_as old (enum (upto g))) s)
    unfolding allows
    upto_above h = enum_other old s (upto g) r e x q false (sym (lt-leb x.number g h)) refl

-- ---- encoding 1.0

-- a number of k bytes
module _ (s : List ℕ) (k : ℕ) where
  number_cut : length s < k → refused 4 0 ≡ sized_of (number k s)
  unfolding number chunk sized_of
  number_cut h = rw (lt-leb k (length s) h)

  number_whole : (n : ℕ) → n ≡ at s k 0 → k ≤ length s → counted n k ≡ sized_of (number k s)
  unfolding number chunk sized_of at
  number_whole n e h = rw (le-leb k (length s) h, e)

-- by the greatest
module _ (g : ℕ) (s : List ℕ) where
  module _ (h : g ≤ 126) where
    pub byte_cut : length s < 1 → refused 4 0 ≡ sized_of (number (enum_width g) s)
    unfolding enum_width
    byte_cut l = rw (le-leb g 126 h) (number_cut s 1 l)

    pub byte_whole : (n : ℕ) → n ≡ at s 1 0 → 1 ≤ length s → counted n 1 ≡ sized_of (number (enum_width g) s)
    unfolding enum_width
    byte_whole n e l = rw (le-leb g 126 h) (number_whole s 1 n e l)

  module _ (h : 126 < g) where
    module _ (k : g ≤ 32766) where
      pub short_cut : length s < 2 → refused 4 0 ≡ sized_of (number (enum_width g) s)
      unfolding enum_width
      short_cut l = rw (lt-leb g 126 h, le-leb g 32766 k) (number_cut s 2 l)

      pub short_whole : (n : ℕ) → n ≡ at s 2 0 → 2 ≤ length s → counted n 2 ≡ sized_of (number (enum_width g) s)
      unfolding enum_width
      short_whole n e l = rw (lt-leb g 126 h, le-leb g 32766 k) (number_whole s 2 n e l)

    module _ (k : 32766 < g) where
      pub int_cut : length s < 4 → refused 4 0 ≡ sized_of (number (enum_width g) s)
      unfolding enum_width
      int_cut l = rw (lt-leb g 126 h, lt-leb g 32766 k) (number_cut s 4 l)

      pub int_whole : (n : ℕ) → n ≡ at s 4 0 → 4 ≤ length s → counted n 4 ≡ sized_of (number (enum_width g) s)
      unfolding enum_width
      int_whole n e l = rw (lt-leb g 126 h, lt-leb g 32766 k) (number_whole s 4 n e l)

-- in either encoding
module _ (old : Bool) (s : List ℕ) (a : Allowed) (r : Result Counted Refusal) where
  pub number_old : old ≡ true → (g : ℕ) → g ≡ most a → r ≡ sized_of (number (enum_width g) s) → r ≡ sized_of (enum_number old a s)
  unfolding enum_number
  number_old h g eg e = rw h (e ∙ ap (λ (i : ℕ). sized_of (number (enum_width i) s)) eg)

  pub number_new : old ≡ false → r ≡ sized_of (size s) → r ≡ sized_of (enum_number old a s)
  unfolding enum_number
  number_new h e = rw h e

-- the number of an enum up to a greatest
module _ (old : Bool) (g : ℕ) (s : List ℕ) (r : Result Counted Refusal) where
  pub upto_old : old ≡ true → r ≡ sized_of (number (enum_width g) s) → r ≡ sized_of (enum_number old (upto g) s)
  unfolding most
  upto_old h e = number_old old s (upto g) r h g refl e

  pub upto_new : old ≡ false → r ≡ sized_of (size s) → r ≡ sized_of (enum_number old (upto g) s)
  upto_new h e = number_new old s (upto g) r h e
