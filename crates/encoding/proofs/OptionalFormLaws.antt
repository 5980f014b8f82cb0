-- `Types.form_of` gives each type the one form that it has: by the type, since the tests for fixed_size and for bool or byte are exact.
--
--   fixed_is, is_fixed   the test for fixed_size is true of fixed_size types, and only of them; unfixed_is, is_unfixed where it is false
--   form_has, is_form    a type has the form of `form_of`, and no other
use Rattle.std.specs.Prelude.{◌≡◌, refl, Bool, true, false, ◌&&◌, ◌⊎◌}
use Rattle.std.proofs.Common.{sym, ap, ◌∙◌, subst, true≢false, inl, inr, ⊎_elim}
use Rattle.std.proofs.lemmas.Bool.{false≢true}
use Rattle.encoding.specs.Result.{pick}
use Rattle.encoding.proofs.ResultLaws.{both_true}
use Rattle.encoding.specs.Types.{Num, short, int, long, float, double, Ty, Tys, nil, cons, broken, bool, byte, string, proxy, old_proxy, num, enum, old_enum, struct, seq, dict, fixed, fixeds, single, Form, own, counted, sized, form_of}
use Rattle.encoding.specs.OptionalForm.{FixedSize, a_bool, a_byte, a_number, a_struct, FixedSizes, no_more, one_more, HasForm, bool_f1, byte_f1, short_f2, int_f4, float_f4, long_f8, double_f8, enum_size, string_own, bools_own, bytes_own, struct_counted, sequence_counted, dictionary_counted, struct_sized, sequence_sized, dictionary_sized, proxy_sized, old_proxy_sized, old_enum_sized, broken_sized}

-- ---- fixed_size

mutual
  unfolding fixed fixeds

  pub fixed_is : (t : Ty) → fixed t ≡ true → FixedSize t
  fixed_is broken e = absurd (false≢true e)
  fixed_is bool e = a_bool
  fixed_is byte e = a_byte
  fixed_is string e = absurd (false≢true e)
  fixed_is proxy e = absurd (false≢true e)
  fixed_is old_proxy e = absurd (false≢true e)
  fixed_is (num w) e = a_number
  fixed_is (enum g) e = absurd (false≢true e)
  fixed_is (old_enum g) e = absurd (false≢true e)
  fixed_is (struct ts) e = a_struct (fixeds_are ts e)
  fixed_is (seq t) e = absurd (false≢true e)
  fixed_is (dict k v) e = absurd (false≢true e)

  fixeds_are : (ts : Tys) → fixeds ts ≡ true → FixedSizes ts
  fixeds_are nil e = no_more
  fixeds_are (cons t ts) e = let b = both_true (fixed t) (fixeds ts) e in one_more (fixed_is t b.0) (fixeds_are ts b.1)

mutual
  unfolding fixed fixeds

  pub is_fixed : {t : Ty} → FixedSize t → fixed t ≡ true
  is_fixed a_bool = refl
  is_fixed a_byte = refl
  is_fixed a_number = refl
  is_fixed (a_struct F) = are_fixeds F

  are_fixeds : {ts : Tys} → FixedSizes ts → fixeds ts ≡ true
  are_fixeds no_more = refl
  are_fixeds (one_more F Fs) = rw (is_fixed F) (are_fixeds Fs)

unfixed_is : (t : Ty) → fixed t ≡ false → FixedSize t → ⊥
unfixed_is t e F = true≢false (sym (is_fixed F) ∙ e)

is_unfixed : (t : Ty) → (FixedSize t → ⊥) → fixed t ≡ false
is_unfixed t N = go (fixed t) refl
  where
    go : (b : Bool) → fixed t ≡ b → b ≡ false
    go true e = absurd (N (fixed_is t e))
    go false e = refl

-- ---- forms

num_form : (w : Num) → HasForm (num w) (form_of (num w))
unfolding form_of
num_form short = short_f2
num_form int = int_f4
num_form long = long_f8
num_form float = float_f4
num_form double = double_f8

single_is : (t : Ty) → single t ≡ true → (t ≡ bool) ⊎ (t ≡ byte)
unfolding single
single_is broken e = absurd (false≢true e)
single_is bool e = inl refl
single_is byte e = inr refl
single_is string e = absurd (false≢true e)
single_is proxy e = absurd (false≢true e)
single_is old_proxy e = absurd (false≢true e)
single_is (num w) e = absurd (false≢true e)
single_is (enum g) e = absurd (false≢true e)
single_is (old_enum g) e = absurd (false≢true e)
single_is (struct ts) e = absurd (false≢true e)
single_is (seq t) e = absurd (false≢true e)
single_is (dict k v) e = absurd (false≢true e)

single_own : (t : Ty) → single t ≡ true → HasForm (seq t) own
single_own t e =
    ⊎_elim (λ h. subst (λ (z : Ty). HasForm (seq z) own) (sym h) bools_own) (λ h. subst (λ (z : Ty). HasForm (seq z) own) (sym h) bytes_own) (single_is t e)

not_single : (t : Ty) → (t ≡ bool → ⊥) → (t ≡ byte → ⊥) → single t ≡ false
not_single t a b = go (single t) refl
  where
    go : (s : Bool) → single t ≡ s → s ≡ false
    go true e = absurd (⊎_elim a b (single_is t e))
    go false e = refl

pub form_has : (t : Ty) → HasForm t (form_of t)
unfolding form_of fixed single
form_has broken = broken_sized
form_has bool = bool_f1
form_has byte = byte_f1
form_has string = string_own
form_has proxy = proxy_sized
form_has old_proxy = old_proxy_sized
form_has (num w) = num_form w
form_has (enum g) = enum_size
form_has (old_enum g) = old_enum_sized
form_has (struct ts) = go (fixeds ts) refl
  where
    go : (b : Bool) → fixeds ts ≡ b → HasForm (struct ts) (pick b counted sized)
    go true e = struct_counted (fixed_is (struct ts) e)
    go false e = struct_sized (unfixed_is (struct ts) e)
form_has (seq t) = go (single t) refl (fixed t) refl
  where
    go : (s : Bool) → single t ≡ s → (b : Bool) → fixed t ≡ b → HasForm (seq t) (pick s own (pick b counted sized))
    go true q b e = single_own t q
    go false q true e = sequence_counted (fixed_is t e) (λ h. true≢false (sym (ap single h) ∙ q)) (λ h. true≢false (sym (ap single h) ∙ q))
    go false q false e = sequence_sized (unfixed_is t e)
form_has (dict k v) = go (fixed k) refl (fixed v) refl
  where
    go : (a : Bool) → fixed k ≡ a → (b : Bool) → fixed v ≡ b → HasForm (dict k v) (pick (a && b) counted sized)
    go true q true e = dictionary_counted (fixed_is k q) (fixed_is v e)
    go true q false e = dictionary_sized (λ F. unfixed_is v e F.1)
    go false q b e = dictionary_sized (λ F. unfixed_is k q F.0)

pub is_form : {t : Ty} {f : Form} → HasForm t f → form_of t ≡ f
unfolding form_of fixed single
is_form bool_f1 = refl
is_form byte_f1 = refl
is_form short_f2 = refl
is_form int_f4 = refl
is_form float_f4 = refl
is_form long_f8 = refl
is_form double_f8 = refl
is_form enum_size = refl
is_form string_own = refl
is_form bools_own = refl
is_form bytes_own = refl
is_form (struct_counted F) = rw (is_fixed F)
is_form (sequence_counted {t} F a b) = rw (not_single t a b, is_fixed F)
is_form (dictionary_counted F G) = rw (is_fixed F, is_fixed G)
is_form (struct_sized {ts} N) = rw (is_unfixed (struct ts) N)
is_form (sequence_sized {t} N) =
    rw (not_single t (λ e. N (subst FixedSize (sym e) a_bool)) (λ e. N (subst FixedSize (sym e) a_byte)), is_unfixed t N)
is_form (dictionary_sized {k} {v} N) = go (fixed k) refl (fixed v) refl
  where
    go : (a : Bool) → fixed k ≡ a → (b : Bool) → fixed v ≡ b → pick (a && b) counted sized ≡ sized
    go true q true e = absurd (N (fixed_is k q, fixed_is v e))
    go true q false e = refl
    go false q b e = refl
is_form proxy_sized = refl
is_form old_proxy_sized = refl
is_form old_enum_sized = refl
is_form broken_sized = refl
