-- The further answer of a comparison is yes exactly if the new table extends the old one and the tops match: `compare_yes` of CompareDemands; its refusals: `compare_refused`.
-- The idea: each test is true exactly if its part of `Extends` or `TopsMatch` holds; a record's partner is the only one, as names differ.
-- Assumes nothing.
use Rattle.std.specs.Prelude.{◌≡◌, refl, Bool, true, false, ◌&&◌, ◌||◌, ◌⊎◌, List, [], ◌∷◌, map, ℕ, zero, suc, ◌+◌, ◌≤◌, ◌<◌, length, get_or, eqb, leb}
use Rattle.std.proofs.Common.{sym, ap, ap₂, ◌∙◌, true≢false, inl, inr, arith, eqb-true, leb-false, le-leb, le-ltb, eq-eqb}
use Rattle.std.proofs.lemmas.Bool.{false≢true, lt-leb}
use Rattle.std.proofs.Math.Option.{Option, none, some}
use Rattle.encoding.specs.Result.{pick}
use Rattle.encoding.proofs.ResultLaws.{some≢none, both_true, either_false, same_bytes_ok, same_bytes_same}
use Rattle.encoding.specs.Types.{Allowed, upto, only, Num, short, int, long, float, double, Ty, Tys, nil, cons, broken, bool, byte, string, proxy, old_proxy, num, enum, old_enum, struct, seq, dict}
use Rattle.encoding.specs.Table.{types, kind, is_record, Fault, fine, fault, faults, rule_number, Member, lookup, search, range, name_of, base}
use Rattle.encoding.specs.Table
use Rattle.encoding.proofs.RuleLaws.{names_differ, base_right, record_kind}
use Rattle.encoding.specs.Message.{no_top}
use Rattle.encoding.specs.Extends.{Extends, TopsMatch, SameRecord, BasesMatch, OwnersMatch, OptionalsMatch, RecordMatch, type_of, as_records, as_lists}
use Rattle.differences.specs.Compare.{num_index, same_allowed, shape, enums_of, members_of, element_of, value_of, same_ty, same_tys, those, rows_of, records, same_record, row_or_none, partner, agree, required_match, optionals_match, owners_match, bases_match, matched_by, all_matched, tops_match, extending, Comparison, incomparable, no_tops, compared_within, after_both, difference_room, comparing, differences}
use Rattle.differences.specs.CompareDemands.{CompareYes, CompareRefused}

-- ---- types

-- a type from its shape and parts
unfoldable built : ℕ → Allowed → Tys → Ty → Ty → Ty
built n g ts a b = get_or (broken ∷ bool ∷ byte ∷ string ∷ proxy ∷ num short ∷ num int ∷ num long ∷ num float ∷ num double ∷ enum g ∷ struct ts ∷ seq a ∷ dict a b ∷ old_proxy ∷ []) n (old_enum g)

rebuilt : (u : Ty) → built (shape u) (enums_of u) (members_of u) (element_of u) (value_of u) ≡ u
unfolding built shape num_index enums_of members_of element_of value_of
rebuilt broken = refl
rebuilt bool = refl
rebuilt byte = refl
rebuilt string = refl
rebuilt proxy = refl
rebuilt old_proxy = refl
rebuilt (num short) = refl
rebuilt (num int) = refl
rebuilt (num long) = refl
rebuilt (num float) = refl
rebuilt (num double) = refl
rebuilt (enum g) = refl
rebuilt (old_enum g) = refl
rebuilt (struct ts) = refl
rebuilt (seq t) = refl
rebuilt (dict k v) = refl

of_shape : (u : Ty) (n : ℕ) → eqb (shape u) n ≡ true → built n (enums_of u) (members_of u) (element_of u) (value_of u) ≡ u
of_shape u n e = ap (λ (k : ℕ). built k (enums_of u) (members_of u) (element_of u) (value_of u)) (sym (eqb-true (shape u) n e)) ∙ rebuilt u

built_num : (w : Num) (g : Allowed) (ts : Tys) (a b : Ty) → num w ≡ built (5 + num_index w) g ts a b
unfolding built num_index
built_num short g ts a b = refl
built_num int g ts a b = refl
built_num long g ts a b = refl
built_num float g ts a b = refl
built_num double g ts a b = refl

allowed_ok : (g h : Allowed) → same_allowed g h ≡ true → g ≡ h
unfolding same_allowed
allowed_ok (upto a) (upto b) e = ap upto (eqb-true a b e)
allowed_ok (upto a) (only k) e = absurd (false≢true e)
allowed_ok (only l) (upto b) e = absurd (false≢true e)
allowed_ok (only l) (only k) e = ap only (same_bytes_ok l k e)

allowed_same : (g : Allowed) → same_allowed g g ≡ true
unfolding same_allowed
allowed_same (upto a) = eq-eqb a a refl
allowed_same (only l) = same_bytes_same l l refl

mutual
  unfolding same_ty built

  pub ty_ok : (t u : Ty) → same_ty t u ≡ true → t ≡ u
  ty_ok broken u h = of_shape u 0 h
  ty_ok bool u h = of_shape u 1 h
  ty_ok byte u h = of_shape u 2 h
  ty_ok string u h = of_shape u 3 h
  ty_ok proxy u h = of_shape u 4 h
  ty_ok old_proxy u h = of_shape u 14 h
  ty_ok (num w) u h = built_num w (enums_of u) (members_of u) (element_of u) (value_of u) ∙ of_shape u (5 + num_index w) h
  ty_ok (enum g) u h = let b = both_true (eqb (shape u) 10) _ h in ap enum (allowed_ok g (enums_of u) b.1) ∙ of_shape u 10 b.0
  ty_ok (old_enum g) u h = let b = both_true (eqb (shape u) 15) _ h in ap old_enum (allowed_ok g (enums_of u) b.1) ∙ of_shape u 15 b.0
  ty_ok (struct ts) u h = let b = both_true (eqb (shape u) 11) _ h in ap struct (tys_ok ts (members_of u) b.1) ∙ of_shape u 11 b.0
  ty_ok (seq t) u h = let b = both_true (eqb (shape u) 12) _ h in ap seq (ty_ok t (element_of u) b.1) ∙ of_shape u 12 b.0
  ty_ok (dict k v) u h =
      let b = both_true (eqb (shape u) 13) _ h in
      let c = both_true (same_ty k (element_of u)) _ b.1 in
      ap₂ dict (ty_ok k (element_of u) c.0) (ty_ok v (value_of u) c.1) ∙ of_shape u 13 b.0

  pub tys_ok : (ts us : Tys) → same_tys ts us ≡ true → ts ≡ us
  tys_ok nil nil h = refl
  tys_ok nil (cons u us) h = absurd (false≢true h)
  tys_ok (cons t ts) nil h = absurd (false≢true h)
  tys_ok (cons t ts) (cons u us) h = let b = both_true (same_ty t u) _ h in ap₂ cons (ty_ok t u b.0) (tys_ok ts us b.1)

mutual
  unfolding same_ty shape num_index enums_of members_of element_of value_of

  pub ty_same : (t : Ty) → same_ty t t ≡ true
  ty_same broken = refl
  ty_same bool = refl
  ty_same byte = refl
  ty_same string = refl
  ty_same proxy = refl
  ty_same old_proxy = refl
  ty_same (num w) = eq-eqb (5 + num_index w) (5 + num_index w) refl
  ty_same (enum g) = allowed_same g
  ty_same (old_enum g) = allowed_same g
  ty_same (struct ts) = tys_same ts
  ty_same (seq t) = ty_same t
  ty_same (dict k v) = rw (ty_same k) (ty_same v)

  pub tys_same : (ts : Tys) → same_tys ts ts ≡ true
  tys_same nil = refl
  tys_same (cons t ts) = rw (ty_same t) (tys_same ts)

pub ty_equal : (t u : Ty) → t ≡ u → same_ty t u ≡ true
ty_equal t u e = ap (same_ty t) (sym e) ∙ ty_same t

-- ---- members

required_ok : (ms ns : List Member) → required_match ms ns ≡ true → map (λ (m : Member). m.ty) ms ≡ map (λ (m : Member). m.ty) ns
unfolding required_match
required_ok [] [] h = refl
required_ok [] (n ∷ ns) h = absurd (false≢true h)
required_ok (m ∷ ms) [] h = absurd (false≢true h)
required_ok (m ∷ ms) (n ∷ ns) h = let b = both_true (same_ty m.ty n.ty) _ h in ap₂ ◌∷◌ (ty_ok m.ty n.ty b.0) (required_ok ms ns b.1)

head_same : {x y : Ty} {xs ys : List Ty} → x ∷ xs ≡ y ∷ ys → x ≡ y
head_same e = cc

tail_same : {x y : Ty} {xs ys : List Ty} → x ∷ xs ≡ y ∷ ys → xs ≡ ys
tail_same e = cc

required_step : (ms ns : List Member) → map (λ (m : Member). m.ty) ms ≡ map (λ (m : Member). m.ty) ns → required_match ms ns ≡ true
unfolding required_match
required_step [] [] h = refl
required_step [] (n ∷ ns) h = let z = ap length h in absurd (omega arith)
required_step (m ∷ ms) [] h = let z = ap length h in absurd (omega arith)
required_step (m ∷ ms) (n ∷ ns) h = rw (ty_equal m.ty n.ty (head_same h)) (required_step ms ns (tail_same h))

agree_ok : (m : Member) (o : Option Member) → agree (some m) o ≡ true → type_of o ≡ some m.ty
unfolding agree type_of
agree_ok m none h = absurd (false≢true h)
agree_ok m (some n) h = ap some (sym (ty_ok m.ty n.ty h))

pub some_same : {a b : Ty} → some a ≡ some b → a ≡ b
some_same e = cc

agree_step : (m : Member) (o : Option Member) → type_of o ≡ some m.ty → agree (some m) o ≡ true
unfolding agree type_of
agree_step m none h = absurd (some≢none h refl)
agree_step m (some n) h = ty_equal m.ty n.ty (sym (some_same h))

optionals_ok : (ms ns : List Member) → optionals_match ms ns ≡ true → OptionalsMatch ms ns
unfolding optionals_match
optionals_ok [] ns h = tt
optionals_ok (m ∷ ms) ns h = let b = both_true (agree (some m) (lookup m.key ns)) _ h in (agree_ok m (lookup m.key ns) b.0, optionals_ok ms ns b.1)

optionals_step : (ms ns : List Member) → OptionalsMatch ms ns → optionals_match ms ns ≡ true
unfolding optionals_match
optionals_step [] ns h = refl
optionals_step (m ∷ ms) ns h = rw (agree_step m (lookup m.key ns) h.0) (optionals_step ms ns h.1)

owners_ok : (old new : List ℕ) (t u : ℕ) → owners_match old new t u ≡ true → OwnersMatch old new t u
unfolding owners_match
owners_ok old new t u h =
    let b = both_true (required_match (Table.required_members old t) (Table.required_members new u)) _ h in
    record { required_ones = required_ok (Table.required_members old t) (Table.required_members new u) b.0; optional_ones = optionals_ok (Table.optional_members old t) (Table.optional_members new u) b.1 }

owners_step : (old new : List ℕ) (t u : ℕ) → OwnersMatch old new t u → owners_match old new t u ≡ true
unfolding owners_match
owners_step old new t u o =
    rw (required_step (Table.required_members old t) (Table.required_members new u) o.required_ones) (optionals_step (Table.optional_members old t) (Table.optional_members new u) o.optional_ones)

-- ---- records

record_ok : (old new : List ℕ) (t u : ℕ) → is_record (kind old t) ≡ true → u < types new → same_record old new t u ≡ true → SameRecord old new t u
unfolding same_record
record_ok old new t u r l h =
    let b = both_true (eqb (kind old t) (kind new u)) _ h in
    record { old_one = r; inside = l; kinds = eqb-true (kind old t) (kind new u) b.0; names = same_bytes_ok (name_of old t) (name_of new u) b.1 }

record_step : (old new : List ℕ) (t u : ℕ) → SameRecord old new t u → same_record old new t u ≡ true
unfolding same_record
record_step old new t u s = rw (eq-eqb (kind old t) (kind new u) s.kinds) (same_bytes_same (name_of old t) (name_of new u) s.names)

pub new_record : {old new : List ℕ} {t u : ℕ} → SameRecord old new t u → is_record (kind new u) ≡ true
new_record s = ap (λ (k : ℕ). is_record k) (sym s.kinds) ∙ s.old_one

-- a search among the rows that pass a test
those_here : (f : ℕ → Bool) (i k : ℕ) → f i ≡ true → those f (range i (suc k)) ≡ i ∷ those f (range (suc i) k)
unfolding those range
those_here f i k e = rw e

those_not : (f : ℕ → Bool) (i k : ℕ) → f i ≡ false → those f (range i (suc k)) ≡ those f (range (suc i) k)
unfolding those range
those_not f i k e = rw e

search_here : (g : ℕ → Bool) (i : ℕ) (l : List ℕ) → g i ≡ true → search g (i ∷ l) ≡ some i
unfolding search
search_here g i l e = rw e

search_not : (g : ℕ → Bool) (i : ℕ) (l : List ℕ) → g i ≡ false → search g (i ∷ l) ≡ search g l
unfolding search
search_not g i l e = rw e

number_same : {o : Option ℕ} {a b : ℕ} → o ≡ some a → o ≡ some b → a ≡ b
number_same e h = cc

search_ok : (g f : ℕ → Bool) (i k u : ℕ) → search g (those f (range i k)) ≡ some u → (u < i + k) × (f u ≡ true) × (g u ≡ true)
unfolding those range search
search_ok g f i zero u h = absurd (some≢none h refl)
search_ok g f i (suc k) u h = go (f i) refl (g i) refl (λ w. search_ok g f (suc i) k u w)
  where
    later : (u < suc i + k) × (f u ≡ true) × (g u ≡ true) → (u < i + suc k) × (f u ≡ true) × (g u ≡ true)
    later r = (omega (arith, r.0), r.1, r.2)

    go : (a : Bool) → f i ≡ a → (b : Bool) → g i ≡ b → (search g (those f (range (suc i) k)) ≡ some u → (u < suc i + k) × (f u ≡ true) × (g u ≡ true)) → (u < i + suc k) × (f u ≡ true) × (g u ≡ true)
    go false p b q ih = later (ih (sym (ap (search g) (those_not f i k p)) ∙ h))
    go true p false q ih = later (ih (sym (ap (search g) (those_here f i k p) ∙ search_not g i (those f (range (suc i) k)) q) ∙ h))
    go true p true q ih =
        let e = number_same (ap (search g) (those_here f i k p) ∙ search_here g i (those f (range (suc i) k)) q) h in
        (omega (arith, e), ap f (sym e) ∙ p, ap g (sym e) ∙ q)

search_none : (g f : ℕ → Bool) (i k u : ℕ) → search g (those f (range i k)) ≡ none → i ≤ u → u < i + k → f u ≡ true → g u ≡ true → ⊥
search_none g f i zero u h a b p q = omega arith
search_none g f i (suc k) u h a b p q = go (eqb i u) refl (λ w v. search_none g f (suc i) k u w v (omega arith) p q)
  where
    away : eqb i u ≡ false → suc i ≤ u
    away w = strict i u (λ e. true≢false (sym (eq-eqb i u e) ∙ w)) a
      where
        strict : (x y : ℕ) → (x ≡ y → ⊥) → x ≤ y → suc x ≤ y
        strict x y n l = omega arith

    rest : (c : Bool) → f i ≡ c → (d : Bool) → g i ≡ d → search g (those f (range (suc i) k)) ≡ none
    rest false v d w = sym (ap (search g) (those_not f i k v)) ∙ h
    rest true v false w = sym (ap (search g) (those_here f i k v) ∙ search_not g i (those f (range (suc i) k)) w) ∙ h
    rest true v true w = absurd (some≢none (ap (search g) (those_here f i k v) ∙ search_here g i (those f (range (suc i) k)) w) h)

    go : (t : Bool) → eqb i u ≡ t → (search g (those f (range (suc i) k)) ≡ none → suc i ≤ u → ⊥) → ⊥
    go true w ih =
        let e = eqb-true i u w in
        some≢none (ap (search g) (those_here f i k (ap f e ∙ p)) ∙ search_here g i (those f (range (suc i) k)) (ap g e ∙ q)) h
    go false w ih = ih (rest (f i) refl (g i) refl) (away w)

-- the partner of a record: the record of its kind and name, if there is one
pub data Partnered (old new : List ℕ) (t : ℕ) : Type 0 where
  found : (u : ℕ) → partner old new t ≡ suc u → SameRecord old new t u → Partnered old new t
  alone : partner old new t ≡ 0 → ((u : ℕ) → SameRecord old new t u → ⊥) → Partnered old new t

pub partnered : (old new : List ℕ) (t : ℕ) → is_record (kind old t) ≡ true → Partnered old new t
unfolding partner row_or_none records rows_of
partnered old new t r = go (search (same_record old new t) (those (λ v. is_record (kind new v)) (range 0 (types new)))) refl
  where
    go : (o : Option ℕ) → search (same_record old new t) (those (λ v. is_record (kind new v)) (range 0 (types new))) ≡ o → Partnered old new t
    go (some u) e =
        let s = search_ok (same_record old new t) (λ v. is_record (kind new v)) 0 (types new) u e in
        found u (ap row_or_none e) (record_ok old new t u r (omega (arith, s.0)) s.2)
    go none e =
        alone (ap row_or_none e) (λ u s. search_none (same_record old new t) (λ v. is_record (kind new v)) 0 (types new) u e (omega arith) (omega (arith, s.inside)) (new_record s) (record_step old new t u s))

-- ---- bases

-- a row + 1 that is a record, or 0
abbrev Standing : List ℕ → ℕ → Type 0
Standing T zero = Unit {0}
Standing T (suc t) = (t < types T) × (is_record (kind T t) ≡ true)

standing_base : (T : List ℕ) → faults T ≡ fine → (t : ℕ) → t < types T → is_record (kind T t) ≡ true → Standing T (base T t)
standing_base T right t l r = go (base T t) refl
  where
    go : (c : ℕ) → base T t ≡ c → Standing T (base T t)
    go zero e = rw e tt
    go (suc v) e = let W = base_right T right t l r v e in rw e (omega (arith, W.0), ap (λ (k : ℕ). is_record k) W.1 ∙ r)

bases_ok : (old new : List ℕ) (b c : ℕ) → Standing old b → Standing new c → bases_match old new b c ≡ true → BasesMatch old new b c
unfolding bases_match
bases_ok old new zero zero s u h = tt
bases_ok old new zero (suc c) s u h = absurd (false≢true h)
bases_ok old new (suc b) zero s u h = absurd (false≢true h)
bases_ok old new (suc b) (suc c) s u h = record_ok old new b c s.1 u.0 h

bases_step : (old new : List ℕ) (b c : ℕ) → BasesMatch old new b c → bases_match old new b c ≡ true
unfolding bases_match
bases_step old new zero zero m = refl
bases_step old new zero (suc c) m = absurd m
bases_step old new (suc b) zero m = absurd m
bases_step old new (suc b) (suc c) m = record_step old new b c m

-- ---- every record

all_ok : (old new : List ℕ) (f : ℕ → Bool) (i k : ℕ) → all_matched old new (those f (range i k)) ≡ true → (t : ℕ) → i ≤ t → t < i + k → f t ≡ true → matched_by old new t (partner old new t) ≡ true
unfolding all_matched
all_ok old new f i zero h t a b p = absurd (omega arith)
all_ok old new f i (suc k) h t a b p = go (eqb i t) refl (λ w v. all_ok old new f (suc i) k w t v (omega arith) p)
  where
    strict : (x y : ℕ) → (x ≡ y → ⊥) → x ≤ y → suc x ≤ y
    strict x y n l = omega arith

    rest : (c : Bool) → f i ≡ c → all_matched old new (those f (range (suc i) k)) ≡ true
    rest false v = sym (ap (all_matched old new) (those_not f i k v)) ∙ h
    rest true v = (both_true (matched_by old new i (partner old new i)) _ (sym (ap (all_matched old new) (those_here f i k v)) ∙ h)).1

    go : (q : Bool) → eqb i t ≡ q → (all_matched old new (those f (range (suc i) k)) ≡ true → suc i ≤ t → matched_by old new t (partner old new t) ≡ true) → matched_by old new t (partner old new t) ≡ true
    go true w ih =
        let e = eqb-true i t w in
        let b = both_true (matched_by old new i (partner old new i)) _ (sym (ap (all_matched old new) (those_here f i k (ap f e ∙ p))) ∙ h) in
        ap (λ (x : ℕ). matched_by old new x (partner old new x)) (sym e) ∙ b.0
    go false w ih = ih (rest (f i) refl) (strict i t (λ e. true≢false (sym (eq-eqb i t e) ∙ w)) a)

all_step : (old new : List ℕ) (f : ℕ → Bool) (i k : ℕ) → ((t : ℕ) → t < i + k → f t ≡ true → matched_by old new t (partner old new t) ≡ true) → all_matched old new (those f (range i k)) ≡ true
unfolding all_matched those range
all_step old new f i zero m = refl
all_step old new f i (suc k) m = go (f i) refl (all_step old new f (suc i) k (λ t l p. m t (omega (arith, l)) p))
  where
    both : (x y : Bool) → x ≡ true → y ≡ true → x && y ≡ true
    both x y p q = rw (p, q)

    go : (c : Bool) → f i ≡ c → all_matched old new (those f (range (suc i) k)) ≡ true → all_matched old new (those f (range i (suc k))) ≡ true
    go false v ih = ap (all_matched old new) (those_not f i k v) ∙ ih
    go true v ih = ap (all_matched old new) (those_here f i k v) ∙ both (matched_by old new i (partner old new i)) _ (m i (omega arith) v) ih

-- ---- extends

matched_ok : (old new : List ℕ) (t n : ℕ) → matched_by old new t n ≡ true → (u : ℕ) → n ≡ suc u → (owners_match old new t u ≡ true) × (bases_match old new (base old t) (base new u) ≡ true)
unfolding matched_by
matched_ok old new t zero h u e = absurd (false≢true h)
matched_ok old new t (suc v) h u e =
    let w : v ≡ u = omega arith in
    both_true (owners_match old new t u) _ (ap (λ (x : ℕ). owners_match old new t x && bases_match old new (base old t) (base new x)) (sym w) ∙ h)

matched_zero : (old new : List ℕ) (t n : ℕ) → matched_by old new t n ≡ true → n ≡ 0 → ⊥
unfolding matched_by
matched_zero old new t zero h e = false≢true h
matched_zero old new t (suc v) h e = omega arith

extends_ok : (old new : List ℕ) → faults old ≡ fine → faults new ≡ fine → all_matched old new (records old) ≡ true → Extends old new
unfolding records rows_of
extends_ok old new a b h = record { old_right = a; new_right = b; records = λ t l r. matching t l r (partnered old new t r) }
  where
    matching : (t : ℕ) → t < types old → is_record (kind old t) ≡ true → Partnered old new t → RecordMatch old new t
    matching t l r (found u e s) =
        let m = all_ok old new (λ v. is_record (kind old v)) 0 (types old) h t (omega arith) (omega (arith, l)) r in
        let p = matched_ok old new t (partner old new t) m u e in
        record {
          row = u;
          same = s;
          owners = owners_ok old new t u p.0;
          bases = bases_ok old new (base old t) (base new u) (standing_base old a t l r) (standing_base new b u s.inside (new_record s)) p.1;
        }
    matching t l r (alone e n) =
        absurd (matched_zero old new t (partner old new t) (all_ok old new (λ v. is_record (kind old v)) 0 (types old) h t (omega arith) (omega (arith, l)) r) e)

matched_step : (old new : List ℕ) (t u : ℕ) → OwnersMatch old new t u → BasesMatch old new (base old t) (base new u) → matched_by old new t (suc u) ≡ true
unfolding matched_by
matched_step old new t u o b = rw (owners_step old new t u o) (bases_step old new (base old t) (base new u) b)

pub extends_step : (old new : List ℕ) → Extends old new → all_matched old new (records old) ≡ true
unfolding records rows_of
extends_step old new x = all_step old new (λ v. is_record (kind old v)) 0 (types old) (λ t l r. matching t (omega (arith, l)) r (partnered old new t r))
  where
    matching : (t : ℕ) → t < types old → is_record (kind old t) ≡ true → Partnered old new t → matched_by old new t (partner old new t) ≡ true
    matching t l r (found u e s) =
        let m = x.records t l r in
        let q : m.row ≡ u = names_differ new x.new_right m.row u m.same.inside s.inside (new_record m.same) (new_record s) (sym m.same.names ∙ s.names) in
        ap (matched_by old new t) (e ∙ ap suc (sym q)) ∙ matched_step old new t m.row m.owners m.bases
    matching t l r (alone e n) = absurd (n (x.records t l r).row (x.records t l r).same)

-- ---- tops

tops_ok : (old new : List ℕ) (t u : ℕ) → t < types old → u < types new → tops_match old new t u ≡ true → TopsMatch old new t u
unfolding tops_match
tops_ok old new t u l k h = go (is_record (kind old t) && same_record old new t u) refl h
  where
    go : (b : Bool) → (is_record (kind old t) && same_record old new t u) ≡ b → b || (eqb (kind old t) 15 && (eqb (kind new u) 15 && owners_match old new t u)) ≡ true → TopsMatch old new t u
    go true e w = let b = both_true (is_record (kind old t)) _ e in as_records l (record_ok old new t u b.0 k b.1)
    go false e w =
        let b = both_true (eqb (kind old t) 15) _ w in
        let c = both_true (eqb (kind new u) 15) _ b.1 in
        as_lists l k (eqb-true (kind old t) 15 b.0) (eqb-true (kind new u) 15 c.0) (owners_ok old new t u c.1)

right_true : (a b : Bool) → b ≡ true → a || b ≡ true
right_true true b e = refl
right_true false b e = e

pub tops_step : (old new : List ℕ) (t u : ℕ) → TopsMatch old new t u → tops_match old new t u ≡ true
unfolding tops_match
tops_step old new t u (as_records l s) = rw (s.old_one, record_step old new t u s)
tops_step old new t u (as_lists l k a b o) =
    right_true (is_record (kind old t) && same_record old new t u) _ (rw (eq-eqb (kind old t) 15 a, eq-eqb (kind new u) 15 b) (owners_step old new t u o))

-- a record or a parameter list is a top
top_record : (T : List ℕ) (t : ℕ) → t < types T → 13 ≤ kind T t → no_top T t ≡ false
unfolding no_top
top_record T t l k = rw (lt-leb (types T) t l) (le-ltb (kind T t) 13 k)

record_least : (k : ℕ) → is_record k ≡ true → 13 ≤ k
record_least k r = go (record_kind k r)
  where
    go : (k ≡ 13) ⊎ (k ≡ 14) → 13 ≤ k
    go (inl e) = omega arith
    go (inr e) = omega arith

tops_there : (old new : List ℕ) (t u : ℕ) → TopsMatch old new t u → no_tops old new t u ≡ false
unfolding no_tops
tops_there old new t u (as_records l s) =
    rw (top_record old t l (record_least (kind old t) s.old_one)) (top_record new u s.inside (record_least (kind new u) (new_record s)))
tops_there old new t u (as_lists l k a b o) = rw (top_record old t l (omega (arith, a))) (top_record new u k (omega (arith, b)))

top_inside : (T : List ℕ) (t : ℕ) → no_top T t ≡ false → t < types T
unfolding no_top
top_inside T t h = leb-false (types T) t (either_false (leb (types T) t) _ h).0

-- ---- the answer

record Judged (f g : Fault) (b : Bool) (c : Comparison) : Type 0 where
  first : f ≡ fine
  second : g ≡ fine
  tops : b ≡ false
  yes_there : c.extends ≡ true

after_ok : (f g : Fault) (b : Bool) (c : Comparison) → (after_both f g b c).extends ≡ true → Judged f g b c
unfolding after_both incomparable
after_ok fine fine true c h = absurd (false≢true h)
after_ok fine fine false c h = record { first = refl; second = refl; tops = refl; yes_there = h }
after_ok fine (fault n p) b c h = absurd (false≢true h)
after_ok (fault n p) g b c h = absurd (false≢true h)

within_ok : (k : ℕ) (c : Comparison) → (compared_within k c).extends ≡ true → c.extends ≡ true
unfolding compared_within incomparable
within_ok k c h = go (leb (length c.found) k) refl h
  where
    go : (b : Bool) → leb (length c.found) k ≡ b → (pick b c (incomparable 19 (length c.found))).extends ≡ true → c.extends ≡ true
    go true e w = w
    go false e w = absurd (false≢true w)

abbrev whole : (old new : List ℕ) → (t u : ℕ) → Comparison
whole old new t u = record { refusal = 0; place = 0; found = differences old new; extends = extending old new t u }

answer_is : (old : List ℕ) (t : ℕ) (new : List ℕ) (u bytes : ℕ) → comparing old t new u bytes ≡ after_both (faults old) (faults new) (no_tops old new t u) (compared_within (difference_room bytes) (whole old new t u))
unfolding comparing
answer_is old t new u bytes = refl

yes_ok : (old : List ℕ) (t : ℕ) (new : List ℕ) (u bytes : ℕ) → (comparing old t new u bytes).extends ≡ true → Extends old new × TopsMatch old new t u
unfolding extending no_tops
yes_ok old t new u bytes h =
    let j = after_ok (faults old) (faults new) (no_tops old new t u) _ (ap (λ (c : Comparison). c.extends) (sym (answer_is old t new u bytes)) ∙ h) in
    let b = both_true (all_matched old new (records old)) _ (within_ok (difference_room bytes) (whole old new t u) j.yes_there) in
    let n = either_false (no_top old t) _ j.tops in
    (extends_ok old new j.first j.second b.0, tops_ok old new t u (top_inside old t n.0) (top_inside new u n.1) b.1)

yes_step : (old : List ℕ) (t : ℕ) (new : List ℕ) (u bytes : ℕ) → Extends old new → TopsMatch old new t u → length (differences old new) ≤ difference_room bytes
    → (comparing old t new u bytes).extends ≡ true
unfolding extending after_both compared_within
yes_step old t new u bytes x m l =
    ap (λ (c : Comparison). c.extends) (answer_is old t new u bytes)
    ∙ rw (x.old_right, x.new_right, tops_there old new t u m, le-leb (length (differences old new)) (difference_room bytes) l, extends_step old new x) (tops_step old new t u m)

pub compare_yes : CompareYes
compare_yes old t new u bytes = (yes_ok old t new u bytes, yes_step old t new u bytes)

-- ---- refusals

pub compare_refused : CompareRefused
unfolding comparing after_both compared_within no_tops
compare_refused old t new u bytes = record {
  old_broken = λ c p e. rw e;
  new_broken = λ c p e f. rw (e, f);
  no_old_top = λ e f n. rw (e, f, n);
  no_new_top = λ e f n. rw (e, f, right_true (no_top old t) (no_top new u) n);
  short_list = λ e f n m l. rw (e, f, n, m, lt-leb (length (differences old new)) (difference_room bytes) l);
  compared = λ e f n m l. (rw (e, f, n, m, le-leb (length (differences old new)) (difference_room bytes) l), rw (e, f, n, m, le-leb (length (differences old new)) (difference_room bytes) l));
}
