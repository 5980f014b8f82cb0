-- Types agree exactly where their trees are equal (`EqualSets`): a tree has the row's kind and the trees of the row's parts, and an enum's tree has one form for each set.
--
--   trees_of, kind_of              the trees of rows one after another; the kind of a tree
--   kind_tree, struct_tree ..    a row of a valid table by its kind: its tree's kind, and the trees of its parts
--   ValueParts                   rows that are parts of a row: smaller, and of a value's kind
--   agree_tree, tree_agrees      equal trees from types that agree, and back
use Rattle.std.proofs.Math.Path.{◌≡◌, refl, ap, ap₂}
use Rattle.std.proofs.Common.{sym, ◌∙◌, subst, arith, leb-true, leb-false}
use Rattle.std.specs.Prelude.{Bool, true, false, get_or, leb}
use mathlib.Core.List.{List, [], ◌∷◌, map}
use Prim.Native.Nat.{ℕ, zero, suc, ◌+◌, ◌-◌, ◌≤◌, ◌<◌}
use Rattle.encoding.specs.Types.{Num, short, int, long, float, double, Ty, Tys, nil, cons, broken, bool, byte, string, proxy, old_proxy, num, enum, old_enum, struct, seq, dict}
use Rattle.encoding.specs.Grammar.{Among}
use Rattle.encoding.specs.Table.{types, type_rows, kind, field, member_type, range, member_tys, own_rows, tys, ty_of, allowed}
use Rattle.encoding.proofs.TableLaws.{below_ty, member_in, row_struct, row_seq, row_dict, row_proxy, row_bool, row_byte, row_short, row_int, row_long, row_float, row_double, row_string}
use Rattle.encoding.specs.Valid.{is_struct, ValuePart, Owner, Valid}
use Rattle.encoding.specs.Agree.{WholeKind, is_basic, is_proxy, Agree, wholes, enums, structs, sequences, dictionaries, AgreeAll, both_end, both_more}
use Rattle.laws.specs.Demands.{EqualSets}
use Rattle.laws.proofs.TableExact.{one_owner}
use Rattle.laws.proofs.SetsExact.{has_tree, normal_same, allowed_normal, among_enumerator, enumerator_among, enum_tree}

-- ---- a row of a valid table

trees_of : List ℕ → List ℕ → Tys
trees_of T [] = nil
trees_of T (r ∷ rs) = cons (ty_of T r) (trees_of T rs)

num_kind : Num → ℕ
num_kind short = 2
num_kind int = 3
num_kind long = 4
num_kind float = 5
num_kind double = 6

kind_of : Ty → ℕ
kind_of broken = 13
kind_of bool = 0
kind_of byte = 1
kind_of string = 7
kind_of proxy = 12
kind_of old_proxy = 13
kind_of (num w) = num_kind w
kind_of (enum a) = 8
kind_of (old_enum a) = 13
kind_of (struct ts) = 9
kind_of (seq t) = 10
kind_of (dict k v) = 11

-- each is a part of row t
abbrev ValueParts : List ℕ → ℕ → List ℕ → Type 0
ValueParts T t [] = Unit {0}
ValueParts T t (r ∷ rs) = ValuePart T t r × ValueParts T t rs

module _ (T : List ℕ) (S : Valid T) (t : ℕ) (l : t < types T) where
  part_tree : (r : ℕ) → ValuePart T t r → get_or (tys T t) r broken ≡ ty_of T r
  part_tree r P = below_ty T t r (omega (arith, has_tree T S t l)) P.smaller

  seq_tree : kind T t ≡ 10 → ty_of T t ≡ seq (ty_of T (field T t 0))
  seq_tree k = row_seq T t (has_tree T S t l) k ∙ ap seq (part_tree (field T t 0) ((S.type t l).references.element k))

  dict_tree : kind T t ≡ 11 → ty_of T t ≡ dict (ty_of T (field T t 0)) (ty_of T (field T t 1))
  dict_tree k = row_dict T t (has_tree T S t l) k ∙ ap₂ dict (part_tree (field T t 0) ((S.type t l).references.key k)) (part_tree (field T t 1) ((S.type t l).references.value k))

  module _ (k : kind T t ≡ 9) where
    owner : (m : ℕ) → field T t 0 ≤ m → m < field T t 0 + field T t 1 → Owner T t m
    owner m a b = record { there = l; owner_kind = is_struct k; from = a; to = b }

    members_parts : (i n : ℕ) → field T t 0 ≤ i → i + n ≤ field T t 0 + field T t 1 → ValueParts T t (map (member_type T) (range i n))
    unfolding range
    members_parts i zero a b = tt
    members_parts i (suc n) a b = ((S.member t i (owner i a (omega arith))).type, members_parts (suc i) n (omega arith) (omega arith))

    members_trees : (i n : ℕ) → field T t 0 ≤ i → i + n ≤ field T t 0 + field T t 1 → member_tys T (tys T t) (range i n) ≡ trees_of T (map (member_type T) (range i n))
    unfolding range member_tys trees_of
    members_trees i zero a b = refl
    members_trees i (suc n) a b =
        let O = owner i a (omega arith) in
        ap₂ cons (member_in T i (tys T t) ((one_owner T S).1 t i O) ∙ part_tree (member_type T i) (S.member t i O).type) (members_trees (suc i) n (omega arith) (omega arith))

    struct_parts : ValueParts T t (map (member_type T) (own_rows T t))
    unfolding own_rows
    struct_parts = members_parts (field T t 0) (field T t 1) (omega arith) (omega arith)

    struct_tree : ty_of T t ≡ struct (trees_of T (map (member_type T) (own_rows T t)))
    unfolding own_rows
    struct_tree = row_struct T t (has_tree T S t l) k ∙ ap struct (members_trees (field T t 0) (field T t 1) (omega arith) (omega arith))

  kind_tree : kind T t ≤ 12 → kind_of (ty_of T t) ≡ kind T t
  unfolding kind_of num_kind
  kind_tree h = go (kind T t) refl h
    where
      go : (k : ℕ) → kind T t ≡ k → k ≤ 12 → kind_of (ty_of T t) ≡ k
      go zero e h = rw (row_bool T t (has_tree T S t l) e)
      go (suc zero) e h = rw (row_byte T t (has_tree T S t l) e)
      go (suc (suc zero)) e h = rw (row_short T t (has_tree T S t l) e)
      go (suc (suc (suc zero))) e h = rw (row_int T t (has_tree T S t l) e)
      go (suc (suc (suc (suc zero)))) e h = rw (row_long T t (has_tree T S t l) e)
      go (suc (suc (suc (suc (suc zero))))) e h = rw (row_float T t (has_tree T S t l) e)
      go (suc (suc (suc (suc (suc (suc zero)))))) e h = rw (row_double T t (has_tree T S t l) e)
      go (suc (suc (suc (suc (suc (suc (suc zero))))))) e h = rw (row_string T t (has_tree T S t l) e)
      go (suc (suc (suc (suc (suc (suc (suc (suc zero)))))))) e h = rw (enum_tree T S t l e)
      go (suc (suc (suc (suc (suc (suc (suc (suc (suc zero))))))))) e h = rw (struct_tree e)
      go (suc (suc (suc (suc (suc (suc (suc (suc (suc (suc zero)))))))))) e h = rw (seq_tree e)
      go (suc (suc (suc (suc (suc (suc (suc (suc (suc (suc (suc zero))))))))))) e h = rw (dict_tree e)
      go (suc (suc (suc (suc (suc (suc (suc (suc (suc (suc (suc (suc zero)))))))))))) e h = rw (row_proxy T t (has_tree T S t l) e)
      go (suc (suc (suc (suc (suc (suc (suc (suc (suc (suc (suc (suc (suc k))))))))))))) e h = absurd (omega arith)

-- ---- rows of two valid tables

module _ (T U : List ℕ) (S : Valid T) (Q : Valid U) where
  -- a type without parts is fixed by its kind
  whole_tree : (t u : ℕ) → t < types T → u < types U → (k : ℕ) → kind T t ≡ k → kind U u ≡ k → WholeKind k → ty_of T t ≡ ty_of U u
  whole_tree t u l m k e f W = go k e f W
    where
      x : t < type_rows T
      x = has_tree T S t l

      y : u < type_rows U
      y = has_tree U Q u m

      go : (k : ℕ) → kind T t ≡ k → kind U u ≡ k → WholeKind k → ty_of T t ≡ ty_of U u
      go zero e f W = row_bool T t x e ∙ sym (row_bool U u y f)
      go (suc zero) e f W = row_byte T t x e ∙ sym (row_byte U u y f)
      go (suc (suc zero)) e f W = row_short T t x e ∙ sym (row_short U u y f)
      go (suc (suc (suc zero))) e f W = row_int T t x e ∙ sym (row_int U u y f)
      go (suc (suc (suc (suc zero)))) e f W = row_long T t x e ∙ sym (row_long U u y f)
      go (suc (suc (suc (suc (suc zero))))) e f W = row_float T t x e ∙ sym (row_float U u y f)
      go (suc (suc (suc (suc (suc (suc zero)))))) e f W = row_double T t x e ∙ sym (row_double U u y f)
      go (suc (suc (suc (suc (suc (suc (suc zero))))))) e f W = row_string T t x e ∙ sym (row_string U u y f)
      go (suc (suc (suc (suc (suc (suc (suc (suc k)))))))) e f (is_basic h) = absurd (omega arith)
      go (suc (suc (suc (suc (suc (suc (suc (suc k)))))))) e f (is_proxy h) = row_proxy T t x (e ∙ h) ∙ sym (row_proxy U u y (f ∙ h))

  mutual
    unfolding trees_of

    agree_tree : {t u : ℕ} → t < types T → u < types U → Agree T U t u → ty_of T t ≡ ty_of U u
    agree_tree {t} {u} l m (wholes e W) = whole_tree t u l m (kind T t) refl (sym e) W
    agree_tree {t} {u} l m (enums e f same) =
        enum_tree T S t l e
        ∙ ap enum (normal_same (allowed T t) (allowed U u) (allowed_normal T S t l e) (allowed_normal U Q u m f) (λ n. (
          λ a. enumerator_among U Q u m f n ((same n).0 (among_enumerator T S t l e n a)),
          λ a. enumerator_among T S t l e n ((same n).1 (among_enumerator U Q u m f n a)),
        )))
        ∙ sym (enum_tree U Q u m f)
    agree_tree {t} {u} l m (structs e f A) =
        struct_tree T S t l e ∙ ap struct (agree_trees t u l m (struct_parts T S t l e) (struct_parts U Q u m f) A) ∙ sym (struct_tree U Q u m f)
    agree_tree {t} {u} l m (sequences e f A) =
        let P = (S.type t l).references.element e in
        let R = (Q.type u m).references.element f in
        seq_tree T S t l e ∙ ap seq (agree_tree (omega (arith, P.smaller)) (omega (arith, R.smaller)) A) ∙ sym (seq_tree U Q u m f)
    agree_tree {t} {u} l m (dictionaries e f A B) =
        let P = (S.type t l).references in
        let R = (Q.type u m).references in
        dict_tree T S t l e
        ∙ ap₂ dict (agree_tree (omega (arith, (P.key e).smaller)) (omega (arith, (R.key f).smaller)) A) (agree_tree (omega (arith, (P.value e).smaller)) (omega (arith, (R.value f).smaller)) B)
        ∙ sym (dict_tree U Q u m f)

    agree_trees : (t u : ℕ) → t < types T → u < types U → {ts us : List ℕ} → ValueParts T t ts → ValueParts U u us → AgreeAll T U ts us → trees_of T ts ≡ trees_of U us
    agree_trees t u l m P R both_end = refl
    agree_trees t u l m P R (both_more A B) =
        ap₂ cons (agree_tree (omega (arith, P.0.smaller)) (omega (arith, R.0.smaller)) A) (agree_trees t u l m P.1 R.1 B)

  -- ---- and back

  -- rows before row n, whose trees are equal, agree
  abbrev AgreeBelow : ℕ → Type 0
  AgreeBelow n = (t u : ℕ) → t < n → t < types T → u < types U → kind T t ≤ 12 → kind U u ≤ 12 → ty_of T t ≡ ty_of U u → Agree T U t u

  trees_agree : (t u : ℕ) → AgreeBelow t → t < types T → u < types U → (ts us : List ℕ) → ValueParts T t ts → ValueParts U u us → trees_of T ts ≡ trees_of U us → AgreeAll T U ts us
  unfolding trees_of
  trees_agree t u ih l m [] [] P R e = both_end
  trees_agree t u ih l m [] (q ∷ us) P R e = let z : ◌≡◌ {A = ℕ} 0 1 = cc in absurd (omega arith)
  trees_agree t u ih l m (r ∷ ts) [] P R e = let z : ◌≡◌ {A = ℕ} 0 1 = cc in absurd (omega arith)
  trees_agree t u ih l m (r ∷ ts) (q ∷ us) P R e =
      let a : ty_of T r ≡ ty_of U q = cc in
      let b : trees_of T ts ≡ trees_of U us = cc in
      both_more (ih r q P.0.smaller (omega (arith, P.0.smaller)) (omega (arith, R.0.smaller)) P.0.value_kind R.0.value_kind a) (trees_agree t u ih l m ts us P.1 R.1 b)

  row_agrees : (t u : ℕ) → AgreeBelow t → t < types T → u < types U → kind T t ≤ 12 → kind U u ≤ 12 → ty_of T t ≡ ty_of U u → Agree T U t u
  row_agrees t u ih l m h i e = go (leb (kind T t) 7) refl
    where
      same : kind T t ≡ kind U u
      same = sym (kind_tree T S t l h) ∙ ap kind_of e ∙ kind_tree U Q u m i

      above : (j : ℕ) → kind T t ≡ 8 + j → Agree T U t u
      above zero k =
          let f : kind U u ≡ 8 = sym same ∙ k in
          let x : enum (allowed T t) ≡ enum (allowed U u) = sym (enum_tree T S t l k) ∙ e ∙ enum_tree U Q u m f in
          let a : allowed T t ≡ allowed U u = cc in
          enums k f (λ n. (
            λ w. among_enumerator U Q u m f n (subst (λ b. Among b n) a (enumerator_among T S t l k n w)),
            λ w. among_enumerator T S t l k n (subst (λ b. Among b n) (sym a) (enumerator_among U Q u m f n w)),
          ))
      above (suc zero) k =
          let f : kind U u ≡ 9 = sym same ∙ k in
          let x : struct (trees_of T (map (member_type T) (own_rows T t))) ≡ struct (trees_of U (map (member_type U) (own_rows U u))) = sym (struct_tree T S t l k) ∙ e ∙ struct_tree U Q u m f in
          structs k f (trees_agree t u ih l m (map (member_type T) (own_rows T t)) (map (member_type U) (own_rows U u)) (struct_parts T S t l k) (struct_parts U Q u m f) (cc))
      above (suc (suc zero)) k =
          let f : kind U u ≡ 10 = sym same ∙ k in
          let P = (S.type t l).references.element k in
          let R = (Q.type u m).references.element f in
          let x : seq (ty_of T (field T t 0)) ≡ seq (ty_of U (field U u 0)) = sym (seq_tree T S t l k) ∙ e ∙ seq_tree U Q u m f in
          sequences k f (ih (field T t 0) (field U u 0) P.smaller (omega (arith, P.smaller)) (omega (arith, R.smaller)) P.value_kind R.value_kind (cc))
      above (suc (suc (suc zero))) k =
          let f : kind U u ≡ 11 = sym same ∙ k in
          let P = (S.type t l).references in
          let R = (Q.type u m).references in
          let x : dict (ty_of T (field T t 0)) (ty_of T (field T t 1)) ≡ dict (ty_of U (field U u 0)) (ty_of U (field U u 1)) = sym (dict_tree T S t l k) ∙ e ∙ dict_tree U Q u m f in
          dictionaries k f
          (ih (field T t 0) (field U u 0) (P.key k).smaller (omega (arith, (P.key k).smaller)) (omega (arith, (R.key f).smaller)) (P.key k).value_kind (R.key f).value_kind (cc))
          (ih (field T t 1) (field U u 1) (P.value k).smaller (omega (arith, (P.value k).smaller)) (omega (arith, (R.value f).smaller)) (P.value k).value_kind (R.value f).value_kind (cc))
      above (suc (suc (suc (suc j)))) k = wholes same (is_proxy (omega arith))

      go : (b : Bool) → leb (kind T t) 7 ≡ b → Agree T U t u
      go true q = wholes same (is_basic (leb-true (kind T t) 7 q))
      go false q = let k : 7 < kind T t = leb-false (kind T t) 7 q in above (kind T t - 8) (omega arith)

  tree_agrees : (n : ℕ) → AgreeBelow n
  tree_agrees zero t u h l m a b e = absurd (omega arith)
  tree_agrees (suc n) t u h l m a b e = row_agrees t u (λ r q k. tree_agrees n r q (omega arith)) l m a b e

pub equal_sets : EqualSets
equal_sets T U S Q t u l m h i = (agree_tree T U S Q l m, tree_agrees T U S Q (suc t) t u (omega arith) l m h i)
