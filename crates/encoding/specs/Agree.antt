-- When types agree, in the words of documents 01 and 02: row by row, apart from the trees of `Types`.
-- `EqualSets` promises that types agree exactly where their trees are equal, whatever the versions of the two tables.
--
--   Enumerator T t n    n is an enumerator of enum row t of table T
--   SameEnumerators     two enum rows have the same enumerators
--   WholeKind k         a kind whose types have no parts and no enumerators
--   Agree T U t u       row t of table T and row u of table U are types that agree; AgreeAll rows one after another
use Rattle.std.specs.Prelude.{◌≡◌, List, [], ◌∷◌, map, ℕ, ◌+◌, ◌*◌, ◌≤◌, ◌<◌}
use Rattle.encoding.specs.Table.{at, kind, field, member_type, own_rows, list_entry}

-- version 1: 0 to the greatest, a + 65,536·b; version 2: the entries of the row's list, c its first entry and d their count
pub data Enumerator (T : List ℕ) (t n : ℕ) : Type 0 where
  of_range : at T 2 3 ≡ 1 → n ≤ field T t 0 + 65536 * field T t 1 → Enumerator T t n
  of_entry : at T 2 3 ≡ 2 → (i : ℕ) → i < field T t 3 → list_entry T (field T t 2 + i) ≡ n → Enumerator T t n

-- equal sets
abbrev pub SameEnumerators : List ℕ → List ℕ → ℕ → ℕ → Type 0
SameEnumerators T U t u = (n : ℕ) → (Enumerator T t n → Enumerator U u n) × (Enumerator U u n → Enumerator T t n)

-- bool to string; proxy
pub data WholeKind (k : ℕ) : Type 0 where
  is_basic : k ≤ 7 → WholeKind k
  is_proxy : k ≡ 12 → WholeKind k

-- the kinds are equal, and the parts, equally many and in order, agree; enums have equal sets
mutual
  pub data Agree (T U : List ℕ) : ℕ → ℕ → Type 0 where
    wholes : {t u : ℕ} → kind T t ≡ kind U u → WholeKind (kind T t) → Agree T U t u
    enums : {t u : ℕ} → kind T t ≡ 8 → kind U u ≡ 8 → SameEnumerators T U t u → Agree T U t u
    structs : {t u : ℕ} → kind T t ≡ 9 → kind U u ≡ 9 → AgreeAll T U (map (member_type T) (own_rows T t)) (map (member_type U) (own_rows U u)) → Agree T U t u
    sequences : {t u : ℕ} → kind T t ≡ 10 → kind U u ≡ 10 → Agree T U (field T t 0) (field U u 0) → Agree T U t u
    dictionaries : {t u : ℕ} → kind T t ≡ 11 → kind U u ≡ 11 → Agree T U (field T t 0) (field U u 0) → Agree T U (field T t 1) (field U u 1) → Agree T U t u

  pub data AgreeAll (T U : List ℕ) : List ℕ → List ℕ → Type 0 where
    both_end : AgreeAll T U [] []
    both_more : {t u : ℕ} {ts us : List ℕ} → Agree T U t u → AgreeAll T U ts us → AgreeAll T U (t ∷ ts) (u ∷ us)
