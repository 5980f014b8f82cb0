-- The grammars of values and of extents: which byte strings are a value of a type, and which are what an optional's type declares.
-- They are stated apart from the readers and the encoder: `ExactValues` and `ExactExtents` promise that the readers take just these strings.
-- They are about lists of numbers, so the promises hold of any buffer; where the numbers are bytes, a long size begins with 255.
-- A grammar is a set of strings, `List ℕ → Type 0`; the larger ones are built from these:
--
--   P ⨾ Q           a string of P, then one of Q
--   Repeats P n     n strings of P, one after another
--   AnyBytes k      k bytes of any content
--   ByteBelow n     one byte, below n
--   IsInt n         the int n, which is not negative
--   IsSize n        the size n
--   Counted P       a size, then that many strings of P
--   InString t      what a string may hold, said here alone
--   IsString t      the string t: its size, then its bytes
--   IsText          any string
--   IsProxy k       a proxy, with k bytes of protocol and encoding: 4, in 1.0 none
--   Among a n       an enumerator n that an enum has; Greatest: and none is greater
--   OldWidth g k    in 1.0 enumerators of at most g are numbers of k bytes
--   ListsRise t     the lists of allowed enumerators in a type rise
--   IsValue t       a value of type t
--   AreValues ts    values of the types ts, one after another
--   IsExtent k      what an optional declares whose header has type k
use Rattle.std.specs.Prelude.{◌≡◌, List, [], ◌∷◌, ◌++◌, ℕ, zero, suc, ◌+◌, ◌≤◌, ◌<◌, length, get_or}
use Rattle.encoding.specs.Utf8.{Utf8}
use Rattle.encoding.specs.Number.{val, Short}
use Rattle.encoding.specs.Types.{Allowed, upto, only, Num, short, int, long, float, double, Ty, Tys, nil, cons, broken, bool, byte, string, proxy, old_proxy, num, enum, old_enum, struct, seq, dict, Bits, f1, f2, f4, f8, size, vsize, fsize, class}

-- ---- putting grammars together

-- one after the other
infixr 20 ◌⨾◌
pub data ◌⨾◌ (P Q : List ℕ → Type 0) : List ℕ → Type 0 where
  both : {a b : List ℕ} → P a → Q b → (P ⨾ Q) (a ++ b)

-- so many
pub data Repeats (P : List ℕ → Type 0) : ℕ → List ℕ → Type 0 where
  none : Repeats P zero []
  more : {n : ℕ} {a b : List ℕ} → P a → Repeats P n b → Repeats P (suc n) (a ++ b)

-- so many bytes
abbrev pub AnyBytes : ℕ → List ℕ → Type 0
AnyBytes k b = length b ≡ k

-- one byte that is 0, 1, .. up to below n
pub data ByteBelow (n : ℕ) : List ℕ → Type 0 where
  below : {x : ℕ} → x < n → ByteBelow n (x ∷ [])

-- ---- ints and sizes

-- four bytes, the lowest first, the sign bit not set
pub record IsInt (n : ℕ) (b : List ℕ) : Type 0 where
  pub four : length b ≡ 4
  pub number : val b ≡ n
  pub short : Short n

-- below 255 one byte; else 255, the greatest byte, and an int
pub data IsSize (n : ℕ) : List ℕ → Type 0 where
  one_byte : n < 255 → IsSize n (n ∷ [])
  with_int : {x : ℕ} {b : List ℕ} → 255 ≤ x → 255 ≤ n → IsInt n b → IsSize n (x ∷ b)

-- a size, then that many
pub data Counted (P : List ℕ → Type 0) : List ℕ → Type 0 where
  counted : {n : ℕ} {a b : List ℕ} → IsSize n a → Repeats P n b → Counted P (a ++ b)

-- ---- strings and proxies

-- text, as long as a size can say
pub record InString (t : List ℕ) : Type 0 where
  pub length_short : Short (length t)
  pub is_text : Utf8 t

-- its size, then its bytes
pub data IsString (t : List ℕ) : List ℕ → Type 0 where
  spelt : {a : List ℕ} → IsSize (length t) a → InString t → IsString t (a ++ t)

-- any string
pub data IsText : List ℕ → Type 0 where
  text : {t b : List ℕ} → IsString t b → IsText b

-- at most one facet
pub data AreFacets : List ℕ → Type 0 where
  facets : {n : ℕ} {a b : List ℕ} → n < 2 → IsSize n a → Repeats IsText n b → AreFacets (a ++ b)

-- an encapsulation, kept unopened: an int that counts itself and the bytes after it, a version at least
pub data IsEncapsulation : List ℕ → Type 0 where
  encapsulation : {a : List ℕ} (b : List ℕ) → 2 ≤ length b → IsInt (4 + length b) a → IsEncapsulation (a ++ b)

-- endpoints, each a short and an encapsulation; or with count 0 an adapter string
pub data AreEndpoints : List ℕ → Type 0 where
  adapter : {a b : List ℕ} → IsSize 0 a → IsText b → AreEndpoints (a ++ b)
  some : {n : ℕ} {a b : List ℕ} → IsSize (suc n) a → Repeats (AnyBytes 2 ⨾ IsEncapsulation) (suc n) b → AreEndpoints (a ++ b)

-- facets, mode, secure, k bytes of protocol and encoding, endpoints
abbrev pub IsReference : ℕ → List ℕ → Type 0
IsReference k = AreFacets ⨾ ByteBelow 5 ⨾ ByteBelow 2 ⨾ AnyBytes k ⨾ AreEndpoints

-- identity name, then category; both empty is nil and ends it, an empty name has no category
pub data IsProxy (k : ℕ) : List ℕ → Type 0 where
  is_nil : {a b : List ℕ} → IsString [] a → IsString [] b → IsProxy k (a ++ b)
  is_full : {name category a b c : List ℕ} → 1 ≤ length name → IsString name a → IsString category b → IsReference k c → IsProxy k (a ++ b ++ c)

-- ---- values

-- two, four or eight bytes, whatever the number
abbrev pub IsNum : Num → List ℕ → Type 0
IsNum short = AnyBytes 2
IsNum int = AnyBytes 4
IsNum long = AnyBytes 8
IsNum float = AnyBytes 4
IsNum double = AnyBytes 8

-- an enumerator that the enum has: at most the greatest; or one of the list
abbrev pub Among : Allowed → ℕ → Type 0
Among (upto g) n = n ≤ g
Among (only l) n = (i : ℕ) × (i < length l) × (get_or l i 0 ≡ n)

-- an enumerator, as a size
pub data IsEnum (g : Allowed) : List ℕ → Type 0 where
  enumerator : {n : ℕ} {b : List ℕ} → Among g n → IsSize n b → IsEnum g b

-- the greatest enumerator of an enum
pub record Greatest (a : Allowed) (g : ℕ) : Type 0 where
  pub among : Among a g
  pub most : (n : ℕ) → Among a n → n ≤ g

-- the bytes of an enumerator in 1.0, by the greatest: to 126, to 32,766, above
pub data OldWidth (g : ℕ) : ℕ → Type 0 where
  a_byte : g ≤ 126 → OldWidth g 1
  a_short : 127 ≤ g → g ≤ 32766 → OldWidth g 2
  an_int : 32767 ≤ g → OldWidth g 4

-- in 1.0 an enumerator is a number of so many bytes, unsigned
pub data IsOldEnum (a : Allowed) : List ℕ → Type 0 where
  old_enumerator : {g : ℕ} {b : List ℕ} → Greatest a g → OldWidth g (length b) → Among a (val b) → IsOldEnum a b

-- string: size, then that many bytes; sequence: size, elements; dictionary: size, pairs, order and equal keys kept; struct: its members
unfoldable mutual
  pub IsValue : Ty → List ℕ → Type 0
  IsValue broken = λ b. ⊥
  IsValue bool = ByteBelow 2
  IsValue byte = AnyBytes 1
  IsValue string = IsText
  IsValue proxy = IsProxy 4
  IsValue old_proxy = IsProxy 0
  IsValue (num w) = IsNum w
  IsValue (enum g) = IsEnum g
  IsValue (old_enum g) = IsOldEnum g
  IsValue (struct ts) = AreValues ts
  IsValue (seq t) = Counted (IsValue t)
  IsValue (dict k v) = Counted (IsValue k ⨾ IsValue v)

  pub AreValues : Tys → List ℕ → Type 0
  AreValues nil = AnyBytes 0
  AreValues (cons t ts) = IsValue t ⨾ AreValues ts

-- ---- lists of allowed enumerators

-- each entry is below the next
abbrev pub Rises : List ℕ → Type 0
Rises l = (i : ℕ) → suc i < length l → get_or l i 0 < get_or l (suc i) 0

-- so does the list of an enum, if it has one
abbrev pub ListRises : Allowed → Type 0
ListRises (upto g) = Unit {0}
ListRises (only l) = Rises l

-- every list in a type rises: so it is in a table that breaks no rule
unfoldable mutual
  pub ListsRise : Ty → Type 0
  ListsRise broken = Unit {0}
  ListsRise bool = Unit {0}
  ListsRise byte = Unit {0}
  ListsRise string = Unit {0}
  ListsRise proxy = Unit {0}
  ListsRise old_proxy = Unit {0}
  ListsRise (num w) = Unit {0}
  ListsRise (enum a) = ListRises a
  ListsRise (old_enum a) = ListRises a
  ListsRise (struct ts) = AllRise ts
  ListsRise (seq t) = ListsRise t
  ListsRise (dict k v) = ListsRise k × ListsRise v

  pub AllRise : Tys → Type 0
  AllRise nil = Unit {0}
  AllRise (cons t ts) = ListsRise t × AllRise ts

-- ---- extents

-- any size
pub data IsSizeAlone : List ℕ → Type 0 where
  alone : {n : ℕ} {b : List ℕ} → IsSize n b → IsSizeAlone b

-- a size and that many bytes
pub data IsVSize : List ℕ → Type 0 where
  vsize_of : {a : List ℕ} (b : List ℕ) → IsSize (length b) a → IsVSize (a ++ b)

-- an int, not counting itself, and that many bytes, at least one
pub data IsFSize : List ℕ → Type 0 where
  fsize_of : {a : List ℕ} (b : List ℕ) → 1 ≤ length b → IsInt (length b) a → IsFSize (a ++ b)

-- F1, F2, F4, F8 are 1, 2, 4, 8 bytes; Size, VSize, FSize as above; no bytes are a Class
abbrev pub IsExtent : Bits → List ℕ → Type 0
IsExtent f1 = AnyBytes 1
IsExtent f2 = AnyBytes 2
IsExtent f4 = AnyBytes 4
IsExtent f8 = AnyBytes 8
IsExtent size = IsSizeAlone
IsExtent vsize = IsVSize
IsExtent fsize = IsFSize
IsExtent class = λ b. ⊥
