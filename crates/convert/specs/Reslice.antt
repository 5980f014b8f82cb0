-- The sliced form of a compact record, as the code puts it: the data of each slice stay as they are, and the rows of its owner say where they end.
--
--   growth, later_growth   how many bytes longer the slices of a chain are in sliced form; those after the first
--   own_end, own_count      the place after the rows of an owner that come first, and how many they are
--   data_end               where the data of a slice end
--   front                 flags, type ID and size of a slice
--   reslice, reslices     the sliced form of a slice; of the slices of a chain
--   resliced              the whole message
use Rattle.std.specs.Prelude.{Bool, true, false, List, [], ◌∷◌, ◌++◌, ℕ, suc, ◌+◌, ◌-◌, min, length, take, drop}
use Rattle.encoding.specs.Result.{pick}
use Rattle.encoding.specs.Number.{le_bytes, string_bytes}
use Rattle.encoding.specs.Table.{at, takes, name_of, chain}
use Rattle.encoding.specs.Slice.{sliced, bit, flag_bits}
use Rattle.encoding.specs.Message.{Row}

-- each later slice gets a type ID and a size
unfoldable pub later_growth : List ℕ → List ℕ → ℕ
later_growth T [] = 0
later_growth T (t ∷ ts) = 4 + length (string_bytes (name_of T t)) + later_growth T ts

-- the first slice has its type ID and gets a size
unfoldable pub growth : List ℕ → List ℕ → ℕ
growth T [] = 0
growth T (t ∷ ts) = 4 + later_growth T ts

unfoldable pub own_end : List ℕ → ℕ → ℕ → List Row → ℕ
own_end T t p [] = p
own_end T t p (r ∷ rs) = pick (takes T t r.member) (own_end T t (r.place + r.len) rs) p

unfoldable pub own_count : List ℕ → ℕ → List Row → ℕ
own_count T t [] = 0
own_count T t (r ∷ rs) = pick (takes T t r.member) (suc (own_count T t rs)) 0

-- whether bit 2 is set in the flags at a place
abbrev pub flagged : List ℕ → ℕ → Bool
flagged m p = bit (at m 1 p) 4

-- after the last row of owner t and, after optionals, the end marker; flags at p, data from d on
unfoldable pub data_end : List ℕ → List ℕ → ℕ → ℕ → ℕ → List Row → ℕ
data_end T m t p d rs = min (own_end T t d rs + pick (flagged m p) 1 0) (length m)

unfoldable pub front : List ℕ → ℕ → Bool → Bool → ℕ → List ℕ
front T t optionals last n = flag_bits sliced true optionals last ∷ (string_bytes (name_of T t) ++ le_bytes 4 (4 + n))

-- the slice of owner t at p, where n bytes come before the data
unfoldable pub reslice : List ℕ → List ℕ → ℕ → Bool → ℕ → ℕ → List Row → List ℕ
reslice T m t last p n rs =
    let k = data_end T m t p (p + n) rs - (p + n) in
    front T t (flagged m p) last k ++ take k (drop (p + n) m)

-- no owner follows
unfoldable pub none_above : List ℕ → Bool
none_above [] = true
none_above (t ∷ ts) = false

-- only the flags come before the data of a later slice
unfoldable pub reslices : List ℕ → List ℕ → ℕ → ℕ → List ℕ → List Row → List ℕ
reslices T m p n [] rs = []
reslices T m p n (t ∷ ts) rs =
    reslice T m t (none_above ts) p n rs ++ reslices T m (data_end T m t p (p + n) rs) 1 ts (drop (own_count T t rs) rs)

-- size, version and marker, then the slices of row t and its bases, which begin at p
unfoldable pub resliced : List ℕ → List ℕ → ℕ → ℕ → ℕ → List Row → List ℕ
resliced T m t p size rs =
    le_bytes 4 size ++ take (p - 4) (drop 4 m) ++ reslices T m p (1 + length (string_bytes (name_of T t))) (chain T t) rs
