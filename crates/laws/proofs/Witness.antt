-- Demand 3 is about some message: the old table has a record B, the new one B and D, which descends from B.
-- A message of D is read under both; the old table skips the slice of D and lists the byte of B. All of it is computed.
use Rattle.std.specs.Prelude.{◌≡◌, refl, true, false, List, [], ◌∷◌, ◌++◌, ℕ, zero, suc, ◌<◌, leb}
use Rattle.std.proofs.Common.{sym, ◌∙◌, true≢false, arith, leb-false}
use Rattle.encoding.proofs.ResultLaws.{either_false}
use Rattle.encoding.specs.Number.{Bytes}
use Rattle.encoding.specs.Table.{any, types, kind, is_record}
use Rattle.encoding.specs.Optional.{required}
use Rattle.encoding.specs.Slice.{Format, sliced, is_sliced, known}
use Rattle.encoding.specs.Message.{Pieces, exception}
use Rattle.encoding.specs.Extends.{Extends, RecordMatch, TopsMatch, as_records}
use Rattle.encoding.proofs.Cases.{computed}
use Rattle.laws.specs.Demands.{Newer, Foreign, an_exception, a_class, NewerThere}
use Rattle.laws.proofs.MessageNewer.{newer_read}

-- a byte, and exception B of one required byte
abbrev old : List ℕ
old =
    (70 ∷ 71 ∷ 84 ∷ 1 ∷ 0 ∷ 2 ∷ 0 ∷ 1 ∷ 0 ∷ 1 ∷ 0 ∷ 0 ∷ [])
    ++ (1 ∷ 0 ∷ 0 ∷ 0 ∷ 0 ∷ 0 ∷ 0 ∷ 0 ∷ 0 ∷ 0 ∷ 0 ∷ 0 ∷ [])
    ++ (13 ∷ 0 ∷ 0 ∷ 0 ∷ 1 ∷ 0 ∷ 0 ∷ 0 ∷ 0 ∷ 0 ∷ 1 ∷ 0 ∷ [])
    ++ (0 ∷ 0 ∷ 0 ∷ 0 ∷ 0 ∷ 0 ∷ 0 ∷ 0 ∷ [])
    ++ (66 ∷ [])

-- the same, and exception D with base B and no members
abbrev new : List ℕ
new =
    (70 ∷ 71 ∷ 84 ∷ 1 ∷ 0 ∷ 3 ∷ 0 ∷ 1 ∷ 0 ∷ 2 ∷ 0 ∷ 0 ∷ [])
    ++ (1 ∷ 0 ∷ 0 ∷ 0 ∷ 0 ∷ 0 ∷ 0 ∷ 0 ∷ 0 ∷ 0 ∷ 0 ∷ 0 ∷ [])
    ++ (13 ∷ 0 ∷ 0 ∷ 0 ∷ 1 ∷ 0 ∷ 0 ∷ 0 ∷ 0 ∷ 0 ∷ 1 ∷ 0 ∷ [])
    ++ (13 ∷ 0 ∷ 1 ∷ 0 ∷ 0 ∷ 0 ∷ 2 ∷ 0 ∷ 1 ∷ 0 ∷ 1 ∷ 0 ∷ [])
    ++ (0 ∷ 0 ∷ 0 ∷ 0 ∷ 0 ∷ 0 ∷ 0 ∷ 0 ∷ [])
    ++ (66 ∷ 68 ∷ [])

-- flags 17, ID D, size 4; flags 49, ID B, size 5, the byte 9
abbrev sent : List ℕ
sent = 21 ∷ 0 ∷ 0 ∷ 0 ∷ 1 ∷ 1 ∷ 17 ∷ 1 ∷ 68 ∷ 4 ∷ 0 ∷ 0 ∷ 0 ∷ 49 ∷ 1 ∷ 66 ∷ 5 ∷ 0 ∷ 0 ∷ 0 ∷ 9 ∷ []

abbrev pieces : Pieces
pieces = exception (known (68 ∷ []) [] ∷ known (66 ∷ []) (required 0 (9 ∷ []) ∷ []) ∷ [])

two : types old ≡ 2
unfolding computed
two = refl

plain : is_record (kind old 0) ≡ false
unfolding computed
plain = refl

base_match : RecordMatch old new 1
unfolding computed
base_match = record {
  row = 1;
  same = record { old_one = refl; inside = omega arith; kinds = refl; names = refl };
  owners = record { required_ones = refl; optional_ones = tt };
  bases = tt;
}

records : (t : ℕ) → t < types old → is_record (kind old t) ≡ true → RecordMatch old new t
records zero l r = absurd (true≢false (sym r ∙ plain))
records (suc zero) l r = base_match
records (suc (suc t)) l r = absurd (omega (arith, two))

extends : Extends old new
unfolding computed
extends = record { old_right = refl; new_right = refl; records = records }

tops : TopsMatch old new 1 1
unfolding base_match
tops = as_records (omega (arith, two)) base_match.same

bytes_below : (xs : List ℕ) → any (λ x. leb 256 x) xs ≡ false → Bytes xs
unfolding any
bytes_below [] h = tt
bytes_below (x ∷ xs) h = let e = either_false (leb 256 x) _ h in (omega (arith, leb-false 256 x e.0), bytes_below xs e.1)

newer : Newer old new 1 1 sent sliced pieces
unfolding computed
newer = record { extends = extends; tops = tops; bytes = bytes_below sent refl; taken = 21; accepted = refl }

-- a sliced record is not the exception of demand 3
only_compact : {f : Format} {p : Pieces} {place : ℕ} → Foreign old f p place → is_sliced f ≡ false
only_compact (an_exception z) = refl
only_compact (a_class z) = refl

pub newer_there : NewerThere
unfolding computed
newer_there = record {
  old = old;
  new = new;
  sent = sent;
  pieces = pieces;
  newer = newer;
  by_new = refl;
  by_old = refl;
  understood = newer_read old new 1 1 sent sliced pieces newer (λ place F. true≢false (only_compact F));
}
