-- A message whose members may be any bytes: it is read as `list` and `body` read it. Assumes nothing.
--
--   seated_..     what is found of table and top
--   plain_none, plain_not   where nothing is said, of the members and of the message
--   plain_begin   at the first optional
--   plain_read    at the end of the list
--   plain_fits, plain_kept, plain_log   where a sequence at the end begins, and after it
--   plain_body    the whole message
use mathlib.Core.Path.{◌≡◌, refl, sym, ap, ◌∙◌, subst}
use mathlib.Core.Bool.{false}
use mathlib.Core.List.{List}
use Prim.Native.Nat.{ℕ, ◌+◌, ◌-◌, ◌^◌, ◌≤◌, ◌<◌}
use native.Mathlib.Omega.{arith}
use lib.ListN.{length, take, drop, length-drop}
use lib.Seq.{drop-drop, length-take-le}
use Rattle.encoding.specs.Table.{members_at}
use Rattle.encoding.specs.Table
use Rattle.wire.specs.Steps.{counted}
use Rattle.wire.specs.StepLaws.{rest_is}
use Rattle.table.specs.declared.TypeRow.{TypeRow}
use Rattle.table.specs.Rows.{IsTypeRow, Whole}
use Rattle.table.specs.Tags.{first_required}
use Rattle.table.proofs.Chains.{bare_later}
use Rattle.level.specs.Due.{Due}
use Rattle.level.specs.Answers.{reads, Logged, LastLog}
use Rattle.level.proofs.Plain.{last_says, last_gives, log_next, log_length}
use Rattle.slices.specs.declared.Walk.TheVariants.{Done}
use Rattle.slices.specs.Left.{listing}
use Rattle.reader.specs.declared.Seat.{Seat}
use Rattle.reader.specs.OldUse.{OldUse}
use Rattle.reader.specs.Takes.{Takes}
use Rattle.reader.specs.Listing.{Listing}
use Rattle.reader.specs.Seats.{Seated, PlainMembers, PlainList}
use Rattle.reader.proofs.Bodies.{capsule_new, ended_whole, new_list, new_list_gives, body_takes, body_new, body_new_gives}
use Rattle.reader.proofs.Listing.{list_begin, listing_end, read_says, read_gives}

-- ---- table and top

pub seated_list : (T : List ℕ) (top u : ℕ) → OldUse T top u → (r : TypeRow) → IsTypeRow T top r → r.kind ≡ 15 → (first : ℕ) → first ≡ members_at T
    → (w : ℕ) → (0 < w → Whole T w) → w ≡ r.a + r.b → (bare : ℕ) → first_required T bare (r.a + r.b - bare) ≡ r.a + r.b
    → Seated T top (record { old = u; first = first; from = r.a; stop = r.a + r.b; bare = bare })
seated_list T top u U r is k first e w W z bare n = record {
  of_old = U;
  of_list = λ _. record { is_list = sym is.kind_is ∙ k; first_is = e; takes = body_takes T top r is; inside = rw z at W; none = n };
}

-- ---- the members

pub plain_none : (T : List ℕ) (top : ℕ) (m out last : List ℕ) → length last ≡ length out → PlainMembers T top m 0 out last
plain_none T top m out last e = record { kept = e; says = λ h. absurd (omega arith); gives = λ h. absurd (omega arith) }

module _ (T : List ℕ) (top : ℕ) (m out : List ℕ) (row stop bytes count : ℕ) (mid : List ℕ) (D : Due false T top 6 0 (take (length m - 6) (drop 6 m)) out row stop bytes count stop mid)
    (bare : ℕ) (none : first_required T bare (stop - bare) ≡ stop) (past : bare ≤ row) (six : 6 ≤ length m) where
  last : stop ≡ first_required T row (stop - row)
  last = bare_later T bare stop none row past D.within

  pub plain_begin : (from : ℕ) → Takes T top from stop → length m < 2 ^ 63 → Listing T top m (listing T top m (6 + bytes) 0 count 0 mid) stop (6 + bytes) 0 row count 0 mid
  plain_begin from A l = list_begin T top m 6 (record { bytes = bytes; count = count; optional = row }) mid (last_says T top 6 0 _ out row stop bytes count mid D stop last refl) from stop A six l

  pub plain_read : (at least row' k : ℕ) (end : List ℕ) → Listing T top m (listing T top m (6 + bytes) 0 count 0 mid) stop at least row' k 0 end → length m ≤ at → length end ≡ length out → PlainMembers T top m (1 + k) out end
  plain_read at least row' k end L over kept =
      let says = last_says T top 6 0 _ out row stop bytes count mid D stop last refl in
      let E = listing_end L over in
      let z : 1 + k - 1 ≡ k = omega arith in
      let y : length m ≡ at = omega (arith, L.inside) in
      record {
        kept = kept;
        says = λ _. rw (z, y) (read_says T top m 6 (record { bytes = bytes; count = count; optional = row }) mid six (reads bytes count row) says refl (Done top 1 k 0 0 at) end E);
        gives = λ _. read_gives T top m 6 (record { bytes = bytes; count = count; optional = row }) mid six (reads bytes count row) says refl (Done top 1 k 0 0 at) end E out (last_gives T top 6 0 _ out row stop bytes count mid D stop last refl);
      }

-- ---- a sequence at the end

module _ (T : List ℕ) (top : ℕ) (m out : List ℕ) (row stop bytes count : ℕ) (mid : List ℕ) (D : Due false T top 6 0 (take (length m - 6) (drop 6 m)) out row stop bytes count stop mid)
    (six : 6 ≤ length m) where
  pub plain_fits : 6 + bytes ≤ length m
  plain_fits = omega (arith, D.inside, length-take-le (length m - 6) (drop 6 m) (omega (arith, length-drop 6 m)))

  module _ (n : ℕ) (o : List ℕ) (L : LastLog T row stop (take (length m - (6 + bytes)) (drop (6 + bytes) m)) (6 + bytes) count n mid o) where
    pub plain_kept : PlainMembers T top m 0 out o
    plain_kept = plain_none T top m out o (log_length T row stop _ (6 + bytes) count n mid o L ∙ D.same)

    pub plain_log : row < stop → (n ≡ 0 → ⊥) → n ≡ length m - (6 + bytes)
        → (from : ℕ) → Takes T top from stop → length m < 2 ^ 63 → PlainMembers T top m (2 + count) out o
    plain_log h z e from A l =
        let S : take (length m - (6 + bytes)) (drop (6 + bytes) m) ≡ take (length (take (length m - 6) (drop 6 m)) - bytes) (drop bytes (take (length m - 6) (drop 6 m))) =
        rest_is m (6 + bytes) ∙ sym (rest_is (take (length m - 6) (drop 6 m)) bytes ∙ ap (drop bytes) (rest_is m 6) ∙ drop-drop bytes 6 m) in
        let D' = log_next T top 6 0 _ out row stop bytes count mid D h n (subst (λ (s : List ℕ). Logged T row s n) S (L.logged z)) o (L.put_is z) in
        let y : 6 + (bytes + n) ≡ length m = omega (arith, plain_fits) in
        let w : 1 + (count + 1) ≡ 2 + count = omega arith in
        rw w at (plain_read T top m out (row + 1) stop (bytes + n) (count + 1) o D' (row + 1) (sym (L.past z)) (omega arith) six (6 + (bytes + n)) 0 (row + 1) (count + 1) o
        (plain_begin T top m out (row + 1) stop (bytes + n) (count + 1) o D' (row + 1) (sym (L.past z)) (omega arith) six from A l) (omega arith) D'.same)

-- ---- the message

pub plain_not : (T : List ℕ) (top : ℕ) (m out : List ℕ) → PlainList T top m 0 out out
plain_not T top m out = record { kept = refl; says = λ h. absurd (omega arith); gives = λ h. absurd (omega arith) }

module _ (T : List ℕ) (top : ℕ) (seat : Seat) (G : Seated T top seat) where
  pub seated_old : OldUse T top seat.old
  seated_old = G.of_old

  module _ (some : seat.stop ≡ 0 → ⊥) where
    pub seated_first : seat.first ≡ members_at T
    seated_first = (G.of_list some).first_is

    pub seated_takes : Takes T top seat.from seat.stop
    seated_takes = (G.of_list some).takes

    pub seated_inside : 0 < seat.stop → Whole T seat.stop
    seated_inside = (G.of_list some).inside

    pub seated_bare : first_required T seat.bare (seat.stop - seat.bare) ≡ seat.stop
    seated_bare = (G.of_list some).none

    pub plain_body : (m : List ℕ) → 6 ≤ length m → (n : ℕ) → n ≡ Table.at m 4 0 → n ≡ length m → (v : ℕ) → v ≡ Table.at m 2 4 → v ≡ 257 → (r : ℕ) (out end : List ℕ) → PlainMembers T top m r out end → PlainList T top m r out end
    plain_body m six n en el v ev e r out end P =
        let K = sym (G.of_list some).is_list in
        let Z = capsule_new T top m (omega arith) n en (omega arith) el v ev e in
        let w = Done top 1 (r - 1) 0 0 (length m) in
        record {
          kept = P.kept;
          says = λ h. body_new T top m (counted 257 6) Z (record { number = 257; bytes = 6 }) refl (λ q. absurd (omega (arith, q))) w w (new_list T top m six 15 K refl w (P.says h)) (ended_whole w (length m) top 1 (r - 1) 0 0 (length m) refl refl);
          gives = λ h. body_new_gives T top m (counted 257 6) Z (record { number = 257; bytes = 6 }) refl (λ q. absurd (omega (arith, q))) end out (new_list_gives T top m six 15 K refl end out (P.gives h));
        }
