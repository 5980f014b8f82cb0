-- The walk over a parameter list: what holds at the head of its loop, and what each step makes of it. Assumes nothing.
--
--   list_asks, list_at, list_place    places that fit
--   next_simple                a simple optional
--   told_both                  two results of one answer are the same
--   list_begin                 what holds at the loop's head does at first
--   listing_..                 what each step makes of it
--   simple_..                  what a simple optional makes of it
--   listing_again, listing_ends   the second loop begins where the first one ended, and both are one
--   read_.., refused_..        the answer and the lent list are those of the walk: of the optionals, or where a required member is refused
use mathlib.Core.Path.{◌≡◌, refl, sym, ap, ap₂, ◌∙◌}
use mathlib.Core.Bool.{false}
use mathlib.Core.Option.{none, some}
use mathlib.Core.List.{List, [], ◌∷◌}
use Prim.Native.Nat.{ℕ, suc, ◌+◌, ◌-◌, ◌*◌, ◌^◌, ◌≤◌, ◌<◌}
use native.Mathlib.Nat.{add-zero, zero-add}
use native.Mathlib.Numerals.{add-one}
use native.Mathlib.Omega.{arith}
use lib.ListN.{length, take, drop, length-drop}
use lib.Seq.{drop-drop}
use mir.Syntax.{w64}
use mir.Val.{Fits}
use Rattle.encoding.specs.Result.{Res, ok, bad, at_end}
use Rattle.encoding.specs.Table
use Rattle.encoding.specs.Optional.{Piece, requireds, next_optional}
use Rattle.encoding.specs.Message.{row_bytes, piece_rows, parameters}
use Rattle.std.specs.Prelude.{Result, Ok, Err}
use Rattle.wire.specs.declared.Refusal.{Refusal}
use Rattle.wire.specs.Put.{put}
use Rattle.wire.specs.StepLaws.{rest_is}
use Rattle.table.specs.Tags.{optional_from, optional_start}
use Rattle.table.specs.Tags
use Rattle.table.specs.TagsLaws.{passed_none, passed_still, passed_behind}
use Rattle.table.proofs.Chains.{passing_begin, passing_end}
use Rattle.level.specs.Fill.{fill}
use Rattle.level.specs.TagLaws.{passed_answer, member_tag, member_begun, member_within}
use Rattle.level.specs.Answers.{members_of, Bare, optional_answer}
use Rattle.level.specs.AnswersLaws.{KnownRead, known_read, skipped_read, wrong_read, known_within, known_start, known_tag, skipped_some, skipped_within, skipped_tag, wrong_within, members_read, members_start, members_refused, members_within, refused_within}
use Rattle.level.specs.declared.Members.{Members}
use Rattle.level.specs.declared.Optional.{Optional}
use Rattle.level.specs.declared.Optional.TheVariants.{Known, Skipped}
use Rattle.slices.specs.declared.Walk.{Walk}
use Rattle.slices.specs.declared.Walk.TheVariants.{Done, Stop}
use Rattle.slices.specs.Walks.{list_walk}
use Rattle.slices.specs.Left.{WalkEnd, listed, refused, answer_of, Ends, optionals_from, finish, list_close, listing}
use Rattle.slices.specs.LeftLaws.{parameters_required, parameters_refused, finish_end, finish_wrong, finish_known, finish_skipped}
use Rattle.slices.specs.MemberLaws.{required_few, optional_two}
use Rattle.slices.proofs.Endings.{ends_same, ends_refused, ends_listed, ends_answer, ends_list}
use Rattle.reader.specs.Takes.{Takes}
use Rattle.reader.specs.Listing.{Listing}

-- ---- the whole walk

abbrev in_list : List ℕ → ℕ → ℕ → List ℕ → Res (List Piece) → WalkEnd
in_list T top at out r = finish T top (list_close top) refused false at 0 0 out r

list_whole : (T : List ℕ) (top at : ℕ) (out : List ℕ) (r : Res (List Piece)) → answer_of (in_list T top at out r) ≡ list_walk T top at r
unfolding finish list_close answer_of list_walk
list_whole T top at out (ok ps n) = ap₂ (λ (i j : ℕ). Done top 1 i j 0 (at + n)) (zero-add _) (zero-add _)
list_whole T top at out (bad c p) = refl

module _ (T : List ℕ) (top at : ℕ) (out₀ : List ℕ) (r : Res (List Piece)) (v : Walk) (out : List ℕ) (E : Ends (in_list T top at out₀ r) v out) where
  list_says : v ≡ list_walk T top at r
  list_says = ends_answer E ∙ list_whole T top at out₀ r

  list_gives : (ps : List Piece) (n : ℕ) → r ≡ ok ps n → out ≡ fill 0 (piece_rows T top at ps) out₀
  unfolding finish list_close
  list_gives ps n e = ends_list E _ _ (ap (in_list T top at out₀) e)

-- ---- the loop over optionals

at_end_lem : (m : List ℕ) (at : ℕ) → length m ≤ at → at_end (drop at m) ≡ some 0
unfolding at_end
at_end_lem m at h = go (drop at m) (omega (arith, length-drop at m))
  where
    go : (l : List ℕ) → length l ≤ 0 → at_end l ≡ some 0
    go [] h = refl
    go (x ∷ l) h = absurd (omega arith)

not_end : (m : List ℕ) (at : ℕ) → at < length m → at_end (drop at m) ≡ none
unfolding at_end
not_end m at h = go (drop at m) (omega (arith, length-drop at m))
  where
    go : (l : List ℕ) → 0 < length l → at_end l ≡ none
    go [] h = absurd (omega arith)
    go (x ∷ l) h = refl

-- an optional that was read without a call
pub next_simple : (T : List ℕ) (stop row least : ℕ) (s : List ℕ) (n tag : ℕ) → Bare T stop row least s tag n → (n ≡ 0 → ⊥)
    → Ok (Known row tag 1 n) ≡ optional_answer (optional_from T stop row) (next_optional (optional_from T stop row) least s)
next_simple T stop row least s n tag B z = B.known (omega (arith, z))

-- what is left fits
pub list_asks : (m : List ℕ) (start : ℕ) → start ≤ length m → length m < 2 ^ 63 → start + length (take (length m - start) (drop start m)) < 2 ^ 63
list_asks m start h l = omega (arith, ap length (rest_is m start), length-drop start m)

-- the required members
module _ (T : List ℕ) (top : ℕ) (m : List ℕ) (start : ℕ) (h : start ≤ length m) (ms : Result Members Refusal)
    (em : ms ≡ members_of 0 (optional_start T top) (requireds (Table.required_members T top) (take (length m - start) (drop start m)))) where
  reads : ms ≡ members_of 0 (optional_start T top) (requireds (Table.required_members T top) (drop start m))
  reads = em ∙ ap (λ (l : List ℕ). members_of 0 (optional_start T top) (requireds (Table.required_members T top) l)) (rest_is m start)

  list_refused : (x : Refusal) → ms ≡ Err x → (out out' : List ℕ) → Ends (in_list T top start out (parameters T top (drop start m))) (Stop x.number (start + x.place)) out'
  list_refused x q out out' =
      ends_refused _ x.number (start + x.place) (Stop x.number (start + x.place)) out'
      (parameters_refused T top (list_close top) refused (drop start m) x.number x.place (members_refused (Table.required_members T top) 0 (optional_start T top) (drop start m) ms reads x q) start 0 0 out) refl

  pub list_place : (x : Refusal) → ms ≡ Err x → Fits w64 (length m) → Fits w64 (start + x.place)
  list_place x q l = omega (arith, refused_within (Table.required_members T top) 0 (optional_start T top) (drop start m) ms reads x q, length-drop start m)

  module _ (x : Members) (q : ms ≡ Ok x) where
    list_within : start + x.bytes ≤ length m
    list_within = omega (arith, members_within (Table.required_members T top) 0 (optional_start T top) (drop start m) ms reads x q, length-drop start m)

    pub list_at : Fits w64 (length m) → Fits w64 (start + x.bytes)
    list_at l = omega (arith, list_within)

    list_same : (out out' : List ℕ) → ((ps : List Piece) (n : ℕ) → requireds (Table.required_members T top) (take (length m - start) (drop start m)) ≡ ok ps n → out' ≡ fill 0 (piece_rows T top start ps) out)
        → in_list T top start out (parameters T top (drop start m)) ≡ listing T top m (start + x.bytes) 0 x.count 0 out'
    unfolding listing
    list_same out out' fills = go (members_read (Table.required_members T top) 0 (optional_start T top) (drop start m) ms reads x q)
      where
        go : (ps : List Piece) × (requireds (Table.required_members T top) (drop start m) ≡ ok ps x.bytes) × (x.count ≡ 0 + length ps)
            → in_list T top start out (parameters T top (drop start m)) ≡ finish T top (list_close top) refused false (start + x.bytes) x.count 0 out' (optionals_from at_end (Table.optional_members T top) 0 (drop (start + x.bytes) m))
        go R =
            let e : requireds (Table.required_members T top) (take (length m - start) (drop start m)) ≡ ok R.0 x.bytes = ap (requireds (Table.required_members T top)) (rest_is m start) ∙ R.1 in
            parameters_required T top (list_close top) refused (drop start m) R.0 x.bytes R.1 start 0 0 out
            ∙ ap₂ (λ (i : ℕ) (l : List ℕ). finish T top (list_close top) refused false (start + x.bytes) i 0 l (optionals_from at_end (Table.optional_members T top) 0 (drop x.bytes (drop start m)))) (sym R.2) (sym (fills R.0 x.bytes e))
            ∙ ap (λ (l : List ℕ). finish T top (list_close top) refused false (start + x.bytes) x.count 0 out' (optionals_from at_end (Table.optional_members T top) 0 l)) (drop-drop x.bytes start m)

-- two results of one answer are the same
pub told_both : (ms x y : Result Members Refusal) → ms ≡ x → ms ≡ y → x ≡ y
told_both ms x y e h = sym e ∙ h

-- at the first optional
pub list_begin : (T : List ℕ) (top : ℕ) (m : List ℕ) (start : ℕ) (x : Members) (out : List ℕ) → Ok x ≡ members_of 0 (optional_start T top) (requireds (Table.required_members T top) (take (length m - start) (drop start m)))
    → (from stop : ℕ) → Takes T top from stop → start ≤ length m → length m < 2 ^ 63
    → Listing T top m (listing T top m (start + x.bytes) 0 x.count 0 out) stop (start + x.bytes) 0 x.optional x.count 0 out
list_begin T top m start x out em from stop A h l =
    let told = reads T top m start h (Ok x) em in
    let R = members_read (Table.required_members T top) 0 (optional_start T top) (drop start m) (Ok x) told x refl in
    record {
      room = l;
      bound = omega (arith, A.from_small, A.stop_small);
      inside = list_within T top m start h (Ok x) em x refl;
      few = omega (arith, R.2, required_few false T top (drop start m) R.0 x.bytes R.1, A.from_is, A.stop_is, A.stop_small);
      fewer = omega arith;
      passed = passed_none T top stop x.optional A.stop_is (members_start (Table.required_members T top) 0 (optional_start T top) (drop start m) (Ok x) told x refl);
      rest = refl;
    }

module _ {T : List ℕ} {top : ℕ} {m : List ℕ} {whole : WalkEnd} {stop at least row k o : ℕ} {out : List ℕ} (inv : Listing T top m whole stop at least row k o out) where
  -- the end of the list
  pub listing_end : length m ≤ at → Ends whole (Done top 1 k o 0 at) out
  unfolding listing list_close
  listing_end h =
      ends_listed whole (Done top 1 k o 0 at) out
      (inv.rest ∙ finish_end T top (list_close top) refused at_end false least (drop at m) at k o out 0 (at_end_lem m at h) refl ∙ ap (λ (i : ℕ). listed (Done top 1 k o 0 i) out) (add-zero at))

  module _ (on : at < length m) {r : Result Optional Refusal} (e : r ≡ optional_answer (optional_from T stop row) (next_optional (optional_from T stop row) least (take (length m - at) (drop at m)))) where
    answers : r ≡ optional_answer (Table.optional_members T top) (next_optional (Table.optional_members T top) least (drop at m))
    answers =
        e ∙ passed_answer T top stop row least inv.passed (take (length m - at) (drop at m))
        ∙ ap (λ (l : List ℕ). optional_answer (Table.optional_members T top) (next_optional (Table.optional_members T top) least l)) (rest_is m at)

    -- a known optional
    module _ {x : Optional} (v : r ≡ Ok x) {i tag a n : ℕ} (q : x ≡ Known i tag a n) where
      reading : KnownRead (Table.optional_members T top) least (drop at m) i tag a n
      reading = known_read (Table.optional_members T top) least (drop at m) r answers x v i tag a n q

      listing_two : 2 ≤ n
      listing_two = optional_two (Table.optional_members T top) least (drop at m) _ n reading.read

      listing_within : at + n ≤ length m
      listing_within = omega (arith, known_within (Table.optional_members T top) least (drop at m) r answers x v i tag a n q, length-drop at m)

      pub listing_less : length m - (at + n) < length m - at
      listing_less = omega (arith, listing_two, listing_within)

      pub listing_start : a ≤ n
      listing_start = known_start (Table.optional_members T top) least (drop at m) r answers x v i tag a n q

      pub listing_place : Fits w64 (at + a)
      listing_place = omega (arith, inv.room, listing_start, listing_within)

      pub listing_fits : Fits w64 (at + n)
      listing_fits = omega (arith, inv.room, listing_within)

      pub listing_count : Fits w64 (k + 1)
      listing_count = omega (arith, inv.room, inv.few, inv.inside)

      pub listing_tag : Fits w64 (tag + 1)
      listing_tag = omega (arith, known_tag (Table.optional_members T top) least (drop at m) r answers x v i tag a n q)

      pub listing_few : i < 131072
      listing_few = omega (arith, member_within T top least (drop at m) i tag a n reading, inv.passed.ends, inv.bound)

      pub listing_known : {out' : List ℕ} → out' ≡ put (12 * k) (row_bytes (record { member = i; place = at + a; len = n - a })) out → {row' : ℕ} → row' ≡ Tags.behind T row i tag
          → Listing T top m whole stop (at + n) (tag + 1) row' (k + 1) o out'
      unfolding listing
      listing_known {out'} w {row'} p = record {
        room = inv.room;
        bound = inv.bound;
        inside = listing_within;
        few = omega (arith, inv.few, listing_two);
        fewer = omega (arith, inv.fewer);
        passed = rw p (passed_behind T top stop row least inv.passed tag reading.rises i (member_begun T top least (drop at m) i tag a n reading) (member_tag T top least (drop at m) i tag a n reading));
        rest = inv.rest ∙ finish_known T top (list_close top) refused at_end false least (drop at m) at k o out (not_end m at on) i tag a n reading
            ∙ ap₂ (λ (y : List ℕ) (l : List ℕ). finish T top (list_close top) refused false (at + n) (k + 1) o y (optionals_from at_end (Table.optional_members T top) (suc tag) l)) (sym w) (drop-drop n at m)
            ∙ rw (add-one tag);
      }

    -- a skipped one
    module _ {x : Optional} (v : r ≡ Ok x) {tag n : ℕ} (q : x ≡ Skipped tag n) where
      listing_some : 1 ≤ n
      listing_some = skipped_some (Table.optional_members T top) least (drop at m) r answers x v tag n q

      listing_past : at + n ≤ length m
      listing_past = omega (arith, skipped_within (Table.optional_members T top) least (drop at m) r answers x v tag n q, length-drop at m)

      pub listing_past_less : length m - (at + n) < length m - at
      listing_past_less = omega (arith, listing_some, listing_past)

      pub listing_past_fits : Fits w64 (at + n)
      listing_past_fits = omega (arith, inv.room, listing_past)

      pub listing_past_tag : Fits w64 (tag + 1)
      listing_past_tag = omega (arith, skipped_tag (Table.optional_members T top) least (drop at m) r answers x v tag n q)

      pub listing_skipped : Listing T top m whole stop (at + n) (tag + 1) row k (o + 1) out
      unfolding listing
      listing_skipped = record {
        room = inv.room;
        bound = inv.bound;
        inside = listing_past;
        few = omega (arith, inv.few);
        fewer = omega (arith, inv.fewer, listing_some);
        passed = passed_still T top stop row least inv.passed tag (skipped_read (Table.optional_members T top) least (drop at m) r answers x v tag n q).rises;
        rest = inv.rest
            ∙ finish_skipped T top (list_close top) refused at_end false least (drop at m) at k o out (not_end m at on) tag n (skipped_read (Table.optional_members T top) least (drop at m) r answers x v tag n q)
            ∙ ap (λ (l : List ℕ). finish T top (list_close top) refused false (at + n) k (o + 1) out (optionals_from at_end (Table.optional_members T top) (suc tag) l)) (drop-drop n at m)
            ∙ rw (add-one tag);
      }

    -- a refusal
    module _ {x : Refusal} (q : r ≡ Err x) where
      pub listing_stop : Fits w64 (at + x.place)
      listing_stop = omega (arith, inv.room, wrong_within (Table.optional_members T top) least (drop at m) r answers x q, length-drop at m, inv.inside)

      pub listing_wrong : (out' : List ℕ) → Ends whole (Stop x.number (at + x.place)) out'
      unfolding listing
      listing_wrong out' =
          ends_refused whole x.number (at + x.place) (Stop x.number (at + x.place)) out'
          (inv.rest ∙ finish_wrong T top (list_close top) refused at_end false least (drop at m) at k o out (not_end m at on) x.number x.place (wrong_read (Table.optional_members T top) least (drop at m) r answers x q)) refl

-- ---- a simple optional

module _ {T : List ℕ} {top : ℕ} {m : List ℕ} {whole : WalkEnd} {stop at least row k o : ℕ} {out : List ℕ} (inv : Listing T top m whole stop at least row k o out) (on : at < length m) (n tag : ℕ)
    (B : Bare T stop row least (take (length m - at) (drop at m)) tag n) (some : n ≡ 0 → ⊥) where
  answer : Ok (Known row tag 1 n) ≡ optional_answer (optional_from T stop row) (next_optional (optional_from T stop row) least (take (length m - at) (drop at m)))
  answer = next_simple T stop row least (take (length m - at) (drop at m)) n tag B some

  pub simple_place : Fits w64 (at + 1)
  simple_place = listing_place inv on answer refl refl

  pub simple_some : 1 ≤ n
  simple_some = listing_start inv on answer refl refl

  pub simple_count : Fits w64 (k + 1)
  simple_count = listing_count inv on answer refl refl

  pub simple_fits : Fits w64 (at + n)
  simple_fits = listing_fits inv on answer refl refl

  pub simple_tag : Fits w64 (tag + 1)
  simple_tag = listing_tag inv on answer refl refl

  pub simple_row : Fits w64 (row + 1)
  simple_row = omega (arith, listing_few inv on answer refl refl)

  pub simple_less : length m - (at + n) < length m - at
  simple_less = listing_less inv on answer refl refl

  pub simple_known : {out' : List ℕ} → out' ≡ put (12 * k) (row_bytes (record { member = row; place = at + 1; len = n - 1 })) out → Listing T top m whole stop (at + n) (tag + 1) (row + 1) (k + 1) o out'
  simple_known w = listing_known inv on answer refl refl w (passing_end T row row tag row (passing_begin T row row tag) (omega arith))

-- ---- one loop after another

module _ {T : List ℕ} {top : ℕ} {m : List ℕ} {whole : WalkEnd} {stop at least row k o : ℕ} {out : List ℕ} (inv : Listing T top m whole stop at least row k o out) where
  -- what is left begins here
  pub listing_again : Listing T top m (listing T top m at least k o out) stop at least row k o out
  listing_again = record { room = inv.room; bound = inv.bound; inside = inv.inside; few = inv.few; fewer = inv.fewer; passed = inv.passed; rest = refl }

  -- and ends as the whole does
  pub listing_ends : {v : Walk} {out' : List ℕ} → Ends (listing T top m at least k o out) v out' → Ends whole v out'
  listing_ends E = ends_same inv.rest E

-- ---- how the walk ends

-- the answer does not depend on the lent list
listing_answer : (T : List ℕ) (top : ℕ) (m : List ℕ) (at least k o : ℕ) (out out' : List ℕ) → answer_of (listing T top m at least k o out) ≡ answer_of (listing T top m at least k o out')
unfolding listing finish list_close answer_of
listing_answer T top m at least k o out out' = go (optionals_from at_end (Table.optional_members T top) least (drop at m))
  where
    go : (r : Res (List Piece)) → answer_of (finish T top (list_close top) refused false at k o out r) ≡ answer_of (finish T top (list_close top) refused false at k o out' r)
    go (ok ps n) = refl
    go (bad c p) = refl

-- the required members were read, then the optionals
module _ (T : List ℕ) (top : ℕ) (m : List ℕ) (start : ℕ) (x : Members) (mid : List ℕ) (h : start ≤ length m) (ms : Result Members Refusal)
    (em : ms ≡ members_of 0 (optional_start T top) (requireds (Table.required_members T top) (take (length m - start) (drop start m)))) (w : ms ≡ Ok x)
    (v : Walk) (out : List ℕ) (E : Ends (listing T top m (start + x.bytes) 0 x.count 0 mid) v out) where
  -- the optionals decide the answer
  pub read_says : v ≡ list_walk T top start (parameters T top (drop start m))
  read_says = go (members_read (Table.required_members T top) 0 (optional_start T top) (drop start m) ms (reads T top m start h ms em) x w)
    where
      go : (ps : List Piece) × (requireds (Table.required_members T top) (drop start m) ≡ ok ps x.bytes) × (x.count ≡ 0 + length ps) → v ≡ list_walk T top start (parameters T top (drop start m))
      go R =
          ends_answer E ∙ listing_answer T top m (start + x.bytes) 0 x.count 0 mid (fill 0 (piece_rows T top start R.0) mid)
          ∙ sym (ap answer_of (list_same T top m start h ms em x w mid (fill 0 (piece_rows T top start R.0) mid) (λ ps i e.
          let z : ok R.0 x.bytes ≡ ok ps i = sym (ap (requireds (Table.required_members T top)) (rest_is m start) ∙ R.1) ∙ e in
          let y : R.0 ≡ ps = cc in ap (λ (l : List Piece). fill 0 (piece_rows T top start l) mid) y)))
          ∙ list_whole T top start mid (parameters T top (drop start m))

  -- and all are listed where the walk accepts
  pub read_gives : (out₀ : List ℕ) → ((ps : List Piece) (n : ℕ) → requireds (Table.required_members T top) (take (length m - start) (drop start m)) ≡ ok ps n → mid ≡ fill 0 (piece_rows T top start ps) out₀)
      → (ps : List Piece) (n : ℕ) → parameters T top (drop start m) ≡ ok ps n → out ≡ fill 0 (piece_rows T top start ps) out₀
  read_gives out₀ fills = list_gives T top start out₀ (parameters T top (drop start m)) v out (ends_same (list_same T top m start h ms em x w out₀ mid fills) E)

-- a required member is refused
module _ (T : List ℕ) (top : ℕ) (m : List ℕ) (start : ℕ) (h : start ≤ length m) (ms : Result Members Refusal) (em : ms ≡ members_of 0 (optional_start T top) (requireds (Table.required_members T top) (take (length m - start) (drop start m))))
    (x : Refusal) (w : ms ≡ Err x) where
  pub refused_says : Stop x.number (start + x.place) ≡ list_walk T top start (parameters T top (drop start m))
  refused_says = list_says T top start m (parameters T top (drop start m)) (Stop x.number (start + x.place)) m (list_refused T top m start h ms em x w m m)

  pub refused_gives : (out out₀ : List ℕ) (ps : List Piece) (n : ℕ) → parameters T top (drop start m) ≡ ok ps n → out ≡ fill 0 (piece_rows T top start ps) out₀
  refused_gives out out₀ = list_gives T top start out₀ (parameters T top (drop start m)) (Stop x.number (start + x.place)) out (list_refused T top m start h ms em x w out₀ out)
