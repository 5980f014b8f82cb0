-- Pairs of 1.0, read and encoded: what is read is what the encoder makes, and what it makes is read back.
--
--   level_bare                     a level without optionals is that of 1.0
--   bare_written, _canonical       required members alone
--   PairReady, PairTaken           the stages that a walk over pairs reaches; what one turn of it takes
--   pair_written, _canonical       one pair, known or skipped
--   PairFits                       the pairs that are still to come
--   pairs_written, _canonical      the pairs of an exception
use Rattle.std.specs.Prelude.{◌≡◌, Bool, drop}
use Rattle.std.proofs.Math.Path.{refl, sym, ap, ap₂, subst}
use Rattle.std.proofs.Common.{◌∙◌, true≢false, drop_at}
use Rattle.std.proofs.Math.Bool.{true, false}
use Rattle.std.proofs.lemmas.Bool.{false≢true}
use Rattle.std.proofs.Math.Option.{Option, none, some}
use mathlib.Core.List.{List, [], ◌∷◌, ◌++◌, append_assoc, append-nil}
use Prim.Native.Nat.{ℕ, zero, suc, ◌+◌, ◌≤◌, ◌<◌}
use native.Mathlib.Omega.{arith}
use Rattle.std.proofs.Math.ListN.{length, take, length-append}
use Rattle.std.proofs.Math.Seq.{take-length, take-add}
use Rattle.encoding.specs.Result.{ok, Parser, pick, pure, fail, mapc, bytes, inside, concat, same_bytes}
use Rattle.encoding.proofs.ResultLaws.{ok≢bad, same_bytes_ok, same_bytes_same, bind_written, mapc_ok, mapc_step, inside_ok, inside_step}
use Rattle.encoding.specs.Utf8.{Utf8}
use Rattle.encoding.specs.Number.{Bytes, Short, declared, le_bytes, size_bytes, string_bytes}
use Rattle.encoding.proofs.NumberLaws.{bytes_drop, length_le_bytes, declared_written, declared_canonical, content_ok, content_step, string_written, string_canonical}
use Rattle.encoding.specs.Value.{value}
use Rattle.encoding.specs.Table.{types, kind, is_record, Member, required_members, name_of, named, base, upward, chain, fine, faults}
use Rattle.encoding.proofs.RuleLaws.{AboveRecord, base_record, named_ok, name_text, chain_node}
use Rattle.encoding.proofs.ListLaws.{MembersRise, required_rise}
use Rattle.encoding.specs.Optional.{Piece, required, optional, skipped, requireds, piece_bytes, front_bytes, content_bytes, is_optional}
use Rattle.encoding.specs.Slice.{Slice, known, passed, first, Meaning, skip, row, wrong, meaning_form, any_optional, id_of, data_bytes}
use Rattle.encoding.specs.Old.{members_as, descends, PairStage, any_pair, pair_of, first_meaning, pair_meaning, enter_pair, id_pair, none_due, walk_pairs, id_pairs, pair_front}
use Rattle.encoding.proofs.OldLaws.{members_rise_as, pairs_ended, pairs_on, Paired, pair_ok, pair_step, PairWalk, last, more, pairs_of}
use Rattle.encoding.specs.Message.{v10, slices_bytes}
use Rattle.encoding.specs.Grammar.{InString}
use Rattle.encoding.specs.Conform.{Level, Bare, OldOwned, Follow, Passed, Slices}
use Rattle.laws.proofs.OptionalExact.{requireds_canonical, value_written}

-- ---- required members alone

level_bare : (ms os : List Member) (ps : List Piece) → Level ms os 0 ps → any_optional ps ≡ false → Bare ms ps
unfolding any_optional is_optional
level_bare [] os [] L e = tt
level_bare [] os (required i b ∷ ps) L e = absurd L
level_bare [] os (optional t f b ∷ ps) L e = absurd (true≢false e)
level_bare [] os (skipped t k b ∷ ps) L e = absurd (true≢false e)
level_bare (m ∷ ms) os [] L e = absurd L
level_bare (m ∷ ms) os (required i b ∷ ps) L e = (L.0, L.1, level_bare ms os ps L.2 e)
level_bare (m ∷ ms) os (optional t f b ∷ ps) L e = absurd L
level_bare (m ∷ ms) os (skipped t k b ∷ ps) L e = absurd L

bare_none : (ms : List Member) (ps : List Piece) → Bare ms ps → any_optional ps ≡ false
unfolding any_optional is_optional
bare_none [] [] B = refl
bare_none [] (p ∷ ps) B = absurd B
bare_none (m ∷ ms) [] B = absurd B
bare_none (m ∷ ms) (required i b ∷ ps) B = bare_none ms ps B.2
bare_none (m ∷ ms) (optional t f b ∷ ps) B = absurd B
bare_none (m ∷ ms) (skipped t k b ∷ ps) B = absurd B

pub bare_written : (ms : List Member) → MembersRise ms → (ps : List Piece) (r : List ℕ) → Bare ms ps → requireds ms (concat piece_bytes ps ++ r) ≡ ok ps (length (concat piece_bytes ps))
unfolding requireds concat piece_bytes front_bytes content_bytes pure
bare_written [] R [] r B = refl
bare_written [] R (p ∷ ps) r B = absurd B
bare_written (m ∷ ms) R [] r B = absurd B
bare_written (m ∷ ms) R (required i b ∷ ps) r B =
    rw B.0 (bind_written (bytes (value m.ty)) (λ b. mapc (λ ps _. required m.key b ∷ ps) (requireds ms)) b (concat piece_bytes ps) r
    (value_written m.ty R.0 b (concat piece_bytes ps ++ r) B.1)
    (mapc_step (requireds ms) (concat piece_bytes ps ++ r) (λ ps _. required m.key b ∷ ps) (bare_written ms R.1 ps r B.2)))
bare_written (m ∷ ms) R (optional t f b ∷ ps) r B = absurd B
bare_written (m ∷ ms) R (skipped t k b ∷ ps) r B = absurd B

pub bare_canonical : (ms : List Member) → MembersRise ms → (xs : List ℕ) {ps : List Piece} {n : ℕ} → requireds ms xs ≡ ok ps n → Bare ms ps × (take n xs ≡ concat piece_bytes ps)
bare_canonical ms R xs {ps} h =
    let F = requireds_canonical ms R xs h in
    (level_bare ms [] ps (subst (Level ms [] 0) (append-nil ps) (F.level [] [] tt)) F.none, F.spelt)

-- the members of row t as 1.0 has them
abbrev old_members : List ℕ → ℕ → List Member
old_members T t = members_as true (required_members T t)

-- without optionals the data of a slice is that of its members
bare_data : (ms : List Member) (o : List ℕ) (ps : List Piece) → Bare ms ps → data_bytes (known o ps) ≡ concat piece_bytes ps
unfolding data_bytes
bare_data ms o ps B = rw (bare_none ms ps B, append-nil (concat piece_bytes ps))

-- ---- what one turn of the walk takes

-- the pair of a known row
pub record PairKnows (T : List ℕ) (t : ℕ) (o : List ℕ) (ps : List Piece) (z : List ℕ) (next : PairStage) : Type 0 where
  pub owner : o ≡ name_of T t
  pub owned : OldOwned T t ps
  pub spelt : z ≡ pair_front (known o ps) ++ data_bytes (known o ps)
  pub behind : next ≡ pair_of (base T t)

-- the first one
pub record PairFinds (T : List ℕ) (top : ℕ) (o : List ℕ) (ps : List Piece) (z : List ℕ) (next : PairStage) : Type 0 where
  pub row : ℕ
  pub found : named T o ≡ some row
  pub below : descends T top row ≡ true
  pub knows : PairKnows T row o ps z next

-- a skipped one
pub record PairSkips (T : List ℕ) (b : Bool) (nm d z : List ℕ) (next : PairStage) : Type 0 where
  pub unknown : Passed T v10 b nm d
  pub spelt : z ≡ pair_front (passed b nm d) ++ d
  pub behind : next ≡ any_pair

abbrev pub PairTaken : List ℕ → ℕ → List ℕ → PairStage → Slice → PairStage → Type 0
PairTaken T top z any_pair (known o ps) next = PairFinds T top o ps z next
PairTaken T top z any_pair (passed b nm d) next = PairSkips T b nm d z next
PairTaken T top z (pair_of zero) sl next = ⊥
PairTaken T top z (pair_of (suc t)) (known o ps) next = PairKnows T t o ps z next
PairTaken T top z (pair_of (suc t)) (passed b nm d) next = ⊥

-- above a known pair is a record or nothing
abbrev pub PairReady : List ℕ → PairStage → Type 0
PairReady T any_pair = Unit {0}
PairReady T (pair_of b) = AboveRecord T b

taken_ready : (T : List ℕ) → faults T ≡ fine → (top : ℕ) (z : List ℕ) (d : PairStage) (sl : Slice) (next : PairStage) → PairReady T d → PairTaken T top z d sl next → PairReady T next
taken_ready T right top z any_pair (known o ps) next R K =
    let n = named_ok T o K.row K.found in
    subst (PairReady T) (sym K.knows.behind) (base_record T right K.row (n.0, n.1) _ refl).1
taken_ready T right top z any_pair (passed b nm d) next R K = subst (PairReady T) (sym K.behind) tt
taken_ready T right top z (pair_of zero) sl next R K = absurd K
taken_ready T right top z (pair_of (suc t)) (known o ps) next R K = subst (PairReady T) (sym K.behind) (base_record T right t R _ refl).1
taken_ready T right top z (pair_of (suc t)) (passed b nm d) next R K = absurd K

-- ---- one pair, as read

module _ (T : List ℕ) (right : faults T ≡ fine) (top : ℕ) (xs : List ℕ) (y : Bytes xs) where
  enter_wrong : (nm : List ℕ) (c : ℕ) (ys : List ℕ) {r : Slice × PairStage} {m : ℕ} → enter_pair T nm (wrong c) ys ≡ ok r m → ⊥
  unfolding enter_pair fail
  enter_wrong nm c ys e = ok≢bad e refl

  -- a known row, under its name
  row_canonical : (nm : List ℕ) (k m t : ℕ) (r : Slice × PairStage) → take k xs ≡ string_bytes nm → nm ≡ name_of T t → enter_pair T nm (row t) (drop k xs) ≡ ok r m
      → (ps : List Piece) × (r ≡ (known (name_of T t) ps, pair_of (base T t))) × PairKnows T t (name_of T t) ps (take k xs ++ take m (drop k xs)) (pair_of (base T t))
  unfolding enter_pair pair_front id_of
  row_canonical nm k m t r id same e =
      let ms : List Member = old_members T t in
      let M = mapc_ok (inside (declared 4 4) (requireds ms)) (drop k xs) (λ ps _. (known (name_of T t) ps, pair_of (base T t))) e in
      let E = inside_ok (declared 4 4) (requireds ms) (drop k xs) M.1 in
      let D = declared_canonical 4 4 (drop k xs) (bytes_drop k xs y) (omega arith) E.outer in
      let F = bare_canonical ms (members_rise_as true (required_members T t) (required_rise T right t)) E.part E.inner in
      let ps : List Piece = M.0 in
      let o : List ℕ = name_of T t in
      let all : E.part ≡ data_bytes (known o ps) = sym (take-length E.part) ∙ F.1 ∙ sym (bare_data ms o ps F.0) in (
        ps,
        M.2,
        record {
          owner = refl;
          owned = F.0;
          spelt = ap₂ ◌++◌ (id ∙ ap string_bytes same) (D.0 ∙ ap (λ (d : List ℕ). le_bytes 4 (4 + length d) ++ d) all)
              ∙ sym (append_assoc (string_bytes o) (le_bytes 4 (4 + length (data_bytes (known o ps)))) (data_bytes (known o ps)));
          behind = refl;
        },
      )

  skip_canonical : (nm : List ℕ) (k m : ℕ) (r : Slice × PairStage) → take k xs ≡ string_bytes nm → InString nm → named T nm ≡ none → enter_pair T nm skip (drop k xs) ≡ ok r m
      → PairTaken T top (take k xs ++ take m (drop k xs)) any_pair r.0 r.1
  unfolding enter_pair pair_front id_of data_bytes
  skip_canonical nm k m r id text e j =
      let M = mapc_ok (declared 4 4) (drop k xs) (λ d _. (passed false nm d, any_pair)) j in
      let D = declared_canonical 4 4 (drop k xs) (bytes_drop k xs y) (omega arith) M.1 in
      subst (λ (r : Slice × PairStage). PairTaken T top (take k xs ++ take m (drop k xs)) any_pair r.0 r.1) (sym M.2) (record {
        unknown = record { format = refl; unknown = e; id = text; data_short = omega (arith, D.2) };
        spelt = ap₂ ◌++◌ id D.0 ∙ sym (append_assoc (string_bytes nm) (le_bytes 4 (4 + length M.0)) M.0);
        behind = refl;
      })

  first_canonical : (nm : List ℕ) (k m : ℕ) (r : Slice × PairStage) → take k xs ≡ string_bytes nm → InString nm → (o : Option ℕ) → named T nm ≡ o
      → enter_pair T nm (first_meaning T top o) (drop k xs) ≡ ok r m → PairTaken T top (take k xs ++ take m (drop k xs)) any_pair r.0 r.1
  unfolding first_meaning
  first_canonical nm k m r id text none e j = skip_canonical nm k m r id text e j
  first_canonical nm k m r id text (some t) e j = go (descends T top t) refl j
    where
      go : (q : Bool) → descends T top t ≡ q → enter_pair T nm (pick q (row t) (wrong 17)) (drop k xs) ≡ ok r m → PairTaken T top (take k xs ++ take m (drop k xs)) any_pair r.0 r.1
      go false q j = absurd (enter_wrong nm 17 (drop k xs) j)
      go true q j =
          let same : nm ≡ name_of T t = (named_ok T nm t e).2 in
          let K = row_canonical nm k m t r id same j in
          subst (λ (r : Slice × PairStage). PairTaken T top (take k xs ++ take m (drop k xs)) any_pair r.0 r.1) (sym K.1)
          (record { row = t; found = ap (named T) (sym same) ∙ e; below = q; knows = K.2 })

  base_canonical : (nm : List ℕ) (k m t : ℕ) (r : Slice × PairStage) → take k xs ≡ string_bytes nm → (q : Bool) → same_bytes nm (name_of T t) ≡ q
      → enter_pair T nm (pick q (row t) (wrong 17)) (drop k xs) ≡ ok r m → PairTaken T top (take k xs ++ take m (drop k xs)) (pair_of (suc t)) r.0 r.1
  base_canonical nm k m t r id false q j = absurd (enter_wrong nm 17 (drop k xs) j)
  base_canonical nm k m t r id true q j =
      let K = row_canonical nm k m t r id (same_bytes_ok nm (name_of T t) q) j in
      subst (λ (r : Slice × PairStage). PairTaken T top (take k xs ++ take m (drop k xs)) (pair_of (suc t)) r.0 r.1) (sym K.1) K.2

  pub pair_canonical : (d : PairStage) (r : Slice × PairStage) (n : ℕ) → id_pair T top d xs ≡ ok r n → PairTaken T top (take n xs) d r.0 r.1
  unfolding pair_meaning
  pair_canonical d r n e = all (pair_ok T top d xs r n e)
    where
      go : (d : PairStage) (nm : List ℕ) (k m : ℕ) → take k xs ≡ string_bytes nm → InString nm → enter_pair T nm (pair_meaning T top d nm) (drop k xs) ≡ ok r m
          → PairTaken T top (take k xs ++ take m (drop k xs)) d r.0 r.1
      go any_pair nm k m id text j = first_canonical nm k m r id text (named T nm) refl j
      go (pair_of zero) nm k m id text j = absurd (enter_wrong nm 17 (drop k xs) j)
      go (pair_of (suc t)) nm k m id text j = base_canonical nm k m t r id (same_bytes nm (name_of T t)) refl j

      all : Paired T top d xs r n → PairTaken T top (take n xs) d r.0 r.1
      all U =
          let S = string_canonical xs y U.id_read_lem in
          subst (λ (z : List ℕ). PairTaken T top z d r.0 r.1) (sym (take-add U.id_bytes U.data_size xs) ∙ ap (λ (i : ℕ). take i xs) (sym U.sum))
          (go d U.id U.id_bytes U.data_size S.0 (record { length_short = S.2; is_text = content_ok U.id S.1 }) U.read)

-- ---- one pair, as encoded

module _ (T : List ℕ) (top : ℕ) where
  -- a pair by the meaning of its type ID
  pair_front_lem : (d : PairStage) (nm v r : List ℕ) (a : Meaning) {res : Slice × PairStage} → InString nm → pair_meaning T top d nm ≡ a → meaning_form a ≡ 0
      → enter_pair T nm a (v ++ r) ≡ ok res (length v) → id_pair T top d (string_bytes nm ++ v ++ r) ≡ ok res (length (string_bytes nm ++ v))
  pair_front_lem d nm v r a {res} S e z j =
      let u : List ℕ = string_bytes nm in
      let cut : drop (length u) (u ++ (v ++ r)) ≡ v ++ r = drop_at u (v ++ r) (length u) refl in
      ap (id_pair T top d) (append_assoc u v r)
      ∙ pair_step T top d (u ++ (v ++ r)) res (length (u ++ v)) (record {
        id = nm;
        id_bytes = length u;
        data_size = length v;
        id_read_lem = string_written nm (v ++ r) (content_step nm S.is_text) S.length_short;
        right = ap meaning_form e ∙ z;
        read = ap₂ (λ (a : Meaning) (w : List ℕ). enter_pair T nm a w) e cut ∙ j;
        sum = length-append u v;
      })

  -- a size, and the data that it counts
  abbrev sized : List ℕ → List ℕ
  sized d = le_bytes 4 (4 + length d) ++ d

  length_sized : (d : List ℕ) → length (sized d) ≡ 4 + length d
  length_sized d = omega (arith, length-append (le_bytes 4 (4 + length d)) d, length_le_bytes 4 (4 + length d))

  pair_bytes : (sl : Slice) → pair_front sl ++ data_bytes sl ≡ string_bytes (id_of sl) ++ sized (data_bytes sl)
  unfolding pair_front
  pair_bytes sl = append_assoc (string_bytes (id_of sl)) (le_bytes 4 (4 + length (data_bytes sl))) (data_bytes sl)

  -- the name of a record, in bytes that an int can count
  name_short : (nm w : List ℕ) → Utf8 nm → Short (length (string_bytes nm ++ w)) → InString nm
  unfolding string_bytes
  name_short nm w u sh =
      record { length_short = omega (arith, length-append (size_bytes (length nm) ++ nm) w, length-append (size_bytes (length nm)) nm); is_text = u }

  knows_written : faults T ≡ fine → (d : PairStage) (t : ℕ) (o : List ℕ) (ps : List Piece) (z r : List ℕ) (next : PairStage) → t < types T → is_record (kind T t) ≡ true
      → PairKnows T t o ps z next → Short (length z) → pair_meaning T top d o ≡ row t → id_pair T top d (z ++ r) ≡ ok (known o ps, next) (length z)
  unfolding enter_pair id_of meaning_form
  knows_written right d t o ps z r next l q K sh e =
      let ms : List Member = old_members T t in
      let x : List ℕ = data_bytes (known o ps) in
      let v : List ℕ = sized x in
      let u : List ℕ = string_bytes o in
      let es : z ≡ u ++ v = K.spelt ∙ pair_bytes (known o ps) in
      let sh' : Short (length (u ++ v)) = subst (λ (z : List ℕ). Short (length z)) es sh in
      let inner : requireds ms x ≡ ok ps (length x) = subst (λ (b : List ℕ). requireds ms b ≡ ok ps (length b)) (sym (bare_data ms o ps K.owned))
      (rw append-nil at (bare_written ms (members_rise_as true (required_members T t) (required_rise T right t)) ps [] K.owned)) in
      let part : declared 4 4 (v ++ r) ≡ ok x (length v) =
      declared_written 4 4 x r (omega arith) (omega arith) (omega (arith, length_sized x, sh', length-append u v)) ∙ ap (ok x) (sym (length_sized x)) in
      let R = pair_front_lem d o v r (row t) (name_short o v (subst Utf8 (sym K.owner) (name_text T right t l q)) sh') e refl
      (mapc_step (inside (declared 4 4) (requireds ms)) (v ++ r) (λ ps _. (known (name_of T t) ps, pair_of (base T t))) (inside_step (declared 4 4) (requireds ms) (v ++ r) part inner)
      ∙ ap₂ (λ (o : List ℕ) (n : PairStage). ok (known o ps, n) (length v)) (sym K.owner) (sym K.behind)) in
      subst (λ (z : List ℕ). id_pair T top d (z ++ r) ≡ ok (known o ps, next) (length z)) (sym es) R

  skips_written : (b : Bool) (nm d z r : List ℕ) (next : PairStage) → PairSkips T b nm d z next → Short (length z) → id_pair T top any_pair (z ++ r) ≡ ok (passed b nm d, next) (length z)
  unfolding enter_pair meaning_form pair_meaning first_meaning id_of data_bytes
  skips_written b nm d z r next K sh =
      let v : List ℕ = sized d in
      let u : List ℕ = string_bytes nm in
      let es : z ≡ u ++ v = K.spelt ∙ pair_bytes (passed b nm d) in
      let sh' : Short (length (u ++ v)) = subst (λ (z : List ℕ). Short (length z)) es sh in
      let part : declared 4 4 (v ++ r) ≡ ok d (length v) =
      declared_written 4 4 d r (omega arith) (omega arith) (omega (arith, length_sized d, sh', length-append u v)) ∙ ap (ok d) (sym (length_sized d)) in
      let R = pair_front_lem any_pair nm v r skip K.unknown.id (rw K.unknown.unknown) refl
      (mapc_step (declared 4 4) (v ++ r) (λ d _. (passed false nm d, any_pair)) part
      ∙ ap₂ (λ (q : Bool) (n : PairStage). ok (passed q nm d, n) (length v)) (sym K.unknown.format) (sym K.behind)) in
      subst (λ (z : List ℕ). id_pair T top any_pair (z ++ r) ≡ ok (passed b nm d, next) (length z)) (sym es) R

  pub pair_written : faults T ≡ fine → (d : PairStage) (sl : Slice) (z r : List ℕ) (next : PairStage) → PairReady T d → PairTaken T top z d sl next → Short (length z)
      → id_pair T top d (z ++ r) ≡ ok (sl, next) (length z)
  unfolding pair_meaning first_meaning
  pair_written right any_pair (known o ps) z r next R K sh =
      let n = named_ok T o K.row K.found in
      knows_written right any_pair K.row o ps z r next n.0 n.1 K.knows sh (rw (K.found, K.below))
  pair_written right any_pair (passed b nm d) z r next R K sh = skips_written b nm d z r next K sh
  pair_written right (pair_of zero) sl z r next R K sh = absurd K
  pair_written right (pair_of (suc t)) (known o ps) z r next R K sh =
      knows_written right (pair_of (suc t)) t o ps z r next R.0 R.1 K sh (rw (same_bytes_same o (name_of T t) K.owner))
  pair_written right (pair_of (suc t)) (passed b nm d) z r next R K sh = absurd K

-- ---- the walk

-- the pairs that are still to come
abbrev pub PairFits : List ℕ → ℕ → PairStage → List Slice → Type 0
PairFits T top any_pair ss = Slices T top v10 ss
PairFits T top (pair_of b) ss = Follow T v10 (upward (chain T) b) ss

-- one pair, as it is written
abbrev pair_one : Slice → List ℕ
pair_one sl = pair_front sl ++ data_bytes sl

module _ (T : List ℕ) (top : ℕ) where
  -- a pair before those that come after it
  fits_ahead : (d : PairStage) (sl : Slice) (next : PairStage) (ss : List Slice) (z : List ℕ) → PairTaken T top z d sl next → PairFits T top next ss
      → PairFits T top d (sl ∷ ss) × (z ≡ pair_one sl)
  unfolding upward data_bytes
  fits_ahead any_pair (known o ps) next ss z K F =
      let F' = subst (λ (n : PairStage). PairFits T top n ss) K.knows.behind F in (
        record {
          row = K.row;
          known = K.found;
          descends = K.below;
          follow = subst (λ (l : List ℕ). Follow T v10 l (known o ps ∷ ss)) (sym (chain_node T K.row)) (K.knows.owner, K.knows.owned, F');
        },
        K.knows.spelt,
      )
  fits_ahead any_pair (passed b nm x) next ss z K F = ((K.unknown, subst (λ (n : PairStage). PairFits T top n ss) K.behind F), K.spelt)
  fits_ahead (pair_of zero) sl next ss z K F = absurd K
  fits_ahead (pair_of (suc t)) (known o ps) next ss z K F =
      let F' = subst (λ (n : PairStage). PairFits T top n ss) K.behind F in
      (subst (λ (l : List ℕ). Follow T v10 l (known o ps ∷ ss)) (sym (chain_node T t)) (K.owner, K.owned, F'), K.spelt)
  fits_ahead (pair_of (suc t)) (passed b nm x) next ss z K F = absurd K

  fits_done : (d : PairStage) → none_due d ≡ true → PairFits T top d []
  unfolding none_due upward
  fits_done any_pair e = absurd (false≢true e)
  fits_done (pair_of zero) e = tt
  fits_done (pair_of (suc t)) e = absurd (false≢true e)

  walked : faults T ≡ fine → {d : PairStage} {xs : List ℕ} {ss : List Slice} {n : ℕ} → PairWalk T top d xs ss n → PairReady T d → Bytes xs
      → PairFits T top d ss × (take n xs ≡ slices_bytes v10 first ss)
  unfolding slices_bytes
  walked right (last {d = d} e) R y = (fits_done d e, refl)
  walked right (more {d = d} {xs = xs} {r = r} {ss = ss} {n = n} {m = m} e h w) R y =
      let K = pair_canonical T right top xs y d r n h in
      let I = walked right w (taken_ready T right top (take n xs) d r.0 r.1 R K) (bytes_drop n xs y) in
      let A = fits_ahead d r.0 r.1 ss (take n xs) K I.0 in
      (A.0, take-add n m xs ∙ ap₂ ◌++◌ A.1 I.1)

  pub pairs_canonical : faults T ≡ fine → (xs : List ℕ) → Bytes xs → {ss : List Slice} {n : ℕ} → id_pairs T top xs ≡ ok ss n → Slices T top v10 ss × (take n xs ≡ slices_bytes v10 first ss)
  unfolding id_pairs
  pairs_canonical right xs y h = walked right (pairs_of T top (length xs) any_pair xs h) tt y

  -- the next pair, and those after it
  record Next (d : PairStage) (sl : Slice) (ss : List Slice) : Type 0 where
    next : PairStage
    turn : none_due d ≡ false
    taken : PairTaken T top (pair_one sl) d sl next
    rest : PairFits T top next ss

  fits_next : (d : PairStage) (sl : Slice) (ss : List Slice) → PairFits T top d (sl ∷ ss) → Next d sl ss
  unfolding none_due upward data_bytes
  fits_next any_pair (known o ps) ss F =
      let L = subst (λ (l : List ℕ). Follow T v10 l (known o ps ∷ ss)) (chain_node T F.row) F.follow in
      record {
        next = pair_of (base T F.row);
        turn = refl;
        taken = record { row = F.row; found = F.known; below = F.descends; knows = record { owner = L.0; owned = L.1; spelt = refl; behind = refl } };
        rest = L.2;
      }
  fits_next any_pair (passed b nm x) ss F = record { next = any_pair; turn = refl; taken = record { unknown = F.0; spelt = refl; behind = refl }; rest = F.1 }
  fits_next (pair_of zero) sl ss F = absurd F
  fits_next (pair_of (suc t)) (known o ps) ss F =
      let L = subst (λ (l : List ℕ). Follow T v10 l (known o ps ∷ ss)) (chain_node T t) F in
      record { next = pair_of (base T t); turn = refl; taken = record { owner = L.0; owned = L.1; spelt = refl; behind = refl }; rest = L.2 }
  fits_next (pair_of (suc t)) (passed b nm x) ss F = absurd (subst (λ (l : List ℕ). Follow T v10 l (passed b nm x ∷ ss)) (chain_node T t) F)

  fits_end : (d : PairStage) → PairFits T top d [] → none_due d ≡ true
  unfolding none_due upward
  fits_end any_pair F = absurd F
  fits_end (pair_of zero) F = refl
  fits_end (pair_of (suc t)) F = absurd (subst (λ (l : List ℕ). Follow T v10 l []) (chain_node T t) F)

  walk_written : faults T ≡ fine → (ss : List Slice) (f : ℕ) (d : PairStage) (r : List ℕ) → PairReady T d → PairFits T top d ss → length ss ≤ f → Short (length (slices_bytes v10 first ss))
      → walk_pairs T top f d (slices_bytes v10 first ss ++ r) ≡ ok ss (length (slices_bytes v10 first ss))
  unfolding slices_bytes pure
  walk_written right [] f d r R F l sh = ap (λ (p : Parser (List Slice)). p r) (pairs_ended T top f d (fits_end d F))
  walk_written right (sl ∷ ss) zero d r R F l sh = absurd (omega arith)
  walk_written right (sl ∷ ss) (suc f) d r R F l sh =
      go (fits_next d sl ss F) (λ (n : PairStage) (R : PairReady T n) (F : PairFits T top n ss) (sh : Short (length w)). walk_written right ss f n r R F (omega arith) sh)
    where
      z : List ℕ
      z = pair_one sl

      w : List ℕ
      w = slices_bytes v10 first ss

      go : Next d sl ss → ((n : PairStage) → PairReady T n → PairFits T top n ss → Short (length w) → walk_pairs T top f n (w ++ r) ≡ ok ss (length w))
          → walk_pairs T top (suc f) d (z ++ w ++ r) ≡ ok (sl ∷ ss) (length (z ++ w))
      go N ih =
          let s₁ : Short (length w) = omega (arith, length-append z w) in
          let s₂ : Short (length z) = omega (arith, length-append z w) in
          let n : PairStage = N.next in
          ap (λ (p : Parser (List Slice)). p (z ++ w ++ r)) (pairs_on T top f d N.turn)
          ∙ bind_written (id_pair T top d) (λ (r : Slice × PairStage). mapc (λ ss _. r.0 ∷ ss) (walk_pairs T top f r.1)) z w r
          (pair_written T top right d sl z (w ++ r) n R N.taken s₂)
          (mapc_step (walk_pairs T top f n) (w ++ r) (λ ss _. sl ∷ ss) (ih n (taken_ready T right top z d sl n R N.taken) N.rest s₁))

  -- each pair has a size
  pairs_count : (ss : List Slice) → length ss ≤ length (slices_bytes v10 first ss)
  unfolding slices_bytes pair_front
  pairs_count [] = omega arith
  pairs_count (sl ∷ ss) =
      omega (
        arith,
        pairs_count ss,
        length-append (pair_one sl) (slices_bytes v10 first ss),
        length-append (pair_front sl) (data_bytes sl),
        length-append (string_bytes (id_of sl)) (le_bytes 4 (4 + length (data_bytes sl))),
        length_le_bytes 4 (4 + length (data_bytes sl)),
      )

  pub pairs_written : faults T ≡ fine → (ss : List Slice) (r : List ℕ) → Slices T top v10 ss → Short (length (slices_bytes v10 first ss))
      → id_pairs T top (slices_bytes v10 first ss ++ r) ≡ ok ss (length (slices_bytes v10 first ss))
  unfolding id_pairs
  pairs_written right ss r S sh =
      let w : List ℕ = slices_bytes v10 first ss in
      walk_written right ss (length (w ++ r)) any_pair r tt S (omega (arith, pairs_count ss, length-append w r)) sh
