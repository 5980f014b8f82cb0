-- One pair of encoding 1.0, by what its type ID means: what its reading gives, and how many bytes it takes. Assumes nothing.
--
--   name_is, row_is, owners_is, first_is   of a pair whose ID means row t: its name, its row, the rows from it on, the first known type
--   row_below, row_base                    its row is one of the table, or the base that was due
--   Knew, pair_knew                        a known pair that was read; Passing, pair_passing a skipped one
--   Opened                                 a pair of a known row, and the part that its data lie in
--   opened_bad, _place, _skip, _data       what the opening of a pair says of it
use Rattle.std.proofs.Math.Path.{◌≡◌, refl, ap}
use Rattle.std.proofs.Common.{sym, ap₂, ◌∙◌, length-append, drop-drop}
use Rattle.std.specs.Prelude.{Bool, take, drop, Result, Ok, Err}
use Rattle.std.proofs.Math.Bool.{true, false}
use Rattle.std.proofs.Math.Option.{Option, none, some}
use mathlib.Core.List.{List, [], ◌∷◌}
use Prim.Native.Nat.{ℕ, zero, suc, ◌+◌, ◌-◌, ◌≤◌, ◌<◌}
use native.Mathlib.Omega.{arith}
use Rattle.std.proofs.Math.ListN.{length, length-drop}
use Rattle.encoding.specs.Result.{Res, ok, bad, pick, shift, fail, judged, must, made, mapc, leave, enter, inside, same_bytes, concat}
use Rattle.encoding.proofs.ResultLaws.{ok≢bad, same_bytes_ok, bind_bad, bind_next, must_step, mapc_ok, inside_ok, held_took, held_refused}
use Rattle.encoding.specs.Number.{declared, le_bytes, string, string_bytes}
use Rattle.encoding.proofs.NumberLaws.{length_le_bytes, held_declared, held_string, ends_declared}
use Rattle.encoding.specs.Table.{types, name_of, named, base, upward, chain}
use Rattle.encoding.specs.Table
use Rattle.encoding.proofs.RuleLaws.{named_ok, chain_node}
use Rattle.encoding.specs.Optional.{Piece, requireds, piece_bytes}
use Rattle.encoding.proofs.WeightLaws.{string_weight, declared_weight, requireds_weight}
use Rattle.encoding.specs.Slice.{Slice, known, passed, Meaning, skip, row, wrong, meaning_form, id_of, data_bytes}
use Rattle.encoding.specs.Old.{members_as, descends, PairStage, any_pair, pair_of, first_meaning, pair_meaning, enter_pair, id_pair, pair_front}
use Rattle.encoding.proofs.OldLaws.{Seventeen, pair_wrong, meant, Paired, pair_ok}
use Rattle.encoding.specs.Message.{or_zero, first_in}
use Rattle.wire.specs.declared.Refusal.{Refusal}
use Rattle.wire.specs.Steps.{refused}
use Rattle.slices.specs.Openings.{ended}
use Rattle.slices.specs.OpeningLaws.{ended_sliced}
use Rattle.slices.specs.MemberLaws.{Plain, required_plain}
use Rattle.pairs.specs.declared.Opening.{Opening}
use Rattle.pairs.specs.declared.Opening.TheVariants.{Skip, Data}
use Rattle.pairs.specs.Pairs.{meant_of, data_in, data_as, enter_as, open_by, opening, row_of, first_by, owners, first_from}

-- ---- what an ID means

module _ (T : List ℕ) (top : ℕ) where
  right : (i t : ℕ) (b : Bool) → pick b (row i) (wrong 17) ≡ row t → i ≡ t
  right i t true e = cc
  right i t false e = let z : ◌≡◌ {A = ℕ} 0 1 = cc in absurd (omega arith)

  -- the row that a name has
  first_named : (o : Option ℕ) (t : ℕ) → first_meaning T top o ≡ row t → o ≡ some t
  unfolding first_meaning
  first_named none t e = let z : ◌≡◌ {A = ℕ} 0 1 = cc in absurd (omega arith)
  first_named (some i) t e = ap some (right i t (descends T top i) e)

  name_is : (d : PairStage) (nm : List ℕ) (t : ℕ) → pair_meaning T top d nm ≡ row t → nm ≡ name_of T t
  unfolding pair_meaning
  name_is any_pair nm t e = (named_ok T nm t (first_named (named T nm) t e)).2
  name_is (pair_of zero) nm t e = let z : ◌≡◌ {A = ℕ} 0 1 = cc in absurd (omega arith)
  name_is (pair_of (suc u)) nm t e = go (same_bytes nm (name_of T u)) refl e
    where
      go : (b : Bool) → same_bytes nm (name_of T u) ≡ b → pick b (row u) (wrong 17) ≡ row t → nm ≡ name_of T t
      go true f e = let z : u ≡ t = cc in same_bytes_ok nm (name_of T u) f ∙ ap (name_of T) z
      go false f e = let z : ◌≡◌ {A = ℕ} 0 1 = cc in absurd (omega arith)

  due_is : (u : ℕ) (nm : List ℕ) (t : ℕ) → pair_meaning T top (pair_of (suc u)) nm ≡ row t → u ≡ t
  unfolding pair_meaning
  due_is u nm t e = right u t (same_bytes nm (name_of T u)) e

  pub row_is : (d : PairStage) (o : List ℕ) (t : ℕ) → pair_meaning T top d o ≡ row t → row_of T d o ≡ t
  unfolding pair_meaning row_of or_zero
  row_is any_pair o t e = rw (first_named (named T o) t e)
  row_is (pair_of zero) o t e = let z : ◌≡◌ {A = ℕ} 0 1 = cc in absurd (omega arith)
  row_is (pair_of (suc u)) o t e = let z = due_is u o t e in omega arith

  pub owners_is : (d : PairStage) (o : List ℕ) (ps : List Piece) (ss : List Slice) (t : ℕ) → pair_meaning T top d o ≡ row t → owners T d (known o ps ∷ ss) ≡ t ∷ upward (chain T) (base T t)
  unfolding pair_meaning owners first_in upward row_of
  owners_is any_pair o ps ss t e = ap (chain T) (row_is any_pair o t e) ∙ chain_node T t
  owners_is (pair_of zero) o ps ss t e = let z : ◌≡◌ {A = ℕ} 0 1 = cc in absurd (omega arith)
  owners_is (pair_of (suc u)) o ps ss t e = ap (chain T) (due_is u o t e) ∙ chain_node T t

  pub first_is : (d : PairStage) (o : List ℕ) (ps : List Piece) (ss : List Slice) (t fst : ℕ) → pair_meaning T top d o ≡ row t → first_from T d fst (known o ps ∷ ss) ≡ first_by d fst t
  unfolding first_from first_by first_in row_of
  first_is any_pair o ps ss t fst e = row_is any_pair o t e
  first_is (pair_of b) o ps ss t fst e = refl

  pub row_below : (nm : List ℕ) (t : ℕ) → pair_meaning T top any_pair nm ≡ row t → t < types T
  unfolding pair_meaning
  row_below nm t e = (named_ok T nm t (first_named (named T nm) t e)).0

  pub row_base : (b : ℕ) (nm : List ℕ) (t : ℕ) → pair_meaning T top (pair_of b) nm ≡ row t → b ≡ suc t
  unfolding pair_meaning
  row_base zero nm t e = let z : ◌≡◌ {A = ℕ} 0 1 = cc in absurd (omega arith)
  row_base (suc u) nm t e = ap suc (due_is u nm t e)

  -- after a known pair none is skipped
  skips_first : (d : PairStage) (nm : List ℕ) → pair_meaning T top d nm ≡ skip → d ≡ any_pair
  unfolding pair_meaning
  skips_first any_pair nm e = refl
  skips_first (pair_of zero) nm e = let z : ◌≡◌ {A = ℕ} 0 1 = cc in absurd (omega arith)
  skips_first (pair_of (suc u)) nm e = go (same_bytes nm (name_of T u)) e
    where
      go : (b : Bool) → pick b (row u) (wrong 17) ≡ skip → pair_of (suc u) ≡ any_pair
      go true e = let z : ◌≡◌ {A = ℕ} 0 1 = cc in absurd (omega arith)
      go false e = let z : ◌≡◌ {A = ℕ} 0 1 = cc in absurd (omega arith)

-- ---- what a pair takes

pub front_weight : (sl : Slice) → length (pair_front sl) ≡ length (string_bytes (id_of sl)) + 4
unfolding pair_front
front_weight sl = length-append (string_bytes (id_of sl)) (le_bytes 4 (4 + length (data_bytes sl))) ∙ omega (arith, length_le_bytes 4 (4 + length (data_bytes sl)))

data_weight : (o : List ℕ) (ps : List Piece) → Plain ps → length (data_bytes (known o ps)) ≡ length (concat piece_bytes ps)
unfolding data_bytes
data_weight o ps P = rw P.none_optional (length-append (concat piece_bytes ps) [] ∙ omega arith)

-- a known pair that was read
pub record Knew (T : List ℕ) (top : ℕ) (d : PairStage) (o : List ℕ) (ps : List Piece) (st : PairStage) (n : ℕ) : Type 0 where
  pub t : ℕ
  pub next : st ≡ pair_of (base T t)
  pub means : pair_meaning T top d o ≡ row t
  pub part : List ℕ
  pub read : requireds (members_as true (Table.required_members T t)) part ≡ ok ps (length part)
  pub sum : n ≡ length (pair_front (known o ps)) + length (data_bytes (known o ps))

-- a skipped one
pub record Passing (T : List ℕ) (top : ℕ) (d : PairStage) (nm x : List ℕ) (b : Bool) (st : PairStage) (n : ℕ) : Type 0 where
  pub stage : d ≡ any_pair
  pub next : st ≡ any_pair
  pub sum : n ≡ length (pair_front (passed b nm x)) + length x

module _ (T : List ℕ) (top : ℕ) (d : PairStage) (xs : List ℕ) where
  pub pair_knew : (o : List ℕ) (ps : List Piece) (st : PairStage) (n : ℕ) → id_pair T top d xs ≡ ok (known o ps, st) n → Knew T top d o ps st n
  unfolding enter_pair fail id_of
  pair_knew o ps st n e = go (pair_ok T top d xs (known o ps, st) n e)
    where
      by : (id : List ℕ) (i k : ℕ) → string xs ≡ ok id i → n ≡ i + k → (m : Meaning) → pair_meaning T top d id ≡ m → enter_pair T id m (drop i xs) ≡ ok (known o ps, st) k → Knew T top d o ps st n
      by id i k s w skip f h =
          let M = mapc_ok (declared 4 4) (drop i xs) (λ x _. (passed false id x, any_pair)) h in
          let q : known o ps ≡ passed false id M.0 = ap (λ (x : Slice × PairStage). x.0) M.2 in
          let z : ◌≡◌ {A = ℕ} 0 1 = cc in
          absurd (omega arith)
      by id i k s w (row t) f h =
          let M = mapc_ok (inside (declared 4 4) (requireds (members_as true (Table.required_members T t)))) (drop i xs) (λ ps _. (known (name_of T t) ps, pair_of (base T t))) h in
          let I = inside_ok (declared 4 4) (requireds (members_as true (Table.required_members T t))) (drop i xs) M.1 in
          let q : known o ps ≡ known (name_of T t) M.0 = ap (λ (x : Slice × PairStage). x.0) M.2 in
          let eo : name_of T t ≡ o = cc in
          let ep : M.0 ≡ ps = cc in
          let same : id ≡ o = name_is T top d id t f ∙ eo in
          let r : requireds (members_as true (Table.required_members T t)) I.part ≡ ok ps (length I.part) = I.inner ∙ ap (λ (l : List Piece). ok l (length I.part)) ep in
          record {
            t = t;
            next = ap (λ (x : Slice × PairStage). x.1) M.2;
            means = ap (pair_meaning T top d) (sym same) ∙ f;
            part = I.part;
            read = r;
            sum = omega (arith, string_weight xs s, ap (λ (l : List ℕ). length (string_bytes l)) same, declared_weight 4 4 (drop i xs) I.outer, front_weight (known o ps), data_weight o ps (required_plain (members_as true (Table.required_members T t)) I.part ps (length I.part) r), requireds_weight (members_as true (Table.required_members T t)) I.part r);
          }
      by id i k s w (wrong c) f h = absurd (ok≢bad h refl)

      go : Paired T top d xs (known o ps, st) n → Knew T top d o ps st n
      go U = by U.id U.id_bytes U.data_size U.id_read_lem U.sum (pair_meaning T top d U.id) refl U.read

  pub pair_passing : (b : Bool) (nm x : List ℕ) (st : PairStage) (n : ℕ) → id_pair T top d xs ≡ ok (passed b nm x, st) n → Passing T top d nm x b st n
  unfolding enter_pair fail id_of
  pair_passing b nm x st n e = go (pair_ok T top d xs (passed b nm x, st) n e)
    where
      by : (id : List ℕ) (i k : ℕ) → string xs ≡ ok id i → n ≡ i + k → (m : Meaning) → pair_meaning T top d id ≡ m → enter_pair T id m (drop i xs) ≡ ok (passed b nm x, st) k → Passing T top d nm x b st n
      by id i k s w skip f h =
          let M = mapc_ok (declared 4 4) (drop i xs) (λ x _. (passed false id x, any_pair)) h in
          let q : passed b nm x ≡ passed false id M.0 = ap (λ (x : Slice × PairStage). x.0) M.2 in
          let same : id ≡ nm = cc in
          let ex : M.0 ≡ x = cc in
          record {
            stage = skips_first T top d id f;
            next = ap (λ (x : Slice × PairStage). x.1) M.2;
            sum = omega (arith, string_weight xs s, ap (λ (l : List ℕ). length (string_bytes l)) same, declared_weight 4 4 (drop i xs) M.1, ap (λ (l : List ℕ). length l) ex, front_weight (passed b nm x));
          }
      by id i k s w (row t) f h =
          let M = mapc_ok (inside (declared 4 4) (requireds (members_as true (Table.required_members T t)))) (drop i xs) (λ ps _. (known (name_of T t) ps, pair_of (base T t))) h in
          let q : passed b nm x ≡ known (name_of T t) M.0 = ap (λ (x : Slice × PairStage). x.0) M.2 in
          let z : ◌≡◌ {A = ℕ} 0 1 = cc in
          absurd (omega arith)
      by id i k s w (wrong c) f h = absurd (ok≢bad h refl)

      go : Paired T top d xs (passed b nm x, st) n → Passing T top d nm x b st n
      go U = by U.id U.id_bytes U.data_size U.id_read_lem U.sum (pair_meaning T top d U.id) refl U.read

-- ---- a pair up to its data

pub record Opened (T : List ℕ) (top : ℕ) (d : PairStage) (xs : List ℕ) (t a e : ℕ) : Type 0 where
  pub means : pair_meaning T top d (name_of T t) ≡ row t
  pub front : a ≡ length (string_bytes (name_of T t)) + 4
  pub order : a ≤ e
  pub within : e ≤ length xs
  pub read : id_pair T top d xs
      ≡ made (λ ps _. (known (name_of T t) ps, pair_of (base T t))) (ended true a e (requireds (members_as true (Table.required_members T t)) (take (e - a) (drop a xs))))

shift_made : {A B : Type 0} (f : A → B) (n : ℕ) (r : Res A) → shift n (made (λ a _. f a) r) ≡ made (λ a _. f a) (shift n r)
unfolding shift made
shift_made f n (ok a m) = refl
shift_made f n (bad c p) = refl

module _ (T : List ℕ) (top : ℕ) (d : PairStage) (xs : List ℕ) where
  unnamed : (c p : ℕ) → string xs ≡ bad c p → id_pair T top d xs ≡ bad c p
  unfolding id_pair must judged
  unnamed c p f = bind_bad (must (meant T top d) string) _ xs (rw f)

  entered : (nm : List ℕ) (n : ℕ) (m : Meaning) → string xs ≡ ok nm n → pair_meaning T top d nm ≡ m → meaning_form m ≡ 0 → id_pair T top d xs ≡ shift n (enter_pair T nm m (drop n xs))
  unfolding id_pair
  entered nm n m f g z =
      bind_next (must (meant T top d) string) (λ nm. enter_pair T nm (pair_meaning T top d nm)) xs (must_step string xs (meant T top d) f (ap meaning_form g ∙ z))
      ∙ ap (λ (w : Meaning). shift n (enter_pair T nm w (drop n xs))) g

  never : (nm : List ℕ) (n : ℕ) → string xs ≡ ok nm n → pair_meaning T top d nm ≡ wrong 17 → id_pair T top d xs ≡ bad 17 0
  unfolding id_pair must judged meaning_form
  never nm n f g = bind_bad (must (meant T top d) string) _ xs (rw (f, g))

  -- what the opening says
  data Opens : Result Opening Refusal → Type 0 where
    bads : (c p : ℕ) → id_pair T top d xs ≡ bad c p → p ≤ length xs → Opens (refused c p)
    skips : (nm x : List ℕ) (n : ℕ) → id_pair T top d xs ≡ ok (passed false nm x, any_pair) n → Opens (Ok (Skip n))
    datas : (t a e : ℕ) → Opened T top d xs t a e → Opens (Ok (Data t a e))

  part_end : (n : ℕ) (x : List ℕ) (k : ℕ) → n ≤ length xs → declared 4 4 (drop n xs) ≡ ok x k → n + k ≤ length xs
  part_end n x k h e = omega (arith, held_took (declared 4 4) (held_declared 4 4) (drop n xs) e, length-drop n xs)

  part_is : (n : ℕ) (x : List ℕ) (k : ℕ) → declared 4 4 (drop n xs) ≡ ok x k → take (n + k - (n + 4)) (drop (n + 4) xs) ≡ x
  part_is n x k e =
      let size : k ≡ 4 + length x = declared_weight 4 4 (drop n xs) e in
      let E = ends_declared 4 4 (drop n xs) x k e in
      let l : n + k - (n + 4) ≡ length x = omega arith in
      let j : k - length x ≡ 4 = omega arith in
      rw l (ap (take (length x)) (sym (drop-drop 4 n xs)) ∙ ap (λ (i : ℕ). take (length x) (drop i (drop n xs))) (sym j) ∙ E.there)

  opens : Opens (opening T top d xs)
  unfolding opening open_by enter_as data_as data_in meant_of enter_pair mapc made shift inside enter meaning_form
  opens = go (string xs) refl
    where
      skipped : (nm : List ℕ) (n : ℕ) → string xs ≡ ok nm n → pair_meaning T top d nm ≡ skip → (r : Res (List ℕ)) → declared 4 4 (drop n xs) ≡ r → Opens (enter_as n (meant_of skip) r)
      skipped nm n f g (ok x k) h = skips nm x (n + k) (entered nm n skip f g refl ∙ rw h)
      skipped nm n f g (bad c p) h = bads c (n + p) (entered nm n skip f g refl ∙ rw h)
          (omega (arith, held_took string held_string xs f, held_refused (declared 4 4) (held_declared 4 4) (drop n xs) h, length-drop n xs))

      data_of : (nm : List ℕ) (n t : ℕ) → string xs ≡ ok nm n → pair_meaning T top d nm ≡ row t → (r : Res (List ℕ)) → declared 4 4 (drop n xs) ≡ r → Opens (enter_as n (meant_of (row t)) r)
      data_of nm n t f g (ok x k) h =
          let same : nm ≡ name_of T t = name_is T top d nm t g in
          let size : k ≡ 4 + length x = declared_weight 4 4 (drop n xs) h in
          let inner : Res (List Piece) = requireds (members_as true (Table.required_members T t)) x in
          datas t (n + 4) (n + k) (record {
            means = ap (pair_meaning T top d) (sym same) ∙ g;
            front = omega (arith, string_weight xs f, ap (λ (l : List ℕ). length (string_bytes l)) same);
            order = omega arith;
            within = part_end n x k (held_took string held_string xs f) h;
            read = entered nm n (row t) f g refl
                ∙ ap (λ (y : Res (List ℕ)). shift n (made (λ ps _. (known (name_of T t) ps, pair_of (base T t))) (enter (requireds (members_as true (Table.required_members T t))) y))) h
                ∙ shift_made (λ ps. (known (name_of T t) ps, pair_of (base T t))) n (leave (length x) k inner)
                ∙ ap (made (λ ps _. (known (name_of T t) ps, pair_of (base T t)))) (ended_sliced n k (length x) inner size)
                ∙ ap (λ (l : List ℕ). made (λ ps _. (known (name_of T t) ps, pair_of (base T t))) (ended true (n + 4) (n + k) (requireds (members_as true (Table.required_members T t)) l))) (sym (part_is n x k h));
          })
      data_of nm n t f g (bad c p) h = bads c (n + p) (entered nm n (row t) f g refl ∙ rw h)
          (omega (arith, held_took string held_string xs f, held_refused (declared 4 4) (held_declared 4 4) (drop n xs) h, length-drop n xs))

      meaning : (nm : List ℕ) (n : ℕ) → string xs ≡ ok nm n → (m : Meaning) → pair_meaning T top d nm ≡ m → Seventeen m → Opens (enter_as n (meant_of m) (declared 4 4 (drop n xs)))
      meaning nm n f skip g w = skipped nm n f g (declared 4 4 (drop n xs)) refl
      meaning nm n f (row t) g w = data_of nm n t f g (declared 4 4 (drop n xs)) refl
      meaning nm n f (wrong c) g w = bads c 0 (never nm n f (g ∙ ap wrong w) ∙ ap (λ (i : ℕ). bad i 0) (sym w)) (omega arith)

      go : (r : Res (List ℕ)) → string xs ≡ r → Opens (open_by T top d xs r)
      go (ok nm n) f = meaning nm n f (pair_meaning T top d nm) refl (pair_wrong T top d nm)
      go (bad c p) f = bads c p (unnamed c p f) (held_refused string held_string xs f)

  module _ (r : Result Opening Refusal) (q : r ≡ opening T top d xs) where
    opened_refused : (x : Refusal) → r ≡ Err x → (id_pair T top d xs ≡ bad x.number x.place) × (x.place ≤ length xs)
    opened_refused x w = go (opening T top d xs) opens (sym w ∙ q)
      where
        go : (y : Result Opening Refusal) → Opens y → Err x ≡ y → (id_pair T top d xs ≡ bad x.number x.place) × (x.place ≤ length xs)
        go y (bads c p e l) z = let f : x ≡ record { number = c; place = p } = cc in rw f (e, l)
        go y (skips nm v n e) z = let v : ◌≡◌ {A = ℕ} 0 1 = cc in absurd (omega arith)
        go y (datas t a e o) z = let v : ◌≡◌ {A = ℕ} 0 1 = cc in absurd (omega arith)

    pub opened_bad : (x : Refusal) → r ≡ Err x → id_pair T top d xs ≡ bad x.number x.place
    opened_bad x w = (opened_refused x w).0

    pub opened_place : (x : Refusal) → r ≡ Err x → x.place ≤ length xs
    opened_place x w = (opened_refused x w).1

    pub opened_skip : (n : ℕ) → r ≡ Ok (Skip n) → (nm : List ℕ) × (x : List ℕ) × (id_pair T top d xs ≡ ok (passed false nm x, any_pair) n)
    opened_skip n w = go (opening T top d xs) opens (sym w ∙ q)
      where
        go : (x : Result Opening Refusal) → Opens x → Ok (Skip n) ≡ x → (nm : List ℕ) × (x : List ℕ) × (id_pair T top d xs ≡ ok (passed false nm x, any_pair) n)
        go x (bads c p e l) z = let v : ◌≡◌ {A = ℕ} 0 1 = cc in absurd (omega arith)
        go x (skips nm y m e) z = let em : m ≡ n = cc in (nm, y, e ∙ ap (ok (passed false nm y, any_pair)) em)
        go x (datas t a e o) z = let v : ◌≡◌ {A = ℕ} 0 1 = cc in absurd (omega arith)

    pub opened_data : (t a e : ℕ) → r ≡ Ok (Data t a e) → Opened T top d xs t a e
    opened_data t a e w = go (opening T top d xs) opens (sym w ∙ q)
      where
        go : (x : Result Opening Refusal) → Opens x → Ok (Data t a e) ≡ x → Opened T top d xs t a e
        go x (bads c p f l) z = let v : ◌≡◌ {A = ℕ} 0 1 = cc in absurd (omega arith)
        go x (skips nm y n f) z = let v : ◌≡◌ {A = ℕ} 0 1 = cc in absurd (omega arith)
        go x (datas t' a' e' o) z =
            let et : t' ≡ t = cc in
            let ea : a' ≡ a = cc in
            let ee : e' ≡ e = cc in
            rw (← et, ← ea, ← ee) o
