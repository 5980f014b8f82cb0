-- The member view: the rows of a walk are read back from its list, and a part lies in the message. Assumes nothing.
--
--   Seeks, seeks_..                                   the loop that looks for a member in a list
--   look_refused                                      the table, the top or the message is refused
--   look_few, look_seen, look_inside, look_other      what the view answers of an accepted message
--   nothing_inside, refused_inside                    no part, so none outside the message
--   part_seen, fallback_seen, nothing_seen, refused_seen   the bytes returned
use mathlib.Core.Path.{◌≡◌, refl, sym, ap, ◌∙◌}
use mathlib.Core.Bool.{Bool, true, false}
use mathlib.Core.List.{List, [], ◌∷◌, ◌++◌, map}
use Prim.Native.Nat.{ℕ, ◌+◌, ◌-◌, ◌*◌, ◌≤◌, ◌<◌, min}
use native.Mathlib.Nat.{sub-zero}
use native.Mathlib.Omega.{arith}
use lib.ListN.{length, take, drop}
use lib.Dec.{eqb}
use borrow.Author.Tests.{eq-eqb, ne_eqb}
use Rattle.encoding.specs.Result.{Res, ok, bad, pick, concat}
use Rattle.encoding.specs.Table.{at, members, range, any, takes, chain}
use Rattle.encoding.specs.Message.{Encoding, Read, rules, Row, rows, row_bytes, first_known}
use Rattle.encoding.specs.Write.{row_at}
use Rattle.encoding.specs.View.{Seen, part, fallback, nothing, row_of, of_chain, seen, viewing, seen_bytes}
use Rattle.table.proofs.Ranges.{range_more, range_none}
use Rattle.slices.specs.Walks.{body_walk, read_done}
use Rattle.slices.specs.declared.Walk.{Walk}
use Rattle.slices.specs.declared.Walk.TheVariants.{Done, Stop}
use Rattle.laws.proofs.Refusals.{refusal_numbered, rules_refused}
use Rattle.laws.specs.Demands.{All, end, more, RowExact}
use Rattle.laws.proofs.MessageExact.{exact_rows}
use Rattle.laws.proofs.Small.{accepted_small}
use Rattle.laws.proofs.RowsBack.{rows_back, accepted_rows_small}
use Rattle.reading.specs.Told.{Walked, low}
use Rattle.reading.proofs.Telling.{rows_put}
use Rattle.view.specs.Views.{view_of, view_answer_of, view_answer, PartInside}
use Rattle.view.specs.declared.View.{View}
use Rattle.view.specs.declared.View.TheVariants.{Part, Fallback, Nothing, Refused}

-- ---- the loop over rows

-- the rows from i on decide the answer
pub record Seeks (list : List ℕ) (member n i : ℕ) : Type 0 where
  pub inside : i ≤ n
  pub few : n ≤ 1024
  pub rest : row_of member (map (row_at list) (range 0 n)) ≡ row_of member (map (row_at list) (range i (n - i)))

pub seeks_begin : (list : List ℕ) (member n : ℕ) → n ≤ 1024 → Seeks list member n 0
seeks_begin list member n h = record { inside = omega arith; few = h; rest = rw sub-zero }

module _ (list : List ℕ) (member n i : ℕ) (S : Seeks list member n i) where
  pub seeks_end : n ≤ i → Fallback ≡ view_of (row_of member (map (row_at list) (range 0 n)))
  unfolding view_of row_of
  seeks_end h = sym (ap view_of S.rest ∙ ap (λ (l : List ℕ). view_of (row_of member (map (row_at list) l))) (range_none i n h))

  module _ (h : i < n) (a : ℕ) (ea : a ≡ at list 4 (12 * i)) where
    turn : row_of member (map (row_at list) (range 0 n)) ≡ row_of member (row_at list i ∷ map (row_at list) (range (i + 1) (n - (i + 1))))
    turn = S.rest ∙ ap (λ (l : List ℕ). row_of member (map (row_at list) l)) (range_more i n h)

    pub seeks_here : member ≡ a → (p l : ℕ) → p ≡ at list 4 (12 * i + 4) → l ≡ at list 4 (12 * i + 8) → Part p l ≡ view_of (row_of member (map (row_at list) (range 0 n)))
    unfolding view_of row_of row_at
    seeks_here q p l ep el =
        let found : Part p l ≡ Part (at list 4 (12 * i + 4)) (at list 4 (12 * i + 8)) = cc in
        found ∙ sym (ap view_of turn ∙ rw (eq-eqb member (at list 4 (12 * i)) (q ∙ ea)))

    pub seeks_next : (member ≡ a → ⊥) → Seeks list member n (i + 1)
    unfolding row_of row_at
    seeks_next q = record {
      inside = omega arith;
      few = S.few;
      rest = turn ∙ rw (ne_eqb member (at list 4 (12 * i)) (λ e. q (e ∙ sym ea)));
    }

-- ---- what a walk says of a member

-- a part lies in the message
row_within : (T m : List ℕ) (f : Encoding) (member : ℕ) {rs : List Row} → All (RowExact T m f) rs → (p l : ℕ) → row_of member rs ≡ part p l → p + l ≤ length m
unfolding row_of
row_within T m f member end p l h = let z : ◌≡◌ {A = ℕ} 0 1 = cc in absurd (omega arith)
row_within T m f member (more {a = r} {l = rs} E L) p l h = go (eqb member r.member) h (λ x. row_within T m f member L p l x)
  where
    go : (b : Bool) → pick b (part r.place r.len) (row_of member rs) ≡ part p l → (row_of member rs ≡ part p l → p + l ≤ length m) → p + l ≤ length m
    go true h next = let ep : r.place ≡ p = cc in let el : r.len ≡ l = cc in omega (arith, E.inside)
    go false h next = next h

-- an accepted message, with the numbers that its walk gives
record Taken (T : List ℕ) (top : ℕ) (m : List ℕ) (first n : ℕ) : Type 0 where
  rd : Read
  end : ℕ
  accepted : rules T top m ≡ ok rd end
  known : first ≡ first_known T top rd.pieces
  count : n ≡ length (rows T top rd.format rd.pieces)

-- a message that the rules refuse: number and place fit 32 bits
rules_bad : (T : List ℕ) (top : ℕ) (m : List ℕ) (c q : ℕ) → rules T top m ≡ bad c q → (i j : ℕ) → i ≡ low c → j ≡ low q → (member : ℕ) → Refused i j ≡ view_answer T top m member
unfolding view_answer view_answer_of
rules_bad T top m c q e i j ei ej member =
    let N = refusal_numbered (rules_refused T top m e) in
    let fc : i ≡ c = omega (arith, ei, N.known_number) in
    let fq : j ≡ q = omega (arith, ej, N.small_place) in
    let it : Refused i j ≡ Refused c q = cc in
    it ∙ sym (ap (view_answer_of T top member) e)

module _ (T : List ℕ) (top : ℕ) (m list last : List ℕ) (w : Walk) (W : Walked T top m w list last) where
  module _ (t g n o s e : ℕ) (q : w ≡ Done t g n o s e) where
    taken : Taken T top m t n
    unfolding body_walk read_done
    taken = go (rules T top m) refl (sym q ∙ W.says)
      where
        go : (r : Res Read) → rules T top m ≡ r → Done t g n o s e ≡ body_walk T top r → Taken T top m t n
        go (ok rd x) z h = record { rd = rd; end = x; accepted = z; known = cc; count = cc }
        go (bad c p) z h = let z : ◌≡◌ {A = ℕ} 0 1 = cc in absurd (omega arith)

    pub look_few : n ≤ 1024
    look_few = let K = taken in let S = accepted_small T top m K.rd.format K.rd.pieces K.end W.bytes K.accepted in omega (arith, S.count, K.count)

    module _ (member : ℕ) (b : Bool) (eb : b ≡ any (λ o. takes T o member) (chain T t)) where
      judged : (v : Bool) → b ≡ v → viewing T top m member ≡ pick v (row_of member (rows T top taken.rd.format taken.rd.pieces)) nothing
      unfolding viewing seen of_chain
      judged v x = go taken
        where
          go : (K : Taken T top m t n) → seen T top member (rules T top m) ≡ pick v (row_of member (rows T top K.rd.format K.rd.pieces)) nothing
          go K =
              let c : of_chain T (first_known T top K.rd.pieces) member ≡ v = ap (λ (i : ℕ). any (λ o. takes T o member) (chain T i)) (sym K.known) ∙ sym eb ∙ x in
              ap (seen T top member) K.accepted ∙ ap (λ (z : Bool). pick z (row_of member (rows T top K.rd.format K.rd.pieces)) nothing) c

      -- no refusal
      answers : view_answer T top m member ≡ view_of (viewing T top m member)
      unfolding view_answer view_answer_of viewing
      answers = go taken
        where
          go : Taken T top m t n → view_answer_of T top member (rules T top m) ≡ view_of (seen T top member (rules T top m))
          go K = ap (view_answer_of T top member) K.accepted ∙ sym (ap (λ (r : Res Read). view_of (seen T top member r)) K.accepted)

      pub look_other : b ≡ false → Nothing ≡ view_answer T top m member
      unfolding view_of
      look_other x = sym (answers ∙ ap view_of (judged false x))

      module _ (x : b ≡ true) (room : 12 * min (members T) 1024 ≤ length list) (v : View) (ev : v ≡ view_of (row_of member (map (row_at last) (range 0 n)))) where
        back : v ≡ view_of (row_of member (rows T top taken.rd.format taken.rd.pieces))
        back = ev ∙ ap (λ (l : List Row). view_of (row_of member l)) (go taken)
          where
            go : (K : Taken T top m t n) → map (row_at last) (range 0 n) ≡ rows T top K.rd.format K.rd.pieces
            go K =
                let rs : List Row = rows T top K.rd.format K.rd.pieces in
                let S = accepted_rows_small T top m K.rd.format K.rd.pieces K.end W.bytes K.accepted in
                let few = accepted_small T top m K.rd.format K.rd.pieces K.end W.bytes K.accepted in
                let f : last ≡ concat row_bytes rs ++ drop (12 * length rs) list = W.lays K.rd K.end K.accepted ∙ rows_put rs list (omega (arith, few.count, few.owned)) in
                ap (λ (i : ℕ). map (row_at last) (range 0 i)) K.count ∙ rows_back S last (drop (12 * length rs) list) f

        pub look_seen : v ≡ view_answer T top m member
        look_seen = back ∙ ap view_of (sym (judged true x)) ∙ sym answers

        pub look_inside : PartInside (length m) v
        unfolding view_of
        look_inside = record { inside = λ p l q. go taken p l (sym q ∙ back) }
          where
            go₂ : (y : Seen) (p l : ℕ) → Part p l ≡ view_of y → y ≡ part p l
            go₂ (part i j) p l h = cc
            go₂ fallback p l h = let z : ◌≡◌ {A = ℕ} 0 1 = cc in absurd (omega arith)
            go₂ nothing p l h = let z : ◌≡◌ {A = ℕ} 0 1 = cc in absurd (omega arith)

            go : (K : Taken T top m t n) (p l : ℕ) → Part p l ≡ view_of (row_of member (rows T top K.rd.format K.rd.pieces)) → p + l ≤ length m
            go K p l h =
                row_within T m K.rd.format member (exact_rows T top m K.rd.format K.rd.pieces K.end W.bytes K.accepted) p l (go₂ _ p l h)

  module _ (c q : ℕ) (e : w ≡ Stop c q) where
    pub look_refused : (i j : ℕ) → i ≡ low c → j ≡ low q → (member : ℕ) → Refused i j ≡ view_answer T top m member
    unfolding body_walk read_done
    look_refused = rules_bad T top m c q (go (rules T top m) (sym e ∙ W.says))
      where
        go : (r : Res Read) → Stop c q ≡ body_walk T top r → r ≡ bad c q
        go (ok rd x) h = let z : ◌≡◌ {A = ℕ} 0 1 = cc in absurd (omega arith)
        go (bad d x) h = let ed : d ≡ c = cc in let ex : x ≡ q = cc in rw (ed, ex)

pub refused_inside : (l c q : ℕ) → PartInside l (Refused c q)
refused_inside l c q = record { inside = λ p n e. let z : ◌≡◌ {A = ℕ} 0 1 = cc in absurd (omega arith) }

pub nothing_inside : (l : ℕ) → PartInside l Nothing
nothing_inside l = record { inside = λ p n q. let z : ◌≡◌ {A = ℕ} 0 1 = cc in absurd (omega arith) }

-- ---- the bytes returned

module _ (T : List ℕ) (top : ℕ) (m other : List ℕ) (member : ℕ) (v : View) (ev : v ≡ view_answer T top m member) where
  -- what the view returns where it refuses nothing
  returned : (u : View) → v ≡ u → ((c p : ℕ) → u ≡ Refused c p → ⊥) → u ≡ view_of (viewing T top m member)
  unfolding view_answer view_answer_of viewing
  returned u q none = go (rules T top m) (sym q ∙ ev)
    where
      go : (r : Res Read) → u ≡ view_answer_of T top member r → u ≡ view_of (seen T top member r)
      go (ok rd n) h = h
      go (bad c p) h = absurd (none c p h)

  pub part_seen : (p n : ℕ) → v ≡ Part p n → take (p + n - p) (drop p m) ≡ seen_bytes m other (viewing T top m member)
  unfolding view_of seen_bytes
  part_seen p n q = go (viewing T top m member) (returned (Part p n) q (λ c p e. let z : ◌≡◌ {A = ℕ} 0 1 = cc in omega arith))
    where
      go : (y : Seen) → Part p n ≡ view_of y → take (p + n - p) (drop p m) ≡ seen_bytes m other y
      go (part i j) h =
          let ei : p ≡ i = cc in
          let ej : p + n - p ≡ j = let e : n ≡ j = cc in omega arith in
          rw (ej, ei)
      go fallback h = let z : ◌≡◌ {A = ℕ} 0 1 = cc in absurd (omega arith)
      go nothing h = let z : ◌≡◌ {A = ℕ} 0 1 = cc in absurd (omega arith)

  pub fallback_seen : v ≡ Fallback → other ≡ seen_bytes m other (viewing T top m member)
  unfolding view_of seen_bytes
  fallback_seen q = go (viewing T top m member) (returned Fallback q (λ c p e. let z : ◌≡◌ {A = ℕ} 0 1 = cc in omega arith))
    where
      go : (y : Seen) → Fallback ≡ view_of y → other ≡ seen_bytes m other y
      go (part i j) h = let z : ◌≡◌ {A = ℕ} 0 1 = cc in absurd (omega arith)
      go fallback h = refl
      go nothing h = let z : ◌≡◌ {A = ℕ} 0 1 = cc in absurd (omega arith)

  pub nothing_seen : v ≡ Nothing → [] ≡ seen_bytes m other (viewing T top m member)
  unfolding view_of seen_bytes
  nothing_seen q = go (viewing T top m member) (returned Nothing q (λ c p e. let z : ◌≡◌ {A = ℕ} 0 1 = cc in omega arith))
    where
      go : (y : Seen) → Nothing ≡ view_of y → [] ≡ seen_bytes m other y
      go (part i j) h = let z : ◌≡◌ {A = ℕ} 0 1 = cc in absurd (omega arith)
      go fallback h = let z : ◌≡◌ {A = ℕ} 0 1 = cc in absurd (omega arith)
      go nothing h = refl

  pub refused_seen : (c p : ℕ) → v ≡ Refused c p → [] ≡ seen_bytes m other (viewing T top m member)
  unfolding view_of seen_bytes view_answer view_answer_of viewing seen
  refused_seen c p q = go (rules T top m) (sym q ∙ ev)
    where
      other_case : (y : Seen) → Refused c p ≡ view_of y → [] ≡ seen_bytes m other y
      other_case (part i j) h = let z : ◌≡◌ {A = ℕ} 0 1 = cc in absurd (omega arith)
      other_case fallback h = let z : ◌≡◌ {A = ℕ} 0 1 = cc in absurd (omega arith)
      other_case nothing h = let z : ◌≡◌ {A = ℕ} 0 1 = cc in absurd (omega arith)

      go : (r : Res Read) → Refused c p ≡ view_answer_of T top member r → [] ≡ seen_bytes m other (seen T top member r)
      go (ok rd n) h = other_case (seen T top member (ok rd n)) h
      go (bad d i) h = refl
