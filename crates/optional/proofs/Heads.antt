-- A header: its first byte and long tag, its judgements, and the member that it names. Assumes nothing.
--
--   front_..     the first byte and the tag
--   under_..     a long tag under 30
--   early_..     the judgements before the look-up
--   head_..      the header, judged
use mathlib.Core.Path.{◌≡◌, refl, sym, ap, ◌∙◌}
use mathlib.Core.Bool.{Bool, true, false, ◌&&◌, not}
use mathlib.Core.Option.{none, some}
use mathlib.Core.List.{List}
use Prim.Native.Nat.{ℕ, ◌+◌, ◌-◌, ◌/◌, ◌%◌, ◌≤◌, ◌<◌}
use native.Mathlib.Omega.{arith}
use lib.ListN.{length, take, drop, length-drop}
use lib.Dec.{eqb, ltb}
use borrow.Author.Tests.{le-leb, lt-leb, lt-ltb, le-ltb, eq-eqb, ne_eqb}
use mir.Syntax.{w64}
use mir.Val.{Fits}
use Rattle.encoding.specs.Result.{Res, ok, bad, pick, shift, after, ◌>>=◌, pure, chunk, judged, must, made, mapc, first_of}
use Rattle.encoding.proofs.ResultLaws.{held_took, held_refused}
use Rattle.encoding.specs.Number.{number, byte, size}
use Rattle.encoding.proofs.NumberLaws.{held_size}
use Rattle.encoding.specs.Types.{bits, bits_of, form_of}
use Rattle.encoding.proofs.TypesLaws.{bits_there}
use Rattle.encoding.specs.Table.{at, members, Member, lookup}
use Rattle.encoding.specs.Optional.{Header, first_form, header_tail, wrong_type, header_form, header}
use Rattle.std.specs.Prelude.{Result, Ok, Err, Option, Some, None}
use Rattle.wire.specs.declared.Refusal.{Refusal}
use Rattle.wire.specs.declared.Counted.{Counted}
use Rattle.wire.specs.Steps.{sized_of, refused, counted, behind}
use Rattle.wire.specs.Put.{form_bits}
use Rattle.table.specs.declared.TaggedMember.{TaggedMember}
use Rattle.table.specs.Found.{member_found}
use Rattle.shapes.specs.Shapes.{shapes_of, form_in}
use Rattle.table.specs.Tags.{optional_from}
use Rattle.wire.specs.StepLaws.{rest_is, sized_is, sized_isnt}
use Rattle.optional.specs.declared.Front.{Front}
use Rattle.optional.specs.declared.Head.TheVariants.{Known, Unknown}
use Rattle.optional.specs.Answers.{front, fronts, front_of, early, type_of, type_row, head_for, head_of}
use Rattle.optional.proofs.Lookups.{typed, Met, met, unmet, met_bits}

-- ---- the first byte and the tag

pub front_none : (s : List ℕ) → length s < 1 → refused 4 0 ≡ front_of (front s)
unfolding front ◌>>=◌ after must judged byte number chunk front_of
front_none s h = rw (lt-leb 1 (length s) h)

module _ (s : List ℕ) (h : 1 ≤ length s) (b : ℕ) (e : b ≡ at s 1 0) (t : ℕ) (et : t ≡ b / 8) where
  pub front_unused : 31 ≤ t → refused 12 0 ≡ front_of (front s)
  unfolding front ◌>>=◌ after must judged byte number chunk first_form front_of at
  front_unused l = let g : 31 ≤ b / 8 = omega arith in rw (le-leb 1 (length s) h, ← e, le-ltb (b / 8) 31 g)

  module _ (l : t < 31) (k : ℕ) (ek : k ≡ b % 8) where
    pub front_short : (t ≡ 30 → ⊥) → fronts false t k 1 ≡ front_of (front s)
    unfolding front ◌>>=◌ after must judged byte number chunk first_form header_tail pure shift front_of at
    front_short n =
        let g : b / 8 < 31 = omega arith in
        rw (et, ek, le-leb 1 (length s) h, ← e, lt-ltb (b / 8) 31 g, ne_eqb (b / 8) 30 (λ q. n (et ∙ q)), bits_there (b % 8) (omega arith))

    module _ (z : t ≡ 30) (r : Result Counted Refusal) (er : r ≡ sized_of (size (take (length s - 1) (drop 1 s)))) where
      rest_size : r ≡ sized_of (size (drop 1 s))
      rest_size = rw (rest_is s 1) at er

      pub long_fits : (x : Counted) → r ≡ Ok x → Fits w64 (length s) → Fits w64 (1 + x.bytes)
      long_fits x q f = omega (arith, held_took size held_size (drop 1 s) (sized_is (size (drop 1 s)) x (sym q ∙ rest_size)), length-drop 1 s)

      pub long_place : (x : Refusal) → r ≡ Err x → Fits w64 (length s) → Fits w64 (1 + x.place)
      long_place x q f = omega (arith, held_refused size held_size (drop 1 s) (sized_isnt (size (drop 1 s)) x (sym q ∙ rest_size)), length-drop 1 s)

      pub front_long : (x : Counted) → r ≡ Ok x → fronts true x.number k (1 + x.bytes) ≡ front_of (front s)
      unfolding front ◌>>=◌ after must judged byte number chunk first_form header_tail mapc made shift front_of at
      front_long x q =
          let g : b / 8 < 31 = omega arith in
          rw (
            ek,
            le-leb 1 (length s) h,
            ← e,
            lt-ltb (b / 8) 31 g,
            eq-eqb (b / 8) 30 (sym et ∙ z),
            sized_is (size (drop 1 s)) x (sym q ∙ rest_size),
            bits_there (b % 8) (omega arith),
          )

      pub front_bad : (x : Refusal) → r ≡ Err x → Err (behind 1 x) ≡ front_of (front s)
      unfolding front ◌>>=◌ after must judged byte number chunk first_form header_tail mapc made shift front_of at
      front_bad x q =
          let g : b / 8 < 31 = omega arith in
          rw (le-leb 1 (length s) h, ← e, lt-ltb (b / 8) 31 g, eq-eqb (b / 8) 30 (sym et ∙ z), sized_isnt (size (drop 1 s)) x (sym q ∙ rest_size))

-- ---- judgements

module _ (long : Bool) (tag : ℕ) where
  pub under_long : long ≡ true → ltb tag 30 ≡ long && ltb tag 30
  under_long e = rw e

module _ (least : ℕ) (long : Bool) (tag k : ℕ) (u : Bool) (e : u ≡ long && ltb tag 30) where
  pub early_under : u ≡ true → 12 ≡ early least long tag k
  unfolding early first_of
  early_under q = rw (sym e ∙ q)

  module _ (n : u ≡ false) where
    pub early_low : tag < least → 12 ≡ early least long tag k
    unfolding early first_of
    early_low h = rw (sym e ∙ n, lt-ltb tag least h)

    module _ (h : least ≤ tag) where
      pub early_class : k ≡ 7 → 13 ≡ early least long tag k
      unfolding early first_of
      early_class q = rw (sym e ∙ n, le-ltb tag least h, eq-eqb k 7 q)

      pub early_fine : (k ≡ 7 → ⊥) → 0 ≡ early least long tag k
      unfolding early first_of
      early_fine q = rw (sym e ∙ n, le-ltb tag least h, ne_eqb k 7 q)

-- ---- the header

-- what an answer says of the reader's result
record Fronted (r : Res Header) (x : Front) : Type 0 where
  head : Header
  is : r ≡ ok head x.head
  long_is : head.long ≡ x.long
  tag_is : head.tag ≡ x.tag
  bits_is : bits head.type ≡ x.bits

fronted : (r : Res Header) (x : Front) → Ok x ≡ front_of r → Fronted r x
unfolding front_of
fronted (ok h m) x e =
    let q : x ≡ record { long = h.long; tag = h.tag; bits = bits h.type; head = m } = cc in
    record { head = h; is = rw q refl; long_is = rw q refl; tag_is = rw q refl; bits_is = rw q refl }
fronted (bad c p) x e = let z : ◌≡◌ {A = ℕ} 0 1 = cc in absurd (omega arith)

frontless : (r : Res Header) (x : Refusal) → Err x ≡ front_of r → r ≡ bad x.number x.place
unfolding front_of
frontless (ok h m) x e = let z : ◌≡◌ {A = ℕ} 0 1 = cc in absurd (omega arith)
frontless (bad d q) x e = let z : x ≡ record { number = d; place = q } = cc in rw z refl

module _ (ms : List Member) (least : ℕ) (h : Header) where
  split : header_form ms least h ≡ pick (eqb (early least h.long h.tag (bits h.type)) 0) (pick (wrong_type h.type (lookup h.tag ms)) 12 0) (early least h.long h.tag (bits h.type))
  unfolding header_form early first_of
  split = go (h.long && ltb h.tag 30) (ltb h.tag least) (eqb (bits h.type) 7) (wrong_type h.type (lookup h.tag ms))
    where
      go : (a b c w : Bool) → ◌≡◌ {A = ℕ} (pick a 12 (pick b 12 (pick c 13 (pick w 12 0)))) (pick (eqb (pick a 12 (pick b 12 (pick c 13 0))) 0) (pick w 12 0) (pick a 12 (pick b 12 (pick c 13 0))))
      go true b c w = refl
      go false true c w = refl
      go false false true w = refl
      go false false false w = refl

  module _ (c : ℕ) (e : c ≡ early least h.long h.tag (bits h.type)) where
    form_early : (c ≡ 0 → ⊥) → header_form ms least h ≡ c
    form_early n = split ∙ rw (← e, ne_eqb c 0 n)

    form_late : c ≡ 0 → header_form ms least h ≡ pick (wrong_type h.type (lookup h.tag ms)) 12 0
    form_late z = split ∙ rw (← e, z)

module _ (ms : List Member) (least : ℕ) (s : List ℕ) (x : Front) (F : Fronted (front s) x) where
  early_same : (c : ℕ) → c ≡ early least x.long x.tag x.bits → c ≡ early least F.head.long F.head.tag (bits F.head.type)
  early_same c e = rw (F.long_is, F.tag_is, F.bits_is) e

  header_fine : header_form ms least F.head ≡ 0 → header ms least s ≡ ok F.head x.head
  unfolding header must judged front
  header_fine z = rw (F.is, z)

  header_wrong : (c : ℕ) → (c ≡ 0 → ⊥) → header_form ms least F.head ≡ c → header ms least s ≡ bad c 0
  unfolding header must judged front
  header_wrong c z e = rw (F.is, e, ne_eqb c 0 z)

module _ (T : List ℕ) (end from least : ℕ) (s : List ℕ) (f : Result Front Refusal) (e : f ≡ front_of (front s)) where
  pub head_none : (y : Refusal) → f ≡ Err y → Err y ≡ head_of T (optional_from T end from) (header (optional_from T end from) least s)
  unfolding header must judged front head_of
  head_none y q = rw (frontless (front s) y (sym q ∙ e))

  module _ (x : Front) (q : f ≡ Ok x) (c : ℕ) (ec : c ≡ early least x.long x.tag x.bits) where
    pub head_early : (c ≡ 0 → ⊥) → refused c 0 ≡ head_of T (optional_from T end from) (header (optional_from T end from) least s)
    unfolding head_of
    head_early z = go (fronted (front s) x (sym q ∙ e))
      where
        go : Fronted (front s) x → refused c 0 ≡ head_of T (optional_from T end from) (header (optional_from T end from) least s)
        go F =
            let g = early_same (optional_from T end from) least s x F c ec in
            sym (ap (head_of T (optional_from T end from)) (header_wrong (optional_from T end from) least s x F c z (form_early (optional_from T end from) least F.head c g z)))

    module _ (z : c ≡ 0) (found : Option TaggedMember) (ef : found ≡ member_found T (lookup x.tag (optional_from T end from))) where
      pub head_unknown : found ≡ None → Ok (Unknown x.tag x.bits x.head) ≡ head_of T (optional_from T end from) (header (optional_from T end from) least s)
      unfolding head_of head_for wrong_type
      head_unknown qf = go (fronted (front s) x (sym q ∙ e))
        where
          go : Fronted (front s) x → Ok (Unknown x.tag x.bits x.head) ≡ head_of T (optional_from T end from) (header (optional_from T end from) least s)
          go F =
              let g = early_same (optional_from T end from) least s x F c ec in
              let lost : lookup F.head.tag (optional_from T end from) ≡ none = ap (λ (i : ℕ). lookup i (optional_from T end from)) F.tag_is ∙ unmet T end from x.tag (sym qf ∙ ef) in
              let fine : header_form (optional_from T end from) least F.head ≡ 0 = form_late (optional_from T end from) least F.head c g z ∙ rw lost in
              sym (ap (head_of T (optional_from T end from)) (header_fine (optional_from T end from) least s x F fine) ∙ rw (lost, F.tag_is, F.bits_is))

      module _ (m : TaggedMember) (qf : found ≡ Some m) (all : ℕ) (en : all ≡ members T) (ty : ℕ) (et : ty ≡ type_of all m.member m.of) (shapes : List ℕ) (ea : shapes ≡ shapes_of T)
          (g : ℕ) (eg : g ≡ form_in shapes ty) (b : ℕ) (eb : b ≡ form_bits g) where
        row_is : Met T end from x.tag m.member m.of → ty ≡ type_row T m.member
        row_is M = typed T m.member all m.of ty en M.of_is et

        -- the judgement of the type
        type_form : (F : Fronted (front s) x) (M : Met T end from x.tag m.member m.of)
            → header_form (optional_from T end from) least F.head ≡ pick (not (eqb x.bits b)) 12 0
        unfolding wrong_type
        type_form F M =
            let there : lookup F.head.tag (optional_from T end from) ≡ some M.member = ap (λ (i : ℕ). lookup i (optional_from T end from)) F.tag_is ∙ M.there in
            let same : b ≡ bits (bits_of (form_of M.member.ty)) = eb ∙ met_bits T shapes end from x.tag m.member m.of ty g M ea (row_is M) eg in
            form_late (optional_from T end from) least F.head c (early_same (optional_from T end from) least s x F c ec) z ∙ rw (there, F.bits_is, ← same)

        pub head_known : x.bits ≡ b → Ok (Known m.member ty x.tag x.head g) ≡ head_of T (optional_from T end from) (header (optional_from T end from) least s)
        unfolding head_of head_for
        head_known y = go (fronted (front s) x (sym q ∙ e)) (met T end from x.tag m.member m.of (sym qf ∙ ef))
          where
            go : Fronted (front s) x → Met T end from x.tag m.member m.of → Ok (Known m.member ty x.tag x.head g) ≡ head_of T (optional_from T end from) (header (optional_from T end from) least s)
            go F M =
                let there : lookup F.head.tag (optional_from T end from) ≡ some M.member = ap (λ (i : ℕ). lookup i (optional_from T end from)) F.tag_is ∙ M.there in
                let fine : header_form (optional_from T end from) least F.head ≡ 0 = type_form F M ∙ rw (eq-eqb x.bits b y) in
                sym (ap (head_of T (optional_from T end from)) (header_fine (optional_from T end from) least s x F fine) ∙ rw (there, F.tag_is, M.is, ← row_is M, ← ea, ← eg))

        pub head_other : (x.bits ≡ b → ⊥) → refused 12 0 ≡ head_of T (optional_from T end from) (header (optional_from T end from) least s)
        unfolding head_of
        head_other y = go (fronted (front s) x (sym q ∙ e)) (met T end from x.tag m.member m.of (sym qf ∙ ef))
          where
            go : Fronted (front s) x → Met T end from x.tag m.member m.of → refused 12 0 ≡ head_of T (optional_from T end from) (header (optional_from T end from) least s)
            go F M = sym (ap (head_of T (optional_from T end from)) (header_wrong (optional_from T end from) least s x F 12 (λ i. omega arith) (type_form F M ∙ rw (ne_eqb x.bits b y))))
