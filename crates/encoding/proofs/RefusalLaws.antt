-- Every refusal in what an encapsulation holds is one of those for its encoding: 4, 7 to 11, 17, 18 or 24; in 1.1 also 12 to 16, in 1.0 also 25.
--
--   Told old r         r is no refusal, or one of these
--   Refuses old p      each refusal of p is one of these
--   refuses            each way of joining readers keeps this
--   OldRefused, old_refused   a refusal in 1.0: a number of both encodings, or 25 at the header byte
--   refuses_rest       of what an encapsulation holds, to its end, under any table
use Rattle.std.proofs.Math.Path.{◌≡◌, refl, ap}
use Rattle.std.proofs.Common.{sym, ◌∙◌, subst}
use Rattle.std.specs.Prelude.{Bool, ◌||◌, List, [], ◌∷◌, length, drop, leb}
use Rattle.std.proofs.Math.Bool.{true, false}
use Rattle.std.proofs.Math.Option.{Option, none, some}
use Prim.Native.Nat.{ℕ, zero, suc}
use Rattle.std.proofs.Math.ListN.{take}
use Rattle.std.proofs.Math.Dec.{eqb}
use Rattle.std.proofs.lemmas.Bool.{eqb-false}
use Rattle.encoding.specs.Result.{Res, ok, bad, Parser, pick, shift, after, ◌>>=◌, pure, fail, chunk, at_first, item, judged, must, made, mapc, bytes, recalled, recall, leave, enter, inside, turn, many}
use Rattle.encoding.proofs.ResultLaws.{Closed, of_contents, Judges, chunk_ok, BindRefused, at_first_lem, at_next, bind_refused, MustRefused, by_reader, by_judge, must_refused}
use Rattle.encoding.specs.Number.{val, number, byte}
use Rattle.encoding.proofs.NumberLaws.{closed_byte}
use Rattle.encoding.specs.Table.{kind, Member, required_members}
use Rattle.encoding.specs.Optional.{requireds}
use Rattle.encoding.proofs.OptionalLaws.{closed_requireds}
use Rattle.encoding.specs.Old.{members_as, lead_form, id_pairs}
use Rattle.encoding.proofs.OldLaws.{closed_id_pairs}
use Rattle.encoding.proofs.MessageLaws.{closed_rest}
use Rattle.encoding.specs.Message.{list, exception, v10, Read, contents, old_contents, ended}

abbrev pub Told : {A : Type 0} → Bool → Res A → Type 0
Told old (ok a n) = Unit {0}
Told old (bad c p) = of_contents old c ≡ true

abbrev pub Refuses : {A : Type 0} → Bool → Parser A → Type 0
Refuses old p = (xs : List ℕ) → Told old (p xs)

-- ---- by each way to join readers

module _ (old : Bool) where
  told_shift : {A : Type 0} (n : ℕ) (r : Res A) → Told old r → Told old (shift n r)
  unfolding shift
  told_shift n (ok a m) h = tt
  told_shift n (bad c p) h = h

  refuses_bind : {A B : Type 0} (p : Parser A) (f : A → Parser B) → Refuses old p → ((a : A) → Refuses old (f a)) → Refuses old (p >>= f)
  unfolding ◌>>=◌ after
  refuses_bind {A} p f P F xs = go (p xs) (P xs)
    where
      go : (r : Res A) → Told old r → Told old (after r f xs)
      go (ok a n) h = told_shift n (f a (drop n xs)) (F a (drop n xs))
      go (bad c q) h = h

  refuses_pure : {A : Type 0} (a : A) → Refuses old (pure a)
  unfolding pure
  refuses_pure a xs = tt

  refuses_fail : (A : Type 0) (c : ℕ) → of_contents old c ≡ true → Refuses old (fail {A = A} c)
  unfolding fail
  refuses_fail A c h xs = h

  refuses_chunk : {A : Type 0} (k : ℕ) (f : List ℕ → A) → Refuses old (chunk k f)
  unfolding chunk
  refuses_chunk k f xs = go (leb k (length xs))
    where
      go : (t : Bool) → Told old (pick t (ok (f (take k xs)) k) (bad 4 0))
      go true = tt
      go false = refl

  module _ {A : Type 0} (p : Parser A) (P : Refuses old p) where
    refuses_item : Refuses old (item p)
    unfolding item at_first
    refuses_item xs = go (p xs) (P xs)
      where
        go : (r : Res A) → Told old r → Told old (at_first r)
        go (ok a n) h = tt
        go (bad c q) h = h

    refuses_recall : (k : ℕ) → Refuses old (recall k p)
    unfolding recall recalled
    refuses_recall k xs = go (p xs) (P xs)
      where
        go₂ : (c q : ℕ) (t : Bool) → of_contents old c ≡ true → Told old (pick {X = Res A} t (bad c 0) (bad c q))
        go₂ c q true h = h
        go₂ c q false h = h

        go : (r : Res A) → Told old r → Told old (recalled k r)
        go (ok a n) h = tt
        go (bad c q) h = go₂ c q (eqb c k) h

    -- a judgement gives numbers of the table
    refuses_must : (f : A → ℕ) → ((a : A) → Judges old (f a)) → Refuses old (must f p)
    unfolding must judged
    refuses_must f judges xs = go (p xs) (P xs)
      where
        go₂ : (a : A) (n : ℕ) (t : Bool) → eqb (f a) 0 ≡ t → Told old (pick t (ok a n) (bad (f a) 0))
        go₂ a n true e = tt
        go₂ a n false e = ap (λ (b : Bool). b || of_contents old (f a)) (sym e) ∙ judges a

        go : (r : Res A) → Told old r → Told old (judged f r)
        go (ok a n) h = go₂ a n (eqb (f a) 0) refl
        go (bad c q) h = h

    told_made : {B : Type 0} (f : A → ℕ → B) (r : Res A) → Told old r → Told old (made f r)
    unfolding made
    told_made f (ok a n) h = tt
    told_made f (bad c q) h = h

    refuses_mapc : {B : Type 0} (f : A → ℕ → B) → Refuses old (mapc f p)
    unfolding mapc
    refuses_mapc f xs = told_made f (p xs) (P xs)

    refuses_bytes : Refuses old (bytes p)
    unfolding bytes
    refuses_bytes xs = told_made (λ _ n. take n xs) (p xs) (P xs)

  refuses_inside : {B : Type 0} (p : Parser (List ℕ)) (q : Parser B) → Refuses old p → Refuses old q → Refuses old (inside p q)
  unfolding inside enter leave
  refuses_inside {B} p q P Q xs = go (p xs) (P xs)
    where
      go₃ : (b : B) (n : ℕ) (t : Bool) → Told old (pick t (ok b n) (bad 11 0))
      go₃ b n true = tt
      go₃ b n false = refl

      go₂ : (l n : ℕ) (r : Res B) → Told old r → Told old (leave l n r)
      go₂ l n (ok b m) h = go₃ b n (eqb m l)
      go₂ l n (bad c m) h = h

      go : (r : Res (List ℕ)) → Told old r → Told old (enter q r)
      go (ok d n) h = go₂ (length d) n (q d) (Q d)
      go (bad c m) h = h

  told_turn : {A : Type 0} (o : Option ℕ) (r : Res (List A)) → Told old r → Told old (turn o r)
  unfolding turn
  told_turn (some k) r h = tt
  told_turn none r h = h

  refuses_many : {S A : Type 0} (stop : List ℕ → Option ℕ) (p : S → Parser (A × S)) → ((s : S) → Refuses old (p s)) → (f : ℕ) (s : S) → Refuses old (many stop p f s)
  unfolding many
  refuses_many stop p P zero s xs = told_turn (stop xs) (bad 4 0) refl
  refuses_many {S} {A} stop p P (suc f) s xs =
      told_turn (stop xs) _ (refuses_bind (p s) (λ (r : A × S). mapc (λ l _. r.0 ∷ l) (many stop p f r.1)) (P s) (λ r. refuses_mapc (many stop p f r.1) (refuses_many stop p P f r.1) (λ l _. r.0 ∷ l)) xs)

  refuses : Closed old (λ A p. Refuses {A = A} old p) (λ stop. Unit {0})
  refuses = record {
    by_bind = refuses_bind;
    by_pure = refuses_pure;
    by_fail = refuses_fail;
    by_chunk = refuses_chunk;
    by_item = refuses_item;
    by_recall = refuses_recall;
    by_must = refuses_must;
    by_mapc = λ p x f. refuses_mapc p x f;
    by_bytes = refuses_bytes;
    by_inside = λ p q x e y. refuses_inside p q x y;
    by_many = λ stop p s x e f t. refuses_many stop p x f t;
    by_fuel = λ w x h xs. x (length xs) xs;
  }

-- ---- messages

told_ended : (old : Bool) {A : Type 0} (a : A) (xs : List ℕ) → Told old (ended a xs)
unfolding ended
told_ended old a [] = tt
told_ended old a (x ∷ xs) = refl

pub refuses_rest : (T : List ℕ) (top : ℕ) → Refuses false (contents T top >>= ended)
refuses_rest T top = closed_rest (refuses false) tt tt T top (told_ended false)

-- what refuses an old encapsulation's contents: a number that both encodings have, or 25 at the header byte
pub data OldRefused (T : List ℕ) (top : ℕ) (xs : List ℕ) (c q : ℕ) : Type 0 where
  shared : of_contents true c ≡ true → of_contents false c ≡ true → OldRefused T top xs c q
  by_lead : c ≡ 25 → q ≡ 0 → (kind T top ≡ 15 → ⊥) → (take 1 xs ≡ 0 ∷ [] → ⊥) → OldRefused T top xs c q

module _ (T : List ℕ) (top : ℕ) (xs : List ℕ) where
  told_both : {A : Type 0} (p : Parser A) (ys : List ℕ) → Refuses true p → Refuses false p → {c q k : ℕ} → p ys ≡ bad c q → OldRefused T top xs c k
  told_both {A} p ys R S {c} {q} e = shared (subst (λ (r : Res A). Told true r) e (R ys)) (subst (λ (r : Res A). Told false r) e (S ys))

  pairs_p : ℕ → Parser Read
  pairs_p _ = mapc (λ ss _. record { format = v10; pieces = exception ss }) (id_pairs T top)

  refuses_pairs : (old : Bool) (b : ℕ) → Refuses old (pairs_p b)
  unfolding pairs_p
  refuses_pairs old b = refuses_mapc old (id_pairs T top) (closed_id_pairs (refuses old) T top) _

  pub old_refused : {c q : ℕ} → (old_contents T top >>= ended) xs ≡ bad c q → OldRefused T top xs c q
  unfolding old_contents lead_form byte number val pairs_p
  old_refused {c} {q} h = whole (bind_refused (old_contents T top) ended xs h)
    where
      lead : MustRefused byte lead_form xs c q → (kind T top ≡ 15 → ⊥) → OldRefused T top xs c q
      lead (by_reader e) n = told_both byte xs (closed_byte (refuses true)) (closed_byte (refuses false)) e
      lead (by_judge {a = b} e j z w) n = by_lead (sym j ∙ other (eqb b 0) z) w n (λ t. z (rw ((chunk_ok 1 val xs e).1, t)))
        where
          other : (b : Bool) → (◌≡◌ {A = ℕ} (pick b 0 25) 0 → ⊥) → ◌≡◌ {A = ℕ} (pick b 0 25) 25
          other true z = absurd (z refl)
          other false z = refl

      pairs : (kind T top ≡ 15 → ⊥) → BindRefused (must lead_form byte) pairs_p xs c q → OldRefused T top xs c q
      pairs n (at_first_lem e) = lead (must_refused byte lead_form xs e) n
      pairs n (at_next {a = b} {n = k} e i w) = told_both (pairs_p b) (drop k xs) (refuses_pairs true b) (refuses_pairs false b) i

      contents_of : (b : Bool) → eqb (kind T top) 15 ≡ b
          → pick b (mapc (λ ps _. record { format = v10; pieces = list ps }) (requireds (members_as true (required_members T top)))) (must lead_form byte >>= pairs_p) xs ≡ bad c q → OldRefused T top xs c q
      contents_of true e h =
          let ms : List Member = members_as true (required_members T top) in
          told_both (mapc (λ ps _. record { format = v10; pieces = list ps }) (requireds ms)) xs (refuses_mapc true (requireds ms) (closed_requireds (refuses true) ms) (λ ps _. record { format = v10; pieces = list ps }))
          (refuses_mapc false (requireds ms) (closed_requireds (refuses false) ms) (λ ps _. record { format = v10; pieces = list ps })) h
      contents_of false e h = pairs (eqb-false (kind T top) 15 e) (bind_refused (must lead_form byte) pairs_p xs h)

      whole : BindRefused (old_contents T top) ended xs c q → OldRefused T top xs c q
      whole (at_first_lem e) = contents_of (eqb (kind T top) 15) refl e
      whole (at_next {a = r} {n = k} e i w) = told_both (ended r) (drop k xs) (told_ended true r) (told_ended false r) i
