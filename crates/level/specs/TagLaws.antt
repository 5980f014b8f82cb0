-- The next optional is read alike if its tag is looked up only after the members that were passed: a tag below the least is refused before it is looked up. Assumes nothing.
--
--   answer_alike     of members among which every tag from the least on is looked up alike
--   passed_answer    of all optional members of a row, and of those after the passed
--   member_tag       the member of a known optional has its tag
--   member_begun, member_within   it is one of the row's members
use Rattle.std.specs.Prelude.{◌≡◌, Bool, true, false, ◌&&◌, drop, eqb}
use Rattle.std.proofs.Math.Path.{refl}
use Rattle.std.proofs.Common.{sym, ap, ◌∙◌, arith, ltb-false}
use Rattle.std.proofs.Math.Option.{Option, none, some}
use mathlib.Core.List.{List}
use Prim.Native.Nat.{ℕ, suc, ◌+◌, ◌≤◌, ◌<◌}
use Rattle.std.proofs.Math.Dec.{ltb}
use Rattle.encoding.specs.Result.{Res, ok, bad, pick, shift, after, ◌>>=◌, judged, must, made, mapc, bytes, inside, first_of}
use Rattle.encoding.specs.Types.{bits, Form, form_of}
use Rattle.encoding.specs.Value.{value}
use Rattle.encoding.specs.Table.{field, tag, Member, lookup}
use Rattle.encoding.specs.Table
use Rattle.encoding.specs.Optional.{optional, skipped, Header, wrong_type, header_form, header, extent, part, content, next_optional}
use Rattle.table.specs.Tags.{optional_from, Passed}
use Rattle.table.specs.TagsLaws.{optional_own, passed_lookup}
use Rattle.optional.specs.Answers.{front}
use Rattle.level.specs.Answers.{piece_answer, optional_answer}
use Rattle.level.specs.AnswersLaws.{header_rises, KnownRead}

module _ (ms ns : List Member) (least : ℕ) (alike : (k : ℕ) → least ≤ k → lookup k ms ≡ lookup k ns) where
  form_alike : (h : Header) → header_form ms least h ≡ header_form ns least h
  unfolding header_form first_of
  form_alike h = go (h.long && ltb h.tag 30) (ltb h.tag least) refl
    where
      last : List Member → ℕ
      last l = pick (eqb (bits h.type) 7) 13 (pick (wrong_type h.type (lookup h.tag l)) 12 0)

      go : (a b : Bool) → ltb h.tag least ≡ b → ◌≡◌ {A = ℕ} (pick a 12 (pick b 12 (last ms))) (pick a 12 (pick b 12 (last ns)))
      go true b e = refl
      go false true e = refl
      go false false e = rw (alike h.tag (ltb-false h.tag least e))

  header_alike : (s : List ℕ) → header ms least s ≡ header ns least s
  unfolding header must judged front
  header_alike s = go (front s)
    where
      go : (r : Res Header) → judged (header_form ms least) r ≡ judged (header_form ns least) r
      go (ok h n) = rw (form_alike h)
      go (bad c p) = refl

  module _ (h : Header) (rises : least ≤ h.tag) (n : ℕ) where
    known_alike : (f : Form) (r : Res (List ℕ)) → optional_answer ms (shift n (made (λ p _. (p, suc h.tag)) (made (λ b _. optional h.tag f b) r)))
        ≡ optional_answer ns (shift n (made (λ p _. (p, suc h.tag)) (made (λ b _. optional h.tag f b) r)))
    unfolding optional_answer piece_answer shift made
    known_alike f (ok d k) = rw (alike h.tag rises)
    known_alike f (bad c p) = refl

    skipped_alike : (r : Res (List ℕ)) → optional_answer ms (shift n (made (λ p _. (p, suc h.tag)) (made (λ b _. skipped h.tag h.type b) r)))
        ≡ optional_answer ns (shift n (made (λ p _. (p, suc h.tag)) (made (λ b _. skipped h.tag h.type b) r)))
    unfolding optional_answer piece_answer shift made
    skipped_alike (ok d k) = refl
    skipped_alike (bad c p) = refl

    content_alike : (o : Option Member) (xs : List ℕ) → optional_answer ms (shift n (mapc (λ p _. (p, suc h.tag)) (content o h) xs))
        ≡ optional_answer ns (shift n (mapc (λ p _. (p, suc h.tag)) (content o h) xs))
    unfolding mapc content
    content_alike none xs = skipped_alike (bytes (extent h.type) xs)
    content_alike (some m) xs = known_alike (form_of m.ty) (inside (part (form_of m.ty)) (bytes (value m.ty)) xs)

  answer_alike : (s : List ℕ) → optional_answer ms (next_optional ms least s) ≡ optional_answer ns (next_optional ns least s)
  unfolding next_optional ◌>>=◌ after optional_answer
  answer_alike s = go (header ns least s) (header_alike s)
    where
      go : (r : Res Header) → header ms least s ≡ r → optional_answer ms (next_optional ms least s) ≡ optional_answer ns (after r (λ h. mapc (λ p _. (p, suc h.tag)) (content (lookup h.tag ns) h)) s)
      go (ok h n) e =
          let l = header_rises ms least s e in
          rw (e, alike h.tag l) (content_alike h l n (lookup h.tag ns) (drop n s))
      go (bad c p) e = rw e

pub passed_answer : (T : List ℕ) (t end from least : ℕ) → Passed T t end from least → (s : List ℕ)
    → optional_answer (optional_from T end from) (next_optional (optional_from T end from) least s) ≡ optional_answer (Table.optional_members T t) (next_optional (Table.optional_members T t) least s)
passed_answer T t end from least P s = sym (answer_alike (Table.optional_members T t) (optional_from T end from) least (passed_lookup T t end from least P) s)

-- the member of a known optional
module _ (T : List ℕ) (t least : ℕ) (s : List ℕ) (m k a n : ℕ) (K : KnownRead (Table.optional_members T t) least s m k a n) where
  pub member_tag : tag T m ≡ k
  member_tag = ap (tag T) (sym K.row) ∙ (optional_own T t k K.member K.found).tag_is

  pub member_begun : field T t 0 ≤ m
  member_begun = omega (arith, K.row, (optional_own T t k K.member K.found).begun)

  pub member_within : m < field T t 0 + field T t 1
  member_within = omega (arith, K.row, (optional_own T t k K.member K.found).within)
