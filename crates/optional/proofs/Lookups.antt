-- The member that a look-up found: its row, its type and its form. Assumes nothing.
--
--   row_form                the form of a row's type, by its number in the array
--   type_here, type_past    the row of a member's type, if there is such a member and if there is none
--   row_type, typed         the tree of the row of a member's type, and the row as the code finds it
--   optional_of             an optional's type is that of its row
--   Met, met                what the code's look-up of a tag says: the member, of that row, and the row of its type
--   unmet                   no member has the tag
--   met_bits                the type bits of the member's form, by its number in the array of shapes
use mathlib.Core.Path.{◌≡◌, refl, sym, ap, ◌∙◌}
use mathlib.Core.Bool.{Bool, true, false}
use mathlib.Core.Option.{Option, none, some}
use mathlib.Core.List.{List}
use Prim.Native.Nat.{ℕ, ◌≤◌, ◌<◌}
use native.Mathlib.Omega.{arith}
use lib.Dec.{ltb}
use borrow.Author.Tests.{ltb-true, ltb-false, lt-ltb, le-ltb}
use Rattle.encoding.specs.Result.{pick}
use Rattle.encoding.specs.Types.{bits, Ty, bits_of, form_of}
use Rattle.encoding.specs.Table.{members, member_type, member_ty, trees, ty_of, Member, lookup}
use Rattle.wire.specs.Put.{form_bits}
use Rattle.std.specs.Prelude.{Some, None}
use Rattle.table.specs.declared.TaggedMember.{TaggedMember}
use Rattle.table.specs.Found.{member_found}
use Rattle.shapes.specs.Shapes.{shapes_of, form_in}
use Rattle.shapes.specs.ShapesLaws.{form_row}
use Rattle.shapes.specs.FormLaws.{form_bits_lem}
use Rattle.table.specs.Tags.{optional_from}
use Rattle.table.specs.TagsLaws.{found_own}
use Rattle.table.proofs.Places.{member_row, no_member}
use Rattle.optional.specs.Forms.{form_named}
use Rattle.optional.specs.FormsLaws.{named_form}
use Rattle.optional.specs.Answers.{type_of, type_row}

-- ---- members

module _ (all m i : ℕ) where
  pub type_here : m < all → i ≡ type_of all m i
  unfolding type_of
  type_here h = rw (lt-ltb m all h)

  pub type_past : all ≤ m → 256 ≡ type_of all m i
  unfolding type_of
  type_past h = rw (le-ltb m all h)

pub row_type : (T : List ℕ) (m r : ℕ) → r ≡ type_row T m → ty_of T r ≡ member_ty T (trees T) m
unfolding type_row type_of
row_type T m r e = go (ltb m (members T)) refl e
  where
    go : (b : Bool) → ltb m (members T) ≡ b → r ≡ pick b (member_type T m) 256 → ty_of T r ≡ member_ty T (trees T) m
    go true q e = member_row T m (members T) r refl (ltb-true m (members T) q) e
    go false q e = ap (ty_of T) e ∙ no_member T m (members T) refl (ltb-false m (members T) q)

pub typed : (T : List ℕ) (m all i r : ℕ) → all ≡ members T → i ≡ member_type T m → r ≡ type_of all m i → r ≡ type_row T m
unfolding type_row
typed T m all i r ea ei e = rw (← ea, ← ei) e

pub optional_of : (T : List ℕ) (end from k : ℕ) (m : Member) → lookup k (optional_from T end from) ≡ some m → m.ty ≡ member_ty T (trees T) m.row
unfolding optional_from
optional_of T end from k m h = (found_own T (trees T) k _ _ m h).type_is

pub record Met (T : List ℕ) (end from k row of : ℕ) : Type 0 where
  pub member : Member
  pub there : lookup k (optional_from T end from) ≡ some member
  pub is : member.row ≡ row
  pub of_is : of ≡ member_type T row
  pub type : member.ty ≡ member_ty T (trees T) row

pub met : (T : List ℕ) (end from k row of : ℕ) → Some (record { member = row; of = of }) ≡ member_found T (lookup k (optional_from T end from)) → Met T end from k row of
unfolding member_found
met T end from k row of h = go (lookup k (optional_from T end from)) refl h
  where
    go : (o : Option Member) → lookup k (optional_from T end from) ≡ o → Some (record { member = row; of = of }) ≡ member_found T o → Met T end from k row of
    go none e h = let z : ◌≡◌ {A = ℕ} 0 1 = cc in absurd (omega arith)
    go (some m) e h =
        let z : ◌≡◌ {A = TaggedMember} (record { member = row; of = of }) (record { member = m.row; of = member_type T m.row }) = cc in
        let q : m.row ≡ row = sym (ap (λ (x : TaggedMember). x.member) z) in
        record { member = m; there = e; is = q; of_is = ap (λ (x : TaggedMember). x.of) z ∙ ap (member_type T) q; type = optional_of T end from k m e ∙ ap (member_ty T (trees T)) q }

pub unmet : (T : List ℕ) (end from k : ℕ) → None ≡ member_found T (lookup k (optional_from T end from)) → lookup k (optional_from T end from) ≡ none
unfolding member_found
unmet T end from k h = go (lookup k (optional_from T end from)) refl h
  where
    go : (o : Option Member) → lookup k (optional_from T end from) ≡ o → None ≡ member_found T o → lookup k (optional_from T end from) ≡ none
    go none e h = e
    go (some m) e h = let z : ◌≡◌ {A = ℕ} 0 1 = cc in absurd (omega arith)

pub row_form : (T shapes : List ℕ) (ty g : ℕ) → shapes ≡ shapes_of T → g ≡ form_in shapes ty → form_named g ≡ form_of (ty_of T ty)
row_form T shapes ty g ef eg = ap form_named (eg ∙ form_row T ty shapes ef) ∙ named_form (ty_of T ty)

pub met_bits : (T shapes : List ℕ) (end from k row of ty g : ℕ) (M : Met T end from k row of) → shapes ≡ shapes_of T → ty ≡ type_row T row → g ≡ form_in shapes ty
    → form_bits g ≡ bits (bits_of (form_of M.member.ty))
met_bits T shapes end from k row of ty g M ef et eg =
    ap form_bits (eg ∙ form_row T ty shapes ef) ∙ form_bits_lem (form_of (ty_of T ty)) ∙ ap (λ (x : Ty). bits (bits_of (form_of x))) (row_type T row ty et ∙ sym M.type)
