-- A row of the table, read whole.
--
--   type_row_of, member_row_of     type row t; member row m
--   IsTypeRow, IsMemberRow     what the code answers for them: each field is the table's, and small
--   greatest_of                 the greatest enumerator of an enum row
--   Whole                      the member rows before a row are members of the table and lie inside it
use Rattle.std.specs.Prelude.{ℕ, ◌+◌, ◌*◌, ◌≤◌, ◌<◌, ◌≡◌, List, length}
use Rattle.encoding.specs.Table.{kind, spare, field, members, member_at, member_type, mark, member_spare, tag}
use Rattle.table.specs.declared.TypeRow.{TypeRow}
use Rattle.table.specs.declared.MemberRow.{MemberRow}

abbrev pub type_row_of : List ℕ → ℕ → TypeRow
type_row_of T t = record {
  kind = kind T t;
  spare = spare T t;
  a = field T t 0;
  b = field T t 1;
  c = field T t 2;
  d = field T t 3;
  e = field T t 4;
}

abbrev pub greatest_of : TypeRow → ℕ
greatest_of r = r.a + 65536 * r.b

abbrev pub member_row_of : List ℕ → ℕ → MemberRow
member_row_of T m = record { of = member_type T m; mark = mark T m; spare = member_spare T m; tag = tag T m }

pub record IsTypeRow (T : List ℕ) (t : ℕ) (r : TypeRow) : Type 0 where
  pub kind_is : r.kind ≡ kind T t
  pub spare_is : r.spare ≡ spare T t
  pub a_is : r.a ≡ field T t 0
  pub b_is : r.b ≡ field T t 1
  pub c_is : r.c ≡ field T t 2
  pub d_is : r.d ≡ field T t 3
  pub e_is : r.e ≡ field T t 4
  pub kind_small : r.kind < 256
  pub spare_small : r.spare < 256
  pub a_small : r.a < 65536
  pub b_small : r.b < 65536
  pub c_small : r.c < 65536
  pub d_small : r.d < 65536
  pub e_small : r.e < 65536

pub record IsMemberRow (T : List ℕ) (m : ℕ) (r : MemberRow) : Type 0 where
  pub of_is : r.of ≡ member_type T m
  pub mark_is : r.mark ≡ mark T m
  pub spare_is : r.spare ≡ member_spare T m
  pub tag_is : r.tag ≡ tag T m
  pub of_small : r.of < 65536
  pub mark_small : r.mark < 256
  pub spare_small : r.spare < 256
  pub tag_small : r.tag < 4294967296

pub record Whole (T : List ℕ) (end : ℕ) : Type 0 where
  pub few : end ≤ members T
  pub inside : member_at T end ≤ length T
