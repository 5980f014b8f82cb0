-- Demand 1 of the writer: each refusal has its number and its place of document 01's table, and no byte of the output changes.
-- Which refusal comes when is promised already (`WriterAnswers`); here each is placed.
--
--   length_row_list         as many rows are named as counted
--   writer_refuses         of the writer
--   writing_numbers_told   the numbers of its public calls
use Rattle.std.specs.Prelude.{◌≡◌, List, [], ◌∷◌, ℕ, ◌≤◌, length}
use Rattle.std.proofs.Common.{sym, ap, ◌∙◌, subst, ⊎_elim, arith}
use Rattle.std.proofs.lemmas.List.{length-map}
use Rattle.encoding.specs.Table.{range}
use Rattle.encoding.proofs.RuleLaws.{length_range}
use Rattle.encoding.specs.Write.{Out, out, stop, row_at, writing, output, writing_of, writing_numbers}
use Rattle.laws.specs.Demands.{row_list, Early, table_refused, type_refused, format_refused, optionals_refused, buffer_refused, at_row, at_count, Twenty, too_few, none_right, WriterRefusal, wrong_table, no_type, great_buffer, wrong_row, wrong_bytes, no_room, wrong_format, optionals_there, WriterRefuses, WritingNumbersTold}
use Rattle.laws.proofs.TableFault.{broken_class}
use Rattle.laws.proofs.WriterAnswers.{early_refused, right_lists, too_long_written}
use Rattle.laws.proofs.WriterAnswers

pub length_row_list : (count : ℕ) (rs : List ℕ) → length (row_list count rs) ≡ count
length_row_list count rs = length-map (range 0 count) (row_at rs) ∙ length_range 0 count

module _ (T : List ℕ) (type format count : ℕ) (rs buffer : List ℕ) (room : ℕ) where
  abbrev Refused : ℕ → ℕ → Type 0
  Refused = WriterRefusal T type format count rs buffer room

  early_placed : {n p : ℕ} → Early T type format buffer n p → Refused n p
  early_placed (table_refused B) = wrong_table B
  early_placed (type_refused e t) = no_type
  early_placed (format_refused e t f) = wrong_format f
  early_placed (optionals_refused e t f o w) = optionals_there o w
  early_placed (buffer_refused e t f w l) = great_buffer l

  twenty_placed : (i : ℕ) → Twenty T type format count rs buffer i → i ≤ count
  twenty_placed i (too_few l e) = omega arith
  twenty_placed i (none_right l (at_row h b n a)) = omega (arith, length_row_list count rs)
  twenty_placed i (none_right l (at_count h b n a)) = omega (arith, length_row_list count rs)

  abbrev Stops : ℕ → ℕ → Type 0
  Stops n p = writing T type format count rs buffer room ≡ stop n p

  numbered : {n p : ℕ} (k : ℕ) → (Stops k p → Refused k p) → Stops n p → n ≡ k → Refused n p
  numbered {p = p} k placed h e = subst (λ (i : ℕ). Refused i p) (sym e) (placed (subst (λ (i : ℕ). Stops i p) e h))

  stopped : (n p : ℕ) → Stops n p → Refused n p
  stopped n p h =
      ⊎_elim early_placed
      (⊎_elim (numbered 20 (λ w. wrong_row (twenty_placed p ((right_lists T type format count rs buffer room p).0 w).1)) h)
      (⊎_elim (numbered 21 (λ w. wrong_bytes (omega (arith, length_row_list count rs, ((WriterAnswers.wrong_bytes T type format count rs buffer room p).0 w).2.inside))) h)
      (numbered 22 (λ w. no_room ((too_long_written T type format count rs buffer room p).0 w)) h)))
      ((early_refused T type format count rs buffer room n p).0 h)

pub writer_refuses : WriterRefuses
unfolding output
writer_refuses T type format count rs buffer room n p h = (stopped T type format count rs buffer room n p h, λ lent. ap (λ (o : Out (List ℕ)). output o lent) h)

some_number : {T : List ℕ} {type format count : ℕ} {rs buffer : List ℕ} {room n p : ℕ} → WriterRefusal T type format count rs buffer room n p → 1 ≤ n
some_number (wrong_table B) = omega (arith, (broken_class B).0)
some_number no_type = omega arith
some_number (great_buffer l) = omega arith
some_number (wrong_row l) = omega arith
some_number (wrong_bytes l) = omega arith
some_number (no_room W) = omega arith
some_number (wrong_format W) = omega arith
some_number (optionals_there o w) = omega arith

pub writing_numbers_told : WritingNumbersTold
unfolding writing_numbers writing_of
writing_numbers_told T type format count rs buffer room = (written, refused)
  where
    written : (m : List ℕ) → writing T type format count rs buffer room ≡ out m → writing_numbers (writing_of (writing T type format count rs buffer room)) ≡ 0 ∷ 0 ∷ length m ∷ []
    written m h = ap (λ (o : Out (List ℕ)). writing_numbers (writing_of o)) h

    refused : (n p : ℕ) → writing T type format count rs buffer room ≡ stop n p → (1 ≤ n) × (writing_numbers (writing_of (writing T type format count rs buffer room)) ≡ n ∷ p ∷ 0 ∷ [])
    refused n p h = (some_number (stopped T type format count rs buffer room n p h), ap (λ (o : Out (List ℕ)). writing_numbers (writing_of o)) h)
