-- Each promise of `Promises` joined to its proof.
use Rattle.std.proofs.Common.{subst}
use Rattle.encoding.specs.OptionalForm.{HasForm}
use Rattle.encoding.proofs.OptionalFormLaws.{form_has, is_form}
use Rattle.encoding.proofs.Utf8Laws.{utf8_ok, utf8_step}
use Rattle.encoding.proofs.ExactLaws.{exact_is, is_exact, extent_is, is_extent}
use Rattle.laws.proofs.TableExact.{exact_table, one_owner}
use Rattle.laws.proofs.TableFault.{table_fault}
use Rattle.laws.proofs.SetsExact.{types_rise, exact_enums, exact_old_enums}
use Rattle.laws.proofs.TypesAgree.{equal_sets}
use Rattle.laws.proofs.NumbersTogether.{numbers_together, numbers_counted}
use Rattle.laws.proofs.Refusals.{reader_refuses, old_numbers, numbers_told}
use Rattle.laws.proofs.OldLine.{old_below}
use Rattle.laws.proofs.MessageExact.{exact_message, exact_rows}
use Rattle.laws.proofs.RowsListed.{listed_rows}
use Rattle.laws.proofs.RowsApart.{listed_apart}
use Rattle.laws.proofs.RowsRight.{rows_right, rows_once, unambiguous}
use Rattle.laws.proofs.CountsExact.{exact_counts_from}
use Rattle.laws.proofs.Viewed.{viewed}
use Rattle.laws.proofs.WriteBack.{read_back}
use Rattle.laws.proofs.WriteAgain.{write_again, write_same, one_message}
use Rattle.laws.proofs.WriterAnswers.{early_refused, right_lists, wrong_bytes, right_makes, too_long_written, right_written}
use Rattle.laws.proofs.WriterRefusals.{writer_refuses, writing_numbers_told}
use Rattle.laws.proofs.LentFilled.{list_filled, output_filled}
use Rattle.laws.proofs.Readings.{reads, read_back_reading, newer_refused_reading}
use Rattle.laws.proofs.MessageNewer.{newer_read, newer_refused, newer_reading}
use Rattle.laws.proofs.WrittenNewer.{newer_written}
use Rattle.laws.proofs.CounterpartsOne.{one_counterpart}
use Rattle.laws.proofs.Witness.{newer_there}
use Rattle.laws.specs.Promises.{Promises}

pub promises : Promises
promises = record {
  table = exact_table;
  owner = one_owner;
  fault = table_fault;
  refuses = reader_refuses;
  old_numbers = old_numbers;
  numbers = numbers_told;
  text = λ b. (utf8_ok b, utf8_step b);
  together = numbers_together;
  counted = numbers_counted;
  exact = exact_message;
  reads = reads;
  rows = exact_rows;
  listed = listed_rows;
  apart = listed_apart;
  rows_right = rows_right;
  once = rows_once;
  unambiguous = unambiguous;
  counts = exact_counts_from exact_message;
  values = λ t R b. (exact_is t R b, is_exact t R b);
  lists = types_rise;
  enums = exact_enums;
  old_enums = exact_old_enums;
  sets = equal_sets;
  extents = λ k b. (λ w. extent_is k b w.0 w.1, is_extent k b);
  forms = λ t f. (λ e. subst (HasForm t) e (form_has t), is_form);
  view = viewed;
  reads_back = read_back;
  reads_back_answer = read_back_reading;
  writes_again = write_again;
  writes_same = write_same;
  old_below = old_below;
  one = one_message;
  early = early_refused;
  right = right_lists;
  wrong = wrong_bytes;
  makes = right_makes;
  long = too_long_written;
  written = right_written;
  writer_refuses = writer_refuses;
  writing_numbers = writing_numbers_told;
  list = list_filled;
  output = output_filled;
  newer = newer_read;
  newer_exception = newer_refused;
  newer_answer = newer_reading;
  newer_exception_answer = newer_refused_reading;
  newer_written = newer_written;
  counterparts = one_counterpart;
  newer_some = newer_there;
}
