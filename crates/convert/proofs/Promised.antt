-- Each promise of `Promises` joined to its proof.
use Rattle.convert.proofs.ConvertLaws.{converted, convert_written, convert_refuses, convert_numbers, convert_filled}
use Rattle.convert.specs.Promises.{Promises}

-- and their proofs
pub promises : Promises
promises = record {
  converted = converted;
  written = convert_written;
  refuses = convert_refuses;
  numbers = convert_numbers;
  filled = convert_filled;
}
