-- Every promise of `Demands`; `Promised` in proofs/ joins each to its proof.
use Rattle.convert.specs.Demands.{Converted, ConvertWritten, ConvertRefuses, ConvertNumbers, ConvertFilled}

-- all promises together
pub record Promises : Type 0 where
  pub converted : Converted
  pub written : ConvertWritten
  pub refuses : ConvertRefuses
  pub numbers : ConvertNumbers
  pub filled : ConvertFilled
