-- Every promise of `CompareDemands`, with its proof.
use Rattle.differences.specs.CompareDemands.{CompareYes, ShippedSafely, CompareEqual, CompareFinds, CompareOrder, OrderStrict, CompareRefused}
use Rattle.differences.specs.CompareLaws.{compare_yes, compare_refused}
use Rattle.differences.specs.FindLaws.{compare_finds}
use Rattle.differences.specs.EqualLaws.{shipped_safely, compare_equal}
use Rattle.differences.specs.OrderLaws.{compare_order}
use Rattle.differences.specs.StrictLaws.{order_strict}

-- all promises together
pub record Promises : Type 0 where
  pub yes : CompareYes
  pub shipped : ShippedSafely
  pub equal : CompareEqual
  pub finds : CompareFinds
  pub order : CompareOrder
  pub strict : OrderStrict
  pub refuses : CompareRefused

-- and their proofs
pub promises : Promises
promises = record {
  yes = compare_yes;
  shipped = shipped_safely;
  equal = compare_equal;
  finds = compare_finds;
  order = compare_order;
  strict = order_strict;
  refuses = compare_refused;
}
