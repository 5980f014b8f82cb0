-- The numbers of a comparison are those of its answer. Assumes nothing.
use mathlib.Core.Path.{◌≡◌, ap}
use Rattle.differences.specs.declared.Compared.{Compared}

module _ (c d : Compared) (e : c ≡ d) where
  pub refusal_same : c.refusal ≡ d.refusal
  refusal_same = ap (λ (x : Compared). x.refusal) e

  pub place_same : c.place ≡ d.place
  place_same = ap (λ (x : Compared). x.place) e

  pub count_same : c.count ≡ d.count
  count_same = ap (λ (x : Compared). x.count) e

  pub extends_same : c.extends ≡ d.extends
  extends_same = ap (λ (x : Compared). x.extends) e
