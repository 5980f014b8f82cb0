-- The form that the row's shape says.
use mathlib.Core.Path.{ap, ◌∙◌}
use Rattle.shapes.specs.Shapes.{form_code}
use Rattle.shapes.proofs.form.Goals as goal

pub returns : goal.returns
returns c = c.form_code.ensures ∙ ap form_code c.shape.ensures.0
