-- The first row looked at has the tag, and the value is as wide as its form.
use Rattle.level.proofs.Plain.{shape_least, simple_answer}
use Rattle.level.proofs.optionals.titled.Goals as goal

pub overflow_sub-bytes : goal.overflow_sub-bytes
overflow_sub-bytes c = search shape_least

pub returns-clause-value : goal.returns-clause-value
returns-clause-value c = record { known = λ h. search simple_answer }
