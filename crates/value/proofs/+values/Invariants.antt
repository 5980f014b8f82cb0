-- Each function of the cycle has a bound t, below which the rows of parts lie; it falls from a value to the parts of its row. What is still to be read gives the rest of the answer.
use Rattle.std.proofs.Common.{◌+◌, ◌-◌, ◌*◌}
use Rattle.encoding.specs.Result.{times}
use Rattle.encoding.specs.Types.{struct}
use Rattle.encoding.specs.Table.{field, range, member_tys, own_rows, tys, part_ty}
use Rattle.encoding.specs.Value.{value, values}
use Rattle.encoding.specs.Old.{type_as}
use Rattle.wire.specs.Steps.{step_of}
use Rattle.wire.specs.StepLaws.{Left}
use Rattle.value.specs.Parts.{types_as, entry}
use Rattle.value.proofs.+values.Given as goal

abbrev pub decreases-dictionary : goal.decreases-dictionary
decreases-dictionary l = 6 * l.t + 5

abbrev pub decreases-elements : goal.decreases-elements
decreases-elements l = 6 * l.t + 2

abbrev pub decreases-key : goal.decreases-key
decreases-key l = 6 * l.t + 2

abbrev pub decreases-pair : goal.decreases-pair
decreases-pair l = 6 * l.t + 3

abbrev pub decreases-pairs : goal.decreases-pairs
decreases-pairs l = 6 * l.t + 4

abbrev pub decreases-part : goal.decreases-part
decreases-part l = 6 * l.t + 1

abbrev pub decreases-sequence : goal.decreases-sequence
decreases-sequence l = 6 * l.t + 5

abbrev pub decreases-struct_value : goal.decreases-struct_value
decreases-struct_value l = 6 * l.t + 5

abbrev pub decreases-value : goal.decreases-value
decreases-value l = 6 * l.t

abbrev pub invariant-elements-loop : goal.invariant-elements-loop
invariant-elements-loop l = Left l.s (step_of (times l.n (value (type_as l.old (part_ty l.table l.t l.e))) l.s)) (times (l.n - l.counter) (value (type_as l.old (part_ty l.table l.t l.e)))) l.at

abbrev pub invariant-pairs-loop : goal.invariant-pairs-loop
invariant-pairs-loop l = Left l.s (step_of (times l.n (entry (type_as l.old (part_ty l.table l.t (field l.table l.t 0))) (type_as l.old (part_ty l.table l.t (field l.table l.t 1)))) l.s)) (times (l.n - l.counter) (entry (type_as l.old (part_ty l.table l.t l.key)) (type_as l.old (part_ty l.table l.t l.val)))) l.at

abbrev pub invariant-struct_value-loop-m : goal.invariant-struct_value-loop-m
invariant-struct_value-loop-m l = Left l.s (step_of (value (type_as l.old (struct (member_tys l.table (tys l.table l.t) (own_rows l.table l.t)))) l.s)) (values (types_as l.old (member_tys l.table (tys l.table l.t) (range l.m (field l.table l.t 0 + field l.table l.t 1 - l.m))))) l.at
