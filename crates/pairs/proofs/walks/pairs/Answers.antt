-- The loop's invariant: the outcome follows from the pairs ahead. The measure is the bytes left. Assumes nothing.
use mathlib.Core.Path.{refl}
use native.Mathlib.Omega.{arith}
use borrow.Author.Rules.{rules}
use Rattle.pairs.proofs.Walking.{ahead_begin, asks_place, asks_count, stop_fits, skip_less, skip_fits, skip_count, ahead_skip, known_less, known_fits, ahead_known, stop_says, stop_gives, done_says, done_gives}
use Rattle.pairs.proofs.walks.pairs.Goals as goal

-- the answers at the row without a base, and after another row
pub returns-then-due-eq0-clause-value : goal.returns-then-due-eq0-clause-value
returns-then-due-eq0-clause-value c =
    let E = c.pair.ensures in
    done_says _ _ _ _ _ _ _ _ _ _ _ c.loop-turn.invariant.1 _ E.value _ c.in-Ok.is _ _ _ c.in-Known.is _ E.out_after _ c.first_of-first.ensures _ c.base-due.ensures.0 c.if-due-eq0.true

pub returns-then-due-eq0-clause-out_after : goal.returns-then-due-eq0-clause-out_after
returns-then-due-eq0-clause-out_after c =
    let E = c.pair.ensures in
    done_gives _ _ _ _ _ _ _ _ _ _ _ c.loop-turn.invariant.1 _ E.value _ c.in-Ok.is _ _ _ c.in-Known.is _ E.out_after _ c.first_of-first.ensures _ c.base-due.ensures.0 c.if-due-eq0.true

pub loop-turn-preserved : goal.loop-turn-preserved
loop-turn-preserved c =
    let E = c.pair.ensures in
    (search rules, ahead_known c.loop-turn.invariant.1 E.value c.in-Ok.is c.in-Known.is E.out_after c.first_of-first.ensures c.base-due.ensures.0 c.if-due-eq0.false)

pub loop-turn-init : goal.loop-turn-init
loop-turn-init c = (refl, ahead_begin _ _ _ _ _ (search) (omega arith) (search rules))

pub slice_bounds-pair-count : goal.slice_bounds-pair-count
slice_bounds-pair-count c = omega arith

pub pair-requires-clause-s_bound : goal.pair-requires-clause-s_bound
pair-requires-clause-s_bound c = (search asks_place, search asks_count)

pub overflow_add-pos : goal.overflow_add-pos
overflow_add-pos c = search skip_fits

pub overflow_add-skipped : goal.overflow_add-skipped
overflow_add-skipped c = search skip_count

pub loop-turn-smaller-in-Passed : goal.loop-turn-smaller-in-Passed
loop-turn-smaller-in-Passed c = search skip_less

pub loop-turn-preserved-in-Passed : goal.loop-turn-preserved-in-Passed
loop-turn-preserved-in-Passed c = (search rules, search ahead_skip)

pub overflow_add-pos-in-Known : goal.overflow_add-pos-in-Known
overflow_add-pos-in-Known c = search known_fits

pub loop-turn-smaller : goal.loop-turn-smaller
loop-turn-smaller c = search known_less

pub overflow_add-result : goal.overflow_add-result
overflow_add-result c = search stop_fits

pub returns-in-Err-clause-value : goal.returns-in-Err-clause-value
returns-in-Err-clause-value c = search stop_says

pub returns-in-Err-clause-out_after : goal.returns-in-Err-clause-out_after
returns-in-Err-clause-out_after c = search stop_gives
