-- What is read of a part gives what is read of the whole, with the rest after it.
use Rattle.std.proofs.Common.{rules, arith, sym, ◌∙◌}
use Rattle.std.proofs.lemmas.Result.{err_from_is_err_and}
use Rattle.wire.proofs.Laws.{size_within}
use Rattle.value.proofs.Room.{items_fits}
use Rattle.value.proofs.CycleLaws.{row_not, as_bool, as_byte, as_short, as_int, as_long, as_float, as_double, as_string, as_enum, as_struct, as_seq, as_dict, as_proxy, as_other, struct_begin, member_gone, member_read, member_next, member_fault, member_done, seq_none, seq_wide, seq_later, dict_none, dict_later, element_begin, element_next, element_fault, element_done, entry_begin, entry_next, entry_fault, entry_done, part_wide, text_value, text_values, bool_values, enum_values, key_end, pair_none, pair_wide, pair_later, value_fits, elements_fit, entry_fits, pairs_fit}
use Rattle.value.proofs.+values.Goals as goal

pub elements-returns-then-is_text : goal.elements-returns-then-is_text
elements-returns-then-is_text t c = search text_values

pub elements-returns-then-is_bool : goal.elements-returns-then-is_bool
elements-returns-then-is_bool t c = search bool_values

pub elements-returns-then-not-with_lists : goal.elements-returns-then-not-with_lists
elements-returns-then-not-with_lists t c = search enum_values

pub key-returns-then-text : goal.key-returns-then-text
key-returns-then-text t c = search text_value

pub part-returns-then-w-s : goal.part-returns-then-w-s
part-returns-then-w-s t c = search part_wide

pub value-returns-then-t-e : goal.value-returns-then-t-e
value-returns-then-t-e t c = row_not c.args.old _ _ _ _ (omega arith)

pub value-returns-in-0 : goal.value-returns-in-0
value-returns-in-0 t c = search as_bool

pub value-returns-in-1 : goal.value-returns-in-1
value-returns-in-1 t c = search as_byte

pub value-returns-in-2 : goal.value-returns-in-2
value-returns-in-2 t c = search as_short

pub value-returns-in-3 : goal.value-returns-in-3
value-returns-in-3 t c = search as_int

pub value-returns-in-4 : goal.value-returns-in-4
value-returns-in-4 t c = search as_long

pub value-returns-in-5 : goal.value-returns-in-5
value-returns-in-5 t c = search as_float

pub value-returns-in-6 : goal.value-returns-in-6
value-returns-in-6 t c = search as_double

pub value-returns-in-7 : goal.value-returns-in-7
value-returns-in-7 t c = search as_string

pub value-returns-in-8 : goal.value-returns-in-8
value-returns-in-8 t c = search as_enum

pub value-returns-in-9 : goal.value-returns-in-9
value-returns-in-9 t c = search as_struct

pub value-returns-in-10 : goal.value-returns-in-10
value-returns-in-10 t c = search as_seq

pub value-returns-in-11 : goal.value-returns-in-11
value-returns-in-11 t c = search as_dict

pub value-returns-in_default : goal.value-returns-in_default
value-returns-in_default t c = search as_other

pub value-returns-in-12 : goal.value-returns-in-12
value-returns-in-12 t c = search as_proxy

pub dictionary-returns-in_err-size : goal.dictionary-returns-in_err-size
dictionary-returns-in_err-size t c = search (rules, dict_none, c.in_err-size.was)

pub dictionary-slice_bounds-pairs-count : goal.dictionary-slice_bounds-pairs-count
dictionary-slice_bounds-pairs-count t c = search (rules, size_within, c.in_ok-size.was)

pub dictionary-slice_bounds-pairs-start : goal.dictionary-slice_bounds-pairs-start
dictionary-slice_bounds-pairs-start t c = search (rules, size_within, c.in_ok-size.was)

pub dictionary-later-requires : goal.dictionary-later-requires
dictionary-later-requires t c = search (rules, pairs_fit, size_within, c.in_ok-size.was)

pub dictionary-returns : goal.dictionary-returns
dictionary-returns t c = search (rules, dict_later, c.in_ok-size.was)

pub elements-loop-init : goal.elements-loop-init
elements-loop-init t c = search element_begin

pub elements-later-requires : goal.elements-later-requires
elements-later-requires t c = search (rules, value_fits)

pub elements-returns-in_err-at : goal.elements-returns-in_err-at
elements-returns-in_err-at t c =
    let p = err_from_is_err_and c.from_residual.result c.from_residual.ensures.1 in
    rw (p.1, p.2) (element_fault _ _ _ _ _ _ c.loop.invariant c.loop-test.true _ c.part.ensures _ (sym c.later.ensures ∙ c.in_err-at.was))

pub elements-loop-preserved : goal.elements-loop-preserved
elements-loop-preserved t c = element_next _ _ _ _ _ _ c.loop.invariant c.loop-test.true _ c.part.ensures _ (sym c.later.ensures ∙ c.in_ok-at.was)

pub elements-returns : goal.elements-returns
elements-returns t c = search element_done

pub pair-returns-in_err-n : goal.pair-returns-in_err-n
pair-returns-in_err-n t c = search (rules, pair_none, c.in_err-n.was)

pub pair-overflow_sub-s : goal.pair-overflow_sub-s
pair-overflow_sub-s t c = search (rules, key_end, c.in_ok-n.was)

pub pair-returns-then-w-s : goal.pair-returns-then-w-s
pair-returns-then-w-s t c = search (pair_wide, c.in_ok-n.was)

pub pair-slice_bounds-value-count : goal.pair-slice_bounds-value-count
pair-slice_bounds-value-count t c = search (rules, key_end, c.in_ok-n.was)

pub pair-slice_bounds-value-start : goal.pair-slice_bounds-value-start
pair-slice_bounds-value-start t c = search (rules, key_end, c.in_ok-n.was)

pub pair-later-requires : goal.pair-later-requires
pair-later-requires t c = search (rules, value_fits, key_end, c.in_ok-n.was)

pub pair-returns : goal.pair-returns
pair-returns t c = search (rules, pair_later, c.in_ok-n.was)

pub pairs-loop-init : goal.pairs-loop-init
pairs-loop-init t c = search entry_begin

pub pairs-later-requires : goal.pairs-later-requires
pairs-later-requires t c = search (rules, entry_fits)

pub pairs-returns-in_err-at : goal.pairs-returns-in_err-at
pairs-returns-in_err-at t c =
    let p = err_from_is_err_and c.from_residual.result c.from_residual.ensures.1 in
    rw (p.1, p.2) (entry_fault _ _ _ _ _ _ _ c.loop.invariant c.loop-test.true _ c.pair.ensures _ (sym c.later.ensures ∙ c.in_err-at.was))

pub pairs-loop-preserved : goal.pairs-loop-preserved
pairs-loop-preserved t c = entry_next _ _ _ _ _ _ _ c.loop.invariant c.loop-test.true _ c.pair.ensures _ (sym c.later.ensures ∙ c.in_ok-at.was)

pub pairs-returns : goal.pairs-returns
pairs-returns t c = search entry_done

pub sequence-returns-in_err-size : goal.sequence-returns-in_err-size
sequence-returns-in_err-size t c = search (rules, seq_none, c.in_err-size.was)

pub sequence-overflow_mul-size : goal.sequence-overflow_mul-size
sequence-overflow_mul-size t c = search (items_fits, c.in_ok-size.was)

pub sequence-overflow_sub-s : goal.sequence-overflow_sub-s
sequence-overflow_sub-s t c = search (rules, size_within, c.in_ok-size.was)

pub sequence-returns-then-size-w : goal.sequence-returns-then-size-w
sequence-returns-then-size-w t c = search (seq_wide, c.in_ok-size.was)

pub sequence-slice_bounds-elements-count : goal.sequence-slice_bounds-elements-count
sequence-slice_bounds-elements-count t c = search (rules, size_within, c.in_ok-size.was)

pub sequence-slice_bounds-elements-start : goal.sequence-slice_bounds-elements-start
sequence-slice_bounds-elements-start t c = search (rules, size_within, c.in_ok-size.was)

pub sequence-later-requires : goal.sequence-later-requires
sequence-later-requires t c = search (rules, elements_fit, size_within, c.in_ok-size.was)

pub sequence-returns : goal.sequence-returns
sequence-returns t c = search (rules, seq_later, c.in_ok-size.was)

pub struct_value-loop-m-init : goal.struct_value-loop-m-init
struct_value-loop-m-init t c = search struct_begin

pub struct_value-returns-then-all-m : goal.struct_value-returns-then-all-m
struct_value-returns-then-all-m t c = search member_gone

pub struct_value-later-requires : goal.struct_value-later-requires
struct_value-later-requires t c = search (rules, value_fits)

pub struct_value-returns-in_err-at : goal.struct_value-returns-in_err-at
struct_value-returns-in_err-at t c =
    let p = err_from_is_err_and c.from_residual.result c.from_residual.ensures.1 in
    rw (p.1, p.2) (member_fault c.args.old _ _ _ _ c.type_row-owner.ensures _ _ _ c.loop-m.invariant c.loop-m-test.true _ (search member_read) _ (sym c.later.ensures ∙ c.in_err-at.was))

pub struct_value-loop-m-preserved : goal.struct_value-loop-m-preserved
struct_value-loop-m-preserved t c =
    member_next c.args.old _ _ _ _ c.type_row-owner.ensures _ _ _ c.loop-m.invariant c.loop-m-test.true _ (search member_read) _ (sym c.later.ensures ∙ c.in_ok-at.was)

pub struct_value-returns : goal.struct_value-returns
struct_value-returns t c = search member_done
