use Rattle.std.proofs.Common.{sym, ◌∙◌}
use Rattle.app_model.proofs.ArrayRelation.{no_array, any_array, array_alone, no_reference, elements_so, elements_further}
use Rattle.app_model.proofs.lookups.arrays.is_array_below.Goals as goal

pub returns-then-is_above_arrays : goal.returns-then-is_above_arrays
returns-then-is_above_arrays c =
    sym (c.loop-elements.invariant ∙ any_array c.args.app.now c.args.lists.now c.loop-elements.class.now c.loop-elements.kind.now
    c.in-Some.elements.now c.in-Some.ensures (sym c.is_above_arrays.ensures ∙ c.if-is_above_arrays.true))

pub returns-in_default-elements_of : goal.returns-in_default-elements_of
returns-in_default-elements_of c =
    sym (c.loop-elements.invariant ∙ array_alone c.args.app.now c.args.lists.now c.loop-elements.class.now c.loop-elements.kind.now
    (sym c.is_above_arrays.ensures ∙ c.if-is_above_arrays.false) c.in_default-elements_of.ensures)

pub returns-then-not-is_reference_type : goal.returns-then-not-is_reference_type
returns-then-not-is_reference_type c =
    sym (c.loop-elements.invariant ∙ no_reference c.args.app.now c.args.lists.now c.loop-elements.class.now c.loop-elements.kind.now
    c.in-Some.elements.now c.in-Some-elements_of.asked.now c.in-Some.ensures c.in-Some-elements_of.ensures (sym c.is_above_arrays.ensures ∙ c.if-is_above_arrays.false)
    (sym c.is_reference_type.ensures ∙ c.if-not-is_reference_type.true))

pub returns-then-is_class_below : goal.returns-then-is_class_below
returns-then-is_class_below c =
    sym (c.loop-elements.invariant ∙ elements_so c.args.app.now c.args.lists.now c.loop-elements.class.now c.loop-elements.kind.now
    c.in-Some.elements.now c.in-Some-elements_of.asked.now c.in-Some.ensures c.in-Some-elements_of.ensures (sym c.is_above_arrays.ensures ∙ c.if-is_above_arrays.false)
    (sym c.is_reference_type.ensures ∙ c.if-not-is_reference_type.false) (sym c.is_class_below.ensures ∙ c.if-is_class_below.true))

pub loop-elements-preserved : goal.loop-elements-preserved
loop-elements-preserved c =
    c.loop-elements.invariant ∙ elements_further c.args.app.now c.args.lists.now c.loop-elements.class.now c.loop-elements.kind.now
    c.in-Some.elements.now c.in-Some-elements_of.asked.now c.in-Some.ensures c.in-Some-elements_of.ensures (sym c.is_above_arrays.ensures ∙ c.if-is_above_arrays.false)
    (sym c.is_reference_type.ensures ∙ c.if-not-is_reference_type.false) (sym c.is_class_below.ensures ∙ c.if-is_class_below.false)

pub returns : goal.returns
returns c = sym (c.loop-elements.invariant ∙ no_array c.args.app.now c.args.lists.now c.loop-elements.class.now c.loop-elements.kind.now c.in_default.ensures)
