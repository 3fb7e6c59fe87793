use Rattle.form_fields.proofs.Shapes.{Sees}
use Rattle.form_fields.proofs.shape.all_have.Given as goal

abbrev pub invariant-loop-value : goal.invariant-loop-value
invariant-loop-value l = Sees l.shape l.values l.value-index
