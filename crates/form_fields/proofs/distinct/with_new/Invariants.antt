use Rattle.form_fields.proofs.Merging.{Merges}
use Rattle.form_fields.proofs.distinct.with_new.Given as goal

abbrev pub invariant-loop-name : goal.invariant-loop-name
invariant-loop-name l = Merges l.fn.seen l.names l.name-index l.all
