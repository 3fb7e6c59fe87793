use Rattle.std.proofs.Common.{◌<◌, length, sym, ap, subst, ◌∙◌}
use Rattle.runner_begin.specs.Begun.{types_of}
use Rattle.runner_begin.proofs.Few.{few_parameters}
use Rattle.runner_begin.proofs.entering.kinds_in.Goals as goal

pub returns-in-None-clause-same : goal.returns-in-None-clause-same
returns-in-None-clause-same c = ap types_of c.in-None.ensures

pub returns-in-Some-clause-same : goal.returns-in-Some-clause-same
returns-in-Some-clause-same c = c.as_slice.ensures ∙ ap types_of c.in-Some.ensures

pub returns-in-Some-clause-few : goal.returns-in-Some-clause-few
returns-in-Some-clause-few c = subst (λ kinds. length kinds < 4294967295) (sym c.as_slice.ensures) (few_parameters c.args.app.now c.args.body c.in-Some.method.now c.requires c.in-Some.ensures)
