use Rattle.std.proofs.Common.{sym, ap, ◌∙◌}
use Rattle.runner_begin.specs.Begun.{code_at, types_of}
use Rattle.runner_begin.proofs.entering.kinds_of.Goals as goal

pub returns-in-None-clause-same : goal.returns-in-None-clause-same
returns-in-None-clause-same c = ap (λ o. types_of (code_at c.args.app.now o)) (sym c.in-None.is)

pub returns-in-Some-clause-same : goal.returns-in-Some-clause-same
returns-in-Some-clause-same c = c.kinds_in.ensures.same ∙ ap (λ o. types_of (code_at c.args.app.now o)) (sym c.in-Some.is)
