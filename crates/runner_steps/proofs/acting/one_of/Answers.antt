use Rattle.std.proofs.Common.{◌∙◌, length, refl, sym, eqb-true}
use Rattle.runner_steps.proofs.Acts.{one_of_none, one_of_some}
use Rattle.runner_calls.proofs.Raising.{one_none}
use Rattle.runner_steps.proofs.acting.one_of.Goals as goal

pub returns-then-is_empty : goal.returns-then-is_empty
returns-then-is_empty c = one_of_none c.args.next.now c.args.script.left.now (eqb-true (length c.args.next.now) 0 (sym c.is_empty.ensures ∙ c.if-is_empty.true))

pub returns-in-None : goal.returns-in-None
returns-in-None c = one_none c.args.next.now (length c.args.next.now) c.args.script.left.now refl c.in-None.ensures.drawn

pub returns-in-Some : goal.returns-in-Some
returns-in-Some c = one_of_some c.args.next.now (length c.args.next.now) c.args.script.left.now c.in-Some.i c.in-Some.left.left.now refl c.in-Some.ensures.drawn (c.in-Some.ensures.below)
