use Rattle.std.proofs.Common.{Bool, sym, ap, ◌∙◌, cond, [], ◌∷◌}
use Rattle.app_machine.specs.Lookups.{is_static_call}
use Rattle.app_machine.specs.Safe.{reflective}
use Rattle.played_machine.specs.Standing.{if_reflective}
use Rattle.runner_stands.proofs.causes.if_reflective.Goals as goal

pub returns-in-None : goal.returns-in-None
returns-in-None c = ap if_reflective (c.in-None.ensures c.args.at.now (is_static_call c.args.kind))

pub returns-then-is_reflective : goal.returns-then-is_reflective
returns-then-is_reflective c =
    ap (λ (b : Bool). cond b (reflective ∷ []) []) (sym c.if-is_reflective.true ∙ c.is_reflective.ensures c.args.at.now (is_static_call c.args.kind))
    ∙ ap if_reflective (c.in-Some.ensures c.args.at.now (is_static_call c.args.kind))

pub returns-else-is_reflective : goal.returns-else-is_reflective
returns-else-is_reflective c =
    ap (λ (b : Bool). cond b (reflective ∷ []) []) (sym c.if-is_reflective.false ∙ c.is_reflective.ensures c.args.at.now (is_static_call c.args.kind))
    ∙ ap if_reflective (c.in-Some.ensures c.args.at.now (is_static_call c.args.kind))
