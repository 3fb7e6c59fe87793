use Rattle.std.proofs.Common.{◌<◌, ◌-◌, length, arith}
use Rattle.app_parts.proofs.Positions.{argument_within}
use Rattle.app_parts.proofs.places.place_at.Goals as goal

pub returns-then-is_static_call-clause-within : goal.returns-then-is_static_call-clause-within
returns-then-is_static_call-clause-within c some = argument_within _ _ _ _ c.first_register.ensures some

pub returns-else-position-eq0-clause-within : goal.returns-else-position-eq0-clause-within
returns-else-position-eq0-clause-within c some =
    let within : c.args.position - 1 < length c.in-Some.rest.now = argument_within _ _ _ _ c.first_register-else-position-eq0.ensures some in
    let split = c.in-Some.ensures.cases in
    omega arith
