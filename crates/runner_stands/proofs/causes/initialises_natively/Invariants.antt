use Rattle.std.proofs.Common.{◌≡◌, length}
use Rattle.std.specs.List.{list_any}
use Rattle.app_machine.specs.Lookups.{initialisers}
use Rattle.app_model.specs.Initialisers.{initialisers_left}
use Rattle.played_machine.specs.Calling.{is_native_body}
use Rattle.runner_stands.proofs.causes.initialises_natively.Given as goal

abbrev pub invariant-loop-body : goal.invariant-loop-body
invariant-loop-body l = list_any (is_native_body l.app) (initialisers_left l.app l.walk) ≡ list_any (is_native_body l.app) (initialisers l.app l.act)

abbrev pub decreases-loop-body : goal.decreases-loop-body
decreases-loop-body l = length (initialisers_left l.app l.walk)
