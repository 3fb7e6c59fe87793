-- Where raised values go, computed.
use Rattle.std.proofs.Common.{refl}
use Rattle.app_machine.specs.Lookups.{step_at}
use Rattle.played_machine.specs.Drawing.{one_of}
use Rattle.runner_witness.specs.Raises.{RaisesTell}

pub tells : RaisesTell
unfolding one_of step_at
tells = record {
  caught = λ bytes. refl;
  caught_above = λ bytes. refl;
  too_few = refl;
  goes_out = λ bytes. refl;
  no_frame = λ bytes. refl;
  lands_there = λ v. refl;
  lands_here = λ v. refl;
  all_gone = λ v. refl;
  goes_on = λ v. refl;
  without_code = λ values. refl;
}
