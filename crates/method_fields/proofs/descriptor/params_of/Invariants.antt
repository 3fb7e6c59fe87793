use Rattle.std.proofs.Common.{◌<◌, length}
use Rattle.vet_base.specs.Script.{run}
use Rattle.vet_base.proofs.Scripts.{Sweeps}
use Rattle.method_fields.specs.Descriptor.{has_param, param_at, params_of}
use Rattle.method_fields.proofs.descriptor.params_of.Given as goal

abbrev pub invariant-loop : goal.invariant-loop
invariant-loop l = record {
  passed : l.counter < l.at;
  params : Sweeps (length l.text) l.counter (has_param l.text) (param_at l.section l.key l.text) l.params.items l.at (run (params_of l.section l.key l.text));
}
