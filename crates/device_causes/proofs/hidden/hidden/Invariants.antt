use Rattle.std.proofs.Common.{◌≡◌, take}
use Rattle.std.specs.Prelude.{flat_map}
use Rattle.device_causes.specs.Hidden.{hidden_of}
use Rattle.device_causes.specs.Path.{IsPath}
use Rattle.device_causes.proofs.hidden.hidden.Given as goal

abbrev pub invariant-loop-class : goal.invariant-loop-class
invariant-loop-class l = record {
  path : IsPath l.app l.access.entries l.path;
  found : l.found.items ≡ flat_map (hidden_of l.app l.access.entries) (take l.class-index l.app.classes);
}
