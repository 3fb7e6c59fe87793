use Rattle.std.proofs.Common.{◌≡◌, ◌∷◌, map}
use Rattle.std.specs.Prelude.{flat_map}
use Rattle.std.specs.Map.Iter.{deref_pair}
use Rattle.app_machine.specs.declared.app.Key.TheVariants.{Elem}
use Rattle.app_link.specs.Keys.{key_if}
use Rattle.app_link.proofs.keys.keys_of.Given as goal

abbrev pub invariant-loop-field : goal.invariant-loop-field
invariant-loop-field l = l.keys.items ≡ Elem ∷ flat_map key_if (map deref_pair l.yielded)
