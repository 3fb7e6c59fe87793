use Rattle.vet_base.specs.Script.{run}
use Rattle.method_fields.specs.Signature.{key_once, keys_once}
use Rattle.method_fields.proofs.signature.keys_once.Given as goal
use Rattle.vet_base.proofs.Eaches.{Eaches}

abbrev pub invariant-loop-key : goal.invariant-loop-key
invariant-loop-key l = Eaches l.keys l.key-index key_once l.seen (run (keys_once l.keys))
