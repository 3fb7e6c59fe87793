use Rattle.std.proofs.Common.{◌≡◌, map}
use Rattle.desk_links.specs.Memory.{fresh}
use Rattle.desk_links.proofs.mem_door.conversations.Given as goal

abbrev pub invariant-loop-input : goal.invariant-loop-input
invariant-loop-input l = l.tapes.items ≡ map (λ input. fresh l.room input.items) l.yielded
