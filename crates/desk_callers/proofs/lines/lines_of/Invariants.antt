use Rattle.std.proofs.Common.{◌≡◌, map, option_map}
use Rattle.desk_callers.specs.Memory.{line}
use Rattle.desk_callers.proofs.lines.lines_of.Given as goal

abbrev pub invariant-loop-reply : goal.invariant-loop-reply
invariant-loop-reply l = l.lines.items ≡ map (λ reply. line l.room (option_map (λ bytes. bytes.items) reply)) l.yielded
