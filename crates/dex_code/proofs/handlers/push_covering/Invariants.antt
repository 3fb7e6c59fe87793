use Rattle.std.proofs.Common.{◌≡◌, ◌++◌, map, take}
use Rattle.dex_code.specs.Next.{covering}
use Rattle.dex_code.proofs.handlers.push_covering.Given as goal

abbrev pub invariant-loop-item : goal.invariant-loop-item
invariant-loop-item l = l.found.items ≡ l.initial.found.items ++ covering (take l.item-index (map (λ t. t.now) l.tries)) l.pc
