use Rattle.std.proofs.Common.{◌≡◌, ◌++◌, map, take}
use Rattle.dex_code.proofs.handlers.push_addresses.Given as goal

abbrev pub invariant-loop-handler : goal.invariant-loop-handler
invariant-loop-handler l = l.found.items ≡ l.initial.found.items ++ map (λ h. h.1) (take l.handler-index l.handler-items)
