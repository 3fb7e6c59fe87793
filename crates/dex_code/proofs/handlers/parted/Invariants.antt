use Rattle.std.proofs.Common.{map, take}
use Rattle.dex_code.specs.Handlers.{IsParted}
use Rattle.dex_code.proofs.handlers.parted.Given as goal

abbrev pub invariant-loop-item : goal.invariant-loop-item
invariant-loop-item l = IsParted l.first l.last (take l.item-index (map (λ t. t.now) l.tries)) l.shared.items (map (λ t. t.now) l.left.items)
