use Rattle.std.proofs.Common.{◌≡◌, ◌++◌, map, take}
use Rattle.dex_code.specs.Lines.{Line}
use Rattle.dex_code.specs.Handlers.{catches_beside}
use Rattle.dex_code.proofs.handlers.push_each.Given as goal

abbrev pub invariant-loop-line : goal.invariant-loop-line
invariant-loop-line l = l.found.items ≡ l.initial.found.items ++ map (λ (line : Line). catches_beside l.shared (map (λ t. t.now) l.tries) line.0) (take l.line-index l.lines)
