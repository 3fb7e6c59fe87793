use Rattle.std.proofs.Common.{◌≡◌, ◌++◌, map, take}
use Rattle.dex_code.specs.Lines.{Line}
use Rattle.dex_code.proofs.handlers.push_copies.Given as goal

abbrev pub invariant-loop : goal.invariant-loop
invariant-loop l = l.found.items ≡ l.initial.found.items ++ map (λ (line : Line). l.shared) (take l.index l.lines)
