use Rattle.std.proofs.Common.{◌≡◌, take}
use Rattle.outcomes.specs.Spots.{undeclared_in}
use Rattle.outcomes.proofs.findings.undeclared_in.Given as goal

abbrev pub invariant-loop-row : goal.invariant-loop-row
invariant-loop-row l = l.undeclared.items ≡ undeclared_in l.lists (record { pairs = l.declared.keys }) (take l.row-index l.rows)
