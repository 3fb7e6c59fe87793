use Rattle.std.proofs.Common.{◌≡◌, ◌≤◌, drop, length}
use Rattle.finding_rows.specs.Firsts.{firsts}
use Rattle.finding_rows.proofs.firsts.firsts_by.Given as goal

abbrev pub invariant-loop-place : goal.invariant-loop-place
invariant-loop-place l = (l.firsts.entries ≡ firsts l.lists (record { pairs = l.declared.keys }) (drop l.place l.rows)) × (l.place ≤ length l.rows)

abbrev pub decreases-loop-place : goal.decreases-loop-place
decreases-loop-place l = l.place
