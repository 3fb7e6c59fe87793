use Rattle.std.proofs.Common.{◌≡◌, ◌≤◌, ◌-◌, []}
use Rattle.std.specs.Prelude.{IfSome}
use Rattle.journal_reading.proofs.Readings.{IsAt}
use Rattle.journal_reading.proofs.replaying.replay.Given as goal

abbrev pub invariant-loop-end : goal.invariant-loop-end
invariant-loop-end g l = record {
  within : l.end ≤ l.len;
  read : IfSome (g.D.Disk.told l.initial.disk) (IsAt l.end l.held.cases);
  unfailing : l.held.failing ≡ [];
  told : g.D.Disk.told l.disk ≡ g.D.Disk.told l.initial.disk;
  cause : g.D.Disk.fault_count l.disk ≡ g.D.Disk.fault_count l.initial.disk;
}

abbrev pub decreases-loop-end : goal.decreases-loop-end
decreases-loop-end g l = l.len - l.end
