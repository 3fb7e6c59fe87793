use Rattle.std.proofs.Common.{◌≡◌, ◌≤◌, ◌-◌, length}
use Rattle.std.specs.Prelude.{IfSome}
use Rattle.gated_log.proofs.Pieces.{HasRead}
use Rattle.gated_log.proofs.reading.fill.Given as goal

abbrev pub invariant-loop-count : goal.invariant-loop-count
invariant-loop-count g l = record {
  within : l.count ≤ length l.room;
  size : length l.room ≡ length l.initial.room;
  read : IfSome (g.D.Disk.told l.initial.disk) (λ t. HasRead t.now.bytes l.at l.count l.room);
  told : g.D.Disk.told l.disk ≡ g.D.Disk.told l.initial.disk;
  cause : g.D.Disk.fault_count l.disk ≡ g.D.Disk.fault_count l.initial.disk;
}

abbrev pub decreases-loop-count : goal.decreases-loop-count
decreases-loop-count g l = length l.room - l.count
