-- What a read gives of a log that stands, and what a crash leaves of it: what was before the gate, and where the gate was
-- touched, with the record behind it or without.
use Rattle.std.proofs.Common.{ℕ, List}
use Rattle.disks.specs.Disks.{Told, MayLeave}
use Rattle.gated_log.specs.declared.log.Gate.{Gate}
use Rattle.gated_log.specs.declared.log.Gate.TheVariants.{Closed, Behind, Touched}
use Rattle.gated_log.specs.declared.log.Log.{Log}
use Rattle.gated_log.specs.Ends.{StandsBehind, Stands, LeftAt, front_at}
use Rattle.gated_log.proofs.Shutting.{behind_ended, closed_ended}
use Rattle.gated_log.proofs.Standing.{by_gate, touched_left}

module _ (log : Log) (t : Told) (stands : Stands log t) where
  pub is_read : LeftAt log.gate (front_at log.end t) t.now t.now.bytes
  is_read = of_gate log.gate stands.gate
    where
      of_gate : (gate : Gate) → StandsBehind gate (front_at log.end t) t.now → LeftAt gate (front_at log.end t) t.now t.now.bytes
      of_gate Closed is = closed_ended.here (front_at log.end t) t.now is
      of_gate Behind is = behind_ended.here (front_at log.end t) t.now is
      of_gate Touched is = (is.0, (is.1, by_gate (front_at log.end t) is.0 is.1.gate t.now.bytes is.1.is))

  pub is_left : (left : List ℕ) → MayLeave t.now left → LeftAt log.gate (front_at log.end t) t.now left
  is_left left may = of_gate log.gate stands.gate
    where
      of_gate : (gate : Gate) → StandsBehind gate (front_at log.end t) t.now → LeftAt gate (front_at log.end t) t.now left
      of_gate Closed is = closed_ended.left (front_at log.end t) t.now is left may
      of_gate Behind is = behind_ended.left (front_at log.end t) t.now is left may
      of_gate Touched is = (is.0, (is.1, touched_left (front_at log.end t) is.0 t.now left is.1 may))
