use Rattle.std.proofs.Common.{◌≤◌, ◌-◌, length, take}
use Rattle.desk_http.specs.Replies.{Wrote}
use Rattle.desk_client.proofs.one_try.write_all.Given as goal

abbrev pub invariant-loop-done : goal.invariant-loop-done
invariant-loop-done g l = record {
  within : l.done ≤ length l.bytes;
  never_falls : g.L.Link.fault_count l.initial.link ≤ g.L.Link.fault_count l.link;
  wrote : Wrote (g.L.Link.told l.initial.link) (g.L.Link.told l.link) (take l.done l.bytes);
}

abbrev pub decreases-loop-done : goal.decreases-loop-done
decreases-loop-done g l = length l.bytes - l.done
