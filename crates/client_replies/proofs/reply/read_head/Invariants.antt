use Rattle.std.proofs.Common.{◌≤◌, ◌-◌, [], vec_len}
use Rattle.desk_http.specs.Came.{Takes}
use Rattle.desk_http.specs.Heads.{HasNoEnd}
use Rattle.client_replies.proofs.reply.read_head.Given as goal

abbrev pub invariant-loop-bytes : goal.invariant-loop-bytes
invariant-loop-bytes g l = record {
  takes : Takes (g.L.Link.told l.initial.link) [] (g.L.Link.told l.link) l.bytes.items;
  none : HasNoEnd l.bytes.items (vec_len l.bytes);
  within : vec_len l.bytes ≤ 16384;
  never_falls : g.L.Link.fault_count l.initial.link ≤ g.L.Link.fault_count l.link;
}

abbrev pub decreases-loop-bytes : goal.decreases-loop-bytes
decreases-loop-bytes g l = 16384 - vec_len l.bytes
