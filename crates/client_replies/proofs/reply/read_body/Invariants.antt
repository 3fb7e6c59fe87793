use Rattle.std.proofs.Common.{◌≤◌, ◌-◌, vec_len}
use Rattle.desk_http.specs.Came.{Takes}
use Rattle.client_replies.proofs.reply.read_body.Given as goal

abbrev pub invariant-loop-body : goal.invariant-loop-body
invariant-loop-body g l = record {
  takes : Takes (g.L.Link.told l.initial.link) l.initial.body.items (g.L.Link.told l.link) l.body.items;
  never_falls : g.L.Link.fault_count l.initial.link ≤ g.L.Link.fault_count l.link;
}

abbrev pub decreases-loop-body : goal.decreases-loop-body
decreases-loop-body g l = l.count - vec_len l.body
