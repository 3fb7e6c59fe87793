use Rattle.vet_base.specs.Script.{run, each}
use Rattle.vet_base.proofs.Eaches.{Eaches}
use Rattle.link_listing.specs.MemberRows.{one_field}
use Rattle.link_listing.proofs.members.add_fields.Given as goal

abbrev pub invariant-loop-member : goal.invariant-loop-member
invariant-loop-member l = Eaches l.members l.member-index (one_field l.dex l.class l.is_static) l.fields.entries (run (each (one_field l.dex l.class l.is_static) l.members l.fn.fields.entries))
