use Rattle.vet_base.specs.Script.{run, through}
use Rattle.vet_base.proofs.Throughs.{Through}
use Rattle.link_listing.specs.MemberRows.{nth_method}
use Rattle.link_listing.proofs.members.add_methods.Given as goal

abbrev pub invariant-loop-i : goal.invariant-loop-i
invariant-loop-i l = Through l.bodies l.i (nth_method l.dex l.class l.first) l.methods.entries (run (through (nth_method l.dex l.class l.first) 0 l.bodies l.fn.methods.entries))
