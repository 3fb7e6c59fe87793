use Rattle.vet_base.specs.Script.{run, through}
use Rattle.link_listing.specs.MemberRows.{class_members}
use Rattle.link_listing.proofs.members.add_dex_members.Given as goal
use Rattle.vet_base.proofs.Throughs.{Through}

abbrev pub invariant-loop-c : goal.invariant-loop-c
invariant-loop-c l = Through l.dex.classes l.c (class_members l.d l.dex) (l.members.fields.entries, l.members.methods.entries) (run (through (class_members l.d l.dex) 0 l.dex.classes (l.fn.members.fields.entries, l.fn.members.methods.entries)))
