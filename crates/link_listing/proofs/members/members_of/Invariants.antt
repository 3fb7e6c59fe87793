use Rattle.std.proofs.Common.{[]}
use Rattle.vet_base.specs.Script.{run, through}
use Rattle.link_listing.specs.MemberRows.{dex_members}
use Rattle.link_listing.proofs.members.members_of.Given as goal
use Rattle.vet_base.proofs.Throughs.{Through}

abbrev pub invariant-loop-d : goal.invariant-loop-d
invariant-loop-d l = Through l.dexes l.d dex_members (l.members.fields.entries, l.members.methods.entries) (run (through dex_members 0 l.dexes ([], [])))
