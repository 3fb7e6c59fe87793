use Rattle.std.proofs.Common.{◌≡◌, take}
use Rattle.link_access.specs.Access.{fields_of}
use Rattle.link_access.proofs.access.fields_of.Given as goal

abbrev pub invariant-loop-member : goal.invariant-loop-member
invariant-loop-member l = l.fields.items ≡ fields_of l.dex (take l.member-index l.members)
