use Rattle.std.proofs.Common.{◌≡◌, ◌++◌, take}
use Rattle.link_listing.specs.Classes.{bare_of}
use Rattle.link_listing.proofs.classes.add_bare.Given as goal

abbrev pub invariant-loop-body : goal.invariant-loop-body
invariant-loop-body l = l.bare.items ≡ l.initial.bare.items ++ bare_of l.dex (take l.body-index l.bodies)
