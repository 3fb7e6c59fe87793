use Rattle.std.proofs.Common.{◌≡◌, ◌++◌, take}
use Rattle.link_access.specs.Access.{methods_of}
use Rattle.link_access.proofs.access.add_methods.Given as goal

abbrev pub invariant-loop-body : goal.invariant-loop-body
invariant-loop-body l = l.methods.items ≡ l.initial.methods.items ++ methods_of l.dex (take l.body-index l.bodies)
