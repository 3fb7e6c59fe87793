use Rattle.std.proofs.Common.{◌≡◌, take, map}
use Rattle.link_code.specs.Methods.{lifted, Narrow}
use Rattle.link_code.proofs.methods.methods_of.Given as goal

abbrev pub invariant-loop-method : goal.invariant-loop-method
invariant-loop-method l = (l.methods.items ≡ map (lifted l.app l.fields.entries l.statics l.dexes) (take l.method-index l.coded)) × Narrow l.methods.items
