use Rattle.std.proofs.Common.{◌≡◌, drop}
use Rattle.dex_maker.specs.Naming.{with_tries}
use Rattle.dex_maker.proofs.naming.name_tries.Given as goal

abbrev pub invariant-loop-item : goal.invariant-loop-item
invariant-loop-item l = with_tries l.tables (drop l.item-index l.tries) ≡ with_tries l.fn.tables l.tries
