use Rattle.std.proofs.Common.{◌≡◌, drop}
use Rattle.dex_maker.specs.Naming.{with_handlers}
use Rattle.dex_maker.proofs.naming.name_handlers.Given as goal

abbrev pub invariant-loop-handler : goal.invariant-loop-handler
invariant-loop-handler l = with_handlers l.tables (drop l.handler-index l.handlers) ≡ with_handlers l.fn.tables l.handlers
