use Rattle.std.proofs.Common.{length}
use Rattle.dex_code.proofs.handlers.+fill.Given as goal

abbrev pub decreases-fill : goal.decreases-fill
decreases-fill l = length l.lines.now
