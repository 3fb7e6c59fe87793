use Rattle.std.proofs.Common.{sym, ◌∙◌}
use Rattle.dex_tables.proofs.Leb.{sleb_next}
use Rattle.dex_tables.proofs.parts.sleb_of.Goals as goal

pub returns-in-Some-clause-forward : goal.returns-in-Some-clause-forward
returns-in-Some-clause-forward c =
    sleb_next c.args.file.now c.args.at (c.in-Some.value, c.in-Some.next) (sym c.read_sleb.ensures.value ∙ c.in-Some.is)
