-- The law is proved over definitions alone.
use Rattle.cell_rules.proofs.Searching.{readers_are_met}
use Rattle.cell_rules.proofs.readers_are_met.Goals as goal

pub returns : goal.returns
returns c = readers_are_met
