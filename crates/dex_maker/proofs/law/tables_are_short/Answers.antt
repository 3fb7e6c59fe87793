use Rattle.dex_maker.proofs.Shortness.{listing_short}
use Rattle.dex_maker.proofs.law.tables_are_short.Goals as goal

pub returns : goal.returns
returns c = listing_short
