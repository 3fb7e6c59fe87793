use Rattle.std.proofs.Common.{◌∙◌}
use Rattle.fact_rows.specs.contracts.row.RowPartialEq.TheImpl.{ghosts as row_eq}
use Rattle.story_finder.proofs.Hashing.{position_is}
use Rattle.story_finder.proofs.stored.place_by_hash.Goals as goal

pub returns : goal.returns
returns c = c.place_of.ensures ∙ position_is (row_eq.eq c.args.row.now) c.args.rows.now
