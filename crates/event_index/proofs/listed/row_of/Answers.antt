use Rattle.event_index.specs.Listed.{listed_test}
use Rattle.event_index.proofs.Rows.{has_first}
use Rattle.event_index.proofs.listed.row_of.Goals as goal

pub returns : goal.returns
returns c = has_first c.args.kinds.now (listed_test c.args.class.now) c.in_ok-row.row c.fill.new.row c.in_ok-row.ensures c.fill.ensures
