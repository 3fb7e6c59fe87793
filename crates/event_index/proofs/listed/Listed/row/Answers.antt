use Rattle.event_index.proofs.ListedRows.{row_is}
use Rattle.event_index.proofs.listed.Listed.row.Goals as goal

pub returns-in-Some-clause-some : goal.returns-in-Some-clause-some
returns-in-Some-clause-some c = row_is c.args.self.now c.requires c.args.name.now c.in-Some.number c.row_at.result.now c.in-Some.ensures.some c.row_at.ensures
