use Rattle.std.proofs.Common.{sym}
use Rattle.std.proofs.lemmas.Option.{MatchOption-at_some}
use Rattle.event_index.proofs.AboveRows.{one_settled}
use Rattle.event_index.proofs.settling.settle.Goals as goal

pub returns-then-number-len : goal.returns-then-number-len
returns-then-number-len c =
    one_settled c.args.app.now c.args.listed.now c.args.rows.now.items c.args.number c.in-Some.class.now c.in-Some-2.row (sym c.in-Some.ensures)
    (MatchOption-at_some _ _ c.in-Some-2.row c.in-Some-2.is c.in_ok-row.ensures) c.requires.settled
