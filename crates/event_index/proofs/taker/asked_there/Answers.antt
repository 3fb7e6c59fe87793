use Rattle.event_index.proofs.Pushed.{item_there}
use Rattle.event_index.proofs.Takers.{asked_where_found}
use Rattle.event_index.proofs.taker.asked_there.Goals as goal

pub returns-in-Some : goal.returns-in-Some
returns-in-Some c =
    rw c.copied.ensures
    (asked_where_found c.args.table.now.listed.kinds c.args.table.now.app.now.methods c.args.asked.now c.args.number c.args.index c.args.method.now c.in-Some.own.now c.deref.result.now c.get-in-Some.result
    c.requires.asked c.requires.there (item_there c.args.asked.now c.args.number c.in-Some.own.now c.in-Some.ensures.lookup.0 c.in-Some.ensures.lookup.1) c.deref.ensures.value c.get-in-Some.ensures.lookup.0
    c.get-in-Some.ensures.lookup.1)
