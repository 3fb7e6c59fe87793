use Rattle.std.proofs.Common.{Some, None}
use Rattle.case_keeper.proofs.Indexed.{forgotten, notes_name}
use Rattle.case_keeper.proofs.holding.note_place.Goals as goal

pub returns-clause-named : goal.returns-clause-named
returns-clause-named c =
    notes_name c.args.places.now c.insert.new.self c.args.case.now (Some c.args.place) c.in_ok-name.name
    c.in_ok-name.ensures c.in_ok-insert.ensures.updates.0

pub returns-clause-owned : goal.returns-clause-owned
returns-clause-owned c = c.in_default.ensures.ok

pub returns-in-Err-clause-forgotten : goal.returns-in-Err-clause-forgotten
returns-in-Err-clause-forgotten c =
    let case = c.args.case.now in
    forgotten c.args.places.now c.insert.new.self c.remove.new.self case c.args.place c.requires
    (notes_name c.args.places.now c.insert.new.self case (Some c.args.place) c.in_ok-name.name
    c.in_ok-name.ensures c.in_ok-insert.ensures.updates.0)
    (notes_name c.insert.new.self c.remove.new.self case None c.in_ok-again.again
    c.in_ok-again.ensures c.remove.ensures.updates.0)
