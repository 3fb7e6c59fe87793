use Rattle.std.proofs.Common.{fold, sym, ap, subst}
use Rattle.app_machine.specs.declared.app.App.{App}
use Rattle.app_machine.specs.Names.{Name}
use Rattle.event_rules.specs.GivenBack.{TakesNone}
use Rattle.cell_event_rules.proofs.NothingBack.{entry_nothing}
use Rattle.cell_event_rules.proofs.events_reached.reach_event.Goals as goal

pub returns-then-takes_nothing : goal.returns-then-takes_nothing
returns-then-takes_nothing g c =
    let index = c.args.with.now.index.now in
    let none : (class : Name) → TakesNone index.0 index.1 class c.args.by.method = λ class.
    subst (λ (app : App). TakesNone app index.1 class c.args.by.method) c.app.ensures (c.takes_nothing.ensures c.if-takes_nothing.true index.1 class) in
    ap (fold g.S.Sink.then c.args.out.now) (sym (entry_nothing index.0 c.args.with.now.readers.now index.1 (g.F.Facts.hits c.args.facts.now) c.args.by none))
