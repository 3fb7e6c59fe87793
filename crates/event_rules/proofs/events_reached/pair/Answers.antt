use Rattle.std.proofs.Common.{fold, sym, ap, subst}
use Rattle.app_machine.specs.declared.app.App.{App}
use Rattle.event_rules.specs.GivenBack.{TakesNone}
use Rattle.event_rules.proofs.NothingBack.{pair_nothing}
use Rattle.event_rules.proofs.events_reached.pair.Goals as goal

pub returns-then-takes_nothing : goal.returns-then-takes_nothing
returns-then-takes_nothing g c =
    let index = c.args.objects.now.taker.now in
    let class = index.2 in
    let none : TakesNone index.0 index.1 class c.args.by.method =
    subst (λ (app : App). TakesNone app index.1 class c.args.by.method) c.app.ensures (c.takes_nothing.ensures c.if-takes_nothing.true index.1 class) in
    ap (fold g.S.Sink.then c.args.out.now) (sym (pair_nothing index.0 index.1 c.args.by (g.F.Facts.hits c.args.facts.now) c.args.objects.now.site class none))
