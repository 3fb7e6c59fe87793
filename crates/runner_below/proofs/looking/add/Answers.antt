use Rattle.std.proofs.Common.{Some, sym, ◌∙◌}
use Rattle.runner_below.proofs.Looked.{is_below, not_below}
use Rattle.runner_below.proofs.looking.add.Goals as goal

pub returns-then-not-is_below : goal.returns-then-not-is_below
returns-then-not-is_below c = not_below c.args.index.now.0 c.args.index.now.1 c.args.kind.now (Some c.args.class.now) c.args.place c.args.places.now.items (sym c.is_below.ensures ∙ c.if-not-is_below.true)

pub returns : goal.returns
returns c =
    c.in_ok-push.ensures.items
    ∙ is_below c.args.index.now.0 c.args.index.now.1 c.args.kind.now (Some c.args.class.now) c.args.place c.args.places.now.items (sym c.is_below.ensures ∙ c.if-not-is_below.false)
