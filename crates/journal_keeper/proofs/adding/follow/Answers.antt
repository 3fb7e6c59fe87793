use Rattle.std.proofs.Common.{sym, subst, Option, Some}
use Rattle.journal_reading.specs.declared.opening.Opened.{Opened}
use Rattle.journal_keeper.specs.Adding.{Follows}
use Rattle.journal_keeper.proofs.adding.follow.Goals as goal

pub returns : goal.returns
returns c =
    subst (λ (o : Option Opened). Follows c.args.change.now o (Some c.make_held.new.opened)) (sym c.in-Some.is) c.in-Ok.ensures
