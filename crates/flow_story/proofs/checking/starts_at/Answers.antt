use Rattle.std.proofs.Common.{slice_get, sym, ◌∙◌}
use Rattle.flow_story.proofs.Looking.{tested}
use Rattle.flow_story.proofs.checking.starts_at.Goals as goal

pub returns-in-Some : goal.returns-in-Some
returns-in-Some g c =
    tested (slice_get (g.R.RuleSet.starts c.args.rules.now) c.args.place) c.in-Some.start c.args.row.now c.eq.result (sym c.start.ensures ∙ c.in-Some.is) c.eq.ensures
