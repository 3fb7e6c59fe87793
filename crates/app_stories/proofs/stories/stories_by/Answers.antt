use Rattle.std.proofs.Common.{subst, sym}
use Rattle.flow_trail.specs.Trails.{AreSame}
use Rattle.vet_base.specs.Members.{In}
use Rattle.app_stories.proofs.Gathered.{in_own_rows, same_itself}
use Rattle.app_stories.proofs.stories.stories_by.Goals as goal

pub stories_along-requires-clause-there : goal.stories_along-requires-clause-there
stories_along-requires-clause-there g c =
    in_own_rows c.new-places.result c.args.goals.now c.in_ok-trail.trail c.in_ok-trail.ensures
    (λ row is. subst (λ z. In row z) (sym c.new-places.ensures) (c.requires.there row is))

pub trail_of-requires-clause-same : goal.trail_of-requires-clause-same
trail_of-requires-clause-same g c = subst (AreSame c.args.rows.now) (sym c.new-places.ensures) (same_itself c.args.rows.now)
