use Rattle.std.proofs.Common.{◌++◌, sym, ap, ◌∙◌, append_assoc}
use Rattle.runner_given.specs.Given.{live_in}
use Rattle.runner_given.proofs.others.others_there.Goals as goal
use Rattle.runner_world.specs.Shown.{life_at}

pub returns : goal.returns
returns c =
    ap (λ ps. c.args.world.now.handed ++ ps) c.in_ok-add_live.ensures
    ∙ (sym (append_assoc c.args.world.now.handed c.in_ok-others.others.items (live_in c.args.app.now (life_at c.args.world.now.components)))
    ∙ ap (λ ps. ps ++ live_in c.args.app.now (life_at c.args.world.now.components)) (sym c.in_ok-others.ensures))
