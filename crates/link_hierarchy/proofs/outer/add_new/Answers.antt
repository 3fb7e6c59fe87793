use Rattle.link_hierarchy.proofs.Firsts.{same_without, was_there}
use Rattle.link_hierarchy.proofs.outer.add_new.Goals as goal

pub returns-then-not-branch-clause-same : goal.returns-then-not-branch-clause-same
returns-then-not-branch-clause-same c = same_without _ _ _ _ c.requires c.in_ok-put_once.ensures.seen (was_there _ _ c.in_ok-put_once.ensures.added c.if-not-branch.true)
