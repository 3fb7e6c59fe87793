use Rattle.case_rules.specs.Cases.{is_named}
use Rattle.case_keeper.proofs.Held.{held_amended}
use Rattle.case_keeper.proofs.memory_keeper.MemKeeperKeeper.apply.Goals as goal

pub invariant_of-self-in-Continue-branch-3 : goal.invariant_of-self-in-Continue-branch-3
invariant_of-self-in-Continue-branch-3 c =
    let inside = c.self.inside in
    let test = is_named c.in-Decide.party c.in-Decide.reference in
    let replaced = c.in_ok-replace-in-Decide.ensures in
    held_amended c.args.change.now test inside.cases.items c.replace.new.cases.items inside.index c.replace.new.index
    inside.decided c.self.invariant replaced.index replaced.ok
