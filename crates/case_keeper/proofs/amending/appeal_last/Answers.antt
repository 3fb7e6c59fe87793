use Rattle.std.proofs.Common.{◌∙◌, ◌++◌, ◌∷◌, [], ap}
use Rattle.case_rules.specs.declared.case.Appeal.{Appeal}
use Rattle.case_rules.specs.Cases.{appeal_entry}
use Rattle.case_keeper.proofs.Ends.{changed_at_end}
use Rattle.case_keeper.proofs.amending.appeal_last.Goals as goal

pub returns-in_ok-push-in-Some : goal.returns-in_ok-push-in-Some
returns-in_ok-push-in-Some c =
    let front = c.pop.new.self.items in
    c.in_ok-push-in-Some.ensures.items
    ∙ ap (λ (x : Appeal). front ++ appeal_entry x c.in-Some.entry ∷ []) c.in_ok-appeal.ensures
    ∙ changed_at_end
    (appeal_entry c.args.appeal.now) front c.args.entries.now.items c.in-Some.entry c.in-Some.ensures.items
