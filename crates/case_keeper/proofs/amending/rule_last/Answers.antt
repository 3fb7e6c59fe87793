use Rattle.std.proofs.Common.{◌∙◌, ◌++◌, ◌∷◌, [], ap}
use Rattle.case_rules.specs.declared.case.Ruling.{Ruling}
use Rattle.case_rules.specs.Cases.{rule_entry}
use Rattle.case_keeper.proofs.Ends.{changed_at_end}
use Rattle.case_keeper.proofs.amending.rule_last.Goals as goal

pub returns-in_ok-push-in-Some : goal.returns-in_ok-push-in-Some
returns-in_ok-push-in-Some c =
    let front = c.pop.new.self.items in
    c.in_ok-push-in-Some.ensures.items
    ∙ ap (λ (x : Ruling). front ++ rule_entry x c.in-Some.entry ∷ []) c.in_ok-ruling.ensures
    ∙ changed_at_end
    (rule_entry c.args.ruling.now) front c.args.entries.now.items c.in-Some.entry c.in-Some.ensures.items
