use Rattle.std.proofs.Common.{◌≡◌, ◌∙◌, List, ap}
use Rattle.std.proofs.lemmas.Option.{same_Some}
use Rattle.case_rules.specs.declared.case.Case.{Case}
use Rattle.case_rules.specs.Cases.{lines_of, open_lines}
use Rattle.case_keeper.specs.MemoryKeeper.{Kept, cases_at}
use Rattle.case_keeper.proofs.Appealed.{open_cases}
use Rattle.case_keeper.proofs.memory_keeper.MemKeeperKeeper.appeals.Goals as goal

pub returns-clause-answer : goal.returns-clause-answer
returns-clause-answer c = λ cases is.
    let inside = c.self.inside in
    let listed = c.in_ok-lines_of_set.ensures in
    let told : inside.cases.items ≡ cases = ap (λ (k : Kept). k.cases) c.self.view_is ∙ c.in_ok-begin.ensures.cases
    ∙ same_Some c.args.self.now.cases cases is in
    listed.lines
    ∙ ap (λ (xs : List Case). lines_of (cases_at xs inside.index.appealed.keys)) c.deref.ensures.value
    ∙ ap lines_of
    (open_cases inside.cases.items inside.index.appealed listed.ordered c.self.invariant.index.open_places)
    ∙ ap open_lines told
