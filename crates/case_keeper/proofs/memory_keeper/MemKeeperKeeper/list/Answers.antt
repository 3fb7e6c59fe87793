use Rattle.std.proofs.Common.{◌≡◌, ◌∙◌, ℕ, List, ap}
use Rattle.std.proofs.lemmas.Option.{same_Some}
use Rattle.case_rules.specs.declared.case.Case.{Case}
use Rattle.case_rules.specs.Cases.{lines_of, own_lines}
use Rattle.case_keeper.specs.MemoryKeeper.{Kept, cases_at}
use Rattle.case_keeper.proofs.Held.{own_cases}
use Rattle.case_keeper.proofs.memory_keeper.MemKeeperKeeper.list.Goals as goal

pub returns-clause-answer : goal.returns-clause-answer
returns-clause-answer c = λ cases is.
    let inside = c.self.inside in
    let told : inside.cases.items ≡ cases = ap (λ (k : Kept). k.cases) c.self.view_is ∙ c.in_ok-begin.ensures.cases
    ∙ same_Some c.args.self.now.cases cases is in
    c.in_ok-lines_at.ensures
    ∙ ap (λ (xs : List Case). lines_of (cases_at xs c.places_of-places.result.now)) c.deref.ensures.value
    ∙ ap (λ (ps : List ℕ). lines_of (cases_at inside.cases.items ps)) c.places_of-places.ensures
    ∙ ap lines_of (own_cases inside.cases.items inside.index c.args.party.now c.self.invariant.index)
    ∙ ap (own_lines c.args.party.now) told
