use Rattle.std.proofs.Common.{◌≡◌, ◌∙◌, ap}
use Rattle.std.proofs.lemmas.Option.{same_Some}
use Rattle.case_rules.specs.Cases.{queued_of}
use Rattle.case_keeper.specs.MemoryKeeper.{Kept}
use Rattle.case_keeper.proofs.memory_keeper.MemKeeperKeeper.queued.Goals as goal

pub returns-clause-answer : goal.returns-clause-answer
returns-clause-answer c = λ cases is.
    let inside = c.self.inside in
    let told : inside.cases.items ≡ cases = ap (λ (k : Kept). k.cases) c.self.view_is ∙ c.in_ok-begin.ensures.cases
    ∙ same_Some c.args.self.now.cases cases is in
    c.waiting_of.ensures ∙ c.self.invariant.index.waiting c.args.party.now ∙ ap (queued_of c.args.party.now) told
