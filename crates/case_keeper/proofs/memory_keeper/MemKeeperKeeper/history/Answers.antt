use Rattle.std.proofs.Common.{◌≡◌, ◌∙◌, List, Some, find, sym, ap}
use Rattle.std.proofs.lemmas.Option.{same_Some}
use Rattle.std.specs.List.{slice_get}
use Rattle.std.specs.Option.{option_copied, option_and_then, option_map}
use Rattle.std.specs.BTreeMap.{get}
use Rattle.case_rules.specs.declared.case.Case.{Case}
use Rattle.case_rules.specs.declared.case.Entry.{Entry}
use Rattle.case_rules.specs.Cases.{name_cmp, is_named}
use Rattle.case_keeper.specs.Keeper.{history_of}
use Rattle.case_keeper.specs.MemoryKeeper.{Kept}
use Rattle.case_keeper.proofs.Placed.{found_by_place}
use Rattle.case_keeper.proofs.memory_keeper.MemKeeperKeeper.history.Goals as goal

pub returns-in_default-clause-answer : goal.returns-in_default-clause-answer
returns-in_default-clause-answer c = λ cases is.
    let inside = c.self.inside in
    let test = is_named c.args.party.now c.args.reference.now in
    let told : inside.cases.items ≡ cases = ap (λ (k : Kept). k.cases) c.self.view_is ∙ c.in_ok-begin.ensures.cases
    ∙ same_Some c.args.self.now.cases cases is in
    ap (option_map (λ (z : Case). z.entries))
    (sym (ap option_copied c.in_default.is) ∙ c.in_ok-case.ensures
    ∙ ap (λ (xs : List Case). option_and_then (slice_get xs)
    (get name_cmp inside.index.places (c.args.party.now, c.args.reference.now))) c.deref.ensures.value
    ∙ ap (option_and_then (slice_get inside.cases.items))
    (c.self.invariant.index.named c.args.party.now c.args.reference.now)
    ∙ found_by_place test inside.cases.items)
    ∙ ap (history_of c.args.party.now c.args.reference.now) told

pub returns-clause-answer : goal.returns-clause-answer
returns-clause-answer c = λ cases is.
    let inside = c.self.inside in
    let test = is_named c.args.party.now c.args.reference.now in
    let told : inside.cases.items ≡ cases = ap (λ (k : Kept). k.cases) c.self.view_is ∙ c.in_ok-begin.ensures.cases
    ∙ same_Some c.args.self.now.cases cases is in
    ap (λ (es : List Entry). Some es) c.in_ok-copy.ensures
    ∙ ap (option_map (λ (z : Case). z.entries))
    (sym (ap option_copied c.in-Some.is) ∙ c.in_ok-case.ensures
    ∙ ap (λ (xs : List Case). option_and_then (slice_get xs)
    (get name_cmp inside.index.places (c.args.party.now, c.args.reference.now))) c.deref.ensures.value
    ∙ ap (option_and_then (slice_get inside.cases.items))
    (c.self.invariant.index.named c.args.party.now c.args.reference.now)
    ∙ found_by_place test inside.cases.items)
    ∙ ap (history_of c.args.party.now c.args.reference.now) told
