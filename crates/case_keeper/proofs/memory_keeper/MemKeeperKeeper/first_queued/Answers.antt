use Rattle.std.proofs.Common.{◌≡◌, ◌∙◌, List, Some, true, find, sym, ap, subst}
use Rattle.std.specs.List.{slice_get, AllWithin}
use Rattle.std.proofs.lemmas.Option.{same_Some, slice_get_within, get_or_from_slice_get}
use Rattle.case_rules.specs.declared.case.Case.{Case}
use Rattle.case_rules.specs.Cases.{is_queued}
use Rattle.case_keeper.specs.MemoryKeeper.{Kept, IsPast}
use Rattle.case_keeper.proofs.Held.{found_behind, past_on}
use Rattle.case_keeper.proofs.memory_keeper.MemKeeperKeeper.first_queued.Goals as goal

pub returns-in_default-clause-answer : goal.returns-in_default-clause-answer
returns-in_default-clause-answer c = λ cases is.
    let inside = c.self.inside in
    let searched = c.first_queued_from-self-inside in
    let told : inside.cases.items ≡ cases = ap (λ (k : Kept). k.cases) c.self.view_is ∙ c.in_ok-begin.ensures.cases
    ∙ same_Some c.args.self.now.cases cases is in
    let past = subst (λ (xs : List Case). AllWithin IsPast xs 0 inside.decided)
    (sym c.deref.ensures.value) c.self.invariant.past in
    let found = found_behind is_queued c.deref.result.now searched.result
    (past_on c.deref.result.now inside.decided searched.result past searched.ensures.past) searched.ensures.queued in
    c.in_default.ensures
    ∙ ap (λ (xs : List Case). slice_get xs searched.result) (c.deref-2.ensures.value ∙ sym c.deref.ensures.value)
    ∙ found ∙ ap (find is_queued) (c.deref.ensures.value ∙ told)

pub returns-clause-answer : goal.returns-clause-answer
returns-clause-answer c = λ cases is.
    let inside = c.self.inside in
    let searched = c.first_queued_from-self-inside in
    let told : inside.cases.items ≡ cases = ap (λ (k : Kept). k.cases) c.self.view_is ∙ c.in_ok-begin.ensures.cases
    ∙ same_Some c.args.self.now.cases cases is in
    let past = subst (λ (xs : List Case). AllWithin IsPast xs 0 inside.decided)
    (sym c.deref.ensures.value) c.self.invariant.past in
    let found = found_behind is_queued c.deref.result.now searched.result
    (past_on c.deref.result.now inside.decided searched.result past searched.ensures.past) searched.ensures.queued in
    ap (λ (z : Case). Some z) c.in_ok-copy.ensures ∙ c.in-Some.ensures
    ∙ ap (λ (xs : List Case). slice_get xs searched.result) (c.deref-2.ensures.value ∙ sym c.deref.ensures.value)
    ∙ found ∙ ap (find is_queued) (c.deref.ensures.value ∙ told)

pub returns-clause-queued : goal.returns-clause-queued
returns-clause-queued c =
    let searched = c.first_queued_from-self-inside in
    let copy = c.in_ok-copy.field-0 in
    let there : slice_get c.deref.result.now searched.result ≡ Some copy =
    ap (λ (xs : List Case). slice_get xs searched.result) (c.deref.ensures.value ∙ sym c.deref-2.ensures.value)
    ∙ sym c.in-Some.ensures ∙ ap (λ (z : Case). Some z) (sym c.in_ok-copy.ensures) in
    subst (λ (z : Case). is_queued z ≡ true) (get_or_from_slice_get c.deref.result.now searched.result copy copy there)
    (searched.ensures.queued copy (slice_get_within c.deref.result.now searched.result copy there))
