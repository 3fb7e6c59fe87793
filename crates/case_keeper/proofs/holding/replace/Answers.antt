use Rattle.std.proofs.Common.{◌≡◌, ◌<◌, ◌∙◌, List, Some, None, false, length, find, is_some, slice_set, sym, ap, subst, arith}
use Rattle.std.proofs.lemmas.Bool.{false≢true}
use Rattle.std.specs.List.{slice_get}
use Rattle.std.specs.Option.{option_and_then}
use Rattle.vet_base.specs.Members.{first_index}
use Rattle.vet_base.proofs.Firsts.{index_below}
use Rattle.case_rules.specs.declared.case.Case.{Case}
use Rattle.case_rules.specs.Cases.{is_named, is_queued, amended}
use Rattle.case_keeper.specs.MemoryKeeper.{IsIndex, NotesChange, amended_by}
use Rattle.case_keeper.proofs.Counting.{waits_within, waits_itself}
use Rattle.case_keeper.proofs.Indexed.{index_stays, index_changes}
use Rattle.case_keeper.proofs.Leaving.{leaves_by, party_kept}
use Rattle.case_keeper.proofs.Placed.{found_by_place, found_at, amended_at}
use Rattle.case_keeper.proofs.holding.replace.Goals as goal

pub unreachable-requires : goal.unreachable-requires
unreachable-requires c =
    let test = is_named c.args.party.now c.args.reference.now in
    let cases = c.args.cases.now.items in
    let named = c.requires.index.named c.args.party.now c.args.reference.now in
    let none : first_index test cases ≡ None = sym named ∙ sym c.in_ok-place.ensures ∙ c.in_default.is in
    let missed : find test cases ≡ None = sym (found_by_place test cases)
    ∙ ap (option_and_then (slice_get cases)) none in
    false≢true (sym (ap is_some missed) ∙ c.requires.there)

pub index-old-requires : goal.index-old-requires
index-old-requires c =
    let test = is_named c.args.party.now c.args.reference.now in
    let cases = c.args.cases.now.items in
    let named = c.requires.index.named c.args.party.now c.args.reference.now in
    let there : first_index test cases ≡ Some c.in-Some.place = sym named ∙ sym c.in_ok-place.ensures ∙ c.in-Some.is in
    let within : c.in-Some.place < length cases = index_below test cases c.in-Some.place there in
    omega (arith, c.args.cases.now.ok.0)

pub index_mut-requires : goal.index_mut-requires
index_mut-requires c =
    let test = is_named c.args.party.now c.args.reference.now in
    let cases = c.args.cases.now.items in
    let named = c.requires.index.named c.args.party.now c.args.reference.now in
    let there : first_index test cases ≡ Some c.in-Some.place = sym named ∙ sym c.in_ok-place.ensures ∙ c.in-Some.is in
    let within : c.in-Some.place < length cases = index_below test cases c.in-Some.place there in
    omega (arith, c.args.cases.now.ok.0)

pub note_change-requires-clause-party : goal.note_change-requires-clause-party
note_change-requires-clause-party c =
    let change = c.args.change.now in
    let old = c.index-old.result.now in
    ap (λ (z : Case). z.party) c.in_ok-case.ensures ∙ party_kept change old

pub note_change-requires-clause-counted : goal.note_change-requires-clause-counted
note_change-requires-clause-counted c = λ queued.
    let test = is_named c.args.party.now c.args.reference.now in
    let cases = c.args.cases.now.items in
    let old = c.index-old.result.now in
    let named = c.requires.index.named c.args.party.now c.args.reference.now in
    let there : first_index test cases ≡ Some c.in-Some.place = sym named ∙ sym c.in_ok-place.ensures ∙ c.in-Some.is in
    let found : find test cases ≡ Some old = found_at test cases c.in-Some.place old there c.index-old.ensures in
    omega (
      arith,
      c.requires.index.waiting old.party,
      waits_within test old.party cases old found,
      waits_itself old queued,
    )

pub note_change-requires-clause-stays : goal.note_change-requires-clause-stays
note_change-requires-clause-stays c = λ past.
    subst (λ (z : Case). is_queued z ≡ false) (sym c.in_ok-case.ensures)
    ((leaves_by c.args.change.now).past c.index-old.result.now past)

pub returns-in_err-note_change-clause-index : goal.returns-in_err-note_change-clause-index
returns-in_err-note_change-clause-index c =
    index_stays c.args.cases.now.items c.args.index.now c.note_change.new.index c.requires.index
    c.in_err-note_change.ensures.err

pub returns-clause-ok : goal.returns-clause-ok
returns-clause-ok c =
    let test = is_named c.args.party.now c.args.reference.now in
    let cases = c.args.cases.now.items in
    let named = c.requires.index.named c.args.party.now c.args.reference.now in
    let there : first_index test cases ≡ Some c.in-Some.place = sym named ∙ sym c.in_ok-place.ensures ∙ c.in-Some.is in
    ap (λ (z : Case). slice_set cases c.in-Some.place z) c.in_ok-case.ensures
    ∙ amended_at test
    (amended_by c.args.change.now) cases c.in-Some.place c.index-old.result.now there c.index-old.ensures

pub returns-clause-index : goal.returns-clause-index
returns-clause-index c =
    let test = is_named c.args.party.now c.args.reference.now in
    let f = amended_by c.args.change.now in
    let cases = c.args.cases.now.items in
    let place = c.in-Some.place in
    let old = c.index-old.result.now in
    let before = c.args.index.now in
    let after = c.note_change.new.index in
    let named = c.requires.index.named c.args.party.now c.args.reference.now in
    let there : first_index test cases ≡ Some place = sym named ∙ sym c.in_ok-place.ensures ∙ c.in-Some.is in
    let found : find test cases ≡ Some old = found_at test cases place old there c.index-old.ensures in
    let changed : slice_set cases place c.in_ok-case.case ≡ amended test f cases =
    ap (λ (z : Case). slice_set cases place z) c.in_ok-case.ensures
    ∙ amended_at test f cases place old there c.index-old.ensures in
    let notes : NotesChange before after place old (f old) =
    subst (λ (z : Case). NotesChange before after place old z) c.in_ok-case.ensures
    c.in_ok-note_change.ensures.ok in
    subst (λ (xs : List Case). IsIndex xs after) (sym changed)
    (index_changes test f cases before after place old (leaves_by c.args.change.now) c.requires.index there found
    c.index-old.ensures notes)
