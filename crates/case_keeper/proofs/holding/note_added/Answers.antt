use Rattle.std.proofs.Common.{◌≡◌, ◌+◌, ℕ, cond, List, refl}
use Rattle.case_rules.specs.Cases.{same}
use Rattle.case_keeper.specs.declared.placing.CaseIndex.{CaseIndex}
use Rattle.case_keeper.specs.MemoryKeeper.{SameNotes, waiting_for}
use Rattle.case_keeper.proofs.Owning.{noted_again, noted_more}
use Rattle.case_keeper.proofs.Outcomes.{ok_then, err_then}
use Rattle.case_keeper.proofs.holding.note_added.Goals as goal

pub returns-clause-ok : goal.returns-clause-ok
returns-clause-ok c =
    let case = c.args.case.now in
    let before = c.args.index.now in
    let middle = c.note_waiting.new.waiting in
    let more = c.note_waiting-2.new.waiting in
    let count = c.waiting_of-waiting.result in
    let again : (other : List ℕ) → waiting_for middle other ≡ waiting_for before.waiting other =
    noted_again before.waiting middle case.party c.in_ok-copy.field-0 count c.in_ok-copy.ensures
    c.waiting_of-waiting.ensures c.in_ok-note_waiting.ensures.ok in
    let written : (other : List ℕ) → waiting_for more other
    ≡ cond (same c.in_ok-owner.owner other) (count + 1) (waiting_for middle other) =
    ok_then c.note_waiting-2.result c.unwrap.result _ c.unwrap.ensures c.note_waiting-2.ensures.ok in
    record {
      notes = c.in_ok-note_place.ensures.named;
      owns = c.in_ok-note_place.ensures.owned;
      waiting = noted_more before.waiting middle more case.party c.in_ok-owner.owner count c.in_ok-owner.ensures
          c.waiting_of-waiting.ensures again written;
      appealed = λ _. refl;
    }

pub returns-in_err-note_place-clause-err : goal.returns-in_err-note_place-clause-err
returns-in_err-note_place-clause-err c =
    let before = c.args.index.now in
    let after : CaseIndex = record {
      places = c.note_place.new.places;
      owned = c.note_place.new.owned;
      waiting = c.note_waiting.new.waiting;
      appealed = before.appealed;
    } in
    let same_notes : SameNotes before after = record {
      places = c.in_err-note_place.ensures.forgotten;
      owned = c.in_err-note_place.ensures.left;
      waiting = noted_again before.waiting c.note_waiting.new.waiting c.args.case.now.party c.in_ok-copy.field-0
          c.waiting_of-waiting.result c.in_ok-copy.ensures c.waiting_of-waiting.ensures
          c.in_ok-note_waiting.ensures.ok;
      open_places = λ _. refl;
    } in
    err_then c.from_residual-in_err-note_place.result _ same_notes
