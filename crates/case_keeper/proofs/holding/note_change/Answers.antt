use Rattle.std.proofs.Common.{◌≡◌, ◌∙◌, ◌+◌, ◌==◌, ℕ, Bool, false, cond, refl, sym, ap}
use Rattle.std.specs.Ordering.{nat_cmp}
use Rattle.std.specs.BTreeSet.{contains}
use Rattle.case_rules.specs.Cases.{is_queued}
use Rattle.case_keeper.specs.MemoryKeeper.{waiting_for}
use Rattle.case_keeper.proofs.Counting.{waits_alike}
use Rattle.case_keeper.proofs.holding.note_change.Goals as goal
use Rattle.case_keeper.proofs.holding.note_change.Goals.{else-is_queued-via-then-is_queued+else-not-is_queued, else-is_queued-via-else-is_queued}

pub returns-else-is_queued-clause-ok : goal.returns-else-is_queued-clause-ok
returns-else-is_queued-clause-ok c =
    let before = c.args.index.now in
    let same_state : is_queued c.args.new.now ≡ is_queued c.args.old.now = elim c.else-is_queued.branch [
      | else-is_queued-via-then-is_queued+else-not-is_queued w ↦
          sym w.is_queued-then-is_queued.ensures ∙ w.if-not-is_queued.false ∙ sym w.if-is_queued.true
          ∙ c.is_queued.ensures
      | else-is_queued-via-else-is_queued w ↦
          let past : is_queued c.args.old.now ≡ false = sym c.is_queued.ensures ∙ w.if-is_queued.false in
          c.requires.stays past ∙ sym past
    ] in
    record {
      places = refl;
      owned = refl;
      waiting = λ party. ap (λ (n : ℕ). waiting_for before.waiting party + n)
          (waits_alike party c.args.old.now c.args.new.now c.requires.party same_state);
      open_places = λ other. c.in_ok-note_appeal.ensures.ok other
          ∙ ap (λ (b : Bool). cond (c.args.place == other) b (contains nat_cmp before.appealed other))
          c.has_open_appeal.ensures;
    }
