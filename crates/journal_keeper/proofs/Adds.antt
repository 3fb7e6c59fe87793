-- An open journal whose end was mended, or to which a record was added.
use Rattle.std.proofs.Common.{◌≡◌, ◌<◌, inl, inr, ℕ, List, ◌++◌, length, refl, sym, ◌∙◌, ap, subst, Option, Some, None, Result, Ok, Err}
use Rattle.std.specs.Prelude.{IfSome}
use Rattle.std.specs.Option.{option_map}
use Rattle.std.proofs.lemmas.Option.{same_Some}
use Rattle.vet_base.specs.Script.{run}
use Rattle.disks.specs.Disks.{Told}
use Rattle.gated_log.specs.declared.log.Gate.TheVariants.{Closed}
use Rattle.gated_log.specs.declared.log.Log.{Log}
use Rattle.gated_log.specs.Format.{EndsWithEither, record_bytes}
use Rattle.gated_log.specs.Ends.{Stands, LeavesEither, front_at, front_of}
use Rattle.gated_log.specs.Last.{IsLastAt, LastIs, KeepsLast}
use Rattle.case_rules.specs.declared.case.Case.{Case}
use Rattle.case_rules.specs.declared.reply.Change.{Change}
use Rattle.case_rules.specs.declared.reply.Change.TheVariants as changes
use Rattle.case_rules.specs.Cases.{after}
use Rattle.case_rules.specs.Docket.{Fits}
use Rattle.case_keeper.specs.MemoryKeeper.{Kept}
use Rattle.case_keeper.specs.declared.keeper.KeepFault.{KeepFault}
use Rattle.case_records.specs.Fitting.{FieldsFit, AddsBare}
use Rattle.case_records.specs.Reading.{change_of}
use Rattle.case_records.specs.Spelling.{change_bytes}
use Rattle.case_records.proofs.Again.{changes_again}
use Rattle.journal_law.specs.Fronts.{IsFront}
use Rattle.journal_law.specs.Journal.{IsTaken}
use Rattle.journal_law.proofs.Fronts.{front_added, front_holds}
use Rattle.journal_reading.specs.declared.opening.Opened.{Opened}
use Rattle.journal_reading.specs.Keeping.{Keeps, IsOpen, IsKept, MayBe, LeavesCases, StaysSafe, told_by}
use Rattle.journal_reading.proofs.Leaving.{leaves_so}
use Rattle.journal_keeper.specs.Adding.{IsAhead, WritesChange, Follows}
use Rattle.journal_keeper.proofs.Safe.{open_stays, shut_told, shut_safe}

-- The end was mended, whole or in part: the front is the same, and no other record stands behind a touched gate.
pub mended_open : (o a : Option Told) (old new : Opened) → IsOpen o old → new.held ≡ old.held → new.log.end ≡ old.log.end
    → IfSome a (Stands new.log) → front_of new.log a ≡ front_of old.log o → KeepsLast old.log new.log o a → IsOpen a new
mended_open o a old new is held end stands front last = record {
  unfailing = ap (λ (k : Kept). k.failing) held ∙ is.unfailing;
  room = subst (λ n. n < 18446744073709551615) (sym end) is.room;
  kept = by_told o a is.kept stands front last;
}
  where
    cases : new.held.cases ≡ old.held.cases
    cases = ap (λ (k : Kept). k.cases) held

    by_told : (o a : Option Told) → IfSome o (Keeps old.log old.held.cases) → IfSome a (Stands new.log) → front_of new.log a ≡ front_of old.log o
        → KeepsLast old.log new.log o a → IfSome a (Keeps new.log new.held.cases)
    by_told o None keeps stands front last = tt
    by_told None (Some u) keeps stands front last = absurd last
    by_told (Some t) (Some u) keeps stands front last = record {
      stands = stands;
      front = subst (λ (l : List ℕ). IsFront l new.held.cases) (sym (same_Some _ _ front))
          (subst (λ (cs : List Case). IsFront (front_at old.log.end t) cs) (sym cases) keeps.front);
      last = λ payload here.
          let there = keeps.last payload (last payload here) in
          (there.0, subst (λ (cs : List Case). IsTaken payload cs there.0) (sym cases) there.1);
    }

-- A change that fits adds no entries.
bare : (change : Change) (cases : List Case) → Fits change cases → AddsBare change
bare (changes.Add case) cases fits = fits.1
bare (changes.Decide party reference decision) cases fits = tt
bare (changes.Appeal party reference appeal) cases fits = tt
bare (changes.Rule party reference ruling) cases fits = tt

module _ (change : Change) (payload : List ℕ) (is : payload ≡ change_bytes change) (fields : FieldsFit change)
    (small : length payload < 18446744073709551616) where
  pub taken : (cases : List Case) → Fits change cases → IsTaken payload cases change
  taken cases fits = record {
    is = ap (λ (l : List ℕ). run (change_of l)) is ∙ changes_again change (fields, bare change cases fits);
    fits = fits;
  }

  module _ (old : Opened) (fits : Fits change old.held.cases) where
    -- the front with the record
    front_so : (t : Told) → Keeps old.log old.held.cases t → IsFront (front_at old.log.end t ++ record_bytes payload) (after change old.held.cases)
    front_so t keeps = front_added (front_at old.log.end t) old.held.cases payload change keeps.front small (taken old.held.cases fits)

    pub added_keeps : (o a : Option Told) (log : Log) → log.gate ≡ Closed → IfSome o (Keeps old.log old.held.cases) → IfSome a (Stands log)
        → front_of log a ≡ option_map (λ front. front ++ record_bytes payload) (front_of old.log o)
        → IfSome a (Keeps log (after change old.held.cases))
    added_keeps o None log shut keeps stands added = tt
    added_keeps None (Some u) log shut keeps stands added = absurd cc
    added_keeps (Some t) (Some u) log shut keeps stands added = record {
      stands = stands;
      front = subst (λ (l : List ℕ). IsFront l (after change old.held.cases)) (sym (same_Some _ _ added)) (front_so t keeps);
      last = λ other here. absurd (subst (λ g. IsLastAt g log.end u other) shut here);
    }

    -- the record was not added: the front is the same, and the record is that of this change, where one stands there
    pub unadded_open : (o a : Option Told) (new : Opened) → IsOpen o old → new.held ≡ old.held → new.log.end ≡ old.log.end
        → IfSome a (Stands new.log) → front_of new.log a ≡ front_of old.log o → IfSome a (LastIs payload new.log) → IsOpen a new
    unadded_open o a new open_before held end stands front last = record {
      unfailing = ap (λ (k : Kept). k.failing) held ∙ open_before.unfailing;
      room = subst (λ n. n < 18446744073709551615) (sym end) open_before.room;
      kept = by_told o a open_before.kept stands front last;
    }
      where
        cases : new.held.cases ≡ old.held.cases
        cases = ap (λ (k : Kept). k.cases) held

        by_told : (o a : Option Told) → IfSome o (Keeps old.log old.held.cases) → IfSome a (Stands new.log) → front_of new.log a ≡ front_of old.log o
            → IfSome a (LastIs payload new.log) → IfSome a (Keeps new.log new.held.cases)
        by_told o None keeps stands front last = tt
        by_told None (Some u) keeps stands front last = absurd cc
        by_told (Some t) (Some u) keeps stands front last = record {
          stands = stands;
          front = subst (λ (l : List ℕ). IsFront l new.held.cases) (sym (same_Some _ _ front))
              (subst (λ (cs : List Case). IsFront (front_at old.log.end t) cs) (sym cases) keeps.front);
          last = λ other here. (
            change,
            subst (λ (cs : List Case). IsTaken other cs change) (sym cases)
                (subst (λ (p : List ℕ). IsTaken p old.held.cases change) (sym (last other here)) (taken old.held.cases fits)),
          );
        }

    -- whatever a crash leaves meanwhile holds the cases, or these and the change
    pub added_moments : (o a : Option Told) → IfSome o (Keeps old.log old.held.cases) → LeavesEither old.log.end payload o a
        → LeavesCases (λ c. c ≡ change) (Some old) o a
    added_moments None None keeps run = tt
    added_moments None (Some u) keeps run = absurd run
    added_moments (Some t) None keeps run = absurd run
    added_moments (Some t) (Some u) keeps run = λ safe.
        leaves_so (λ left. EndsWithEither (front_at old.log.end t) payload left) (MayBe (Some old) t (λ c. c ≡ change)) t u (by_left t keeps) run.0
      where
        by_left : (t : Told) → Keeps old.log old.held.cases t → (left : List ℕ) → EndsWithEither (front_at old.log.end t) payload left
            → MayBe (Some old) t (λ c. c ≡ change) left
        by_left t keeps left (inl ends) = inl (front_holds (front_at old.log.end t) left old.held.cases keeps.front ends)
        by_left t keeps left (inr ends) =
            inr (change, (inr refl, front_holds (front_at old.log.end t ++ record_bytes payload) left (after change old.held.cases) (front_so t keeps) ends))

-- The record of a change was written, and the keeper in memory has the change too, or the journal is forgotten.
module _ (change : Change) (first ahead : Opened) where
  caught_up : (told : Option Told) (p : Opened) → p.log ≡ ahead.log → p.held.cases ≡ after change ahead.held.cases
      → IfSome told (Keeps ahead.log (after change ahead.held.cases)) → IfSome told (Keeps p.log p.held.cases)
  caught_up None p log cases keeps = tt
  caught_up (Some u) p log cases keeps =
      subst (λ (l : Log). Keeps l p.held.cases u) (sym log) (subst (λ (cs : List Case). Keeps ahead.log cs u) (sym cases) keeps)

  pub followed_kept : (last : Option Opened) (a : Option Told) → IsAhead change a ahead → Follows change (Some ahead) last → IsKept a last
  followed_kept None a is follows = tt
  followed_kept (Some p) a is follows = record {
    unfailing = follows.2;
    room = subst (λ (l : Log). l.end < 18446744073709551615) (sym follows.0) is.room;
    kept = caught_up a p follows.0 follows.1 is.kept;
  }

  pub followed_safe : (last : Option Opened) (o a : Option Told) → IsAhead change a ahead → Follows change (Some ahead) last
      → StaysSafe (Some first) last o a
  followed_safe (Some p) o a is follows = open_stays (Some first) o a p (followed_kept (Some p) a is follows)
  followed_safe None None a is follows = tt
  followed_safe None (Some t) None is follows = λ safe. tt
  followed_safe None (Some t) (Some u) is follows = λ safe. shut_safe ahead.log (after change ahead.held.cases) u is.kept is.shut

  pub followed_told : (Other : Change → Type 0) (last : Option Opened) (o a : Option Told) → LeavesCases Other (Some first) o a
      → ahead.held.cases ≡ first.held.cases → IsAhead change a ahead → Follows change (Some ahead) last
      → told_by last a ≡ option_map (after change) (told_by (Some first) o)
  followed_told Other last None None run same is follows = refl
  followed_told Other last None (Some u) run same is follows = absurd run
  followed_told Other last (Some t) None run same is follows = absurd run
  followed_told Other None (Some t) (Some u) run same is follows =
      ap (λ (cs : List Case). Some cs)
      (shut_told ahead.log (after change ahead.held.cases) u is.kept is.shut ∙ ap (after change) same)
  followed_told Other (Some p) (Some t) (Some u) run same is follows =
      ap (λ (cs : List Case). Some cs) (follows.1 ∙ ap (after change) same)

-- What was written where the keeper in memory was asked before.
pub written_from : (change : Change) (first o new : Opened) (told : Option Told) (r : Result (Unit {0}) KeepFault) → o.held.cases ≡ first.held.cases
    → WritesChange change o new told r → WritesChange change first new told r
written_from change first o new told (Ok x) same written = (written.0, written.1 ∙ same)
written_from change first o new told (Err fault) same written = (written.0, written.1 ∙ same)
