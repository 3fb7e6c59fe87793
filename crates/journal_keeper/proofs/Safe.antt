-- An open journal: what a read gives and what a crash leaves of it, and what look-ups and mending its end do.
use Rattle.std.proofs.Common.{◌≡◌, ◌⊎◌, ◌<◌, inl, inr, ℕ, List, [], ◌++◌, length, refl, sym, ◌∙◌, ap, subst, Option, Some, None, Ok}
use Rattle.std.specs.Prelude.{IfSome}
use Rattle.std.proofs.lemmas.Option.{same_Some}
use Rattle.vet_base.specs.Script.{run}
use Rattle.disks.specs.Disks.{Told}
use Rattle.gated_log.specs.declared.log.Gate.{Gate}
use Rattle.gated_log.specs.declared.log.Gate.TheVariants.{Closed, Behind, Touched}
use Rattle.gated_log.specs.declared.log.Log.{Log}
use Rattle.gated_log.specs.Format.{EndsWith, EndsWithEither, record_bytes}
use Rattle.gated_log.specs.Ends.{LeftAt, LeavesLast, front_at}
use Rattle.gated_log.specs.Last.{IsLast, IsLastAt}
use Rattle.gated_log.proofs.Remaining.{is_read, is_left}
use Rattle.case_rules.specs.declared.case.Case.{Case}
use Rattle.case_rules.specs.declared.reply.Change.{Change}
use Rattle.case_rules.specs.Cases.{after}
use Rattle.case_keeper.specs.MemoryKeeper.{Kept}
use Rattle.case_records.specs.Reading.{change_of}
use Rattle.journal_law.specs.Journal.{Holds}
use Rattle.journal_law.specs.Reading.{cases_in}
use Rattle.journal_law.proofs.Fronts.{front_added, front_holds}
use Rattle.journal_law.proofs.TellsRight.{tells_the_cases}
use Rattle.journal_reading.specs.declared.opening.Opened.{Opened}
use Rattle.journal_reading.specs.Keeping.{Keeps, IsOpen, IsKept, IsReady, NoOther, HoldsUpTo, MayBe, IsPending, IsSafe, LeavesCases, StaysSafe, cases_of, told_by}
use Rattle.journal_reading.specs.Opening.{HoldsCases}
use Rattle.journal_reading.proofs.Leaving.{leaves_so, leaves_on, leaves_none}
use Rattle.journal_keeper.specs.Adding.{HasTheSame, HoldsTheSame}

-- What ends with the front, or with the record behind a gate that was touched, is among what may be.
module _ (o : Opened) (t : Told) (keeps : Keeps o.log o.held.cases t) (Other : Change → Type 0) where
  abbrev front : List ℕ
  front = front_at o.log.end t

  front_may_be : (bytes : List ℕ) → EndsWith front bytes → MayBe (Some o) t Other bytes
  front_may_be bytes ends = inl (front_holds front bytes o.held.cases keeps.front ends)

  either_may_be : (payload bytes : List ℕ) → IsLast o.log t payload → length payload < 18446744073709551616
      → EndsWithEither front payload bytes → MayBe (Some o) t Other bytes
  either_may_be payload bytes last small (inl ends) = front_may_be bytes ends
  either_may_be payload bytes last small (inr ends) =
      let there = keeps.last payload last in
      inr (
        there.0,
        (
          inl (payload, (last, there.1.is)),
          front_holds (front ++ record_bytes payload) bytes (after there.0 o.held.cases)
              (front_added front o.held.cases payload there.0 keeps.front small there.1) ends,
        ),
      )

  -- what is left of the log, by how its gate stands
  pub left_may_be : (gate : Gate) → o.log.gate ≡ gate → (bytes : List ℕ) → LeftAt gate front t.now bytes → MayBe (Some o) t Other bytes
  left_may_be Closed is bytes ends = front_may_be bytes ends
  left_may_be Behind is bytes ends = front_may_be bytes ends
  left_may_be Touched is bytes left =
      let last = subst (λ (g : Gate). IsLastAt g o.log.end t left.0) (sym is) left.1.0 in
      either_may_be left.0 bytes last left.1.0.small left.1.1

-- An open journal is safe.
pub open_safe : (o : Opened) (t : Told) → Keeps o.log o.held.cases t → IsSafe (Some o) t
open_safe o t keeps = record {
  read = left_may_be o t keeps NoOther o.log.gate refl t.now.bytes (is_read o.log t keeps.stands);
  left = λ bytes may. left_may_be o t keeps NoOther o.log.gate refl bytes (is_left o.log t keeps.stands bytes may);
}

-- So its bytes hold cases.
holds_cases : (t : Told) (cases : List Case) → Holds t.now.bytes cases → HoldsCases t
holds_cases t cases holds = subst (Holds t.now.bytes) (sym (tells_the_cases.held t.now.bytes cases holds)) holds

safe_holds : (opened : Option Opened) (t : Told) → MayBe opened t NoOther t.now.bytes → HoldsCases t
safe_holds opened t (inl holds) = holds_cases t (cases_of opened t) holds
safe_holds opened t (inr more) = holds_cases t (after more.0 (cases_of opened t)) more.1.1

pub open_holds : (told : Option Told) (o : Opened) → IsOpen told o → IfSome told HoldsCases
open_holds None o is = tt
open_holds (Some t) o is = let safe = open_safe o t is.kept in safe_holds (Some o) t safe.read

pub kept_holds : (told : Option Told) (opened : Option Opened) (o : Opened) → opened ≡ Some o → IsKept told opened → IfSome told HoldsCases
kept_holds told opened o is kept = open_holds told o (subst (IsKept told) is kept)

pub open_stays : (old : Option Opened) (o a : Option Told) (new : Opened) → IsOpen a new → StaysSafe old (Some new) o a
open_stays old None a new is = tt
open_stays old (Some t) None new is = λ safe. tt
open_stays old (Some t) (Some u) new is = λ safe. open_safe new u is.kept

-- whatever ends with the front of a journal whose gate is closed holds its cases
shut_holds : (log : Log) (cases : List Case) (u : Told) → Keeps log cases u → log.gate ≡ Closed → (bytes : List ℕ)
    → LeftAt log.gate (front_at log.end u) u.now bytes → Holds bytes cases
shut_holds log cases u keeps shut bytes left =
    front_holds (front_at log.end u) bytes cases keeps.front (subst (λ (g : Gate). LeftAt g (front_at log.end u) u.now bytes) shut left)

pub shut_told : (log : Log) (cases : List Case) (u : Told) → Keeps log cases u → log.gate ≡ Closed → cases_in u.now.bytes ≡ cases
shut_told log cases u keeps shut =
    tells_the_cases.held u.now.bytes cases (shut_holds log cases u keeps shut u.now.bytes (is_read log u keeps.stands))

-- and so it is safe once it is forgotten
pub shut_safe : (log : Log) (cases : List Case) (u : Told) → Keeps log cases u → log.gate ≡ Closed → IsSafe None u
shut_safe log cases u keeps shut =
    let told : cases_in u.now.bytes ≡ cases = shut_told log cases u keeps shut in
    record {
      read = inl (subst (Holds u.now.bytes) (sym told) (shut_holds log cases u keeps shut u.now.bytes (is_read log u keeps.stands)));
      left = λ bytes may.
          inl (subst (Holds bytes) (sym told) (shut_holds log cases u keeps shut bytes (is_left log u keeps.stands bytes may)));
    }

-- The moments of a mending.
pub mended_moments : (o a : Option Told) (j : Opened) → IsOpen o j → LeavesLast j.log o a → LeavesCases NoOther (Some j) o a
mended_moments None None j is run = tt
mended_moments None (Some u) j is run = absurd run
mended_moments (Some t) None j is run = absurd run
mended_moments (Some t) (Some u) j is run = λ safe.
    leaves_so (λ left. LeftAt j.log.gate (front_at j.log.end t) t.now left) (MayBe (Some j) t NoOther) t u
    (λ left at. left_may_be j t is.kept NoOther j.log.gate refl left at) run.0

pub mended_told : (o a : Option Told) (old new : Opened) → new.held.cases ≡ old.held.cases → LeavesLast old.log o a
    → told_by (Some new) a ≡ told_by (Some old) o
mended_told None None old new same run = refl
mended_told None (Some u) old new same run = absurd run
mended_told (Some t) None old new same run = absurd run
mended_told (Some t) (Some u) old new same run = ap (λ (cs : List Case). Some cs) same

-- A journal with the same log and the same cases.
abbrev MayBeAt : Log → List Case → Told → (Change → Type 0) → List ℕ → Type 0
MayBeAt log cases t Other bytes =
    HoldsUpTo cases (λ change. ((payload : List ℕ) × (IsLast log t payload × (run (change_of payload) ≡ Ok change))) ⊎ Other change) bytes

module _ (o p : Opened) (log : p.log ≡ o.log) (cases : p.held.cases ≡ o.held.cases) where
  to_first : (t : Told) (Other : Change → Type 0) (bytes : List ℕ) → MayBe (Some p) t Other bytes → MayBe (Some o) t Other bytes
  to_first t Other bytes may =
      subst (λ (l : Log). MayBeAt l o.held.cases t Other bytes) log (subst (λ (cs : List Case). MayBeAt p.log cs t Other bytes) cases may)

  to_second : (t : Told) (Other : Change → Type 0) (bytes : List ℕ) → MayBe (Some o) t Other bytes → MayBe (Some p) t Other bytes
  to_second t Other bytes may =
      subst (λ (l : Log). MayBeAt l p.held.cases t Other bytes) (sym log)
      (subst (λ (cs : List Case). MayBeAt o.log cs t Other bytes) (sym cases) may)

  pub same_safe : (t : Told) → IsSafe (Some o) t → IsSafe (Some p) t
  same_safe t safe = record {
    read = to_second t NoOther t.now.bytes safe.read;
    left = λ bytes may. to_second t NoOther bytes (safe.left bytes may);
  }

  pub same_moments : (Other : Change → Type 0) (a b : Option Told) → LeavesCases Other (Some p) a b → LeavesCases Other (Some o) a b
  same_moments Other None None run = tt
  same_moments Other None (Some u) run = absurd run
  same_moments Other (Some t) None run = absurd run
  same_moments Other (Some t) (Some u) run = λ safe.
      leaves_so (MayBe (Some p) t Other) (MayBe (Some o) t Other) t u (to_first t Other) (run (same_safe t safe))

  same_keeps : (told : Option Told) → IfSome told (Keeps o.log o.held.cases) → IfSome told (Keeps p.log p.held.cases)
  same_keeps None keeps = tt
  same_keeps (Some u) keeps =
      subst (λ (l : Log). Keeps l p.held.cases u) (sym log) (subst (λ (cs : List Case). Keeps o.log cs u) (sym cases) keeps)

  pub same_open : (told : Option Told) → p.held.failing ≡ [] → IsOpen told o → IsOpen told p
  same_open told unfailing is = record {
    unfailing = unfailing;
    room = subst (λ (l : Log). l.end < 18446744073709551615) (sym log) is.room;
    kept = same_keeps told is.kept;
  }

-- Look-ups of the keeper in memory.
pub held_safe : (first second : Option Opened) (told : Option Told) → HoldsTheSame first second → StaysSafe first second told told
held_safe first second None same = tt
held_safe None second (Some u) same = subst (λ (o : Option Opened). IsSafe None u → IsSafe o u) (sym same) (λ safe. safe)
held_safe (Some o) None (Some u) same = absurd same
held_safe (Some o) (Some p) (Some u) same = λ safe. same_safe o p same.0 same.1 u safe

pub held_told : (first second : Option Opened) (told : Option Told) → HoldsTheSame first second → told_by second told ≡ told_by first told
held_told first second None same = refl
held_told None second (Some u) same = ap (λ (o : Option Opened). told_by o (Some u)) same
held_told (Some o) None (Some u) same = absurd same
held_told (Some o) (Some p) (Some u) same = ap (λ (cs : List Case). Some cs) same.1

pub held_kept : (first second : Option Opened) (told : Option Told) → HoldsTheSame first second → IsKept told first → IsKept told second
held_kept None second told same kept = subst (IsKept told) (sym same) tt
held_kept (Some o) None told same kept = absurd same
held_kept (Some o) (Some p) told same kept = same_open o p same.0 same.1 told same.2 kept

pub kept_same : (o : Opened) (now : Kept) → o.held.failing ≡ [] → Some now.cases ≡ Some o.held.cases → now.failing ≡ o.held.failing
    → HasTheSame o (record { log = o.log; held = now })
kept_same o now unfailing cases failing = (refl, same_Some now.cases o.held.cases cases, failing ∙ unfailing)

pub some_same : (first : Option Opened) (journal now : Opened) → first ≡ Some journal → HasTheSame journal now → HoldsTheSame first (Some now)
some_same first journal now is same = subst (λ (o : Option Opened). HoldsTheSame o (Some now)) (sym is) same

-- What may be left without another change may be left with one.
wider : (opened : Option Opened) (t : Told) (Other : Change → Type 0) (bytes : List ℕ) → MayBe opened t NoOther bytes → MayBe opened t Other bytes
wider opened t Other bytes (inl holds) = inl holds
wider opened t Other bytes (inr more) = inr (more.0, (pending more.0 more.1.0, more.1.1))
  where
    pending : (change : Change) → IsPending opened t change ⊎ NoOther change → IsPending opened t change ⊎ Other change
    pending change (inl is) = inl is
    pending change (inr none) = absurd none

pub none_moments : (Other : Change → Type 0) (opened : Option Opened) (o : Option Told) → LeavesCases Other opened o o
none_moments Other opened None = tt
none_moments Other opened (Some t) = λ safe. leaves_none (MayBe opened t Other) t (λ left may. wider opened t Other left (safe.left left may))

pub wider_moments : (Other : Change → Type 0) (opened : Option Opened) (o a : Option Told) → LeavesCases NoOther opened o a → LeavesCases Other opened o a
wider_moments Other opened None None run = tt
wider_moments Other opened None (Some u) run = absurd run
wider_moments Other opened (Some t) None run = absurd run
wider_moments Other opened (Some t) (Some u) run = λ safe.
    leaves_so (MayBe opened t NoOther) (MayBe opened t Other) t u (wider opened t Other) (run safe)

-- No change is pending in a journal that is ready.
ready_may_be : (first second : Option Opened) (t u : Told) (Other : Change → Type 0) (bytes : List ℕ) → IsReady second
    → cases_of second u ≡ cases_of first t → MayBe second u Other bytes → MayBe first t Other bytes
ready_may_be first None t u Other bytes ready same may = absurd ready
ready_may_be first (Some o) t u Other bytes ready same (inl holds) = inl (subst (Holds bytes) same holds)
ready_may_be first (Some o) t u Other bytes ready same (inr more) =
    inr (more.0, (pending more.0 more.1.0, subst (λ (cs : List Case). Holds bytes (after more.0 cs)) same more.1.1))
  where
    pending : (change : Change) → IsPending (Some o) u change ⊎ Other change → IsPending first t change ⊎ Other change
    pending change (inl is) = absurd (subst (λ (g : Gate). IsLastAt g o.log.end u is.0) ready is.1.0)
    pending change (inr other) = inr other

-- A call that makes the journal ready, and then one that may add a change.
module _ (first second : Option Opened) where
  pub then_adds : (Other : Change → Type 0) (o a b : Option Told) → IsReady second → told_by second a ≡ told_by first o
      → LeavesCases NoOther first o a → StaysSafe first second o a → LeavesCases Other second a b → LeavesCases Other first o b
  then_adds Other None None None ready same one safe two = tt
  then_adds Other None None (Some v) ready same one safe two = absurd two
  then_adds Other None (Some u) b ready same one safe two = absurd one
  then_adds Other (Some t) None b ready same one safe two = absurd one
  then_adds Other (Some t) (Some u) None ready same one safe two = absurd two
  then_adds Other (Some t) (Some u) (Some v) ready same one safe two = λ before.
      leaves_on (MayBe first t Other) t u v
      (leaves_so (MayBe first t NoOther) (MayBe first t Other) t u (wider first t Other) (one before))
      (leaves_so (MayBe second u Other) (MayBe first t Other) u v (λ left may. ready_may_be first second t u Other left ready (same_Some _ _ same) may)
      (two (safe before)))

  pub then_safe : (third : Option Opened) (o a b : Option Told) → LeavesCases NoOther first o a → StaysSafe first second o a
      → StaysSafe second third a b → StaysSafe first third o b
  then_safe third None a b one safe two = tt
  then_safe third (Some t) None b one safe two = absurd one
  then_safe third (Some t) (Some u) b one safe two = λ before. two (safe before)

-- A call that failed before it added its record.
pub unwritten_told : (Other : Change → Type 0) (o p : Opened) (t a : Option Told) → LeavesCases Other (Some o) t a → p.held.cases ≡ o.held.cases
    → told_by (Some p) a ≡ told_by (Some o) t
unwritten_told Other o p None None run same = refl
unwritten_told Other o p None (Some u) run same = absurd run
unwritten_told Other o p (Some t) None run same = absurd run
unwritten_told Other o p (Some t) (Some u) run same = ap (λ (cs : List Case). Some cs) same
