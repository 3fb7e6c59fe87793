-- The calls of the keeper: each makes the journal ready, and then looks something up or adds a change.
use Rattle.std.proofs.Common.{◌≡◌, ◌⊎◌, ℕ, true, false, List, [], refl, sym, ◌∙◌, ap, subst, Option, Some, None, Result, Ok, Err}
use Rattle.std.specs.Prelude.{IfSome, IfOk, OnOk, OnErr, IsSome}
use Rattle.std.specs.Option.{is_some}
use Rattle.std.proofs.lemmas.Option.{same_Some}
use Rattle.disks.specs.Disks.{Told}
use Rattle.case_keeper.specs.declared.keeper.KeepFault.{KeepFault}
use Rattle.case_keeper.specs.declared.keeper.KeepFault.TheVariants as keep
use Rattle.case_keeper.specs.Keeper.{Tells, told_after, KeepCause}
use Rattle.case_rules.specs.declared.case.Case.{Case}
use Rattle.case_rules.specs.declared.reply.Change.{Change}
use Rattle.journal_reading.specs.declared.opening.Opened.{Opened}
use Rattle.journal_reading.specs.Keeping.{IsKept, IsReady, IsSafe, NoOther, LeavesCases, StaysSafe, told_by}
use Rattle.journal_reading.specs.Opening.{HoldsCases, Spares}
use Rattle.journal_keeper.specs.Adding.{HoldsTheSame}
use Rattle.journal_keeper.specs.Causes.{CountsBy, IsUnopenable, Misfits, total}
use Rattle.journal_keeper.specs.State.{JournalState, Outlasts, told_cases, all_faults}
use Rattle.journal_keeper.proofs.Counting.{counts_cause, then_counts, look_counts}
use Rattle.journal_keeper.proofs.Safe.{open_safe, held_safe, held_told, none_moments, wider_moments, then_adds, then_safe}

abbrev pub state : Option Told → ℕ → ℕ → Option Opened → JournalState
state told faults own opened = record { told = told; faults = faults; own = own; opened = opened }

-- The journal is ready, and its cases are as before.
pub record Readied (old new : JournalState) : Type 0 where
  pub ready : IsReady new.opened
  pub told : told_cases new ≡ told_cases old
  pub outlasts : Outlasts NoOther old new
  pub faults : new.faults ≡ old.faults
  pub own : new.own ≡ old.own

pub readied_so : (old now new : JournalState) → now ≡ new → Readied old new → Readied old now
readied_so old now new same before = subst (Readied old) (sym same) before

pub made_outlasts : (old first now : JournalState) → first ≡ old → LeavesCases NoOther first.opened first.told now.told
    → StaysSafe first.opened now.opened first.told now.told → Outlasts NoOther old now
made_outlasts old first now same moments safe =
    subst (λ (k : JournalState). Outlasts NoOther k now) same (record { any_moment = moments; safe = safe })

pub made_held : {X : Type 0} (old first : JournalState) (r : Result X KeepFault) → first ≡ old → OnOk r (IfSome first.told HoldsCases)
    → OnOk r (IfSome old.told HoldsCases)
made_held old first r same held = subst (λ (k : JournalState). OnOk r (IfSome k.told HoldsCases)) same held

pub made_spared : (old first : JournalState) (a : Option Told) → first ≡ old → Spares first.told a → Spares old.told a
made_spared old first a same spares = subst (λ (k : JournalState). Spares k.told a) same spares

-- a call that adds nothing, where it might have added a change
pub wider_outlasts : (Added : Change → Type 0) (old new : JournalState) → Outlasts NoOther old new → Outlasts Added old new
wider_outlasts Added old new lasts = record {
  any_moment = wider_moments Added old.opened old.told new.told lasts.any_moment;
  safe = lasts.safe;
}

pub made_counts : {X : Type 0} (old first : JournalState) (e v : ℕ) (r : Result X KeepFault) → first ≡ old
    → CountsBy (IsUnopenable first.opened first.told) first.faults e first.own v r
    → CountsBy (IsUnopenable old.opened old.told) old.faults e old.own v r
made_counts old first e v r same counts =
    subst (λ (k : JournalState). CountsBy (IsUnopenable k.opened k.told) k.faults e k.own v r) same counts

pub ready_open : (opened : Option Opened) (told : Option Told) → IsKept told opened → IfSome opened (λ o. o.held.failing ≡ [])
ready_open None told kept = tt
ready_open (Some o) told kept = kept.unfailing

-- what the keeper in memory answers
answer_so : {X : Type 0} (shows : List Case → X) (opened : Option Opened) (told : Option Told) (cases : Option (List Case)) (r : Result X KeepFault)
    → told_by opened told ≡ cases → IsReady opened → IfSome opened (λ o. IfOk r (λ x. x ≡ shows o.held.cases)) → Tells shows cases r
answer_so shows None told cases r same ready answer = absurd ready
answer_so shows (Some o) None cases r same ready answer = λ listed is.
    let none : None ≡ Some listed = same ∙ is in
    absurd cc
answer_so shows (Some o) (Some t) cases r same ready answer = λ listed is.
    subst (λ (l : List Case). IfOk r (λ x. x ≡ shows l)) (same_Some o.held.cases listed (same ∙ is)) answer

-- A look-up, where the journal was made ready.
module _ (old : JournalState) (told : Option Told) (faults own : ℕ) (opened last : Option Opened)
    (before : Readied old (state told faults own opened)) (same : HoldsTheSame opened last) where
  pub look_outlasts : Outlasts NoOther old (state told faults own last)
  look_outlasts = record {
    any_moment = before.outlasts.any_moment;
    safe = then_safe old.opened opened last old.told told told before.outlasts.any_moment before.outlasts.safe (held_safe opened last told same);
  }

  pub look_told : told_cases (state told faults own last) ≡ told_cases old
  look_told = held_told opened last told same ∙ before.told

  module _ {X : Type 0} (r : Result X KeepFault) where
    pub look_counted : OnErr r (r ≡ Err keep.Memory) → CountsBy (IsUnopenable old.opened old.told) old.faults faults old.own own r
    look_counted memory = look_counts (IsUnopenable old.opened old.told) old.faults faults old.own own (tt {0}) r (before.faults, before.own) memory

    pub look_cause : OnErr r (r ≡ Err keep.Memory) → KeepCause (all_faults old) (total faults own) r
    look_cause memory = counts_cause (IsUnopenable old.opened old.told) old.faults faults old.own own r (look_counted memory)

    pub look_answer : (shows : List Case → X) → IfSome opened (λ o. IfOk r (λ x. x ≡ shows o.held.cases)) → Tells shows (told_cases old) r
    look_answer shows answer = answer_so shows opened told (told_cases old) r before.told before.ready answer

-- A change that may be added, where the journal was made ready.
module _ (change : Change) (old : JournalState) (told a : Option Told) (faults own now_faults now_own : ℕ) (opened last : Option Opened)
    (before : Readied old (state told faults own opened)) where
  pub add_outlasts : LeavesCases (λ c. c ≡ change) opened told a → StaysSafe opened last told a
      → Outlasts (λ c. c ≡ change) old (state a now_faults now_own last)
  add_outlasts moments safe = record {
    any_moment = then_adds old.opened opened (λ c. c ≡ change) old.told told a before.ready before.told before.outlasts.any_moment before.outlasts.safe moments;
    safe = then_safe old.opened opened last old.told told a before.outlasts.any_moment before.outlasts.safe safe;
  }

  module _ (r : Result (Unit {0}) KeepFault) where
    pub add_told : told_by last a ≡ told_after change (told_by opened told) r
        → told_cases (state a now_faults now_own last) ≡ told_after change (told_cases old) r
    add_told is = is ∙ ap (λ (cases : Option (List Case)). told_after change cases r) before.told

    pub add_counted : CountsBy (Misfits change last) faults now_faults own now_own r
        → CountsBy (IsUnopenable old.opened old.told ⊎ Misfits change last) old.faults now_faults old.own now_own r
    add_counted counts =
        then_counts (IsUnopenable old.opened old.told) (Misfits change last) old.faults faults now_faults old.own own now_own r before.faults before.own counts

    pub add_cause : CountsBy (Misfits change last) faults now_faults own now_own r → KeepCause (all_faults old) (total now_faults now_own) r
    add_cause counts =
        counts_cause (IsUnopenable old.opened old.told ⊎ Misfits change last) old.faults now_faults old.own now_own r (add_counted counts)

pub is_none : (opened : Option Opened) → is_some opened ≡ false → opened ≡ None
is_none None fails = refl
is_none (Some o) fails = let both : true ≡ false = fails in absurd cc

-- An open journal is safe; and a call that does nothing leaves it as it was.
pub safe_now : (opened : Option Opened) (told : Option Told) → IsSome opened → IsKept told opened → IfSome told (IsSafe opened)
safe_now None told some kept = let none : false ≡ true = some in absurd cc
safe_now (Some o) None some kept = tt
safe_now (Some o) (Some t) some kept = open_safe o t kept.kept

pub on_ok : {X E P : Type 0} (r : Result X E) → P → OnOk r P
on_ok (Ok x) p = p
on_ok (Err e) p = tt

-- So is one that was made ready, and what looks it up or adds to it leaves it safe.
pub ready_safe : (opened : Option Opened) (told : Option Told) → IsReady opened → IsKept told opened → IfSome told (IsSafe opened)
ready_safe None told ready kept = absurd ready
ready_safe (Some o) None ready kept = tt
ready_safe (Some o) (Some t) ready kept = open_safe o t kept.kept

pub look_safe : (opened last : Option Opened) (told : Option Told) → HoldsTheSame opened last → IfSome told (IsSafe opened) → IfSome told (IsSafe last)
look_safe opened last None same safe = tt
look_safe opened last (Some t) same safe = held_safe opened last (Some t) same safe

pub add_safe : (Added : Change → Type 0) (opened last : Option Opened) (told a : Option Told) → LeavesCases Added opened told a
    → StaysSafe opened last told a → IfSome told (IsSafe opened) → IfSome a (IsSafe last)
add_safe Added opened last None None moments stays safe = tt
add_safe Added opened last None (Some u) moments stays safe = absurd moments
add_safe Added opened last (Some t) a moments stays safe = stays safe

pub same_outlasts : (now : JournalState) → Outlasts NoOther now now
same_outlasts now = record {
  any_moment = none_moments NoOther now.opened now.told;
  safe = stays now.opened now.told;
}
  where
    stays : (opened : Option Opened) (told : Option Told) → StaysSafe opened opened told told
    stays opened None = tt
    stays opened (Some t) = λ safe. safe
