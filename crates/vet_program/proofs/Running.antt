-- From how the parts of the program end to how it ends.
use Rattle.std.proofs.Common.{◌≡◌, ◌≢◌, ℕ, List, [], Option, Some, None, Result, Ok, Err, String, Vec, IfOk, IfErr, IsOkAnd, string_bytes, refl, ap, subst, map}
use Rattle.std.specs.declared.alloc.Global.{Global}
use Rattle.std.specs.declared.io.Error.{Error}
use Rattle.std.specs.declared.io.ErrorKind.TheVariants.{OutOfMemory}
use Rattle.std.specs.IoError.{error_kind}
use Rattle.vet_base.proofs.Results.{one_ok, one_err, ok_or_err}
use Rattle.client_service.specs.Saying.{status}
use Rattle.client_service.specs.Submitting.{Seen, Answers}
use Rattle.client_service.specs.Words.{Submit}
use Rattle.desk_words.specs.Words.{Words}
use Rattle.vetting_desk.specs.declared.answer.Status.{Status}
use Rattle.vetting_desk.specs.Top.{status as vetting_status}
use Rattle.vet_program.specs.Program.{task_in, Vets, vetted_of, Runs, RunsGiven}

-- an app was handed in
pub of_submitting : (asked : Option Submit) (words : Option Words) (old new : Seen) (code : ℕ)
    → Answers asked old new (Some (status code)) → Runs (task_in asked words) old new code
of_submitting None words old new code is = absurd is
of_submitting (Some asked) words old new code is = is

-- none was, and the words were vetted
pub of_vetting : (asked : Option Submit) (words : Option Words) (old between new : Seen) (code : ℕ)
    → Answers asked old between None → Vets words (vetted_of between) (vetted_of new) between.heard new.heard code → new.io.dials ≡ between.io.dials
    → Runs (task_in asked words) old new code
of_vetting None words old between new code same vets dials =
    let Ran : Seen → Type 0 = λ seen. Vets words (vetted_of seen) (vetted_of new) seen.heard new.heard code × (new.io.dials ≡ seen.io.dials) in
    subst Ran same (vets, dials)
of_vetting (Some asked) words old between new code is vets dials = absurd is

abbrev Given : Type 0
Given = Result (Vec (String Global) Global) Error

-- what `words_given` made of the words that the system gave
pub record Takes (given : Given) (taken : Result (Vec (String Global) Global) Status) : Type 0 where
  pub read : IfOk given (λ words. taken ≡ Ok words)
  pub memory : IfErr given (λ e. error_kind e ≡ OutOfMemory → taken ≡ Err (vetting_status 7))
  pub unread : IfErr given (λ e. error_kind e ≢ OutOfMemory → IsOkAnd taken (λ words. words.items ≡ []))

-- the words were answered
pub of_words : (given : Given) (words : Vec (String Global) Global) (RunsFor : List (List ℕ) → Type 0) (NoMemory : Type 0)
    → Takes given (Ok words) → RunsFor (map string_bytes words.items) → RunsGiven given RunsFor NoMemory
of_words (Ok read) words RunsFor NoMemory takes runs =
    let same : words ≡ read = one_ok (Ok words) words read refl takes.read in
    subst (λ (w : Vec (String Global) Global). RunsFor (map string_bytes w.items)) same runs
of_words (Err e) words RunsFor NoMemory takes runs = (
  λ is. absurd (ok_or_err (Ok words) words (vetting_status 7) refl (takes.memory is)),
  λ other. subst (λ (items : List (String Global)). RunsFor (map string_bytes items)) (takes.unread other) runs,
)

-- there was no memory for them
pub of_no_words : (given : Given) (result : Status) (RunsFor : List (List ℕ) → Type 0) (NoMemory : Type 0)
    → Takes given (Err result) → (result.0 ≡ 7 → NoMemory) → RunsGiven given RunsFor NoMemory
of_no_words (Ok words) result RunsFor NoMemory takes seven = absurd (ok_or_err (Err result) words result takes.read refl)
of_no_words (Err e) result RunsFor NoMemory takes seven = (
  λ is. seven (ap (λ (s : Status). s.0) (one_err (Err result) result (vetting_status 7) refl (takes.memory is))),
  λ other. absurd (takes.unread other),
)
