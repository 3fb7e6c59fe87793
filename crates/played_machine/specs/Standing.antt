-- Where a state stands, and for which cause.
use Rattle.std.specs.Prelude.{ℕ, Bool, if◌then◌else◌, List, [], ◌∷◌, ◌++◌, map, filter, flat_map, Option, Some, None}
use Rattle.std.specs.List.{list_any}
use Rattle.app_machine.specs.declared.app.App.{App}
use Rattle.app_machine.specs.declared.call.CallKind.{CallKind}
use Rattle.app_machine.specs.declared.call.MethodRef.{MethodRef}
use Rattle.app_machine.specs.declared.lists.Lists.{Lists}
use Rattle.app_machine.specs.declared.method.Act.{Act}
use Rattle.app_machine.specs.declared.method.Act.TheVariants.{Call}
use Rattle.app_machine.specs.declared.method.Step.{Step}
use Rattle.app_machine.specs.declared.summary.Summary.{Summary}
use Rattle.app_machine.specs.Lookups.{Target, Body, Library, Nothing, step_at, initialisers}
use Rattle.app_machine.specs.Safe.{no_summary, native, reflective}
use Rattle.app_machine.specs.State.{World, Frame}
use Rattle.app_machine.specs.Summaries.{library_key}
use Rattle.app_machine.specs.Lookups.{is_static_call}
use Rattle.app_machine.specs.declared.lists.SummaryId.{SummaryId}
use Rattle.played_machine.specs.Calling.{is_native_body, call_target, summary_by}
use Rattle.played_machine.specs.Coming.{Event, Receives, Initialiser, events}
use Rattle.played_machine.specs.Ordered.{ascending}

-- a place where the run stands, and the cause
pub record Stand : Type 0 where
  pub cause : ℕ
  pub method : ℕ
  pub pc : ℕ

abbrev pub if_reflective : Option Summary → List ℕ
if_reflective None = []
if_reflective (Some row) = if row.reflective then reflective ∷ [] else []

abbrev pub cause_of_key : Lists → MethodRef → Bool → Option SummaryId → List ℕ
cause_of_key lists at is_static None = no_summary ∷ []
cause_of_key lists at is_static (Some key) = if_reflective (summary_by lists at is_static (Some key))

abbrev pub if_native_then : Bool → List ℕ
if_native_then b = if b then native ∷ [] else []

-- why a call with this target is not modelled, where it is not
abbrev pub causes_of_target : App → Lists → CallKind → MethodRef → Option Target → List ℕ
causes_of_target app lists kind at None = []
causes_of_target app lists kind at (Some (Body body)) = if_native_then (is_native_body app body)
causes_of_target app lists kind at (Some (Library class)) = cause_of_key lists at (is_static_call kind) (library_key app lists class at.name at.proto (is_static_call kind))
causes_of_target app lists kind at (Some Nothing) = []

abbrev pub causes_of_call : App → Lists → World → Frame → Act → List ℕ
causes_of_call app lists w f (Call kind at args) = causes_of_target app lists kind at (call_target app w.heap f kind at args)
causes_of_call app lists w f act = []

abbrev pub causes_at : App → Lists → World → Frame → Option Step → List ℕ
causes_at app lists w f None = []
causes_at app lists w f (Some step) = causes_of_call app lists w f step.act ++ if_native_then (list_any (is_native_body app) (initialisers app step.act))

-- the body that an event may run
abbrev pub body_of : Event → List ℕ
body_of (Receives None place sources new) = []
body_of (Receives (Some body) place sources new) = body ∷ []
body_of (Initialiser body) = body ∷ []

-- where the state stands, by cause, method and pc: at one instruction, or at the beginning of native bodies
unfoldable pub stands_of : App → Lists → World → List Frame → List Stand
stands_of app lists w [] = map (λ body. record { cause = native; method = body; pc = 0 }) (ascending (filter (is_native_body app) (flat_map body_of (events app lists w))))
stands_of app lists w (f ∷ fs) = map (λ cause. record { cause = cause; method = f.method; pc = f.pc }) (ascending (causes_at app lists w f (step_at app f.method f.pc)))
