-- What a run brings to sinks, where it leaves the modelled part of the app, and what it is to be safe.
use Rattle.std.specs.Prelude.{◌≡◌, ℕ, true, List, [], ◌∷◌, Option, Some, None}
use Rattle.app_machine.specs.declared.call.MethodRef.{MethodRef}
use Rattle.app_machine.specs.declared.call.CallKind.{CallKind}
use Rattle.app_machine.specs.declared.method.Act.TheVariants.{Call}
use Rattle.app_machine.specs.declared.summary.Summary.{Summary}
use Rattle.app_machine.specs.declared.lists.SummaryId.{SummaryId}
use Rattle.app_machine.specs.declared.lists.Lists.{Lists}
use Rattle.app_machine.specs.declared.papers.Declaration.{Declaration}
use Rattle.app_machine.specs.declared.app.App.{App}
use Rattle.vet_base.specs.Members.{In, IsAt}
use Rattle.app_machine.specs.Names.{Name}
use Rattle.app_machine.specs.Lookups.{Body, Library, ActAt, IsNative, Initialises, is_static_call}
use Rattle.app_machine.specs.Summaries.{library_key, summary}
use Rattle.app_machine.specs.State.{Arrival, World, Frame}
use Rattle.app_machine.specs.Calls.{CallsTo}
use Rattle.app_machine.specs.Events.{Comes, MayInitialise}
use Rattle.app_machine.specs.Run.{Run}

-- the causes
abbrev pub no_summary : ℕ
no_summary = 1

abbrev pub native : ℕ
native = 2

abbrev pub reflective : ℕ
reflective = 3

-- The state stands at the instruction for the cause: what comes next is not modelled.
pub data Stands (app : App) (lists : Lists) (w : World) : List Frame → (method pc cause : ℕ) → Type 0 where
  native_call : {f : Frame} {fs : List Frame} {kind : CallKind} {at : MethodRef} {args : List ℕ} {body : ℕ} →
      ActAt app f.method f.pc (Call kind at args) →
      CallsTo app w.heap f kind at args (Body body) →
      IsNative app body →
      Stands app lists w (f ∷ fs) f.method f.pc native
  without_row : {f : Frame} {fs : List Frame} {kind : CallKind} {at : MethodRef} {args : List ℕ} {class : Name} →
      ActAt app f.method f.pc (Call kind at args) →
      CallsTo app w.heap f kind at args (Library class) →
      library_key app lists class at.name at.proto (is_static_call kind) ≡ None →
      Stands app lists w (f ∷ fs) f.method f.pc no_summary
  at_reflection : {f : Frame} {fs : List Frame} {kind : CallKind} {at : MethodRef} {args : List ℕ} {class : Name} {key : SummaryId} {row : Summary} →
      ActAt app f.method f.pc (Call kind at args) →
      CallsTo app w.heap f kind at args (Library class) →
      library_key app lists class at.name at.proto (is_static_call kind) ≡ Some key →
      summary lists key at (is_static_call kind) ≡ Some row →
      row.reflective ≡ true →
      Stands app lists w (f ∷ fs) f.method f.pc reflective
  native_initialiser : {f : Frame} {fs : List Frame} {body : ℕ} →
      Initialises app f.method f.pc body →
      IsNative app body →
      Stands app lists w (f ∷ fs) f.method f.pc native
  native_event : {body : ℕ} {place : Option ℕ} {sources : List (ℕ × ℕ)} {new : World} →
      Comes app lists w (Some body) place sources new →
      IsNative app body →
      Stands app lists w [] body 0 native
  native_class : {body : ℕ} →
      MayInitialise app w body →
      IsNative app body →
      Stands app lists w [] body 0 native

-- the declaration names the pair of categories
pub record Declared (lists : Lists) (declaration : Declaration) (label sink : ℕ) : Type 0 where
  pub source_name : Name
  pub sink_name : Name
  pub is_source : IsAt lists.categories label source_name
  pub is_sink : IsAt lists.categories sink sink_name
  pub pair : In (source_name, sink_name) declaration.pairs

-- No run brings a label to a sink unless that pair is declared, and none comes to what is not modelled.
pub record Safe (app : App) (lists : Lists) (declaration : Declaration) : Type 0 where
  pub declared : (w : World) (fs : List Frame) → Run app lists w fs → (a : Arrival) → In a w.arrivals → Declared lists declaration a.label a.sink
  pub never_stands : (w : World) (fs : List Frame) → Run app lists w fs → (method pc cause : ℕ) → Stands app lists w fs method pc cause → ⊥
