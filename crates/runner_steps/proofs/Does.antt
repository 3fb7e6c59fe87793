-- What instructions do, part by part.
use Rattle.std.proofs.Common.{◌≡◌, ◌<◌, ℕ, Bool, true, false, cond, List, [], ◌∷◌, length, drop, Option, Some, None, slice_get, refl, sym, ap, ◌∙◌, subst, arith, eqb-true}
use Rattle.std.specs.Prelude.{◌==◌, IfSome, option_map}
use Rattle.std.specs.List.{All}
use Rattle.std.proofs.lemmas.Option.{none-some}
use Rattle.app_machine.specs.declared.app.App.{App}
use Rattle.app_machine.specs.declared.call.CallKind.{CallKind}
use Rattle.app_machine.specs.declared.call.MethodRef.{MethodRef}
use Rattle.app_machine.specs.declared.lists.Lists.{Lists}
use Rattle.app_machine.specs.declared.method.Act.{Act}
use Rattle.app_machine.specs.declared.method.Act.TheVariants.{Skip, Join, Move, Blank, New, Fill, Get, Put, GetStatic, PutStatic, Call, Return, Throw, TakeResult, TakeException, Go}
use Rattle.app_machine.specs.declared.method.Method.{Method}
use Rattle.app_machine.specs.declared.method.Step.{Step}
use Rattle.app_machine.specs.Calls.{arguments, returned}
use Rattle.app_machine.specs.Lookups.{is_static_call, step_at}
use Rattle.app_machine.specs.declared.lists.SummaryId.{SummaryId}
use Rattle.app_machine.specs.Names.{Name}
use Rattle.app_machine.specs.Summaries.{library_key, summary}
use Rattle.played_machine.specs.Calling.{called_row, summary_by}
use Rattle.runner_library.specs.declared.calling.LibraryCall.{LibraryCall}
use Rattle.runner_library.specs.Call.{shared_in}
use Rattle.app_machine.specs.State.{World, Frame}
use Rattle.played_machine.specs.Drawing.{Drawing, give}
use Rattle.played_machine.specs.Local.{Playing, playing, next_of}
use Rattle.played_machine.specs.Step.{acts, calls_body, does, returns, step_there, where_next}
use Rattle.runner_calls.specs.Frames.{entered_with}
use Rattle.runner_steps.specs.declared.doing.Doing.{Doing}
use Rattle.runner_steps.specs.declared.doing.Doing.TheVariants.{Acts, CallsBody, CallsLibrary, Returns, Throws}
use Rattle.runner_steps.specs.Back.{on_with, returns_to}
use Rattle.runner_steps.specs.Doing.{IsCallOf, NamesFew, does_there, drawing_in, drawing_of}
use Rattle.runner_steps.proofs.Running.{no_caller, with_caller, with_top}

-- where control goes on
pub no_next : (next : List ℕ) (one : Drawing Playing) (b : Bool) → b ≡ (length next == 0) → b ≡ true → None ≡ where_next next one
no_next [] one b is holds = refl
no_next (pc ∷ next) one b is holds = let none : length (pc ∷ next) ≡ 0 = eqb-true (length (pc ∷ next)) 0 (sym is ∙ holds) in absurd (omega (arith, none))

pub some_next : (next : List ℕ) (one : Drawing Playing) (b : Bool) → b ≡ (length next == 0) → b ≡ false → Some one ≡ where_next next one
some_next [] one b is fails = absurd (let same : true ≡ false = sym is ∙ fails in cc)
some_next (pc ∷ next) one b is fails = refl

module _ (app : App) (lists : Lists) (w : World) where
  module _ (f : Frame) (fs : List Frame) (next : List ℕ) where
    pub stays : (act : Act) → ((kind : CallKind) (at : MethodRef) (args : List ℕ) → act ≡ Call kind at args → ⊥) → ((x : Option ℕ) → act ≡ Return x → ⊥) → ((x : ℕ) → act ≡ Throw x → ⊥) → where_next next (acts app lists w f fs next act) ≡ does app lists w f fs next act
    stays (Call kind at args) call return throw = absurd (call kind at args refl)
    stays (Return x) call return throw = absurd (return x refl)
    stays (Throw x) call return throw = absurd (throw x refl)
    stays Skip call return throw = refl
    stays (Join ds xs) call return throw = refl
    stays (Move ds x) call return throw = refl
    stays (Blank ds) call return throw = refl
    stays (New d class size) call return throw = refl
    stays (Fill xs class) call return throw = refl
    stays (Get ds o k) call return throw = refl
    stays (Put o k x) call return throw = refl
    stays (GetStatic ds g) call return throw = refl
    stays (PutStatic g x) call return throw = refl
    stays (TakeResult ds) call return throw = refl
    stays (TakeException d) call return throw = refl
    stays Go call return throw = refl

    -- the act that the code has is the instruction's
    pub of_act : (act a : Act) (o : Option (Drawing Playing)) → act ≡ a → o ≡ does app lists w f fs next a → o ≡ does app lists w f fs next act
    of_act act a o is same = same ∙ ap (does app lists w f fs next) (sym is)

  -- a body with code
  pub enters_body : (f : Frame) (fs : List Frame) (args : List ℕ) (body : ℕ) (o : Option Method) (m : Method) → Some m ≡ o → Some (give (playing w (entered_with o body (arguments f args) false (f ∷ fs)))) ≡ calls_body w f fs args body o
  enters_body f fs args body None m is = absurd (none-some m (sym is))
  enters_body f fs args body (Some n) m is = refl

  -- the whole
  pub none_there : (fs : List Frame) → None ≡ slice_get fs 0 → drawing_of app lists w fs None ≡ does_there app lists w fs
  none_there [] is = refl
  none_there (f ∷ fs) is = absurd (none-some f is)

  module _ (fs : List Frame) (f : Frame) (top : Some f ≡ slice_get fs 0) where
    pub no_step : None ≡ step_at app f.method f.pc → drawing_of app lists w fs None ≡ does_there app lists w fs
    no_step none = ap (λ gs. drawing_of app lists w gs None) (with_top fs f top) ∙ (ap (step_there app lists w f (drop 1 fs)) none ∙ sym (ap (does_there app lists w) (with_top fs f top)))

    pub by_step : (o : Option Doing) (s : Step) → Some s ≡ step_at app f.method f.pc → option_map (drawing_in app lists w f (drop 1 fs)) o ≡ does app lists w f (drop 1 fs) s.next s.act → drawing_of app lists w fs o ≡ does_there app lists w fs
    by_step o s is same =
        ap (λ gs. drawing_of app lists w gs o) (with_top fs f top) ∙ (same ∙ (ap (step_there app lists w f (drop 1 fs)) is ∙ sym (ap (does_there app lists w) (with_top fs f top))))

-- a return
initialised : (b : Bool) (again on : Drawing Playing) (next : List ℕ) → b ≡ true → Some (cond b again on) ≡ cond b (Some again) (where_next next on)
initialised true again on next is = refl
initialised false again on next is = absurd (let same : false ≡ true = is in cc)

resumed : (b : Bool) (again on : Drawing Playing) (next : List ℕ) → b ≡ false → Some on ≡ where_next next on → Some (cond b again on) ≡ cond b (Some again) (where_next next on)
resumed true again on next is goes = absurd (let same : true ≡ false = is in cc)
resumed false again on next is goes = goes

stuck : (b : Bool) (again on : Drawing Playing) (next : List ℕ) → b ≡ false → None ≡ where_next next on → None ≡ cond b (Some again) (where_next next on)
stuck true again on next is none = absurd (let same : true ≡ false = is in cc)
stuck false again on next is none = none

module _ (app : App) (w : World) (f : Frame) (x : Option ℕ) (fs : List Frame) where
  abbrev here : List Frame → Option (Drawing Playing)
  here gs = Some (returns_to app w x f gs)

  pub ends_event : None ≡ slice_get fs 1 → here (drop 1 fs) ≡ returns app w f x (drop 1 fs)
  ends_event none = ap here (no_caller fs none) ∙ sym (ap (returns app w f x) (no_caller fs none))

  module _ (g : Frame) (is : Some g ≡ slice_get fs 1) where
    abbrev again : Drawing Playing
    again = give (playing w (g ∷ drop 2 fs))

    abbrev on : Drawing Playing
    on = on_with w (returned f x) (next_of (step_at app g.method g.pc)) (g ∷ drop 2 fs)

    pub tries_again : f.initialises ≡ true → here (drop 1 fs) ≡ returns app w f x (drop 1 fs)
    tries_again holds = ap here (with_caller fs g is) ∙ (initialised f.initialises again on (next_of (step_at app g.method g.pc)) holds ∙ sym (ap (returns app w f x) (with_caller fs g is)))

    module _ (fails : f.initialises ≡ false) (ns : List ℕ) (of : ns ≡ next_of (step_at app g.method g.pc)) (b : Bool) (empty : b ≡ (length ns == 0)) where
      pub goes_on : b ≡ false → here (drop 1 fs) ≡ returns app w f x (drop 1 fs)
      goes_on some =
          ap here (with_caller fs g is)
          ∙ (resumed f.initialises again on (next_of (step_at app g.method g.pc)) fails (some_next (next_of (step_at app g.method g.pc)) on b (empty ∙ ap (λ (xs : List ℕ). length xs == 0) of) some)
          ∙ sym (ap (returns app w f x) (with_caller fs g is)))

      pub goes_nowhere : b ≡ true → None ≡ returns app w f x (drop 1 fs)
      goes_nowhere none =
          stuck f.initialises again on (next_of (step_at app g.method g.pc)) fails (no_next (next_of (step_at app g.method g.pc)) on b (empty ∙ ap (λ (xs : List ℕ). length xs == 0) of) none)
          ∙ sym (ap (returns app w f x) (with_caller fs g is))

-- what the lists say of a library call
module _ (app : App) (lists library : Lists) (class : Name) (kind : CallKind) (at : MethodRef) (b : Bool) (same : library ≡ lists) (static : b ≡ is_static_call kind) where
  key_is : library_key app library class at.name at.proto b ≡ library_key app lists class at.name at.proto (is_static_call kind)
  key_is = ap (λ (ls : Lists). library_key app ls class at.name at.proto b) same ∙ ap (library_key app lists class at.name at.proto) static

  pub no_key : None ≡ library_key app library class at.name at.proto b → None ≡ called_row app lists class kind at
  unfolding called_row
  no_key none = ap (summary_by lists at (is_static_call kind)) (none ∙ key_is)

  pub with_key : (key : SummaryId) → Some key ≡ library_key app library class at.name at.proto b → summary lists key at (is_static_call kind) ≡ called_row app lists class kind at
  unfolding called_row
  with_key key some = ap (summary_by lists at (is_static_call kind)) (some ∙ key_is)

-- a row by which the machine has a step
pub reflects : (reflective : Bool) (next : List ℕ) (one : Drawing Playing) (b : Bool) → b ≡ reflective → b ≡ true → None ≡ cond reflective None (where_next next one)
reflects reflective next one b is holds = ap (λ z. cond z None (where_next next one)) (sym holds ∙ is)

pub tells : (reflective : Bool) (next : List ℕ) (one : Drawing Playing) (o : Option (Drawing Playing)) (b : Bool) → b ≡ reflective → b ≡ false → o ≡ where_next next one → o ≡ cond reflective None (where_next next one)
tells reflective next one o b is fails same = same ∙ ap (λ z. cond z None (where_next next one)) (sym fails ∙ is)

pub told_few : (call : LibraryCall) (o : Option Doing) → IfSome o (IsCallOf call) → All (λ i. i < 65536) (shared_in call) → IfSome o NamesFew
told_few call None it few = tt
told_few call (Some (CallsLibrary other next)) it few = subst (λ (one : LibraryCall). All (λ i. i < 65536) (shared_in one)) (sym it) few
told_few call (Some (Acts step)) it few = absurd it
told_few call (Some (CallsBody body args)) it few = absurd it
told_few call (Some (Returns x)) it few = absurd it
told_few call (Some (Throws x)) it few = absurd it
