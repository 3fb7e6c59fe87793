-- The causes at an instruction.
use Rattle.std.proofs.Common.{◌≡◌, ℕ, Bool, true, false, cond, List, [], ◌∷◌, ◌++◌, map, slice_get, Some, None, refl, sym, ap, ◌∙◌}
use Rattle.std.specs.Prelude.{◌||◌}
use Rattle.std.specs.List.{list_any}
use Rattle.std.proofs.lemmas.Option.{none-some}
use Rattle.app_machine.specs.declared.app.App.{App}
use Rattle.app_machine.specs.declared.call.CallKind.{CallKind}
use Rattle.app_machine.specs.declared.call.MethodRef.{MethodRef}
use Rattle.app_machine.specs.declared.lists.Lists.{Lists}
use Rattle.app_machine.specs.declared.method.Act.{Act}
use Rattle.app_machine.specs.declared.method.Act.TheVariants.{Skip, Join, Move, Blank, New, Fill, Get, Put, GetStatic, PutStatic, Call, Return, Throw, TakeResult, TakeException, Go}
use Rattle.app_machine.specs.Names.{Name}
use Rattle.app_machine.specs.State.{Frame, World}
use Rattle.app_machine.specs.Summaries.{library_key}
use Rattle.app_machine.specs.Lookups.{is_static_call, step_at}
use Rattle.played_machine.specs.Ordered.{ascending}
use Rattle.played_machine.specs.Standing as standing
use Rattle.played_machine.specs.Standing.{cause_of_key, causes_at, causes_of_call, if_native_then, stands_of}
use Rattle.runner_stands.specs.declared.causes.Cause.TheVariants.{NoSummary, Native, Reflective}
use Rattle.runner_stands.specs.declared.standing.Causes.{Causes}
use Rattle.runner_stands.specs.Stands.{cause_in, numbers_in, stand_at}
use Rattle.runner_steps.proofs.Running.{with_top}

-- the act is no call
pub no_call : (app : App) (lists : Lists) (w : World) (f : Frame) (act : Act) → ((kind : CallKind) (at : MethodRef) (args : List ℕ) → act ≡ Call kind at args → ⊥) → [] ≡ causes_of_call app lists w f act
no_call app lists w f (Call kind at args) call = absurd (call kind at args refl)
no_call app lists w f Skip call = refl
no_call app lists w f (Join ds xs) call = refl
no_call app lists w f (Move ds x) call = refl
no_call app lists w f (Blank ds) call = refl
no_call app lists w f (New d class size) call = refl
no_call app lists w f (Fill xs class) call = refl
no_call app lists w f (Get ds o k) call = refl
no_call app lists w f (Put o k x) call = refl
no_call app lists w f (GetStatic ds g) call = refl
no_call app lists w f (PutStatic g x) call = refl
no_call app lists w f (Return x) call = refl
no_call app lists w f (Throw x) call = refl
no_call app lists w f (TakeResult ds) call = refl
no_call app lists w f (TakeException d) call = refl
no_call app lists w f Go call = refl

-- what the lists say of a call that comes to the library class
pub by_class : (app : App) (lists library : Lists) (class : Name) (kind : CallKind) (at : MethodRef) (b : Bool) → library ≡ lists → b ≡ is_static_call kind →
    cause_of_key lists at (is_static_call kind) (library_key app library class at.name at.proto b) ≡ cause_of_key lists at (is_static_call kind) (library_key app lists class at.name at.proto (is_static_call kind))
by_class app lists library class kind at b same static =
    ap (λ (ls : Lists). cause_of_key lists at (is_static_call kind) (library_key app ls class at.name at.proto b)) same
    ∙ ap (λ s. cause_of_key lists at (is_static_call kind) (library_key app lists class at.name at.proto s)) static

-- initialisers one after the other
module _ (p : ℕ → Bool) (all : Bool) where
  pub one_native : (left rest : List ℕ) (body : ℕ) (b : Bool) → left ≡ body ∷ rest → b ≡ p body → b ≡ true → list_any p left ≡ all → true ≡ all
  one_native left rest body b front is holds so_far = sym (ap (λ c. c || list_any p rest) (sym is ∙ holds)) ∙ (sym (ap (list_any p) front) ∙ so_far)

  pub others_native : (left rest : List ℕ) (body : ℕ) (b : Bool) → left ≡ body ∷ rest → b ≡ p body → b ≡ false → list_any p left ≡ all → list_any p rest ≡ all
  others_native left rest body b front is fails so_far = sym (ap (λ c. c || list_any p rest) (sym is ∙ fails)) ∙ (sym (ap (list_any p) front) ∙ so_far)

  pub none_native : (left : List ℕ) → left ≡ [] → list_any p left ≡ all → false ≡ all
  none_native left none so_far = sym (ap (list_any p) none) ∙ so_far

-- where the state stands
module _ (app : App) (lists : Lists) (w : World) (fs : List Frame) where
  pub no_frame : None ≡ slice_get fs 0 → stands_of app lists w [] ≡ stands_of app lists w fs
  no_frame none = ap (stands_of app lists w) (empty fs none)
    where
      empty : (gs : List Frame) → None ≡ slice_get gs 0 → [] ≡ gs
      empty [] none = refl
      empty (f ∷ gs) none = absurd (none-some f none)

  pub at_frame : (f : Frame) → Some f ≡ slice_get fs 0 → map (stand_at f.method f.pc) (ascending (causes_at app lists w f (step_at app f.method f.pc))) ≡ stands_of app lists w fs
  unfolding stands_of
  at_frame f top = ap (stands_of app lists w) (sym (with_top fs f top))

pub no_causes : (method pc : ℕ) → [] ≡ map (stand_at method pc) (ascending [])
unfolding ascending
no_causes method pc = refl

-- in order
pub of_none : (b : Bool) → numbers_in (record { no_summary = false; native = b; reflective = false }) ≡ ascending ([] ++ if_native_then b)
unfolding ascending
of_none true = refl
of_none false = refl

pub of_no_summary : (b : Bool) → numbers_in (record { no_summary = true; native = b; reflective = false }) ≡ ascending (cause_in (Some NoSummary) ++ if_native_then b)
unfolding ascending
of_no_summary true = refl
of_no_summary false = refl

pub of_native : (b : Bool) → numbers_in (record { no_summary = false; native = true; reflective = false }) ≡ ascending (cause_in (Some Native) ++ if_native_then b)
unfolding ascending
of_native true = refl
of_native false = refl

pub of_reflective : (b : Bool) → numbers_in (record { no_summary = false; native = b; reflective = true }) ≡ ascending (cause_in (Some Reflective) ++ if_native_then b)
unfolding ascending
of_reflective true = refl
of_reflective false = refl

-- what is added for each
module _ (method pc : ℕ) where
  pub all_added : (causes : Causes) (one two three : List standing.Stand) →
      one ≡ [] ++ cond causes.no_summary (stand_at method pc 1 ∷ []) [] → two ≡ one ++ cond causes.native (stand_at method pc 2 ∷ []) [] → three ≡ two ++ cond causes.reflective (stand_at method pc 3 ∷ []) [] →
      three ≡ map (stand_at method pc) (numbers_in causes)
  all_added causes one two three first second third = third ∙ (ap (λ xs. xs ++ cond causes.reflective (stand_at method pc 3 ∷ []) []) (second ∙ ap (λ xs. xs ++ cond causes.native (stand_at method pc 2 ∷ []) []) first) ∙ by_each causes.no_summary causes.native causes.reflective)
    where
      by_each : (a b c : Bool) → (([] ++ cond a (stand_at method pc 1 ∷ []) []) ++ cond b (stand_at method pc 2 ∷ []) []) ++ cond c (stand_at method pc 3 ∷ []) [] ≡ map (stand_at method pc) (numbers_in (record { no_summary = a; native = b; reflective = c }))
      by_each true true true = refl
      by_each true true false = refl
      by_each true false true = refl
      by_each true false false = refl
      by_each false true true = refl
      by_each false true false = refl
      by_each false false true = refl
      by_each false false false = refl
