-- Instructions that stay in their method.
use Rattle.std.proofs.Common.{◌≡◌, ◌+◌, ◌<◌, ℕ, List, [], ◌∷◌, length, take, get_or, Option, Some, None, refl, sym, ap, ◌∙◌, subst, arith}
use Rattle.std.specs.Prelude.{slice_set}
use Rattle.std.proofs.lemmas.Option.{none-some, slice_get-get_or}
use Rattle.app_machine.specs.declared.app.App.{App}
use Rattle.app_machine.specs.declared.lists.Lists.{Lists}
use Rattle.app_machine.specs.declared.method.Act.{Act}
use Rattle.app_machine.specs.declared.method.Step.{Step}
use Rattle.app_machine.specs.Heap.{Value, Object}
use Rattle.app_machine.specs.State.{World, Frame}
use Rattle.played_alike.specs.Alike.{AlikePlaying}
use Rattle.played_machine.specs.Drawing.{Drawing, continue, draw, give, given, one_of, ◌>>=◌}
use Rattle.played_machine.specs.Local.{Playing, playing, moved}
use Rattle.played_machine.specs.Step.{acts}
use Rattle.runner_calls.proofs.Raising.{one_some}
use Rattle.runner_calls.proofs.Stacking.{stack, stack_set, stack_top}
use Rattle.runner_local.specs.Changed.{AlikeChange, changed, read_by}
use Rattle.runner_local.proofs.Tied.{local_is}
use Rattle.runner_state.specs.declared.frame.Called.{Called}
use Rattle.runner_state.specs.Shown.{frame_in, register_in}
use Rattle.runner_steps.specs.Given.{acted, given_to, next_given}
use Rattle.runner_steps.specs.State.{on_running}
use Rattle.runner_steps.proofs.Alike.{frames_itself, itself}

-- one of several
pub one_of_none : (xs : List ℕ) (bytes : List ℕ) → length xs ≡ 0 → None ≡ one_of xs bytes
unfolding one_of
one_of_none [] [] none = refl
one_of_none [] (b ∷ bytes) none = refl
one_of_none (x ∷ xs) bytes none = absurd (omega (arith, none))

pub one_of_some : (xs : List ℕ) (n : ℕ) (bytes : List ℕ) (i : ℕ) (rest : List ℕ) → n ≡ length xs → Some (i, rest) ≡ draw n bytes → i < length xs → Some (get_or xs i 0, rest) ≡ one_of xs bytes
one_of_some xs n bytes i rest long drawn within = one_some xs n bytes long i rest (get_or xs i 0) drawn (slice_get-get_or xs i 0 within)

-- what is given
pub next_none : (next : List ℕ) (v : Value) (bytes : List ℕ) → None ≡ one_of next bytes → None ≡ next_given next v bytes
next_none next v bytes is = ap (continue (λ pc. give (v, pc))) is

pub next_some : (next : List ℕ) (v : Value) (bytes : List ℕ) (pc : ℕ) (rest : List ℕ) → Some (pc, rest) ≡ one_of next bytes → Some ((v, pc), rest) ≡ next_given next v bytes
next_some next v bytes pc rest is = ap (continue (λ pc. give (v, pc))) is

module _ (heap : List Object) (f : Frame) (step : Step) (bytes : List ℕ) where
  pub nothing_read : None ≡ read_by heap f.registers step.act bytes → None ≡ given_to heap f step bytes
  nothing_read is = ap (continue (next_given step.next)) is

  pub is_read : (v : Value) (left : List ℕ) (o : Option ((Value × ℕ) × List ℕ)) → Some (v, left) ≡ read_by heap f.registers step.act bytes → o ≡ next_given step.next v left → o ≡ given_to heap f step bytes
  is_read v left o is next = next ∙ ap (continue (next_given step.next)) is

-- an act by its definition is what it is given and what it does then
module _ (app : App) (lists : Lists) (w : World) (step : Step) where
  module _ (f : Frame) (fs : List Frame) where
    abbrev to_next : World × (ℕ → Value) → Drawing Playing
    to_next done = one_of step.next >>= λ pc. give (playing done.0 (moved f pc done.1 ∷ fs))

    abbrev done_by : Value × ℕ → Drawing Playing
    done_by given = give (acted app lists w step.act given (f ∷ fs))

    by_next : (v : Value) (o : Option (ℕ × List ℕ)) → continue (λ pc. give (playing (changed app lists w f.registers step.act v).0 (moved f pc (changed app lists w f.registers step.act v).1 ∷ fs))) o ≡ continue done_by (continue (λ pc. give (v, pc)) o)
    by_next v None = refl
    by_next v (Some d) = refl

    by_read : (o : Option (Value × List ℕ)) → continue to_next (continue (λ v. give (changed app lists w f.registers step.act v)) o) ≡ continue done_by (continue (next_given step.next) o)
    by_read None = refl
    by_read (Some d) = by_next d.0 (one_of step.next d.1)

    pub acts_is : (bytes : List ℕ) → acts app lists w f fs step.next step.act bytes ≡ (given_to w.heap f step >>= done_by) bytes
    acts_is bytes = ap (continue to_next) (local_is app lists w f step.act bytes) ∙ by_read (read_by w.heap f.registers step.act bytes)

  abbrev pub acting : Frame → List Frame → Drawing Playing
  acting f fs = acts app lists w f fs step.next step.act

  abbrev pub giving : Frame → List Frame → Drawing (Value × ℕ)
  giving f fs = given_to w.heap f step

  pub acts_not : (fs : List Frame) (bytes : List ℕ) → None ≡ on_running giving fs bytes → on_running acting fs bytes ≡ None
  acts_not [] bytes is = refl
  acts_not (f ∷ fs) bytes is = acts_is f fs bytes ∙ ap (continue (done_by f fs)) (sym is)

  pub acts_so : (fs : List Frame) (bytes : List ℕ) (given : Value × ℕ) (rest : List ℕ) → Some (given, rest) ≡ on_running giving fs bytes → on_running acting fs bytes ≡ Some (acted app lists w step.act given fs, rest)
  acts_so [] bytes given rest is = absurd (none-some (given, rest) (sym is))
  acts_so (f ∷ fs) bytes given rest is = acts_is f fs bytes ∙ ap (continue (done_by f fs)) (sym is)

-- the running frame is the last that is kept
module _ (app : App) (lists : Lists) (w : World) (act : Act) (v : Value) (pc : ℕ) where
  pub acted_none : (called : List Called) → length called ≡ 0 → AlikePlaying (acted app lists w act (v, pc) (stack called)) (playing w (stack called))
  acted_none [] none = itself (playing w [])
  acted_none (c ∷ called) none = absurd (omega (arith, none))

  pub acted_top : (called : List Called) (n : ℕ) (c new : Called) (u : World) → length called ≡ n + 1 → c ≡ get_or called n c → new.method ≡ c.method → new.pc ≡ pc → new.initialises ≡ c.initialises →
      AlikeChange (changed app lists w (register_in c.registers) act v) u (register_in new.registers) → AlikePlaying (acted app lists w act (v, pc) (stack called)) (playing u (stack (slice_set called n new)))
  acted_top called n c new u many is method at initialises alike =
      subst (λ fs. AlikePlaying (acted app lists w act (v, pc) fs) (playing u (stack (slice_set called n new)))) (sym (stack_top called n c many is))
      (subst (λ fs. AlikePlaying (acted app lists w act (v, pc) (frame_in c ∷ stack (take n called))) (playing u fs)) (sym (stack_set called n new many))
      (record { world = alike.0; frames = (record { method = sym method; pc = sym at; registers = alike.1; initialises = sym initialises }, frames_itself (stack (take n called))) }))
