-- Returns.
use Rattle.std.proofs.Common.{◌≡◌, ℕ, Bool, true, false, List, [], drop, Some, None, slice_get, sym, ap, ◌∙◌, subst}
use Rattle.app_machine.specs.declared.app.App.{App}
use Rattle.app_machine.specs.Calls.{hand}
use Rattle.app_machine.specs.Heap.{Value}
use Rattle.app_machine.specs.Lookups.{step_at}
use Rattle.app_machine.specs.State.{World, Frame, result_register}
use Rattle.played_alike.specs.Alike.{AlikePlaying, AlikeWorld}
use Rattle.played_machine.specs.Drawing.{continue, give, one_of}
use Rattle.played_machine.specs.Local.{Playing, playing, next_of}
use Rattle.runner_calls.specs.Frames.{gone_on}
use Rattle.runner_steps.specs.Back.{again_or_on, back_to, on_with}
use Rattle.runner_steps.proofs.Running.{no_caller, with_caller}

module _ (app : App) (w : World) (v : Value) (initialises : Bool) (fs : List Frame) (bytes : List ℕ) where
  -- the end of the event
  abbrev pub ended : Playing
  ended = playing (record w { handed = hand v.place w.handed }) []

  pub ends : None ≡ slice_get fs 1 → back_to app w v initialises (drop 1 fs) bytes ≡ Some (ended, bytes)
  ends none = ap (λ gs. back_to app w v initialises gs bytes) (no_caller fs none)

  pub ends_alike : (new : World) (left : List Frame) → None ≡ slice_get fs 1 → AlikeWorld (record w { handed = hand v.place w.handed }) new → left ≡ drop 1 fs → AlikePlaying ended (playing new left)
  ends_alike new left none alike is = subst (λ gs. AlikePlaying ended (playing new gs)) (sym (is ∙ no_caller fs none)) (record { world = alike; frames = tt })

  pub goes_back : (g : Frame) (next : List ℕ) → Some g ≡ slice_get fs 1 → next ≡ next_of (step_at app g.method g.pc) → again_or_on w v next (drop 1 fs) initialises bytes ≡ back_to app w v initialises (drop 1 fs) bytes
  goes_back g next is of =
      ap (λ ns. again_or_on w v ns (drop 1 fs) initialises bytes) of
      ∙ (ap (λ gs. again_or_on w v (next_of (step_at app g.method g.pc)) gs initialises bytes) (with_caller fs g is) ∙ sym (ap (λ gs. back_to app w v initialises gs bytes) (with_caller fs g is)))

module _ (w : World) (v : Value) (next : List ℕ) (fs : List Frame) (bytes : List ℕ) where
  pub again : (initialises : Bool) (left : List Frame) → initialises ≡ true → left ≡ fs → again_or_on w v next fs initialises bytes ≡ Some (playing w left, bytes)
  again initialises left holds same = ap (λ b. again_or_on w v next fs b bytes) holds ∙ ap (λ gs. Some (playing w gs, bytes)) (sym same)

  pub otherwise : (initialises : Bool) → initialises ≡ false → on_with w v next fs bytes ≡ again_or_on w v next fs initialises bytes
  otherwise initialises fails = sym (ap (λ b. again_or_on w v next fs b bytes) fails)

  pub nowhere : None ≡ one_of next bytes → on_with w v next fs bytes ≡ None
  nowhere none = sym (ap (continue (λ pc. give (playing w (gone_on result_register v pc fs)))) none)

  pub goes_on : (pc : ℕ) (rest : List ℕ) (left new : List Frame) → Some (pc, rest) ≡ one_of next bytes → left ≡ fs → new ≡ gone_on result_register v pc left → on_with w v next fs bytes ≡ Some (playing w new, rest)
  goes_on pc rest left new drawn same made =
      sym (ap (continue (λ pc. give (playing w (gone_on result_register v pc fs)))) drawn) ∙ ap (λ gs. Some (playing w gs, rest)) (sym (made ∙ ap (gone_on result_register v pc) same))
