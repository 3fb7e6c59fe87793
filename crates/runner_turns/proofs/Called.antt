-- A library call of the running frame.
use Rattle.std.proofs.Common.{◌≡◌, ℕ, List, [], ◌∷◌, Some, None, refl, sym, ap, ◌∙◌}
use Rattle.std.proofs.lemmas.Option.{none-some}
use Rattle.app_machine.specs.declared.app.App.{App}
use Rattle.app_machine.specs.declared.lists.Lists.{Lists}
use Rattle.app_machine.specs.Heap.{Value}
use Rattle.app_machine.specs.State.{Frame, World}
use Rattle.played_machine.specs.Drawing.{Drawing, continue}
use Rattle.played_machine.specs.Local.{Playing}
use Rattle.played_machine.specs.Step.{calls_library}
use Rattle.runner_library.specs.declared.calling.LibraryCall.{LibraryCall}
use Rattle.runner_library.specs.Call.{row_in, values_in}
use Rattle.runner_library.specs.Whole.{read_for}
use Rattle.runner_steps.specs.State.{on_running}
use Rattle.runner_steps.specs.Went.{called_in}
use Rattle.runner_steps.proofs.Went.{calls_is}

module _ (app : App) (lists : Lists) (w : World) (call : LibraryCall) (next : List ℕ) (bytes : List ℕ) where
  abbrev pub reads : Frame → List Frame → Drawing Value
  reads f fs = read_for app lists w (values_in call f.registers) call.at.now.proto.ret (row_in call).gives

  abbrev pub calls : Frame → List Frame → Drawing Playing
  calls f fs = calls_library app lists w f fs next call.kind call.at.now call.args.now (row_in call)

  pub not_called : (fs : List Frame) → None ≡ on_running reads fs bytes → on_running calls fs bytes ≡ None
  not_called [] none = refl
  not_called (f ∷ fs) none = calls_is app lists w call next f fs bytes ∙ ap (continue (λ v. called_in app lists w call next v f fs)) (sym none)

  pub is_called : (fs : List Frame) (v : Value) (left : List ℕ) → Some (v, left) ≡ on_running reads fs bytes →
      on_running (called_in app lists w call next v) fs left ≡ on_running calls fs bytes
  is_called [] v left some = absurd (none-some (v, left) (sym some))
  is_called (f ∷ fs) v left some = sym (calls_is app lists w call next f fs bytes ∙ ap (continue (λ z. called_in app lists w call next z f fs)) (sym some))
