-- The object that is to be made before any other.
use Rattle.std.proofs.Common.{◌≡◌, ℕ, List, [], ◌∷◌, ◌++◌, ap, ◌∙◌, append-nil}
use Rattle.app_machine.specs.Heap.{Object}
use Rattle.app_machine.specs.State.{new_object}
use Rattle.played_machine.specs.Coming.{fresh_object}
use Rattle.runner_begin.specs.declared.drawing.Fresh.{Fresh}
use Rattle.runner_begin.specs.Parameters.{planned_in}
use Rattle.runner_state.specs.Shown.{labels_of}

pub none_planned : (heap : List Object) (first : List Fresh) → first ≡ [] → planned_in heap first ≡ heap
none_planned heap first none = ap (planned_in heap) none ∙ append-nil heap

pub one_planned : (heap : List Object) (one : Fresh) (before first : List Fresh) → before ≡ [] → first ≡ before ++ one ∷ [] → labels_of one.labels ≡ [] → planned_in heap first ≡ heap ++ new_object one.class.now ∷ []
one_planned heap one before first none more plain =
    ap (planned_in heap) (more ∙ ap (λ (os : List Fresh). os ++ one ∷ []) none)
    ∙ ap (λ (ls : List ℕ). heap ++ fresh_object one.class.now ls ∷ []) plain
