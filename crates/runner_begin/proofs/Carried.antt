-- A state whose heap, components and frames are these.
use Rattle.std.proofs.Common.{◌≡◌, ℕ, List, ap, ◌∙◌}
use Rattle.app_machine.specs.Heap.{Object}
use Rattle.app_machine.specs.State.{ComponentState, Frame, World}
use Rattle.played_machine.specs.Local.{playing}

pub carried : (w : World) (heap planned : List Object) (lives set : ℕ → ComponentState) (fs gs : List Frame) → heap ≡ planned → lives ≡ set → fs ≡ gs →
    playing (record w { heap = heap; components = lives }) fs ≡ playing (record w { heap = planned; components = set }) gs
carried w heap planned lives set fs gs made changed entered =
    ap (λ (os : List Object). playing (record w { heap = os; components = lives }) fs) made
    ∙ (ap (λ (cs : ℕ → ComponentState). playing (record w { heap = planned; components = cs }) fs) changed
    ∙ ap (λ (hs : List Frame). playing (record w { heap = planned; components = set }) hs) entered)
