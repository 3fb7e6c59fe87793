-- What is missed where one of the second rules is left out.
use Rattle.std.specs.Prelude.{◌≡◌, ◌≢◌, ◌≤◌, ℕ, List, [], ◌∷◌, length, None}
use Rattle.app_machine.specs.declared.method.Act.TheVariants.{New, Put}
use Rattle.app_machine.specs.declared.lists.Lists.{Lists}
use Rattle.app_machine.specs.declared.app.App.{App}
use Rattle.vet_base.specs.Members.{In}
use Rattle.app_machine.specs.State.{Arrival, World, Frame}
use Rattle.app_machine.specs.Run.{Run}
use Rattle.fact_rows.specs.declared.context.Node.{Node}
use Rattle.fact_rows.specs.declared.site.Site.{Site}
use Rattle.fact_rows.specs.declared.site.Site.TheVariants.{At}
use Rattle.fact_rows.specs.declared.row.Row.{Row}
use Rattle.fact_rows.specs.declared.row.Row.TheVariants.{Points, Label, Cell, Back, StaticLabel, CellLabel, Holds, ExitLabel, Arrive}
use Rattle.flow_rules.specs.Rules.{Starts, Each}
use Rattle.machine_witness.specs.Apps.{small_lists, step}
use Rattle.machine_witness.specs.Acts.{field_key}
use Rattle.machine_witness.specs.Flows.{Scene, scene, own_box, with_id, and_post, by_field, activity_of}
use Rattle.cell_rules.specs.Rules.{Follows}
use Rattle.cell_witness.specs.Copying.{copying_lists, by_copy}

-- The rows have the starts and are closed under all rules but what is left out of them, and there is a run of which
-- they have no row of an arrival.
pub record MissesBut (app : App) (lists : Lists) (left_out : ℕ → List Row → Type 0) (has : Row → Type 0) : Type 0 where
  pub starts : (row : Row) → Starts app row → has row
  pub closed : (rule : ℕ) (premises : List Row) (row : Row) →
      (left_out rule premises → ⊥) →
      Follows app lists rule premises row →
      Each has premises →
      has row
  pub world : World
  pub frames : List Frame
  pub run : Run app lists world frames
  pub arrival : Arrival
  pub arrives : In arrival world.arrivals
  pub misses : (n : Node) → has (Arrive arrival.label arrival.sink n) → ⊥

-- all rules of one number are
abbrev pub MissesWithout : App → Lists → ℕ → (Row → Type 0) → Type 0
MissesWithout app lists number has = MissesBut app lists (λ rule premises. rule ≡ number) has

-- of what is reached from an object, all that is reached by what it holds
abbrev pub IsClimb : ℕ → List Row → Type 0
IsClimb rule premises = (rule ≡ 14) × (2 ≤ length premises)

-- the label goes to the sink at once
abbrev pub at_once : Scene
at_once = scene (with_id (and_post 2 0)) []

-- the object that holds it does
abbrev pub in_object : Scene
in_object =
    scene (with_id (step 2 (New 1 own_box None) (3 ∷ []) ∷ step 3 (Put 1 field_key 0) (4 ∷ []) ∷ and_post 4 1)) []

-- an object that holds that one does
abbrev pub in_nested : Scene
in_nested =
    scene (with_id (step 2 (New 1 own_box None) (3 ∷ []) ∷ step 3 (Put 1 field_key 0) (4 ∷ []) ∷
    step 4 (New 2 own_box None) (5 ∷ []) ∷ step 5 (Put 2 field_key 1) (6 ∷ []) ∷ and_post 6 2)) []

-- All rows but those that say of a label that it is in register x, that it is reached from an object, or that it
-- arrives; and those of cells only where `cells` holds.
abbrev pub Without : ℕ → Type 0 → Row → Type 0
Without x cells (Label n r l) = r ≢ x
Without x cells (CellLabel s k l) = cells
Without x cells (Holds s l) = ⊥
Without x cells (Arrive l sink n) = ⊥
Without x cells row = Unit {0}

-- an object that is made at 2
abbrev pub IsMadeAtTwo : Site → Type 0
IsMadeAtTwo (At n) = n.pc ≡ 2
IsMadeAtTwo s = ⊥

-- Register 1 has no others, and register 2 none of these; neither has a label; labels are in these alone, and reached
-- from these alone; and none arrives.
abbrev pub OnlyInner : Row → Type 0
OnlyInner (Points n r s) = (r ≡ 1 → IsMadeAtTwo s) × (r ≡ 2 → IsMadeAtTwo s → ⊥)
OnlyInner (Label n r l) = (r ≢ 1) × (r ≢ 2)
OnlyInner (CellLabel s k l) = IsMadeAtTwo s
OnlyInner (Holds s l) = IsMadeAtTwo s
OnlyInner (Arrive l sink n) = ⊥
OnlyInner row = Unit {0}

-- Register 2 has no others than these, and no label; no object holds another one; labels are not in these, and not reached
-- from these; and none arrives.
abbrev pub Uncopied : Row → Type 0
Uncopied (Points n r s) = r ≡ 2 → IsMadeAtTwo s
Uncopied (Label n r l) = r ≢ 2
Uncopied (Cell s k t) = ⊥
Uncopied (Back t k s) = ⊥
Uncopied (CellLabel s k l) = IsMadeAtTwo s → ⊥
Uncopied (Holds s l) = IsMadeAtTwo s → ⊥
Uncopied (Arrive l sink n) = ⊥
Uncopied row = Unit {0}

-- all rows that speak of no label
abbrev pub Unlabelled : Row → Type 0
Unlabelled (Label n r l) = ⊥
Unlabelled (StaticLabel g l) = ⊥
Unlabelled (CellLabel s k l) = ⊥
Unlabelled (Holds s l) = ⊥
Unlabelled (ExitLabel a how l) = ⊥
Unlabelled (Arrive l sink n) = ⊥
Unlabelled row = Unit {0}

-- without puts, without what is reached from an object, or only what is reached by what it holds, without joined results,
-- and without copies
pub record LeavingOutARuleMisses : Type 0 where
  pub without_puts : MissesWithout (activity_of by_field) small_lists 8 (Without 2 ⊥)
  pub without_holds : MissesWithout (activity_of in_object) small_lists 14 (Without 1 (Unit {0}))
  pub without_climb : MissesBut (activity_of in_nested) small_lists IsClimb OnlyInner
  pub without_joins : MissesWithout (activity_of at_once) small_lists 35 Unlabelled
  pub without_copies : MissesWithout (activity_of by_copy) copying_lists 39 Uncopied
