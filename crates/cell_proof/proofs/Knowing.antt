-- What the rows of a closed set know of a state.
use Rattle.std.proofs.Common.{◌≡◌, ◌≢◌, ℕ, List, [], ◌∷◌, length, Bool, true, false, Some, subst, arith}
use Rattle.std.proofs.lemmas.Option.{same_Some}
use Rattle.app_machine.specs.declared.call.MethodRef.{MethodRef}
use Rattle.app_machine.specs.declared.call.CallKind.{CallKind}
use Rattle.app_machine.specs.declared.method.Act.{Act}
use Rattle.app_machine.specs.declared.method.Act.TheVariants.{Call}
use Rattle.app_machine.specs.declared.app.App.{App}
use Rattle.app_machine.specs.declared.lists.Lists.{Lists}
use Rattle.vet_base.specs.Members.{In}
use Rattle.app_machine.specs.Lookups.{ActAt}
use Rattle.app_machine.specs.Heap.{Value}
use Rattle.app_machine.specs.State.{shared_static, Arrival, ComponentState, World, Frame, object_at}
use Rattle.fact_rows.specs.declared.context.Ctx.{Ctx}
use Rattle.fact_rows.specs.declared.context.Activation.{Activation}
use Rattle.fact_rows.specs.declared.context.Node.{Node}
use Rattle.fact_rows.specs.declared.site.Site.{Site}
use Rattle.fact_rows.specs.declared.site.Site.TheVariants.{Component}
use Rattle.fact_rows.specs.Contexts.{IsEvent}
use Rattle.flow_rules.specs.Nodes.{at_pc, activation_in, Acts, InitialisedBy}
use Rattle.fact_rows.specs.declared.row.Row.{Row}
use Rattle.fact_rows.specs.declared.row.Row.TheVariants.{Reached, Points, Label, StaticPoints, StaticLabel, CalledBy, Live, Handed, Arrive}
use Rattle.cell_rules.specs.Reading.{reads, ReadAt, read_here}
use Rattle.flow_proof.specs.Covering.{InSomeContext}
use Rattle.flow_proof.proofs.Knowing.{node_of, SharedOnly}
use Rattle.cell_proof.proofs.Fitting.{Fits, HeapFits}

-- the rows of what stands in the register, where it is read
abbrev pub RegisterPoints : App → (Row → Type 0) → Node → ℕ → Site → Type 0
RegisterPoints app has n r s = (u : ℕ) → ReadAt app n.by.method r n.pc u → has (Points (at_pc n u) r s)

abbrev pub RegisterLabel : App → (Row → Type 0) → Node → ℕ → ℕ → Type 0
RegisterLabel app has n r l = (u : ℕ) → ReadAt app n.by.method r n.pc u → has (Label (at_pc n u) r l)

abbrev pub RegisterFits : App → (Row → Type 0) → Node → ℕ → (ℕ → Site) → ℕ → Value → Type 0
RegisterFits app has n size site r v = Fits size site v (RegisterPoints app has n r) (RegisterLabel app has n r)

-- the static is of no shared object
abbrev pub NotShared : App → ℕ → Type 0
NotShared app g = (i : ℕ) → g ≡ shared_static app i → ⊥

-- The static of a shared object holds nothing but that object, without labels.
abbrev pub StaticFits : App → (Row → Type 0) → ℕ → (ℕ → Site) → ℕ → Value → Type 0
StaticFits app has size site g v = Fits size site v (λ s. has (StaticPoints g s) × SharedOnly app g s) (λ l. has (StaticLabel g l) × NotShared app g)

-- the rows know a handed object
abbrev pub HandedFits : (Row → Type 0) → ℕ → (ℕ → Site) → ℕ → Type 0
HandedFits has size site p = Fits size site (object_at (Some p)) (λ s. has (Handed s)) (λ l. ⊥)

abbrev pub ComponentFits : ℕ → (ℕ → Site) → ℕ → ComponentState → Type 0
ComponentFits size site c s = Fits size site (object_at s.place) (λ x. x ≡ Component c) (λ l. ⊥)

-- an arrival has its row, in some context
abbrev pub ArrivalKnown : (Row → Type 0) → Arrival → Type 0
ArrivalKnown has a = InSomeContext a.method a.pc (λ n. has (Arrive a.label a.sink n))

pub record WorldFits (app : App) (lists : Lists) (has : Row → Type 0) (w : World) (site : ℕ → Site) : Type 0 where
  pub heap : HeapFits app lists has w.heap site
  pub statics : (g : ℕ) → StaticFits app has (length w.heap) site g (w.statics g)
  pub arrivals : (a : Arrival) → In a w.arrivals → ArrivalKnown has a
  pub live : (c : ℕ) → (w.components c).state ≢ 0 → has (Live c (w.components c).state)
  pub components : (c : ℕ) → ComponentFits (length w.heap) site c (w.components c)
  pub handed : (p : ℕ) → In p w.handed → HandedFits has (length w.heap) site p

-- The frames below a frame of activation b that is an initialiser or not, each in a context of its own. The bottom one is of
-- the activation that the event began.
pub data Waits (app : App) (has : Row → Type 0) (bottom : Activation) (size : ℕ) (site : ℕ → Site) : Activation → Bool → List Frame → Type 0 where
  none_waits : {b : Activation} {i : Bool} → b ≡ bottom → Waits app has bottom size site b i []
  waits_call : {b : Activation} {g : Frame} {gs : List Frame} (c : Ctx) (kind : CallKind) (at : MethodRef) (args : List ℕ) →
      ActAt app g.method g.pc (Call kind at args) → has (Reached (node_of c g)) → has (CalledBy b (node_of c g)) →
      ((r : ℕ) → RegisterFits app has (node_of c g) size site r (g.registers r)) →
      Waits app has bottom size site (activation_in c g.method) g.initialises gs → Waits app has bottom size site b false (g ∷ gs)
  waits_initialiser : {b : Activation} {g : Frame} {gs : List Frame} (c : Ctx) → InitialisedBy app (node_of c g) b → has (Reached (node_of c g)) →
      has (CalledBy b (node_of c g)) → ((r : ℕ) → RegisterFits app has (node_of c g) size site r (g.registers r)) →
      Waits app has bottom size site (activation_in c g.method) g.initialises gs → Waits app has bottom size site b true (g ∷ gs)

-- what is known while a frame runs
pub record Runs (app : App) (lists : Lists) (has : Row → Type 0) (w : World) (site : ℕ → Site) (c : Ctx) (f : Frame) (fs : List Frame) : Type 0 where
  pub reached : has (Reached (node_of c f))
  pub world : WorldFits app lists has w site
  pub registers : (r : ℕ) → RegisterFits app has (node_of c f) (length w.heap) site r (f.registers r)
  pub bottom : Activation
  pub is_event : IsEvent bottom.ctx
  pub waits : Waits app has bottom (length w.heap) site (activation_in c f.method) f.initialises fs

-- The invariant of a run.
pub data Known (app : App) (lists : Lists) (has : Row → Type 0) : World → List Frame → Type 0 where
  idle : {w : World} (site : ℕ → Site) → WorldFits app lists has w site → Known app lists has w []
  running : {w : World} {f : Frame} {fs : List Frame} (site : ℕ → Site) (c : Ctx) → Runs app lists has w site c f fs → Known app lists has w (f ∷ fs)

-- values that stay known keep waiting frames known
pub waits_map : {app : App} {has : Row → Type 0} {bottom : Activation} {size size' : ℕ} {site site' : ℕ → Site} {b : Activation} {i : Bool} {fs : List Frame} →
    ((v : Value) (P : Site → Type 0) (L : ℕ → Type 0) → Fits size site v P L → Fits size' site' v P L) → Waits app has bottom size site b i fs →
    Waits app has bottom size' site' b i fs
waits_map stays (none_waits at_bottom) = none_waits at_bottom
waits_map stays (waits_call c kind at args act reached called registers more) =
    waits_call c kind at args act reached called (λ r. stays _ _ _ (registers r)) (waits_map stays more)
waits_map stays (waits_initialiser c is_one reached called registers more) =
    waits_initialiser c is_one reached called (λ r. stays _ _ _ (registers r)) (waits_map stays more)

module _ (app : App) (has : Row → Type 0) where
  -- a value of a register that the act reads has its rows at the node
  pub fits_here : {n : Node} {act : Act} {size : ℕ} {site : ℕ → Site} {r : ℕ} {v : Value} → Acts app n act → In r (reads act) →
      RegisterFits app has n size site r v → Fits size site v (λ s. has (Points n r s)) (λ l. has (Label n r l))
  fits_here {n = n} act read fits = record {
    within = fits.within;
    pointed = λ p e. fits.pointed p e n.pc (read_here act read);
    labels = λ l h. fits.labels l h n.pc (read_here act read);
  }

-- a value's object, handed on
pub handed_of : {size : ℕ} {site : ℕ → Site} {v : Value} {P : Site → Type 0} {L : ℕ → Type 0} (has : Row → Type 0) (p : ℕ) → Fits size site v P L →
    v.place ≡ Some p → ((s : Site) → P s → has (Handed s)) → HandedFits has size site p
handed_of {site = site} has p fits there row = record {
  within = λ q e. let same = same_Some _ _ e in let below = fits.within p there in omega arith;
  pointed = λ q e. subst (λ x. has (Handed (site x))) (same_Some _ _ e) (row _ (fits.pointed p there));
  labels = λ l h. absurd h;
}
