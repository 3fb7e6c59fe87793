-- What the rows of a closed set know of a state.
use Rattle.std.proofs.Common.{◌≡◌, ◌≢◌, ◌==◌, ℕ, List, [], ◌∷◌, Bool, true, false, cond, ◌⊎◌, Some, None, refl, ap, sym, ◌∙◌, subst, arith}
use Rattle.std.proofs.lemmas.Bool.{eqb-true}
use Rattle.std.specs.Prelude.{IsFalse}
use Rattle.std.proofs.lemmas.Option.{same_Some}
use Rattle.vet_base.proofs.Members.{one_passes}
use Rattle.access_path.specs.declared.path.Path.{Path}
use Rattle.app_machine.specs.declared.call.MethodRef.{MethodRef}
use Rattle.app_machine.specs.declared.call.CallKind.{CallKind}
use Rattle.app_machine.specs.declared.method.Act.TheVariants.{Call}
use Rattle.app_machine.specs.declared.app.App.{App}
use Rattle.app_machine.specs.declared.lists.Lists.{Lists}
use Rattle.vet_base.specs.Members.{In}
use Rattle.app_machine.specs.Lookups.{ActAt}
use Rattle.app_machine.specs.Heap.{Value, Object}
use Rattle.app_machine.specs.State.{holds, write, write_all, shared_static, Arrival, ComponentState, World, Frame, object_at}
use Rattle.fact_rows.specs.declared.context.Ctx.{Ctx}
use Rattle.fact_rows.specs.declared.context.Activation.{Activation}
use Rattle.fact_rows.specs.declared.context.Node.{Node}
use Rattle.fact_rows.specs.declared.site.Site.{Site}
use Rattle.fact_rows.specs.declared.site.Site.TheVariants.{Component, Shared}
use Rattle.fact_rows.specs.declared.row.Row.{Row}
use Rattle.fact_rows.specs.declared.row.Row.TheVariants.{Reached, Points, Taint, StaticPoints, StaticTaint, CalledBy, Effect, MethodEffect, Live, CompTaint, Handed, HandedTaint, Arrive}
use Rattle.fact_rows.specs.Contexts.{IsEvent}
use Rattle.flow_rules.specs.Nodes.{activation_in, InitialisedBy}
use Rattle.flow_proof.specs.Covering.{InSomeContext}
use Rattle.flow_proof.proofs.Fitting.{Fits, HeapFits, Touched, covered_map}

abbrev pub node_of : Ctx → Frame → Node
node_of c f = record { by = record { ctx = c; method = f.method }; pc = f.pc }

-- the Taint rows of a register, and with them those that the effects of the node will give
abbrev pub Taints : (Row → Type 0) → Node → ℕ → Path → ℕ → Type 0
Taints has n r q l = has (Taint n r q l)

abbrev pub Pending : (Row → Type 0) → Node → ℕ → Path → ℕ → Type 0
Pending has n r q l = has (Taint n r q l) ⊎ Touched (λ s. has (Points n r s)) (λ s p k. has (Effect n s p k)) q l

-- the rows at a node know the value of the register
abbrev pub RegisterFits : (Row → Type 0) → Node → List Object → (ℕ → Site) → ℕ → Value → Type 0
RegisterFits has n heap site r v = Fits heap site v (λ s. has (Points n r s)) (Taints has n r)

abbrev pub PendingFits : (Row → Type 0) → Node → List Object → (ℕ → Site) → ℕ → Value → Type 0
PendingFits has n heap site r v = Fits heap site v (λ s. has (Points n r s)) (Pending has n r)

-- The static of a shared object holds nothing but that object.
abbrev pub SharedOnly : App → ℕ → Site → Type 0
SharedOnly app g s = (i : ℕ) → g ≡ shared_static app i → s ≡ Shared i

abbrev pub StaticFits : App → (Row → Type 0) → List Object → (ℕ → Site) → ℕ → Value → Type 0
StaticFits app has heap site g v = Fits heap site v (λ s. has (StaticPoints g s) × SharedOnly app g s) (λ q l. has (StaticTaint g q l))

-- what a write leaves, by the written registers and the others
pub written : (P : ℕ → Value → Type 0) (registers : ℕ → Value) (d : ℕ) (v : Value) → P d v →
    ((r : ℕ) → IsFalse (r == d) → P r (registers r)) → (r : ℕ) → P r (write registers d v r)
written P registers d v new old r = go (r == d) refl
  where
    go : (b : Bool) → (r == d) ≡ b → P r (cond b v (registers r))
    go true e = subst (λ x. P x v) (sym (eqb-true r d e)) new
    go false e = old r e

held_in : (ds : List ℕ) (r : ℕ) → holds ds r ≡ true → In r ds
held_in ds r h = let found = one_passes (λ d. r == d) ds h in subst (λ d. In d ds) (sym (eqb-true r found.0 found.2)) found.1

pub written_all : (P : ℕ → Value → Type 0) (registers : ℕ → Value) (ds : List ℕ) (v : Value) → ((d : ℕ) → In d ds → P d v) →
    ((r : ℕ) → IsFalse (holds ds r) → P r (registers r)) → (r : ℕ) → P r (write_all registers ds v r)
written_all P registers ds v new old r = go (holds ds r) refl
  where
    go : (b : Bool) → holds ds r ≡ b → P r (cond b v (registers r))
    go true e = new r (held_in ds r e)
    go false e = old r e

-- the rows know a handed object
pub record HandedFits (has : Row → Type 0) (heap : List Object) (site : ℕ → Site) (p : ℕ) : Type 0 where
  pub of : Site
  pub row : has (Handed of)
  pub fits : Fits heap site (object_at (Some p)) (λ s. s ≡ of) (λ q l. has (HandedTaint of q l))

abbrev pub ComponentFits : (Row → Type 0) → List Object → (ℕ → Site) → ℕ → ComponentState → Type 0
ComponentFits has heap site c s = Fits heap site (object_at s.place) (λ x. x ≡ Component c) (λ q l. has (CompTaint c s.state q l))

-- an arrival has its row, in some context
abbrev pub ArrivalKnown : (Row → Type 0) → Arrival → Type 0
ArrivalKnown has a = InSomeContext a.method a.pc (λ n. has (Arrive a.label a.sink n))

pub record WorldFits (app : App) (lists : Lists) (has : Row → Type 0) (w : World) (site : ℕ → Site) : Type 0 where
  pub heap : HeapFits app lists has w.heap site
  pub statics : (g : ℕ) → StaticFits app has w.heap site g (w.statics g)
  pub arrivals : (a : Arrival) → In a w.arrivals → ArrivalKnown has a
  pub live : (c : ℕ) → (w.components c).state ≢ 0 → has (Live c (w.components c).state)
  pub absent : (c : ℕ) → (w.components c).state ≡ 0 → (w.components c).place ≡ None
  pub components : (c : ℕ) → ComponentFits has w.heap site c (w.components c)
  pub handed : (p : ℕ) → In p w.handed → HandedFits has w.heap site p

-- an effect of the activation on a component comes to it in its present state
abbrev pub Owns : (Row → Type 0) → Activation → (ℕ → ComponentState) → Type 0
Owns has bottom components =
    (c : ℕ) → (components c).state ≢ 0 → (q : Path) (l : ℕ) → has (MethodEffect bottom (Component c) q l) → has (CompTaint c (components c).state q l)

-- the activation that the event began
pub record EventOf (has : Row → Type 0) (components : ℕ → ComponentState) : Type 0 where
  pub bottom : Activation
  pub is_event : IsEvent bottom.ctx
  pub owns : Owns has bottom components

-- The frames below a frame of activation b that is an initialiser or not, each in a context of its own: one that waits for a
-- call is known with the effects of its node, one that waits for an initialiser as if it ran.
pub data Waits (app : App) (has : Row → Type 0) (bottom : Activation) (heap : List Object) (site : ℕ → Site) : Activation → Bool → List Frame → Type 0 where
  none_waits : {b : Activation} {i : Bool} → b ≡ bottom → Waits app has bottom heap site b i []
  waits_call : {b : Activation} {g : Frame} {gs : List Frame} (c : Ctx) (kind : CallKind) (at : MethodRef) (args : List ℕ) →
      ActAt app g.method g.pc (Call kind at args) → has (Reached (node_of c g)) → has (CalledBy b (node_of c g)) →
      ((r : ℕ) → PendingFits has (node_of c g) heap site r (g.registers r)) →
      Waits app has bottom heap site (activation_in c g.method) g.initialises gs → Waits app has bottom heap site b false (g ∷ gs)
  waits_initialiser : {b : Activation} {g : Frame} {gs : List Frame} (c : Ctx) → InitialisedBy app (node_of c g) b →
      has (Reached (node_of c g)) → has (CalledBy b (node_of c g)) →
      ((r : ℕ) → RegisterFits has (node_of c g) heap site r (g.registers r)) →
      Waits app has bottom heap site (activation_in c g.method) g.initialises gs → Waits app has bottom heap site b true (g ∷ gs)

-- what is known while a frame runs, with or without the effects of its step
pub record Running (app : App) (lists : Lists) (has : Row → Type 0) (w : World) (site : ℕ → Site) (c : Ctx) (f : Frame) (fs : List Frame) (taints : ℕ → Path → ℕ → Type 0) : Type 0 where
  pub reached : has (Reached (node_of c f))
  pub world : WorldFits app lists has w site
  pub registers : (r : ℕ) → Fits w.heap site (f.registers r) (λ s. has (Points (node_of c f) r s)) (taints r)
  pub event : EventOf has w.components
  pub waits : Waits app has event.bottom w.heap site (activation_in c f.method) f.initialises fs

abbrev pub Runs : App → Lists → (Row → Type 0) → World → (ℕ → Site) → Ctx → Frame → List Frame → Type 0
Runs app lists has w site c f fs = Running app lists has w site c f fs (Taints has (node_of c f))

abbrev pub RunsPending : App → Lists → (Row → Type 0) → World → (ℕ → Site) → Ctx → Frame → List Frame → Type 0
RunsPending app lists has w site c f fs = Running app lists has w site c f fs (Pending has (node_of c f))

-- The invariant of a run.
pub data Known (app : App) (lists : Lists) (has : Row → Type 0) : World → List Frame → Type 0 where
  idle : {w : World} (site : ℕ → Site) → WorldFits app lists has w site → Known app lists has w []
  running : {w : World} {f : Frame} {fs : List Frame} (site : ℕ → Site) (c : Ctx) → Runs app lists has w site c f fs → Known app lists has w (f ∷ fs)

-- values that stay known, as when an object is made, keep waiting frames known
pub waits_map : {app : App} {has : Row → Type 0} {bottom : Activation} {heap heap' : List Object} {site site' : ℕ → Site} {b : Activation} {i : Bool} {fs : List Frame} →
    ((v : Value) (P : Site → Type 0) (T : Path → ℕ → Type 0) → Fits heap site v P T → Fits heap' site' v P T) →
    Waits app has bottom heap site b i fs → Waits app has bottom heap' site' b i fs
waits_map stays (none_waits at_bottom) = none_waits at_bottom
waits_map stays (waits_call c kind at args act reached called registers more) =
    waits_call c kind at args act reached called (λ r. stays _ _ _ (registers r)) (waits_map stays more)
waits_map stays (waits_initialiser c is_one reached called registers more) =
    waits_initialiser c is_one reached called (λ r. stays _ _ _ (registers r)) (waits_map stays more)

-- a value's object, handed on
pub handed_of : {has : Row → Type 0} {heap : List Object} {site : ℕ → Site} {v : Value} {P : Site → Type 0} {T : Path → ℕ → Type 0} (p : ℕ) →
    Fits heap site v P T → v.place ≡ Some p → ((s : Site) → P s → has (Handed s)) →
    ((s : Site) (q : Path) (l : ℕ) → P s → T q l → has (HandedTaint s q l)) → HandedFits has heap site p
handed_of {has} {heap} {site} {v} {P} {T} p fits there row taint = record {
  of = site p;
  row = row _ (fits.pointed p there);
  fits = record {
    within = λ q e. let same = same_Some _ _ e in let below = fits.within p there in omega arith;
    pointed = λ q e. ap site (sym (same_Some _ _ e));
    tainted =
        elim [ [] ↦ λ l h. absurd h | k ∷ ks ↦ λ l h. covered_map (λ q l t. taint _ q l (fits.pointed p there) t) (fits.tainted (k ∷ ks) l (h.0, there ∙ h.1, h.2)) ];
  };
}
