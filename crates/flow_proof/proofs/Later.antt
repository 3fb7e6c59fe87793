-- What stays known in a later heap, what a position holds, and which shared objects a row of the library names.
use Rattle.std.proofs.Common.{◌≡◌, ℕ, List, [], ◌∷◌, Bool, inl, inr, Option, Some, None, refl, ap, sym}
use Rattle.std.specs.Prelude.{slice_get, map}
use Rattle.access_path.specs.declared.path.Path.{Path}
use Rattle.app_machine.specs.declared.summary.Gives.{Gives}
use Rattle.app_machine.specs.declared.summary.Gives.TheVariants.{Blank, Same, Taken, Joined, Shared as SharedResult, Handed}
use Rattle.app_machine.specs.declared.lists.Lists.{Lists}
use Rattle.app_machine.specs.declared.app.App.{App}
use Rattle.vet_base.specs.Members.{In, IsAt}
use Rattle.app_machine.specs.Names.{Name}
use Rattle.app_machine.specs.Lookups.{Goes}
use Rattle.app_machine.specs.Heap.{Value, Object, blank}
use Rattle.app_machine.specs.State.{result_register, ComponentState, World, Frame}
use Rattle.app_machine.specs.Library.{value_at, result_shared, shared_class}
use Rattle.fact_rows.specs.declared.context.Ctx.{Ctx}
use Rattle.fact_rows.specs.declared.context.Activation.{Activation}
use Rattle.fact_rows.specs.declared.site.Site.{Site}
use Rattle.fact_rows.specs.declared.site.Site.TheVariants.{Shared}
use Rattle.fact_rows.specs.declared.row.Row.{Row}
use Rattle.flow_rules.specs.Nodes.{at_pc}
use Rattle.flow_rules.specs.Sites.{site_class, SiteClass}
use Rattle.flow_proof.proofs.Fitting.{Fits, blank_fits}
use Rattle.flow_proof.proofs.Knowing.{node_of, RegisterFits, Owns, Waits, Runs}

-- The frame runs in a later heap, and what was known of values is known there.
pub record Later (app : App) (lists : Lists) (has : Row → Type 0) (heap : List Object) (site : ℕ → Site) (w : World) (c : Ctx) (f : Frame) (fs : List Frame) : Type 1 where
  pub sites : ℕ → Site
  pub running : Runs app lists has w sites c f fs
  pub stays : (v : Value) (P : Site → Type 0) (T : Path → ℕ → Type 0) → Fits heap site v P T → Fits w.heap sites v P T

-- and a result is known at each next node
pub record WithResult (app : App) (lists : Lists) (has : Row → Type 0) (heap : List Object) (site : ℕ → Site) (w : World) (c : Ctx) (f : Frame) (fs : List Frame) (v : Value) : Type 1 where
  pub later : Later app lists has heap site w c f fs
  pub result : (pc : ℕ) → Goes app f.method f.pc pc → RegisterFits has (at_pc (node_of c f) pc) w.heap later.sites result_register v

-- the same heap, and the same components
pub waits_at : {app : App} {has : Row → Type 0} {bottom : Activation} {new old : List Object} {site : ℕ → Site} {b : Activation} {i : Bool} {fs : List Frame} →
    new ≡ old → Waits app has bottom old site b i fs → Waits app has bottom new site b i fs
waits_at e h = rw e h

pub owns_at : (has : Row → Type 0) (bottom : Activation) (new old : ℕ → ComponentState) → new ≡ old → Owns has bottom old → Owns has bottom new
owns_at has bottom new old e h = rw e h

-- the value of a position is that of its register, or a blank
pub position_fits : {heap : List Object} {site : ℕ → Site} (f : Frame) (places : List ℕ) (i : ℕ) {P : Site → Type 0} {T : Path → ℕ → Type 0} →
    ((x : ℕ) → IsAt places i x → Fits heap site (f.registers x) P T) → Fits heap site (value_at f places i) P T
position_fits {heap} {site} f places i {P} {T} fits = go (slice_get places i) refl
  where
    go : (o : Option ℕ) → slice_get places i ≡ o → Fits heap site (elim o [ Some x ↦ f.registers x | None ↦ blank ]) P T
    go None e = blank_fits _ _ _ _
    go (Some x) e = fits x (record { there = e })

-- the site of a shared object has its class
pub shared_site : {app : App} {lists : Lists} {i : ℕ} {class : Name} → shared_class lists i ≡ Some class → SiteClass app lists (Shared i) class
unfolding site_class
shared_site e = record { is_class = e }

-- a shared object that a store names
pub stored : (stores : List (ℕ × ℕ)) (i : ℕ) → In i (map (λ (s : ℕ × ℕ). s.1) stores) → (j : ℕ) × In {A = ℕ × ℕ} (j, i) stores
stored [] i h = absurd h
stored (s ∷ stores) i (inl same) = (s.0, inl (rw same refl))
stored (s ∷ stores) i (inr h) = let later = stored stores i h in (later.0, inr later.1)

-- and that the result names
pub shared_result : (gives : Gives) (i : ℕ) → In i (result_shared gives) → gives ≡ SharedResult i
shared_result Blank i h = absurd h
shared_result (Same j) i h = absurd h
shared_result (Taken j) i h = absurd h
shared_result (Joined from) i h = absurd h
shared_result Handed i h = absurd h
shared_result (SharedResult j) i (inl same) = ap (λ k. SharedResult k) (sym same)
shared_result (SharedResult j) i (inr h) = absurd h
