-- How what is known lasts over an effect of the running node, over a new object and over a step to another pc.
use Rattle.std.proofs.Common.{◌≡◌, ◌≢◌, ◌==◌, ℕ, List, [], ◌∷◌, ◌++◌, length, Bool, ◌⊎◌, inl, inr, Option, Some, None, refl, sym, ◌∙◌, subst}
use Rattle.std.specs.Prelude.{IsFalse}
use Rattle.std.proofs.lemmas.Option.{none-some}
use Rattle.vet_base.specs.declared.key_id.KeyId.{KeyId}
use Rattle.access_path.specs.Laws.{PathLaws}
use Rattle.access_path.specs.declared.path.Path.{Path}
use Rattle.access_path.specs.Paths.{cut}
use Rattle.app_machine.specs.declared.method.Act.{Act}
use Rattle.app_machine.specs.declared.app.App.{App}
use Rattle.app_machine.specs.declared.lists.Lists.{Lists}
use Rattle.vet_base.specs.Members.{In}
use Rattle.app_machine.specs.Lookups.{ActAt, Goes}
use Rattle.app_machine.specs.Heap.{Value, Object}
use Rattle.app_machine.specs.State.{exception_register, holds, write, write_all, World, Frame}
use Rattle.app_machine.specs.Local.{writes}
use Rattle.fact_rows.specs.declared.context.Ctx.{Ctx}
use Rattle.fact_rows.specs.declared.context.Activation.{Activation}
use Rattle.fact_rows.specs.declared.context.Node.{Node}
use Rattle.fact_rows.specs.declared.site.Site.{Site}
use Rattle.fact_rows.specs.declared.site.Site.TheVariants.{Component}
use Rattle.fact_rows.specs.declared.row.Row.{Row}
use Rattle.fact_rows.specs.declared.row.Row.TheVariants.{Points, Taint, Cell, StaticPoints, StaticTaint, CalledBy, Effect, MethodEffect, CompTaint, Handed, HandedTaint}
use Rattle.flow_rules.specs.Nodes.{at_pc, activation_in, Acts, GoesOn, CaughtAt}
use Rattle.flow_rules.specs.LocalRules.{LocalRule, reach_next, keep_points, keep_taint, keep_points_caught, keep_taint_caught, cell_back}
use Rattle.flow_rules.specs.EffectRules.{EffectRule, lift_effect, effect_next, effect_caught, method_effect, caller_effect, effect_static, effect_handed}
use Rattle.flow_rules.specs.CallRules.{CallRule, initialiser_taint}
use Rattle.flow_rules.specs.LibraryRules.{LibraryRule}
use Rattle.flow_rules.specs.EventRules.{EventRule}
use Rattle.flow_rules.specs.HandedRules.{HandedRule}
use Rattle.flow_rules.specs.Rules.{by_local, by_effect, by_call, by_library, by_event, by_handed, Each, Closed}
use Rattle.flow_proof.proofs.Fitting.{HeapFits, Changed, Touched, fits_map, fits_after, heap_changed, blank_fits}
use Rattle.flow_proof.proofs.Growing.{with_site, fits_grown, heap_grown, NewFits}
use Rattle.flow_proof.proofs.Knowing.{node_of, Pending, RegisterFits, PendingFits, SharedOnly, written, written_all, ComponentFits, WorldFits, Waits, none_waits, waits_call, waits_initialiser, Running, Runs, RunsPending, Known, running, waits_map}

module _ (app : App) (lists : Lists) (has : Row → Type 0) (closed : Closed app lists has) (laws : PathLaws) where
  -- the rules, applied to rows that are there
  pub loc : {rule : ℕ} {ps : List Row} {row : Row} → LocalRule app lists rule ps row → Each has ps → has row
  loc r h = closed _ _ _ (by_local r) h

  pub eff : {rule : ℕ} {ps : List Row} {row : Row} → EffectRule app rule ps row → Each has ps → has row
  eff r h = closed _ _ _ (by_effect r) h

  pub cal : {rule : ℕ} {ps : List Row} {row : Row} → CallRule app lists rule ps row → Each has ps → has row
  cal r h = closed _ _ _ (by_call r) h

  pub lib : {rule : ℕ} {ps : List Row} {row : Row} → LibraryRule app lists rule ps row → Each has ps → has row
  lib r h = closed _ _ _ (by_library r) h

  pub evt : {rule : ℕ} {ps : List Row} {row : Row} → EventRule app lists rule ps row → Each has ps → has row
  evt r h = closed _ _ _ (by_event r) h

  pub hnd : {rule : ℕ} {ps : List Row} {row : Row} → HandedRule app lists rule ps row → Each has ps → has row
  hnd r h = closed _ _ _ (by_handed r) h

  -- an effect is lifted to what leads to the object
  pub lift_at : (n : Node) (k : KeyId) (l : ℕ) (s t : Site) (q : Path) → has (Effect n t q l) → has (Cell s k t) → has (Effect n s (cut k q) l)
  lift_at n k l s t q e cell = eff lift_effect (e, (loc cell_back (cell, tt), tt))

  -- an effect of an activation is one of the node that waits for it, and of that node's activation
  at_caller : {effect : Site → Path → ℕ → Type 0} {b : Activation} {n : Node} →
      ((s : Site) (q : Path) (l : ℕ) → effect s q l → has (MethodEffect b s q l)) → has (CalledBy b n) → (s : Site) (q : Path) (l : ℕ) →
      effect s q l → has (Effect n s q l)
  at_caller carry called s q l e = eff caller_effect (carry s q l e, (called, tt))

  in_caller : {effect : Site → Path → ℕ → Type 0} {b : Activation} {n : Node} →
      ((s : Site) (q : Path) (l : ℕ) → effect s q l → has (MethodEffect b s q l)) → has (CalledBy b n) → (s : Site) (q : Path) (l : ℕ) →
      effect s q l → has (MethodEffect n.by s q l)
  in_caller {n = n} carry called s q l e = eff (method_effect {n = n}) (at_caller carry called s q l e, tt)

  -- a change by effects leaves each waiting frame known
  waits_after : {bottom : Activation} {effect : Site → Path → ℕ → Type 0} {heap heap' : List Object} {site : ℕ → Site} {b : Activation} {i : Bool} {fs : List Frame} →
      HeapFits app lists has heap site → Changed has effect site heap heap' →
      ((s : Site) (q : Path) (l : ℕ) → effect s q l → has (MethodEffect b s q l)) → Waits app has bottom heap site b i fs →
      Waits app has bottom heap' site b i fs
  waits_after fits changed carry (none_waits at_bottom) = none_waits at_bottom
  waits_after {bottom} {effect} {heap} {heap'} {site} {b} fits changed carry (waits_call {g = g} c kind at args act reached called registers more) =
      waits_call c kind at args act reached called
      (λ r. fits_after laws fits changed (take_in r) (registers r))
      (waits_after fits changed (in_caller {n = node_of c g} carry called) more)
    where
      take_in : (r : ℕ) (q : Path) (l : ℕ) → Pending has (node_of c g) r q l ⊎ Touched (λ s. has (Points (node_of c g) r s)) effect q l →
          Pending has (node_of c g) r q l
      take_in r q l (inl old) = old
      take_in r q l (inr (s, points, e)) = inr (s, points, at_caller carry called s q l e)
  waits_after {bottom} {effect} {heap} {heap'} {site} {b} fits changed carry (waits_initialiser {g = g} c is_one reached called registers more) =
      waits_initialiser c is_one reached called
      (λ r. fits_after laws fits changed (take_in r) (registers r))
      (waits_after fits changed (in_caller {n = node_of c g} carry called) more)
    where
      take_in : (r : ℕ) (q : Path) (l : ℕ) → has (Taint (node_of c g) r q l) ⊎ Touched (λ s. has (Points (node_of c g) r s)) effect q l →
          has (Taint (node_of c g) r q l)
      take_in r q l (inl old) = old
      take_in r q l (inr (s, points, e)) = cal (initialiser_taint {n = node_of c g} is_one) (carry s q l e, (called, (points, tt)))

  -- an effect comes to the activation that the event began
  bottom_effect : {effect : Site → Path → ℕ → Type 0} {bottom : Activation} {heap : List Object} {site : ℕ → Site} {b : Activation} {i : Bool} {fs : List Frame} →
      Waits app has bottom heap site b i fs → ((s : Site) (q : Path) (l : ℕ) → effect s q l → has (MethodEffect b s q l)) →
      (s : Site) (q : Path) (l : ℕ) → effect s q l → has (MethodEffect bottom s q l)
  bottom_effect (none_waits at_bottom) carry s q l e = subst (λ x. has (MethodEffect x s q l)) at_bottom (carry s q l e)
  bottom_effect (waits_call {g = g} c kind at args act reached called registers more) carry s q l e =
      bottom_effect more (in_caller {n = node_of c g} carry called) s q l e
  bottom_effect (waits_initialiser {g = g} c is_one reached called registers more) carry s q l e =
      bottom_effect more (in_caller {n = node_of c g} carry called) s q l e

  -- a change by the effects of the running node
  world_after : {w : World} {site : ℕ → Site} {n : Node} {heap : List Object} → WorldFits app lists has w site →
      ((c : ℕ) → (w.components c).state ≢ 0 → (q : Path) (l : ℕ) → has (Effect n (Component c) q l) → has (CompTaint c (w.components c).state q l)) →
      Changed has (λ s q l. has (Effect n s q l)) site w.heap heap → WorldFits app lists has (record w { heap = heap }) site
  world_after {w} {site} {n} {heap} fits reaches changed = record {
    heap = heap_changed fits.heap changed;
    statics = λ g. fits_after laws fits.heap changed (take_in g) (fits.statics g);
    arrivals = fits.arrivals;
    live = fits.live;
    absent = fits.absent;
    components = λ c. component c (w.components c).place refl;
    handed = λ p h. let old = fits.handed p h in record { of = old.of; row = old.row; fits = fits_after laws fits.heap changed (at_handed old.of old.row) old.fits };
  }
    where
      take_in : (g : ℕ) (q : Path) (l : ℕ) →
          has (StaticTaint g q l) ⊎ Touched (λ s. has (StaticPoints g s) × SharedOnly app g s) (λ s p k. has (Effect n s p k)) q l →
          has (StaticTaint g q l)
      take_in g q l (inl old) = old
      take_in g q l (inr (s, points, e)) = eff effect_static (e, (points.0, tt))

      at_handed : (of : Site) → has (Handed of) → (q : Path) (l : ℕ) →
          has (HandedTaint of q l) ⊎ Touched (λ s. s ≡ of) (λ s p k. has (Effect n s p k)) q l → has (HandedTaint of q l)
      at_handed of row q l (inl old) = old
      at_handed of row q l (inr (s, same, e)) = eff effect_handed (subst (λ x. has (Effect n x q l)) same e, (row, tt))

      at_component : (c : ℕ) → (w.components c).state ≢ 0 → (q : Path) (l : ℕ) →
          has (CompTaint c (w.components c).state q l) ⊎ Touched (λ s. s ≡ Component c) (λ s p k. has (Effect n s p k)) q l →
          has (CompTaint c (w.components c).state q l)
      at_component c there q l (inl old) = old
      at_component c there q l (inr (s, same, e)) = reaches c there q l (subst (λ x. has (Effect n x q l)) same e)

      component : (c : ℕ) (place : Option ℕ) → (w.components c).place ≡ place → ComponentFits has heap site c (w.components c)
      component c None e = rw e (blank_fits heap site (λ x. x ≡ Component c) (λ q l. has (CompTaint c (w.components c).state q l)))
      component c (Some p) e =
          fits_after laws fits.heap changed (at_component c (λ zero_state. absurd (none-some p (sym (fits.absent c zero_state) ∙ e)))) (fits.components c)

  pub running_after : {w : World} {site : ℕ → Site} {c : Ctx} {f : Frame} {fs : List Frame} {heap : List Object} →
      Runs app lists has w site c f fs → Changed has (λ s q l. has (Effect (node_of c f) s q l)) site w.heap heap →
      RunsPending app lists has (record w { heap = heap }) site c f fs
  running_after {w} {site} {c} {f} {fs} {heap} known changed = record {
    reached = known.reached;
    world =
        world_after known.world (λ d there q l e. known.event.owns d there q l (bottom_effect {effect = λ s q l. has (Effect (node_of c f) s q l)} known.waits of_method (Component d) q l e)) changed;
    registers = λ r. fits_after laws known.world.heap changed (λ q l t. t) (known.registers r);
    event = known.event;
    waits = waits_after known.world.heap changed of_method known.waits;
  }
    where
      of_method : (s : Site) (q : Path) (l : ℕ) → has (Effect (node_of c f) s q l) → has (MethodEffect (activation_in c f.method) s q l)
      of_method s q l e = eff (method_effect {n = node_of c f}) (e, tt)

  -- nothing has changed
  pub pending_of : {w : World} {site : ℕ → Site} {c : Ctx} {f : Frame} {fs : List Frame} → Runs app lists has w site c f fs →
      RunsPending app lists has w site c f fs
  pending_of known = record {
    reached = known.reached;
    world = known.world;
    registers = λ r. fits_map (λ _ h. h) (λ _ _ h. inl h) (known.registers r);
    event = known.event;
    waits = known.waits;
  }

  -- a register at the next node, and at a handler
  pub settle_next : {heap : List Object} {site : ℕ → Site} {n : Node} {act : Act} {pc r : ℕ} {v : Value} → Acts app n act → GoesOn app n pc →
      IsFalse (writes act r) → PendingFits has n heap site r v → RegisterFits has (at_pc n pc) heap site r v
  settle_next {n = n} {pc = pc} {r = r} act goes other fits = fits_map (λ s h. loc (keep_points {n = n} act other goes) (h, tt)) take_in fits
    where
      take_in : (q : Path) (l : ℕ) → Pending has n r q l → has (Taint (at_pc n pc) r q l)
      take_in q l (inl t) = loc (keep_taint {n = n} act other goes) (t, tt)
      take_in q l (inr (s, points, e)) = eff (effect_next {n = n} goes) (e, (loc (keep_points {n = n} act other goes) (points, tt), tt))

  pub settle_catch : {heap : List Object} {site : ℕ → Site} {n : Node} {pc r : ℕ} {v : Value} → CaughtAt app n pc →
      IsFalse (r == exception_register) → PendingFits has n heap site r v → RegisterFits has (at_pc n pc) heap site r v
  settle_catch {n = n} {pc = pc} {r = r} caught other fits = fits_map (λ s h. loc (keep_points_caught {n = n} other caught) (h, tt)) take_in fits
    where
      take_in : (q : Path) (l : ℕ) → Pending has n r q l → has (Taint (at_pc n pc) r q l)
      take_in q l (inl t) = loc (keep_taint_caught {n = n} other caught) (t, tt)
      take_in q l (inr (s, points, e)) = eff (effect_caught {n = n} caught) (e, (loc (keep_points_caught {n = n} other caught) (points, tt), tt))

  -- a new object leaves all that is known as it is
  pub world_grown : {w : World} {site : ℕ → Site} {new : Site} {o : Object} → WorldFits app lists has w site →
      NewFits app lists has w.heap site new o →
      WorldFits app lists has (record w { heap = w.heap ++ o ∷ [] }) (with_site site (length w.heap) new)
  world_grown {w} {site} {new} {o} fits new_fits = record {
    heap = heap_grown fits.heap new_fits;
    statics = λ g. fits_grown o new fits.heap (fits.statics g);
    arrivals = fits.arrivals;
    live = fits.live;
    absent = fits.absent;
    components = λ c. fits_grown o new fits.heap (fits.components c);
    handed = λ p h. let old = fits.handed p h in record { of = old.of; row = old.row; fits = fits_grown o new fits.heap old.fits };
  }

  pub running_grown : {w : World} {site : ℕ → Site} {c : Ctx} {f : Frame} {fs : List Frame} {new : Site} {o : Object} {taints : ℕ → Path → ℕ → Type 0} →
      Running app lists has w site c f fs taints → NewFits app lists has w.heap site new o →
      Running app lists has (record w { heap = w.heap ++ o ∷ [] }) (with_site site (length w.heap) new) c f fs taints
  running_grown {w} {site} {c} {f} {fs} {new} {o} known new_fits = record {
    reached = known.reached;
    world = world_grown known.world new_fits;
    registers = λ r. fits_grown o new known.world.heap (known.registers r);
    event = known.event;
    waits = waits_map (λ v P T fits. fits_grown o new known.world.heap fits) known.waits;
  }

  -- The running frame goes on: to a next pc, with registers written or none.
  goes_next : {w : World} {site : ℕ → Site} {c : Ctx} {f : Frame} {fs : List Frame} {pc : ℕ} → RunsPending app lists has w site c f fs →
      Goes app f.method f.pc pc → (registers : ℕ → Value) →
      ((r : ℕ) → RegisterFits has (at_pc (node_of c f) pc) w.heap site r (registers r)) →
      Known app lists has w (record f { pc = pc; registers = registers } ∷ fs)
  goes_next {w} {site} {c} {f} {fs} {pc} known goes registers fits = running site c (record {
    reached = loc (reach_next {n = node_of c f} goes) (known.reached, tt);
    world = known.world;
    registers = fits;
    event = known.event;
    waits = known.waits;
  })

  pub goes_plain : {w : World} {site : ℕ → Site} {c : Ctx} {f : Frame} {fs : List Frame} {act : Act} {pc : ℕ} →
      RunsPending app lists has w site c f fs → ActAt app f.method f.pc act → Goes app f.method f.pc pc → ((r : ℕ) → IsFalse (writes act r)) →
      Known app lists has w (record f { pc = pc } ∷ fs)
  goes_plain {w} {site} {c} {f} {fs} {act} {pc} known acts goes none =
      goes_next known goes f.registers (λ r. settle_next {n = node_of c f} acts goes (none r) (known.registers r))

  pub goes_writing : {w : World} {site : ℕ → Site} {c : Ctx} {f : Frame} {fs : List Frame} {act : Act} {pc : ℕ} →
      RunsPending app lists has w site c f fs → ActAt app f.method f.pc act → Goes app f.method f.pc pc → (d : ℕ) (v : Value) →
      ((r : ℕ) → IsFalse (r == d) → IsFalse (writes act r)) → RegisterFits has (at_pc (node_of c f) pc) w.heap site d v →
      Known app lists has w (record f { pc = pc; registers = write f.registers d v } ∷ fs)
  goes_writing {w} {site} {c} {f} {fs} {act} {pc} known acts goes d v only fits = goes_next known goes (write f.registers d v)
      (written (RegisterFits has (at_pc (node_of c f) pc) w.heap site) f.registers d v fits (λ r other. settle_next {n = node_of c f} acts goes (only r other) (known.registers r)))

  pub goes_writing_all : {w : World} {site : ℕ → Site} {c : Ctx} {f : Frame} {fs : List Frame} {act : Act} {pc : ℕ} →
      RunsPending app lists has w site c f fs → ActAt app f.method f.pc act → Goes app f.method f.pc pc → (ds : List ℕ) (v : Value) →
      ((r : ℕ) → IsFalse (holds ds r) → IsFalse (writes act r)) →
      ((d : ℕ) → In d ds → RegisterFits has (at_pc (node_of c f) pc) w.heap site d v) →
      Known app lists has w (record f { pc = pc; registers = write_all f.registers ds v } ∷ fs)
  goes_writing_all {w} {site} {c} {f} {fs} {act} {pc} known acts goes ds v only fits = goes_next known goes (write_all f.registers ds v)
      (written_all (RegisterFits has (at_pc (node_of c f) pc) w.heap site) f.registers ds v fits (λ r other. settle_next {n = node_of c f} acts goes (only r other) (known.registers r)))
