-- How what is known lasts over a change of the heap, over a new object and over a step to another pc.
use Rattle.std.proofs.Common.{◌==◌, ℕ, List, [], ◌∷◌, ◌++◌, length, refl}
use Rattle.std.specs.Prelude.{IsFalse}
use Rattle.app_machine.specs.declared.call.MethodRef.{MethodRef}
use Rattle.app_machine.specs.declared.call.CallKind.{CallKind}
use Rattle.app_machine.specs.declared.method.Act.{Act}
use Rattle.app_machine.specs.declared.app.App.{App}
use Rattle.app_machine.specs.declared.lists.Lists.{Lists}
use Rattle.vet_base.specs.Members.{In}
use Rattle.app_machine.specs.Names.{Name}
use Rattle.app_machine.specs.Lookups.{ActAt, Goes}
use Rattle.app_machine.specs.Heap.{Value, Object}
use Rattle.app_machine.specs.State.{exception_register, holds, write, write_all, World, Frame}
use Rattle.app_machine.specs.Local.{writes}
use Rattle.fact_rows.specs.declared.context.Ctx.{Ctx}
use Rattle.fact_rows.specs.declared.context.Node.{Node}
use Rattle.fact_rows.specs.declared.site.Site.{Site}
use Rattle.flow_rules.specs.Nodes.{at_pc, Acts, GoesOn, CaughtAt}
use Rattle.flow_rules.specs.LocalRules as first_local
use Rattle.flow_rules.specs.CallRules as first_call
use Rattle.flow_rules.specs.LibraryRules as first_library
use Rattle.flow_rules.specs.EventRules as first_event
use Rattle.flow_rules.specs.Rules as first
use Rattle.fact_rows.specs.declared.row.Row.{Row}
use Rattle.cell_rules.specs.Reading.{read_next, read_caught}
use Rattle.cell_rules.specs.LocalRules.{LocalRule}
use Rattle.cell_rules.specs.CallRules.{CallRule}
use Rattle.cell_rules.specs.LibraryRules.{LibraryRule}
use Rattle.cell_rules.specs.EventRules.{EventRule}
use Rattle.cell_rules.specs.HandedRules.{HandedRule}
use Rattle.flow_rules.specs.Rules.{Each}
use Rattle.cell_rules.specs.KeptRules.{IsKept, filling, kept}
use Rattle.cell_rules.specs.Rules.{by_kept, by_local, by_call, by_library, by_event, by_handed, Closed}
use Rattle.flow_proof.proofs.Growing.{with_site}
use Rattle.flow_proof.proofs.Knowing.{node_of, written, written_all}
use Rattle.cell_proof.proofs.Fitting.{Changed, NewFits, fits_map, fits_sized, fits_grown, heap_changed, heap_grown}
use Rattle.cell_proof.proofs.Knowing.{RegisterFits, StaticFits, WorldFits, Runs, Known, running, waits_map}

-- the rows of a body that is entered, and of a row that is looked up, are of kinds that both sets have
pub enters_kept : {app : App} {n : Node} {body : ℕ} {row : Row} → first_call.Enters app n body row → IsKept row
enters_kept (first_call.calls_it code) = tt
enters_kept (first_call.is_called code) = tt
enters_kept (first_call.reaches_it code) = tt
enters_kept (first_call.is_native is) = tt

pub looked_kept : {app : App} {lists : Lists} {n : Node} {kind : CallKind} {at : MethodRef} {class : Name} {row : Row} →
    first_call.LooksUp app lists n kind at class row → IsKept row
looked_kept (first_call.finds_none none) = tt
looked_kept (first_call.finds_reflection is_key is_row reflects) = tt
looked_kept (first_call.finds_row is_key is_row plain) = tt

module _ (app : App) (lists : Lists) (has : Row → Type 0) (closed : Closed app lists has) where
  -- the rules, applied to rows that are there
  pub kept_local : {rule : ℕ} {ps : List Row} {row : Row} → first_local.LocalRule app lists rule ps row → IsKept row → IsFalse (rule == filling) →
      Each has ps → has row
  kept_local r is other h = closed _ _ _ (by_kept (kept (first.by_local r) is other)) h

  pub kept_call : {rule : ℕ} {ps : List Row} {row : Row} → first_call.CallRule app lists rule ps row → IsKept row → IsFalse (rule == filling) →
      Each has ps → has row
  kept_call r is other h = closed _ _ _ (by_kept (kept (first.by_call r) is other)) h

  pub kept_library : {rule : ℕ} {ps : List Row} {row : Row} → first_library.LibraryRule app lists rule ps row → IsKept row →
      IsFalse (rule == filling) → Each has ps → has row
  kept_library r is other h = closed _ _ _ (by_kept (kept (first.by_library r) is other)) h

  pub kept_event : {rule : ℕ} {ps : List Row} {row : Row} → first_event.EventRule app lists rule ps row → IsKept row → IsFalse (rule == filling) →
      Each has ps → has row
  kept_event r is other h = closed _ _ _ (by_kept (kept (first.by_event r) is other)) h

  pub loc : {rule : ℕ} {ps : List Row} {row : Row} → LocalRule app lists rule ps row → Each has ps → has row
  loc r h = closed _ _ _ (by_local r) h

  pub cal : {rule : ℕ} {ps : List Row} {row : Row} → CallRule app lists rule ps row → Each has ps → has row
  cal r h = closed _ _ _ (by_call r) h

  pub lib : {rule : ℕ} {ps : List Row} {row : Row} → LibraryRule app lists rule ps row → Each has ps → has row
  lib r h = closed _ _ _ (by_library r) h

  pub evt : {rule : ℕ} {ps : List Row} {row : Row} → EventRule app lists rule ps row → Each has ps → has row
  evt r h = closed _ _ _ (by_event r) h

  pub hnd : {rule : ℕ} {ps : List Row} {row : Row} → HandedRule app lists rule ps row → Each has ps → has row
  hnd r h = closed _ _ _ (by_handed r) h

  -- a change of entries that are known leaves the rest as it is
  pub world_changed : {w : World} {site : ℕ → Site} {heap : List Object} → WorldFits app lists has w site → Changed has site w.heap heap →
      WorldFits app lists has (record w { heap = heap }) site
  world_changed fits changed = record {
    heap = heap_changed fits.heap changed;
    statics = λ g. fits_sized changed.same_length (fits.statics g);
    arrivals = fits.arrivals;
    live = fits.live;
    components = λ c. fits_sized changed.same_length (fits.components c);
    handed = λ p h. fits_sized changed.same_length (fits.handed p h);
  }

  pub running_changed : {w : World} {site : ℕ → Site} {c : Ctx} {f : Frame} {fs : List Frame} {heap : List Object} →
      Runs app lists has w site c f fs → Changed has site w.heap heap → Runs app lists has (record w { heap = heap }) site c f fs
  running_changed known changed = record {
    reached = known.reached;
    world = world_changed known.world changed;
    registers = λ r. fits_sized changed.same_length (known.registers r);
    bottom = known.bottom;
    is_event = known.is_event;
    waits = waits_map (λ v P L fits. fits_sized changed.same_length fits) known.waits;
  }

  -- a new object leaves all that is known as it is
  pub world_grown : {w : World} {site : ℕ → Site} {new : Site} {o : Object} → WorldFits app lists has w site →
      NewFits app lists has (length w.heap) site new o →
      WorldFits app lists has (record w { heap = w.heap ++ o ∷ [] }) (with_site site (length w.heap) new)
  world_grown {w} {site} {new} {o} fits new_fits = record {
    heap = heap_grown fits.heap new_fits;
    statics = λ g. fits_grown w.heap o new (fits.statics g);
    arrivals = fits.arrivals;
    live = fits.live;
    components = λ c. fits_grown w.heap o new (fits.components c);
    handed = λ p h. fits_grown w.heap o new (fits.handed p h);
  }

  pub running_grown : {w : World} {site : ℕ → Site} {c : Ctx} {f : Frame} {fs : List Frame} {new : Site} {o : Object} →
      Runs app lists has w site c f fs → NewFits app lists has (length w.heap) site new o →
      Runs app lists has (record w { heap = w.heap ++ o ∷ [] }) (with_site site (length w.heap) new) c f fs
  running_grown {w} {site} {c} {f} {fs} {new} {o} known new_fits = record {
    reached = known.reached;
    world = world_grown known.world new_fits;
    registers = λ r. fits_grown w.heap o new (known.registers r);
    bottom = known.bottom;
    is_event = known.is_event;
    waits = waits_map (λ v P L fits. fits_grown w.heap o new fits) known.waits;
  }

  -- a write to a static
  pub running_writing : {w : World} {site : ℕ → Site} {c : Ctx} {f : Frame} {fs : List Frame} (g : ℕ) (v : Value) → Runs app lists has w site c f fs →
      StaticFits app has (length w.heap) site g v → Runs app lists has (record w { statics = write w.statics g v }) site c f fs
  running_writing {w} {site} g v known new = record {
    reached = known.reached;
    world = record {
      heap = known.world.heap;
      statics = written (StaticFits app has (length w.heap) site) w.statics g v new (λ j _. known.world.statics j);
      arrivals = known.world.arrivals;
      live = known.world.live;
      components = known.world.components;
      handed = known.world.handed;
    };
    registers = known.registers;
    bottom = known.bottom;
    is_event = known.is_event;
    waits = known.waits;
  }

  -- a register at the next node, and at a handler: what is read from there on was read from here on
  pub settle_next : {size : ℕ} {site : ℕ → Site} {n : Node} {act : Act} {pc r : ℕ} {v : Value} → Acts app n act → GoesOn app n pc →
      IsFalse (writes act r) → RegisterFits app has n size site r v → RegisterFits app has (at_pc n pc) size site r v
  settle_next act goes other fits =
      fits_map (λ s h u read. h u (read_next act other goes read)) (λ l h u read. h u (read_next act other goes read)) fits

  pub settle_catch : {size : ℕ} {site : ℕ → Site} {n : Node} {pc r : ℕ} {v : Value} → CaughtAt app n pc → IsFalse (r == exception_register) →
      RegisterFits app has n size site r v → RegisterFits app has (at_pc n pc) size site r v
  settle_catch caught other fits =
      fits_map (λ s h u read. h u (read_caught other caught read)) (λ l h u read. h u (read_caught other caught read)) fits

  -- The running frame goes on: to a next pc, with registers written or none.
  goes_next : {w : World} {site : ℕ → Site} {c : Ctx} {f : Frame} {fs : List Frame} {pc : ℕ} → Runs app lists has w site c f fs →
      Goes app f.method f.pc pc → (registers : ℕ → Value) →
      ((r : ℕ) → RegisterFits app has (at_pc (node_of c f) pc) (length w.heap) site r (registers r)) →
      Known app lists has w (record f { pc = pc; registers = registers } ∷ fs)
  goes_next {w} {site} {c} {f} {fs} {pc} known goes registers fits = running site c (record {
    reached = kept_local (first_local.reach_next {n = node_of c f} goes) tt refl (known.reached, tt);
    world = known.world;
    registers = fits;
    bottom = known.bottom;
    is_event = known.is_event;
    waits = known.waits;
  })

  pub goes_plain : {w : World} {site : ℕ → Site} {c : Ctx} {f : Frame} {fs : List Frame} {act : Act} {pc : ℕ} → Runs app lists has w site c f fs →
      ActAt app f.method f.pc act → Goes app f.method f.pc pc → ((r : ℕ) → IsFalse (writes act r)) → Known app lists has w (record f { pc = pc } ∷ fs)
  goes_plain {w} {site} {c} {f} {fs} {act} {pc} known acts goes none =
      goes_next known goes f.registers (λ r. settle_next {n = node_of c f} acts goes (none r) (known.registers r))

  pub goes_writing : {w : World} {site : ℕ → Site} {c : Ctx} {f : Frame} {fs : List Frame} {act : Act} {pc : ℕ} → Runs app lists has w site c f fs →
      ActAt app f.method f.pc act → Goes app f.method f.pc pc → (d : ℕ) (v : Value) → ((r : ℕ) → IsFalse (r == d) → IsFalse (writes act r)) →
      RegisterFits app has (at_pc (node_of c f) pc) (length w.heap) site d v →
      Known app lists has w (record f { pc = pc; registers = write f.registers d v } ∷ fs)
  goes_writing {w} {site} {c} {f} {fs} {act} {pc} known acts goes d v only fits = goes_next known goes (write f.registers d v)
      (written (RegisterFits app has (at_pc (node_of c f) pc) (length w.heap) site) f.registers d v fits (λ r other. settle_next {n = node_of c f} acts goes (only r other) (known.registers r)))

  pub goes_writing_all : {w : World} {site : ℕ → Site} {c : Ctx} {f : Frame} {fs : List Frame} {act : Act} {pc : ℕ} →
      Runs app lists has w site c f fs → ActAt app f.method f.pc act → Goes app f.method f.pc pc → (ds : List ℕ) (v : Value) →
      ((r : ℕ) → IsFalse (holds ds r) → IsFalse (writes act r)) →
      ((d : ℕ) → In d ds → RegisterFits app has (at_pc (node_of c f) pc) (length w.heap) site d v) →
      Known app lists has w (record f { pc = pc; registers = write_all f.registers ds v } ∷ fs)
  goes_writing_all {w} {site} {c} {f} {fs} {act} {pc} known acts goes ds v only fits = goes_next known goes (write_all f.registers ds v)
      (written_all (RegisterFits app has (at_pc (node_of c f) pc) (length w.heap) site) f.registers ds v fits (λ r other. settle_next {n = node_of c f} acts goes (only r other) (known.registers r)))
