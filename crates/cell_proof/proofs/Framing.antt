-- Calls, returns, exceptions and initialisers keep what is known.
use Rattle.std.proofs.Common.{◌≡◌, ℕ, zero, suc, ◌+◌, ◌-◌, ◌<◌, List, [], ◌∷◌, length, Bool, true, false, inl, inr, Option, Some, None, refl, ap, sym, ◌∙◌, subst}
use Rattle.std.proofs.lemmas.Option.{same_Some}
use Rattle.std.specs.Prelude.{slice_get}
use Rattle.app_machine.specs.declared.call.MethodRef.{MethodRef}
use Rattle.app_machine.specs.declared.call.CallKind.{CallKind}
use Rattle.app_machine.specs.declared.method.Method.{Method}
use Rattle.app_machine.specs.declared.method.Act.TheVariants.{Throw, Return, Call}
use Rattle.app_machine.specs.declared.app.App.{App}
use Rattle.app_machine.specs.declared.lists.Lists.{Lists}
use Rattle.vet_base.specs.Members.{IsAt}
use Rattle.vet_base.proofs.Members.{in_slice_get}
use Rattle.app_machine.specs.Lookups.{Target, Body, ActAt, Goes, Catches, HasCode, Initialises}
use Rattle.app_machine.specs.Heap.{Value, blank}
use Rattle.app_machine.specs.State.{result_register, exception_register, write, World, Frame}
use Rattle.app_machine.specs.Calls.{CallsTo, by_name, by_nothing, by_class, arguments, Raises, is_caught, unwinds, ends_event, returned}
use Rattle.app_machine.specs.Run.{frame_of}
use Rattle.app_machine.specs.Sound.{SoundApp}
use Rattle.fact_rows.specs.declared.context.Ctx.{Ctx}
use Rattle.fact_rows.specs.declared.context.Activation.{Activation}
use Rattle.fact_rows.specs.declared.site.Site.{Site}
use Rattle.fact_rows.specs.Contexts.{IsEvent}
use Rattle.flow_rules.specs.Nodes.{at_pc, entry, callee, pushed, activation_in, ArgumentRegister, InitialisedBy}
use Rattle.flow_rules.specs.Sites.{SiteClass}
use Rattle.flow_rules.specs.LocalRules.{throwing, reach_caught, throw_exit_points, return_points}
use Rattle.flow_rules.specs.CallRules.{Enters, calls_it, is_called, reaches_it, enter_direct, enter_class, unwound_points, enter_initialiser}
use Rattle.fact_rows.specs.declared.row.Row.{Row}
use Rattle.fact_rows.specs.declared.row.Row.TheVariants.{Reached, Points, Label, CalledBy, ExitPoints, ExitLabel}
use Rattle.cell_rules.specs.Reading.{ReadAt, node_in}
use Rattle.cell_rules.specs.LocalRules.{throw_points, throw_label, throw_exit_label, return_label}
use Rattle.cell_rules.specs.CallRules.{enter_receiver, pass_points, pass_label, returned_points, returned_label, caught_points, caught_label, unwound_label}
use Rattle.cell_rules.specs.Rules.{Closed}
use Rattle.flow_proof.proofs.Sounding.{no_body}
use Rattle.flow_proof.proofs.Knowing.{node_of, written}
use Rattle.flow_proof.proofs.Framing.{entered_fits, argument_of, no_initialiser}
use Rattle.cell_proof.proofs.Fitting.{Fits, fits_map, blank_fits}
use Rattle.cell_proof.proofs.Knowing.{RegisterFits, WorldFits, Waits, waits_call, waits_initialiser, Runs, Known, idle, running, fits_here}
use Rattle.cell_proof.proofs.Lasting.{kept_local, kept_call, loc, cal, enters_kept, settle_catch, goes_writing}

-- what is known of the frame directly below a frame of activation b
record Below (app : App) (has : Row → Type 0) (bottom : Activation) (size : ℕ) (site : ℕ → Site) (b : Activation) (g : Frame) (gs : List Frame) : Type 0 where
  context : Ctx
  reached : has (Reached (node_of context g))
  called : has (CalledBy b (node_of context g))
  registers : (r : ℕ) → RegisterFits app has (node_of context g) size site r (g.registers r)
  more : Waits app has bottom size site (activation_in context g.method) g.initialises gs

below : {app : App} {has : Row → Type 0} {bottom : Activation} {size : ℕ} {site : ℕ → Site} {b : Activation} {i : Bool} {g : Frame} {gs : List Frame} →
    Waits app has bottom size site b i (g ∷ gs) → Below app has bottom size site b g gs
below (waits_call c kind at args act reached called registers more) =
    record { context = c; reached = reached; called = called; registers = registers; more = more }
below (waits_initialiser c is_one reached called registers more) =
    record { context = c; reached = reached; called = called; registers = registers; more = more }

-- and of one that waits for the result of a call
record BelowCall (app : App) (has : Row → Type 0) (bottom : Activation) (size : ℕ) (site : ℕ → Site) (b : Activation) (g : Frame) (gs : List Frame) : Type 0 where
  under : Below app has bottom size site b g gs
  kind : CallKind
  at : MethodRef
  args : List ℕ
  act : ActAt app g.method g.pc (Call kind at args)

below_call : {app : App} {has : Row → Type 0} {bottom : Activation} {size : ℕ} {site : ℕ → Site} {b : Activation} {i : Bool} {g : Frame} {gs : List Frame} →
    i ≡ false → Waits app has bottom size site b i (g ∷ gs) → BelowCall app has bottom size site b g gs
below_call e (waits_call c kind at args act reached called registers more) =
    record { under = record { context = c; reached = reached; called = called; registers = registers; more = more }; kind = kind; at = at; args = args; act = act }
below_call e (waits_initialiser c is_one reached called registers more) = absurd (let none : ⊥ = cc in none)

-- what the rows know of an exception that left an activation
abbrev ExitFits : (Row → Type 0) → ℕ → (ℕ → Site) → Activation → Value → Type 0
ExitFits has size site b v = Fits size site v (λ s. has (ExitPoints b throwing s)) (λ l. has (ExitLabel b throwing l))

module _ (app : App) (lists : Lists) (has : Row → Type 0) (closed : Closed app lists has) (sound : SoundApp app) where
  -- the frame below runs
  runs_below : {w : World} {site : ℕ → Site} {bottom : Activation} {b : Activation} {g : Frame} {gs : List Frame} → WorldFits app lists has w site →
      IsEvent bottom.ctx → (u : Below app has bottom (length w.heap) site b g gs) → Runs app lists has w site u.context g gs
  runs_below {bottom = bottom} fits is_event u =
      record { reached = u.reached; world = fits; registers = u.registers; bottom = bottom; is_event = is_event; waits = u.more }

  -- a handler of a frame goes on
  caught : {w : World} {site : ℕ → Site} {c : Ctx} {f : Frame} {fs : List Frame} {pc : ℕ} {v : Value} → Runs app lists has w site c f fs →
      Catches app f.method f.pc pc → RegisterFits app has (at_pc (node_of c f) pc) (length w.heap) site exception_register v →
      Known app lists has w (record f { pc = pc; registers = write f.registers exception_register v } ∷ fs)
  caught {w} {site} {c} {f} {fs} {pc} {v} known catch fits = running site c (record {
    reached = kept_local app lists has closed (reach_caught {n = node_of c f} catch) tt refl (known.reached, tt);
    world = known.world;
    registers = written (RegisterFits app has (at_pc (node_of c f) pc) (length w.heap) site) f.registers exception_register v fits (λ r other. settle_catch app lists has closed {n = node_of c f} catch other (known.registers r));
    bottom = known.bottom;
    is_event = known.is_event;
    waits = known.waits;
  })

  -- an exception leaves an activation
  unwound : {w : World} {site : ℕ → Site} {fs : List Frame} {v : Value} {gs : List Frame} {bottom b : Activation} {i : Bool} →
      WorldFits app lists has w site → IsEvent bottom.ctx → Waits app has bottom (length w.heap) site b i fs → ExitFits has (length w.heap) site b v →
      Raises app fs v gs → Known app lists has w gs
  unwound {site = site} fits is_event waits exit ends_event = idle site fits
  unwound fits is_event waits exit (is_caught {f = g} catch) =
      let u = below waits in
      caught (runs_below fits is_event u) catch
      (fits_map (λ _ h v read. cal app lists has closed (caught_points {n = node_of u.context g} catch read) (h, (u.called, tt))) (λ _ h v read. cal app lists has closed (caught_label {n = node_of u.context g} catch read) (h, (u.called, tt))) exit)
  unwound fits is_event waits exit (unwinds {f = g} raised) =
      let u = below waits in
      unwound fits is_event u.more
      (fits_map (λ _ h. kept_call app lists has closed (unwound_points {n = node_of u.context g}) tt refl (h, (u.called, tt))) (λ _ h. cal app lists has closed (unwound_label {n = node_of u.context g}) (h, (u.called, tt))) exit)
      raised

  -- an exception is raised in the running frame
  raised_in : {w : World} {site : ℕ → Site} {c : Ctx} {f : Frame} {fs : List Frame} {v : Value} {gs : List Frame} → Runs app lists has w site c f fs →
      ((pc : ℕ) → Catches app f.method f.pc pc → RegisterFits app has (at_pc (node_of c f) pc) (length w.heap) site exception_register v) →
      ExitFits has (length w.heap) site (activation_in c f.method) v → Raises app (f ∷ fs) v gs → Known app lists has w gs
  raised_in known here exit (is_caught catch) = caught known catch (here _ catch)
  raised_in known here exit (unwinds raised) = unwound known.world known.is_event known.waits exit raised

  pub raised_blank : {w : World} {site : ℕ → Site} {c : Ctx} {f : Frame} {fs gs : List Frame} → Runs app lists has w site c f fs →
      Raises app (f ∷ fs) blank gs → Known app lists has w gs
  raised_blank known raised = raised_in known (λ _ _. blank_fits _ _ _ _) (blank_fits _ _ _ _) raised

  pub known_throw : {w : World} {site : ℕ → Site} {c : Ctx} {f : Frame} {fs gs : List Frame} {x : ℕ} → Runs app lists has w site c f fs →
      ActAt app f.method f.pc (Throw x) → Raises app (f ∷ fs) (f.registers x) gs → Known app lists has w gs
  known_throw {w} {site} {c} {f} {fs} {gs} {x} known act raised = raised_in known
      (λ pc catch. fits_map (λ _ h u read. loc app lists has closed (throw_points {n = node_of c f} act catch read) (h, tt)) (λ _ h u read. loc app lists has closed (throw_label {n = node_of c f} act catch read) (h, tt)) (fits_here app has {n = node_of c f} act (inl refl) (known.registers x)))
      (fits_map (λ _ h. kept_local app lists has closed (throw_exit_points {n = node_of c f} act) tt refl (h, tt)) (λ _ h. loc app lists has closed (throw_exit_label {n = node_of c f} act) (h, tt)) (fits_here app has {n = node_of c f} act (inl refl) (known.registers x)))
      raised

  -- a return
  pub known_return : {w : World} {site : ℕ → Site} {c : Ctx} {f g : Frame} {fs : List Frame} {x : Option ℕ} {pc : ℕ} →
      Runs app lists has w site c f (g ∷ fs) → f.initialises ≡ false → ActAt app f.method f.pc (Return x) → Goes app g.method g.pc pc →
      Known app lists has w (record g { pc = pc; registers = write g.registers result_register (returned f x) } ∷ fs)
  known_return {w} {site} {c} {f} {g} {fs} {x} {pc} known ordinary act next =
      goes_writing app lists has closed (runs_below known.world known.is_event u.under) u.act next result_register (returned f x) (λ _ other. other)
      (result x act)
    where
      u : BelowCall app has known.bottom (length w.heap) site (activation_in c f.method) g fs
      u = below_call ordinary known.waits

      result : (x : Option ℕ) → ActAt app f.method f.pc (Return x) →
          RegisterFits app has (at_pc (node_of u.under.context g) pc) (length w.heap) site result_register (returned f x)
      result None act = blank_fits _ _ _ _
      result (Some x) act = fits_map
          (λ _ h v read. cal app lists has closed (returned_points {n = node_of u.under.context g} next read) (kept_local app lists has closed (return_points {n = node_of c f} act) tt refl (h, tt), (u.under.called, tt)))
          (λ _ h v read. cal app lists has closed (returned_label {n = node_of u.under.context g} next read) (loc app lists has closed (return_label {n = node_of c f} act) (h, tt), (u.under.called, tt)))
          (fits_here app has {n = node_of c f} act (inl refl) (known.registers x))

  pub known_initialised : {w : World} {site : ℕ → Site} {c : Ctx} {f g : Frame} {fs : List Frame} → Runs app lists has w site c f (g ∷ fs) →
      Known app lists has w (g ∷ fs)
  known_initialised {site = site} known = let u = below known.waits in running site u.context (runs_below known.world known.is_event u)

  -- A call enters a body: the rows of the call are there, and the sites of argument 0 have theirs.
  enter_call : {w : World} {site : ℕ → Site} {c : Ctx} {f : Frame} {fs : List Frame} {kind : CallKind} {at : MethodRef} {args : List ℕ} {body : ℕ} {m : Method} →
      Runs app lists has w site c f fs → ActAt app f.method f.pc (Call kind at args) → HasCode app body m →
      ((row : Row) → Enters app (node_of c f) body row → has row) →
      ((i x : ℕ) → IsAt args i x → InitialisedBy app (node_of c f) (callee (node_of c f) body) → ⊥) →
      ((x z p u : ℕ) → IsAt args 0 x → (f.registers x).place ≡ Some p → ArgumentRegister app body 0 z → ReadAt app body z 0 u → has (Points (node_in (callee (node_of c f) body) u) z (site p))) →
      Known app lists has w (frame_of body m (arguments f args) false ∷ f ∷ fs)
  enter_call {w} {site} {c} {f} {fs} {kind} {at} {args} {body} {m} known act code enters not_initialised first =
      running site (pushed c f.method f.pc) (record {
        reached = enters _ (reaches_it code);
        world = known.world;
        registers = entered_fits (RegisterFits app has (entry (callee (node_of c f) body)) (length w.heap) site) m (arguments f args) (λ r. blank_fits _ _ _ _) passed;
        bottom = known.bottom;
        is_event = known.is_event;
        waits = waits_call c kind at args act known.reached (enters _ (is_called code)) known.registers known.waits;
      })
    where
      passed_at : (i z x : ℕ) → IsAt args i x → ArgumentRegister app body i z →
          RegisterFits app has (entry (callee (node_of c f) body)) (length w.heap) site z (f.registers x)
      passed_at i z x is_at takes = record {
        within = value.within;
        pointed = λ p e u read. points i is_at takes p e u read;
        labels = λ l h u read. cal app lists has closed (pass_label {n = node_of c f} i act is_at (not_initialised i x is_at) takes read) (enters _ (calls_it code), (value.labels l h, tt));
      }
        where
          value : Fits (length w.heap) site (f.registers x) (λ s. has (Points (node_of c f) x s)) (λ l. has (Label (node_of c f) x l))
          value = fits_here app has {n = node_of c f} act (in_slice_get args i x is_at.there) (known.registers x)

          points : (i : ℕ) → IsAt args i x → ArgumentRegister app body i z → (p : ℕ) → (f.registers x).place ≡ Some p → (u : ℕ) →
              ReadAt app body z 0 u → has (Points (node_in (callee (node_of c f) body) u) z (site p))
          points zero is_at takes p e u read = first x z p u is_at e takes read
          points (suc i) is_at takes p e u read =
              cal app lists has closed (pass_points {n = node_of c f} (suc i) act is_at (inr (λ same. cc)) (not_initialised (suc i) x is_at) takes read) (enters _ (calls_it code), (value.pointed p e, tt))

      passed : (i z : ℕ) (v : Value) → slice_get (arguments f args) i ≡ Some v → i < m.ins → z ≡ (m.registers - m.ins) + i →
          RegisterFits app has (entry (callee (node_of c f) body)) (length w.heap) site z v
      passed i z v e below is =
          let a = argument_of f args i v e in subst (λ y. RegisterFits app has (entry (callee (node_of c f) body)) (length w.heap) site z y) (sym a.same) (passed_at i z a.register a.is_at (record { method = m; has = code; below = below; is = is }))

  pub known_call : {w : World} {site : ℕ → Site} {c : Ctx} {f : Frame} {fs : List Frame} {kind : CallKind} {at : MethodRef} {args : List ℕ} {body : ℕ} {m : Method} {t : Target} →
      Runs app lists has w site c f fs → ActAt app f.method f.pc (Call kind at args) → CallsTo app w.heap f kind at args t → t ≡ Body body →
      HasCode app body m → Known app lists has w (frame_of body m (arguments f args) false ∷ f ∷ fs)
  known_call {w} {site} {c} {f} {fs} {kind} {at} {args} {body} known act (by_name plain is_target) same code =
      enter_call known act code enters not_initialised
      (λ x z p u is_at e takes read. cal app lists has closed (pass_points {n = node_of c f} 0 act is_at (inl plain) (not_initialised 0 x is_at) takes read) (enters _ (calls_it code), ((fits_here app has {n = node_of c f} act (in_slice_get args 0 x is_at.there) (known.registers x)).pointed p e, tt)))
    where
      enters : (row : Row) → Enters app (node_of c f) body row → has row
      enters row way =
          kept_call app lists has closed (enter_direct {n = node_of c f} act plain (is_target ∙ same) way) (enters_kept way) refl (known.reached, tt)

      not_initialised : (i x : ℕ) → IsAt args i x → InitialisedBy app (node_of c f) (callee (node_of c f) body) → ⊥
      not_initialised = no_initialiser c f None sound act (is_target ∙ same)
  known_call {f = f} {kind = kind} {at = at} {body = body} known act (by_nothing virtual none is_target) same code =
      absurd (no_body app kind f.method at body virtual (is_target ∙ same))
  known_call {site = site} {c = c} {f = f} {kind = kind} {at = at} {args = args} {body = body} known act (by_class {x = x} {p = p} class virtual is_first there of_class is_target) same code =
      enter_call known act code
      (λ row way. kept_call app lists has closed (enter_class {n = node_of c f} act virtual is_first site_class (is_target ∙ same) way) (enters_kept way) refl (points, tt))
      (no_initialiser c f (Some class) sound act (is_target ∙ same))
      first
    where
      points : has (Points (node_of c f) x (site p))
      points = (fits_here app has {n = node_of c f} act (in_slice_get args 0 x is_first.there) (known.registers x)).pointed p there

      site_class : SiteClass app lists (site p) class
      site_class = known.world.heap.class p class of_class

      first : (y z q u : ℕ) → IsAt args 0 y → (f.registers y).place ≡ Some q → ArgumentRegister app body 0 z → ReadAt app body z 0 u →
          has (Points (node_in (callee (node_of c f) body) u) z (site q))
      first y z q u is_at e takes read =
          let receiver = cal app lists has closed (enter_receiver {n = node_of c f} act virtual is_first site_class (is_target ∙ same) takes read) (points, tt) in
          let same_register : y ≡ x = same_Some _ _ (sym is_at.there ∙ is_first.there) in
          subst (λ j. has (Points (node_in (callee (node_of c f) body) u) z (site j))) (same_Some _ _ (sym there ∙ (ap (λ j. (f.registers j).place) (sym same_register) ∙ e))) receiver

  -- an initialiser is entered
  pub known_initialiser : {w : World} {site : ℕ → Site} {c : Ctx} {f : Frame} {fs : List Frame} {body : ℕ} {m : Method} →
      Runs app lists has w site c f fs → Initialises app f.method f.pc body → HasCode app body m →
      Known app lists has w (frame_of body m [] true ∷ f ∷ fs)
  known_initialiser {w} {site = site} {c = c} {f = f} {body = body} {m = m} known is_one code = running site (pushed c f.method f.pc) (record {
    reached = enters _ (reaches_it code);
    world = known.world;
    registers = entered_fits (RegisterFits app has (entry (callee (node_of c f) body)) (length w.heap) site) m [] (λ r. blank_fits _ _ _ _) (λ i z v e below is. absurd (let none : ⊥ = cc in none));
    bottom = known.bottom;
    is_event = known.is_event;
    waits = waits_initialiser c (record { body = body; is_one = is_one; same = refl }) known.reached (enters _ (is_called code)) known.registers known.waits;
  })
    where
      enters : (row : Row) → Enters app (node_of c f) body row → has row
      enters row way = kept_call app lists has closed (enter_initialiser {n = node_of c f} is_one way) (enters_kept way) refl (known.reached, tt)
