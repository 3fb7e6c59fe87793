-- Calls, returns, exceptions and initialisers keep what is known.
use Rattle.std.proofs.Common.{◌≡◌, ℕ, zero, suc, ◌+◌, ◌-◌, ◌<◌, ◌≤◌, List, [], ◌∷◌, Bool, true, false, cond, ◌&&◌, inl, inr, Option, Some, None, refl, ap, sym, ◌∙◌, subst, arith}
use Rattle.std.proofs.lemmas.Bool.{leb-true, ltb-true}
use Rattle.std.specs.Prelude.{slice_get, nat_le, nat_lt}
use Rattle.std.proofs.lemmas.Option.{same_Some}
use Rattle.access_path.specs.Laws.{PathLaws}
use Rattle.app_machine.specs.declared.call.MethodRef.{MethodRef}
use Rattle.app_machine.specs.declared.call.CallKind.{CallKind}
use Rattle.app_machine.specs.declared.method.Method.{Method}
use Rattle.app_machine.specs.declared.method.Act.TheVariants.{Throw, Return, Call}
use Rattle.app_machine.specs.declared.app.App.{App}
use Rattle.app_machine.specs.declared.lists.Lists.{Lists}
use Rattle.vet_base.specs.Members.{IsAt}
use Rattle.app_machine.specs.Names.{Name}
use Rattle.app_machine.specs.Lookups.{Target, Body, target, ActAt, Goes, Catches, HasCode, Initialises}
use Rattle.app_machine.specs.Heap.{Value, Object, blank}
use Rattle.app_machine.specs.State.{result_register, exception_register, write, value_or_blank, entered, World, Frame}
use Rattle.app_machine.specs.Calls.{CallsTo, by_name, by_nothing, by_class, arguments, Raises, is_caught, unwinds, ends_event, returned}
use Rattle.app_machine.specs.Run.{frame_of}
use Rattle.app_machine.specs.Sound.{SoundApp}
use Rattle.fact_rows.specs.declared.context.Ctx.{Ctx}
use Rattle.fact_rows.specs.declared.context.Activation.{Activation}
use Rattle.fact_rows.specs.declared.site.Site.{Site}
use Rattle.fact_rows.specs.declared.row.Row.{Row}
use Rattle.fact_rows.specs.declared.row.Row.TheVariants.{Reached, Points, CalledBy, ExitPoints, ExitTaint}
use Rattle.flow_rules.specs.Nodes.{at_pc, entry, callee, pushed, activation_in, ArgumentRegister, InitialisedBy}
use Rattle.flow_rules.specs.Sites.{SiteClass}
use Rattle.flow_rules.specs.LocalRules.{throwing, reach_caught, throw_points, throw_taint, throw_exit_points, throw_exit_taint, return_points, return_taint}
use Rattle.flow_rules.specs.CallRules.{Enters, calls_it, is_called, reaches_it, enter_direct, enter_class, enter_receiver, pass_points, pass_taint, returned_points, returned_taint, caught_points, caught_taint, unwound_points, unwound_taint, enter_initialiser}
use Rattle.flow_rules.specs.Rules.{Closed}
use Rattle.flow_proof.proofs.Fitting.{Fits, fits_map, blank_fits}
use Rattle.flow_proof.proofs.Sounding.{no_arguments, no_body}
use Rattle.flow_proof.proofs.Knowing.{node_of, RegisterFits, PendingFits, WorldFits, EventOf, Waits, waits_call, waits_initialiser, Runs, RunsPending, Known, idle, running, written}
use Rattle.flow_proof.proofs.Lasting.{loc, cal, pending_of, settle_catch, goes_writing}

-- what is known of the frame directly below a frame of activation b
record Below (app : App) (has : Row → Type 0) (bottom : Activation) (heap : List Object) (site : ℕ → Site) (b : Activation) (g : Frame) (gs : List Frame) : Type 0 where
  context : Ctx
  reached : has (Reached (node_of context g))
  called : has (CalledBy b (node_of context g))
  registers : (r : ℕ) → PendingFits has (node_of context g) heap site r (g.registers r)
  more : Waits app has bottom heap site (activation_in context g.method) g.initialises gs

below : {app : App} {has : Row → Type 0} {bottom : Activation} {heap : List Object} {site : ℕ → Site} {b : Activation} {i : Bool} {g : Frame} {gs : List Frame} →
    Waits app has bottom heap site b i (g ∷ gs) → Below app has bottom heap site b g gs
below (waits_call c kind at args act reached called registers more) =
    record { context = c; reached = reached; called = called; registers = registers; more = more }
below (waits_initialiser c is_one reached called registers more) =
    record { context = c; reached = reached; called = called; registers = λ r. fits_map (λ _ h. h) (λ _ _ h. inl h) (registers r); more = more }

-- and of one that waits for the result of a call
record BelowCall (app : App) (has : Row → Type 0) (bottom : Activation) (heap : List Object) (site : ℕ → Site) (b : Activation) (g : Frame) (gs : List Frame) : Type 0 where
  under : Below app has bottom heap site b g gs
  kind : CallKind
  at : MethodRef
  args : List ℕ
  act : ActAt app g.method g.pc (Call kind at args)

below_call : {app : App} {has : Row → Type 0} {bottom : Activation} {heap : List Object} {site : ℕ → Site} {b : Activation} {i : Bool} {g : Frame} {gs : List Frame} →
    i ≡ false → Waits app has bottom heap site b i (g ∷ gs) → BelowCall app has bottom heap site b g gs
below_call e (waits_call c kind at args act reached called registers more) =
    record { under = record { context = c; reached = reached; called = called; registers = registers; more = more }; kind = kind; at = at; args = args; act = act }
below_call e (waits_initialiser c is_one reached called registers more) = absurd (let none : ⊥ = cc in none)

-- and of one that waits for an initialiser: it is known as if it ran
below_initialiser : {app : App} {lists : Lists} {has : Row → Type 0} {w : World} {site : ℕ → Site} {b : Activation} {i : Bool} {g : Frame} {gs : List Frame} →
    i ≡ true → WorldFits app lists has w site → (event : EventOf has w.components) → Waits app has event.bottom w.heap site b i (g ∷ gs) →
    Known app lists has w (g ∷ gs)
below_initialiser e fits event (waits_call c kind at args act reached called registers more) = absurd (let none : ⊥ = cc in none)
below_initialiser e fits event (waits_initialiser c is_one reached called registers more) =
    running _ c (record { reached = reached; world = fits; registers = registers; event = event; waits = more })

-- what the rows know of an exception that left an activation
abbrev ExitFits : (Row → Type 0) → List Object → (ℕ → Site) → Activation → Value → Type 0
ExitFits has heap site b v = Fits heap site v (λ s. has (ExitPoints b throwing s)) (λ q l. has (ExitTaint b throwing q l))

-- The registers of a body that is entered, by the arguments that it takes.
pub entered_fits : (P : ℕ → Value → Type 0) (m : Method) (values : List Value) → ((r : ℕ) → P r blank) →
    ((i z : ℕ) (v : Value) → slice_get values i ≡ Some v → i < m.ins → z ≡ (m.registers - m.ins) + i → P z v) → (r : ℕ) →
    P r (entered m values r)
entered_fits P m values blanks passed r = go (nat_le (m.registers - m.ins) r) refl (nat_lt r m.registers) refl
  where
    taken : (o : Option Value) → slice_get values (r - (m.registers - m.ins)) ≡ o → m.registers - m.ins ≤ r → r < m.registers →
        P r (elim o [ Some v ↦ v | None ↦ blank ])
    taken None e from to = blanks r
    taken (Some v) e from to = passed (r - (m.registers - m.ins)) r v e (omega arith) (omega arith)

    go : (b : Bool) → nat_le (m.registers - m.ins) r ≡ b → (d : Bool) → nat_lt r m.registers ≡ d →
        P r (cond (b && d) (value_or_blank values (r - (m.registers - m.ins))) blank)
    go false from d to = blanks r
    go true from false to = blanks r
    go true from true to =
        taken (slice_get values (r - (m.registers - m.ins))) refl (leb-true (m.registers - m.ins) r from) (ltb-true r m.registers to)

-- an argument is the value of its register
pub record ArgumentOf (f : Frame) (args : List ℕ) (i : ℕ) (v : Value) : Type 0 where
  pub register : ℕ
  pub is_at : IsAt args i register
  pub same : v ≡ f.registers register

pub argument_of : (f : Frame) (args : List ℕ) (i : ℕ) (v : Value) → slice_get (arguments f args) i ≡ Some v → ArgumentOf f args i v
argument_of f [] i v e = absurd (let none : ⊥ = cc in none)
argument_of f (x ∷ xs) zero v e = record { register = x; is_at = record { there = refl }; same = let same : v ≡ f.registers x = cc in same }
argument_of f (x ∷ xs) (suc i) v e = let later = argument_of f xs i v e in record { register = later.register; is_at = record { there = later.is_at.there }; same = later.same }

-- no argument is passed to an initialiser that may run before the call
pub no_initialiser : {app : App} (c : Ctx) (f : Frame) {kind : CallKind} {at : MethodRef} {args : List ℕ} (class : Option Name) {body : ℕ} →
    SoundApp app → ActAt app f.method f.pc (Call kind at args) → target app kind f.method at class ≡ Body body → (i x : ℕ) → IsAt args i x →
    InitialisedBy app (node_of c f) (callee (node_of c f) body) → ⊥
no_initialiser {app} c f class {body} sound act goes i x is_at by =
    no_arguments class sound act goes (subst (λ b. Initialises app f.method f.pc b) (sym (ap (λ (a : Activation). a.method) by.same)) by.is_one) i x is_at

module _ (app : App) (lists : Lists) (has : Row → Type 0) (closed : Closed app lists has) (laws : PathLaws) (sound : SoundApp app) where
  -- a handler of a frame goes on
  caught : {w : World} {site : ℕ → Site} {c : Ctx} {f : Frame} {fs : List Frame} {pc : ℕ} {v : Value} →
      RunsPending app lists has w site c f fs → Catches app f.method f.pc pc →
      RegisterFits has (at_pc (node_of c f) pc) w.heap site exception_register v →
      Known app lists has w (record f { pc = pc; registers = write f.registers exception_register v } ∷ fs)
  caught {w} {site} {c} {f} {fs} {pc} {v} known catch fits = running site c (record {
    reached = loc app lists has closed laws (reach_caught {n = node_of c f} catch) (known.reached, tt);
    world = known.world;
    registers =
        written (RegisterFits has (at_pc (node_of c f) pc) w.heap site) f.registers exception_register v fits (λ r other. settle_catch app lists has closed laws {n = node_of c f} catch other (known.registers r));
    event = known.event;
    waits = known.waits;
  })

  -- an exception leaves an activation
  unwound : {w : World} {site : ℕ → Site} {fs : List Frame} {v : Value} {gs : List Frame} {b : Activation} {i : Bool} →
      WorldFits app lists has w site → (event : EventOf has w.components) → Waits app has event.bottom w.heap site b i fs →
      ExitFits has w.heap site b v → Raises app fs v gs → Known app lists has w gs
  unwound {site = site} fits event waits exit ends_event = idle site fits
  unwound fits event waits exit (is_caught {f = g} catch) =
      let u = below waits in
      caught (record { reached = u.reached; world = fits; registers = u.registers; event = event; waits = u.more }) catch
      (fits_map (λ _ h. cal app lists has closed laws (caught_points {n = node_of u.context g} catch) (h, (u.called, tt))) (λ _ _ h. cal app lists has closed laws (caught_taint {n = node_of u.context g} catch) (h, (u.called, tt))) exit)
  unwound fits event waits exit (unwinds {f = g} raised) =
      let u = below waits in
      unwound fits event u.more
      (fits_map (λ _ h. cal app lists has closed laws (unwound_points {n = node_of u.context g}) (h, (u.called, tt))) (λ _ _ h. cal app lists has closed laws (unwound_taint {n = node_of u.context g}) (h, (u.called, tt))) exit)
      raised

  -- an exception is raised in the running frame
  raised_in : {w : World} {site : ℕ → Site} {c : Ctx} {f : Frame} {fs : List Frame} {v : Value} {gs : List Frame} →
      RunsPending app lists has w site c f fs →
      ((pc : ℕ) → Catches app f.method f.pc pc → RegisterFits has (at_pc (node_of c f) pc) w.heap site exception_register v) →
      ExitFits has w.heap site (activation_in c f.method) v → Raises app (f ∷ fs) v gs → Known app lists has w gs
  raised_in known here exit (is_caught catch) = caught known catch (here _ catch)
  raised_in known here exit (unwinds raised) = unwound known.world known.event known.waits exit raised

  pub raised_blank : {w : World} {site : ℕ → Site} {c : Ctx} {f : Frame} {fs gs : List Frame} → RunsPending app lists has w site c f fs →
      Raises app (f ∷ fs) blank gs → Known app lists has w gs
  raised_blank known raised = raised_in known (λ _ _. blank_fits _ _ _ _) (blank_fits _ _ _ _) raised

  pub known_throw : {w : World} {site : ℕ → Site} {c : Ctx} {f : Frame} {fs gs : List Frame} {x : ℕ} → Runs app lists has w site c f fs →
      ActAt app f.method f.pc (Throw x) → Raises app (f ∷ fs) (f.registers x) gs → Known app lists has w gs
  known_throw {c = c} {f = f} {x = x} known act raised = raised_in (pending_of app lists has closed laws known)
      (λ pc catch. fits_map (λ _ h. loc app lists has closed laws (throw_points {n = node_of c f} act catch) (h, tt)) (λ _ _ h. loc app lists has closed laws (throw_taint {n = node_of c f} act catch) (h, tt)) (known.registers x))
      (fits_map (λ _ h. loc app lists has closed laws (throw_exit_points {n = node_of c f} act) (h, tt)) (λ _ _ h. loc app lists has closed laws (throw_exit_taint {n = node_of c f} act) (h, tt)) (known.registers x))
      raised

  -- a return
  pub known_return : {w : World} {site : ℕ → Site} {c : Ctx} {f g : Frame} {fs : List Frame} {x : Option ℕ} {pc : ℕ} →
      Runs app lists has w site c f (g ∷ fs) → f.initialises ≡ false → ActAt app f.method f.pc (Return x) → Goes app g.method g.pc pc →
      Known app lists has w (record g { pc = pc; registers = write g.registers result_register (returned f x) } ∷ fs)
  known_return {w} {site} {c} {f} {g} {fs} {x} {pc} known ordinary act next =
      goes_writing app lists has closed laws (record { reached = u.under.reached; world = known.world; registers = u.under.registers; event = known.event; waits = u.under.more }) u.act next result_register (returned f x) (λ _ other. other)
      (result x act)
    where
      u : BelowCall app has known.event.bottom w.heap site (activation_in c f.method) g fs
      u = below_call ordinary known.waits

      result : (x : Option ℕ) → ActAt app f.method f.pc (Return x) →
          RegisterFits has (at_pc (node_of u.under.context g) pc) w.heap site result_register (returned f x)
      result None act = blank_fits _ _ _ _
      result (Some x) act = fits_map
          (λ _ h. cal app lists has closed laws (returned_points {n = node_of u.under.context g} next) (loc app lists has closed laws (return_points {n = node_of c f} act) (h, tt), (u.under.called, tt)))
          (λ _ _ h. cal app lists has closed laws (returned_taint {n = node_of u.under.context g} next) (loc app lists has closed laws (return_taint {n = node_of c f} act) (h, tt), (u.under.called, tt)))
          (known.registers x)

  pub known_initialised : {w : World} {site : ℕ → Site} {c : Ctx} {f g : Frame} {fs : List Frame} → Runs app lists has w site c f (g ∷ fs) →
      f.initialises ≡ true → Known app lists has w (g ∷ fs)
  known_initialised known is_one = below_initialiser is_one known.world known.event known.waits

  -- A call enters a body: the rows of the call are there, and the sites of argument 0 have theirs.
  enter_call : {w : World} {site : ℕ → Site} {c : Ctx} {f : Frame} {fs : List Frame} {kind : CallKind} {at : MethodRef} {args : List ℕ} {body : ℕ} {m : Method} →
      Runs app lists has w site c f fs → ActAt app f.method f.pc (Call kind at args) → HasCode app body m →
      ((row : Row) → Enters app (node_of c f) body row → has row) →
      ((i x : ℕ) → IsAt args i x → InitialisedBy app (node_of c f) (callee (node_of c f) body) → ⊥) →
      ((x z p : ℕ) → IsAt args 0 x → (f.registers x).place ≡ Some p → ArgumentRegister app body 0 z → has (Points (entry (callee (node_of c f) body)) z (site p))) →
      Known app lists has w (frame_of body m (arguments f args) false ∷ f ∷ fs)
  enter_call {w} {site} {c} {f} {fs} {kind} {at} {args} {body} {m} known act code enters not_initialised first = running site (pushed c f.method f.pc) (record {
    reached = enters _ (reaches_it code);
    world = known.world;
    registers = entered_fits (RegisterFits has (entry (callee (node_of c f) body)) w.heap site) m (arguments f args) (λ r. blank_fits _ _ _ _) passed;
    event = known.event;
    waits =
        waits_call c kind at args act known.reached (enters _ (is_called code)) (pending_of app lists has closed laws known).registers known.waits;
  })
    where
      register : (i z : ℕ) → i < m.ins → z ≡ (m.registers - m.ins) + i → ArgumentRegister app body i z
      register i z below is = record { method = m; has = code; below = below; is = is }

      passed_at : (i z x : ℕ) → IsAt args i x → ArgumentRegister app body i z →
          RegisterFits has (entry (callee (node_of c f) body)) w.heap site z (f.registers x)
      passed_at i z x is_at takes = record {
        within = (known.registers x).within;
        pointed = λ p e. points i is_at takes p e;
        tainted =
            (fits_map {P' = λ _. Unit {0}} (λ _ _. tt) (λ _ _ h. cal app lists has closed laws (pass_taint {n = node_of c f} i act is_at (not_initialised i x is_at) takes) (enters _ (calls_it code), (h, tt))) (known.registers x)).tainted;
      }
        where
          points : (i : ℕ) → IsAt args i x → ArgumentRegister app body i z → (p : ℕ) → (f.registers x).place ≡ Some p →
              has (Points (entry (callee (node_of c f) body)) z (site p))
          points zero is_at takes p e = first x z p is_at e takes
          points (suc i) is_at takes p e =
              cal app lists has closed laws (pass_points {n = node_of c f} (suc i) act is_at (inr (λ same. cc)) (not_initialised (suc i) x is_at) takes) (enters _ (calls_it code), ((known.registers x).pointed p e, tt))

      passed : (i z : ℕ) (v : Value) → slice_get (arguments f args) i ≡ Some v → i < m.ins → z ≡ (m.registers - m.ins) + i →
          RegisterFits has (entry (callee (node_of c f) body)) w.heap site z v
      passed i z v e below is = let a = argument_of f args i v e in subst (λ y. RegisterFits has (entry (callee (node_of c f) body)) w.heap site z y) (sym a.same) (passed_at i z a.register a.is_at (register i z below is))

  pub known_call : {w : World} {site : ℕ → Site} {c : Ctx} {f : Frame} {fs : List Frame} {kind : CallKind} {at : MethodRef} {args : List ℕ} {body : ℕ} {m : Method} {t : Target} →
      Runs app lists has w site c f fs → ActAt app f.method f.pc (Call kind at args) → CallsTo app w.heap f kind at args t → t ≡ Body body →
      HasCode app body m → Known app lists has w (frame_of body m (arguments f args) false ∷ f ∷ fs)
  known_call {c = c} {f = f} {kind = kind} {at = at} {args = args} {body = body} known act (by_name plain is_target) same code =
      enter_call known act code enters not_initialised
      (λ x z p is_at e takes. cal app lists has closed laws (pass_points {n = node_of c f} 0 act is_at (inl plain) (not_initialised 0 x is_at) takes) (enters _ (calls_it code), ((known.registers x).pointed p e, tt)))
    where
      enters : (row : Row) → Enters app (node_of c f) body row → has row
      enters row way = cal app lists has closed laws (enter_direct {n = node_of c f} act plain (is_target ∙ same) way) (known.reached, tt)

      not_initialised : (i x : ℕ) → IsAt args i x → InitialisedBy app (node_of c f) (callee (node_of c f) body) → ⊥
      not_initialised = no_initialiser c f None sound act (is_target ∙ same)
  known_call {f = f} {kind = kind} {at = at} {body = body} known act (by_nothing virtual none is_target) same code =
      absurd (no_body app kind f.method at body virtual (is_target ∙ same))
  known_call {site = site} {c = c} {f = f} {kind = kind} {at = at} {args = args} {body = body} known act (by_class {x = x} {p = p} class virtual is_first there of_class is_target) same code =
      enter_call known act code
      (λ row way. cal app lists has closed laws (enter_class {n = node_of c f} act virtual is_first site_class (is_target ∙ same) way) (points, tt))
      (no_initialiser c f (Some class) sound act (is_target ∙ same))
      first
    where
      points : has (Points (node_of c f) x (site p))
      points = (known.registers x).pointed p there

      site_class : SiteClass app lists (site p) class
      site_class = known.world.heap.class p class of_class

      first : (y z q : ℕ) → IsAt args 0 y → (f.registers y).place ≡ Some q → ArgumentRegister app body 0 z →
          has (Points (entry (callee (node_of c f) body)) z (site q))
      first y z q is_at e takes =
          let receiver =
          cal app lists has closed laws (enter_receiver {n = node_of c f} act virtual is_first site_class (is_target ∙ same) takes) (points, tt) in
          let same_register : y ≡ x = same_Some _ _ (sym is_at.there ∙ is_first.there) in
          subst (λ j. has (Points (entry (callee (node_of c f) body)) z (site j))) (same_Some _ _ (sym there ∙ (ap (λ j. (f.registers j).place) (sym same_register) ∙ e))) receiver

  -- an initialiser is entered
  pub known_initialiser : {w : World} {site : ℕ → Site} {c : Ctx} {f : Frame} {fs : List Frame} {body : ℕ} {m : Method} →
      Runs app lists has w site c f fs → Initialises app f.method f.pc body → HasCode app body m →
      Known app lists has w (frame_of body m [] true ∷ f ∷ fs)
  known_initialiser {w} {site = site} {c = c} {f = f} {body = body} {m = m} known is_one code = running site (pushed c f.method f.pc) (record {
    reached = enters _ (reaches_it code);
    world = known.world;
    registers =
        entered_fits (RegisterFits has (entry (callee (node_of c f) body)) w.heap site) m [] (λ r. blank_fits _ _ _ _) (λ i z v e below is. absurd (let none : ⊥ = cc in none));
    event = known.event;
    waits =
        waits_initialiser c (record { body = body; is_one = is_one; same = refl }) known.reached (enters _ (is_called code)) known.registers known.waits;
  })
    where
      enters : (row : Row) → Enters app (node_of c f) body row → has row
      enters row way = cal app lists has closed laws (enter_initialiser {n = node_of c f} is_one way) (known.reached, tt)
