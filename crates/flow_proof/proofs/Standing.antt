-- Where a state stands there is an Unknown row with the cause.
use Rattle.std.proofs.Common.{◌≡◌, ℕ, List, refl, ◌∙◌}
use Rattle.access_path.specs.Laws.{PathLaws}
use Rattle.app_machine.specs.declared.call.MethodRef.{MethodRef}
use Rattle.app_machine.specs.declared.call.CallKind.{CallKind}
use Rattle.app_machine.specs.declared.method.Act.TheVariants.{Call}
use Rattle.app_machine.specs.declared.lists.Lists.{Lists}
use Rattle.app_machine.specs.declared.app.App.{App}
use Rattle.app_machine.specs.Lookups.{Target, Body, ActAt, IsNative}
use Rattle.app_machine.specs.State.{World, Frame}
use Rattle.app_machine.specs.Calls.{CallsTo, by_name, by_nothing, by_class}
use Rattle.app_machine.specs.Safe.{native, Stands, native_call, without_row, at_reflection, native_initialiser, native_event, native_class}
use Rattle.fact_rows.specs.declared.context.Ctx.{Ctx}
use Rattle.fact_rows.specs.declared.context.Ctx.TheVariants as ctx
use Rattle.fact_rows.specs.declared.site.Site.{Site}
use Rattle.fact_rows.specs.declared.row.Row.{Row}
use Rattle.fact_rows.specs.declared.row.Row.TheVariants.{Unknown}
use Rattle.flow_rules.specs.Nodes.{activation_in, entry}
use Rattle.flow_rules.specs.CallRules.{is_native, finds_none, finds_reflection, enter_direct, enter_class, enter_initialiser}
use Rattle.flow_rules.specs.EventRules.{begin_native}
use Rattle.flow_rules.specs.Rules.{Starts, Closed}
use Rattle.flow_proof.specs.Covering.{InSomeContext}
use Rattle.flow_proof.proofs.Sounding.{no_body}
use Rattle.flow_proof.proofs.Knowing.{node_of, Runs, Known, idle, running}
use Rattle.flow_proof.proofs.Lasting.{cal}
use Rattle.flow_proof.proofs.Librarian.{looked_up}
use Rattle.flow_proof.proofs.Eventing.{came, initialiser_rows}

module _ (app : App) (lists : Lists) (has : Row → Type 0) (closed : Closed app lists has) (laws : PathLaws) (starts : (row : Row) → Starts app row → has row) where
  -- a call of a native body
  at_native : {w : World} {site : ℕ → Site} {c : Ctx} {f : Frame} {fs : List Frame} {kind : CallKind} {at : MethodRef} {args : List ℕ} {t : Target} {body : ℕ} →
      Runs app lists has w site c f fs → ActAt app f.method f.pc (Call kind at args) → CallsTo app w.heap f kind at args t → t ≡ Body body →
      IsNative app body → has (Unknown (node_of c f) native)
  at_native {c = c} {f = f} known act (by_name plain is_target) same is =
      cal app lists has closed laws (enter_direct {n = node_of c f} act plain (is_target ∙ same) (is_native is)) (known.reached, tt)
  at_native {f = f} {kind = kind} {at = at} {body = body} known act (by_nothing virtual none is_target) same is =
      absurd (no_body app kind f.method at body virtual (is_target ∙ same))
  at_native {c = c} {f = f} known act (by_class {x = x} {p = p} class virtual is_first there of_class is_target) same is =
      cal app lists has closed laws (enter_class {n = node_of c f} act virtual is_first (known.world.heap.class p class of_class) (is_target ∙ same) (is_native is)) ((known.registers x).pointed p there, tt)

  here : (c : Ctx) (f : Frame) {cause : ℕ} → has (Unknown (node_of c f) cause) → InSomeContext f.method f.pc (λ n. has (Unknown n cause))
  here c f row = record { node = node_of c f; same_method = refl; same_pc = refl; holds = row }

  pub stands_known : {w : World} {fs : List Frame} {method pc cause : ℕ} → Known app lists has w fs → Stands app lists w fs method pc cause →
      InSomeContext method pc (λ n. has (Unknown n cause))
  stands_known (running site c known) (native_call {f = f} act goes is) = here c f (at_native known act goes refl is)
  stands_known (running site c known) (without_row {f = f} act goes none) =
      here c f (looked_up app lists has closed laws known act goes refl (finds_none none))
  stands_known (running site c known) (at_reflection {f = f} act goes is_key is_row reflects) =
      here c f (looked_up app lists has closed laws known act goes refl (finds_reflection is_key is_row reflects))
  stands_known (running site c known) (native_initialiser {f = f} is_one is) =
      here c f (cal app lists has closed laws (enter_initialiser {n = node_of c f} is_one (is_native is)) (known.reached, tt))
  stands_known (idle site fits) (native_event {body = body} comes is) =
      let context = (came app lists has closed laws starts fits comes).begins body refl in
      record { node = entry (activation_in context.context body); same_method = refl; same_pc = refl; holds = context.begun.rows _ (begin_native is) }
  stands_known (idle site fits) (native_class {body = body} may is) =
      record { node = entry (activation_in (ctx.Init may.c) body); same_method = refl; same_pc = refl; holds = initialiser_rows app lists has closed laws starts fits may _ (begin_native is) }
