-- The rules of steps, each once for both kinds of content.
use Rattle.std.proofs.Common.{◌≡◌, ◌==◌, ℕ, List, [], ◌∷◌, Some, IsFalse, subst}
use Rattle.vet_base.specs.declared.key_id.KeyId.{KeyId}
use Rattle.app_machine.specs.declared.method.Act.{Act}
use Rattle.app_machine.specs.declared.method.Act.TheVariants as act
use Rattle.app_machine.specs.declared.method.Step.{Step}
use Rattle.app_machine.specs.declared.lists.Lists.{Lists}
use Rattle.app_machine.specs.declared.app.App.{App}
use Rattle.vet_base.specs.Members.{In}
use Rattle.app_machine.specs.Local.{writes}
use Rattle.app_machine.specs.State.{result_register, exception_register}
use Rattle.fact_rows.specs.declared.context.Node.{Node}
use Rattle.fact_rows.specs.declared.site.Site.{Site}
use Rattle.fact_rows.specs.declared.row.Row.TheVariants.{Reached, Points}
use Rattle.flow_rules.specs.Nodes.{at_pc, Acts, GoesOn, CaughtAt}
use Rattle.flow_rules.specs.LocalRules.{LocalRule, returning, throwing, keep_points, keep_taint, keep_points_caught, keep_taint_caught, move_points, move_taint, result_points, result_taint, exception_points, exception_taint, put_cell, put_effect, get_static_points, get_static_taint, put_static_points, put_static_taint, throw_points, throw_taint, throw_exit_points, throw_exit_taint, return_points, return_taint}
use Rattle.rule_ground.specs.declared.content.Content.{Content}
use Rattle.rule_ground.specs.declared.content.Content.TheVariants.{Object, Label}
use Rattle.rule_ground.specs.Given.{held, held_static, leaves, stored}
use Rattle.step_rules.specs.StepGiven.{step_here}

module _ (app : App) (n : Node) where
  pub act_of : {step : Step} {a : Act} → step_here app n ≡ Some step → step.act ≡ a → Acts app n a
  act_of {step = step} there same = record { step = step; there = there; same = same }

  pub next_of : {step : Step} {pc : ℕ} → step_here app n ≡ Some step → In pc step.next → GoesOn app n pc
  next_of {step = step} there i = record { step = step; there = there; next = i }

  pub catch_of : {step : Step} {pc : ℕ} → step_here app n ≡ Some step → In pc step.catches → CaughtAt app n pc
  catch_of {step = step} there i = record { step = step; there = there; catch = i }

  -- a node has one step
  pub next_in : {pc : ℕ} {a : Act} (h : Acts app n a) → GoesOn app n pc → In pc h.step.next
  next_in {pc = pc} h g = let e : g.step ≡ h.step = cc in subst (λ (s : Step). In pc s.next) e g.next

  pub catch_in : {pc : ℕ} {a : Act} (h : Acts app n a) → CaughtAt app n pc → In pc h.step.catches
  catch_in {pc = pc} h g = let e : g.step ≡ h.step = cc in subst (λ (s : Step). In pc s.catches) e g.catch

module _ (app : App) (lists : Lists) (n : Node) where
  pub keep : (v : Content) (pc r : ℕ) (a : Act) → Acts app n a → IsFalse (writes a r) → GoesOn app n pc →
      LocalRule app lists 2 (held v n r ∷ []) (held v (at_pc n pc) r)
  keep (Object s) pc r a h w g = keep_points h w g
  keep (Label p l) pc r a h w g = keep_taint h w g

  pub caught : (v : Content) (pc r : ℕ) → IsFalse (r == exception_register) → CaughtAt app n pc → LocalRule app lists 2 (held v n r ∷ []) (held v (at_pc n pc) r)
  caught (Object s) pc r w g = keep_points_caught w g
  caught (Label p l) pc r w g = keep_taint_caught w g

  pub moved : (v : Content) (pc x d : ℕ) (ds : List ℕ) → Acts app n (act.Move ds x) → In d ds → GoesOn app n pc →
      LocalRule app lists 3 (held v n x ∷ []) (held v (at_pc n pc) d)
  moved (Object s) pc x d ds h i g = move_points d h i g
  moved (Label p l) pc x d ds h i g = move_taint d h i g

  pub resulted : (v : Content) (pc d : ℕ) (ds : List ℕ) → Acts app n (act.TakeResult ds) → In d ds → GoesOn app n pc →
      LocalRule app lists 3 (held v n result_register ∷ []) (held v (at_pc n pc) d)
  resulted (Object s) pc d ds h i g = result_points d h i g
  resulted (Label p l) pc d ds h i g = result_taint d h i g

  pub excepted : (v : Content) (pc d : ℕ) → Acts app n (act.TakeException d) → GoesOn app n pc →
      LocalRule app lists 3 (held v n exception_register ∷ []) (held v (at_pc n pc) d)
  excepted (Object s) pc d h g = exception_points h g
  excepted (Label p l) pc d h g = exception_taint h g

  pub put_in : (v : Content) (o x : ℕ) (k : KeyId) (s : Site) → Acts app n (act.Put o k x) → LocalRule app lists 8 (Points n o s ∷ held v n x ∷ []) (stored v n s k)
  put_in (Object t) o x k s h = put_cell h
  put_in (Label p l) o x k s h = put_effect h

  pub from_static : (v : Content) (pc g d : ℕ) (ds : List ℕ) → Acts app n (act.GetStatic ds g) → In d ds → GoesOn app n pc →
      LocalRule app lists 9 (Reached n ∷ held_static v g ∷ []) (held v (at_pc n pc) d)
  from_static (Object s) pc g d ds h i k = get_static_points d h i k
  from_static (Label p l) pc g d ds h i k = get_static_taint d h i k

  pub to_static : (v : Content) (g x : ℕ) → Acts app n (act.PutStatic g x) → LocalRule app lists 10 (held v n x ∷ []) (held_static v g)
  to_static (Object s) g x h = put_static_points h
  to_static (Label p l) g x h = put_static_taint h

  pub threw : (v : Content) (pc x : ℕ) → Acts app n (act.Throw x) → CaughtAt app n pc →
      LocalRule app lists 11 (held v n x ∷ []) (held v (at_pc n pc) exception_register)
  threw (Object s) pc x h g = throw_points h g
  threw (Label p l) pc x h g = throw_taint h g

  pub threw_out : (v : Content) (x : ℕ) → Acts app n (act.Throw x) → LocalRule app lists 11 (held v n x ∷ []) (leaves v n.by throwing)
  threw_out (Object s) x h = throw_exit_points h
  threw_out (Label p l) x h = throw_exit_taint h

  pub returned : (v : Content) (x : ℕ) → Acts app n (act.Return (Some x)) → LocalRule app lists 12 (held v n x ∷ []) (leaves v n.by returning)
  returned (Object s) x h = return_points h
  returned (Label p l) x h = return_taint h
