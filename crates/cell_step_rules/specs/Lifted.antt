-- The rules of steps, each once for both kinds of content.
use Rattle.std.proofs.Common.{ℕ, List, [], ◌∷◌, inl}
use Rattle.vet_base.specs.declared.key_id.KeyId.{KeyId}
use Rattle.app_machine.specs.declared.method.Act.TheVariants as act
use Rattle.app_machine.specs.declared.lists.Lists.{Lists}
use Rattle.app_machine.specs.declared.app.App.{App}
use Rattle.vet_base.specs.Members.{In}
use Rattle.app_machine.specs.State.{result_register, exception_register}
use Rattle.fact_rows.specs.declared.context.Node.{Node}
use Rattle.fact_rows.specs.declared.site.Site.{Site}
use Rattle.fact_rows.specs.declared.row.Row.TheVariants.{Reached, Points}
use Rattle.flow_rules.specs.Nodes.{at_pc, Acts, GoesOn, CaughtAt}
use Rattle.cell_rules.specs.LocalRules.{move_points, move_label, result_points, result_label, exception_points, exception_label, get_points, get_label, get_static_points, get_static_label, throw_points, throw_label}
use Rattle.cell_rules.specs.Reading.{ReadAt}
use Rattle.cell_ground.specs.declared.content.Content.{Content}
use Rattle.cell_ground.specs.declared.content.Content.TheVariants.{Object, Label}
use Rattle.cell_ground.specs.Coming.{held, held_static, stored}
use Rattle.cell_step_rules.specs.CellStepGiven.{StepRule}

module _ (app : App) (lists : Lists) (n : Node) where
  pub moved : (v : Content) (pc x d u : ℕ) (ds : List ℕ) → Acts app n (act.Move ds x) → In d ds → GoesOn app n pc → ReadAt app n.by.method d pc u →
      StepRule app lists 3 (held v n x ∷ []) (held v (at_pc n u) d)
  moved (Object s) pc x d u ds h i g w = inl (move_points d h i g w)
  moved (Label l) pc x d u ds h i g w = inl (move_label d h i g w)

  pub resulted : (v : Content) (pc d u : ℕ) (ds : List ℕ) → Acts app n (act.TakeResult ds) → In d ds → GoesOn app n pc → ReadAt app n.by.method d pc u →
      StepRule app lists 3 (held v n result_register ∷ []) (held v (at_pc n u) d)
  resulted (Object s) pc d u ds h i g w = inl (result_points d h i g w)
  resulted (Label l) pc d u ds h i g w = inl (result_label d h i g w)

  pub excepted : (v : Content) (pc d u : ℕ) → Acts app n (act.TakeException d) → GoesOn app n pc → ReadAt app n.by.method d pc u →
      StepRule app lists 3 (held v n exception_register ∷ []) (held v (at_pc n u) d)
  excepted (Object s) pc d u h g w = inl (exception_points h g w)
  excepted (Label l) pc d u h g w = inl (exception_label h g w)

  pub got : (v : Content) (pc o d u : ℕ) (ds : List ℕ) (k : KeyId) (s : Site) → Acts app n (act.Get ds o k) → In d ds → GoesOn app n pc →
      ReadAt app n.by.method d pc u → StepRule app lists 7 (Points n o s ∷ stored v s k ∷ []) (held v (at_pc n u) d)
  got (Object t) pc o d u ds k s h i g w = inl (get_points d h i g w)
  got (Label l) pc o d u ds k s h i g w = inl (get_label d h i g w)

  pub from_static : (v : Content) (pc g d u : ℕ) (ds : List ℕ) → Acts app n (act.GetStatic ds g) → In d ds → GoesOn app n pc →
      ReadAt app n.by.method d pc u → StepRule app lists 9 (Reached n ∷ held_static v g ∷ []) (held v (at_pc n u) d)
  from_static (Object s) pc g d u ds h i k w = inl (get_static_points d h i k w)
  from_static (Label l) pc g d u ds h i k w = inl (get_static_label d h i k w)

  pub threw : (v : Content) (pc x u : ℕ) → Acts app n (act.Throw x) → CaughtAt app n pc → ReadAt app n.by.method exception_register pc u →
      StepRule app lists 11 (held v n x ∷ []) (held v (at_pc n u) exception_register)
  threw (Object s) pc x u h g w = inl (throw_points h g w)
  threw (Label l) pc x u h g w = inl (throw_label h g w)
