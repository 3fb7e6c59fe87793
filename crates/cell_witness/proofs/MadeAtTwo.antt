-- By what the objects are told apart that a scene without other methods makes at 2.
use Rattle.std.proofs.Common.{◌≡◌, ℕ, Bool, true, false, List, [], Some, None, refl, sym, subst}
use Rattle.std.specs.Prelude.{if◌then◌else◌}
use Rattle.app_machine.specs.declared.method.Step.{Step}
use Rattle.app_machine.specs.declared.method.Act.TheVariants.{New}
use Rattle.app_machine.specs.declared.app.App.{App}
use Rattle.app_machine.specs.Names.{Name}
use Rattle.app_machine.specs.Lookups.{class_named}
use Rattle.fact_rows.specs.declared.context.Node.{Node}
use Rattle.fact_rows.specs.declared.site.Site.TheVariants.{At, Made}
use Rattle.flow_rules.specs.Nodes.{Acts}
use Rattle.machine_witness.specs.Flows.{own_box, scene, activity_of}
use Rattle.cell_rules.specs.Making.{makes_of_app, keeps_context, made_at}
use Rattle.cell_witness.specs.Missing.{IsMadeAtTwo}

module _ (steps : List Step) where
  abbrev the_app : App
  the_app = activity_of (scene steps [])

  -- an object of this class is told apart by its node
  pub keeps : (n : Node) {d : ℕ} {class : Name} → Acts the_app n (New d class None) → class ≡ own_box → keeps_context the_app n ≡ true
  unfolding keeps_context activity_of class_named
  keeps n {d} at same =
      subst (λ o. elim o [ None ↦ false | Some s ↦ makes_of_app the_app s.act ] ≡ true) (sym at.there)
      (subst (λ a. makes_of_app the_app a ≡ true) (sym at.same) (subst (λ c. makes_of_app the_app (New d c None) ≡ true) (sym same) refl))

  pub made_there : (n : Node) → keeps_context the_app n ≡ true → n.pc ≡ 2 → IsMadeAtTwo (made_at the_app n)
  made_there n told at = subst (λ b. IsMadeAtTwo (if b then At n else Made n.by.method n.pc)) (sym told) at

  pub there_made : (n : Node) → IsMadeAtTwo (made_at the_app n) → n.pc ≡ 2
  there_made n is = by_test (keeps_context the_app n) is
    where
      by_test : (b : Bool) → IsMadeAtTwo (if b then At n else Made n.by.method n.pc) → n.pc ≡ 2
      by_test true at = at
      by_test false none = absurd none
