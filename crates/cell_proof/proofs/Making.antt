-- The site of what a step makes has its class, whether it is told apart by the step's context or not.
use Rattle.std.proofs.Common.{◌≡◌, Bool, true, false, cond, Some}
use Rattle.app_machine.specs.declared.method.Act.{Act}
use Rattle.app_machine.specs.declared.app.App.{App}
use Rattle.app_machine.specs.declared.lists.Lists.{Lists}
use Rattle.app_machine.specs.Names.{Name}
use Rattle.fact_rows.specs.declared.context.Node.{Node}
use Rattle.fact_rows.specs.declared.site.Site.TheVariants.{At, Made}
use Rattle.flow_rules.specs.Nodes.{Acts}
use Rattle.flow_rules.specs.Sites.{class_made, site_class, SiteClass}
use Rattle.flow_proof.proofs.Stepping.{class_at}
use Rattle.cell_rules.specs.Making.{keeps_context, made_at}

pub made_class : {app : App} {lists : Lists} {act : Act} {class : Name} (n : Node) → Acts app n act → class_made act ≡ Some class →
    SiteClass app lists (made_at app n) class
unfolding site_class
made_class {app} {lists} {act} {class} n acts made = by_context (keeps_context app n)
  where
    here : SiteClass app lists (At n) class
    here = class_at acts made

    by_context : (b : Bool) → SiteClass app lists (cond b (At n) (Made n.by.method n.pc)) class
    by_context true = here
    by_context false = record { is_class = here.is_class }
