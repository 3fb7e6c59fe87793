-- The site of what a step makes.
use Rattle.std.specs.Prelude.{Bool, false, is_some, if◌then◌else◌, Some, None}
use Rattle.app_machine.specs.declared.method.Act.{Act}
use Rattle.app_machine.specs.declared.method.Act.TheVariants.{New}
use Rattle.app_machine.specs.declared.app.App.{App}
use Rattle.app_machine.specs.Lookups.{class_named, step_at}
use Rattle.fact_rows.specs.declared.context.Node.{Node}
use Rattle.fact_rows.specs.declared.site.Site.{Site}
use Rattle.fact_rows.specs.declared.site.Site.TheVariants.{At, Made}

-- whether the act makes an object of a class of the app
abbrev pub makes_of_app : App → Act → Bool
makes_of_app app (New d class size) = is_some (class_named app class)
makes_of_app app act = false

-- whether what the step makes is told apart by the context of the step: objects of the app's classes are
unfoldable pub keeps_context : App → Node → Bool
keeps_context app n = elim (step_at app n.by.method n.pc) [ None ↦ false | Some step ↦ makes_of_app app step.act ]

abbrev pub made_at : App → Node → Site
made_at app n = if keeps_context app n then At n else Made n.by.method n.pc
