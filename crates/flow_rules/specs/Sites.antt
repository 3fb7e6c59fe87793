-- The class of the objects that are made at a site.
use Rattle.std.specs.Prelude.{◌≡◌, ℕ, if◌then◌else◌, Option, Some, None, option_map, slice_get}
use Rattle.app_machine.specs.declared.method.Act.{Act}
use Rattle.app_machine.specs.declared.method.Act.TheVariants.{New, Fill, Call}
use Rattle.app_machine.specs.declared.component.Component.{Component as ComponentOf}
use Rattle.app_machine.specs.declared.lists.Lists.{Lists}
use Rattle.app_machine.specs.declared.app.App.{App}
use Rattle.app_machine.specs.Names.{Name, is_reference}
use Rattle.app_machine.specs.Lookups.{step_at}
use Rattle.app_machine.specs.Library.{shared_class}
use Rattle.app_machine.specs.Events.{parameter_type}
use Rattle.fact_rows.specs.declared.site.Site.{Site}
use Rattle.fact_rows.specs.declared.site.Site.TheVariants.{At, Param, Component, Shared, Made}
use Rattle.fact_rows.specs.Contexts.{event_types}

-- the class of what the act makes: that which it names, or for a call the type of its result
abbrev pub class_made : Act → Option Name
class_made (New d class size) = Some class
class_made (Fill xs class) = Some class
class_made (Call kind at args) = if is_reference at.proto.ret then Some at.proto.ret else None
class_made act = None

-- the type, where it is a reference type
abbrev pub reference_type : Option Name → Option Name
reference_type None = None
reference_type (Some type) = if is_reference type then Some type else None

-- the class of what the step makes
abbrev pub class_made_at : App → ℕ → ℕ → Option Name
class_made_at app method pc = elim (step_at app method pc) [ None ↦ None | Some step ↦ class_made step.act ]

-- the class of a site, where it names something in the app and the lists
unfoldable pub site_class : App → Lists → Site → Option Name
site_class app lists (At n) = class_made_at app n.by.method n.pc
site_class app lists (Param ctx i) = reference_type (parameter_type (event_types app lists ctx) i)
site_class app lists (Component c) = option_map (λ (component : ComponentOf). component.class) (slice_get app.components c)
site_class app lists (Shared i) = shared_class lists i
site_class app lists (Made m pc) = class_made_at app m pc

pub record SiteClass (app : App) (lists : Lists) (s : Site) (class : Name) : Type 0 where
  pub is_class : site_class app lists s ≡ Some class
