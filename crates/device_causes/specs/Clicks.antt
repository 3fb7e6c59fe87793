-- Methods to which a click may come on a device besides those of activities.
-- Android documentation: `android:onClick` of `View` and of menu items.
use Rattle.std.specs.Prelude.{◌&&◌, ◌||◌, not, Bool, true, false, if◌then◌else◌, codes, List, [], ◌∷◌, map, filter, flat_map, Some, None}
use Rattle.std.specs.List.{list_any}
use Rattle.app_machine.specs.declared.app.App.{App}
use Rattle.app_machine.specs.declared.app.Class.{Class}
use Rattle.app_machine.specs.declared.component.Component.{Component}
use Rattle.app_machine.specs.declared.component.Kind.{Kind}
use Rattle.app_machine.specs.declared.component.Kind.TheVariants as kinds
use Rattle.app_machine.specs.declared.lists.Lists.{Lists}
use Rattle.app_machine.specs.declared.lists.LibClass.{LibClass}
use Rattle.app_machine.specs.Names.{Name, same_name, click_descriptor}
use Rattle.app_machine.specs.Lookups.{class_named, up}
use Rattle.link_access.specs.declared.access.ClassAccess.{ClassAccess}
use Rattle.link_access.specs.declared.access.MethodAccess.{MethodAccess}
use Rattle.link_access.specs.Access.{Accesses}
use Rattle.link_listing.specs.Texts.{Triple}
use Rattle.device_causes.specs.Sets.{is_among}
use Rattle.device_causes.specs.Hidden.{method_named}

-- the context of a layout
unfoldable pub context_class : Name
context_class = codes "Landroid/content/Context;"

-- the descriptor of a method to which clicks of menu items come
unfoldable pub menu_descriptor : Name
menu_descriptor = codes "(Landroid/view/MenuItem;)Z"

-- the listed classes below it, and itself
unfoldable pub context_names : Lists → List Name
context_names lists = context_class ∷ map (λ (c : LibClass). c.name) (filter (λ (c : LibClass). is_among c.above context_class) lists.classes)

abbrev pub any_context : Lists → List Name → Bool
any_context lists names = list_any (is_among (context_names lists)) names

-- the class of the app is below it: one of the library classes nearest above is
unfoldable pub is_context : App → Lists → Name → Bool
is_context app lists class = elim (class_named app class) [ None ↦ false | Some c ↦ any_context lists c.outer ]

abbrev pub is_activity : Kind → Bool
is_activity kinds.Activity = true
is_activity kinds.Application = false
is_activity kinds.Service = false
is_activity kinds.Receiver = false

-- the names of the component's class and of the app classes above it, where it is an activity
unfoldable pub activity_names : App → Component → List Name
activity_names app c = if is_activity c.kind then map (λ (k : Class). k.name) (up app c.class) else []

-- those of all activities of the manifest
unfoldable pub all_activity_names : App → List Name
all_activity_names app = flat_map (activity_names app) app.components

-- a click on a view whose context is of the class, and that is no activity nor above one; or a click of a menu
unfoldable pub comes_elsewhere : App → Lists → Name → Name → Bool
comes_elsewhere app lists class descriptor =
    same_name descriptor menu_descriptor
    || (same_name descriptor click_descriptor && (is_context app lists class && not (is_among (all_activity_names app) class)))

unfoldable pub is_odd_click : App → Lists → Name → MethodAccess → Bool
is_odd_click app lists class m = is_among app.clicks m.name && comes_elsewhere app lists class m.descriptor

unfoldable pub clicks_in : App → Lists → Name × ClassAccess → List Triple
clicks_in app lists c = map (method_named c.0) (filter (is_odd_click app lists c.0) c.1.methods)

unfoldable pub odd_clicks : App → Accesses → Lists → List Triple
odd_clicks app access lists = flat_map (clicks_in app lists) access
