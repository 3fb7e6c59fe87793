-- The app before its statics and methods are put in.
use Rattle.std.specs.Prelude.{◌≡◌, ◌<◌, List, [], map, length}
use Rattle.std.specs.List.Sorted.{IsStrictlySortedBy}
use Rattle.std.specs.Map.{keys_of}
use Rattle.app_machine.specs.declared.app.App.{App}
use Rattle.app_machine.specs.declared.app.Class.{Class}
use Rattle.app_machine.specs.Names.{Name}
use Rattle.app_machine.specs.Sound.{name_order}
use Rattle.link_listing.specs.MemberRows.{Fields}
use Rattle.link_listing.specs.Orders.{triple_order}
use Rattle.app_link.specs.Keys.{all_keys}
use Rattle.link_listing.specs.Components.{Fit}
use Rattle.link_hierarchy.specs.Hierarchy.{HasOuters, NoCircle, without_outer, renamed}

-- the app has these classes, these fields' keys and no methods yet
pub record IsFrame (entries : List (Name × Class)) (fields : Fields) (app : App) : Type 0 where
  pub classes : map without_outer app.classes ≡ map renamed entries
  pub sorted : IsStrictlySortedBy name_order (keys_of entries)
  pub no_circle : NoCircle entries
  pub outers : HasOuters app.classes
  pub few_classes : length entries < 4294967296
  pub keys : app.keys ≡ all_keys fields
  pub sorted_fields : IsStrictlySortedBy triple_order (keys_of fields)
  pub few_fields : length fields < 4294967295
  pub fit : Fit entries app.components
  pub methods : app.methods ≡ []
  pub statics : app.statics ≡ []
  pub few_components : length app.components < 4294967296
  pub few_clicks : length app.clicks < 4294967296
  pub few_providers : length app.providers < 4294967296
  pub few_layout_classes : length app.layout_classes < 4294967296

-- the app before its statics and methods are put in: what references to fields are looked up in
abbrev pub before_code : App → App
before_code app = record app { statics = []; methods = [] }
