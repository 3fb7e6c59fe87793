-- What the files and the manifest give before the hierarchy and the code are looked at: classes, members and components.
use Rattle.std.specs.Prelude.{◌≡◌, List}
use Rattle.std.specs.Map.{keys_of}
use Rattle.vet_base.specs.Script.{Script, Value, ◌>>=◌}
use Rattle.dex_tables.specs.declared.dex.Dex.{Dex}
use Rattle.app_machine.specs.declared.app.Class.{Class}
use Rattle.app_machine.specs.declared.component.Component.{Component}
use Rattle.app_machine.specs.declared.papers.Manifest.{Manifest}
use Rattle.vet_base.specs.Members.{In}
use Rattle.app_machine.specs.Names.{Name}
use Rattle.app_machine.specs.Sound.{name_order}
use Rattle.link_listing.specs.declared.fault.Fault.{Fault}
use Rattle.link_listing.specs.MemberRows.{Fields, Methods, all_members}
use Rattle.link_listing.specs.Classes.{all_classes}
use Rattle.link_listing.specs.Components.{all_components, components_of}
use Rattle.link_listing.specs.InFiles.{classes_in, fields_in, methods_in}
use Rattle.link_listing.specs.Orders.{AreOrdered, triple_order}

pub record Gathered : Type 0 where
  pub classes : List (Name × Class)
  pub fields : Fields
  pub methods : Methods
  pub components : List Component

-- classes, fields and methods are those of the files, each once and in order; the components are the manifest's, and each one's
-- class is among the classes
pub record AreGathered (dexes : List Dex) (manifest : Manifest) (gathered : Gathered) : Type 0 where
  pub classes : AreOrdered name_order (classes_in dexes) gathered.classes
  pub fields : AreOrdered triple_order (fields_in dexes) gathered.fields
  pub methods : AreOrdered triple_order (methods_in dexes) gathered.methods
  pub components : gathered.components ≡ components_of manifest
  pub known : (c : Component) → In c gathered.components → In c.class (keys_of gathered.classes)

-- the tests of the first three kinds, in this order
unfoldable pub gathering : List Dex → Manifest → Script Fault Gathered
gathering dexes manifest = do
  classes ← all_classes dexes
  members ← all_members dexes
  components ← all_components classes manifest
  Value (record { classes = classes; fields = members.0; methods = members.1; components = components })
