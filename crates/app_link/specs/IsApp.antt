-- The app of DEX files, a manifest and layouts.
use Rattle.std.specs.Prelude.{◌≡◌, List, map, length}
use Rattle.dex_tables.specs.declared.dex.Dex.{Dex}
use Rattle.app_machine.specs.declared.app.App.{App}
use Rattle.app_machine.specs.declared.papers.Manifest.{Manifest}
use Rattle.app_machine.specs.declared.papers.Layouts.{Layouts}
use Rattle.link_code.specs.AreCoded.{AreCoded}
use Rattle.link_code.specs.declared.coded.Coded.{Coded}
use Rattle.link_code.specs.Units.{units_in}
use Rattle.link_listing.specs.Components.{providers_of}
use Rattle.app_link.specs.Frame.{before_code}
use Rattle.link_listing.specs.Gathered.{Gathered, AreGathered}
use Rattle.link_hierarchy.specs.Hierarchy.{NoCircle, HasOuters, without_outer, renamed}
use Rattle.app_link.specs.Keys.{all_keys}
use Rattle.app_link.specs.Limits.{WithinLimits}
use Rattle.link_code.specs.Methods.{all_methods}
use Rattle.link_code.specs.StaticList.{AreStatics}

pub record IsApp (dexes : List Dex) (manifest : Manifest) (layouts : Layouts) (app : App) : Type 0 where
  -- classes, members and components are those that stand in the files and the manifest, each once, and each component has a class
  pub gathered : Gathered
  pub gathers : AreGathered dexes manifest gathered
  -- no class is above itself
  pub no_circle : NoCircle gathered.classes
  -- all code is decoded and tested
  pub coded : List Coded
  pub codes : AreCoded dexes gathered.methods coded
  -- there is not too much of anything: of classes, methods, fields, and units of all code
  pub limits : WithinLimits (length gathered.classes) (length gathered.methods) (length gathered.fields) (units_in dexes gathered.methods)
  -- the classes stand by name, and each lists the library classes above it
  pub classes : map without_outer app.classes ≡ map renamed gathered.classes
  pub outers : HasOuters app.classes
  pub keys : app.keys ≡ all_keys gathered.fields
  pub components : app.components ≡ gathered.components
  pub clicks : app.clicks ≡ layouts.clicks
  pub providers : app.providers ≡ providers_of manifest
  pub layout_classes : app.layout_classes ≡ layouts.classes
  pub statics : AreStatics (before_code app) gathered.fields dexes coded app.statics
  pub methods : app.methods ≡ all_methods (before_code app) gathered.fields app.statics dexes coded
