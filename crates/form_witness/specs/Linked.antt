-- What files are linked to: how classes stand above one another, and which files are an app. Behind each fact stands what a slip
-- would answer.
use Rattle.std.specs.Prelude.{◌≡◌, ◌∷◌, [], true, None, codes, All, Ok}
use Rattle.vet_base.specs.Script.{run}
use Rattle.app_machine.specs.declared.app.App.{App}
use Rattle.app_machine.specs.declared.app.Class.{Class}
use Rattle.app_machine.specs.declared.app.Key.TheVariants.{Elem}
use Rattle.app_machine.specs.declared.papers.Layouts.{Layouts}
use Rattle.app_machine.specs.declared.papers.Manifest.{Manifest}
use Rattle.app_machine.specs.Names.{Name}
use Rattle.app_link.specs.IsApp.{IsApp}
use Rattle.app_link.specs.Limits.{within_limits}
use Rattle.dex_reader.specs.Sound.{SoundDex}
use Rattle.dex_tables.specs.declared.dex.Dex.{Dex}
use Rattle.link_hierarchy.specs.Hierarchy.{IsLeastCircle}
use Rattle.link_hierarchy.specs.Settled.{AllSettled, Entries, Outers}

abbrev pub first_class : Name
first_class = codes "La;"

abbrev pub second_class : Name
second_class = codes "Lb;"

-- an interface under this one
abbrev pub interface : Name → Name → Class
interface name above = record { name = name; superclass = None; interfaces = above ∷ []; is_interface = true; outer = []; bare = [] }

-- two interfaces of which each is above the other one
unfoldable pub circle : Entries
circle = (first_class, interface first_class second_class) ∷ (second_class, interface second_class first_class) ∷ []

pub record HierarchyTells : Type 0 where
  -- the first of the two is the least class above itself (else, where classes at one depth are passed by, none would be)
  pub least : IsLeastCircle circle first_class
  -- the second is not (else, where the greater name is told, it would be)
  pub not_greater : IsLeastCircle circle second_class → ⊥
  -- and no library classes above them are known (else, where a class does not wait for its interfaces, both would be settled)
  pub not_settled : (outers : Outers) → AllSettled circle outers → ⊥

-- a file without classes
abbrev pub no_classes : Dex
no_classes = record { strings = []; types = []; protos = []; fields = []; methods = []; classes = [] }

-- a manifest that says two files and no components, and layouts that say nothing
abbrev pub two_parts : Manifest
two_parts = record { «package» = codes "a"; dex_files = 2; application = None; components = [] }

abbrev pub no_layouts : Layouts
no_layouts = record { clicks = []; classes = [] }

-- an app with nothing but the key of elements
abbrev pub nothing : App
nothing = record { classes = []; methods = []; keys = Elem ∷ []; statics = []; components = []; clicks = []; providers = []; layout_classes = [] }

pub record AppsTell : Type 0 where
  -- the files are sound, as the link asks
  pub sound : All SoundDex (no_classes ∷ no_classes ∷ [])
  -- two files are an app, and so refused by no fault (else they would have too many classes)
  pub two_files : IsApp (no_classes ∷ no_classes ∷ []) two_parts no_layouts nothing
  -- 100,000 classes are not too many (else they would be)
  pub full : run (within_limits 100000 400000 400000 33554432) ≡ Ok tt
