-- Files are one app, or they have one first fault.
use Rattle.std.specs.Prelude.{◌≡◌, List}
use Rattle.dex_tables.specs.declared.dex.Dex.{Dex}
use Rattle.app_machine.specs.declared.app.App.{App}
use Rattle.app_machine.specs.declared.papers.Manifest.{Manifest}
use Rattle.app_machine.specs.declared.papers.Layouts.{Layouts}
use Rattle.app_link.specs.declared.linking.LinkFault.{LinkFault}
use Rattle.app_link.specs.FirstLinkFault.{FirstLinkFault}
use Rattle.app_link.specs.IsApp.{IsApp}

-- files that are an app have no fault, and no two faults are the first
pub record OneAnswer (dexes : List Dex) (manifest : Manifest) (layouts : Layouts) : Type 0 where
  pub not_both : (app : App) (fault : LinkFault) → IsApp dexes manifest layouts app → FirstLinkFault dexes manifest layouts fault → ⊥
  pub one_fault : (fault other : LinkFault) → FirstLinkFault dexes manifest layouts fault → FirstLinkFault dexes manifest layouts other → fault ≡ other

abbrev pub OneAppOrFault : Type 0
OneAppOrFault = (dexes : List Dex) (manifest : Manifest) (layouts : Layouts) → OneAnswer dexes manifest layouts

-- the files are no other app
pub record OnlyApp (dexes : List Dex) (manifest : Manifest) (layouts : Layouts) (app : App) : Type 0 where
  pub only : (other : App) → IsApp dexes manifest layouts other → other ≡ app
