-- The app that the parts are.
use Rattle.std.specs.Prelude.{◌≡◌, List}
use Rattle.app_link.specs.IsApp.{IsApp}
use Rattle.app_link.specs.OneAnswer.{OnlyApp}
use Rattle.dex_tables.specs.declared.dex.Dex.{Dex}
use Rattle.device_causes.specs.DeviceCauses.{device_causes}
use Rattle.link_access.specs.Access.{accesses_in}
use Rattle.outcomes.specs.declared.outcome.Cause.{Cause}
use Rattle.verdict.specs.declared.linking.Linked.{Linked}
use Rattle.verdict.specs.declared.parts.Parts.{Parts}
use Rattle.verdict.specs.Refuses.{Reads}

-- the parts are forms and DEX files that make this app and no other
pub record IsLinked (parts : Parts) (linked : Linked) : Type 0 where
  pub dexes : List Dex
  pub reads : Reads parts linked.papers dexes
  pub is_app : IsApp dexes linked.papers.manifest linked.papers.layouts linked.app
  pub only : OnlyApp dexes linked.papers.manifest linked.papers.layouts linked.app
  pub access : linked.access.entries ≡ accesses_in dexes

-- why a device may do more than the machine, as far as the app, the lists and the manifest tell
abbrev pub causes_beside : Linked → List Cause
causes_beside l = device_causes l.app l.access.entries l.papers.lists l.papers.device l.papers.named
