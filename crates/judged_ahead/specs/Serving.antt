-- How connections are served by one who judges ahead: as by one who does not.
use Rattle.std.specs.Prelude.{◌≡◌, ℕ, List, Option, Result, Err}
use Rattle.vet_base.specs.Outside.{HasRisen}
use Rattle.desk_links.specs.declared.door.DoorFault.{DoorFault}
use Rattle.desk_links.specs.declared.door.DoorFault.TheVariants.{Failed}
use Rattle.case_rules.specs.declared.case.Content.{Content}
use Rattle.case_rules.specs.Desk.{Judgement}
use Rattle.store_office.specs.declared.office.Office.{Office}
use Rattle.desk_serving.specs.Obeying.{TellsDocket}
use Rattle.desk_serving.specs.Serving.{Outside}
use Rattle.desk_serving.specs.Run.{Runs, IsMachineRun, HoldsTalks, CountsAll}

-- All that is known of connections that were taken and served, one after the other.
pub record ServesDoor (finds : Content → Judgement → Type 0) (office : Office) (edition : List ℕ) (today : Option ℕ)
    (most : ℕ) (entry exit : Outside) (result : Result ℕ DoorFault) : Type 0 where
  pub runs : Runs finds office edition today most entry exit result
  pub machine : IsMachineRun entry exit result
  pub talks : HoldsTalks office entry exit result
  pub count : CountsAll most entry result
  pub docket : TellsDocket exit.cases
  pub cause : result ≡ Err Failed → HasRisen entry.link_faults exit.link_faults
