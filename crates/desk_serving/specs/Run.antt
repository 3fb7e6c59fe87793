-- A run of the desk over a door: connections one after the other, up to a number, or until no more come.
use Rattle.std.specs.Prelude.{◌≡◌, ◌≤◌, ◌<◌, ◌+◌, ◌⊎◌, ℕ, min, true, false, List, ◌++◌, map, length, Option, Some, Result, Ok, Err, IfOk}
use Rattle.std.specs.List.{AllByRecursion}
use Rattle.desk_http.specs.declared.asked.Asked.{Asked}
use Rattle.desk_http.specs.declared.asked.HttpFault.{HttpFault}
use Rattle.desk_http.specs.Requests.{Answers}
use Rattle.desk_links.specs.declared.door.DoorFault.{DoorFault}
use Rattle.desk_links.specs.Links.{Talk, Told, Opens, ended_with}
use Rattle.case_rules.specs.declared.case.Case.{Case}
use Rattle.case_rules.specs.declared.case.Content.{Content}
use Rattle.case_rules.specs.Desk.{Judgement}
use Rattle.case_rules.specs.Runs.{Connection, IsDeskRun}
use Rattle.store_office.specs.declared.office.Office.{Office}
use Rattle.desk_serving.specs.declared.serving.Served.{Served}
use Rattle.desk_serving.specs.Serving.{Outside, standing, MayEnd, Serves}

-- Between connections cases and keeper stay as they are, and the door's count does not fall.
pub record Passes (before after : Outside) : Type 0 where
  pub cases : after.cases ≡ before.cases
  pub store : after.store_faults ≡ before.store_faults
  pub link : before.link_faults ≤ after.link_faults

-- So many connections were opened one after the other, and each was served.
pub data Takes (finds : Content → Judgement → Type 0) (office : Office) (edition : List ℕ) (today : Option ℕ)
    (entry : Outside) : ℕ → Outside → Type 0 where
  begins : Takes finds office edition today entry 0 entry
  goes_on : (n : ℕ) (before opened after : Outside) (said : Served)
      → Takes finds office edition today entry n before
      → Passes before opened → Opens before.talk opened.talk (Ok true)
      → Serves finds office edition today opened after said
      → Takes finds office edition today entry (n + 1) after

-- Why no more were taken: they were as many as were asked for, or no more came, or the door failed.
abbrev pub Stops : ℕ → ℕ → Outside → Outside → Result ℕ DoorFault → Type 0
Stops most n last exit (Ok count) = (count ≡ n)
    × (((n ≡ most) × (exit ≡ last)) ⊎ ((n < most) × Passes last exit × Opens last.talk exit.talk (Ok false)))
Stops most n last exit (Err fault) = (n < most) × Passes last exit × Opens last.talk exit.talk (Err fault)

pub record Runs (finds : Content → Judgement → Type 0) (office : Office) (edition : List ℕ) (today : Option ℕ)
    (most : ℕ) (entry exit : Outside) (result : Result ℕ DoorFault) : Type 0 where
  pub n : ℕ
  pub last : Outside
  pub takes : Takes finds office edition today entry n last
  pub stops : Stops most n last exit result

-- Where the keeper tells its cases, it is a run of the desk's machine, with as many connections as were taken.
abbrev pub IsMachineRun : Outside → Outside → Result ℕ DoorFault → Type 0
IsMachineRun entry exit result = (cases : List Case) → entry.cases ≡ Some cases
    → (connections : List Connection) × (then : List Case) × (exit.cases ≡ Some then)
    × IsDeskRun (standing cases entry) connections (standing then exit) × IfOk result (λ count. length connections ≡ count)

-- a conversation: the bytes that came in it, and how it stands at its end
pub record Exchange : Type 0 where
  pub came : List ℕ
  pub talk : Talk

-- What was written in it may be answered to the bytes that came, by what failed from the entry of the run to its exit.
pub record IsAnswered (office : Office) (entry exit : Outside) (exchange : Exchange) : Type 0 where
  pub request : Result Asked HttpFault
  pub of_bytes : Answers exchange.came request
  pub said : Served
  pub ends : MayEnd office request entry exit exchange.talk.written said

-- Conversations were held, one after the other: in each came the next of the bytes that were left, and it stands behind
-- those that were over.
pub record Holds (office : Office) (entry exit : Outside) (talk then : Told) (exchanges : List Exchange) : Type 0 where
  pub came : talk.left ≡ map (λ e. e.came) exchanges ++ then.left
  pub over : ended_with then ≡ ended_with talk ++ map (λ e. e.talk) exchanges
  pub answered : AllByRecursion (IsAnswered office entry exit) exchanges

-- Where the door tells, so many conversations were held as were taken.
abbrev pub HoldsTalks : Office → Outside → Outside → Result ℕ DoorFault → Type 0
HoldsTalks office entry exit result = (talk : Told) → entry.talk ≡ Some talk
    → (exchanges : List Exchange) × (then : Told) × (exit.talk ≡ Some then) × Holds office entry exit talk then exchanges
    × IfOk result (λ count. length exchanges ≡ count)

-- Where the door tells, it takes as many connections as were asked for, or all that are left where these are fewer.
abbrev pub CountsAll : ℕ → Outside → Result ℕ DoorFault → Type 0
CountsAll most entry result = (talk : Told) → entry.talk ≡ Some talk
    → IfOk result (λ count. count ≡ min most (length talk.left))
