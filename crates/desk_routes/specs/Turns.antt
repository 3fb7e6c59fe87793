-- What a request comes to: a command of a party, or the answer that it gets without one.
use Rattle.std.specs.Prelude.{◌≡◌, ℕ, Bool, List, Option, Some, None, Result, Ok, Err, IsSomeAnd, find, option_and_then}
use Rattle.serde_json.specs.Data.{Data}
use Rattle.store_office.specs.declared.party.Party.{Party}
use Rattle.case_rules.specs.declared.command.Command.{Command}
use Rattle.case_rules.specs.declared.command.Command.TheVariants as commands
use Rattle.case_rules.specs.Docket.{IsFormed}
use Rattle.store_office.specs.declared.office.Office.{Office}
use Rattle.store_office.specs.Office.{has_token}
use Rattle.desk_routes.specs.declared.target.Act.{Act}
use Rattle.desk_routes.specs.declared.target.Act.TheVariants.{Submit, List as ListCases, Show, Report, Appeal, Decide, Review, Rule}
use Rattle.desk_routes.specs.declared.fault.Fault.{Fault}
use Rattle.desk_routes.specs.declared.fault.Fault.TheVariants.{NoRoute, NoMethod, NoToken, WrongRole}
use Rattle.desk_routes.specs.declared.command.Turn.{Turn}
use Rattle.desk_routes.specs.declared.command.Turn.TheVariants as turns
use Rattle.desk_routes.specs.Faults.{answer_to, ◌>>=◌, allow, known}
use Rattle.desk_routes.specs.Routes.{route_of, act_of, may_ask}
use Rattle.desk_routes.specs.Bodies.{json_of, submission, appeal, review, ruling}

-- the command of an act, by the reference in the target and the body; where no field is asked for, the body is not
-- looked at
unfoldable pub command_for : Act → List ℕ → List ℕ → Result Command Fault
command_for Submit reference body = json_of body >>= submission
command_for ListCases reference body = Ok commands.List
command_for Show reference body = Ok (commands.Show reference)
command_for Report reference body = Ok (commands.Report reference)
command_for Appeal reference body = json_of body >>= appeal reference
command_for Decide reference body = Ok commands.Decide
command_for Review reference body = json_of body >>= review
command_for Rule reference body = json_of body >>= ruling

-- the party with this token, compared whole
abbrev pub party_of : Office → Option (List ℕ) → Option Party
party_of office token = option_and_then (λ t. find (has_token t) office.parties) token

-- The tests in their order: the target, the method, the token, the role, and then the body. A reference in a target is
-- taken as it stands: one of another form names no case.
unfoldable pub run_of : Bool → List ℕ → Option (List ℕ) → List ℕ → Office → Result (Party × Command) Fault
run_of post target token body office = do
  route ← known (route_of target) NoRoute
  act ← known (act_of route.0 post) NoMethod
  party ← known (party_of office token) NoToken
  _ ← allow (may_ask party.role act) WrongRole
  command ← command_for act route.1 body
  Ok (party, command)

abbrev pub turn_by : Result (Party × Command) Fault → Turn
turn_by (Ok run) = turns.Run run.0 run.1
turn_by (Err fault) = turns.Answer (answer_to fault)

abbrev pub turn_of : Bool → List ℕ → Option (List ℕ) → List ℕ → Office → Turn
turn_of post target token body office = turn_by (run_of post target token body office)

-- The party is the one of the office with the token, and the command has its form.
abbrev pub IsDue : Office → Option (List ℕ) → Turn → Type 0
IsDue office token (turns.Run party command) = (party_of office token ≡ Some party) × IsFormed command
IsDue office token (turns.Answer answer) = Unit {0}
