-- Where the reply to a submission is lost and the same comes again.
use Rattle.std.specs.Prelude.{◌≡◌, true, List, ℕ, [], ◌∷◌, Some}
use Rattle.store_office.specs.declared.office.Office.{Office}
use Rattle.store_office.specs.declared.party.Party.{Party}
use Rattle.case_rules.specs.declared.case.Content.{Content}
use Rattle.case_rules.specs.Rules.{is_developer}
use Rattle.case_rules.specs.Desk.{Judgement}
use Rattle.case_rules.specs.Runs.{Standing}
use Rattle.client_http.specs.ReadAs.{IsReadAs}
use Rattle.client_law.specs.Tried.{Tried, ActsOnce, HandedIn, HasAtMostOneMore, IsAmong, held_of}
use Rattle.desk_routes.specs.Turns.{party_of}
use Rattle.desk_serving.specs.declared.serving.Served.{Served}
use Rattle.desk_serving.specs.declared.serving.Served.TheVariants.{Replied}

-- it is the one case more, or was there before
abbrev pub IsOneCase : HandedIn → List HandedIn → List HandedIn → Type 0
IsOneCase x before after = HasAtMostOneMore x before after × IsAmong x after

-- By the law that a submission acts once, whoever judges: whatever became of the first connection, once a second one was answered 201 the developer
-- has this case, and no other is new (else there would be two, or none).
abbrev pub OneCase : (Content → Judgement → Type 0) → List ℕ → Type 0
OneCase finds edition =
    ActsOnce finds edition → (office : Office) (party : Party) (token reference : List ℕ) (content : Content) (request : List ℕ) (from to : Standing) (lost : Served)
    → IsReadAs token reference content request → party_of office (Some token) ≡ Some party → is_developer party.role ≡ true
    → Tried finds edition office party.name request from (lost ∷ Replied 201 ∷ []) to
    → IsOneCase (reference, content) (held_of party.name from.cases) (held_of party.name to.cases)
