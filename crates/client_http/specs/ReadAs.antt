-- How the desk reads a submission.
use Rattle.std.specs.Prelude.{◌≡◌, ◌≤◌, ℕ, true, List, length, drop, Some, Result, Ok}
use Rattle.httparse.specs.Grammar.{RequestHead}
use Rattle.store_office.specs.declared.office.Office.{Office}
use Rattle.store_office.specs.declared.party.Party.{Party}
use Rattle.case_rules.specs.declared.case.Content.{Content}
use Rattle.case_rules.specs.declared.command.Command.TheVariants as commands
use Rattle.case_rules.specs.Rules.{is_developer}
use Rattle.desk_http.specs.declared.asked.Asked.{Asked}
use Rattle.desk_http.specs.declared.asked.HttpFault.{HttpFault}
use Rattle.desk_http.specs.Fields.{is_post, body_length, token_of}
use Rattle.desk_http.specs.Requests.{IsHead, Answers}
use Rattle.desk_http.specs.Laws.{IsOfBytes}
use Rattle.desk_routes.specs.declared.command.Turn.TheVariants as turns
use Rattle.desk_routes.specs.Routes.{cases}
use Rattle.desk_routes.specs.Turns.{party_of, turn_of}
use Rattle.client_body.specs.Bodies.{IsSubmission}

-- The bytes are a head and the body that it announces, and nothing else: a POST to the cases with this token, whose body is
-- the submission of this app under this reference.
pub record IsReadAs (token reference : List ℕ) (content : Content) (bytes : List ℕ) : Type 0 where
  pub n : ℕ
  pub head : RequestHead
  pub is_head : IsHead bytes n head
  pub few : length head.fields ≤ 64
  pub announced : body_length head ≡ Ok (length (drop n bytes))
  pub post : is_post head.method ≡ true
  pub target : head.target ≡ cases
  pub token_is : token_of head ≡ Some token
  pub submits : IsSubmission reference content (drop n bytes)

-- what is answered is a request, and its turn is the party's submission
abbrev pub IsSubmissionOf : Office → Party → List ℕ → Content → Result Asked HttpFault → Type 0
IsSubmissionOf office party reference content r =
    (asked : Asked) × (r ≡ Ok asked)
    × (turn_of asked.post asked.path asked.token asked.body.items office ≡ turns.Run party (commands.Submit reference content))

-- Whatever answers these bytes is the submission of the developer who has the token.
abbrev pub IsOneSubmission : Type 0
IsOneSubmission =
    (token reference : List ℕ) (content : Content) (bytes : List ℕ) (office : Office) (party : Party) (r : Result Asked HttpFault)
    → IsReadAs token reference content bytes → party_of office (Some token) ≡ Some party → is_developer party.role ≡ true
    → IsOfBytes r → Answers bytes r → IsSubmissionOf office party reference content r
