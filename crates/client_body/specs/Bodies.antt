-- The body of a submission as JSON (RFC 8259), and how the desk reads it.
use Rattle.std.specs.Prelude.{◌≡◌, ℕ, true, List, Some, map, codes}
use Rattle.serde_json.specs.Data.{Data, string, array, object, member, no_members}
use Rattle.serde_json.specs.View.{items_of}
use Rattle.serde_json.specs.Written.{compact_text}
use Rattle.base64.specs.Engines.{standard}
use Rattle.base64.specs.GeneralPurpose.{encode_of}
use Rattle.store_office.specs.declared.office.Office.{Office}
use Rattle.store_office.specs.declared.party.Party.{Party}
use Rattle.case_rules.specs.declared.case.Content.{Content}
use Rattle.case_rules.specs.declared.command.Command.TheVariants as commands
use Rattle.case_rules.specs.Rules.{is_developer}
use Rattle.desk_routes.specs.declared.command.Turn.TheVariants as turns
use Rattle.desk_routes.specs.Routes.{cases}
use Rattle.desk_routes.specs.Turns.{party_of, turn_of}

-- a DEX file as a text in base64 (RFC 4648, section 4)
unfoldable pub dex_text : List ℕ → Data
dex_text file = string (encode_of standard file)

-- the value of the body, with its keys by their bytes
unfoldable pub body_value : List ℕ → List ℕ → List ℕ → List ℕ → List (List ℕ) → Data
body_value reference manifest layouts declaration dex = object
    (member (codes "declaration") (string declaration)
    (member (codes "dex") (array (items_of (map dex_text dex)))
    (member (codes "layouts") (string layouts)
    (member (codes "manifest") (string manifest)
    (member (codes "reference") (string reference) no_members)))))

-- as text without white space
unfoldable pub body_text : List ℕ → List ℕ → List ℕ → List ℕ → List (List ℕ) → List ℕ
body_text reference manifest layouts declaration dex = compact_text (body_value reference manifest layouts declaration dex)

-- the body for an app under a reference
abbrev pub body_of : List ℕ → Content → List ℕ
body_of reference content = body_text reference content.manifest content.layouts content.declaration content.dex

-- With any token of a developer, a POST to the cases with this body is that developer's submission of this app under this
-- reference.
abbrev pub IsSubmission : List ℕ → Content → List ℕ → Type 0
IsSubmission reference content body =
    (office : Office) (party : Party) (token : List ℕ) → party_of office (Some token) ≡ Some party → is_developer party.role ≡ true
    → turn_of true cases (Some token) body office ≡ turns.Run party (commands.Submit reference content)
