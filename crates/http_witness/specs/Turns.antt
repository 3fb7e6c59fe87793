-- What some requests come to, each turn whole. Behind each fact stands what a slip would answer.
use Rattle.std.specs.Prelude.{◌≡◌, ℕ, true, false, List, [], ◌∷◌, ◌++◌, Some, None, codes}
use Rattle.case_rules.specs.declared.case.Content.{Content}
use Rattle.case_rules.specs.declared.case.RulingWord.TheVariants.{Uphold, Overturn}
use Rattle.case_rules.specs.declared.command.Command.{Command}
use Rattle.case_rules.specs.declared.command.Command.TheVariants.{Submit, List as ListCases, Decide, Review, Rule}
use Rattle.desk_routes.specs.declared.command.Turn.{Turn}
use Rattle.desk_routes.specs.declared.command.Turn.TheVariants as turns
use Rattle.desk_routes.specs.Turns.{turn_of}
use Rattle.store_office.specs.declared.office.Office.{Office}
use Rattle.store_office.specs.declared.party.Party.{Party}
use Rattle.store_office.specs.declared.party.Role.TheVariants.{Developer, Reviewer}

abbrev pub ada : Party
ada = record { name = codes "ada"; role = Developer; token = codes "4f2a9c71" }

abbrev pub bob : Party
bob = record { name = codes "bob"; role = Reviewer; token = codes "c0ffee42" }

abbrev pub office : Office
office = record { port = 8080; workers = 2; appeal_days = 30; parties = ada ∷ bob ∷ [] }

-- what this party, or one with this token, comes to by GET of a target
abbrev pub gets : List ℕ → List ℕ → Turn
gets token target = turn_of false target (Some token) [] office

-- the same by POST of a body
abbrev pub posts : Party → List ℕ → List ℕ → Turn
posts party target body = turn_of true target (Some party.token) body office

abbrev pub runs : Party → Command → Turn
runs party command = turns.Run party command

-- an error with this status
abbrev pub told : ℕ → List ℕ → Turn
told status body = turns.Answer (record { status = status; is_text = false; body = body })

-- a submission with these DEX files in base64
abbrev pub submits : List ℕ → Turn
submits dex = posts ada (codes "/cases") (codes "{\"reference\":\"a1\",\"manifest\":\"m\",\"layouts\":\"l\",\"declaration\":\"d\",\"dex\":[" ++ dex ++ codes "]}")

abbrev pub content : List (List ℕ) → Content
content dex = record { manifest = codes "m"; layouts = codes "l"; declaration = codes "d"; dex = dex }

pub record TurnsTell : Type 0 where
  -- a reviewer decides, and no body is asked for (else the empty one would be no JSON, every request would have no route, or a reviewer would be in the wrong role)
  pub decides : posts bob (codes "/decisions") [] ≡ runs bob Decide
  -- a developer does not, whatever the body is (else it would be a command of a developer, or the empty body would be told as no JSON)
  pub decides_not : posts ada (codes "/decisions") [] ≡ told 403 (codes "{\"error\":\"wrong role\"}")
  -- a page without this method has a route (else it would be told as having none)
  pub no_method : gets bob.token (codes "/decisions") ≡ told 405 (codes "{\"error\":\"no such method\"}")
  -- a token is compared whole (else by its front, that of ada)
  pub own_token : gets ada.token (codes "/cases") ≡ runs ada ListCases
  pub no_longer_token : gets (ada.token ++ ada.token) (codes "/cases") ≡ told 401 (codes "{\"error\":\"no such token\"}")
  -- no token is nobody's (else a wrong role, with 403)
  pub no_token : turn_of false (codes "/cases") None [] office ≡ told 401 (codes "{\"error\":\"no such token\"}")
  -- nothing stands behind the `/` behind a reference (else it would show the case)
  pub slash_behind : gets ada.token (codes "/cases/a1/") ≡ told 404 (codes "{\"error\":\"no route\"}")
  -- a reference has a byte at least (else it would show a report)
  pub empty_reference : gets ada.token (codes "/cases//report") ≡ told 404 (codes "{\"error\":\"no route\"}")
  -- developer and reference have their places (else they would change them), and a body that is JSON is read (else it would be told as none where memory runs out)
  pub reviews : posts bob (codes "/reviews") (codes "{\"developer\":\"ada\",\"reference\":\"a1\"}") ≡ runs bob (Review (codes "ada") (codes "a1"))
  -- a name has no blank (else any bytes would be one)
  pub no_name : posts bob (codes "/reviews") (codes "{\"developer\":\"a b\",\"reference\":\"a1\"}") ≡ told 422 (codes "{\"error\":\"field developer\"}")
  -- each word is its ruling (else `uphold` would overturn)
  pub upholds : posts bob (codes "/rulings") (codes "{\"developer\":\"ada\",\"reference\":\"a1\",\"ruling\":\"uphold\"}") ≡ runs bob (Rule (codes "ada") (codes "a1") Uphold)
  pub overturns : posts bob (codes "/rulings") (codes "{\"developer\":\"ada\",\"reference\":\"a1\",\"ruling\":\"overturn\"}") ≡ runs bob (Rule (codes "ada") (codes "a1") Overturn)
  -- each text of a submission is its own, and so is each DEX file (else the manifest would be that of the layouts, or the second file would be lost)
  pub submitted : submits (codes "\"AQ==\",\"Ag==\"") ≡ runs ada (Submit (codes "a1") (content ((1 ∷ []) ∷ (2 ∷ []) ∷ [])))
  -- 17 DEX files are too many (else they would be taken)
  pub too_many : submits (codes "\"\",\"\",\"\",\"\",\"\",\"\",\"\",\"\",\"\",\"\",\"\",\"\",\"\",\"\",\"\",\"\",\"\"") ≡ told 422 (codes "{\"error\":\"field dex\"}")
  -- what is no base64 is no DEX file (else it would be an empty one)
  pub no_base64 : submits (codes "\"!\"") ≡ told 422 (codes "{\"error\":\"field dex\"}")
  -- the manifest is asked for first (else the layouts)
  pub manifest_first : posts ada (codes "/cases") (codes "{\"reference\":\"a1\"}") ≡ told 422 (codes "{\"error\":\"field manifest\"}")
  -- the field that is missing is told (else the manifest, which is there)
  pub layouts_missing : posts ada (codes "/cases") (codes "{\"reference\":\"a1\",\"manifest\":\"m\"}") ≡ told 422 (codes "{\"error\":\"field layouts\"}")
