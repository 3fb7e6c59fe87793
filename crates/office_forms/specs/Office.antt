-- The office file: where the desk listens, how it works, and who has a token for it.
use Rattle.std.specs.Prelude.{codes, List, [], ◌∷◌, ◌++◌, Option, Some, None, is_none, false, if◌then◌else◌}
use Rattle.std.specs.Str.{bytes_eq}
use Rattle.toml.specs.Data.{Data, Members}
use Rattle.vet_base.specs.Script.{Script, Value, Test, ◌>>=◌, test, walk, each}
use Rattle.app_machine.specs.Names.{Name, same_name}
use Rattle.store_office.specs.declared.party.Party.{Party}
use Rattle.store_office.specs.declared.party.Role.{Role}
use Rattle.store_office.specs.declared.party.Role.TheVariants.{Developer, Reviewer}
use Rattle.store_office.specs.declared.office.Office.{Office}
use Rattle.form_fields.specs.declared.fault.Fault.{Fault}
use Rattle.form_fields.specs.declared.fault.Fault.TheVariants.{Missing, Wrong, Twice}
use Rattle.form_fields.specs.declared.words.Section.TheVariants as section
use Rattle.form_fields.specs.declared.words.Key.TheVariants as key
use Rattle.form_fields.specs.declared.spelling.Spelling.TheVariants.{Reference, Token}
use Rattle.form_fields.specs.Places.{place_of}
use Rattle.form_fields.specs.Once.{once}
use Rattle.form_fields.specs.Fields.{known, text_at, number_at, word_at, tables_at, table_in}

-- the role that a word names
unfoldable pub role_of : Name → Option Role
role_of word =
    if bytes_eq word (codes "developer") then Some Developer
    else if bytes_eq word (codes "reviewer") then Some Reviewer
    else None

abbrev pub role_named : Option Role → Script Fault Role
role_named None = Test false (Wrong section.Party key.Role) (Value Developer)
role_named (Some role) = Value role

abbrev pub role_due : Option Name → Script Fault Role
role_due None = Test false (Missing section.Party key.Role) (Value Developer)
role_due (Some word) = role_named (role_of word)

unfoldable pub role_at : Members → Script Fault Role
role_at t = do
  word ← word_at section.Party key.Role t
  role_due word

-- a party: its name, its role and its token
unfoldable pub party_row : Data → Unit {0} → Script Fault (Party × Unit {0})
party_row d _ = do
  t ← table_in section.Office key.Party d
  _ ← known section.Party t
  name ← text_at section.Party key.Name Reference t
  role ← role_at t
  token ← text_at section.Party key.Token Token t
  Value (record { name = name; role = role; token = token }, tt)

unfoldable pub parties_of : List Data → Script Fault (List Party × Unit {0})
parties_of tables = walk party_row tables tt

-- the name of the party does not stand among those before it
unfoldable pub name_once : Party → List Name → Script Fault (List Name)
name_once party seen = once party.name seen

-- its token does not stand among those before it: the name is told, so that no token is printed
unfoldable pub token_once : Party → List Name → Script Fault (List Name)
token_once party seen = do
  _ ← test (is_none (place_of same_name party.token seen)) (Twice party.name)
  Value (seen ++ party.token ∷ [])

unfoldable pub party_names_once : List Party → Script Fault (List Name)
party_names_once parties = each name_once parties []

unfoldable pub party_tokens_once : List Party → Script Fault (List Name)
party_tokens_once parties = each token_once parties []

-- no name stands twice, and no token
unfoldable pub parties_once : List Party → Script Fault (Unit {0})
parties_once parties = do
  _ ← party_names_once parties
  _ ← party_tokens_once parties
  Value tt

unfoldable pub office_form : Members → Script Fault Office
office_form t = do
  _ ← known section.Office t
  port ← number_at section.Office key.Port 1 65535 t
  workers ← number_at section.Office key.Workers 1 16 t
  appeal_days ← number_at section.Office key.AppealDays 1 365 t
  tables ← tables_at section.Office key.Party 4096 t
  parties ← parties_of tables
  _ ← parties_once parties.0
  Value (record { port = port; workers = workers; appeal_days = appeal_days; parties = parties.0 })
