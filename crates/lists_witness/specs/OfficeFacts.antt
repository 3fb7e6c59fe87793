-- How the office file is read from small trees. Behind each fact stands what code would answer that does otherwise.
use Rattle.std.specs.Prelude.{◌≡◌, ℕ, pos, List, [], ◌∷◌, codes, Ok, Err}
use Rattle.toml.specs.Data.{Data, string, integer, Members}
use Rattle.vet_base.specs.Script.{run}
use Rattle.app_machine.specs.Names.{Name}
use Rattle.form_fields.specs.declared.fault.Fault.TheVariants.{Range, Twice}
use Rattle.form_fields.specs.declared.words.Section.TheVariants as section
use Rattle.form_fields.specs.declared.words.Key.TheVariants as key
use Rattle.office_forms.specs.Office.{office_form}
use Rattle.lists_witness.specs.Trees.{members, table_of, array_of}
use Rattle.store_office.specs.declared.party.Role.TheVariants.{Developer}

-- the one token
abbrev pub token : Name
token = codes "4f2a9c71"

-- a developer of this name, with the token
abbrev pub developer : Name → Data
developer name = table_of ((codes "name", string name) ∷ (codes "role", string (codes "developer")) ∷ (codes "token", string token) ∷ [])

-- an office at this port, with these parties
abbrev pub office_of : ℕ → List Data → Members
office_of port parties = members (
    (codes "appeal_days", integer (pos 30)) ∷ (codes "party", array_of parties) ∷ (codes "port", integer (pos port)) ∷ (codes "workers", integer (pos 2)) ∷ []
    )

pub record ReadsOffice : Type 0 where
  -- there is no port 0; taken, it is the port of an office without parties
  pub no_port_zero : run (office_form (office_of 0 [])) ≡ Err (Range section.Office key.Port)
  -- a developer is one; no reviewer
  pub role : run (office_form (office_of 8080 (developer (codes "ann") ∷ []))) ≡ Ok (record {
    port = 8080;
    workers = 2;
    appeal_days = 30;
    parties = record { name = codes "ann"; role = Developer; token = token } ∷ [];
  })
  -- Two parties have no token together, and that is told by the name of the second. Where tokens are compared within one party
  -- alone this is an office, and where the token is told it is printed.
  pub token_once : run (office_form (office_of 8080 (developer (codes "ann") ∷ developer (codes "bob") ∷ []))) ≡ Err (Twice (codes "bob"))

abbrev pub OfficeIsRead : Type 0
OfficeIsRead = ReadsOffice
