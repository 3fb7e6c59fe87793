-- How a developer's file is read from small trees. Behind each fact stands what code would answer that does otherwise.
use Rattle.std.specs.Prelude.{◌≡◌, ℕ, pos, [], ◌∷◌, codes, Result, Ok, Err}
use Rattle.toml.specs.Data.{string, integer, Members}
use Rattle.vet_base.specs.Script.{run}
use Rattle.app_machine.specs.Names.{Name}
use Rattle.client_form.specs.declared.client.Client.{Client}
use Rattle.client_form.specs.Form.{client_form, shown}
use Rattle.form_fields.specs.declared.told.FormFault.{FormFault}
use Rattle.form_fields.specs.declared.told.FormFault.TheVariants.{Range}
use Rattle.lists_witness.specs.Trees.{members}

-- a file of this port, token and number of tries
abbrev pub client_of : ℕ → Name → ℕ → Members
client_of port token tries = members ((codes "port", integer (pos port)) ∷ (codes "token", string token) ∷ (codes "tries", integer (pos tries)) ∷ [])

abbrev pub with_fault : {A F G : Type 0} → (F → G) → Result A F → Result A G
with_fault f (Ok x) = Ok x
with_fault f (Err fault) = Err (f fault)

-- what such a file says, or the first fault as it is told
abbrev pub read_from : ℕ → Name → ℕ → Result Client FormFault
read_from port token tries = with_fault shown (run (client_form (client_of port token tries)))

pub record ReadsClient : Type 0 where
  -- a file of the form's own keys is read; where these are refused it is a fault
  pub is_read : read_from 8080 (codes "4f2a9c71") 16 ≡ Ok (record { port = 8080; token = codes "4f2a9c71"; tries = 16 })
  -- there is no port 0; taken, it is the port of a client
  pub no_client_port : read_from 0 (codes "4f2a9c71") 16 ≡ Err (Range (codes "port"))
  -- a token has no spaces; as any text it would be one
  pub no_space : read_from 8080 (codes "4f2a 9c71") 16 ≡ Err (Range (codes "token"))
  -- 17 tries are too many; taken, they are those of a client
  pub no_more_tries : read_from 8080 (codes "4f2a9c71") 17 ≡ Err (Range (codes "tries"))

abbrev pub ClientIsRead : Type 0
ClientIsRead = ReadsClient
