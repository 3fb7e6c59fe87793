-- The form of the client's file: its tests in their order, and what it says where all hold.
use Rattle.std.specs.Prelude.{◌≡◌, ℕ, pos, negsuc, ◌≤◌, ◌&&◌, ◌||◌, nat_le, Bool, false, IsTrue, if◌then◌else◌, List, [], Option, Some, None, codes}
use Rattle.std.specs.Str.{bytes_eq}
use Rattle.toml.specs.Data.{Data, string, integer, Members, no_members, member, get_member}
use Rattle.vet_base.specs.Script.{Script, Value, Test, ◌>>=◌, tests, value_of, AllHold, IsFirst}
use Rattle.vet_base.specs.declared.stop.Stop.{Stop}
use Rattle.vet_base.specs.declared.stop.Stop.TheVariants as stops
use Rattle.form_fields.specs.declared.told.FormFault.{FormFault}
use Rattle.form_fields.specs.declared.told.FormFault.TheVariants as told
use Rattle.form_fields.specs.Spelling.{is_token}
use Rattle.form_fields.specs.Tree.{Reads, IsNotToml}
use Rattle.client_form.specs.declared.client.Client.{Client}
use Rattle.client_form.specs.declared.fault.Key.{Key}
use Rattle.client_form.specs.declared.fault.Key.TheVariants.{Port, Token, Tries}
use Rattle.client_form.specs.declared.fault.Fault.{Fault}
use Rattle.client_form.specs.declared.fault.Fault.TheVariants.{Unknown, Missing, Wrong, Range}

-- a key as it stands in the file
unfoldable pub text_of : Key → List ℕ
text_of Port = codes "port"
text_of Token = codes "token"
text_of Tries = codes "tries"

unfoldable pub is_known : List ℕ → Bool
is_known name = bytes_eq name (text_of Port) || bytes_eq name (text_of Token) || bytes_eq name (text_of Tries)

-- the least key of a table that is none of these; a table has its keys by their bytes, ascending
unfoldable pub least_unknown : Members → Option (List ℕ)
least_unknown no_members = None
least_unknown (member k d ms) = if is_known k then least_unknown ms else Some k

abbrev pub none_unknown : Option (List ℕ) → Script Fault (Unit {0})
none_unknown None = Value tt
none_unknown (Some name) = Test false (Unknown name) (Value tt)

-- no other key
unfoldable pub known : Members → Script Fault (Unit {0})
known t = none_unknown (least_unknown t)

unfoldable pub at_key : Key → Members → Option Data
at_key k t = get_member (text_of k) t

-- a number from 1 to `most`
abbrev pub number_due : Key → ℕ → Option Data → Script Fault ℕ
number_due k most None = Test false (Missing k) (Value 0)
number_due k most (Some (integer (pos n))) = Test (nat_le 1 n && nat_le n most) (Range k) (Value n)
number_due k most (Some (integer (negsuc n))) = Test false (Range k) (Value 0)
number_due k most (Some _) = Test false (Wrong k) (Value 0)

unfoldable pub number_at : Key → ℕ → Members → Script Fault ℕ
number_at k most t = number_due k most (at_key k t)

-- a text in the form of a token
abbrev pub token_due : Option Data → Script Fault (List ℕ)
token_due None = Test false (Missing Token) (Value [])
token_due (Some (string text)) = Test (is_token text) (Range Token) (Value text)
token_due (Some _) = Test false (Wrong Token) (Value [])

unfoldable pub token_at : Members → Script Fault (List ℕ)
token_at t = token_due (at_key Token t)

-- no unknown key, and then the port, the token and the number of tries
unfoldable pub client_form : Members → Script Fault Client
client_form t = do
  _ ← known t
  port ← number_at Port 65535 t
  token ← token_at t
  tries ← number_at Tries 16 t
  Value (record { port = port; token = token; tries = tries })

-- what holds of each client that is read
pub record IsSound (client : Client) : Type 0 where
  pub port : (1 ≤ client.port) × (client.port ≤ 65535)
  pub token : IsTrue (is_token client.token)
  pub tries : (1 ≤ client.tries) × (client.tries ≤ 16)

-- the text is a client's form, and this is what it says
pub record IsClient (text : List ℕ) (client : Client) : Type 0 where
  pub tree : Members
  pub reads : Reads text tree
  pub hold : AllHold (tests (client_form tree))
  pub is : client ≡ value_of (client_form tree)

-- a fault with its key written out
abbrev pub shown : Fault → FormFault
shown (Unknown name) = told.Unknown name
shown (Missing k) = told.Missing (text_of k)
shown (Wrong k) = told.Wrong (text_of k)
shown (Range k) = told.Range (text_of k)

-- the first test that the text fails
pub data FirstFault (text : List ℕ) : FormFault → Type 0 where
  unread : IsNotToml text → FirstFault text told.NotToml
  fails : (tree : Members) (fault : Fault) → Reads text tree → IsFirst (tests (client_form tree)) fault → FirstFault text (shown fault)

-- what is reported of a reading that stopped
abbrev pub IsTold : Stop Fault → FormFault → Type 0
IsTold stops.Memory e = e ≡ told.Memory
IsTold (stops.Fault fault) e = e ≡ shown fault
