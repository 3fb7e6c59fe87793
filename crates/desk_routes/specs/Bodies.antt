-- The body of a request as JSON (RFC 8259), and its fields.
use Rattle.std.specs.Prelude.{ℕ, ◌&&◌, Bool, true, List, [], ◌∷◌, length, Option, Some, None, option_map, option_and_then, Result, Ok, Err, if◌then◌else◌, nat_le, codes}
use Rattle.std.specs.Str.{is_utf8}
use Rattle.std.specs.Result.{result_ok}
use Rattle.serde_json.specs.Data.{Data, Items, no_items, item}
use Rattle.serde_json.specs.Read.{read}
use Rattle.serde_json.specs.Find.{get, as_str, as_array}
use Rattle.base64.specs.Engines.{standard}
use Rattle.base64.specs.GeneralPurpose.{decode_of}
use Rattle.case_rules.specs.declared.case.Content.{Content}
use Rattle.case_rules.specs.declared.case.RulingWord.{RulingWord}
use Rattle.case_rules.specs.declared.case.RulingWord.TheVariants.{Uphold, Overturn}
use Rattle.case_rules.specs.declared.command.Command.{Command}
use Rattle.case_rules.specs.declared.command.Command.TheVariants as commands
use Rattle.case_rules.specs.Cases.{same}
use Rattle.case_rules.specs.Docket.{is_appeal_text}
use Rattle.store_office.specs.Reference.{is_reference}
use Rattle.desk_routes.specs.declared.fault.Field.{Field}
use Rattle.desk_routes.specs.declared.fault.Field.TheVariants.{Declaration, Developer, Dex, Layouts, Manifest, Reference, Ruling, Text}
use Rattle.desk_routes.specs.declared.fault.Fault.{Fault}
use Rattle.desk_routes.specs.declared.fault.Fault.TheVariants.{NotJson, Bad}
use Rattle.desk_routes.specs.Faults.{key_of, ◌>>=◌, allow, known}

-- the value of a body: UTF-8, and JSON as the crate `serde_json` reads it, where the last value of a key stays
unfoldable pub json_of : List ℕ → Result Data Fault
json_of body = known (if is_utf8 body then read body else None) NotJson

-- the text at a field; a body that is no object has none
unfoldable pub text_at : Field → Data → Result (List ℕ) Fault
text_at field value = known (option_and_then as_str (get (key_of field) value)) (Bad field)

-- the same, where it has the form of a name: 1 to 64 bytes of `A-Z a-z 0-9 . _ -`
unfoldable pub name_at : Field → Data → Result (List ℕ) Fault
name_at field value = do
  text ← text_at field value
  _ ← allow (is_reference text) (Bad field)
  Ok text

abbrev pub listed : Items → List Data
listed no_items = []
listed (item value items) = value ∷ listed items

-- the list at a field
unfoldable pub list_at : Field → Data → Result (List Data) Fault
list_at field value = known (option_map listed (option_and_then as_array (get (key_of field) value))) (Bad field)

-- a text in base64, as the engine `STANDARD` of the crate `base64` decodes it (RFC 4648, section 4)
unfoldable pub decoded : Data → Option (List ℕ)
decoded value = option_and_then (λ text. result_ok (decode_of standard text)) (as_str value)

-- each of them
abbrev pub all_decoded : List Data → Option (List (List ℕ))
all_decoded [] = Some []
all_decoded (value ∷ values) =
    option_and_then (λ bytes. option_map (λ others. bytes ∷ others) (all_decoded values)) (decoded value)

-- 1 to 16 of them
unfoldable pub dex_at : Data → Result (List (List ℕ)) Fault
dex_at value = do
  texts ← list_at Dex value
  _ ← allow (nat_le 1 (length texts) && nat_le (length texts) 16) (Bad Dex)
  known (all_decoded texts) (Bad Dex)

unfoldable pub uphold : List ℕ
uphold = codes "uphold"

unfoldable pub overturn : List ℕ
overturn = codes "overturn"

abbrev pub word_of : List ℕ → Option RulingWord
word_of text = if same text uphold then Some Uphold else if same text overturn then Some Overturn else None

unfoldable pub word_at : Data → Result RulingWord Fault
word_at value = do
  text ← text_at Ruling value
  known (word_of text) (Bad Ruling)

-- A submission: a reference, the three texts, and the DEX files.
unfoldable pub submission : Data → Result Command Fault
submission value = do
  reference ← name_at Reference value
  manifest ← text_at Manifest value
  layouts ← text_at Layouts value
  declaration ← text_at Declaration value
  dex ← dex_at value
  Ok (commands.Submit reference (record { manifest = manifest; layouts = layouts; declaration = declaration; dex = dex }))

-- An appeal against the decision on a case: a text of 1 to 4,000 bytes.
unfoldable pub appeal : List ℕ → Data → Result Command Fault
appeal reference value = do
  text ← text_at Text value
  _ ← allow (is_appeal_text text) (Bad Text)
  Ok (commands.Appeal reference text)

-- A review of a case, by its developer and its reference.
unfoldable pub review : Data → Result Command Fault
review value = do
  developer ← name_at Developer value
  reference ← name_at Reference value
  Ok (commands.Review developer reference)

-- A ruling on it.
unfoldable pub ruling : Data → Result Command Fault
ruling value = do
  developer ← name_at Developer value
  reference ← name_at Reference value
  word ← word_at value
  Ok (commands.Rule developer reference word)
