-- What stands at a key of a table: its tests in their order, and the value behind them.
use Rattle.std.specs.Prelude.{ℕ, pos, negsuc, ◌&&◌, nat_le, Bool, false, if◌then◌else◌, List, [], length, Option, Some, None}
use Rattle.std.specs.List.{list_any, list_all}
use Rattle.std.specs.Str.{bytes_eq}
use Rattle.toml.specs.Data.{Data, string, integer, table, Members, no_members, member, get_member}
use Rattle.vet_base.specs.Script.{Script, Value, Test, ◌>>=◌, test, walk}
use Rattle.app_machine.specs.Names.{Name}
use Rattle.form_fields.specs.declared.fault.Fault.{Fault}
use Rattle.form_fields.specs.declared.fault.Fault.TheVariants.{Missing, Wrong, Unknown, Range}
use Rattle.form_fields.specs.declared.words.Section.{Section}
use Rattle.form_fields.specs.declared.words.Key.{Key}
use Rattle.form_fields.specs.declared.spelling.Spelling.{Spelling}
use Rattle.form_fields.specs.Spelling.{fits}
use Rattle.form_fields.specs.declared.shape.Shape.TheVariants as shape
use Rattle.form_fields.specs.Shape.{all_have}
use Rattle.form_fields.specs.Words.{text_of, keys_of}
use Rattle.form_fields.specs.Tree.{items_in}

-- the tables of a section may have the key
unfoldable pub is_known : Section → Name → Bool
is_known s name = list_any (λ k. bytes_eq (text_of k) name) (keys_of s)

-- the least key of a table that its section does not have
unfoldable pub least_unknown : Section → Members → Option Name
least_unknown s no_members = None
least_unknown s (member k d ms) = if is_known s k then least_unknown s ms else Some k

abbrev pub none_unknown : Section → Option Name → Script Fault (Unit {0})
none_unknown s None = Value tt
none_unknown s (Some name) = Test false (Unknown s name) (Value tt)

-- no key but those of the section
unfoldable pub known : Section → Members → Script Fault (Unit {0})
known s t = none_unknown s (least_unknown s t)

-- the value at a key of a table
unfoldable pub at_key : Key → Members → Option Data
at_key k t = get_member (text_of k) t

-- a text in its spelling
abbrev pub text_in : Section → Key → Spelling → Data → Script Fault Name
text_in s k spelling (string text) = Test (fits spelling text) (Range s k) (Value text)
text_in s k spelling _ = Test false (Wrong s k) (Value [])

unfoldable pub text_of_value : Section → Key → Spelling → Data → Script Fault Name
text_of_value s k spelling d = text_in s k spelling d

abbrev pub text_due : Section → Key → Spelling → Option Data → Script Fault Name
text_due s k spelling None = Test false (Missing s k) (Value [])
text_due s k spelling (Some d) = text_of_value s k spelling d

unfoldable pub text_at : Section → Key → Spelling → Members → Script Fault Name
text_at s k spelling t = text_due s k spelling (at_key k t)

-- a text that may be missing
abbrev pub text_free : Section → Key → Spelling → Option Data → Script Fault (Option Name)
text_free s k spelling None = Value None
text_free s k spelling (Some d) = do
  text ← text_of_value s k spelling d
  Value (Some text)

unfoldable pub maybe_text_at : Section → Key → Spelling → Members → Script Fault (Option Name)
maybe_text_at s k spelling t = text_free s k spelling (at_key k t)

-- a text that has to be one of some words, as it stands
abbrev pub word_in : Section → Key → Option Data → Script Fault (Option Name)
word_in s k None = Value None
word_in s k (Some (string text)) = Value (Some text)
word_in s k (Some _) = Test false (Wrong s k) (Value None)

unfoldable pub word_at : Section → Key → Members → Script Fault (Option Name)
word_at s k t = word_in s k (at_key k t)

-- a number from `low` to `high`
abbrev pub number_due : Section → Key → ℕ → ℕ → Option Data → Script Fault ℕ
number_due s k low high None = Test false (Missing s k) (Value 0)
number_due s k low high (Some (integer (pos n))) = Test (nat_le low n && nat_le n high) (Range s k) (Value n)
number_due s k low high (Some (integer (negsuc n))) = Test false (Range s k) (Value 0)
number_due s k low high (Some _) = Test false (Wrong s k) (Value 0)

unfoldable pub number_at : Section → Key → ℕ → ℕ → Members → Script Fault ℕ
number_at s k low high t = number_due s k low high (at_key k t)

-- the texts of a list
unfoldable pub text_item : Section → Key → Data → Unit {0} → Script Fault (Name × Unit {0})
text_item s k (string text) _ = Value (text, tt)
text_item s k _ _ = Test false (Wrong s k) (Value ([], tt))

unfoldable pub text_items : Section → Key → List Data → Script Fault (List Name × Unit {0})
text_items s k ds = walk (text_item s k) ds tt

abbrev pub texts_among : Section → Key → Option (List Data) → Script Fault (List Name)
texts_among s k None = Test false (Wrong s k) (Value [])
texts_among s k (Some items) = do
  texts ← text_items s k items
  Value texts.0

unfoldable pub texts_in : Section → Key → Data → Script Fault (List Name)
texts_in s k d = texts_among s k (items_in d)

unfoldable pub all_fit : Spelling → List Name → Bool
all_fit spelling texts = list_all (λ text. fits spelling text) texts

-- a list of at most so many texts in their spelling
abbrev pub texts_due : Section → Key → Spelling → ℕ → Option Data → Script Fault (List Name)
texts_due s k spelling most None = Test false (Missing s k) (Value [])
texts_due s k spelling most (Some d) = do
  texts ← texts_in s k d
  _ ← test (all_fit spelling texts) (Range s k)
  _ ← test (nat_le (length texts) most) (Range s k)
  Value texts

unfoldable pub texts_at : Section → Key → Spelling → ℕ → Members → Script Fault (List Name)
texts_at s k spelling most t = texts_due s k spelling most (at_key k t)

-- such a list, which may be missing: then it has none
abbrev pub texts_free : Section → Key → Spelling → ℕ → Option Data → Script Fault (List Name)
texts_free s k spelling most None = Value []
texts_free s k spelling most (Some d) = texts_due s k spelling most (Some d)

unfoldable pub maybe_texts_at : Section → Key → Spelling → ℕ → Members → Script Fault (List Name)
maybe_texts_at s k spelling most t = texts_free s k spelling most (at_key k t)

-- an array of tables, at most so many, which may be missing
abbrev pub tables_among : Section → Key → ℕ → Option (List Data) → Script Fault (List Data)
tables_among s k most None = Test false (Wrong s k) (Value [])
tables_among s k most (Some items) = do
  _ ← test (all_have shape.Table items) (Wrong s k)
  _ ← test (nat_le (length items) most) (Range s k)
  Value items

abbrev pub tables_in : Section → Key → ℕ → Option Data → Script Fault (List Data)
tables_in s k most None = Value []
tables_in s k most (Some d) = tables_among s k most (items_in d)

unfoldable pub tables_at : Section → Key → ℕ → Members → Script Fault (List Data)
tables_at s k most t = tables_in s k most (at_key k t)

-- one of these tables: that it is one is tested before any of them is read
unfoldable pub table_in : Section → Key → Data → Script Fault Members
table_in s k (table ms) = Value ms
table_in s k _ = Test false (Wrong s k) (Value no_members)
