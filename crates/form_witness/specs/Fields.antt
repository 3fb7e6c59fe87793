-- What some tables of forms come to, and what some rows of the lists say of a method. Behind each fact stands what a slip would
-- answer.
use Rattle.std.specs.Prelude.{◌≡◌, pos, true, false, [], ◌∷◌, codes, Ok, Err}
use Rattle.toml.specs.Data.{Data, string, integer, array, item, no_items, Members, member, no_members}
use Rattle.vet_base.specs.Script.{run}
use Rattle.app_machine.specs.Summaries.{position_count}
use Rattle.app_machine.specs.declared.summary.Gives.TheVariants as gives
use Rattle.form_fields.specs.declared.fault.Fault.TheVariants.{Wrong, Unknown, Range}
use Rattle.form_fields.specs.declared.words.Section.TheVariants.{Method, Party}
use Rattle.form_fields.specs.declared.words.Key.TheVariants.{From, Shared, Result}
use Rattle.form_fields.specs.declared.spelling.Spelling.TheVariants.{Token}
use Rattle.form_fields.specs.declared.shape.Shape.TheVariants.{NamedPair}
use Rattle.form_fields.specs.Fields.{known}
use Rattle.form_fields.specs.Shape.{all_have}
use Rattle.form_fields.specs.Spelling.{fits}
use Rattle.method_fields.specs.Gives.{gives_at}

-- `[0, "sms"]`, and `[0, "sms", 1]`
abbrev pub named_pair : Data
named_pair = array (item (integer (pos 0)) (item (string (codes "sms")) no_items))

abbrev pub longer_pair : Data
longer_pair = array (item (integer (pos 0)) (item (string (codes "sms")) (item (integer (pos 1)) no_items)))

-- a party with two keys that no party has
abbrev pub strange_party : Members
strange_party = member (codes "age") (integer (pos 7)) (member (codes "zip") (integer (pos 7)) no_members)

pub record FieldsTell : Type 0 where
  -- a pair of a number and a text has the shape
  pub pair : all_have NamedPair (named_pair ∷ []) ≡ true
  -- what stands behind the text is a text too (else a number would have the shape)
  pub no_longer_pair : all_have NamedPair (longer_pair ∷ []) ≡ false
  -- 8 characters are a token
  pub shortest_token : fits Token (codes "4f2a9c71") ≡ true
  -- 7 are none (else a token could be one shorter)
  pub no_shorter_token : fits Token (codes "4f2a9c7") ≡ false
  -- of unknown keys the least is told (else `zip`, the greatest)
  pub least_key : run (known Party strange_party) ≡ Err (Unknown Party (codes "age"))

pub record RowsTell : Type 0 where
  -- a shared object is named by a text: its type is tested first (else it would be out of range, as it goes with no other result)
  pub shared_is_text : run (gives_at [] 1 false (member (codes "shared") (integer (pos 1)) no_members)) ≡ Err (Wrong Method Shared)
  -- a blank result has no positions, not even an empty list (else it would be taken)
  pub blank_has_none : run (gives_at [] 1 true (member (codes "from") (array no_items) no_members)) ≡ Err (Range Method From)
  -- a method may give back what the library has (else the word would be none)
  pub handed_back : run (gives_at [] 1 true (member (codes "result") (string (codes "handed")) no_members)) ≡ Ok gives.Handed
  -- one that gives a number, or nothing, may not (else it would be read)
  pub no_number_handed : run (gives_at [] 1 false (member (codes "result") (string (codes "handed")) no_members)) ≡ Err (Range Method Result)
  -- nor may one whose result has a source (else the source would label nothing)
  pub no_source_handed : run (gives_at [] 1 true (member (codes "result") (string (codes "handed")) (member (codes "source") (string (codes "sms")) no_members))) ≡ Err (Range Method Result)
  -- and it has no positions (else they would be passed over)
  pub handed_from_none : run (gives_at [] 1 true (member (codes "result") (string (codes "handed")) (member (codes "from") (array no_items) no_members))) ≡ Err (Range Method From)
  -- a method with one parameter that is not static has two positions (else one, without the receiver)
  pub with_receiver : position_count false (record { params = codes "I" ∷ []; ret = codes "V" }) ≡ 2
