-- Texts that are read are spelled as their key says.
use Rattle.std.proofs.Common.{◌≡◌, ℕ, Bool, true, false, cond, List, [], ◌∷◌, ◌++◌, length, Option, Some, None, IfSome}
use Rattle.std.specs.Prelude.{IsTrue, nat_le, is_some}
use Rattle.std.specs.List.{All}
use Rattle.std.proofs.lemmas.List.Elements.{All-nil, All-push, All-head, All-tail}
use Rattle.std.proofs.lemmas.List.Sums.{AllPass-from_list_all}
use Rattle.toml.specs.Data.{Data, string, integer, float, boolean, datetime, array, table, Members}
use Rattle.vet_base.specs.Script.{test}
use Rattle.app_machine.specs.Names.{Name, same_name}
use Rattle.form_fields.specs.declared.fault.Fault.TheVariants.{Missing, Wrong, Range}
use Rattle.form_fields.specs.declared.words.Section.{Section}
use Rattle.form_fields.specs.declared.words.Key.{Key}
use Rattle.form_fields.specs.declared.spelling.Spelling.{Spelling}
use Rattle.form_fields.specs.Spelling.{fits}
use Rattle.form_fields.specs.Places.{place_of}
use Rattle.form_fields.specs.Once.{with_one, with_new}
use Rattle.form_fields.specs.Fields.{at_key, text_in, text_of_value, text_due, text_at, text_free, maybe_text_at, texts_in, all_fit, texts_due, texts_at, texts_free, maybe_texts_at}
use Rattle.form_fields.proofs.Yields.{Yields, yields_value, yields_test, yields_tested, yields_never, yields_then, yields_past}

abbrev pub Fits : Spelling → Name → Type 0
Fits spelling text = IsTrue (fits spelling text)

in_fits : (s : Section) (k : Key) (spelling : Spelling) (d : Data) → Yields (Fits spelling) (text_in s k spelling d)
in_fits s k spelling (string text) = yields_tested _ (fits spelling text) (Range s k) text (λ h. h)
in_fits s k spelling (integer x) = yields_never _ (Wrong s k) _
in_fits s k spelling (float x) = yields_never _ (Wrong s k) _
in_fits s k spelling (boolean x) = yields_never _ (Wrong s k) _
in_fits s k spelling (datetime x) = yields_never _ (Wrong s k) _
in_fits s k spelling (array x) = yields_never _ (Wrong s k) _
in_fits s k spelling (table x) = yields_never _ (Wrong s k) _

value_fits : (s : Section) (k : Key) (spelling : Spelling) (d : Data) → Yields (Fits spelling) (text_of_value s k spelling d)
unfolding text_of_value
value_fits s k spelling d = in_fits s k spelling d

due_fits : (s : Section) (k : Key) (spelling : Spelling) (o : Option Data) → Yields (Fits spelling) (text_due s k spelling o)
due_fits s k spelling None = yields_never _ (Missing s k) _
due_fits s k spelling (Some d) = value_fits s k spelling d

pub text_fits : (s : Section) (k : Key) (spelling : Spelling) (t : Members) → Yields (Fits spelling) (text_at s k spelling t)
unfolding text_at
text_fits s k spelling t = due_fits s k spelling (at_key k t)

free_fits : (s : Section) (k : Key) (spelling : Spelling) (o : Option Data) → Yields (λ x. IfSome x (Fits spelling)) (text_free s k spelling o)
free_fits s k spelling None = yields_value _ None tt
free_fits s k spelling (Some d) = yields_then (Fits spelling) _ (text_of_value s k spelling d) _ (value_fits s k spelling d) (λ text h. yields_value _ (Some text) h)

pub maybe_text_fits : (s : Section) (k : Key) (spelling : Spelling) (t : Members) → Yields (λ x. IfSome x (Fits spelling)) (maybe_text_at s k spelling t)
unfolding maybe_text_at
maybe_text_fits s k spelling t = free_fits s k spelling (at_key k t)

all_of : (spelling : Spelling) (texts : List Name) → IsTrue (all_fit spelling texts) → All (Fits spelling) texts
unfolding all_fit
all_of spelling texts h = AllPass-from_list_all (λ text. fits spelling text) texts h

texts_due_fit : (s : Section) (k : Key) (spelling : Spelling) (most : ℕ) (o : Option Data) → Yields (All (Fits spelling)) (texts_due s k spelling most o)
texts_due_fit s k spelling most None = yields_never _ (Missing s k) _
texts_due_fit s k spelling most (Some d) =
    yields_past _ (texts_in s k d) _
    (λ texts. yields_then (λ _. IsTrue (all_fit spelling texts)) _ (test (all_fit spelling texts) (Range s k)) _ (yields_test (all_fit spelling texts) (Range s k))
    (λ _ h. yields_tested _ (nat_le (length texts) most) (Range s k) texts (λ _. all_of spelling texts h)))

pub texts_fit : (s : Section) (k : Key) (spelling : Spelling) (most : ℕ) (t : Members) → Yields (All (Fits spelling)) (texts_at s k spelling most t)
unfolding texts_at
texts_fit s k spelling most t = texts_due_fit s k spelling most (at_key k t)

free_texts_fit : (s : Section) (k : Key) (spelling : Spelling) (most : ℕ) (o : Option Data) → Yields (All (Fits spelling)) (texts_free s k spelling most o)
free_texts_fit s k spelling most None = yields_value _ [] (All-nil (Fits spelling))
free_texts_fit s k spelling most (Some d) = texts_due_fit s k spelling most (Some d)

pub maybe_texts_fit : (s : Section) (k : Key) (spelling : Spelling) (most : ℕ) (t : Members) → Yields (All (Fits spelling)) (maybe_texts_at s k spelling most t)
unfolding maybe_texts_at
maybe_texts_fit s k spelling most t = free_texts_fit s k spelling most (at_key k t)

-- what holds of some names and of those of a list holds of both together
module _ (P : Name → Type 0) where
  one_if : (b : Bool) (seen : List Name) (name : Name) → All P seen → P name → All P (cond b seen (seen ++ name ∷ []))
  one_if true seen name all one = all
  one_if false seen name all one = All-push P seen name all one

  one_new : (seen : List Name) (name : Name) → All P seen → P name → All P (with_one seen name)
  unfolding with_one
  one_new seen name all one = one_if (is_some (place_of same_name name seen)) seen name all one

  pub all_new : (seen names : List Name) → All P seen → All P names → All P (with_new seen names)
  unfolding with_new
  all_new seen [] all more = all
  all_new seen (name ∷ names) all more = all_new (with_one seen name) names (one_new seen name all (All-head P name names more)) (All-tail P name names more)
