-- What holds of the value at a key: limits of numbers, and how many texts or tables there are.
use Rattle.std.proofs.Common.{ℕ, ◌≤◌, List, [], length, Option, Some, None, arith}
use Rattle.std.specs.Prelude.{◌&&◌, nat_le, pos, negsuc}
use Rattle.std.proofs.lemmas.Bool.{leb-true, and_parts}
use Rattle.toml.specs.Data.{Data, string, integer, float, boolean, datetime, array, table, Members}
use Rattle.vet_base.specs.Script.{test}
use Rattle.form_fields.specs.declared.fault.Fault.TheVariants.{Missing, Wrong, Range}
use Rattle.form_fields.specs.declared.words.Section.{Section}
use Rattle.form_fields.specs.declared.words.Key.{Key}
use Rattle.form_fields.specs.declared.spelling.Spelling.{Spelling}
use Rattle.form_fields.specs.declared.shape.Shape.TheVariants as shape
use Rattle.form_fields.specs.Shape.{all_have}
use Rattle.form_fields.specs.Tree.{items_in}
use Rattle.form_fields.specs.Fields.{at_key, number_due, number_at, texts_in, all_fit, texts_due, texts_at, texts_free, maybe_texts_at, tables_among, tables_in, tables_at}
use Rattle.form_fields.proofs.Yields.{Yields, yields_value, yields_tested, yields_never, yields_past}

due_within : (s : Section) (k : Key) (low high : ℕ) (o : Option Data) → Yields (λ n. (low ≤ n) × (n ≤ high)) (number_due s k low high o)
due_within s k low high None = yields_never _ (Missing s k) _
due_within s k low high (Some (integer (pos n))) =
    yields_tested _ (nat_le low n && nat_le n high) (Range s k) n
    (λ h. let both = and_parts (nat_le low n) (nat_le n high) h in (leb-true low n both.0, leb-true n high both.1))
due_within s k low high (Some (integer (negsuc n))) = yields_never _ (Range s k) _
due_within s k low high (Some (string x)) = yields_never _ (Wrong s k) _
due_within s k low high (Some (float x)) = yields_never _ (Wrong s k) _
due_within s k low high (Some (boolean x)) = yields_never _ (Wrong s k) _
due_within s k low high (Some (datetime x)) = yields_never _ (Wrong s k) _
due_within s k low high (Some (array x)) = yields_never _ (Wrong s k) _
due_within s k low high (Some (table x)) = yields_never _ (Wrong s k) _

-- a number is within its limits
pub number_within : (s : Section) (k : Key) (low high : ℕ) (t : Members) → Yields (λ n. (low ≤ n) × (n ≤ high)) (number_at s k low high t)
unfolding number_at
number_within s k low high t = due_within s k low high (at_key k t)

among_few : (s : Section) (k : Key) (most : ℕ) (o : Option (List Data)) → Yields (λ ds. length ds ≤ most) (tables_among s k most o)
among_few s k most None = yields_never _ (Wrong s k) _
among_few s k most (Some items) =
    yields_past _ (test (all_have shape.Table items) (Wrong s k)) _
    (λ _. yields_tested _ (nat_le (length items) most) (Range s k) items (λ h. leb-true (length items) most h))

in_few : (s : Section) (k : Key) (most : ℕ) (o : Option Data) → Yields (λ ds. length ds ≤ most) (tables_in s k most o)
in_few s k most None = yields_value _ [] (omega arith)
in_few s k most (Some d) = among_few s k most (items_in d)

-- the tables of an array are at most so many
pub tables_few : (s : Section) (k : Key) (most : ℕ) (t : Members) → Yields (λ ds. length ds ≤ most) (tables_at s k most t)
unfolding tables_at
tables_few s k most t = in_few s k most (at_key k t)

texts_due_few : (s : Section) (k : Key) (spelling : Spelling) (most : ℕ) (o : Option Data) → Yields (λ ns. length ns ≤ most) (texts_due s k spelling most o)
texts_due_few s k spelling most None = yields_never _ (Missing s k) _
texts_due_few s k spelling most (Some d) =
    yields_past _ (texts_in s k d) _
    (λ texts. yields_past _ (test (all_fit spelling texts) (Range s k)) _
    (λ _. yields_tested _ (nat_le (length texts) most) (Range s k) texts (λ h. leb-true (length texts) most h)))

-- the texts of a list are at most so many
pub texts_few : (s : Section) (k : Key) (spelling : Spelling) (most : ℕ) (t : Members) → Yields (λ ns. length ns ≤ most) (texts_at s k spelling most t)
unfolding texts_at
texts_few s k spelling most t = texts_due_few s k spelling most (at_key k t)

free_few : (s : Section) (k : Key) (spelling : Spelling) (most : ℕ) (o : Option Data) → Yields (λ ns. length ns ≤ most) (texts_free s k spelling most o)
free_few s k spelling most None = yields_value _ [] (omega arith)
free_few s k spelling most (Some d) = texts_due_few s k spelling most (Some d)

pub maybe_texts_few : (s : Section) (k : Key) (spelling : Spelling) (most : ℕ) (t : Members) → Yields (λ ns. length ns ≤ most) (maybe_texts_at s k spelling most t)
unfolding maybe_texts_at
maybe_texts_few s k spelling most t = free_few s k spelling most (at_key k t)
