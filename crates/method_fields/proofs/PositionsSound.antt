-- Positions are those of the method, and numbers of categories and shared objects are those of the lists.
use Rattle.std.proofs.Common.{◌≡◌, ℕ, ◌<◌, Bool, true, List, length, Option, Some, None, unwrap_or, refl, sym, subst, arith, IfSome, is_some}
use Rattle.std.specs.Prelude.{◌&&◌, ◌==◌, nat_lt, IsTrue, pos, negsuc, slice_get, slice_index}
use Rattle.std.specs.List.{All}
use Rattle.std.proofs.lemmas.Bool.{ltb-true, eqb-true, and_parts}
use Rattle.std.proofs.lemmas.List.Elements.{All-get_or}
use Rattle.toml.specs.Data.{Data, string, integer, float, boolean, datetime, array, table, Members}
use Rattle.vet_base.specs.Script.{Value, ◌>>=◌, test}
use Rattle.app_machine.specs.Names.{Name, same_name}
use Rattle.form_fields.specs.declared.fault.Fault.TheVariants.{Wrong, Range}
use Rattle.form_fields.specs.declared.words.Section.{Section}
use Rattle.form_fields.specs.declared.words.Section.TheVariants as section
use Rattle.form_fields.specs.declared.words.Key.{Key}
use Rattle.form_fields.specs.declared.words.Key.TheVariants as key
use Rattle.form_fields.specs.declared.shape.Shape.TheVariants as shape
use Rattle.method_fields.specs.declared.gives.GivesWord.{GivesWord}
use Rattle.method_fields.specs.declared.gives.GivesWord.TheVariants.{Blank, Same, Taken, Joined, Shared, Handed}
use Rattle.form_fields.specs.Tree.{items_in}
use Rattle.form_fields.specs.Places.{place_of}
use Rattle.form_fields.specs.Fields.{at_key, word_at}
use Rattle.method_fields.specs.Positions.{has_key, position_in, position_of, position_due, position_at, items_at, position_row, position_rows, positions_at, are_two, pair_in, pair_row, pair_rows, pairs_at, number_named, name_in, name_at, named_in, named_row, named_rows, named_at, number_free, listed_free, listed_at}
use Rattle.method_fields.specs.Gives.{result_at, from_fits, shared_fits, shared_at, gives_of, gives_at}
use Rattle.app_machine.specs.SoundLists.{SoundGives, TwoPositions, NamedPosition}
use Rattle.form_fields.proofs.Placing.{place_is_within}
use Rattle.form_fields.proofs.Yields.{Yields, yields_value, yields_test, yields_tested, yields_never, yields_then, yields_past, yields_walk_all}

in_within : (s : Section) (k : Key) (count : ℕ) (d : Data) → Yields (λ n. n < count) (position_in s k count d)
in_within s k count (integer (pos n)) =
    yields_tested _ (nat_lt n 4294967296 && nat_lt n count) (Range s k) n
    (λ h. ltb-true n count (and_parts (nat_lt n 4294967296) (nat_lt n count) h).1)
in_within s k count (integer (negsuc n)) = yields_never _ (Range s k) _
in_within s k count (string x) = yields_never _ (Range s k) _
in_within s k count (float x) = yields_never _ (Range s k) _
in_within s k count (boolean x) = yields_never _ (Range s k) _
in_within s k count (datetime x) = yields_never _ (Range s k) _
in_within s k count (array x) = yields_never _ (Range s k) _
in_within s k count (table x) = yields_never _ (Range s k) _

position_within : (s : Section) (k : Key) (count : ℕ) (d : Data) → Yields (λ n. n < count) (position_of s k count d)
unfolding position_of
position_within s k count d = in_within s k count d

due_within : (s : Section) (k : Key) (count : ℕ) (o : Option Data) → Yields (λ n. n < count) (position_due s k count o)
due_within s k count None = yields_never _ (Range s k) _
due_within s k count (Some d) = position_within s k count d

at_within : (s : Section) (k : Key) (count : ℕ) (items : List Data) (i : ℕ) → Yields (λ n. n < count) (position_at s k count items i)
unfolding position_at
at_within s k count items i = due_within s k count (slice_get items i)

-- positions are below the number of arguments
row_within : (s : Section) (k : Key) (count : ℕ) (d : Data) (u : Unit {0}) → Yields (λ r. r.0 < count) (position_row s k count d u)
unfolding position_row
row_within s k count d u =
    yields_then (λ n. n < count) _ (position_of s k count d) _ (position_within s k count d) (λ n lt. yields_value _ (n, tt) lt)

rows_within : (s : Section) (k : Key) (count : ℕ) (ds : List Data) → Yields (λ r. All (λ n. n < count) r.0) (position_rows s k count ds)
unfolding position_rows
rows_within s k count ds = yields_walk_all (λ n. n < count) (position_row s k count) (row_within s k count) ds tt

pub positions_within : (s : Section) (k : Key) (count : ℕ) (t : Members) → Yields (All (λ n. n < count)) (positions_at s k count t)
unfolding positions_at
positions_within s k count t =
    yields_past _ (items_at s k shape.Number t) _
    (λ items. yields_then (λ r. All (λ n. n < count) r.0) _ (position_rows s k count items) _ (rows_within s k count items)
    (λ positions all. yields_value _ positions.0 all))

-- both positions of a pair are
pair_in_within : (s : Section) (k : Key) (count : ℕ) (o : Option (List Data)) → Yields (λ r. TwoPositions count r.0) (pair_in s k count o)
pair_in_within s k count None = yields_never _ (Range s k) _
pair_in_within s k count (Some items) =
    yields_past _ (test (are_two items) (Range s k)) _
    (λ _. yields_then (λ n. n < count) _ (position_at s k count items 0) _ (at_within s k count items 0)
    (λ i first. yields_then (λ n. n < count) _ (position_at s k count items 1) _ (at_within s k count items 1)
    (λ j second. yields_value _ ((i, j), tt) (first, second))))

pair_within : (s : Section) (k : Key) (count : ℕ) (d : Data) (u : Unit {0}) → Yields (λ r. TwoPositions count r.0) (pair_row s k count d u)
unfolding pair_row
pair_within s k count d u = pair_in_within s k count (items_in d)

pair_rows_within : (s : Section) (k : Key) (count : ℕ) (ds : List Data) → Yields (λ r. All (TwoPositions count) r.0) (pair_rows s k count ds)
unfolding pair_rows
pair_rows_within s k count ds = yields_walk_all (TwoPositions count) (pair_row s k count) (pair_within s k count) ds tt

pub pairs_within : (s : Section) (k : Key) (count : ℕ) (t : Members) → Yields (All (TwoPositions count)) (pairs_at s k count t)
unfolding pairs_at
pairs_within s k count t =
    yields_past _ (items_at s k shape.NumberPair t) _
    (λ items. yields_then (λ r. All (TwoPositions count) r.0) _ (pair_rows s k count items) _ (pair_rows_within s k count items)
    (λ pairs all. yields_value _ pairs.0 all))

-- a name of a list stands by its number in it
numbered : (s : Section) (k : Key) (size : ℕ) (o : Option ℕ) → IfSome o (λ n. n < size) → Yields (λ n. n < size) (number_named s k o)
numbered s k size None h = yields_never _ (Range s k) _
numbered s k size (Some n) h = yields_value _ n h

name_in_within : (s : Section) (k : Key) (names : List Name) (o : Option Data) → Yields (λ n. n < length names) (name_in s k names o)
name_in_within s k names None = yields_never _ (Range s k) _
name_in_within s k names (Some (string text)) = numbered s k (length names) (place_of same_name text names) (place_is_within same_name text names)
name_in_within s k names (Some (integer x)) = yields_never _ (Range s k) _
name_in_within s k names (Some (float x)) = yields_never _ (Range s k) _
name_in_within s k names (Some (boolean x)) = yields_never _ (Range s k) _
name_in_within s k names (Some (datetime x)) = yields_never _ (Range s k) _
name_in_within s k names (Some (array x)) = yields_never _ (Range s k) _
name_in_within s k names (Some (table x)) = yields_never _ (Range s k) _

name_within : (s : Section) (k : Key) (names : List Name) (items : List Data) (i : ℕ) → Yields (λ n. n < length names) (name_at s k names items i)
unfolding name_at
name_within s k names items i = name_in_within s k names (slice_get items i)

named_in_within : (s : Section) (k : Key) (count : ℕ) (names : List Name) (o : Option (List Data)) → Yields (λ r. NamedPosition count (length names) r.0) (named_in s k count names o)
named_in_within s k count names None = yields_never _ (Range s k) _
named_in_within s k count names (Some items) =
    yields_past _ (test (are_two items) (Range s k)) _
    (λ _. yields_then (λ n. n < count) _ (position_at s k count items 0) _ (at_within s k count items 0)
    (λ i first. yields_then (λ n. n < length names) _ (name_at s k names items 1) _ (name_within s k names items 1)
    (λ n second. yields_value _ ((i, n), tt) (first, second))))

named_within : (s : Section) (k : Key) (count : ℕ) (names : List Name) (d : Data) (u : Unit {0}) → Yields (λ r. NamedPosition count (length names) r.0) (named_row s k count names d u)
unfolding named_row
named_within s k count names d u = named_in_within s k count names (items_in d)

named_rows_within : (s : Section) (k : Key) (count : ℕ) (names : List Name) (ds : List Data) → Yields (λ r. All (NamedPosition count (length names)) r.0) (named_rows s k count names ds)
unfolding named_rows
named_rows_within s k count names ds = yields_walk_all (NamedPosition count (length names)) (named_row s k count names) (named_within s k count names) ds tt

pub named_are_within : (s : Section) (k : Key) (count : ℕ) (names : List Name) (t : Members) → Yields (All (NamedPosition count (length names))) (named_at s k count names t)
unfolding named_at
named_are_within s k count names t =
    yields_past _ (items_at s k shape.NamedPair t) _
    (λ items. yields_then (λ r. All (NamedPosition count (length names)) r.0) _ (named_rows s k count names items) _ (named_rows_within s k count names items)
    (λ pairs all. yields_value _ pairs.0 all))

-- a name that is there has its number
abbrev There : ℕ → Option ℕ → Type 0
There size o = (n : ℕ) × ((o ≡ Some n) × (n < size))

free_there : (s : Section) (k : Key) (size : ℕ) (o : Option ℕ) → IfSome o (λ n. n < size) → Yields (There size) (number_free s k o)
free_there s k size None h = yields_never _ (Range s k) _
free_there s k size (Some n) h = yields_value _ (Some n) (n, (refl, h))

some_there : (s : Section) (k : Key) (names : List Name) (d : Data) → Yields (There (length names)) (listed_free s k names (Some d))
some_there s k names (string text) = free_there s k (length names) (place_of same_name text names) (place_is_within same_name text names)
some_there s k names (integer x) = yields_never _ (Wrong s k) _
some_there s k names (float x) = yields_never _ (Wrong s k) _
some_there s k names (boolean x) = yields_never _ (Wrong s k) _
some_there s k names (datetime x) = yields_never _ (Wrong s k) _
some_there s k names (array x) = yields_never _ (Wrong s k) _
some_there s k names (table x) = yields_never _ (Wrong s k) _

there_within : (size : ℕ) (o : Option ℕ) → There size o → IfSome o (λ n. n < size)
there_within size o h = subst (λ (p : Option ℕ). IfSome p (λ n. n < size)) (sym h.1.0) h.1.1

listed_free_within : (s : Section) (k : Key) (names : List Name) (o : Option Data) → Yields (λ p. IfSome p (λ n. n < length names)) (listed_free s k names o)
listed_free_within s k names None = yields_value _ None tt
listed_free_within s k names (Some d) = record { at = λ p e. there_within (length names) p ((some_there s k names d).at p e) }

pub listed_within : (s : Section) (k : Key) (names : List Name) (t : Members) → Yields (λ p. IfSome p (λ n. n < length names)) (listed_at s k names t)
unfolding listed_at
listed_within s k names t = listed_free_within s k names (at_key k t)

-- the number of the shared object, where the result is shared
abbrev IfShared : GivesWord → Type 0 → Type 0
IfShared Blank p = Unit {0}
IfShared Same p = Unit {0}
IfShared Taken p = Unit {0}
IfShared Joined p = Unit {0}
IfShared Handed p = Unit {0}
IfShared Shared p = p

shared_in : (word : GivesWord) (names : List Name) (o : Option Data)
    → Yields (λ n. IfShared word (n < length names)) (test (shared_fits word (is_some o)) (Range section.Method key.Shared) >>= (λ _. listed_free section.Method key.Shared names o >>= (λ number. Value (unwrap_or number 0))))
unfolding shared_fits
shared_in Blank names o = record { at = λ n e. tt }
shared_in Same names o = record { at = λ n e. tt }
shared_in Taken names o = record { at = λ n e. tt }
shared_in Joined names o = record { at = λ n e. tt }
shared_in Handed names o = record { at = λ n e. tt }
shared_in Shared names None = yields_never _ (Range section.Method key.Shared) _
shared_in Shared names (Some d) =
    yields_past _ (test true (Range section.Method key.Shared)) _
    (λ _. yields_then (There (length names)) _ (listed_free section.Method key.Shared names (Some d)) _ (some_there section.Method key.Shared names d)
    (λ number there. yields_value _ (unwrap_or number 0) (subst (λ (q : Option ℕ). unwrap_or q 0 < length names) (sym there.1.0) there.1.1)))

shared_within : (word : GivesWord) (names : List Name) (t : Members) → Yields (λ n. IfShared word (n < length names)) (shared_at word names t)
unfolding shared_at has_key listed_at
shared_within word names t =
    yields_past _ (word_at section.Method key.Shared t) _
    (λ _. shared_in word names (at_key key.Shared t))

first_within : (count : ℕ) (from : List ℕ) → All (λ n. n < count) from → (length from == 1) ≡ true → slice_index from 0 < count
first_within count from all one = All-get_or (λ n. n < count) from 0 0 (omega (arith, eqb-true (length from) 1 one)) all

of_within : (word : GivesWord) (there : Bool) (from : List ℕ) (number count size : ℕ) → All (λ n. n < count) from → IsTrue (from_fits word there from) → IfShared word (number < size) → SoundGives count size (gives_of word from number)
unfolding from_fits gives_of
of_within Blank there from number count size all fits shared = tt
of_within Same there from number count size all fits shared = first_within count from all fits
of_within Taken there from number count size all fits shared = first_within count from all fits
of_within Joined there from number count size all fits shared = all
of_within Handed there from number count size all fits shared = tt
of_within Shared there from number count size all fits shared = shared

pub gives_within : (names : List Name) (count : ℕ) (reference : Bool) (t : Members) → Yields (SoundGives count (length names)) (gives_at names count reference t)
unfolding gives_at
gives_within names count reference t =
    yields_past _ (result_at reference t) _
    (λ word. yields_then (All (λ n. n < count)) _ (positions_at section.Method key.From count t) _ (positions_within section.Method key.From count t)
    (λ from all. yields_then (λ _. IsTrue (from_fits word (has_key key.From t) from)) _ (test (from_fits word (has_key key.From t) from) (Range section.Method key.From)) _
    (yields_test (from_fits word (has_key key.From t) from) (Range section.Method key.From))
    (λ _ fits. yields_then (λ n. IfShared word (n < length names)) _ (shared_at word names t) _ (shared_within word names t)
    (λ number shared. yields_value _ (gives_of word from number) (of_within word (has_key key.From t) from number count (length names) all fits shared)))))
