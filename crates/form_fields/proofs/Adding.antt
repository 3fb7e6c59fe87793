-- How many names there are after those of a list were added that are not among them.
use Rattle.std.proofs.Common.{◌+◌, ◌≤◌, Bool, true, false, List, [], ◌∷◌, ◌++◌, length, arith, length-append}
use Rattle.std.specs.Prelude.{is_some, if◌then◌else◌}
use Rattle.app_machine.specs.Names.{Name, same_name}
use Rattle.form_fields.specs.Places.{place_of}
use Rattle.form_fields.specs.Once.{with_one, with_new}

record OneMore (seen all : List Name) : Type 0 where
  more : length seen ≤ length all
  few : length all ≤ length seen + 1

one_more : (b : Bool) (seen : List Name) (name : Name) → OneMore seen (if b then seen else seen ++ name ∷ [])
one_more true seen name = record { more = omega arith; few = omega arith }
one_more false seen name = let e = length-append seen (name ∷ []) in record { more = omega arith; few = omega arith }

with_one_more : (seen : List Name) (name : Name) → OneMore seen (with_one seen name)
unfolding with_one
with_one_more seen name = one_more (is_some (place_of same_name name seen)) seen name

-- at most as many more as are added
pub with_new_few : (seen names : List Name) → length (with_new seen names) ≤ length seen + length names
unfolding with_new
with_new_few seen [] = omega arith
with_new_few seen (name ∷ names) =
    let one : length (with_one seen name) ≤ length seen + 1 = (with_one_more seen name).few in
    let others : length (with_new (with_one seen name) names) ≤ length (with_one seen name) + length names = with_new_few (with_one seen name) names in
    omega arith

pub with_new_more : (seen names : List Name) → length seen ≤ length (with_new seen names)
unfolding with_new
with_new_more seen [] = omega arith
with_new_more seen (name ∷ names) =
    let one : length seen ≤ length (with_one seen name) = (with_one_more seen name).more in
    let others : length (with_one seen name) ≤ length (with_new (with_one seen name) names) = with_new_more (with_one seen name) names in
    omega arith
