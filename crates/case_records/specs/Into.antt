-- A reading that puts what it read into a list and gives what is behind it.
use Rattle.std.specs.Prelude.{◌≡◌, List, Result, Ok, Err}
use Rattle.vet_base.specs.declared.stop.Stop.{Stop}
use Rattle.vet_base.specs.Script.{Script, run, Fails}

-- The list and what was returned, seen by a view of it, are what running gives, unless memory ran out.
abbrev pub GivesInto : {F X Y Z : Type 0} → List Z → (X → Y) → Result X (Stop F) → Script F (List Z × Y) → Type 0
GivesInto items view (Ok x) script = run script ≡ Ok (items, view x)
GivesInto items view (Err e) script = Fails e (run script)
