-- What a caller tells, and what a dial does. A caller tells as a link does: each dial that made a connection is a
-- conversation; `left` has the bytes of the reply for each dial to come, none for one that fails; and `missed` counts the
-- dials that failed.
use Rattle.std.specs.Prelude.{◌≡◌, ℕ, ◌+◌, min, false, List, [], ◌∷◌, drop, Option, Some, None, Result, Ok, Err}
use Rattle.desk_links.specs.Links.{Told, ended_with, opened}
use Rattle.desk_callers.specs.declared.caller.DialFault.{DialFault}

-- what is told once a dial failed: the present conversation is over, and the next reply is used up
abbrev pub not_dialled : Told → Told
not_dialled t = record {
  coming = [];
  written = [];
  begun = false;
  ended = ended_with t;
  left = drop 1 t.left;
  missed = min (t.missed + 1) 18446744073709551615;
}

-- A dial that is made opens the next conversation; one behind the last reply fails.
abbrev pub DialledTold : Told → Option Told → Result (Unit {0}) DialFault → Type 0
DialledTold t new (Ok x) = (reply : List ℕ) × (rest : List (List ℕ)) × (t.left ≡ reply ∷ rest) × (new ≡ Some (opened reply rest t))
DialledTold t new (Err fault) = new ≡ Some (not_dialled t)

abbrev pub Dialled : Option Told → Option Told → Result (Unit {0}) DialFault → Type 0
Dialled None new r = new ≡ None
Dialled (Some t) new r = DialledTold t new r
