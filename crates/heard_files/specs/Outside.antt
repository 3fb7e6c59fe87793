-- What a call of files or of a sink adds to what was heard of them and handed to them.
use Rattle.std.specs.Prelude.{ℕ, List, [], ◌∷◌, ◌++◌, Result, Ok, Err, Vec}
use Rattle.std.specs.declared.alloc.Global.{Global}
use Rattle.vet_base.specs.declared.outside.FileFault.{FileFault}
use Rattle.vet_base.specs.declared.outside.PutFault.{PutFault}
use Rattle.vet_base.specs.declared.outside.PutFault.TheVariants.{Failed, Memory}

-- a read, by the name of the file, the most bytes that were asked for, and what it gave: the bytes of the file, or why
-- there are none
abbrev pub Entry : Type 0
Entry = List ℕ × ℕ × Result (List ℕ) FileFault

-- what a read gave, as a list of bytes or a fault
abbrev pub answer_of : Result (Vec ℕ Global) FileFault → Result (List ℕ) FileFault
answer_of (Ok v) = Ok v.items
answer_of (Err fault) = Err fault

-- Each read is heard.
abbrev pub heard_after : List Entry → List ℕ → ℕ → Result (Vec ℕ Global) FileFault → List Entry
heard_after heard name limit answer = heard ++ (name, limit, answer_of answer) ∷ []

-- The bytes were handed over, whether all of them went out or a front, unless memory ran out.
abbrev pub handed_after : List ℕ → List ℕ → Result (Unit {0}) PutFault → List ℕ
handed_after handed bytes (Ok x) = handed ++ bytes
handed_after handed bytes (Err Failed) = handed ++ bytes
handed_after handed bytes (Err Memory) = handed
