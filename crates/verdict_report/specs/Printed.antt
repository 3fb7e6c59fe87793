-- What is printed: methods, places, and the lines of a report.
use Rattle.std.specs.Prelude.{ℕ, ◌+◌, List, ◌++◌, codes}
use Rattle.std.specs.Fmt.{decimal}
use Rattle.app_machine.specs.declared.call.MethodRef.{MethodRef}
use Rattle.app_machine.specs.Names.{Name, descriptor_of}
use Rattle.printed_text.specs.Printed.{escaped}
use Rattle.outcomes.specs.declared.outcome.Finding.{Finding}
use Rattle.outcomes.specs.declared.outcome.MethodName.{MethodName}
use Rattle.outcomes.specs.declared.outcome.Place.{Place}

-- a method: class, name and descriptor
unfoldable pub method_text : MethodRef → List ℕ
method_text m = escaped m.class ++ codes "->" ++ escaped m.name ++ escaped (descriptor_of m.proto)

-- an instruction: its method, and its address there
unfoldable pub place_text : Place → List ℕ
place_text p = method_text p.at ++ codes " @" ++ decimal p.pc

unfoldable pub finding_line : Finding → List ℕ
finding_line f = escaped f.source ++ codes " -> " ++ escaped f.sink ++ codes " at " ++ place_text f.at ++ codes "\n"

-- the line of a cause that stands at an instruction, and of one that names a class
unfoldable pub place_line : List ℕ → Place → List ℕ
place_line word place = word ++ place_text place ++ codes "\n"

unfoldable pub class_line : List ℕ → Name → List ℕ
class_line word name = word ++ escaped name ++ codes "\n"

-- the line of a cause that names a method
unfoldable pub method_line : List ℕ → MethodName → List ℕ
method_line word m = word ++ escaped m.class ++ codes "->" ++ escaped m.name ++ escaped m.descriptor ++ codes "\n"

-- a word of the report with a number
unfoldable pub counted_line : List ℕ → ℕ → List ℕ
counted_line word n = word ++ decimal n ++ codes "\n"
