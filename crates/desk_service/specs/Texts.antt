-- What is printed: one line, which ends with one line feed.
use Rattle.std.specs.Prelude.{ℕ, List, ◌++◌, codes}
use Rattle.std.specs.Fmt.{decimal}
use Rattle.printed_text.specs.Printed.{escaped}
use Rattle.verdict_report.specs.declared.unfit.Unfit.{Unfit}
use Rattle.verdict_report.specs.Reasons.{unfit_text}
use Rattle.desk_service.specs.declared.opening.Paper.{Paper}
use Rattle.desk_service.specs.Opening.{paper_name}

-- which file of the office is refused, and why in the words of the report on an app
unfoldable pub refused_text : Paper → Unfit → List ℕ
refused_text paper unfit = codes "refused " ++ paper_name paper ++ codes ": " ++ unfit_text unfit ++ codes "\n"

-- which file could not be read
unfoldable pub read_fault_text : List ℕ → List ℕ
read_fault_text path = codes "read fault " ++ escaped path ++ codes "\n"

-- how many connections were taken
unfoldable pub served_text : ℕ → List ℕ
served_text count = codes "served " ++ decimal count ++ codes "\n"

unfoldable pub door_fault_text : List ℕ
door_fault_text = codes "door fault\n"
