-- Which part is refused, and why, in the words of a report.
use Rattle.std.specs.Prelude.{ℕ, ◌+◌, ◌==◌, List, ◌++◌, codes, if◌then◌else◌}
use Rattle.std.specs.Fmt.{decimal}
use Rattle.app_link.specs.declared.linking.LinkFault.{LinkFault}
use Rattle.app_link.specs.declared.linking.LinkFault.TheVariants as links
use Rattle.dex_code.specs.declared.fault.CodeFault.{CodeFault}
use Rattle.dex_code.specs.declared.fault.CodeFault.TheVariants as code
use Rattle.app_machine.specs.Names.{Name}
use Rattle.dex_reader.specs.declared.told.DexFault.{DexFault}
use Rattle.dex_reader.specs.declared.told.DexFault.TheVariants as told
use Rattle.form_fields.specs.declared.told.FormFault.{FormFault}
use Rattle.form_fields.specs.declared.told.FormFault.TheVariants as forms
use Rattle.verdict.specs.declared.outcome.Part.{Part}
use Rattle.verdict.specs.declared.outcome.Part.TheVariants as part
use Rattle.verdict.specs.declared.outcome.Reason.{Reason}
use Rattle.verdict.specs.declared.outcome.Reason.TheVariants as reason
use Rattle.printed_text.specs.Printed.{escaped}
use Rattle.verdict_report.specs.declared.unfit.Unfit.{Unfit}
use Rattle.verdict_report.specs.declared.unfit.Unfit.TheVariants as unfits
use Rattle.verdict_report.specs.Printed.{method_text}

unfoldable pub first_dex_name : List ℕ
first_dex_name = codes "classes.dex"

unfoldable pub numbered_dex_name : ℕ → List ℕ
numbered_dex_name n = codes "classes" ++ decimal n ++ codes ".dex"

-- the first DEX file has no number in its name, the second has 2
unfoldable pub dex_name : ℕ → List ℕ
dex_name i = if i == 0 then first_dex_name else numbered_dex_name (i + 1)

-- the name of the part's file, or `app`
unfoldable pub part_name : Part → List ℕ
part_name part.Manifest = codes "manifest.toml"
part_name part.Layouts = codes "layouts.toml"
part_name part.Declaration = codes "declaration.toml"
part_name part.Lists = codes "lists.toml"
part_name (part.Dex i) = dex_name i
part_name part.App = codes "app"

unfoldable pub form_reason : FormFault → List ℕ
form_reason forms.NotToml = codes "not toml"
form_reason (forms.Missing key) = codes "missing " ++ escaped key
form_reason (forms.Wrong key) = codes "wrong " ++ escaped key
form_reason (forms.Unknown key) = codes "unknown " ++ escaped key
form_reason (forms.Range key) = codes "range " ++ escaped key
form_reason (forms.Twice name) = codes "twice " ++ escaped name
form_reason forms.Memory = codes "memory"

-- why a file that stands beside those of an app is refused
unfoldable pub unfit_text : Unfit → List ℕ
unfit_text unfits.Absent = codes "absent"
unfit_text unfits.TooLong = codes "longer than 16777216"
unfit_text (unfits.Form fault) = form_reason fault

unfoldable pub dex_reason : DexFault → List ℕ
dex_reason told.Magic = codes "magic"
dex_reason (told.Header field) = codes "header " ++ escaped field
dex_reason (told.Outside at) = codes "outside at " ++ decimal at
dex_reason (told.Index table row) = codes "index in " ++ escaped table ++ codes " row " ++ decimal row
dex_reason (told.Text at) = codes "text at " ++ decimal at
dex_reason (told.Leb at) = codes "leb at " ++ decimal at
dex_reason (told.TooMany table) = codes "too many " ++ escaped table
dex_reason told.Memory = codes "memory"

-- a fault of the code of one method
unfoldable pub code_reason : CodeFault → List ℕ
code_reason (code.Opcode pc) = codes "opcode at " ++ decimal pc
code_reason (code.Cut pc) = codes "cut at " ++ decimal pc
code_reason (code.Target pc) = codes "target at " ++ decimal pc
code_reason (code.Register pc) = codes "register at " ++ decimal pc
code_reason (code.Payload pc) = codes "payload at " ++ decimal pc
code_reason (code.Tries number) = codes "tries " ++ decimal number
code_reason (code.FallsOff pc) = codes "falls off at " ++ decimal pc
code_reason (code.Index pc) = codes "index at " ++ decimal pc
code_reason code.Memory = codes "memory"

-- a member by its class and name
unfoldable pub member_name : Name → Name → List ℕ
member_name class member = escaped class ++ codes "->" ++ escaped member

unfoldable pub link_reason : LinkFault → List ℕ
link_reason (links.TwoClasses class) = codes "two classes " ++ escaped class
link_reason (links.TwoMembers class member) = codes "two members " ++ member_name class member
link_reason (links.NoClass class) = codes "no class " ++ escaped class
link_reason (links.Circle class) = codes "circle " ++ escaped class
link_reason (links.Code method fault) = codes "code " ++ method_text method ++ codes ": " ++ code_reason fault
link_reason (links.TooMany what) = codes "too many " ++ escaped what
link_reason links.Memory = codes "memory"

unfoldable pub reason_text : Reason → List ℕ
reason_text reason.Absent = codes "absent"
reason_text (reason.TooLong limit) = codes "longer than " ++ decimal limit
reason_text (reason.Form fault) = form_reason fault
reason_text (reason.Dex fault) = dex_reason fault
reason_text (reason.Link fault) = link_reason fault
