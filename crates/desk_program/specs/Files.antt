-- The files in which a desk may keep its cases.
use Rattle.std.specs.Prelude.{ℕ, List, ◌++◌, codes, string_bytes}
use Rattle.desk_words.specs.Serve.{Serve, database_name}
use Rattle.desk_program.specs.declared.files.CaseFiles.{CaseFiles}

unfoldable pub journal_name : List ℕ → List ℕ
journal_name office = office ++ codes "/desk.journal"

abbrev pub names_of : CaseFiles → List ℕ × List ℕ
names_of files = (string_bytes files.database, string_bytes files.journal)

-- those of the office that the words ask for
abbrev pub files_of : Serve → List ℕ × List ℕ
files_of asked = (database_name asked.office, journal_name asked.office)
