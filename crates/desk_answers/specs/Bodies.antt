-- The bodies in JSON: compact, with keys in byte order.
use Rattle.std.specs.Prelude.{ℕ, List, ◌++◌, codes, decimal, length, Option}
use Rattle.std.specs.Option.{option_map, option_and_then}
use Rattle.std.specs.List.{join_by}
use Rattle.json.specs.Print.{quoted}
use Rattle.case_rules.specs.declared.case.Case.{Case}
use Rattle.case_rules.specs.declared.case.Entry.{Entry}
use Rattle.case_rules.specs.declared.case.Line.{Line}
use Rattle.case_rules.specs.declared.case.OutcomeWord.{OutcomeWord}
use Rattle.case_rules.specs.declared.case.RulingWord.{RulingWord}
use Rattle.case_rules.specs.declared.case.State.{State}
use Rattle.store_office.specs.declared.party.Role.{Role}
use Rattle.store_office.specs.declared.party.Role.TheVariants.{Developer, Reviewer}
use Rattle.case_rules.specs.Cases.{last, state_of}
use Rattle.desk_answers.specs.Json.{text_json, number_or_null, word_or_null}
use Rattle.desk_answers.specs.Words.{state_word, outcome_word, ruling_word}

-- why nothing was done
unfoldable pub error_body : List ℕ → List ℕ
error_body text = codes "{\"error\":" ++ text_json text ++ codes "}"

-- a case of the party's own, and how far it is
unfoldable pub state_body : List ℕ → State → List ℕ
state_body reference state =
    codes "{\"reference\":" ++ text_json reference ++ codes ",\"state\":" ++ quoted (state_word state) ++ codes "}"

-- what was decided on a developer's case
unfoldable pub decided_body : List ℕ → List ℕ → OutcomeWord → List ℕ
decided_body developer reference outcome =
    codes "{\"developer\":" ++ text_json developer
    ++ codes ",\"outcome\":" ++ quoted (outcome_word outcome)
    ++ codes ",\"reference\":" ++ text_json reference ++ codes "}"

-- the ruling on a developer's case
unfoldable pub ruled_body : List ℕ → List ℕ → RulingWord → List ℕ
ruled_body developer reference ruling =
    codes "{\"developer\":" ++ text_json developer
    ++ codes ",\"reference\":" ++ text_json reference
    ++ codes ",\"ruling\":" ++ quoted (ruling_word ruling) ++ codes "}"

-- a case with the days of its appeal and its decision, its outcome and its ruling, each null where it has none, and
-- under how many editions of the lists it was decided
unfoldable pub shown_json : Option ℕ → Option ℕ → ℕ → Option (List ℕ) → List ℕ → Option (List ℕ) → List ℕ → List ℕ
shown_json appeal decided editions outcome reference ruling state =
    codes "{\"appeal\":" ++ number_or_null appeal
    ++ codes ",\"decided\":" ++ number_or_null decided
    ++ codes ",\"editions\":" ++ decimal editions
    ++ codes ",\"outcome\":" ++ word_or_null outcome
    ++ codes ",\"reference\":" ++ text_json reference
    ++ codes ",\"ruling\":" ++ word_or_null ruling
    ++ codes ",\"state\":" ++ quoted state ++ codes "}"

-- the day of the appeal against an entry
abbrev pub appeal_day : Option Entry → Option ℕ
appeal_day entry = option_map (λ appeal. appeal.day) (option_and_then (λ e. e.appeal) entry)

-- the day of an entry's decision
abbrev pub decided_day : Option Entry → Option ℕ
decided_day entry = option_map (λ e. e.decision.day) entry

abbrev pub outcome_in : Option Entry → Option (List ℕ)
outcome_in entry = option_map (λ e. outcome_word e.decision.outcome) entry

abbrev pub ruling_in : Option Entry → Option (List ℕ)
ruling_in entry = option_map (λ ruling. ruling_word ruling.word) (option_and_then (λ e. e.ruling) entry)

-- a case by its last entry
abbrev pub shown_body : Case → List ℕ
shown_body case =
    let entry = last case.entries in
    shown_json (appeal_day entry) (decided_day entry) (length case.entries) (outcome_in entry) case.reference
    (ruling_in entry) (state_word (state_of case))

-- a case with its developer, and how far it is
unfoldable pub named_json : Line → List ℕ
named_json line =
    codes "{\"developer\":" ++ text_json line.party
    ++ codes ",\"reference\":" ++ text_json line.reference
    ++ codes ",\"state\":" ++ quoted (state_word line.state) ++ codes "}"

-- a line of a developer's own list, and of a reviewer's, which names the developer
abbrev pub line_json : Role → Line → List ℕ
line_json Developer line = state_body line.reference line.state
line_json Reviewer line = named_json line

-- the lines in their order, with commas between them
unfoldable pub lines_body : Role → List Line → List ℕ
lines_body role lines = codes "{\"cases\":[" ++ join_by (line_json role) (codes ",") lines ++ codes "]}"
