-- A generated app, and what is due to it.
use Rattle.std.specs.Prelude.{ℕ, ◌+◌, List, [], ◌∷◌, ◌++◌, length, Option, Some, None, codes}
use Rattle.std.specs.Fmt.{decimal}
use Rattle.dex_maker.specs.Made.{dex_bytes}
use Rattle.made_apps.specs.Forms.{manifest_text}
use Rattle.made_apps.specs.Lists.{lists_text}
use Rattle.made_apps.specs.Made.{made}
use Rattle.verdict.specs.declared.outcome.Outcome.{Outcome}
use Rattle.verdict.specs.declared.outcome.Outcome.TheVariants.{Clear, Flagged, Undecided, Refused}
use Rattle.verdict.specs.declared.parts.Parts.{Parts}
use Rattle.verdict.specs.Outcome.{findings_in}

-- the parts of the app that is drawn from a seed, with so many drawn methods; it is judged by the sample lists
unfoldable pub made_parts : ℕ → ℕ → Parts
made_parts seed size = record {
  manifest = manifest_text;
  layouts = [];
  declaration = [];
  lists = lists_text;
  dex = dex_bytes (made seed size) ∷ [];
}

-- the word of an outcome
unfoldable pub outcome_word : Outcome → List ℕ
outcome_word Clear = codes "clear"
outcome_word (Flagged fs) = codes "flagged"
outcome_word (Undecided cs fs) = codes "undecided"
outcome_word (Refused part reason) = codes "refused"

-- how many rows follow, or that they are more than the lists allow
unfoldable pub rows_text : Option ℕ → List ℕ
rows_text (Some n) = decimal n
rows_text None = codes "over 4000000"

-- the four lines: the methods, the rows, the findings and the word
unfoldable pub summary_text : ℕ → Option ℕ → Outcome → List ℕ
summary_text size rows outcome =
    codes "methods " ++ decimal (size + 1) ++ codes "\nrows " ++ rows_text rows
    ++ codes "\nfindings " ++ decimal (length (findings_in outcome)) ++ codes "\n" ++ outcome_word outcome ++ codes "\n"
