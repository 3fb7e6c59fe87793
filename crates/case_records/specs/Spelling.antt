-- The bytes of a change: a byte for its kind, the developer, the reference, and its further fields. A text stands behind its
-- length in eight bytes; of a number the low byte stands first.
use Rattle.std.specs.Prelude.{ℕ, ◌/◌, ◌%◌, List, [], ◌∷◌, ◌++◌, length}
use Rattle.std.specs.List.{flat_map}
use Rattle.gated_log.specs.Format.{u8_bytes}
use Rattle.case_rules.specs.declared.case.Appeal.{Appeal}
use Rattle.case_rules.specs.declared.case.Content.{Content}
use Rattle.case_rules.specs.declared.case.Decision.{Decision}
use Rattle.case_rules.specs.declared.case.OutcomeWord.{OutcomeWord}
use Rattle.case_rules.specs.declared.case.OutcomeWord.TheVariants.{Clear, Flagged, Undecided, Refused}
use Rattle.case_rules.specs.declared.case.Ruling.{Ruling}
use Rattle.case_rules.specs.declared.case.RulingWord.{RulingWord}
use Rattle.case_rules.specs.declared.case.RulingWord.TheVariants.{Uphold, Overturn}
use Rattle.case_rules.specs.declared.reply.Change.{Change}
use Rattle.case_rules.specs.declared.reply.Change.TheVariants as changes

abbrev pub u4_bytes : ℕ → List ℕ
u4_bytes n = n % 256 ∷ n / 256 % 256 ∷ n / 65536 % 256 ∷ n / 16777216 % 256 ∷ []

unfoldable pub text_bytes : List ℕ → List ℕ
text_bytes text = u8_bytes (length text) ++ text

-- how many texts there are, and each
unfoldable pub texts_bytes : List (List ℕ) → List ℕ
texts_bytes texts = u8_bytes (length texts) ++ flat_map text_bytes texts

unfoldable pub content_bytes : Content → List ℕ
content_bytes content =
    text_bytes content.manifest ++ (text_bytes content.layouts ++ (text_bytes content.declaration ++ texts_bytes content.dex))

abbrev pub outcome_byte : OutcomeWord → ℕ
outcome_byte Clear = 0
outcome_byte Flagged = 1
outcome_byte Undecided = 2
outcome_byte Refused = 3

unfoldable pub decision_bytes : Decision → List ℕ
decision_bytes decision = outcome_byte decision.outcome ∷ (text_bytes decision.report
    ++ (decision.lists ++ (text_bytes decision.reviewer ++ u4_bytes decision.day)))

unfoldable pub appeal_bytes : Appeal → List ℕ
appeal_bytes appeal = u4_bytes appeal.day ++ text_bytes appeal.text

abbrev pub word_byte : RulingWord → ℕ
word_byte Uphold = 0
word_byte Overturn = 1

unfoldable pub ruling_bytes : Ruling → List ℕ
ruling_bytes ruling = text_bytes ruling.reviewer ++ (u4_bytes ruling.day ++ word_byte ruling.word ∷ [])

-- a kind, a developer, a reference and what else there is
abbrev pub named_bytes : ℕ → List ℕ → List ℕ → List ℕ → List ℕ
named_bytes kind party reference fields = kind ∷ (text_bytes party ++ (text_bytes reference ++ fields))

unfoldable pub change_bytes : Change → List ℕ
change_bytes (changes.Add case) = named_bytes 0 case.party case.reference (content_bytes case.content)
change_bytes (changes.Decide party reference decision) = named_bytes 1 party reference (decision_bytes decision)
change_bytes (changes.Appeal party reference appeal) = named_bytes 2 party reference (appeal_bytes appeal)
change_bytes (changes.Rule party reference ruling) = named_bytes 3 party reference (ruling_bytes ruling)
