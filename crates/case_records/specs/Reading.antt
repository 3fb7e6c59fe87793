-- How a change is read: the tests of its bytes in their order, and what stands there.
use Rattle.std.specs.Prelude.{ℕ, ◌+◌, ◌*◌, ◌==◌, false, List, [], ◌∷◌, length, take, drop, nat_le, if◌then◌else◌}
use Rattle.vet_base.specs.Script.{Script, Value, Test, ◌>>=◌, test, repeat}
use Rattle.gated_log.specs.Format.{u8_of}
use Rattle.case_rules.specs.declared.case.Appeal.{Appeal}
use Rattle.case_rules.specs.declared.case.Content.{Content}
use Rattle.case_rules.specs.declared.case.Decision.{Decision}
use Rattle.case_rules.specs.declared.case.OutcomeWord.{OutcomeWord}
use Rattle.case_rules.specs.declared.case.OutcomeWord.TheVariants.{Clear, Flagged, Undecided, Refused}
use Rattle.case_rules.specs.declared.case.Ruling.{Ruling}
use Rattle.case_rules.specs.declared.case.RulingWord.{RulingWord}
use Rattle.case_rules.specs.declared.case.RulingWord.TheVariants.{Uphold, Overturn}
use Rattle.case_rules.specs.declared.reply.Change.{Change}
use Rattle.case_rules.specs.declared.reply.Change.TheVariants as changes
use Rattle.case_rules.specs.Cases.{new_case}
use Rattle.case_records.specs.declared.fault.NoPayload.{NoPayload}
use Rattle.case_records.specs.declared.fault.NoPayload.TheVariants.{Cut, Bad, Rest}

abbrev pub Reading : Type 0 → Type 0
Reading A = Script NoPayload A

-- something, and the bytes behind it
abbrev pub From : Type 0 → Type 0
From A = Reading (A × List ℕ)

abbrev pub byte_from : List ℕ → From ℕ
byte_from [] = Test false Cut (Value (0, []))
byte_from (b ∷ rest) = Value (b, rest)

abbrev pub u4_from : List ℕ → From ℕ
u4_from (a ∷ b ∷ c ∷ d ∷ rest) = Value (a + 256 * b + 65536 * c + 16777216 * d, rest)
u4_from _ = Test false Cut (Value (0, []))

abbrev pub u8_from : List ℕ → From ℕ
u8_from (a ∷ b ∷ c ∷ d ∷ e ∷ f ∷ g ∷ h ∷ rest) = Value (u8_of a b c d e f g h, rest)
u8_from _ = Test false Cut (Value (0, []))

-- so many bytes
unfoldable pub bytes_from : ℕ → List ℕ → From (List ℕ)
bytes_from n bytes = do
  _ ← test (nat_le n (length bytes)) Cut
  Value (take n bytes, drop n bytes)

unfoldable pub text_from : List ℕ → From (List ℕ)
text_from bytes = do
  n ← u8_from bytes
  bytes_from n.0 n.1

-- nothing more is there
unfoldable pub end_from : List ℕ → Reading (Unit {0})
end_from bytes = test (length bytes == 0) Rest

unfoldable pub texts_of : List ℕ → Reading (List (List ℕ))
texts_of bytes = do
  n ← u8_from bytes
  texts ← repeat n.0 text_from n.1
  _ ← end_from texts.1
  Value texts.0

unfoldable pub content_of : List ℕ → Reading Content
content_of bytes = do
  manifest ← text_from bytes
  layouts ← text_from manifest.1
  declaration ← text_from layouts.1
  dex ← texts_of declaration.1
  Value (record { manifest = manifest.0; layouts = layouts.0; declaration = declaration.0; dex = dex })

unfoldable pub outcome_of : ℕ → Reading OutcomeWord
outcome_of byte =
    if byte == 0 then Value Clear else
    if byte == 1 then Value Flagged else
    if byte == 2 then Value Undecided else
    if byte == 3 then Value Refused else Test false Bad (Value Clear)

unfoldable pub decision_of : List ℕ → Reading Decision
decision_of bytes = do
  byte ← byte_from bytes
  outcome ← outcome_of byte.0
  report ← text_from byte.1
  lists ← bytes_from 32 report.1
  reviewer ← text_from lists.1
  day ← u4_from reviewer.1
  _ ← end_from day.1
  Value (record { outcome = outcome; report = report.0; lists = lists.0; reviewer = reviewer.0; day = day.0 })

unfoldable pub appeal_of : List ℕ → Reading Appeal
appeal_of bytes = do
  day ← u4_from bytes
  text ← text_from day.1
  _ ← end_from text.1
  Value (record { day = day.0; text = text.0 })

unfoldable pub word_of : ℕ → Reading RulingWord
word_of byte =
    if byte == 0 then Value Uphold else
    if byte == 1 then Value Overturn else Test false Bad (Value Uphold)

unfoldable pub ruling_of : List ℕ → Reading Ruling
ruling_of bytes = do
  reviewer ← text_from bytes
  day ← u4_from reviewer.1
  byte ← byte_from day.1
  word ← word_of byte.0
  _ ← end_from byte.1
  Value (record { reviewer = reviewer.0; day = day.0; word = word })

-- something, made into something else
abbrev pub with : {A B : Type 0} → (A → B) → Reading A → Reading B
with make script = do
  x ← script
  Value (make x)

abbrev pub no_change : Reading Change
no_change = Test false Bad (Value (changes.Rule [] [] (record { reviewer = []; day = 0; word = Uphold })))

-- the change of a kind to the case of this name
unfoldable pub named_change : ℕ → List ℕ → List ℕ → List ℕ → Reading Change
named_change kind party reference bytes =
    if kind == 0 then with (λ content. changes.Add (new_case party reference content)) (content_of bytes) else
    if kind == 1 then with (changes.Decide party reference) (decision_of bytes) else
    if kind == 2 then with (changes.Appeal party reference) (appeal_of bytes) else
    if kind == 3 then with (changes.Rule party reference) (ruling_of bytes) else no_change

unfoldable pub change_of : List ℕ → Reading Change
change_of bytes = do
  kind ← byte_from bytes
  party ← text_from kind.1
  reference ← text_from party.1
  named_change kind.0 party.0 reference.0 reference.1
