-- A change is read as it was written.
use Rattle.std.proofs.Common.{◌≡◌, ℕ, ◌+◌, ◌<◌, true, List, [], ◌∷◌, ◌++◌, length, take, drop, Ok, refl, sym, ap, ◌∙◌, append_assoc, length-append, arith}
use Rattle.std.specs.Prelude.{nat_le}
use Rattle.std.specs.List.{flat_map}
use Rattle.std.proofs.lemmas.Bool.{le-leb}
use Rattle.std.proofs.lemmas.List.{append-nil, take_at, drop_at}
use Rattle.vet_base.specs.Script.{Value, run, repeat, ◌>>=◌}
use Rattle.vet_base.proofs.Scripts.{run_bind}
use Rattle.vet_base.proofs.Runs.{run_after}
use Rattle.gated_log.specs.Format.{u8_bytes}
use Rattle.case_rules.specs.declared.case.Appeal.{Appeal}
use Rattle.case_rules.specs.declared.case.Case.{Case}
use Rattle.case_rules.specs.declared.case.Content.{Content}
use Rattle.case_rules.specs.declared.case.Decision.{Decision}
use Rattle.case_rules.specs.declared.case.Entry.{Entry}
use Rattle.case_rules.specs.declared.case.OutcomeWord.{OutcomeWord}
use Rattle.case_rules.specs.declared.case.OutcomeWord.TheVariants.{Clear, Flagged, Undecided, Refused}
use Rattle.case_rules.specs.declared.case.Ruling.{Ruling}
use Rattle.case_rules.specs.declared.case.RulingWord.{RulingWord}
use Rattle.case_rules.specs.declared.case.RulingWord.TheVariants.{Uphold, Overturn}
use Rattle.case_rules.specs.declared.reply.Change.{Change}
use Rattle.case_rules.specs.declared.reply.Change.TheVariants as changes
use Rattle.case_rules.specs.Cases.{new_case}
use Rattle.case_records.specs.Fitting.{IsSmall, TextFits, AllFit, ContentFits, DecisionFits, AppealFits, RulingFits, NamesFit, FieldsFit, AddsBare}
use Rattle.case_records.specs.Laws.{ChangesAreReadAgain}
use Rattle.case_records.specs.Reading.{byte_from, u4_from, u8_from, bytes_from, text_from, end_from, texts_of, content_of, outcome_of, decision_of, appeal_of, word_of, ruling_of, named_change, change_of}
use Rattle.case_records.specs.Spelling.{u4_bytes, text_bytes, texts_bytes, content_bytes, outcome_byte, decision_bytes, appeal_bytes, word_byte, ruling_bytes, named_bytes, change_bytes}
use Rattle.gated_log.proofs.Eights.{whole4, whole8}

u4_again : (n : ℕ) (rest : List ℕ) → IsSmall n → run (u4_from (u4_bytes n ++ rest)) ≡ Ok (n, rest)
u4_again n rest small = λ i. Ok (whole4 n small i, rest)

u8_again : (n : ℕ) (rest : List ℕ) → n < 18446744073709551616 → run (u8_from (u8_bytes n ++ rest)) ≡ Ok (n, rest)
u8_again n rest small = λ i. Ok (whole8 n small i, rest)

bytes_again : (n : ℕ) (bytes rest : List ℕ) → length bytes ≡ n → run (bytes_from n (bytes ++ rest)) ≡ Ok (bytes, rest)
unfolding bytes_from
bytes_again n bytes rest size =
    let long : nat_le n (length (bytes ++ rest)) ≡ true = le-leb n (length (bytes ++ rest)) (omega (arith, size, length-append bytes rest)) in
    let first : take n (bytes ++ rest) ≡ bytes = take_at bytes rest n size in
    let others : drop n (bytes ++ rest) ≡ rest = drop_at bytes rest n size in
    rw (long, first, others) refl

text_again : (text rest : List ℕ) → TextFits text → run (text_from (text_bytes text ++ rest)) ≡ Ok (text, rest)
unfolding text_from text_bytes
text_again text rest fits =
    let size = u8_bytes (length text) in
    ap (λ (l : List ℕ). run (text_from l)) (append_assoc size text rest)
    ∙ run_after (u8_from (size ++ (text ++ rest))) (length text, text ++ rest) (u8_again (length text) (text ++ rest) fits.short) (λ n. bytes_from n.0 n.1)
    ∙ bytes_again (length text) text rest refl

each_again : (texts : List (List ℕ)) (rest : List ℕ) → AllFit texts → run (repeat (length texts) text_from (flat_map text_bytes texts ++ rest)) ≡ Ok (texts, rest)
unfolding repeat
each_again [] rest fit = refl
each_again (text ∷ texts) rest fit =
    let front : (text_bytes text ++ flat_map text_bytes texts) ++ rest ≡ text_bytes text ++ (flat_map text_bytes texts ++ rest) = append_assoc (text_bytes text) (flat_map text_bytes texts) rest in
    rw (front, run_bind, text_again text (flat_map text_bytes texts ++ rest) fit.0, run_bind, each_again texts rest fit.1) refl

end_again : run (end_from []) ≡ Ok tt
unfolding end_from
end_again = refl

texts_again : (texts : List (List ℕ)) → length texts < 18446744073709551616 → AllFit texts → run (texts_of (texts_bytes texts)) ≡ Ok texts
unfolding texts_of texts_bytes
texts_again texts few fit =
    let parts = flat_map text_bytes texts in
    let whole : parts ++ [] ≡ parts = append-nil parts in
    let each : run (repeat (length texts) text_from parts) ≡ Ok (texts, []) = ap (λ (l : List ℕ). run (repeat (length texts) text_from l)) (sym whole) ∙ each_again texts [] fit in
    run_after (u8_from (u8_bytes (length texts) ++ parts)) (length texts, parts) (u8_again (length texts) parts few) (λ n. repeat n.0 text_from n.1 >>= λ ts. end_from ts.1 >>= λ _. Value ts.0)
    ∙ run_after (repeat (length texts) text_from parts) (texts, []) each (λ ts. end_from ts.1 >>= λ _. Value ts.0)
    ∙ run_after (end_from []) tt end_again (λ _. Value texts)

content_again : (content : Content) → ContentFits content → run (content_of (content_bytes content)) ≡ Ok content
unfolding content_of content_bytes
content_again content fits =
    let dex = texts_bytes content.dex in
    rw (
      run_bind,
      text_again content.manifest (text_bytes content.layouts ++ (text_bytes content.declaration ++ dex)) fits.manifest,
      run_bind,
      text_again content.layouts (text_bytes content.declaration ++ dex) fits.layouts,
      run_bind,
      text_again content.declaration dex fits.declaration,
      run_bind,
      texts_again content.dex fits.count fits.dex,
    ) refl

outcome_again : (outcome : OutcomeWord) → run (outcome_of (outcome_byte outcome)) ≡ Ok outcome
unfolding outcome_of
outcome_again Clear = refl
outcome_again Flagged = refl
outcome_again Undecided = refl
outcome_again Refused = refl

word_again : (word : RulingWord) → run (word_of (word_byte word)) ≡ Ok word
unfolding word_of
word_again Uphold = refl
word_again Overturn = refl

-- a number that is the last
last_again : (n : ℕ) → IsSmall n → run (u4_from (u4_bytes n)) ≡ Ok (n, [])
last_again n small = λ i. Ok (whole4 n small i, [])

decision_again : (decision : Decision) → DecisionFits decision → run (decision_of (decision_bytes decision)) ≡ Ok decision
unfolding decision_of decision_bytes
decision_again decision fits =
    let day = u4_bytes decision.day in
    let reviewer = text_bytes decision.reviewer ++ day in
    let lists = decision.lists ++ reviewer in
    run_after (outcome_of (outcome_byte decision.outcome)) decision.outcome (outcome_again decision.outcome)
    (λ o. text_from (text_bytes decision.report ++ lists) >>= λ t. bytes_from 32 t.1 >>= λ l. text_from l.1 >>= λ r. u4_from r.1 >>= λ d. end_from d.1 >>= λ _. Value (record { outcome = o; report = t.0; lists = l.0; reviewer = r.0; day = d.0 }))
    ∙ run_after (text_from (text_bytes decision.report ++ lists)) (decision.report, lists) (text_again decision.report lists fits.report)
    (λ t. bytes_from 32 t.1 >>= λ l. text_from l.1 >>= λ r. u4_from r.1 >>= λ d. end_from d.1 >>= λ _. Value (record { outcome = decision.outcome; report = t.0; lists = l.0; reviewer = r.0; day = d.0 }))
    ∙ run_after (bytes_from 32 lists) (decision.lists, reviewer) (bytes_again 32 decision.lists reviewer fits.lists)
    (λ l. text_from l.1 >>= λ r. u4_from r.1 >>= λ d. end_from d.1 >>= λ _. Value (record { outcome = decision.outcome; report = decision.report; lists = l.0; reviewer = r.0; day = d.0 }))
    ∙ run_after (text_from reviewer) (decision.reviewer, day) (text_again decision.reviewer day fits.reviewer)
    (λ r. u4_from r.1 >>= λ d. end_from d.1 >>= λ _. Value (record { outcome = decision.outcome; report = decision.report; lists = decision.lists; reviewer = r.0; day = d.0 }))
    ∙ run_after (u4_from day) (decision.day, []) (last_again decision.day fits.day)
    (λ d. end_from d.1 >>= λ _. Value (record { outcome = decision.outcome; report = decision.report; lists = decision.lists; reviewer = decision.reviewer; day = d.0 }))
    ∙ run_after (end_from []) tt end_again (λ _. Value decision)

-- a text that is the last
last_text : (text : List ℕ) → TextFits text → run (text_from (text_bytes text)) ≡ Ok (text, [])
last_text text fits = ap (λ (l : List ℕ). run (text_from l)) (sym (append-nil (text_bytes text))) ∙ text_again text [] fits

appeal_again : (appeal : Appeal) → AppealFits appeal → run (appeal_of (appeal_bytes appeal)) ≡ Ok appeal
unfolding appeal_of appeal_bytes
appeal_again appeal fits =
    let text = text_bytes appeal.text in
    run_after (u4_from (u4_bytes appeal.day ++ text)) (appeal.day, text) (u4_again appeal.day text fits.day)
    (λ d. text_from d.1 >>= λ t. end_from t.1 >>= λ _. Value (record { day = d.0; text = t.0 }))
    ∙ run_after (text_from text) (appeal.text, []) (last_text appeal.text fits.text) (λ t. end_from t.1 >>= λ _. Value (record { day = appeal.day; text = t.0 }))
    ∙ run_after (end_from []) tt end_again (λ _. Value appeal)

ruling_again : (ruling : Ruling) → RulingFits ruling → run (ruling_of (ruling_bytes ruling)) ≡ Ok ruling
unfolding ruling_of ruling_bytes
ruling_again ruling fits =
    let word = word_byte ruling.word ∷ [] in
    let day = u4_bytes ruling.day ++ word in
    run_after (text_from (text_bytes ruling.reviewer ++ day)) (ruling.reviewer, day) (text_again ruling.reviewer day fits.reviewer)
    (λ r. u4_from r.1 >>= λ d. byte_from d.1 >>= λ b. word_of b.0 >>= λ w. end_from b.1 >>= λ _. Value (record { reviewer = r.0; day = d.0; word = w }))
    ∙ run_after (u4_from day) (ruling.day, word) (u4_again ruling.day word fits.day)
    (λ d. byte_from d.1 >>= λ b. word_of b.0 >>= λ w. end_from b.1 >>= λ _. Value (record { reviewer = ruling.reviewer; day = d.0; word = w }))
    ∙ run_after (word_of (word_byte ruling.word)) ruling.word (word_again ruling.word)
    (λ w. end_from [] >>= λ _. Value (record { reviewer = ruling.reviewer; day = ruling.day; word = w }))
    ∙ run_after (end_from []) tt end_again (λ _. Value ruling)

-- a kind and a name, and what is read behind them
named_again : (kind : ℕ) (party reference fields : List ℕ) → NamesFit party reference
    → run (change_of (named_bytes kind party reference fields)) ≡ run (named_change kind party reference fields)
unfolding change_of
named_again kind party reference fields fit =
    let name = text_bytes reference ++ fields in
    run_after (text_from (text_bytes party ++ name)) (party, name) (text_again party name fit.party) (λ p. text_from p.1 >>= λ r. named_change kind p.0 r.0 r.1)
    ∙ run_after (text_from name) (reference, fields) (text_again reference fields fit.reference) (λ r. named_change kind party r.0 r.1)

-- a case that is added, without entries
bare : (case : Case) → case.entries ≡ [] → new_case case.party case.reference case.content ≡ case
bare case none = ap (λ (es : List Entry). record case { entries = es }) (sym none)

change_again : (change : Change) → FieldsFit change → AddsBare change → run (change_of (change_bytes change)) ≡ Ok change
unfolding change_bytes named_change
change_again (changes.Add case) fits none =
    named_again 0 case.party case.reference (content_bytes case.content) fits.0
    ∙ run_after (content_of (content_bytes case.content)) case.content (content_again case.content fits.1)
    (λ content. Value (changes.Add (new_case case.party case.reference content)))
    ∙ ap (λ (c : Case). Ok (changes.Add c)) (bare case none)
change_again (changes.Decide party reference decision) fits none =
    named_again 1 party reference (decision_bytes decision) fits.0
    ∙ run_after (decision_of (decision_bytes decision)) decision (decision_again decision fits.1) (λ x. Value (changes.Decide party reference x))
change_again (changes.Appeal party reference appeal) fits none =
    named_again 2 party reference (appeal_bytes appeal) fits.0
    ∙ run_after (appeal_of (appeal_bytes appeal)) appeal (appeal_again appeal fits.1) (λ x. Value (changes.Appeal party reference x))
change_again (changes.Rule party reference ruling) fits none =
    named_again 3 party reference (ruling_bytes ruling) fits.0
    ∙ run_after (ruling_of (ruling_bytes ruling)) ruling (ruling_again ruling fits.1) (λ x. Value (changes.Rule party reference x))

pub changes_again : ChangesAreReadAgain
changes_again change fits = change_again change fits.0 fits.1
