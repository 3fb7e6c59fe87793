-- What judging gives is that of the app.
use Rattle.std.proofs.Common.{◌≡◌, ℕ, ◌<◌, List, [], ◌∷◌, refl, ap, arith, lit<, codes}
use Rattle.sha2.specs.Sha256.{first_words, schedule, rounds, compress, hash_after, digest_bytes, sha256}
use Rattle.case_rules.specs.declared.case.OutcomeWord.TheVariants as words
use Rattle.outcomes.specs.declared.outcome.Finding.{Finding}
use Rattle.verdict.specs.declared.outcome.Outcome.{Outcome}
use Rattle.verdict.specs.declared.outcome.Outcome.TheVariants.{Clear, Flagged, Undecided, Refused}
use Rattle.verdict_report.specs.Printed.{counted_line}
use Rattle.verdict_report.specs.Report.{report_text, clear_text, flagged_text}
use Rattle.desk_service.specs.Judging.{word_of}
use Rattle.run_witness.specs.Judgements.{JudgementsTell, small_lists}

abbrev first : List ℕ → ℕ
first [] = 0
first (b ∷ bytes) = b

not_flagged : (outcome : Outcome) → words.Flagged ≡ word_of outcome → report_text Clear ≡ report_text outcome → ⊥
unfolding clear_text flagged_text counted_line
not_flagged Clear word report = cc
not_flagged (Flagged findings) word report = let clash : 99 ≡ 102 = ap first report in cc
not_flagged (Undecided causes findings) word report = cc
not_flagged (Refused part reason) word report = cc

not_clear : (findings : List Finding) (outcome : Outcome) → words.Clear ≡ word_of outcome → report_text (Flagged findings) ≡ report_text outcome → ⊥
unfolding clear_text flagged_text counted_line
not_clear findings Clear word report = let clash : 102 ≡ 99 = ap first report in cc
not_clear findings (Flagged others) word report = cc
not_clear findings (Undecided causes others) word report = cc
not_clear findings (Refused part reason) word report = cc

below : (n m : ℕ) → n < m → n ≡ m → ⊥
below n m less same = omega (arith, less, same)

own_edition : sha256 small_lists ≡ sha256 (codes "lists") → ⊥
unfolding first_words schedule rounds compress hash_after digest_bytes sha256
own_edition same = below 24 76 (lit< tt) (ap first same)

pub judgements_tell : JudgementsTell
judgements_tell = record {
  not_flagged = λ lists content finds. not_flagged finds.judged.outcome finds.word finds.report;
  not_clear = λ lists content findings finds. not_clear findings finds.judged.outcome finds.word finds.report;
  own_layouts = λ lists content report unformed finds. let safe = finds.safe refl in unformed safe.papers.layouts safe.reads.forms.layouts;
  own_edition = own_edition;
}
