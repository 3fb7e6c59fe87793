-- What a call of `judge` promises, as one, and what a judge tells of it.
use Rattle.std.proofs.Common.{◌≡◌, List, ℕ, Result, Ok, Err, refl, sym, subst, ◌∙◌}
use Rattle.std.specs.Prelude.{IfOk}
use Rattle.vet_base.specs.declared.memory.Memory.{Memory}
use Rattle.case_rules.specs.declared.case.Content.{Content}
use Rattle.case_rules.specs.declared.case.OutcomeWord.TheVariants as words
use Rattle.desk_serving.specs.declared.judge.Judged.{Judged as Told}
use Rattle.desk_serving.specs.Obeying.{judgement_of}
use Rattle.verdict.specs.declared.outcome.Judged.{Judged}
use Rattle.verdict.specs.declared.outcome.Outcome.{Outcome}
use Rattle.verdict.specs.declared.outcome.Outcome.TheVariants.{Clear, Flagged, Undecided, Refused}
use Rattle.verdict.specs.declared.parts.Parts.{Parts}
use Rattle.verdict_report.specs.Report.{report_text}
use Rattle.verdict.specs.Tells.{TellsOfApp}
use Rattle.verdict.specs.Verdict.{IsSafeApp, Judgement}
use Rattle.desk_service.specs.Judging.{IsJudged, FindsBy, parts_of, word_of}

pub all_of : (r : Result Judged Memory) (A B C : Judged → Type 0) → IfOk r A → IfOk r B → IfOk r C → IfOk r (λ j. A j × B j × C j)
all_of (Ok j) A B C a b c = (a, b, c)
all_of (Err e) A B C a b c = tt

clear_word : (outcome : Outcome) → word_of outcome ≡ words.Clear → outcome ≡ Clear
clear_word Clear is = refl
clear_word (Flagged findings) is = absurd cc
clear_word (Undecided causes findings) is = absurd cc
clear_word (Refused part reason) is = absurd cc

pub found_by : (parts : Parts) (lists : List ℕ) (content : Content) (judged : Judged) (told : Told) → parts ≡ parts_of lists content →
    IsJudged parts judged → told.outcome ≡ word_of judged.outcome → told.report ≡ report_text judged.outcome → FindsBy lists content (judgement_of told)
found_by parts lists content judged told same is word report = record {
  judged = judged;
  verdict = subst (λ (p : Parts). Judgement p judged) same is.0;
  word = word;
  report = report;
  safe = λ clear. subst (λ (p : Parts). IsSafeApp p) same (is.1 (clear_word judged.outcome (sym word ∙ clear)));
  told = λ followed. subst (λ (p : Parts). TellsOfApp p judged.outcome) same (is.2 followed);
}
