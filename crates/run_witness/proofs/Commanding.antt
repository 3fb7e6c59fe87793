-- What becomes of a command over one case.
use Rattle.std.proofs.Common.{◌≡◌, ℕ, ◌<◌, List, [], ◌∷◌, Option, Some, ap, sym, ◌∙◌, arith, lit<, length, codes, replicate}
use Rattle.std.proofs.lemmas.Option.{same_Some}
use Rattle.case_rules.specs.declared.case.Case.{Case}
use Rattle.case_rules.specs.declared.case.Content.{Content}
use Rattle.case_rules.specs.declared.case.Decision.{Decision}
use Rattle.case_rules.specs.declared.case.Entry.{Entry}
use Rattle.case_rules.specs.declared.case.OutcomeWord.TheVariants.{Clear, Flagged}
use Rattle.case_rules.specs.declared.command.Command.TheVariants.{Show}
use Rattle.case_rules.specs.declared.reply.Reply.{Reply}
use Rattle.case_rules.specs.declared.reply.Reply.TheVariants as replies
use Rattle.case_rules.specs.Cases.{with_entry}
use Rattle.case_rules.specs.Desk.{Judgement, decision_by}
use Rattle.case_rules.specs.Rules.{submit, decide, show}
use Rattle.desk_serving.specs.Obeying.{HandsOn, handed}
use Rattle.run_witness.specs.Commands.{ada, bob, queued, filled, session, content, Decides, anything, finds_flagged, CommandsTell}

abbrev first : List ℕ → ℕ
first [] = 0
first (b ∷ bytes) = b

below : (n m : ℕ) → n < m → n ≡ m → ⊥
below n m less same = omega (arith, less, same)

-- the decision on the first case
abbrev decision_in : Decision → List Entry → Decision
decision_in none [] = none
decision_in none (e ∷ entries) = e.decision

abbrev decided : Decision → List Case → Decision
decided none [] = none
decided none (c ∷ cases) = decision_in none c.entries

-- what is kept is the decision by what was found
kept_is : (finds : Content → Judgement → Type 0) (d : Decision) (reply : Reply) → Decides finds d reply
    → (judgement : Judgement) × finds content judgement × (d ≡ decision_by (session bob) judgement)
unfolding decide
kept_is finds d reply h =
    let obeys = h.2 in
    let judgement = obeys.0 in
    let made : Decision = decision_by (session bob) judgement in
    let same : with_entry d queued ∷ [] ≡ with_entry made queued ∷ [] =
    same_Some (with_entry d queued ∷ []) (with_entry made queued ∷ []) obeys.1.after_is in
    (judgement, obeys.1.found, ap (decided d) same)

own_reviewer : (d : Decision) (reply : Reply) → d.reviewer ≡ codes "ada" → Decides anything d reply → ⊥
own_reviewer d reply is h =
    let made = kept_is anything d reply h in
    let clash : codes "ada" ≡ codes "bob" = sym is ∙ ap (λ (e : Decision). e.reviewer) made.2 in
    below 97 98 (lit< tt) (ap first clash)

own_lists : (d : Decision) (reply : Reply) → d.lists ≡ replicate 32 0 → Decides anything d reply → ⊥
own_lists d reply is h =
    let made = kept_is anything d reply h in
    let clash : replicate 32 0 ≡ replicate 32 7 = sym is ∙ ap (λ (e : Decision). e.lists) made.2 in
    below 0 7 (lit< tt) (ap first clash)

own_outcome : (d : Decision) (reply : Reply) → d.outcome ≡ Clear → Decides finds_flagged d reply → ⊥
own_outcome d reply is h =
    let made = kept_is finds_flagged d reply h in
    let clash : Clear ≡ Flagged = sym is ∙ ap (λ (e : Decision). e.outcome) made.2 ∙ made.1 in
    cc

-- the case that a reply shows
abbrev shown : Reply → Case
shown (replies.Added reference) = queued
shown (replies.Kept reference state) = queued
shown (replies.Decided developer reference outcome) = queued
shown (replies.Shown case) = case
shown (replies.Text report) = queued
shown (replies.Appealed reference) = queued
shown (replies.Ruled developer reference word) = queued
shown (replies.Lines lines) = queued
shown (replies.No refusal) = queued

without_content : (case : Case) (after : Option (List Case))
    → HandsOn anything (session ada) (Show (codes "a1")) (Some (filled ∷ [])) after (replies.Shown case) → case ≡ queued
unfolding show
without_content case after h = ap shown (h.1 ∙ ap handed h.2.1.reply_is)

pub commands_tell : CommandsTell
unfolding submit
commands_tell = record {
  own_reviewer = own_reviewer;
  own_lists = own_lists;
  own_outcome = own_outcome;
  kept = λ reply h. let clash : 0 ≡ 1 = ap length (same_Some [] _ h.2.1.after_is) in below 0 1 (lit< tt) clash;
  without_content = without_content;
}
