-- What is found of a generated app.
use Rattle.std.proofs.Common.{◌≡◌, ◌⊎◌, inl, inr, ℕ, List, length, Option, Some, Result, Ok, refl, sym, ◌∙◌, ap, subst, arith}
use Rattle.std.specs.Option.{option_map}
use Rattle.std.specs.Prelude.{IsErr}
use Rattle.vet_base.specs.Outside.{Told}
use Rattle.heard_files.specs.Outside.{Entry}
use Rattle.app_flow.specs.declared.flow_rows.FlowTable.{FlowTable}
use Rattle.verdict.specs.declared.outcome.Judged.{Judged}
use Rattle.verdict.specs.declared.outcome.Outcome.{Outcome}
use Rattle.verdict.specs.declared.outcome.Outcome.TheVariants.{Clear, Flagged, Undecided, Refused}
use Rattle.verdict.specs.declared.parts.Parts.{Parts}
use Rattle.verdict.specs.Verdict.{Judgement, IsSafeApp}
use Rattle.desk_words.specs.Words.{Make}
use Rattle.vetting_desk.specs.Answer.{Answers, due_to_made}
use Rattle.app_folder.specs.Due.{Due}
use Rattle.vetting_desk.specs.Found.{FindsDue}
use Rattle.vetting_desk.specs.Made.{made_parts}
use Rattle.app_folder.specs.Outside.{Tells}

abbrev rows_in : Judged → Option ℕ
rows_in judged = option_map (λ (table : FlowTable). length table.rows) judged.table

abbrev due_to : ℕ → Judged → Due
due_to size judged = due_to_made size (rows_in judged) judged.outcome

made_clear : (size : ℕ) (rows : Option ℕ) (outcome : Outcome) → (due_to_made size rows outcome).status ≡ 0 → outcome ≡ Clear
made_clear size rows Clear zero = refl
made_clear size rows (Flagged fs) zero = absurd (omega (arith, zero))
made_clear size rows (Undecided cs fs) zero = absurd (omega (arith, zero))
made_clear size rows (Refused part reason) zero = absurd (omega (arith, zero))

only_made : (seed size n : ℕ) (judged : Judged) (tells : Tells) → ((j : Judged) → Judgement (made_parts seed size) j → j ≡ judged)
    → (other : Due) → Answers (Some (Make seed size n)) tells other → other ≡ due_to size judged
only_made seed size n judged tells one _ (Answers.no_command e) = absurd cc
only_made seed size n judged tells one _ (Answers.check dir k due e is) = absurd cc
only_made seed size n judged tells one _ (Answers.certify dir path due e is) = absurd cc
only_made seed size n judged tells one _ (Answers.recheck dir path due e is) = absurd cc
only_made seed size n judged tells one _ (Answers.story dir due e is) = absurd cc
only_made seed size n judged tells one _ (Answers.make seed2 size2 n2 judged2 e is) =
    let same_seed : seed ≡ seed2 = cc in
    let same_size : size ≡ size2 = cc in
    let AtSeed : ℕ → Type 0 = λ s. Judgement (made_parts s size2) judged2 in
    let AtSize : ℕ → Type 0 = λ z. Judgement (made_parts seed z) judged2 in
    let here : Judgement (made_parts seed size) judged2 = subst AtSize (sym same_size) (subst AtSeed (sym same_seed) is) in
    ap (λ (z : ℕ). due_to z judged2) (sym same_size) ∙ ap (λ (j : Judged). due_to size j) (one judged2 here)

one_judged : {E : Type 0} (parts : Parts) (judged : Judged)
    → ((j : Judged) → Judgement parts j → (let r : Result Judged E = Ok judged in r ≡ Ok j) ⊎ (let r : Result Judged E = Ok judged in IsErr r))
    → (j : Judged) → Judgement parts j → j ≡ judged
one_judged {E} parts judged one j is = of_answer (one j is)
  where
    of_answer : (let r : Result Judged E = Ok judged in r ≡ Ok j) ⊎ (let r : Result Judged E = Ok judged in IsErr r) → j ≡ judged
    of_answer (inl same) = let e : judged ≡ j = cc in sym e
    of_answer (inr fails) = absurd cc

-- a generated app that was judged so
pub finds_made : {E : Type 0} (seed size n : ℕ) (parts : Parts) (judged : Judged) (due : Due) (told : Option Told) (heard : List Entry)
    → parts ≡ made_parts seed size → Judgement parts judged → (judged.outcome ≡ Clear → IsSafeApp parts)
    → ((j : Judged) → Judgement parts j → (let r : Result Judged E = Ok judged in r ≡ Ok j) ⊎ (let r : Result Judged E = Ok judged in IsErr r))
    → due ≡ due_to size judged → FindsDue (Some (Make seed size n)) told heard heard due
finds_made {E} seed size n parts judged due told heard same is safe one says =
    let AtParts : Parts → Type 0 = λ p. Judgement p judged in
    let SafeParts : Parts → Type 0 = λ p. IsSafeApp p in
    let OneAt : Parts → Type 0 = λ p. (j : Judged) → Judgement p j → j ≡ judged in
    let one_here : OneAt (made_parts seed size) = subst OneAt same (one_judged {E = E} parts judged one) in
    let At : Due → Type 0 = λ d. FindsDue (Some (Make seed size n)) told heard heard d in
    subst At (sym says) (λ printed. record {
      answers = Answers.make seed size n judged refl (subst AtParts same is);
      read = (judged, subst AtParts same is, refl, refl);
      only = λ tells other answers. sym (only_made seed size n judged (record { files = told; printed = printed }) one_here other answers);
      safe = λ clear. subst SafeParts same (safe (made_clear size (rows_in judged) judged.outcome clear));
      full = λ found. absurd found;
    })
