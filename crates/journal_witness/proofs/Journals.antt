-- What fits and what is held computes.
use Rattle.std.proofs.Common.{◌≡◌, ℕ, true, false, List, [], ◌∷◌, ◌++◌, length, get_or, Some, inl, inr, sym, ap, ◌∙◌, arith}
use Rattle.gated_log.specs.Format.{magic}
use Rattle.case_rules.specs.declared.case.Appeal.{Appeal}
use Rattle.case_rules.specs.declared.case.Case.{Case}
use Rattle.case_rules.specs.declared.case.Decision.{Decision}
use Rattle.case_rules.specs.declared.case.Entry.{Entry}
use Rattle.case_rules.specs.declared.case.Ruling.{Ruling}
use Rattle.case_rules.specs.declared.reply.Change.TheVariants as changes
use Rattle.case_rules.specs.Cases.{entry_of, last, is_open_by}
use Rattle.journal_law.specs.Journal.{Holds}
use Rattle.journal_law.specs.Reading.{fits_found, is_unappealed}
use Rattle.journal_witness.specs.JournalFacts.{JournalsTell, ten}

queued : (party reference : List ℕ) (appeal : Appeal) (case : Case) → case.entries ≡ []
    → fits_found (changes.Appeal party reference appeal) (Some case) ≡ true → ⊥
queued party reference appeal case none fits =
    let both : false ≡ true = sym (ap (λ (es : List Entry). is_unappealed (last es)) none) ∙ fits in
    cc

unappealed : (party reference : List ℕ) (ruling : Ruling) (decision : Decision) (case : Case)
    → case.entries ≡ entry_of decision ∷ [] → fits_found (changes.Rule party reference ruling) (Some case) ≡ true → ⊥
unappealed party reference ruling decision case one fits =
    let both : false ≡ true = sym (ap (λ (es : List Entry). is_open_by (last es)) one) ∙ fits in
    cc

foreign : (cases : List Case) → Holds ten cases → ⊥
foreign cases (inl few) = let none : ⊥ = omega (arith, few.0) in none
foreign cases (inr journal) =
    let first : 88 ≡ 86 = ap (λ (bytes : List ℕ). get_or bytes 0 0) journal.known in
    omega (arith, first)

empty : (case : Case) → Holds (magic ++ 0 ∷ []) (case ∷ []) → ⊥
empty case (inl few) = let none : 1 ≡ 0 = ap (λ (cases : List Case). length cases) few.1 in omega (arith, none)
empty case (inr journal) = let long = journal.long in omega (arith, long)

pub journals_tell : JournalsTell
journals_tell = record {
  added = λ case found same. let both : false ≡ true = same in absurd cc;
  unknown = λ party reference decision same. let both : false ≡ true = same in absurd cc;
  queued = queued;
  unappealed = unappealed;
  foreign = foreign;
  empty = empty;
}
