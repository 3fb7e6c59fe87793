-- The case of a name is that name, its entries and its content.
use Rattle.std.proofs.Common.{◌≡◌, ℕ, Bool, true, false, cond, List, [], ◌∷◌, Option, Some, find, refl, sym, ap, ◌∙◌}
use Rattle.std.specs.Option.{option_map}
use Rattle.case_rules.specs.declared.case.Case.{Case}
use Rattle.case_rules.specs.declared.case.Entry.{Entry}
use Rattle.case_rules.specs.Cases.{is_named}
use Rattle.case_rules.proofs.Named.{named_is}
use Rattle.case_keeper.specs.Keeper.{history_of}
use Rattle.case_keeper.specs.Viewing.{bare, without_content}

bare_case : (party reference : List ℕ) (case : Case) → is_named party reference case ≡ true
    → bare party reference case.entries ≡ without_content case
bare_case party reference case named =
    let is = named_is party reference case named in
    sym (ap (λ (p : List ℕ). bare p reference case.entries) is.0)
    ∙ sym (ap (λ (r : List ℕ). bare case.party r case.entries) is.1)

pub bare_history : (party reference : List ℕ) (cases : List Case)
    → option_map (bare party reference) (history_of party reference cases)
    ≡ option_map without_content (find (is_named party reference) cases)
bare_history party reference [] = refl
bare_history party reference (case ∷ cases) =
    by_test (is_named party reference case) (bare_case party reference case) (bare_history party reference cases)
  where
    by_test : (b : Bool) → (b ≡ true → bare party reference case.entries ≡ without_content case)
        → option_map (bare party reference) (history_of party reference cases)
        ≡ option_map without_content (find (is_named party reference) cases)
        → option_map (bare party reference)
        (option_map (λ (z : Case). z.entries) (cond b (Some case) (find (is_named party reference) cases)))
        ≡ option_map without_content (cond b (Some case) (find (is_named party reference) cases))
    by_test true named later = ap (λ (z : Case). Some z) (named refl)
    by_test false named later = later

-- So it is told by its entries.
pub told_bare : (party reference : List ℕ) (cases : List Case) (found : Option Case) (history : Option (List Entry))
    → found ≡ option_map (bare party reference) history → history ≡ history_of party reference cases
    → found ≡ option_map without_content (find (is_named party reference) cases)
told_bare party reference cases found history is told =
    is ∙ ap (option_map (bare party reference)) told ∙ bare_history party reference cases
