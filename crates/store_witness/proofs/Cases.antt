-- Cases compute.
use Rattle.std.proofs.Common.{◌≡◌, ℕ, List, [], ◌∷◌, Option, Some, None, refl, sym, ap, ◌∙◌, arith, length, codes}
use Rattle.std.specs.Prelude.{find}
use Rattle.std.specs.Option.{option_map}
use Rattle.case_rules.specs.declared.case.Case.{Case}
use Rattle.case_rules.specs.declared.case.Content.{Content}
use Rattle.case_rules.specs.declared.command.View.{View}
use Rattle.case_rules.specs.declared.command.Command.TheVariants.{Report, Show, Submit}
use Rattle.case_rules.specs.Cases.{is_named}
use Rattle.case_keeper.specs.Viewing.{ShowsFor, without_content}
use Rattle.case_rules.specs.Rules.{Session}
use Rattle.store_witness.specs.CaseFacts.{CasesAreKept, case_of}

not_found : (content : Content) (session : Session) (view : View) → session.party.name ≡ codes "a" → view.found ≡ Some (case_of content (codes "b") (codes "b") [])
    → ShowsFor session (Report (codes "b")) view (case_of content (codes "b") (codes "b") [] ∷ []) → ⊥
not_found content session view is found shows =
    let none_there : view.found ≡ None = shows
    ∙ ap (λ name. option_map without_content (find (is_named name (codes "b")) (case_of content (codes "b") (codes "b") [] ∷ []))) is in
    let none : ⊥ = cc in none

-- the developer of the first case, and how many entries it has
abbrev first_party : List Case → List ℕ
first_party [] = []
first_party (case ∷ cases) = case.party

abbrev first_count : List Case → ℕ
first_count [] = 0
first_count (case ∷ cases) = length case.entries

-- the manifest of a case that is there
abbrev manifest_in : Option Case → List ℕ
manifest_in None = []
manifest_in (Some case) = case.content.manifest

not_both : (bytes : List ℕ) → bytes ≡ [] → bytes ≡ 1 ∷ [] → ⊥
not_both bytes none one = let no : ⊥ = cc in no

shown_whole : (content : Content) (session : Session) (view : View) → session.party.name ≡ codes "a" → content.manifest ≡ 1 ∷ []
    → view.found ≡ Some (case_of content (codes "a") (codes "r") [])
    → ShowsFor session (Show (codes "r")) view (case_of content (codes "a") (codes "r") [] ∷ []) → ⊥
shown_whole content session view is one found shows =
    let bare : view.found ≡ Some (without_content (case_of content (codes "a") (codes "r") [])) = shows
    ∙ ap (λ name. option_map without_content (find (is_named name (codes "r")) (case_of content (codes "a") (codes "r") [] ∷ []))) is in
    not_both content.manifest (sym (ap manifest_in found) ∙ ap manifest_in bare) one

compared_bare : (content : Content) (session : Session) (view : View) → session.party.name ≡ codes "a" → content.manifest ≡ 1 ∷ []
    → view.found ≡ Some (without_content (case_of content (codes "a") (codes "r") []))
    → ShowsFor session (Submit (codes "r") content) view (case_of content (codes "a") (codes "r") [] ∷ []) → ⊥
compared_bare content session view is one found shows =
    let whole : view.found ≡ Some (case_of content (codes "a") (codes "r") []) = shows.0
    ∙ ap (λ name. find (is_named name (codes "r")) (case_of content (codes "a") (codes "r") [] ∷ [])) is in
    not_both content.manifest (sym (ap manifest_in whole) ∙ ap manifest_in found) one

pub cases_are_kept : CasesAreKept
cases_are_kept content decision = record {
  numbered = λ counts. let one = counts.calls in let none : ⊥ = omega (arith, one) in none;
  counted = λ cause. let none : ⊥ = omega (arith, cause.0) in none;
  added = λ same. let none : ⊥ = cc in none;
  decided = λ same. let none : ⊥ = cc in none;
  second = λ same. let count : 2 ≡ 1 = ap first_count same in let none : ⊥ = omega (arith, count) in none;
  named = λ same. let party : codes "a" ≡ codes "b" = ap first_party same in let none : ⊥ = cc in none;
  own = λ appeal. refl;
  own_report = not_found content;
  history = refl;
  own_history = refl;
  bare = shown_whole content;
  compared = compared_bare content;
  forgotten = λ index there i. let none_there = i.named (codes "a") (codes "r") in let none : ⊥ = cc in none;
}
