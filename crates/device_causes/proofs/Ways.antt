-- Walks upward, and names by sets.
use Rattle.std.proofs.Common.{◌≡◌, List, [], ◌∷◌, ◌++◌, append_assoc, map, sym, ◌∙◌, ap}
use Rattle.std.specs.List.{list_any}
use Rattle.std.proofs.lemmas.List.{append-nil}
use Rattle.app_machine.specs.declared.app.Class.{Class}
use Rattle.app_machine.specs.declared.lists.Lists.{Lists}
use Rattle.app_machine.specs.Names.{Name}
use Rattle.vet_base.proofs.Lists.{list_any_agree}
use Rattle.device_causes.specs.Clicks.{context_names, any_context}
use Rattle.device_causes.specs.Sets.{is_among, IsSetOf}

-- what was found, and then the names of what is left of the way, make the whole
pub record NamesLeft (found : List Name) (left : List Class) (whole : List Name) : Type 0 where
  pub is : found ++ map (λ (k : Class). k.name) left ≡ whole

pub way_begins : (found : List Name) (left way : List Class) → left ≡ way → NamesLeft found left (found ++ map (λ (k : Class). k.name) way)
way_begins found left way same = record { is = ap (λ (ks : List Class). found ++ map (λ (k : Class). k.name) ks) same }

pub way_goes_on : (found : List Name) (c : Class) (left rest : List Class) (whole : List Name) → left ≡ c ∷ rest → NamesLeft found left whole → NamesLeft (found ++ c.name ∷ []) rest whole
way_goes_on found c left rest whole front so_far =
    record { is = append_assoc found (c.name ∷ []) (map (λ (k : Class). k.name) rest) ∙ (ap (λ (ks : List Class). found ++ map (λ (k : Class). k.name) ks) (sym front) ∙ so_far.is) }

pub way_done : (found : List Name) (left : List Class) (whole : List Name) → left ≡ [] → NamesLeft found left whole → found ≡ whole
way_done found left whole none so_far =
    sym (append-nil found) ∙ (ap (λ (ks : List Class). found ++ map (λ (k : Class). k.name) ks) (sym none) ∙ so_far.is)

-- the set of the contexts has one of the names just where one of them is a context
pub contexts_by_set : (lists : Lists) (set names : List Name) → IsSetOf set (context_names lists) → list_any (is_among set) names ≡ any_context lists names
contexts_by_set lists set names is = list_any_agree (is_among set) (is_among (context_names lists)) is.same names
