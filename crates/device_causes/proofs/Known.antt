-- Classes and static fields of app and library by sets of their names.
use Rattle.std.proofs.Common.{◌≡◌, List, [], ◌∷◌, ◌++◌, append_assoc, map, filter, sym, ◌∙◌, ap}
use Rattle.std.specs.Prelude.{not, MatchOption, option_to_list}
use Rattle.app_machine.specs.declared.app.App.{App}
use Rattle.app_machine.specs.declared.app.Class.{Class}
use Rattle.app_machine.specs.declared.lists.Lists.{Lists}
use Rattle.app_machine.specs.declared.lists.LibClass.{LibClass}
use Rattle.app_machine.specs.Names.{Name, same_name}
use Rattle.link_access.specs.Access.{Accesses}
use Rattle.link_listing.specs.Texts.{Triple}
use Rattle.outcomes.specs.Causes.{is_app_class}
use Rattle.std.proofs.lemmas.List.Elements.{filter-append}
use Rattle.vet_base.proofs.Lists.{list_any-map}
use Rattle.app_model.proofs.Above.{slice_of_option}
use Rattle.device_causes.specs.Libraries.{is_unlisted, unlisted_above, defined_statics, listed_statics, is_foreign}
use Rattle.device_causes.specs.Platform.{is_library_class}
use Rattle.device_causes.specs.Sets.{is_among, is_listed, IsSetOf, IsListOf}

pub library_by_set : (lists : Lists) (set : List Name) (name : Name) → IsSetOf set (map (λ (c : LibClass). c.name) lists.classes) → is_among set name ≡ is_library_class lists name
unfolding is_library_class is_among
library_by_set lists set name is = is.same name ∙ list_any-map (λ (c : LibClass). c.name) (λ n. same_name name n) lists.classes

pub app_by_set : (app : App) (set : List Name) (name : Name) → IsSetOf set (map (λ (c : Class). c.name) app.classes) → is_among set name ≡ is_app_class app name
unfolding is_app_class is_among
app_by_set app set name is = is.same name ∙ list_any-map (λ (c : Class). c.name) (λ n. same_name name n) app.classes

pub foreign_by_set : (access : Accesses) (set : List Triple) (field : Triple) → IsListOf set (defined_statics access) → not (is_listed set field) ≡ is_foreign access field
unfolding is_foreign
foreign_by_set access set field is = ap not (is.same field)

pub unknown_by_set : (lists : Lists) (set : List Triple) (field : Triple) → IsListOf set (listed_statics lists) → not (is_listed set field) ≡ not (is_listed (listed_statics lists) field)
unknown_by_set lists set field is = ap not (is.same field)

-- the unlisted ones of the superclass, where there is one, and then of the interfaces
pub above_added : (app : App) (lists : Lists) (c : Class) (old mid new supers interfaces : List Name) → MatchOption c.superclass (supers ≡ []) (λ x. supers ≡ x ∷ []) → interfaces ≡ c.interfaces
    → mid ≡ old ++ filter (is_unlisted app lists) supers → new ≡ mid ++ filter (is_unlisted app lists) interfaces → new ≡ old ++ unlisted_above app lists c
unfolding unlisted_above
above_added app lists c old mid new supers interfaces is are first then =
    then ∙ ap (λ xs. xs ++ filter (is_unlisted app lists) interfaces) first
    ∙ append_assoc old (filter (is_unlisted app lists) supers) (filter (is_unlisted app lists) interfaces)
    ∙ ap (λ xs. old ++ xs) (sym (filter-append (is_unlisted app lists) supers interfaces))
    ∙ ap (λ xs. old ++ filter (is_unlisted app lists) (xs ++ interfaces)) (slice_of_option c.superclass supers is)
    ∙ ap (λ xs. old ++ filter (is_unlisted app lists) (option_to_list c.superclass ++ xs)) are
