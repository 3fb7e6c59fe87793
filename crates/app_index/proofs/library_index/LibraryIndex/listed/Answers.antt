use Rattle.std.proofs.Common.{◌∙◌, ap, refl, sym}
use Rattle.std.specs.Option.{option_copied}
use Rattle.app_machine.specs.Summaries.{listed_class}
use Rattle.app_index.proofs.ClassKeys.{at_number, class_there}
use Rattle.app_index.proofs.library_index.LibraryIndex.listed.Goals as goal

pub returns-in-Some : goal.returns-in-Some
returns-in-Some c =
    let lists = c.self.inside.lists.now in
    c.get-in-Some.ensures ∙ (ap (λ o. at_number lists.classes (option_copied o)) (sym c.in-Some.is) ∙ (ap (at_number lists.classes) c.get.ensures.value
    ∙ (class_there c.self.inside.classes lists c.args.name.now (record { name = c.args.name }) c.self.invariant.classes refl ∙ ap (λ l. listed_class l c.args.name.now) c.self.view_is)))

pub returns-in-None : goal.returns-in-None
returns-in-None c =
    let lists = c.self.inside.lists.now in
    ap (λ o. at_number lists.classes (option_copied o)) (sym c.in-None.is) ∙ (ap (at_number lists.classes) c.get.ensures.value
    ∙ (class_there c.self.inside.classes lists c.args.name.now (record { name = c.args.name }) c.self.invariant.classes refl ∙ ap (λ l. listed_class l c.args.name.now) c.self.view_is))
