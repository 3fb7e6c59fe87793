use Rattle.std.proofs.Common.{◌∙◌, ap, sym}
use Rattle.std.specs.Option.{option_copied}
use Rattle.app_machine.specs.Summaries.{listed_static}
use Rattle.app_index.proofs.ClassKeys.{at_number}
use Rattle.app_index.proofs.FieldKeys.{IsFieldKey, static_there}
use Rattle.app_index.proofs.library_index.LibraryIndex.listed_static.Goals as goal

pub returns-in-Some : goal.returns-in-Some
returns-in-Some c =
    let lists = c.self.inside.lists.now in
    let field = c.args.field.now in
    let key = c.field_key-key.result in
    let made = c.field_key-key.ensures in
    let is : IsFieldKey field.0 field.1 field.2 key = record { class = made.class; name = made.name; kind = made.kind } in
    c.get-in-Some.ensures ∙ (ap (λ o. at_number lists.statics (option_copied o)) (sym c.in-Some.is) ∙ (ap (at_number lists.statics) c.get.ensures.value
    ∙ (static_there c.self.inside.statics lists field key c.self.invariant.statics is ∙ ap (λ l. listed_static l field) c.self.view_is)))

pub returns-in-None : goal.returns-in-None
returns-in-None c =
    let lists = c.self.inside.lists.now in
    let field = c.args.field.now in
    let key = c.field_key-key.result in
    let made = c.field_key-key.ensures in
    let is : IsFieldKey field.0 field.1 field.2 key = record { class = made.class; name = made.name; kind = made.kind } in
    ap (λ o. at_number lists.statics (option_copied o)) (sym c.in-None.is) ∙ (ap (at_number lists.statics) c.get.ensures.value
    ∙ (static_there c.self.inside.statics lists field key c.self.invariant.statics is ∙ ap (λ l. listed_static l field) c.self.view_is))
