use Rattle.std.proofs.Common.{length, refl, sym, ap, ◌∙◌}
use Rattle.std.proofs.lemmas.Option.{slice_get_read}
use Rattle.app_machine.specs.Lookups.{class_named}
use Rattle.event_index.proofs.Asking.{found_class}
use Rattle.event_index.proofs.below_table.BelowTable.is_below.Goals as goal

pub returns-in-Some : goal.returns-in-Some
returns-in-Some c =
    let classes = c.args.self.now.app.now.classes in
    c.is_class_below.ensures
    ∙ found_class c.args.self.now.app.now c.args.self.now.listed.lists.now c.args.class.now c.args.kind.now c.at-found.result.now
    (ap (λ n. class_named c.args.self.now.app.now n) (sym c.as_bytes-2.ensures) ∙ (sym c.in-Some.ensures.found ∙ slice_get_read classes (length classes) c.in-Some.number c.at-found.result.now refl c.in-Some.ensures.within c.at-found.ensures))
