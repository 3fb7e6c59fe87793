use Rattle.std.proofs.Common.{Some, ap, sym, ◌∙◌, List, option_copied}
use Rattle.app_machine.specs.declared.lists.LibClass.{LibClass}
use Rattle.store_lists.specs.Classes.{above_in}
use Rattle.store_lists.proofs.Above.{none_above, some_above}
use Rattle.store_lists.proofs.classes.Classes.above.Goals as goal

pub returns-in_err-place : goal.returns-in_err-place
returns-in_err-place c =
    ap option_copied c.from_residual.ensures
    ∙ sym (none_above c.args.name.now c.self.inside.rows.items c.self.inside.names c.self.invariant c.in_err-place.ensures.place)
    ∙ ap (λ (cs : List LibClass). above_in cs c.args.name.now) (c.self.view_is)

pub returns : goal.returns
returns c =
    ap Some (c.as_slice.ensures ∙ ap (λ (x : LibClass). x.above) c.index.ensures)
    ∙ sym (some_above c.args.name.now c.self.inside.rows.items c.self.inside.names c.in_ok-place.place c.index.result.now c.self.invariant c.in_ok-place.ensures.place)
    ∙ ap (λ (cs : List LibClass). above_in cs c.args.name.now) (c.self.view_is)
