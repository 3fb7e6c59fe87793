use Rattle.sorted_table.proofs.Placing.{last_iff}
use Rattle.sorted_table.proofs.part.ends_with.Goals as goal

pub returns : goal.returns
returns g c =
    let same = last_iff c.args.parts.now c.args.slot c.index-parts-slot.result c.deref.result.now c.args.row.now c.requires.slot c.requires.entered c.deref.ensures.value in
    (λ yes. same.0 (c.ends_before.ensures.0 yes), λ there. c.ends_before.ensures.1 (same.1 there))
