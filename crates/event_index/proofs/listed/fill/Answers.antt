use Rattle.std.proofs.Common.{subst, ◌∙◌}
use Rattle.app_machine.specs.Names.{same_name}
use Rattle.app_model.specs.Above.{is_among}
use Rattle.event_index.specs.Kinds.{Adds}
use Rattle.event_index.proofs.Rows.{adds_both}
use Rattle.event_index.proofs.listed.fill.Goals as goal

pub mark-requires-clause-long : goal.mark-requires-clause-long
mark-requires-clause-long c = c.requires.long

pub mark_each-requires-clause-long : goal.mark_each-requires-clause-long
mark_each-requires-clause-long c = c.mark.ensures.long ∙ c.requires.long

pub returns : goal.returns
returns c =
    adds_both c.args.kinds.now (same_name c.args.class.now.name) (is_among c.args.class.now.above) c.args.row.now c.mark.new.row c.mark_each.new.row
    (subst (λ n. Adds c.args.kinds.now c.args.row.now c.mark.new.row (same_name n)) c.as_bytes.ensures c.mark.ensures)
    (subst (λ ns. Adds c.args.kinds.now c.mark.new.row c.mark_each.new.row (is_among ns)) c.as_slice.ensures c.mark_each.ensures)
