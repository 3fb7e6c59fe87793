use Rattle.std.proofs.Common.{◌∙◌}
use Rattle.flow_telling.proofs.Telling.{told_by_telling, telling_within}
use Rattle.flow_telling.proofs.by_flow.told_by_telling.Goals as goal

pub told_by_rows-requires-clause-within : goal.told_by_rows-requires-clause-within
told_by_rows-requires-clause-within c =
    telling_within c.args.app.now c.args.rows.now c.as_slice.result.now (c.as_slice.ensures.value ∙ c.in_ok-telling.ensures) c.requires.within

pub returns : goal.returns
returns c =
    told_by_telling c.args.app.now c.args.lists.now c.args.declaration.now c.args.beside.items c.args.rows.now c.as_slice.result.now c.in_ok-told.told
    (c.as_slice.ensures.value ∙ c.in_ok-telling.ensures) c.in_ok-told.ensures
