use Rattle.std.proofs.Common.{◌≡◌, List, Option, Some, sym, subst, ◌∙◌}
use Rattle.case_rules.specs.declared.reply.Plan.{Plan}
use Rattle.case_rules.specs.Rules.{session_of}
use Rattle.desk_serving.proofs.Obeyed.{IsOver, said, done_if, judged_if, fits, settled_fits}
use Rattle.desk_serving.proofs.obeying.obeyed.Goals as goal

pub kept-requires : goal.kept-requires
kept-requires g c = λ cases is.
    let session = session_of c.args.party.now c.args.desk.now.office.appeal_days c.args.day (g.J.Judge.edition c.args.desk.now.judge) in
    let before = g.K.Keeper.told c.args.keeper.now in
    fits session c.args.command.now before c.in-Do.change c.in-Do.reply c.requires.docket
    (subst (IsOver session c.args.command.now before) c.in-Do.is c.in_ok-plan.ensures.over)
    cases (sym c.in_ok-plan.ensures.told ∙ is)

pub decided-requires-clause-fits : goal.decided-requires-clause-fits
decided-requires-clause-fits g c = λ judgement cases is.
    let session = session_of c.args.party.now c.args.desk.now.office.appeal_days c.args.day (g.J.Judge.edition c.args.desk.now.judge) in
    let before = g.K.Keeper.told c.args.keeper.now in
    settled_fits session c.args.command.now before c.in-Judge.case c.requires.docket
    (subst (IsOver session c.args.command.now before) c.in-Judge.is c.in_ok-plan.ensures.over)
    judgement cases (sym c.in_ok-plan.ensures.told ∙ is)

pub returns-in-Say-clause-obeys : goal.returns-in-Say-clause-obeys
returns-in-Say-clause-obeys g c =
    let session = session_of c.args.party.now c.args.desk.now.office.appeal_days c.args.day (g.J.Judge.edition c.args.desk.now.judge) in
    let before = g.K.Keeper.told c.args.keeper.now in
    said (g.J.Judge.finds c.args.desk.now.judge) session c.args.command.now before _ c.in-Say.reply c.requires.docket
    (subst (IsOver session c.args.command.now before) c.in-Say.is c.in_ok-plan.ensures.over)
    c.in_ok-plan.ensures.told

pub returns-in-Do-clause-obeys : goal.returns-in-Do-clause-obeys
returns-in-Do-clause-obeys g c =
    let session = session_of c.args.party.now c.args.desk.now.office.appeal_days c.args.day (g.J.Judge.edition c.args.desk.now.judge) in
    let before = g.K.Keeper.told c.args.keeper.now in
    done_if (g.J.Judge.finds c.args.desk.now.judge) session c.args.command.now before _ _ c.in-Do.change c.in-Do.reply
    c.kept.result c.requires.docket
    (subst (IsOver session c.args.command.now before) c.in-Do.is c.in_ok-plan.ensures.over)
    c.in_ok-plan.ensures.told c.kept.ensures.reply c.kept.ensures.told

pub returns-in-Judge-clause-obeys : goal.returns-in-Judge-clause-obeys
returns-in-Judge-clause-obeys g c =
    let session = session_of c.args.party.now c.args.desk.now.office.appeal_days c.args.day (g.J.Judge.edition c.args.desk.now.judge) in
    let before = g.K.Keeper.told c.args.keeper.now in
    judged_if (g.J.Judge.finds c.args.desk.now.judge) session c.args.command.now before _ _ c.in-Judge.case
    c.decided.result c.requires.docket
    (subst (IsOver session c.args.command.now before) c.in-Judge.is c.in_ok-plan.ensures.over)
    c.in_ok-plan.ensures.told c.decided.ensures.settles
