use Rattle.desk_service.proofs.Judged.{found_by}
use Rattle.desk_service.proofs.lists_judge.ListsJudgeJudge.judge.Goals as goal

pub returns : goal.returns
returns g c =
    found_by c.in_ok-parts.parts c.args.self.now.lists.lists c.args.content.now c.in_ok-judged.judged c.in_ok-told.told c.in_ok-parts.ensures
    c.in_ok-judged.ensures c.in_ok-told.ensures.word c.in_ok-told.ensures.report
