use Rattle.desk_service.proofs.Judged.{all_of}
use Rattle.desk_service.proofs.lists_judge.judged.Goals as goal

pub returns : goal.returns
returns g c = all_of c.judge.result _ _ _ c.judge.ensures.value c.judge.ensures.safe c.judge.ensures.told
