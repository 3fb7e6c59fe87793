use Rattle.app_parts.proofs.Numbers.{joined_by_default}
use Rattle.app_parts.proofs.summary_view.default_joins.Goals as goal

pub returns-in-Joined : goal.returns-in-Joined
returns-in-Joined c = joined_by_default c.args.word c.args.is_static c.args.at.now.proto c.args.position c.is_position.result c.in-Joined.is c.is_position.ensures
