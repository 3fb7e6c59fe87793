use Rattle.app_parts.specs.Views.{shown_summary}
use Rattle.runner_library.proofs.Joined.{no_source, one_source}
use Rattle.runner_library.proofs.joining.source_labels.Goals as goal

pub returns-in-Some : goal.returns-in-Some
returns-in-Some c at is_static l = one_source c.one.result c.in-Some.category l (shown_summary c.args.view at is_static).source (c.in-Some.ensures at is_static) (c.one.ensures l)

pub returns-in-None : goal.returns-in-None
returns-in-None c at is_static l = no_source c.none.result l (shown_summary c.args.view at is_static).source (c.in-None.ensures at is_static) c.none.ensures
