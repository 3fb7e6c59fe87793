use Rattle.std.proofs.Common.{rules, tests}
use Rattle.std.proofs.lemmas.Iterator.Consumers.{YieldsList-from_first}
use Rattle.std.proofs.lemmas.Iterator.Search.{all_from_yields_List}
use Rattle.access_path.specs.PathKeys.{keys_left}
use Rattle.access_path.specs.Paths.{keys_of}
use Rattle.app_rows.specs.Tests.{is_key_in}
use Rattle.app_rows.proofs.rows.is_path_in.Goals as goal

pub returns : goal.returns
returns c =
    all_from_yields_List (is_key_in c.args.app.now) _ _ _ c.all.ensures.ran (YieldsList-from_first (λ x. x) keys_left (keys_of c.args.path) c.keys.ensures)
    (λ x b q k. search (rules, tests))
