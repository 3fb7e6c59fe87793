use Rattle.std.proofs.Common.{◌∙◌, ap}
use Rattle.app_machine.specs.Summaries.{default_of}
use Rattle.app_index.proofs.ClassKeys.{default_there}
use Rattle.app_index.proofs.library_index.LibraryIndex.default_at.Goals as goal

pub returns : goal.returns
returns c =
    c.copied.ensures ∙ (c.get.ensures.value ∙ (default_there c.self.inside.defaults c.self.inside.lists.now c.args.class.now (record { name = c.as_bytes-name.result }) c.self.invariant.defaults c.as_bytes-name.ensures
    ∙ ap (λ lists. default_of lists c.args.class.now) c.self.view_is))
