use Rattle.std.proofs.Common.{ap, ◌∙◌}
use Rattle.register_readers.specs.Searched.{readers_among}
use Rattle.register_readers.proofs.Running.{just_readers}
use Rattle.register_readers.proofs.search.Search.readers.Goals as goal

pub returns-clause-exact : goal.returns-clause-exact
returns-clause-exact c =
    just_readers c.args.app.now c.args.method c.args.place.register c.args.place.pc c.readers_are_met.ensures c.run.new.self.done.items c.in_ok-readers.readers.items c.in_ok-run.ensures.met
    (c.in_ok-readers.ensures ∙ ap (readers_among c.args.app.now c.args.method c.args.place.register) c.deref-2.ensures.value)
