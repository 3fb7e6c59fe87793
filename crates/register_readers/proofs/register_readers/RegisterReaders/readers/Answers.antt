use Rattle.std.proofs.Common.{◌∙◌, ap, subst}
use Rattle.register_readers.specs.Found.{places_of_all}
use Rattle.register_readers.specs.Readings.{AreReaders, listed_in, readers_from}
use Rattle.register_readers.proofs.Indexing.{are_readers, exact_from}
use Rattle.register_readers.proofs.register_readers.RegisterReaders.readers.Goals as goal

pub returns-clause-same : goal.returns-clause-same
returns-clause-same c =
    c.readers_in.ensures
    ∙ (ap (λ methods. listed_in (places_of_all methods) c.args.method c.args.register c.args.pc) c.deref.ensures.value
    ∙ ap (λ readings. readers_from readings c.args.method c.args.register c.args.pc) c.self.view_is)

pub returns-clause-exact : goal.returns-clause-exact
returns-clause-exact c = λ asked u.
    exact_from c.args.self.now (subst AreReaders c.self.view_is (are_readers c.self.inside.app.now c.self.inside.methods.items c.self.invariant)) c.args.method c.args.register c.args.pc asked
    c.readers_in.result.now (returns-clause-same c) u
