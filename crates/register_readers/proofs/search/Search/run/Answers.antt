use Rattle.std.proofs.Common.{refl, ◌∙◌}
use Rattle.register_readers.proofs.Running.{runs_first, runs_on}
use Rattle.register_readers.proofs.search.Search.run.Goals as goal

pub loop-pc-init : goal.loop-pc-init
loop-pc-init c = record {
  searched = runs_first c.args.app.now c.args.method c.args.place.register c.args.place.pc c.args.self.now c.add.new.self c.requires.free c.in_ok-add.ensures;
  unlisted = refl;
}

pub loop-pc-preserved : goal.loop-pc-preserved
loop-pc-preserved c = record {
  searched =
      runs_on c.args.app.now c.args.method c.args.place.register c.args.place.pc c.loop-pc.self
      (record { marks = c.loop-pc.self.marks; waiting = c.pop.new.self; done = c.push.new.self }) c.go_on.new.self c.in-Some.pc refl c.in-Some.ensures.items c.in_ok-push.ensures.items
      c.in_ok-go_on.ensures c.loop-pc.invariant.searched;
  unlisted = c.in_ok-visit.ensures.readers ∙ c.loop-pc.invariant.unlisted;
}
