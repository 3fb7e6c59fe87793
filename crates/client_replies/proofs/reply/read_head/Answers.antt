use Rattle.std.proofs.Common.{[], List, ℕ, subst, sym, arith}
use Rattle.std.proofs.lemmas.Grind.{common_steps}
use Rattle.desk_http.specs.Came.{Takes}
use Rattle.desk_http.proofs.Coming.{takes_nothing, takes_more}
use Rattle.desk_http.proofs.Ends.{no_end_yet}
use Rattle.client_replies.proofs.reply.read_head.Goals as goal

pub loop-bytes-init : goal.loop-bytes-init
loop-bytes-init g c = record {
  takes = subst (λ (xs : List ℕ). Takes (g.L.Link.told c.args.link.now) [] (g.L.Link.told c.args.link.now) xs) (sym c.requires) (takes_nothing (g.L.Link.told c.args.link.now) []);
  none = no_end_yet c.args.bytes.now.items _ c.requires;
  within = grind (arith, common_steps);
  never_falls = omega arith;
}

pub loop-bytes-preserved : goal.loop-bytes-preserved
loop-bytes-preserved g c = record {
  takes = takes_more (g.L.Link.told c.args.link.now) (g.L.Link.told c.loop-bytes.link) (g.L.Link.told c.read_more.new.link) [] c.loop-bytes.bytes.items c.read_more.new.bytes.items c.loop-bytes.invariant.takes c.read_more.ensures.takes;
  none = grind (arith, common_steps);
  within = omega (arith, c.read_more.ensures.within);
  never_falls = omega (arith, c.loop-bytes.invariant.never_falls, c.read_more.ensures.never_falls);
}

pub returns-in-Err-clause-takes : goal.returns-in-Err-clause-takes
returns-in-Err-clause-takes g c =
    takes_more (g.L.Link.told c.args.link.now) (g.L.Link.told c.loop-bytes.link) (g.L.Link.told c.read_more.new.link) [] c.loop-bytes.bytes.items c.read_more.new.bytes.items c.loop-bytes.invariant.takes c.read_more.ensures.takes

pub returns-in-Ok-false-clause-takes : goal.returns-in-Ok-false-clause-takes
returns-in-Ok-false-clause-takes g c =
    takes_more (g.L.Link.told c.args.link.now) (g.L.Link.told c.loop-bytes.link) (g.L.Link.told c.read_more.new.link) [] c.loop-bytes.bytes.items c.read_more.new.bytes.items c.loop-bytes.invariant.takes c.read_more.ensures.takes

pub returns-in-Some-clause-takes : goal.returns-in-Some-clause-takes
returns-in-Some-clause-takes g c =
    takes_more (g.L.Link.told c.args.link.now) (g.L.Link.told c.loop-bytes.link) (g.L.Link.told c.read_more.new.link) [] c.loop-bytes.bytes.items c.read_more.new.bytes.items c.loop-bytes.invariant.takes c.read_more.ensures.takes
