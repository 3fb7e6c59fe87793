use Rattle.std.proofs.Common.{Option, take, drop, subst, sym, arith, length-drop}
use Rattle.std.proofs.lemmas.List.{take_rest}
use Rattle.desk_links.specs.Links.{Told}
use Rattle.desk_http.specs.Replies.{Wrote}
use Rattle.desk_http.proofs.Writing.{wrote_nothing, wrote_some, wrote_more, wrote_all}
use Rattle.desk_client.proofs.one_try.write_all.Goals as goal

pub loop-done-init : goal.loop-done-init
loop-done-init g c = record { within = omega arith; never_falls = omega arith; wrote = wrote_nothing (g.L.Link.told c.args.link.now) }

pub loop-done-preserved : goal.loop-done-preserved
loop-done-preserved g c =
    let before = g.L.Link.told c.loop-done.link in
    let after = g.L.Link.told c.write.new.self in
    record {
      within = omega (arith, c.in-Ok.ensures.front.within, length-drop c.loop-done.done c.args.bytes.now);
      never_falls = omega (arith, c.loop-done.invariant.never_falls, c.write.ensures.never_falls);
      wrote = wrote_more (g.L.Link.told c.args.link.now) before after c.args.bytes.now c.loop-done.done c.in-Ok.count c.loop-done.invariant.wrote
          (wrote_some before after (take c.in-Ok.count (drop c.loop-done.done c.args.bytes.now)) (rw (take_rest c.args.bytes.now c.loop-done.done) at c.in-Ok.ensures.told));
    }

pub returns-in-Err-clause-front : goal.returns-in-Err-clause-front
returns-in-Err-clause-front g c =
    (c.loop-done.done, c.loop-done.invariant.within, subst (λ (told : Option Told). Wrote (g.L.Link.told c.args.link.now) told (take c.loop-done.done c.args.bytes.now)) (sym c.in-Err.ensures.told) c.loop-done.invariant.wrote)

pub returns-clause-all : goal.returns-clause-all
returns-clause-all g c =
    wrote_all (g.L.Link.told c.args.link.now) (g.L.Link.told c.loop-done.link) c.args.bytes.now c.loop-done.done (omega arith) c.loop-done.invariant.wrote
