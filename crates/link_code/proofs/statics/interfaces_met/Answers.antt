use Rattle.std.proofs.Common.{◌≡◌, ◌<◌, ◌≤◌, length, get_or, sym, ◌∙◌, arith}
use Rattle.std.specs.Prelude.{flat_map}
use Rattle.link_code.specs.Statics.{own_interfaces}
use Rattle.link_code.proofs.Meeting.{meets_first, meets_next, meets_all, meets_no_more, few_met}
use Rattle.link_code.proofs.statics.interfaces_met.Goals as goal

pub loop-i-init : goal.loop-i-init
loop-i-init c = record {
  same = c.in_ok-add_all.ensures.same;
  meets = meets_first c.args.app.now c.args.class.now c.new-names.result.items c.deref.result.now c.add_all.new.outer.items c.new-names.ensures.items (c.deref.ensures.value ∙ c.in_ok-first.ensures) c.in_ok-add_all.ensures.names;
}

pub loop-i-smaller : goal.loop-i-smaller
loop-i-smaller c =
    let few : length c.loop-i.names.items ≤ length (flat_map own_interfaces c.args.app.now.classes) = few_met c.args.app.now c.args.class.now c.loop-i.i c.loop-i.names.items c.loop-i.invariant.meets in
    let more : c.loop-i.i < length c.loop-i.names.items = omega (arith, c.len.ensures, c.loop-i-test.true) in
    omega (arith, few, more)

pub loop-i-preserved : goal.loop-i-preserved
loop-i-preserved c =
    let item : c.in_ok-name.name ≡ get_or c.loop-i.names.items c.loop-i.i c.in_ok-name.name = rw c.in_ok-name.ensures c.index.ensures in
    let more : c.loop-i.i < length c.loop-i.names.items = omega (arith, c.len.ensures, c.loop-i-test.true) in
    record {
      same = c.in_ok-add_interfaces.ensures.same;
      meets = meets_next c.args.app.now c.args.class.now c.loop-i.i c.loop-i.names.items c.loop-i.invariant.meets c.in_ok-name.name c.add_interfaces.new.names.items more item c.in_ok-add_interfaces.ensures.names;
    }

pub returns-clause-met : goal.returns-clause-met
returns-clause-met c =
    let past : length c.loop-i.names.items ≤ c.loop-i.i = omega (arith, c.len.ensures, c.loop-i-test.false) in
    meets_all c.args.app.now c.args.class.now c.loop-i.i c.loop-i.names.items c.loop-i.invariant.meets past

pub returns-clause-no_more : goal.returns-clause-no_more
returns-clause-no_more c =
    let past : length c.loop-i.names.items ≤ c.loop-i.i = omega (arith, c.len.ensures, c.loop-i-test.false) in
    sym (meets_no_more c.args.app.now c.args.class.now c.loop-i.i c.loop-i.names.items c.loop-i.invariant.meets past)
