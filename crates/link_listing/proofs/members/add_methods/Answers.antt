use Rattle.std.proofs.Common.{rules}
use Rattle.vet_base.specs.Script.{run, Fails}
use Rattle.vet_base.proofs.Throughs.{through_goes_on, through_fails}
use Rattle.link_listing.specs.MemberRows.{nth_method, some_methods}
use Rattle.link_listing.proofs.members.add_methods.Goals as goal

pub loop-i-preserved : goal.loop-i-preserved
loop-i-preserved c = through_goes_on _ _ (nth_method c.args.dex.now c.args.class.now c.args.first) _ c.index-bodies-i.result _ _ c.loop-i-test.true c.index-bodies-i.is c.in_ok-methods.ensures c.loop-i.invariant

pub returns-in_err-methods : goal.returns-in_err-methods
unfolding some_methods
returns-in_err-methods c =
    let fails : Fails c.in_err-methods.field-0.0 (run (some_methods c.args.dex.now c.args.class.now c.args.first c.args.bodies.now c.args.methods.entries)) =
    through_fails _ _ _ (nth_method c.args.dex.now c.args.class.now c.args.first) _ c.index-bodies-i.result _ c.loop-i-test.true c.index-bodies-i.is c.in_err-methods.ensures c.loop-i.invariant in
    search rules
