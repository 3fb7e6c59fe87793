use Rattle.std.proofs.Common.{◌≡◌, ℕ, Bool, true, Option, Result, Ok, refl, sym, ap, subst, ◌∙◌, inl, inr, arith, false}
use Rattle.desk_links.specs.declared.door.DoorFault.{DoorFault}
use Rattle.desk_links.specs.Links.{Opens}
use Rattle.desk_serving.specs.Serving.{outside, Serves}
use Rattle.desk_serving.specs.Run.{begins, goes_on}
use Rattle.desk_serving.proofs.run.served_door.Goals as goal

pub loop-taken-init : goal.loop-taken-init
loop-taken-init g c = record {
  takes = begins;
  docket = c.requires.docket;
  within = omega arith;
  clock = refl;
  never_falls = omega arith;
}

pub loop-taken-preserved : goal.loop-taken-preserved
loop-taken-preserved g c =
    let before = outside (g.K.Keeper.told c.loop-taken.keeper) (g.K.Keeper.fault_count c.loop-taken.keeper)
    (g.D.Link.told c.loop-taken.door) (g.D.Link.fault_count c.loop-taken.door) in
    let opened = outside (g.K.Keeper.told c.loop-taken.keeper) (g.K.Keeper.fault_count c.loop-taken.keeper)
    (g.D.Link.told c.next.new.self) (g.D.Link.fault_count c.next.new.self) in
    let after = outside (g.K.Keeper.told c.serve_one.new.keeper) (g.K.Keeper.fault_count c.serve_one.new.keeper)
    (g.D.Link.told c.serve_one.new.link) (g.D.Link.fault_count c.serve_one.new.link) in
    record {
      takes = goes_on c.loop-taken.taken before opened after c.serve_one.result c.loop-taken.invariant.takes
          (record { cases = refl; store = refl; link = c.next.ensures.never_falls })
          (subst (λ (r : Result Bool DoorFault). Opens before.talk opened.talk r) (c.in-Ok-true.is ∙ ap (λ (b : Bool). Ok b) c.in-Ok-true.field-0-test) c.next.ensures.told)
          (subst (λ (today : Option ℕ). Serves (g.J.Judge.finds c.args.desk.now.judge) c.args.desk.now.office
          (g.J.Judge.edition c.args.desk.now.judge) today opened after c.serve_one.result)
          c.loop-taken.invariant.clock c.serve_one.ensures.serves);
      docket = c.serve_one.ensures.docket;
      within = omega arith;
      clock = c.serve_one.ensures.clock ∙ c.loop-taken.invariant.clock;
      never_falls = omega (arith, c.loop-taken.invariant.never_falls, c.next.ensures.never_falls, c.serve_one.ensures.link_never_falls);
    }

pub returns-in-Ok-false-clause-runs : goal.returns-in-Ok-false-clause-runs
returns-in-Ok-false-clause-runs g c = record {
  n = c.loop-taken.taken;
  last = outside (g.K.Keeper.told c.loop-taken.keeper) (g.K.Keeper.fault_count c.loop-taken.keeper)
      (g.D.Link.told c.loop-taken.door) (g.D.Link.fault_count c.loop-taken.door);
  takes = c.loop-taken.invariant.takes;
  stops = (
    refl,
    inr (
      omega (arith, c.loop-taken-test.true),
      record { cases = refl; store = refl; link = c.next.ensures.never_falls },
      subst (λ (r : Result Bool DoorFault). Opens (g.D.Link.told c.loop-taken.door) (g.D.Link.told c.next.new.self) r)
          (c.in-Ok-false.is ∙ ap (λ (b : Bool). Ok b) c.in-Ok-false.field-0-test) c.next.ensures.told,
    ),
  );
}

pub returns-in-Err-clause-runs : goal.returns-in-Err-clause-runs
returns-in-Err-clause-runs g c = record {
  n = c.loop-taken.taken;
  last = outside (g.K.Keeper.told c.loop-taken.keeper) (g.K.Keeper.fault_count c.loop-taken.keeper)
      (g.D.Link.told c.loop-taken.door) (g.D.Link.fault_count c.loop-taken.door);
  takes = c.loop-taken.invariant.takes;
  stops = (
    omega (arith, c.loop-taken-test.true),
    record { cases = refl; store = refl; link = c.next.ensures.never_falls },
    subst (λ (r : Result Bool DoorFault). Opens (g.D.Link.told c.loop-taken.door) (g.D.Link.told c.next.new.self) r)
        c.in-Err.is c.next.ensures.told,
  );
}

pub returns-clause-runs : goal.returns-clause-runs
returns-clause-runs g c = record {
  n = c.loop-taken.taken;
  last = _;
  takes = c.loop-taken.invariant.takes;
  stops = (refl, inl (omega (arith, c.loop-taken.invariant.within, c.loop-taken-test.false), refl));
}
