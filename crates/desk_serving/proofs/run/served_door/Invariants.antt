use Rattle.std.proofs.Common.{◌≡◌, ◌-◌, ◌≤◌}
use Rattle.desk_serving.specs.Obeying.{TellsDocket}
use Rattle.desk_serving.specs.Serving.{outside}
use Rattle.desk_serving.specs.Run.{Takes}
use Rattle.desk_serving.proofs.run.served_door.Given as goal

abbrev pub invariant-loop-taken : goal.invariant-loop-taken
invariant-loop-taken g l = record {
  takes : Takes (g.J.Judge.finds l.desk.judge) l.desk.office (g.J.Judge.edition l.desk.judge) (g.C.Clock.told l.initial.clock)
      (outside (g.K.Keeper.told l.initial.keeper) (g.K.Keeper.fault_count l.initial.keeper) (g.D.Link.told l.initial.door)
      (g.D.Link.fault_count l.initial.door))
      l.taken
      (outside (g.K.Keeper.told l.keeper) (g.K.Keeper.fault_count l.keeper) (g.D.Link.told l.door)
      (g.D.Link.fault_count l.door));
  docket : TellsDocket (g.K.Keeper.told l.keeper);
  within : l.taken ≤ l.most;
  clock : g.C.Clock.told l.clock ≡ g.C.Clock.told l.initial.clock;
  never_falls : g.D.Link.fault_count l.initial.door ≤ g.D.Link.fault_count l.door;
}

abbrev pub decreases-loop-taken : goal.decreases-loop-taken
decreases-loop-taken g l = l.most - l.taken
