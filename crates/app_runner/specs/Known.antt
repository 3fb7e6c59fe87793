-- When what is known beside the state serves it.
use Rattle.app_machine.specs.State.{World}
use Rattle.app_runner.specs.declared.stepping.Known.{Known}
use Rattle.played_growth.specs.Growth.{classes_of}
use Rattle.played_machine.specs.Reading.{handed_places}
use Rattle.runner_below.specs.Kept.{AreBelow}
use Rattle.runner_menu.specs.Menus.{Fits}
use Rattle.runner_steps.specs.declared.ground.Ground.{Ground}

pub record Serves (ground : Ground) (w : World) (known : Known) : Type 0 where
  pub menu : Fits ground.app.now ground.lists.now (classes_of w.heap) (handed_places w.handed) known.menu
  pub belows : AreBelow ground.app.now ground.lists.now (classes_of w.heap) (handed_places w.handed) known.belows
