use Rattle.std.proofs.Common.{◌≡◌, ◌+◌, take}
use Rattle.std.specs.List.{sum_by}
use Rattle.dex_maker.specs.Classes.{class_width}
use Rattle.dex_maker.proofs.limits.after_classes.Given as goal

abbrev pub invariant-loop-class : goal.invariant-loop-class
invariant-loop-class l = l.left + sum_by class_width (take l.class-index l.classes) ≡ l.budget
