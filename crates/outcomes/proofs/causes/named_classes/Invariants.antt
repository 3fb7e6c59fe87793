use Rattle.std.proofs.Common.{◌≡◌, take, filter}
use Rattle.outcomes.specs.Causes.{is_app_class}
use Rattle.outcomes.proofs.causes.named_classes.Given as goal

abbrev pub invariant-loop-class : goal.invariant-loop-class
invariant-loop-class l = l.named.items ≡ filter (is_app_class l.app) (take l.class-index l.app.layout_classes)
