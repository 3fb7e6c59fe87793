use Rattle.std.proofs.Common.{◌≡◌, ◌++◌, take, map, filter}
use Rattle.device_causes.specs.Hidden.{method_named}
use Rattle.device_causes.specs.Clicks.{is_odd_click}
use Rattle.device_causes.proofs.clicks.add_clicks.Given as goal

abbrev pub invariant-loop-method : goal.invariant-loop-method
invariant-loop-method l = l.found.items ≡ l.initial.found.items ++ map (method_named l.name) (filter (is_odd_click l.app l.lists l.name) (take l.method-index l.class.methods))
