-- Whether one of some registers is this one.
use Rattle.std.proofs.lemmas.List.Folds.{list_any-append}
use Rattle.std.proofs.Math.Bool.{or-false}

pub ruleset holds_register = (list_any-append, or-false)
