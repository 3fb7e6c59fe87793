-- A target as the value that the machine's definitions have.
use Rattle.app_model.specs.declared.answers.Target.{Target}
use Rattle.app_model.specs.declared.answers.Target.TheVariants as target
use Rattle.app_machine.specs.Lookups as lookups

abbrev pub shown_target : Target → lookups.Target
shown_target (target.Body body) = lookups.Body body
shown_target (target.Library class) = lookups.Library class.now
shown_target target.Nothing = lookups.Nothing
