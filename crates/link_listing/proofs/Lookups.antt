-- Look-ups by name, and tests taken apart.
use Rattle.std.proofs.Common.{◌≡◌, true, ap}
use Rattle.std.specs.Ordering.{is_eq}
use Rattle.std.specs.BTreeMap.{is_at}
use Rattle.std.proofs.lemmas.Cmp.{nat_list_cmp_total, tied_itself}
use Rattle.app_machine.specs.Names.{Name}
use Rattle.app_machine.specs.Sound.{name_order}

pub at_itself : (name : Name) → is_at (name_order name) name ≡ true
at_itself name = ap is_eq (tied_itself nat_list_cmp_total name)
