use Rattle.vet_base.proofs.Eaches.{each_is_done}
use Rattle.link_code.specs.Code.{all_codes}
use Rattle.link_code.proofs.coded.add_rows.Goals as goal

pub returns : goal.returns
unfolding all_codes
returns c = each_is_done _ _ _ _ _ c.loop-entry-test.false c.loop-entry.invariant
