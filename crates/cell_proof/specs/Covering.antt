-- That tables of the second rules cover every run of an app.
use Rattle.std.specs.Prelude.{List}
use Rattle.app_machine.specs.declared.app.App.{App}
use Rattle.app_machine.specs.declared.lists.Lists.{Lists}
use Rattle.app_machine.specs.Sound.{SoundApp}
use Rattle.vet_base.specs.Members.{In}
use Rattle.fact_rows.specs.declared.row.Row.{Row}
use Rattle.flow_proof.specs.Covering.{CoversEveryRun}
use Rattle.cell_rules.specs.Rules.{GoodTable}

abbrev pub EveryGoodCellTableCoversEveryRun : Type 0
EveryGoodCellTableCoversEveryRun =
    (app : App) (lists : Lists) (table : List Row) →
    SoundApp app →
    GoodTable app lists table →
    CoversEveryRun app lists (λ row. In row table)
