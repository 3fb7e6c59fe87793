-- The methods of the app, with their steps.
use Rattle.std.specs.Prelude.{◌≤◌, List, [], map, Some, None, slice_get}
use Rattle.dex_tables.specs.declared.dex.Dex.{Dex}
use Rattle.dex_code.specs.Find.{Ascend}
use Rattle.app_machine.specs.declared.app.App.{App}
use Rattle.app_machine.specs.declared.method.Method.{Method}
use Rattle.app_machine.specs.declared.method.Step.{Step}
use Rattle.vet_base.specs.Members.{In}
use Rattle.link_code.specs.declared.coded.Coded.{Coded}
use Rattle.link_listing.specs.Texts.{Triple}
use Rattle.link_listing.specs.MemberRows.{Fields}
use Rattle.link_code.specs.Lift.{steps_of}

unfoldable pub steps_in : App → Fields → List Triple → List Dex → Coded → List Step
steps_in app fields statics dexes coded = elim (slice_get dexes coded.dex) [ None ↦ [] | Some dex ↦ steps_of app fields statics dex coded.decoded.tries coded.decoded.lines coded.decoded.lines ]

unfoldable pub lifted : App → Fields → List Triple → List Dex → Coded → Method
lifted app fields statics dexes coded = record {
  at = coded.at;
  is_static = coded.is_static;
  is_native = coded.is_native;
  registers = coded.registers;
  ins = coded.ins;
  steps = steps_in app fields statics dexes coded;
}

unfoldable pub all_methods : App → Fields → List Triple → List Dex → List Coded → List Method
all_methods app fields statics dexes coded = map (lifted app fields statics dexes) coded

-- the lines of each stand by ascending pc
pub record InOrder (coded : List Coded) : Type 0 where
  pub each : (c : Coded) → In c coded → Ascend c.decoded.lines

-- the registers of each can be numbered in 16 bits
pub record Narrow (methods : List Method) : Type 0 where
  pub each : (m : Method) → In m methods → m.registers ≤ 65535
