-- Each static field that an instruction names, as the field that it stands for, once and in order.
use Rattle.std.specs.Prelude.{◌↔◌, ℕ, List, [], ◌∷◌, flat_map, Option, Some, None, slice_get}
use Rattle.dex_tables.specs.declared.dex.Dex.{Dex}
use Rattle.dex_code.specs.declared.insn.Insn.{Insn}
use Rattle.dex_code.specs.declared.names.Naming.{Naming}
use Rattle.dex_code.specs.declared.names.Naming.TheVariants as naming
use Rattle.dex_code.specs.Acts.{naming_of}
use Rattle.dex_code.specs.Lines.{Line}
use Rattle.app_machine.specs.declared.app.App.{App}
use Rattle.vet_base.specs.Members.{In}
use Rattle.vet_base.specs.Ascending.{Ascends}
use Rattle.link_code.specs.declared.coded.Coded.{Coded}
use Rattle.link_listing.specs.Texts.{Triple, field_of}
use Rattle.link_listing.specs.MemberRows.{Fields}
use Rattle.link_listing.specs.Orders.{triple_order}
use Rattle.link_code.specs.Statics.{resolved}

abbrev pub static_among : Naming → Option ℕ
static_among (naming.StaticField i) = Some i
static_among needed = None

-- the field of a static that the instruction names
unfoldable pub static_index : Insn → Option ℕ
static_index insn = static_among (naming_of insn)

-- the field for which the static stands that the line names
unfoldable pub static_in_line : App → Fields → Dex → Line → List Triple
static_in_line app fields dex line = elim (static_index line.1) [ None ↦ [] | Some i ↦ resolved app fields (field_of dex i) ∷ [] ]

unfoldable pub statics_in_method : App → Fields → List Dex → Coded → List Triple
statics_in_method app fields dexes method = elim (slice_get dexes method.dex) [ None ↦ [] | Some dex ↦ flat_map (static_in_line app fields dex) method.decoded.lines ]

-- the fields of all lines of all methods, each as often as it is named
unfoldable pub statics_named : App → Fields → List Dex → List Coded → List Triple
statics_named app fields dexes coded = flat_map (statics_in_method app fields dexes) coded

-- the same fields, each once and in order
pub record AreStatics (app : App) (fields : Fields) (dexes : List Dex) (coded : List Coded) (statics : List Triple) : Type 0 where
  pub order : Ascends triple_order statics
  pub each : (field : Triple) → In field statics ↔ In field (statics_named app fields dexes coded)
