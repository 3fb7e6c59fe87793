-- Small facts about rows and nodes: the parts of some rows, the numbers of their kinds, and the contexts that calls make.
use Rattle.std.specs.Prelude.{◌≡◌, ℕ, [], ◌∷◌}
use Rattle.std.specs.declared.cmp.Ordering.TheVariants.{Less}
use Rattle.vet_base.specs.declared.key_id.KeyId.{KeyId}
use Rattle.fact_rows.specs.declared.context.Ctx.{Ctx}
use Rattle.fact_rows.specs.declared.context.Ctx.TheVariants as ctx
use Rattle.fact_rows.specs.declared.context.Activation.{Activation}
use Rattle.fact_rows.specs.declared.context.Node.{Node}
use Rattle.fact_rows.specs.declared.site.Site.{Site}
use Rattle.fact_rows.specs.declared.row.Row.TheVariants.{Points, Back, StaticPoints}
use Rattle.fact_rows.specs.declared.field.Field.TheVariants as f
use Rattle.fact_rows.specs.declared.kind.Kind.TheVariants as kind
use Rattle.fact_rows.specs.Fields.{front_cmp}
use Rattle.fact_rows.specs.Kinds.{number_of}
use Rattle.fact_rows.specs.Parts.{parts_of}
use Rattle.fact_rows.specs.Contexts.{IsEvent}
use Rattle.flow_rules.specs.Nodes.{at_pc, entry, pushed, callee}

abbrev pub first_node : Node
first_node = record { by = record { ctx = ctx.Row 0 0; method = 0 }; pc = 0 }

-- The parts of a row leave nothing out and stand in the order of the row, and the first kind has the number 1. Rows
-- of one node are told apart by the register.
pub record PartsTell (n : Node) (r : ℕ) (s t : Site) (k : KeyId) (g : ℕ) : Type 0 where
  pub register : (parts_of (Points n r s)).fields ≡ f.Node n ∷ f.Register n r ∷ f.Site s ∷ []
  pub held : (parts_of (Back t k s)).fields ≡ f.Site t ∷ f.Key k ∷ f.Site s ∷ []
  pub of_static : (parts_of (StaticPoints g s)).kind ≡ kind.StaticPoints
  pub first : number_of kind.Reached ≡ 1
  pub by_register : front_cmp (f.Node first_node ∷ f.Register first_node 1 ∷ []) (f.Node first_node ∷ f.Register first_node 2 ∷ []) ≡ Less

abbrev pub RowsTell : Type 0
RowsTell = (n : Node) (r : ℕ) (s t : Site) (k : KeyId) (g : ℕ) → PartsTell n r s t k g

-- A call from an event's own method is the one call of the context, and one from a called method is the last of two. A body is
-- entered at its start in the pushed context.
pub record CallsPush (method pc last at before at_before body : ℕ) (c : Ctx) (n : Node) (a : Activation) : Type 0 where
  pub from_event : IsEvent c → pushed c method pc ≡ ctx.Call method pc
  pub from_one : pushed (ctx.Call last at) method pc ≡ ctx.Call2 method pc last at
  pub from_two : pushed (ctx.Call2 last at before at_before) method pc ≡ ctx.Call2 method pc last at
  pub in_pushed : (callee n body).ctx ≡ pushed n.by.ctx n.by.method n.pc
  pub at_start : (entry a).pc ≡ 0
  pub there : (at_pc n pc).pc ≡ pc

abbrev pub NodesTell : Type 0
NodesTell = (method pc last at before at_before body : ℕ) (c : Ctx) (n : Node) (a : Activation) → CallsPush method pc last at before at_before body c n a
