-- The bytes of a row, one that no certificate has among them, and the same in certificates of either set: a byte for its kind, and then its fields. Numbers have four bytes,
-- the low one first; kinds, categories and states have one.
use Rattle.std.specs.Prelude.{ℕ, ◌/◌, ◌%◌, List, [], ◌∷◌, ◌++◌, map}
use Rattle.std.specs.List.{flat_map}
use Rattle.fact_rows.specs.declared.context.Ctx.{Ctx}
use Rattle.fact_rows.specs.declared.context.Activation.{Activation}
use Rattle.fact_rows.specs.declared.context.Node.{Node}
use Rattle.fact_rows.specs.declared.site.Site.{Site}
use Rattle.fact_rows.specs.declared.site.Site.TheVariants.{At, Param, Component, Shared, Made}
use Rattle.vet_base.specs.declared.key_id.KeyId.{KeyId}
use Rattle.access_path.specs.declared.path.Path.{Path}
use Rattle.access_path.specs.Order.{numbers_of_path}
use Rattle.app_machine.specs.declared.lists.SummaryId.{SummaryId}
use Rattle.fact_rows.specs.declared.field.Field.{Field}
use Rattle.fact_rows.specs.declared.field.Field.TheVariants as field
use Rattle.fact_rows.specs.declared.row.Row.{Row}
use Rattle.fact_rows.specs.Kinds.{number_of}
use Rattle.fact_rows.specs.Parts.{parts_of}
use Rattle.fact_rows.specs.Order.{numbers_of_ctx, numbers_of_use}

abbrev pub u4_bytes : ℕ → List ℕ
u4_bytes n = n % 256 ∷ n / 256 % 256 ∷ n / 65536 % 256 ∷ n / 16777216 % 256 ∷ []

-- a kind, and numbers behind it
abbrev pub tagged : List ℕ → List ℕ
tagged [] = []
tagged (kind ∷ numbers) = kind ∷ flat_map u4_bytes numbers

unfoldable pub ctx_bytes : Ctx → List ℕ
ctx_bytes c = tagged (numbers_of_ctx c)

abbrev pub activation_bytes : Activation → List ℕ
activation_bytes a = ctx_bytes a.ctx ++ u4_bytes a.method

abbrev pub node_bytes : Node → List ℕ
node_bytes n = activation_bytes n.by ++ u4_bytes n.pc

unfoldable pub site_bytes : Site → List ℕ
site_bytes (At n) = 0 ∷ node_bytes n
site_bytes (Param c i) = 1 ∷ (ctx_bytes c ++ u4_bytes i)
site_bytes (Component c) = 2 ∷ u4_bytes c
site_bytes (Shared g) = 3 ∷ u4_bytes g
site_bytes (Made m pc) = tagged (4 ∷ m ∷ pc ∷ [])

abbrev pub keys_bytes : List KeyId → List ℕ
keys_bytes keys = flat_map u4_bytes (map (λ (k : KeyId). k.0) keys)

unfoldable pub path_bytes : Path → List ℕ
path_bytes p = tagged (numbers_of_path p)

unfoldable pub use_bytes : SummaryId → List ℕ
use_bytes u = tagged (numbers_of_use u)

unfoldable pub field_bytes : Field → List ℕ
field_bytes (field.Node n) = node_bytes n
field_bytes (field.Register n r) = u4_bytes r
field_bytes (field.Activation a) = activation_bytes a
field_bytes (field.Site s) = site_bytes s
field_bytes (field.Key k) = u4_bytes k.0
field_bytes (field.Path p) = path_bytes p
field_bytes (field.Category l) = l ∷ []
field_bytes (field.Static g) = u4_bytes g
field_bytes (field.Exit how) = how ∷ []
field_bytes (field.Component c) = u4_bytes c
field_bytes (field.State c state) = state ∷ []
field_bytes (field.Cause cause) = cause ∷ []
field_bytes (field.Use u) = use_bytes u
field_bytes (field.Label l) = l ∷ []

-- the number of the kind, and then the fields
unfoldable pub row_bytes : Row → List ℕ
row_bytes row = number_of (parts_of row).kind ∷ flat_map field_bytes (parts_of row).fields
