-- How sites and paths are read.
use Rattle.std.specs.Prelude.{ℕ, zero, suc, ◌==◌, ◌%◌, Bool, false, List, [], nat_le, if◌then◌else◌}
use Rattle.vet_base.specs.Script.{Value, Test, ◌>>=◌, test}
use Rattle.vet_base.specs.declared.key_id.KeyId.{KeyId}
use Rattle.access_path.specs.declared.keys.Keys.TheVariants.{Zero}
use Rattle.access_path.specs.declared.keys.TheConstants.{MOST_KEYS}
use Rattle.access_path.specs.declared.path.Path.{Path}
use Rattle.access_path.specs.Paths.{cut}
use Rattle.fact_rows.specs.declared.site.Site.{Site}
use Rattle.fact_rows.specs.declared.site.Site.TheVariants.{At, Param, Component, Shared, Made}
use Rattle.cert_rows.specs.declared.fault.RowFault.TheVariants.{Bad}
use Rattle.cert_rows.specs.declared.sets.Set.{Set}
use Rattle.cert_rows.specs.Reading.{From, with, of_cells, byte_from, u4_from, two_from, ctx_from, node_from}

unfoldable pub param_from : List ℕ → From Site
param_from bytes = do
  c ← ctx_from bytes
  i ← u4_from c.1
  Value (Param c.0 i.0, i.1)

-- a method and an address, in whatever context
unfoldable pub made_from : Set → List ℕ → From Site
made_from set bytes = of_cells set (with (λ p. Made p.0 p.1) (two_from bytes))

unfoldable pub site_of : Set → ℕ → List ℕ → From Site
site_of set kind bytes =
    if kind == 0 then with At (node_from bytes) else
    if kind == 1 then param_from bytes else
    if kind == 2 then with Component (u4_from bytes) else
    if kind == 3 then with Shared (u4_from bytes) else
    if kind == 4 then made_from set bytes else
    Test false Bad (Value (Component 0, []))

unfoldable pub site_from : Set → List ℕ → From Site
site_from set bytes = do
  kind ← byte_from bytes
  site_of set kind.0 kind.1

-- a path without keys
abbrev pub bare : Bool → Path
bare is_open = record { is_open = is_open; keys = Zero }

abbrev pub key : ℕ → KeyId
key k = record { 0 = k }

-- a path of so many keys
unfoldable pub keys_from : Bool → ℕ → List ℕ → From Path
keys_from is_open zero bytes = Value (bare is_open, bytes)
keys_from is_open (suc count) bytes = do
  first ← u4_from bytes
  others ← keys_from is_open count first.1
  Value (cut (key first.0) others.0, others.1)

-- how many keys there are, plus 128 where the path is open, and then the keys
unfoldable pub path_from : List ℕ → From Path
path_from bytes = do
  first ← byte_from bytes
  _ ← test (nat_le (first.0 % 128) MOST_KEYS) Bad
  keys_from (nat_le 128 first.0) (first.0 % 128) first.1
