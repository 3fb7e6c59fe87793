-- How large an app may be: the largest numbers of classes, of methods, of fields, and of units of code.
use Rattle.std.specs.Prelude.{ℕ, ◌≤◌, nat_le}
use Rattle.vet_base.specs.Script.{Script, ◌>>=◌, test}
use Rattle.link_listing.specs.declared.fault.Fault.{Fault}
use Rattle.link_listing.specs.declared.fault.Fault.TheVariants.{TooMany}
use Rattle.link_listing.specs.declared.fault.Limit.TheVariants as limits

unfoldable pub within_limits : ℕ → ℕ → ℕ → ℕ → Script Fault (Unit {0})
within_limits classes methods fields units = do
  _ ← test (nat_le classes 100000) (TooMany limits.Classes)
  _ ← test (nat_le methods 400000) (TooMany limits.Methods)
  _ ← test (nat_le fields 400000) (TooMany limits.Fields)
  test (nat_le units 33554432) (TooMany limits.Units)

-- there are no more than that of anything
pub record WithinLimits (classes methods fields units : ℕ) : Type 0 where
  pub few_classes : classes ≤ 100000
  pub few_methods : methods ≤ 400000
  pub few_fields : fields ≤ 400000
  pub few_units : units ≤ 33554432
