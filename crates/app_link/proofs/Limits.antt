-- The tests of the limits hold exactly where there is not too much of anything.
use Rattle.std.proofs.Common.{◌≡◌, ◌<◌, ◌≤◌, ℕ, min, Bool, Ok, List, ap, arith, ◌∙◌}
use Rattle.std.specs.Prelude.{nat_le}
use Rattle.vet_base.specs.Script.{Script, Value, Test, run}
use Rattle.link_listing.specs.declared.fault.Fault.{Fault}
use Rattle.link_listing.specs.declared.fault.Fault.TheVariants.{TooMany}
use Rattle.link_listing.specs.declared.fault.Limit.TheVariants as limits
use Rattle.link_code.specs.declared.coded.Coded.{Coded}
use Rattle.link_code.specs.SoFar.{SoFar, lines_in}
use Rattle.app_link.specs.Limits.{within_limits, WithinLimits}
use Rattle.std.proofs.lemmas.Bool.{leb-true, le-leb}
use Rattle.std.proofs.lemmas.Bool.Decides.{nat_tests}
use Rattle.vet_base.proofs.Runs.{test_ok, test_passes}

abbrev from_units : ℕ → Script Fault (Unit {0})
from_units units = Test (nat_le units 33554432) (TooMany limits.Units) (Value tt)

abbrev from_fields : ℕ → ℕ → Script Fault (Unit {0})
from_fields fields units = Test (nat_le fields 400000) (TooMany limits.Fields) (from_units units)

abbrev from_methods : ℕ → ℕ → ℕ → Script Fault (Unit {0})
from_methods methods fields units = Test (nat_le methods 400000) (TooMany limits.Methods) (from_fields fields units)

pub limits_stand : (classes methods fields units : ℕ) → run (within_limits classes methods fields units) ≡ Ok tt → WithinLimits classes methods fields units
unfolding within_limits
limits_stand classes methods fields units e =
    let c = test_ok (nat_le classes 100000) (TooMany limits.Classes) (from_methods methods fields units) tt e in
    let m = test_ok (nat_le methods 400000) (TooMany limits.Methods) (from_fields fields units) tt c.1 in
    let f = test_ok (nat_le fields 400000) (TooMany limits.Fields) (from_units units) tt m.1 in
    let u = test_ok (nat_le units 33554432) (TooMany limits.Units) (Value tt) tt f.1 in
    record { few_classes = leb-true classes 100000 c.0; few_methods = leb-true methods 400000 m.0; few_fields = leb-true fields 400000 f.0; few_units = leb-true units 33554432 u.0 }

pub limits_run : (classes methods fields units : ℕ) → WithinLimits classes methods fields units → run (within_limits classes methods fields units) ≡ Ok tt
unfolding within_limits
limits_run classes methods fields units few =
    test_passes (nat_le classes 100000) (TooMany limits.Classes) (from_methods methods fields units) (le-leb classes 100000 few.few_classes)
    ∙ (test_passes (nat_le methods 400000) (TooMany limits.Methods) (from_fields fields units) (le-leb methods 400000 few.few_methods)
    ∙ (test_passes (nat_le fields 400000) (TooMany limits.Fields) (from_units units) (le-leb fields 400000 few.few_fields)
    ∙ test_passes (nat_le units 33554432) (TooMany limits.Units) (Value tt) (le-leb units 33554432 few.few_units)))

same_test : (units total most : ℕ) → units ≡ min total most → 33554432 < most → nat_le units 33554432 ≡ nat_le total 33554432
same_test units total most e h = grind (arith, nat_tests)

-- a count of units that stays at its largest is within the limit just where the sum is
pub same_limits : (classes methods fields units total : ℕ) → units ≡ min total 18446744073709551615 → within_limits classes methods fields units ≡ within_limits classes methods fields total
unfolding within_limits
same_limits classes methods fields units total e =
    ap (λ (b : Bool). Test (nat_le classes 100000) (TooMany limits.Classes) (Test (nat_le methods 400000) (TooMany limits.Methods) (Test (nat_le fields 400000) (TooMany limits.Fields) (Test b (TooMany limits.Units) (Value tt)))))
    (same_test units total 18446744073709551615 e (omega arith))

-- within the limit there are no more lines than that
pub few_lines : (coded : List Coded) (units total : ℕ) → units ≡ min total 18446744073709551615 → units ≤ 33554432 → SoFar coded total → SoFar coded 33554432
few_lines coded units total e few so_far = let lines : lines_in coded ≤ total = so_far.few in record { order = so_far.order; few = omega (arith, e, few, lines) }
