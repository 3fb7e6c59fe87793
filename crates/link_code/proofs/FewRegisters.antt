-- A call with fewer registers than parameters has not those that its reference takes.
use Rattle.std.proofs.Common.{◌≡◌, ℕ, ◌+◌, ◌<◌, ◌≤◌, Bool, true, false, List, [], ◌∷◌, length, arith}
use Rattle.std.specs.Prelude.{◌==◌, if◌then◌else◌}
use Rattle.std.proofs.lemmas.Bool.Decides.{nat_tests}
use Rattle.app_machine.specs.declared.call.Proto.{Proto}
use Rattle.app_machine.specs.Names.{Name, is_wide, widths}
use Rattle.app_machine.specs.Sound.{taken}

one_at_least : (b : Bool) (n m : ℕ) → n ≤ m → 1 + n ≤ (if b then 2 else 1) + m
one_at_least true n m le = omega arith
one_at_least false n m le = omega arith

each_takes_one : (types : List Name) → length types ≤ widths types
each_takes_one [] = omega arith
each_takes_one (type ∷ types) = let le : 1 + length types ≤ widths (type ∷ types) = one_at_least (is_wide type) (length types) (widths types) (each_takes_one types) in omega (arith, le)

pub too_few : (is_static : Bool) (p : Proto) (count : ℕ) → count < length p.params → (taken is_static p == count) ≡ false
too_few true p count lt = let le : length p.params ≤ widths p.params = each_takes_one p.params in grind (arith, nat_tests)
too_few false p count lt = let le : length p.params ≤ widths p.params = each_takes_one p.params in grind (arith, nat_tests)
