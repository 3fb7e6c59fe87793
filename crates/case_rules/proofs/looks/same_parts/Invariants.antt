use Rattle.std.proofs.Common.{◌≡◌, drop, nat_eq}
use Rattle.std.specs.Cmp.Lexicographic.{pointwise}
use Rattle.case_rules.proofs.looks.same_parts.Given as goal

abbrev pub invariant-loop-i : goal.invariant-loop-i
invariant-loop-i l = pointwise (pointwise nat_eq) l.a l.b ≡ pointwise (pointwise nat_eq) (drop l.i l.a) (drop l.i l.b)
