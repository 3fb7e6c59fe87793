-- Numbers compute, and what is not kept is not there.
use Rattle.std.proofs.Common.{◌≡◌, length, refl, sym, ap, ◌∙◌, arith}
use Rattle.vet_base.specs.Numbers.{groups}
use Rattle.base_witness.specs.ByteFacts.{BytesAreKept}
use Rattle.base_witness.specs.OutsideFacts.{OutsideTells}

pub bytes_are_kept : BytesAreKept
unfolding groups
bytes_are_kept = record {
  two_bytes = refl;
  four_bytes = refl;
  five_bytes = refl;
  short_name = λ same. let counts : 29 ≡ 30 = ap length same in let none : ⊥ = omega (arith, counts) in none;
  long_name = λ kept less same. let counts : 30 ≡ 31 = sym (ap length less) ∙ ap length same in let none : ⊥ = omega (arith, counts) in none;
  hashed = λ same. let none : ⊥ = cc in none;
  no_storage = λ x xs same. let none : ⊥ = cc in none;
}

pub outside_tells : OutsideTells
outside_tells = record {
  put = λ same. let none : ⊥ = cc in none;
  counted = λ risen. let none : ⊥ = omega (arith, risen) in none;
  written = λ w. let same = w.0.changed in let none : ⊥ = cc in none;
}
