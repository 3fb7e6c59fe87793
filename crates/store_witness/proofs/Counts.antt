-- Names and counts compute.
use Rattle.std.proofs.Common.{◌≡◌, List, ◌∷◌, length, sym, ap, ◌∙◌, arith, codes}
use Rattle.std.specs.Prelude.{◌==◌, true, false}
use Rattle.std.proofs.lemmas.Bool.{ne_eqb}
use Rattle.case_rules.specs.declared.case.Case.{Case}
use Rattle.case_rules.specs.declared.case.Entry.{Entry}
use Rattle.case_rules.specs.Cases.{is_named, is_queued}
use Rattle.store_witness.specs.KeeperFacts.{KeepersTell}

decided : (case : Case) (entry : Entry) (entries : List Entry) → case.entries ≡ entry ∷ entries → is_queued case ≡ true → ⊥
decided case entry entries is queued =
    let filled : (length (entry ∷ entries) == 0) ≡ false = ne_eqb (length (entry ∷ entries)) 0 (λ none. omega (arith, none)) in
    let both : false ≡ true = sym filled ∙ sym (ap (λ (es : List Entry). length es == 0) is) ∙ queued in
    let none : ⊥ = cc in none

exchanged : (case : Case) → case.party ≡ codes "b" → case.reference ≡ codes "a"
    → is_named (codes "a") (codes "b") case ≡ true → ⊥
exchanged case party reference named = let none : ⊥ = cc in none

pub keepers_tell : KeepersTell
keepers_tell = record {
  decided = decided;
  exchanged = exchanged;
  counts = λ same. let none : ⊥ = omega (arith, same) in none;
  once = λ same. let none : ⊥ = omega (arith, same) in none;
  want = λ same. let none : ⊥ = omega (arith, same) in none;
}
