-- What two families of rules give together, what rows lead of both, and the same of rules by another name.
use Rattle.std.proofs.Common.{◌⊎◌, ℕ, List, ◌∷◌, ◌++◌, inl, inr}
use Rattle.fact_rows.specs.declared.row.Row.{Row}
use Rattle.flow_rules.specs.Rules.{Each}
use Rattle.rule_ground.specs.declared.conclusion.Conclusion.{Conclusion}
use Rattle.rule_ground.specs.Exact.{IsLed}
use Rattle.rule_ground.specs.Leading.{listed_in}
use Rattle.vet_base.proofs.Members.{in_front, in_back, in_either}

-- a rule of the one or of the other
abbrev pub Either : (ℕ → List Row → Row → Type 0) → (ℕ → List Row → Row → Type 0) → ℕ → List Row → Row → Type 0
Either R S rule premises x = R rule premises x ⊎ S rule premises x

module _ (R S : ℕ → List Row → Row → Type 0) (has : Row → Type 0) where
  pub led_renamed : (leads : Row → List Conclusion) →
      ((rule : ℕ) (premises : List Row) (x : Row) → R rule premises x → S rule premises x) →
      ((rule : ℕ) (premises : List Row) (x : Row) → S rule premises x → R rule premises x) →
      IsLed R has leads → IsLed S has leads
  led_renamed leads to from h = record {
    sound = λ row there c i. let f = h.sound row there c i in record { by = to c.rule _ c.row f.by; known = f.known; uses = f.uses };
    complete = λ rule first others x by known. h.complete rule first others x (from rule (first ∷ others) x by) known;
  }

  pub led_joined : (xs ys : Row → List Conclusion) → IsLed R has xs → IsLed S has ys → IsLed (Either R S) has (λ row. xs row ++ ys row)
  led_joined xs ys a b = record {
    sound = λ row there c i. elim (in_either c (xs row) (ys row) i) [
      | inl j ↦ let f = a.sound row there c j in record { by = inl f.by; known = f.known; uses = f.uses }
      | inr j ↦ let f = b.sound row there c j in record { by = inr f.by; known = f.known; uses = f.uses }
    ];
    complete = λ rule first others x by known. elim by [
      | inl one ↦
          let l = a.complete rule first others x one known in
          (l.0, (l.1.0, listed_in (xs l.0) (xs l.0 ++ ys l.0) (λ c i. in_front c (xs l.0) (ys l.0) i) l.1.1))
      | inr other ↦
          let l = b.complete rule first others x other known in
          (l.0, (l.1.0, listed_in (ys l.0) (xs l.0 ++ ys l.0) (λ c i. in_back c (xs l.0) (ys l.0) i) l.1.1))
    ];
  }
