-- Where a list is just what rules give with a row, those of it that are kept are just what the kept ones give.
use Rattle.std.proofs.Common.{◌≡◌, ◌==◌, ℕ, Bool, true, false, not, List, ◌∷◌, filter, refl, subst, sym}
use Rattle.std.specs.Prelude.{IsFalse}
use Rattle.std.proofs.lemmas.Bool.{and_parts, and_from}
use Rattle.fact_rows.specs.declared.row.Row.{Row}
use Rattle.fact_rows.specs.declared.row.Row.TheVariants.{Reached, Points, Taint, Cell, Back, StaticPoints, StaticTaint, Calls, CalledBy, Effect, MethodEffect, ExitPoints, ExitTaint, Live, CompTaint, Handed, HandedTaint, Arrive, Unknown, Uses, Label, StaticLabel, CellLabel, Holds, ExitLabel}
use Rattle.rule_ground.specs.declared.conclusion.Conclusion.{Conclusion}
use Rattle.rule_ground.specs.Exact.{IsSound, IsListed, IsJust, IsLed}
use Rattle.vet_base.proofs.Every.{in_filter, from_filter}
use Rattle.cell_rules.specs.KeptRules.{IsKept, filling}
use Rattle.kept_rules.specs.Kept.{is_kept_row, is_kept, KeptBy}

row_is : (row : Row) → is_kept_row row ≡ true → IsKept row
row_is (Reached n) h = tt
row_is (Cell s k t) h = tt
row_is (Back t k s) h = tt
row_is (StaticPoints g s) h = tt
row_is (Calls n b) h = tt
row_is (CalledBy b n) h = tt
row_is (ExitPoints a how s) h = tt
row_is (Live c state) h = tt
row_is (Handed s) h = tt
row_is (Unknown n cause) h = tt
row_is (Uses n u) h = tt
row_is (Points a b c) h = absurd cc
row_is (Taint a b c d) h = absurd cc
row_is (StaticTaint a b c) h = absurd cc
row_is (Effect a b c d) h = absurd cc
row_is (MethodEffect a b c d) h = absurd cc
row_is (ExitTaint a b c d) h = absurd cc
row_is (CompTaint a b c d) h = absurd cc
row_is (HandedTaint a b c) h = absurd cc
row_is (Arrive a b c) h = absurd cc
row_is (Label a b c) h = absurd cc
row_is (StaticLabel a b) h = absurd cc
row_is (CellLabel a b c) h = absurd cc
row_is (Holds a b) h = absurd cc
row_is (ExitLabel a b c) h = absurd cc

is_row : (row : Row) → IsKept row → is_kept_row row ≡ true
is_row (Reached n) h = refl
is_row (Cell s k t) h = refl
is_row (Back t k s) h = refl
is_row (StaticPoints g s) h = refl
is_row (Calls n b) h = refl
is_row (CalledBy b n) h = refl
is_row (ExitPoints a how s) h = refl
is_row (Live c state) h = refl
is_row (Handed s) h = refl
is_row (Unknown n cause) h = refl
is_row (Uses n u) h = refl
is_row (Points a b c) h = absurd h
is_row (Taint a b c d) h = absurd h
is_row (StaticTaint a b c) h = absurd h
is_row (Effect a b c d) h = absurd h
is_row (MethodEffect a b c d) h = absurd h
is_row (ExitTaint a b c d) h = absurd h
is_row (CompTaint a b c d) h = absurd h
is_row (HandedTaint a b c) h = absurd h
is_row (Arrive a b c) h = absurd h
is_row (Label a b c) h = absurd h
is_row (StaticLabel a b) h = absurd h
is_row (CellLabel a b c) h = absurd h
is_row (Holds a b) h = absurd h
is_row (ExitLabel a b c) h = absurd h

other_rule : (b : Bool) → not b ≡ true → IsFalse b
other_rule true h = absurd cc
other_rule false h = refl

rule_other : (b : Bool) → IsFalse b → not b ≡ true
rule_other true h = absurd cc
rule_other false h = refl

module _ (Rule : ℕ → List Row → Row → Type 0) (has : Row → Type 0) where
  kept_sound : (row : Row) (c : Conclusion) → is_kept c ≡ true → IsSound Rule has row c → IsSound (KeptBy Rule) has row c
  kept_sound row c kept f =
      let parts = and_parts (is_kept_row c.row) (not (c.rule == filling)) kept in
      record { by = record { by = f.by; is = row_is c.row parts.0; other = other_rule (c.rule == filling) parts.1 }; known = f.known; uses = f.uses }

  kept_listed : (given : List Conclusion) (rule : ℕ) (premises : List Row) (x : Row) → IsKept x → IsFalse (rule == filling) →
      IsListed given rule premises x → IsListed (filter is_kept given) rule premises x
  kept_listed given rule premises x is other l =
      let same = l.2 in
      let row : is_kept_row l.0.row ≡ true = subst (λ z. is_kept_row z ≡ true) (sym same.row_is) (is_row x is) in
      let number : not (l.0.rule == filling) ≡ true = subst (λ z. not (z == filling) ≡ true) (sym same.rule_is) (rule_other (rule == filling) other) in
      (l.0, in_filter is_kept l.0 given (and_from (is_kept_row l.0.row) (not (l.0.rule == filling)) row number) l.1, same)

  pub kept_exact : (row : Row) (given : List Conclusion) → IsJust Rule has row given → IsJust (KeptBy Rule) has row (filter is_kept given)
  kept_exact row given just = record {
    sound = λ c i. let k = from_filter is_kept c given i in kept_sound row c k.0 (just.sound c k.1);
    complete = λ rule premises x f.
        kept_listed given rule premises x f.by.is f.by.other (just.complete rule premises x (record { by = f.by.by; known = f.known; uses = f.uses }));
  }

  pub kept_led : (leads : Row → List Conclusion) → IsLed Rule has leads → IsLed (KeptBy Rule) has (λ row. filter is_kept (leads row))
  kept_led leads led = record {
    sound = λ row there c i. let k = from_filter is_kept c (leads row) i in kept_sound row c k.0 (led.sound row there c k.1);
    complete = λ rule first others x by known.
        let l = led.complete rule first others x by.by known in
        (l.0, (l.1.0, kept_listed (leads l.0) rule (first ∷ others) x by.is by.other l.1.1));
  }
