-- The first of the rows that tell a finding is the first of those that tell something by themselves.
use Rattle.std.proofs.Common.{◌≡◌, ℕ, zero, suc, ◌<◌, Bool, true, false, cond, List, [], ◌∷◌, filter, Some, slice_get, refl, sym, subst, true≢false, arith}
use Rattle.std.proofs.lemmas.Option.{none-some, same_Some}
use Rattle.app_flow.specs.InOrder.{tells}
use Rattle.app_machine.specs.declared.app.App.{App}
use Rattle.app_machine.specs.declared.lists.Lists.{Lists}
use Rattle.app_machine.specs.declared.papers.Declaration.{Declaration}
use Rattle.fact_rows.specs.declared.row.Row.{Row}
use Rattle.fact_rows.specs.declared.row.Row.TheVariants.{Arrive}
use Rattle.finding_rows.specs.Arrivals.{Tells, IsFirstArrival, AreFirstArrivals}
use Rattle.flow_telling.proofs.Telling.{same_findings}
use Rattle.outcomes.specs.declared.outcome.Finding.{Finding}
use Rattle.outcomes.specs.Findings.{findings_of}
use Rattle.vet_base.specs.Members.{IsAt}

module _ (app : App) (lists : Lists) (declaration : Declaration) where
  -- what tells nothing by itself tells no finding
  silent : (finding : Finding) (row : Row) → tells row ≡ false → Tells app lists declaration finding row → ⊥
  silent finding (Arrive label sink n) is told = true≢false is
  silent finding _ is told = none-some told.arrival told.arrives

  module _ (finding : Finding) (row : Row) where
    abbrev IsFirst : List Row → Type 0
    IsFirst rows = IsFirstArrival app lists declaration rows finding row

    -- a row that does not tell the finding may stand before
    behind : (x : Row) (rows : List Row) → (Tells app lists declaration finding x → ⊥) → IsFirst rows → IsFirst (x ∷ rows)
    behind x rows not first = record {
      place = suc first.place;
      there = record { there = first.there.there };
      tells = first.tells;
      before = before;
    }
      where
        before : (earlier : ℕ) (other : Row) → earlier < suc first.place → IsAt (x ∷ rows) earlier other → Tells app lists declaration finding other → ⊥
        before zero other below at told = not (subst (Tells app lists declaration finding) (sym (same_Some x other at.there)) told)
        before (suc earlier) other below at told = first.before earlier other (omega (arith, below)) (record { there = at.there }) told

    among_all : (rows : List Row) → IsFirst (filter tells rows) → IsFirst rows
    among_all [] first = first
    among_all (x ∷ rows) first = by_test (tells x) refl (among_all rows) first
      where
        by_place : (place : ℕ) → slice_get (x ∷ filter tells rows) place ≡ Some row → Tells app lists declaration finding row →
            ((earlier : ℕ) (other : Row) → earlier < place → IsAt (x ∷ filter tells rows) earlier other → Tells app lists declaration finding other → ⊥) →
            (IsFirst (filter tells rows) → IsFirst rows) → IsFirst (x ∷ rows)
        by_place zero at told before later =
            record { place = 0; there = record { there = at }; tells = told; before = λ earlier other below is tells_other. absurd (omega (arith, below)) }
        by_place (suc place) at told before later =
            behind x rows (before 0 x (omega arith) (record { there = refl }))
            (later (record {
              place = place;
              there = record { there = at };
              tells = told;
              before = λ earlier other below is. before (suc earlier) other (omega (arith, below)) (record { there = is.there });
            }))

        by_test : (b : Bool) → tells x ≡ b → (IsFirst (filter tells rows) → IsFirst rows) → IsFirst (cond b (x ∷ filter tells rows) (filter tells rows)) → IsFirst (x ∷ rows)
        by_test true is later first = by_place first.place first.there.there first.tells first.before later
        by_test false is later first = behind x rows (silent finding x is) (later first)

  each_among_all : (rows : List Row) (findings : List Finding) (goals : List Row) → AreFirstArrivals app lists declaration (filter tells rows) findings goals → AreFirstArrivals app lists declaration rows findings goals
  each_among_all rows [] [] are = tt
  each_among_all rows [] (goal ∷ goals) are = absurd are
  each_among_all rows (finding ∷ findings) [] are = absurd are
  each_among_all rows (finding ∷ findings) (goal ∷ goals) are = (among_all finding goal rows are.0, each_among_all rows findings goals are.1)

  pub first_of_all : (rows telling goals : List Row) → telling ≡ filter tells rows → AreFirstArrivals app lists declaration telling (findings_of app lists declaration telling) goals →
      AreFirstArrivals app lists declaration rows (findings_of app lists declaration rows) goals
  first_of_all rows telling goals is are =
      let same = same_findings app lists declaration rows in
      let of_telling = subst (λ z. AreFirstArrivals app lists declaration z (findings_of app lists declaration z) goals) is are in
      each_among_all rows (findings_of app lists declaration rows) goals (subst (λ fs. AreFirstArrivals app lists declaration (filter tells rows) fs goals) same of_telling)
