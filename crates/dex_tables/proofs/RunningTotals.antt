-- Numbers and totals that are added up item by item below their limits, and rows of one width with a weight each.
use Rattle.std.proofs.Common.{◌≡◌, ℕ, ◌+◌, ◌≤◌, List, [], ◌∷◌, refl, ap, subst, ◌∙◌, arith}
use Rattle.std.proofs.lemmas.List.Sums.{sum_by-cons}
use Rattle.std.specs.Prelude.{sum_by}
use Rattle.dex_tables.specs.Sequences.{RowsStand, Follow}
use Rattle.dex_tables.proofs.Readings.{Adds}
use Rattle.dex_tables.specs.declared.place.Totals.{Totals}
use Rattle.dex_tables.specs.Totals.{no_totals, plus}

-- how numbers are added up below a limit
pub number_adds : (limit : ℕ) → Adds 0 (λ a b. a + b) (λ a. a ≤ limit)
number_adds limit = record { regroup = λ a b c. omega arith; right_none = λ a. omega arith; smaller = λ a b h. omega arith }

-- rows of one width with a weight each
pub rows_from_follow : {X : Type 0} (IsAt : ℕ → X → Type 0) (weight : X → ℕ) (width : ℕ) (at : ℕ) (xs : List X) (adds to : ℕ)
    → Follow 0 (λ a b. a + b) (λ at x adds to. IsAt at x × (adds ≡ weight x) × (to ≡ at + width)) at xs adds to → RowsStand IsAt width at xs × (adds ≡ sum_by weight xs)
rows_from_follow IsAt weight width at [] adds to stand = (tt, stand.1)
rows_from_follow {X = X} IsAt weight width at (x ∷ xs) adds to stand =
    let rest = rows_from_follow IsAt weight width stand.0 xs stand.2 to stand.4 in
    let next : stand.0 ≡ at + width = stand.3.2 in
    let one : stand.1 ≡ weight x = stand.3.1 in
    let more : stand.2 ≡ sum_by weight xs = rest.1 in
    let sum : adds ≡ stand.1 + stand.2 = stand.5 in
    let whole : sum_by weight (x ∷ xs) ≡ weight x + sum_by weight xs = sum_by-cons weight x xs in
    ((stand.3.0, subst (λ (o : ℕ). RowsStand IsAt width o xs) next rest.0), (cc))

pub follow_from_rows : {X : Type 0} (IsAt : ℕ → X → Type 0) (weight : X → ℕ) (width : ℕ) (at : ℕ) (xs : List X)
    → RowsStand IsAt width at xs → (to : ℕ) × Follow 0 (λ a b. a + b) (λ at x adds to. IsAt at x × (adds ≡ weight x) × (to ≡ at + width)) at xs (sum_by weight xs) to
follow_from_rows IsAt weight width at [] stand = (at, (refl, refl))
follow_from_rows IsAt weight width at (x ∷ xs) stand =
    let rest = follow_from_rows IsAt weight width (at + width) xs stand.1 in
    (rest.0, (at + width, weight x, sum_by weight xs, (stand.0, refl, refl), rest.1, sum_by-cons weight x xs))

-- Totals, added up part by part, and their limits.
pub record WithinTotals (t : Totals) : Type 0 where
  pub members : t.members ≤ 400000
  pub units : t.units ≤ 8388608
  pub tries : t.tries ≤ 1000000

pub same_totals : (a b : Totals) → a.members ≡ b.members → a.units ≡ b.units → a.tries ≡ b.tries → a ≡ b
same_totals a b m u t =
    let Tot : ℕ → ℕ → ℕ → Totals = λ x y z. record { members = x; units = y; tries = z } in
    let one : Tot a.members a.units a.tries ≡ Tot b.members a.units a.tries = ap (λ (x : ℕ). Tot x a.units a.tries) m in
    let two : Tot b.members a.units a.tries ≡ Tot b.members b.units a.tries = ap (λ (x : ℕ). Tot b.members x a.tries) u in
    let three : Tot b.members b.units a.tries ≡ Tot b.members b.units b.tries = ap (λ (x : ℕ). Tot b.members b.units x) t in
    one ∙ two ∙ three

pub totals_add : Adds no_totals plus WithinTotals
totals_add = record {
  regroup = λ a b c. same_totals _ _ (omega arith) (omega arith) (omega arith);
  right_none = λ a. same_totals _ _ (omega arith) (omega arith) (omega arith);
  smaller = λ a b h. record { members = (let k : a.members + b.members ≤ 400000 = h.members in omega arith); units = (let k : a.units + b.units ≤ 8388608 = h.units in omega arith); tries = (let k : a.tries + b.tries ≤ 1000000 = h.tries in omega arith) };
}
