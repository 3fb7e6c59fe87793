-- A count of units that stays at its largest.
use Rattle.std.proofs.Common.{◌≡◌, ℕ, ◌+◌, min, List, [], ◌∷◌, arith}
use Rattle.std.specs.Prelude.{fold}
use Rattle.dex_tables.specs.declared.dex.Dex.{Dex}
use Rattle.link_listing.specs.declared.members.Listed.{Listed}
use Rattle.link_listing.specs.Texts.{Triple}
use Rattle.link_listing.specs.MemberRows.{Methods}
use Rattle.link_code.specs.Units.{units_of, units_in}

-- the sum, in a count that stays at its largest
abbrev pub with_units : List Dex → ℕ → Triple × Listed → ℕ
with_units dexes n entry = min (n + units_of dexes entry) 18446744073709551615

module _ (dexes : List Dex) where
  abbrev total : ℕ → Methods → ℕ
  total n es = fold (λ (a : ℕ) (e : Triple × Listed). a + units_of dexes e) n es

  stays : (s a u most : ℕ) → s ≡ min a most → min (s + u) most ≡ min (a + u) most
  stays s a u most e = omega (arith, e)

  counts : (s a : ℕ) (es : Methods) → s ≡ min a 18446744073709551615 → fold (with_units dexes) s es ≡ min (total a es) 18446744073709551615
  counts s a [] e = e
  counts s a (x ∷ xs) e = counts (with_units dexes s x) (a + units_of dexes x) xs (stays s a (units_of dexes x) 18446744073709551615 e)

  pub counted : (es : Methods) → fold (with_units dexes) 0 es ≡ min (units_in dexes es) 18446744073709551615
  counted es = counts 0 0 es (omega arith)
