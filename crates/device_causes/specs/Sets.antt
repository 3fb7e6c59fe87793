-- Names, and names of members, among others.
use Rattle.std.specs.Prelude.{◌≡◌, Bool, List}
use Rattle.std.specs.List.{list_any}
use Rattle.app_machine.specs.Names.{Name, same_name}
use Rattle.link_listing.specs.Texts.{Triple, same_triple}

unfoldable pub is_among : List Name → Name → Bool
is_among names name = list_any (λ n. same_name name n) names

unfoldable pub is_listed : List Triple → Triple → Bool
is_listed triples triple = list_any (λ t. same_triple triple t) triples

-- the set has just these names
pub record IsSetOf (set names : List Name) : Type 0 where
  pub same : (name : Name) → is_among set name ≡ is_among names name

pub record IsListOf (set triples : List Triple) : Type 0 where
  pub same : (triple : Triple) → is_listed set triple ≡ is_listed triples triple
