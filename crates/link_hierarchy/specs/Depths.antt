-- Numbers by which nothing above a class is deeper than it.
use Rattle.std.specs.Prelude.{ℕ, ◌+◌, ◌≤◌, Bool, true, List, Option, Some, None, nat_lt, ◌&&◌, unwrap_or}
use Rattle.std.specs.List.{list_all}
use Rattle.app_machine.specs.declared.app.Class.{Class}
use Rattle.app_machine.specs.Names.{Name}
use Rattle.link_hierarchy.specs.Hierarchy.{Above}
use Rattle.link_listing.specs.Orders.{named}

-- how deep a class lies: at 0 where no number says it
unfoldable pub depth : List (Name × ℕ) → Name → ℕ
depth depths name = unwrap_or (named depths name) 0

abbrev pub all_above : List (Name × ℕ) → ℕ → List Name → Bool
all_above depths limit names = list_all (λ name. nat_lt (depth depths name) limit) names

abbrev pub one_above : List (Name × ℕ) → ℕ → Option Name → Bool
one_above depths limit None = true
one_above depths limit (Some name) = nat_lt (depth depths name) limit

-- all that is directly above the class is less deep than the limit
unfoldable pub lies_below : List (Name × Class) → List (Name × ℕ) → ℕ → Name → Bool
lies_below classes depths limit name = elim (named classes name) [ None ↦ true | Some c ↦ one_above depths limit c.superclass && all_above depths limit c.interfaces ]

-- nothing directly above the class is deeper than it
unfoldable pub none_deeper : List (Name × Class) → List (Name × ℕ) → Name → Bool
none_deeper classes depths name = lies_below classes depths (depth depths name + 1) name

-- nothing above a class is deeper than it
pub record NoneDeeper (classes : List (Name × Class)) (depths : List (Name × ℕ)) : Type 0 where
  pub each : (name above : Name) → Above classes name above → depth depths above ≤ depth depths name
