-- Which targets are those of the pages: each is written down from its page and its reference.
use Rattle.std.specs.Prelude.{◌≡◌, ℕ, ◌<◌, false, List, [], ◌++◌, length, Some}
use Rattle.std.specs.List.{list_any}
use Rattle.desk_routes.specs.declared.target.Page.{Page}
use Rattle.desk_routes.specs.declared.target.Page.TheVariants.{Cases, Case, Report, Appeal, Decisions, Reviews, Rulings}
use Rattle.desk_routes.specs.Routes.{cases, decisions, reviews, rulings, case_front, report_end, appeal_end, is_slash, route_of}

abbrev pub target_of : Page → List ℕ → List ℕ
target_of Cases reference = cases
target_of Case reference = case_front ++ reference
target_of Report reference = case_front ++ reference ++ report_end
target_of Appeal reference = case_front ++ reference ++ appeal_end
target_of Decisions reference = decisions
target_of Reviews reference = reviews
target_of Rulings reference = rulings

-- one segment of a path that is not empty (RFC 3986, section 3.3)
pub record IsSegment (bytes : List ℕ) : Type 0 where
  pub some : 0 < length bytes
  pub one : list_any is_slash bytes ≡ false

-- A page of a case has a reference, and another has none.
abbrev pub HasReference : Page → List ℕ → Type 0
HasReference Cases reference = reference ≡ []
HasReference Case reference = IsSegment reference
HasReference Report reference = IsSegment reference
HasReference Appeal reference = IsSegment reference
HasReference Decisions reference = reference ≡ []
HasReference Reviews reference = reference ≡ []
HasReference Rulings reference = reference ≡ []

pub record IsTargetOf (target : List ℕ) (page : Page) (reference : List ℕ) : Type 0 where
  pub is : target ≡ target_of page reference
  pub has : HasReference page reference
