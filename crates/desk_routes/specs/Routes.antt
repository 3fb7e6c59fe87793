-- What a request asks for, by its target, its method and the role of the party. The target is taken as it came: nothing
-- in it is decoded, and a query is a part of it.
use Rattle.std.specs.Prelude.{ℕ, ◌==◌, Bool, true, false, ◌&&◌, not, List, [], take, drop, length, Option, Some, None, option_map, if◌then◌else◌, codes, nat_eq}
use Rattle.std.specs.List.{position_or_len, before_first}
use Rattle.store_office.specs.declared.party.Role.{Role}
use Rattle.case_rules.specs.Cases.{same}
use Rattle.case_rules.specs.Rules.{is_developer, is_reviewer}
use Rattle.desk_routes.specs.declared.target.Page.{Page}
use Rattle.desk_routes.specs.declared.target.Page.TheVariants as pages
use Rattle.desk_routes.specs.declared.target.Act.{Act}
use Rattle.desk_routes.specs.declared.target.Act.TheVariants.{Submit, List as ListCases, Show, Report, Appeal, Decide, Review, Rule}

unfoldable pub cases : List ℕ
cases = codes "/cases"

unfoldable pub decisions : List ℕ
decisions = codes "/decisions"

unfoldable pub reviews : List ℕ
reviews = codes "/reviews"

unfoldable pub rulings : List ℕ
rulings = codes "/rulings"

-- what stands before a reference
unfoldable pub case_front : List ℕ
case_front = codes "/cases/"

-- what may stand behind it
unfoldable pub report_end : List ℕ
report_end = codes "/report"

unfoldable pub appeal_end : List ℕ
appeal_end = codes "/appeal"

abbrev pub is_slash : ℕ → Bool
is_slash b = nat_eq b 47

-- from the first `/` on, or nothing where there is none
abbrev pub from_slash : List ℕ → List ℕ
from_slash bytes = drop (position_or_len is_slash bytes) bytes

-- a page of a case, by what stands behind its reference
abbrev pub page_by : List ℕ → Option Page
page_by rest =
    if length rest == 0 then Some pages.Case
    else if same rest report_end then Some pages.Report
    else if same rest appeal_end then Some pages.Appeal
    else None

-- a page of a case with its reference: at least one byte, up to the next `/`
abbrev pub case_page : List ℕ → Option (Page × List ℕ)
case_page rest =
    if length (before_first is_slash rest) == 0 then None
    else option_map (λ page. (page, before_first is_slash rest)) (page_by (from_slash rest))

-- the page of a target, and its reference where the page is that of a case
abbrev pub route_of : List ℕ → Option (Page × List ℕ)
route_of target =
    if same target cases then Some (pages.Cases, [])
    else if same target decisions then Some (pages.Decisions, [])
    else if same target reviews then Some (pages.Reviews, [])
    else if same target rulings then Some (pages.Rulings, [])
    else if same (take (length case_front) target) case_front then case_page (drop (length case_front) target)
    else None

-- what is asked of a page: by GET, or by POST
abbrev pub act_of : Page → Bool → Option Act
act_of pages.Cases false = Some ListCases
act_of pages.Cases true = Some Submit
act_of pages.Case false = Some Show
act_of pages.Case true = None
act_of pages.Report false = Some Report
act_of pages.Report true = None
act_of pages.Appeal false = None
act_of pages.Appeal true = Some Appeal
act_of pages.Decisions false = None
act_of pages.Decisions true = Some Decide
act_of pages.Reviews false = None
act_of pages.Reviews true = Some Review
act_of pages.Rulings false = None
act_of pages.Rulings true = Some Rule

-- whether the role asks this
abbrev pub may_ask : Role → Act → Bool
may_ask role Submit = is_developer role
may_ask role ListCases = true
may_ask role Show = is_developer role
may_ask role Report = is_developer role
may_ask role Appeal = is_developer role
may_ask role Decide = is_reviewer role
may_ask role Review = is_reviewer role
may_ask role Rule = is_reviewer role
