use Rattle.desk_routes.proofs.ByPages.{by_pages}
use Rattle.desk_routes.proofs.law.routes_are_the_targets_of_pages.Goals as goal

pub returns : goal.returns
returns c = λ target reference page. by_pages target page reference
