use Rattle.std.proofs.Common.{◌≡◌, List, ℕ, ◌++◌, take, subst, sym, arith}
use Rattle.std.proofs.lemmas.Grind.{common_steps}
use Rattle.desk_http.specs.Came.{Takes}
use Rattle.desk_http.proofs.Coming.{takes_onto}
use Rattle.desk_http.proofs.piece.read_piece.Goals as goal

pub returns-clause-takes : goal.returns-clause-takes
returns-clause-takes g c =
    let before = g.L.Link.told c.args.link.now in
    let after = g.L.Link.told c.read_some.new.link in
    let items : c.extend_from_slice.new.self.items ≡ c.args.bytes.now.items ++ take c.in_ok-count.count c.read_some.new.room = grind (arith, common_steps) in
    subst (λ (ys : List ℕ). Takes before c.args.bytes.now.items after ys) (sym items)
    (takes_onto before after c.args.bytes.now.items (take c.in_ok-count.count c.read_some.new.room) c.in_ok-count.ensures.takes)
