use Rattle.std.proofs.Common.{◌≡◌, length, rules, sym, ◌∙◌}
use Rattle.link_hierarchy.proofs.Search.{search_finds, search_goes_on, search_ends}
use Rattle.link_hierarchy.proofs.circle.is_above_itself.Goals as goal

pub returns-then-is_same : goal.returns-then-is_same
returns-then-is_same c = search_finds _ _ _ c.loop-name.queue.items c.pop.new.self.items c.in-Some.name c.in-Some.ensures.items (sym c.is_same.ensures ∙ c.if-is_same.true) c.loop-name.invariant

pub loop-name-preserved : goal.loop-name-preserved
loop-name-preserved c = search_goes_on _ _ c.loop-name.seen.keys c.visit.new.seen.keys c.loop-name.queue.items c.pop.new.self.items c.visit.new.queue.items c.in-Some.name c.in-Some.ensures.items c.in_ok-visit.ensures.queue c.in_ok-visit.ensures.seen
    (sym c.is_same.ensures ∙ c.if-is_same.false) c.loop-name.invariant

pub returns : goal.returns
returns c = let none : length c.loop-name.queue.items ≡ 0 = search rules in search_ends _ _ _ c.loop-name.queue.items none c.loop-name.invariant
