use Rattle.std.proofs.Common.{◌≡◌, ◌∙◌, ◌++◌, ◌∷◌, [], Bool, cond, List, length, is_ok, sym, ap, subst, arith}
use Rattle.case_rules.specs.declared.case.Case.{Case}
use Rattle.case_keeper.specs.MemoryKeeper.{IsIndex}
use Rattle.case_keeper.proofs.Counting.{queued_within}
use Rattle.case_keeper.proofs.Indexed.{index_grows, index_stays, unnoted_name}
use Rattle.case_keeper.proofs.holding.add.Goals as goal

pub note_added-requires-clause-new : goal.note_added-requires-clause-new
note_added-requires-clause-new c =
    unnoted_name c.args.cases.now.items c.args.index.now c.args.case.now c.requires.index c.requires.new

pub note_added-requires-clause-countable : goal.note_added-requires-clause-countable
note_added-requires-clause-countable c =
    let party = c.args.case.now.party in
    omega (
      arith,
      c.requires.index.waiting party,
      queued_within party c.args.cases.now.items,
      c.args.cases.now.ok.0,
    )

pub returns-clause-index : goal.returns-clause-index
returns-clause-index c =
    let cases = c.args.cases.now.items in
    let case = c.args.case.now in
    let added = c.in_ok-added.added in
    let after = c.note_added.new.index in
    let place = c.len-place.result in
    let grown : c.push.new.self.items ≡ cases ++ case ∷ [] =
    c.push.ensures.items
    ∙ ap (λ (b : Bool). cond b (c.reserve.new.self.items ++ added ∷ []) c.reserve.new.self.items)
    (ap is_ok c.unwrap.ensures)
    ∙ ap (λ (zs : List Case). zs ++ added ∷ []) c.in_ok-reserve.ensures.items
    ∙ ap (λ (z : Case). cases ++ z ∷ []) c.in_ok-added.ensures in
    let end : place ≡ length cases = omega (arith, c.args.cases.now.ok.0) in
    subst (λ (zs : List Case). IsIndex zs after) (sym grown)
    (index_grows cases c.args.index.now after case place c.requires.index c.requires.new c.requires.queued end
    c.in_ok-note_added.ensures.ok)

pub returns-in_err-note_added-clause-index : goal.returns-in_err-note_added-clause-index
returns-in_err-note_added-clause-index c =
    let cases = c.args.cases.now.items in
    let after = c.note_added.new.index in
    subst (λ (zs : List Case). IsIndex zs after) (sym c.in_ok-reserve.ensures.items)
    (index_stays cases c.args.index.now after c.requires.index c.in_err-note_added.ensures.err)
