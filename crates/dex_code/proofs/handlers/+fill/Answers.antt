use Rattle.std.proofs.Common.{◌≡◌, List, [], arith, ap, length, map, take, ◌++◌, ◌/◌, ◌∙◌}
use Rattle.std.proofs.lemmas.Bool.Decides.{nat_tests}
use Rattle.std.proofs.lemmas.List.{nil_from_length}
use Rattle.std.proofs.lemmas.Result.{on_ok_weaker}
use Rattle.dex_tables.specs.declared.dex.RawTry.{RawTry}
use Rattle.dex_code.specs.Lines.{Line}
use Rattle.dex_code.specs.Handlers.{AddsCatches}
use Rattle.dex_code.proofs.Ordered.{in_order-in_order}
use Rattle.dex_code.proofs.Halves.{ascend_take, ascend_drop, halves, shared_by_all}
use Rattle.dex_code.proofs.handlers.+fill.Goals as goal

pub returns-then-is_empty : goal.returns-then-is_empty
returns-then-is_empty t c =
    let none : c.args.tries.now ≡ [] = nil_from_length _ (grind (arith, nat_tests, c.is_empty.ensures)) in
    on_ok_weaker {P = c.push_copies.new.found.items ≡ c.args.found.now.items ++ map (λ (line : Line). c.args.shared.now) c.args.lines.now} c.push_copies.result
    (λ added. added ∙ ap (λ rows. c.args.found.now.items ++ rows) (shared_by_all c.args.shared.now c.args.tries.now c.args.lines.now c.requires.order none))
    c.push_copies.ensures

pub fill-requires : goal.fill-requires
fill-requires t c = (omega (arith, c.split_at.ensures.front_len), (rw c.split_at.ensures.front (ascend_take _ _ c.requires.rise), rw c.in_ok-all.ensures (in_order-in_order _)))

pub fill-requires-2 : goal.fill-requires-2
fill-requires-2 t c = (omega (arith, c.split_at.ensures.back_len), (rw c.split_at.ensures.back (ascend_drop _ _ c.requires.rise), rw c.in_ok-all.ensures (in_order-in_order _)))

pub returns : goal.returns
returns t c =
    let lines : List Line = c.args.lines.now in
    let left : List RawTry = map (λ t. t.now) c.in_ok-more.left.items in
    let lower : AddsCatches c.in_ok-all.all (map (λ t. t.now) c.deref.result.now) c.split_at.result.0.now c.args.found.now.items c.fill.new.found.items = c.in_ok-fill.ensures in
    let half : AddsCatches c.in_ok-all.all left (take (length lines / 2) lines) c.args.found.now.items c.fill.new.found.items = rw (c.deref.ensures.value, c.split_at.ensures.front) at lower in
    on_ok_weaker {P = AddsCatches c.in_ok-all.all (map (λ t. t.now) c.deref-2.result.now) c.split_at.result.1.now c.fill.new.found.items c.fill-2.new.found.items} c.fill-2.result
    (λ upper. halves lines c.requires.rise _ _ _ _ _ left c.in_ok-more.ensures _ c.in_ok-all.ensures (length lines / 2) _ _ _ half (rw (c.deref-2.ensures.value, c.split_at.ensures.back) at upper))
    c.fill-2.ensures
