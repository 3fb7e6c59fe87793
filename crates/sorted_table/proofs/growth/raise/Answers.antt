use Rattle.std.proofs.Common.{arith, ◌∙◌, ◌+◌, ◌≡◌, ap, get_or, set, length}
use Rattle.sorted_table.specs.Parts.{raised}
use Rattle.sorted_table.proofs.Growing.{raised_none, get_or-raised, raised_more}
use Rattle.sorted_table.proofs.growth.raise.Goals as goal

pub loop-i-init : goal.loop-i-init
loop-i-init c = raised_none c.args.from c.args.starts.now.items

pub overflow_add-index_mut : goal.overflow_add-index_mut
overflow_add-index_mut c =
    let d = c.index_mut.result.now in
    let was : d ≡ get_or c.args.starts.now.items c.loop-i.i d = c.index_mut.ensures.value ∙ (ap (λ z. get_or z c.loop-i.i d) c.loop-i.invariant ∙ get_or-raised c.args.from c.loop-i.i c.args.starts.now.items d c.loop-i.auto.i) in
    omega (arith, c.requires.small c.loop-i.i d (omega (arith, c.loop-i-test.true, c.len-i-end.ensures, c.args.starts.now.ok.0)))

pub loop-i-preserved : goal.loop-i-preserved
loop-i-preserved c =
    let d = c.index_mut.result.now in
    let ns = c.args.starts.now.items in
    let was : d ≡ get_or ns c.loop-i.i d = c.index_mut.ensures.value ∙ (ap (λ z. get_or z c.loop-i.i d) c.loop-i.invariant ∙ get_or-raised c.args.from c.loop-i.i ns d c.loop-i.auto.i) in
    ap (λ z. set z c.loop-i.i (d + 1)) c.loop-i.invariant
    ∙ (ap (λ z. set (raised c.args.from c.loop-i.i ns) c.loop-i.i (z + 1)) was
    ∙ raised_more c.args.from c.loop-i.i ns d c.loop-i.auto.i (omega (arith, c.loop-i-test.true, c.len-i-end.ensures, c.args.starts.now.ok.0)))

pub returns : goal.returns
returns c =
    let end : c.loop-i.i ≡ length c.args.starts.now.items = omega (arith, c.loop-i.auto.i-end, c.loop-i-test.false, c.len-i-end.ensures, c.args.starts.now.ok.0) in
    c.loop-i.invariant ∙ ap (λ z. raised c.args.from z c.args.starts.now.items) end
