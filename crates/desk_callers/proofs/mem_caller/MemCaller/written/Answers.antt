use Rattle.std.proofs.Common.{◌≡◌, ◌<◌, ◌∙◌, List, ℕ, [], ap, sym, subst, length, arith}
use Rattle.desk_callers.specs.Memory.{CallerState, written_at, written_by}
use Rattle.desk_callers.proofs.Calling.{written_there, written_now, written_later}
use Rattle.desk_callers.proofs.mem_caller.MemCaller.written.Goals as goal

pub returns-then-dial-len : goal.returns-then-dial-len
returns-then-dial-len c =
    let before = c.self.inside in
    let within : c.args.dial < length before.ended.items = omega (arith, c.if-dial-len.true, c.len.ensures, before.ended.ok.0) in
    subst (λ (m : CallerState). c.written_to.result.now ≡ written_at m.ended m.present c.args.dial) c.self.view_is
    (c.written_to.ensures ∙ ap written_by c.index.ensures ∙ sym (written_there before.ended.items before.present c.index.result.now c.args.dial within))

pub returns-then-dial-len-2 : goal.returns-then-dial-len-2
returns-then-dial-len-2 c =
    let before = c.self.inside in
    let is : c.args.dial ≡ length before.ended.items = omega (arith, c.if-dial-len-2.true, c.len-2.ensures, before.ended.ok.0) in
    subst (λ (m : CallerState). c.written_to-then-dial-len-2.result.now ≡ written_at m.ended m.present c.args.dial) c.self.view_is
    (c.written_to-then-dial-len-2.ensures ∙ sym (ap (written_at before.ended.items before.present) is ∙ written_now before.ended.items before.present))

pub returns : goal.returns
returns c =
    let before = c.self.inside in
    let after : length before.ended.items < c.args.dial = omega (arith, c.if-dial-len.false, c.if-dial-len-2.false, c.len.ensures, c.len-2.ensures, before.ended.ok.0) in
    let none : List ℕ = [] in
    subst (λ (m : CallerState). none ≡ written_at m.ended m.present c.args.dial) c.self.view_is
    (sym (written_later before.ended.items before.present c.args.dial after))
