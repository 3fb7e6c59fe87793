use Rattle.std.proofs.Common.{sym, rules}
use Rattle.std.proofs.lemmas.Fn.{always_returns_same}
use Rattle.dex_bodies.specs.declared.handlers.Handler.{Handler}
use Rattle.dex_bodies.proofs.RisingHandlers.{searched}
use Rattle.dex_bodies.proofs.tries.handler_in.Goals as goal

pub returns-in-Ok : goal.returns-in-Ok
returns-in-Ok c =
    let found = searched c.args.list.handlers.now c.args.list.end c.args.at c.binary_search_by_key.result c.requires c.binary_search_by_key.ensures.bound
    (c.binary_search_by_key.ensures.position (λ (h : Handler). h.at) (always_returns_same _ _ _ (λ a r f called. search rules))) in
    let at-i = (rw c.in-Ok.is at found) in
    rw c.index-handlers-i.is (sym (at-i c.index-handlers-i.result))

pub returns-in-Err : goal.returns-in-Err
returns-in-Err c =
    let found = searched c.args.list.handlers.now c.args.list.end c.args.at c.binary_search_by_key.result c.requires c.binary_search_by_key.ensures.bound
    (c.binary_search_by_key.ensures.position (λ (h : Handler). h.at) (always_returns_same _ _ _ (λ a r f called. search rules))) in
    let none = (rw c.in-Err.is at found) in
    sym none
