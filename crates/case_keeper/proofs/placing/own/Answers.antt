use Rattle.std.proofs.Common.{◌≡◌, ◌∙◌, ◌++◌, ◌∷◌, [], ℕ, cond, List, Option, Some, None, Vec, IsSome, Result, Ok, Err, OnErr, refl, sym, ap, subst}
use Rattle.std.specs.Ordering.{nat_cmp}
use Rattle.std.specs.Cmp.Lexicographic.{slice_cmp}
use Rattle.std.specs.BTreeMap.{get, is_at}
use Rattle.std.specs.declared.alloc.Global.{Global}
use Rattle.case_keeper.specs.MemoryKeeper.{Owned, items_or_none}
use Rattle.case_keeper.proofs.Owning.{noted, unnoted}
use Rattle.case_keeper.proofs.Outcomes.{err_then}
use Rattle.case_keeper.proofs.placing.own.Goals as goal

pub returns-in-Some-clause-ok : goal.returns-in-Some-clause-ok
returns-in-Some-clause-ok c = λ other.
    let places = c.push.new.self in
    let found : get (slice_cmp nat_cmp) c.args.owned.now c.args.party.now ≡ Some c.in-Some.places.now =
    sym c.in-Some.ensures.value in
    let there = subst (λ (o : Option (Vec ℕ Global)). IsSome o) (sym found) refl in
    noted c.args.owned.now (c.get_mut.follows.lender places) c.args.party.now other places c.args.place
    (((c.get_mut.follows.holds places).3 there).0 other)
    (c.in_ok-push.ensures.items ∙ ap (λ (zs : List ℕ). zs ++ c.args.place ∷ []) (sym (ap items_or_none found)))

pub returns-in_err-push-clause-err : goal.returns-in_err-push-clause-err
returns-in_err-push-clause-err c =
    let places = c.push.new.self in
    let found : get (slice_cmp nat_cmp) c.args.owned.now c.args.party.now ≡ Some c.in-Some.places.now =
    sym c.in-Some.ensures.value in
    let there = subst (λ (o : Option (Vec ℕ Global)). IsSome o) (sym found) refl in
    err_then c.from_residual.result _ (λ other. unnoted c.args.owned.now
    (c.get_mut.follows.lender places) c.args.party.now other places
    (((c.get_mut.follows.holds places).3 there).0 other) (c.in_err-push.ensures.items ∙ sym (ap items_or_none found)))

pub returns-clause-ok : goal.returns-clause-ok
returns-clause-ok c = λ other.
    let missing : get (slice_cmp nat_cmp) c.args.owned.now c.args.party.now ≡ None = sym c.in_default.ensures.value in
    noted c.args.owned.now c.insert.new.self c.args.party.now other c.push-2.new.self c.args.place
    (c.in_ok-insert.ensures.updates.0 other
    ∙ ap (λ (name : List ℕ). cond (is_at (slice_cmp nat_cmp name) other) (Some c.push-2.new.self)
    (get (slice_cmp nat_cmp) c.get_mut.follows.lender-at-none other)) c.in_ok-copy.ensures
    ∙ ap (λ (m : Owned). cond (is_at (slice_cmp nat_cmp c.args.party.now) other) (Some c.push-2.new.self)
    (get (slice_cmp nat_cmp) m other)) c.get_mut.follows.holds-at-none)
    (c.in_ok-push-2.ensures.items ∙ ap (λ (zs : List ℕ). zs ++ c.args.place ∷ [])
    (c.new-places.ensures.items ∙ sym (ap items_or_none missing)))
