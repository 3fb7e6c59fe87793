use Rattle.std.proofs.Common.{◌≡◌, ◌-◌, ap, sym, subst, ◌∙◌, arith}
use Rattle.app_index.proofs.Numbering.{HasFrom, all_there, none_yet, one_more}
use Rattle.app_machine.specs.declared.lists.LibClass.{LibClass}
use Rattle.app_machine.specs.Names.{same_name}
use Rattle.event_index.specs.contracts.keys.NameKeyPartialEq.TheImpl.{ghosts as key_eq}
use Rattle.event_index.specs.declared.keys.NameKey.{NameKey}
use Rattle.event_index.specs.Listed.{is_named}
use Rattle.event_index.proofs.listed.number_classes.Goals as goal

pub loop-left-init : goal.loop-left-init
loop-left-init c = (omega arith, none_yet key_eq.eq is_named c.new-numbers.result _ c.args.classes.now c.new-numbers.ensures.empty (omega arith))

pub loop-left-preserved : goal.loop-left-preserved
loop-left-preserved c =
    let class = c.index-classes-left.result in
    let key : NameKey = record { name = c.as_bytes-name.result } in (
      omega (arith, c.loop-left.invariant.0),
      one_more key_eq.eq is_named (c.loop-left.left - 1) c.loop-left.left class c.args.classes.now (omega (arith, c.loop-left.invariant.0, c.loop-left-test.true)) c.index-classes-left.is (omega (arith, c.loop-left-test.true))
          c.loop-left.numbers c.insert.new.self key (λ q. ap (λ n. same_name n q.name.now) (c.as_bytes-name.ensures ∙ ap (λ (d : LibClass). d.name) (sym c.index-classes-left.is))) c.in_ok-insert.ensures.updates c.loop-left.invariant.1,
    )

pub returns : goal.returns
returns c =
    let none : c.loop-left.left ≡ 0 = omega (arith, c.loop-left-test.false) in
    all_there key_eq.eq is_named c.loop-left.numbers c.args.classes.now (subst (λ n. HasFrom key_eq.eq is_named c.loop-left.numbers n c.args.classes.now) none c.loop-left.invariant.1)
