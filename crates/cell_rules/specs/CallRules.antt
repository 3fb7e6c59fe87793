-- Rules 23 to 26: calls, results and exceptions.
use Rattle.std.specs.Prelude.{◌≡◌, ◌≢◌, ◌⊎◌, ℕ, IsTrue, IsFalse, List, [], ◌∷◌, Some}
use Rattle.app_machine.specs.declared.call.MethodRef.{MethodRef}
use Rattle.app_machine.specs.declared.call.CallKind.{CallKind}
use Rattle.app_machine.specs.declared.method.Act.TheVariants.{Call}
use Rattle.app_machine.specs.declared.lists.Lists.{Lists}
use Rattle.app_machine.specs.declared.app.App.{App}
use Rattle.vet_base.specs.Members.{IsAt}
use Rattle.app_machine.specs.Names.{Name}
use Rattle.app_machine.specs.Lookups.{Body, target, is_by_receiver}
use Rattle.app_machine.specs.State.{result_register, exception_register}
use Rattle.fact_rows.specs.declared.context.Activation.{Activation}
use Rattle.fact_rows.specs.declared.context.Node.{Node}
use Rattle.fact_rows.specs.declared.site.Site.{Site}
use Rattle.fact_rows.specs.declared.row.Row.{Row}
use Rattle.fact_rows.specs.declared.row.Row.TheVariants.{Points, Label, Calls, CalledBy, ExitPoints, ExitLabel}
use Rattle.flow_rules.specs.Nodes.{at_pc, callee, Acts, GoesOn, CaughtAt, ArgumentRegister, InitialisedBy}
use Rattle.flow_rules.specs.Sites.{SiteClass}
use Rattle.flow_rules.specs.LocalRules.{returning, throwing}
use Rattle.cell_rules.specs.Reading.{ReadAt, node_in}

module _ (app : App) (lists : Lists) where
  pub data CallRule : ℕ → List Row → Row → Type 0 where
    -- 23. A virtual or interface call enters the target for the class of each site of its receiver, which is the body's receiver.
    enter_receiver : {n : Node} {kind : CallKind} {at : MethodRef} {args : List ℕ} {x z body u : ℕ} {s : Site} {class : Name} →
        Acts app n (Call kind at args) →
        IsTrue (is_by_receiver kind) →
        IsAt args 0 x →
        SiteClass app lists s class →
        target app kind n.by.method at (Some class) ≡ Body body →
        ArgumentRegister app body 0 z →
        ReadAt app body z 0 u →
        CallRule 23 (Points n x s ∷ []) (Points (node_in (callee n body) u) z s)
    -- 24. A call passes its arguments, but the receiver's sites only where the target does not hang on them. No initialiser that
    -- may run before the call is passed any.
    pass_points : {n : Node} {kind : CallKind} {at : MethodRef} {args : List ℕ} {x z u : ℕ} (i : ℕ) {b : Activation} {s : Site} →
        Acts app n (Call kind at args) →
        IsAt args i x →
        IsFalse (is_by_receiver kind) ⊎ (i ≢ 0) →
        (InitialisedBy app n b → ⊥) →
        ArgumentRegister app b.method i z →
        ReadAt app b.method z 0 u →
        CallRule 24 (Calls n b ∷ Points n x s ∷ []) (Points (node_in b u) z s)
    pass_label : {n : Node} {kind : CallKind} {at : MethodRef} {args : List ℕ} {x z l u : ℕ} (i : ℕ) {b : Activation} →
        Acts app n (Call kind at args) →
        IsAt args i x →
        (InitialisedBy app n b → ⊥) →
        ArgumentRegister app b.method i z →
        ReadAt app b.method z 0 u →
        CallRule 24 (Calls n b ∷ Label n x l ∷ []) (Label (node_in b u) z l)
    -- 25. What an activation returns is the RES of the steps after each node that enters it.
    returned_points : {n : Node} {pc u : ℕ} {b : Activation} {s : Site} →
        GoesOn app n pc →
        ReadAt app n.by.method result_register pc u →
        CallRule 25 (ExitPoints b returning s ∷ CalledBy b n ∷ []) (Points (at_pc n u) result_register s)
    returned_label : {n : Node} {pc l u : ℕ} {b : Activation} →
        GoesOn app n pc →
        ReadAt app n.by.method result_register pc u →
        CallRule 25 (ExitLabel b returning l ∷ CalledBy b n ∷ []) (Label (at_pc n u) result_register l)
    -- 26. What it throws is the EXC of each handler there, and its labels leave the activation there.
    caught_points : {n : Node} {pc u : ℕ} {b : Activation} {s : Site} →
        CaughtAt app n pc →
        ReadAt app n.by.method exception_register pc u →
        CallRule 26 (ExitPoints b throwing s ∷ CalledBy b n ∷ []) (Points (at_pc n u) exception_register s)
    caught_label : {n : Node} {pc l u : ℕ} {b : Activation} →
        CaughtAt app n pc →
        ReadAt app n.by.method exception_register pc u →
        CallRule 26 (ExitLabel b throwing l ∷ CalledBy b n ∷ []) (Label (at_pc n u) exception_register l)
    unwound_label : {n : Node} {l : ℕ} {b : Activation} →
        CallRule 26 (ExitLabel b throwing l ∷ CalledBy b n ∷ []) (ExitLabel n.by throwing l)
