-- Rules 22 to 29: calls, results, exceptions and initialisers.
use Rattle.std.specs.Prelude.{◌≡◌, ◌≢◌, ◌⊎◌, ℕ, true, false, IsTrue, IsFalse, List, [], ◌∷◌, Some, None}
use Rattle.access_path.specs.declared.path.Path.{Path}
use Rattle.app_machine.specs.declared.call.MethodRef.{MethodRef}
use Rattle.app_machine.specs.declared.call.CallKind.{CallKind}
use Rattle.app_machine.specs.declared.method.Method.{Method}
use Rattle.app_machine.specs.declared.method.Act.TheVariants.{Call}
use Rattle.app_machine.specs.declared.summary.Summary.{Summary}
use Rattle.app_machine.specs.declared.lists.Lists.{Lists}
use Rattle.app_machine.specs.declared.lists.SummaryId.{SummaryId}
use Rattle.app_machine.specs.declared.app.App.{App}
use Rattle.vet_base.specs.Members.{IsAt}
use Rattle.app_machine.specs.Names.{Name}
use Rattle.app_machine.specs.Lookups.{Body, Library, target, is_by_receiver, is_static_call, HasCode, IsNative, Initialises}
use Rattle.app_machine.specs.Summaries.{library_key, summary}
use Rattle.app_machine.specs.State.{result_register, exception_register}
use Rattle.app_machine.specs.Safe.{no_summary, native, reflective}
use Rattle.fact_rows.specs.declared.context.Activation.{Activation}
use Rattle.fact_rows.specs.declared.context.Node.{Node}
use Rattle.fact_rows.specs.declared.site.Site.{Site}
use Rattle.fact_rows.specs.declared.row.Row.{Row}
use Rattle.fact_rows.specs.declared.row.Row.TheVariants.{Reached, Points, Taint, Calls, CalledBy, MethodEffect, ExitPoints, ExitTaint, Unknown, Uses}
use Rattle.flow_rules.specs.Nodes.{at_pc, entry, callee, Acts, GoesOn, CaughtAt, ArgumentRegister, InitialisedBy}
use Rattle.flow_rules.specs.Sites.{SiteClass}
use Rattle.flow_rules.specs.LocalRules.{returning, throwing}

-- The node enters the body: a body with code is called, and its entry is reached; of a native one nothing is known.
module _ (app : App) (n : Node) (body : ℕ) where
  pub data Enters : Row → Type 0 where
    calls_it : {m : Method} →
        HasCode app body m →
        Enters (Calls n (callee n body))
    is_called : {m : Method} →
        HasCode app body m →
        Enters (CalledBy (callee n body) n)
    reaches_it : {m : Method} →
        HasCode app body m →
        Enters (Reached (entry (callee n body)))
    is_native :
        IsNative app body →
        Enters (Unknown n native)

-- What a call on a library class gives: without a row or with a reflective one nothing is known, else the row is used.
module _ (app : App) (lists : Lists) (n : Node) (kind : CallKind) (at : MethodRef) (class : Name) where
  pub data LooksUp : Row → Type 0 where
    finds_none :
        library_key app lists class at.name at.proto (is_static_call kind) ≡ None →
        LooksUp (Unknown n no_summary)
    finds_reflection : {key : SummaryId} {row : Summary} →
        library_key app lists class at.name at.proto (is_static_call kind) ≡ Some key →
        summary lists key at (is_static_call kind) ≡ Some row →
        row.reflective ≡ true →
        LooksUp (Unknown n reflective)
    finds_row : {key : SummaryId} {row : Summary} →
        library_key app lists class at.name at.proto (is_static_call kind) ≡ Some key →
        summary lists key at (is_static_call kind) ≡ Some row →
        row.reflective ≡ false →
        LooksUp (Uses n key)

module _ (app : App) (lists : Lists) where
  pub data CallRule : ℕ → List Row → Row → Type 0 where
    -- 22. A static, direct or super call enters its target.
    enter_direct : {n : Node} {kind : CallKind} {at : MethodRef} {args : List ℕ} {body : ℕ} {row : Row} →
        Acts app n (Call kind at args) →
        IsFalse (is_by_receiver kind) →
        target app kind n.by.method at None ≡ Body body →
        Enters app n body row →
        CallRule 22 (Reached n ∷ []) row
    -- 23. A virtual or interface call enters the target for the class of each site of its receiver, which is the body's receiver.
    enter_class : {n : Node} {kind : CallKind} {at : MethodRef} {args : List ℕ} {x body : ℕ} {s : Site} {class : Name} {row : Row} →
        Acts app n (Call kind at args) →
        IsTrue (is_by_receiver kind) →
        IsAt args 0 x →
        SiteClass app lists s class →
        target app kind n.by.method at (Some class) ≡ Body body →
        Enters app n body row →
        CallRule 23 (Points n x s ∷ []) row
    enter_receiver : {n : Node} {kind : CallKind} {at : MethodRef} {args : List ℕ} {x z body : ℕ} {s : Site} {class : Name} →
        Acts app n (Call kind at args) →
        IsTrue (is_by_receiver kind) →
        IsAt args 0 x →
        SiteClass app lists s class →
        target app kind n.by.method at (Some class) ≡ Body body →
        ArgumentRegister app body 0 z →
        CallRule 23 (Points n x s ∷ []) (Points (entry (callee n body)) z s)
    -- 24. A call passes its arguments, but the receiver's sites only where the target does not hang on them. No initialiser that
    -- may run before the call is passed any.
    pass_points : {n : Node} {kind : CallKind} {at : MethodRef} {args : List ℕ} {x z : ℕ} (i : ℕ) {b : Activation} {s : Site} →
        Acts app n (Call kind at args) →
        IsAt args i x →
        IsFalse (is_by_receiver kind) ⊎ (i ≢ 0) →
        (InitialisedBy app n b → ⊥) →
        ArgumentRegister app b.method i z →
        CallRule 24 (Calls n b ∷ Points n x s ∷ []) (Points (entry b) z s)
    pass_taint : {n : Node} {kind : CallKind} {at : MethodRef} {args : List ℕ} {x z l : ℕ} (i : ℕ) {b : Activation} {p : Path} →
        Acts app n (Call kind at args) →
        IsAt args i x →
        (InitialisedBy app n b → ⊥) →
        ArgumentRegister app b.method i z →
        CallRule 24 (Calls n b ∷ Taint n x p l ∷ []) (Taint (entry b) z p l)
    -- 25. What an activation returns is the RES of the steps after each node that enters it.
    returned_points : {n : Node} {pc : ℕ} {b : Activation} {s : Site} →
        GoesOn app n pc →
        CallRule 25 (ExitPoints b returning s ∷ CalledBy b n ∷ []) (Points (at_pc n pc) result_register s)
    returned_taint : {n : Node} {pc l : ℕ} {b : Activation} {p : Path} →
        GoesOn app n pc →
        CallRule 25 (ExitTaint b returning p l ∷ CalledBy b n ∷ []) (Taint (at_pc n pc) result_register p l)
    -- 26. What it throws is the EXC of each handler there, and leaves the activation there.
    caught_points : {n : Node} {pc : ℕ} {b : Activation} {s : Site} →
        CaughtAt app n pc →
        CallRule 26 (ExitPoints b throwing s ∷ CalledBy b n ∷ []) (Points (at_pc n pc) exception_register s)
    caught_taint : {n : Node} {pc l : ℕ} {b : Activation} {p : Path} →
        CaughtAt app n pc →
        CallRule 26 (ExitTaint b throwing p l ∷ CalledBy b n ∷ []) (Taint (at_pc n pc) exception_register p l)
    unwound_points : {n : Node} {b : Activation} {s : Site} →
        CallRule 26 (ExitPoints b throwing s ∷ CalledBy b n ∷ []) (ExitPoints n.by throwing s)
    unwound_taint : {n : Node} {l : ℕ} {b : Activation} {p : Path} →
        CallRule 26 (ExitTaint b throwing p l ∷ CalledBy b n ∷ []) (ExitTaint n.by throwing p l)
    -- 27. A call that comes to a library class uses its row: by the name alone, or with a receiver without a place; and by the
    -- class of each site of its receiver.
    use_by_name : {n : Node} {kind : CallKind} {at : MethodRef} {args : List ℕ} {class : Name} {row : Row} →
        Acts app n (Call kind at args) →
        target app kind n.by.method at None ≡ Library class →
        LooksUp app lists n kind at class row →
        CallRule 27 (Reached n ∷ []) row
    use_by_class : {n : Node} {kind : CallKind} {at : MethodRef} {args : List ℕ} {x : ℕ} {s : Site} {class above : Name} {row : Row} →
        Acts app n (Call kind at args) →
        IsTrue (is_by_receiver kind) →
        IsAt args 0 x →
        SiteClass app lists s class →
        target app kind n.by.method at (Some class) ≡ Library above →
        LooksUp app lists n kind at above row →
        CallRule 27 (Points n x s ∷ []) row
    -- 28. An instruction enters the initialisers that may run before it.
    enter_initialiser : {n : Node} {body : ℕ} {row : Row} →
        Initialises app n.by.method n.pc body →
        Enters app n body row →
        CallRule 28 (Reached n ∷ []) row
    -- 29. An effect of an initialiser comes to the registers of the instruction before which it ran.
    initialiser_taint : {n : Node} {z l : ℕ} {b : Activation} {s : Site} {p : Path} →
        InitialisedBy app n b →
        CallRule 29 (MethodEffect b s p l ∷ CalledBy b n ∷ Points n z s ∷ []) (Taint n z p l)
