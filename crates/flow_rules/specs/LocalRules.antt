-- Rules 1 to 13: steps within a method.
use Rattle.std.specs.Prelude.{◌≡◌, ◌==◌, ℕ, IsFalse, List, [], ◌∷◌, Option, Some}
use Rattle.vet_base.specs.declared.key_id.KeyId.{KeyId}
use Rattle.access_path.specs.declared.path.Path.{Path}
use Rattle.access_path.specs.Paths.{keys_of, cut, rest, empty_path}
use Rattle.app_machine.specs.declared.method.Act.{Act}
use Rattle.app_machine.specs.declared.method.Act.TheVariants.{Join, Move, New, Fill, Get, Put, GetStatic, PutStatic, Return, Throw, TakeResult, TakeException}
use Rattle.app_machine.specs.declared.lists.Lists.{Lists}
use Rattle.app_machine.specs.declared.app.App.{App}
use Rattle.vet_base.specs.Members.{In}
use Rattle.app_machine.specs.Names.{Name}
use Rattle.app_machine.specs.Lookups.{elem_key}
use Rattle.app_machine.specs.Summaries.{static_source}
use Rattle.app_machine.specs.State.{result_register, exception_register}
use Rattle.app_machine.specs.Local.{writes}
use Rattle.fact_rows.specs.declared.context.Node.{Node}
use Rattle.fact_rows.specs.declared.site.Site.{Site}
use Rattle.fact_rows.specs.declared.site.Site.TheVariants.{At}
use Rattle.fact_rows.specs.declared.row.Row.{Row}
use Rattle.fact_rows.specs.declared.row.Row.TheVariants.{Reached, Points, Taint, Cell, Back, StaticPoints, StaticTaint, Effect, ExitPoints, ExitTaint}
use Rattle.flow_rules.specs.Nodes.{at_pc, Acts, GoesOn, CaughtAt}

-- how an activation ends: it returns, or it throws
abbrev pub returning : ℕ
returning = 0

abbrev pub throwing : ℕ
throwing = 1

module _ (app : App) (lists : Lists) where
  -- The rule of that number gives the row from these premises.
  pub data LocalRule : ℕ → List Row → Row → Type 0 where
    -- 1. Control goes on: to each next step and to each handler.
    reach_next : {n : Node} {pc : ℕ} →
        GoesOn app n pc →
        LocalRule 1 (Reached n ∷ []) (Reached (at_pc n pc))
    reach_caught : {n : Node} {pc : ℕ} →
        CaughtAt app n pc →
        LocalRule 1 (Reached n ∷ []) (Reached (at_pc n pc))
    -- 2. A register keeps its value: to a next step where the act does not write it, to a handler where it is not EXC.
    keep_points : {n : Node} {pc r : ℕ} {s : Site} {act : Act} →
        Acts app n act →
        IsFalse (writes act r) →
        GoesOn app n pc →
        LocalRule 2 (Points n r s ∷ []) (Points (at_pc n pc) r s)
    keep_taint : {n : Node} {pc r l : ℕ} {p : Path} {act : Act} →
        Acts app n act →
        IsFalse (writes act r) →
        GoesOn app n pc →
        LocalRule 2 (Taint n r p l ∷ []) (Taint (at_pc n pc) r p l)
    keep_points_caught : {n : Node} {pc r : ℕ} {s : Site} →
        IsFalse (r == exception_register) →
        CaughtAt app n pc →
        LocalRule 2 (Points n r s ∷ []) (Points (at_pc n pc) r s)
    keep_taint_caught : {n : Node} {pc r l : ℕ} {p : Path} →
        IsFalse (r == exception_register) →
        CaughtAt app n pc →
        LocalRule 2 (Taint n r p l ∷ []) (Taint (at_pc n pc) r p l)
    -- 3. Move copies its source to each destination, TakeResult RES, and TakeException EXC.
    move_points : {n : Node} {pc x : ℕ} (d : ℕ) {ds : List ℕ} {s : Site} →
        Acts app n (Move ds x) →
        In d ds →
        GoesOn app n pc →
        LocalRule 3 (Points n x s ∷ []) (Points (at_pc n pc) d s)
    move_taint : {n : Node} {pc x l : ℕ} (d : ℕ) {ds : List ℕ} {p : Path} →
        Acts app n (Move ds x) →
        In d ds →
        GoesOn app n pc →
        LocalRule 3 (Taint n x p l ∷ []) (Taint (at_pc n pc) d p l)
    result_points : {n : Node} {pc : ℕ} (d : ℕ) {ds : List ℕ} {s : Site} →
        Acts app n (TakeResult ds) →
        In d ds →
        GoesOn app n pc →
        LocalRule 3 (Points n result_register s ∷ []) (Points (at_pc n pc) d s)
    result_taint : {n : Node} {pc l : ℕ} (d : ℕ) {ds : List ℕ} {p : Path} →
        Acts app n (TakeResult ds) →
        In d ds →
        GoesOn app n pc →
        LocalRule 3 (Taint n result_register p l ∷ []) (Taint (at_pc n pc) d p l)
    exception_points : {n : Node} {pc d : ℕ} {s : Site} →
        Acts app n (TakeException d) →
        GoesOn app n pc →
        LocalRule 3 (Points n exception_register s ∷ []) (Points (at_pc n pc) d s)
    exception_taint : {n : Node} {pc d l : ℕ} {p : Path} →
        Acts app n (TakeException d) →
        GoesOn app n pc →
        LocalRule 3 (Taint n exception_register p l ∷ []) (Taint (at_pc n pc) d p l)
    -- 4. Join gives each destination the sources' own labels.
    join_taint : {n : Node} {pc l : ℕ} (d x : ℕ) {ds xs : List ℕ} {p : Path} →
        Acts app n (Join ds xs) →
        In d ds →
        In x xs →
        keys_of p ≡ [] →
        GoesOn app n pc →
        LocalRule 4 (Taint n x p l ∷ []) (Taint (at_pc n pc) d empty_path l)
    -- 5. New points to an object that is made here, and has the own labels of its size. The RES of Fill points so too.
    new_points : {n : Node} {pc d : ℕ} {class : Name} {size : Option ℕ} →
        Acts app n (New d class size) →
        GoesOn app n pc →
        LocalRule 5 (Reached n ∷ []) (Points (at_pc n pc) d (At n))
    new_taint : {n : Node} {pc d x l : ℕ} {class : Name} {p : Path} →
        Acts app n (New d class (Some x)) →
        keys_of p ≡ [] →
        GoesOn app n pc →
        LocalRule 5 (Taint n x p l ∷ []) (Taint (at_pc n pc) d empty_path l)
    fill_points : {n : Node} {pc : ℕ} {xs : List ℕ} {class : Name} →
        Acts app n (Fill xs class) →
        GoesOn app n pc →
        LocalRule 5 (Reached n ∷ []) (Points (at_pc n pc) result_register (At n))
    -- 6. Fill makes its registers elements of the array.
    fill_cell : {n : Node} (x : ℕ) {xs : List ℕ} {class : Name} {s : Site} →
        Acts app n (Fill xs class) →
        In x xs →
        LocalRule 6 (Points n x s ∷ []) (Cell (At n) elem_key s)
    fill_taint : {n : Node} {pc l : ℕ} (x : ℕ) {xs : List ℕ} {class : Name} {p : Path} →
        Acts app n (Fill xs class) →
        In x xs →
        GoesOn app n pc →
        LocalRule 6 (Taint n x p l ∷ []) (Taint (at_pc n pc) result_register (cut elem_key p) l)
    -- 7. Get gives each destination what the object holds under the key.
    get_points : {n : Node} {pc o : ℕ} (d : ℕ) {ds : List ℕ} {k : KeyId} {s t : Site} →
        Acts app n (Get ds o k) →
        In d ds →
        GoesOn app n pc →
        LocalRule 7 (Points n o s ∷ Cell s k t ∷ []) (Points (at_pc n pc) d t)
    get_taint : {n : Node} {pc o l : ℕ} (d : ℕ) {ds : List ℕ} {k : KeyId} {p q : Path} →
        Acts app n (Get ds o k) →
        In d ds →
        rest p k ≡ Some q →
        GoesOn app n pc →
        LocalRule 7 (Taint n o p l ∷ []) (Taint (at_pc n pc) d q l)
    -- 8. Put makes the object hold the value, and has an effect on the object's site.
    put_cell : {n : Node} {o x : ℕ} {k : KeyId} {s t : Site} →
        Acts app n (Put o k x) →
        LocalRule 8 (Points n o s ∷ Points n x t ∷ []) (Cell s k t)
    put_effect : {n : Node} {o x l : ℕ} {k : KeyId} {s : Site} {p : Path} →
        Acts app n (Put o k x) →
        LocalRule 8 (Points n o s ∷ Taint n x p l ∷ []) (Effect n s (cut k p) l)
    -- 9. GetStatic gives each destination what the static holds, and the label that the lists give it.
    get_static_points : {n : Node} {pc g : ℕ} (d : ℕ) {ds : List ℕ} {s : Site} →
        Acts app n (GetStatic ds g) →
        In d ds →
        GoesOn app n pc →
        LocalRule 9 (Reached n ∷ StaticPoints g s ∷ []) (Points (at_pc n pc) d s)
    get_static_taint : {n : Node} {pc g l : ℕ} (d : ℕ) {ds : List ℕ} {p : Path} →
        Acts app n (GetStatic ds g) →
        In d ds →
        GoesOn app n pc →
        LocalRule 9 (Reached n ∷ StaticTaint g p l ∷ []) (Taint (at_pc n pc) d p l)
    get_static_source : {n : Node} {pc g l : ℕ} (d : ℕ) {ds : List ℕ} →
        Acts app n (GetStatic ds g) →
        In d ds →
        static_source app lists g ≡ Some l →
        GoesOn app n pc →
        LocalRule 9 (Reached n ∷ []) (Taint (at_pc n pc) d empty_path l)
    -- 10. PutStatic gives the static what the register holds.
    put_static_points : {n : Node} {g x : ℕ} {s : Site} →
        Acts app n (PutStatic g x) →
        LocalRule 10 (Points n x s ∷ []) (StaticPoints g s)
    put_static_taint : {n : Node} {g x l : ℕ} {p : Path} →
        Acts app n (PutStatic g x) →
        LocalRule 10 (Taint n x p l ∷ []) (StaticTaint g p l)
    -- 11. Throw gives its register to EXC at each handler, and out of the activation.
    throw_points : {n : Node} {pc x : ℕ} {s : Site} →
        Acts app n (Throw x) →
        CaughtAt app n pc →
        LocalRule 11 (Points n x s ∷ []) (Points (at_pc n pc) exception_register s)
    throw_taint : {n : Node} {pc x l : ℕ} {p : Path} →
        Acts app n (Throw x) →
        CaughtAt app n pc →
        LocalRule 11 (Taint n x p l ∷ []) (Taint (at_pc n pc) exception_register p l)
    throw_exit_points : {n : Node} {x : ℕ} {s : Site} →
        Acts app n (Throw x) →
        LocalRule 11 (Points n x s ∷ []) (ExitPoints n.by throwing s)
    throw_exit_taint : {n : Node} {x l : ℕ} {p : Path} →
        Acts app n (Throw x) →
        LocalRule 11 (Taint n x p l ∷ []) (ExitTaint n.by throwing p l)
    -- 12. Return gives its register out of the activation.
    return_points : {n : Node} {x : ℕ} {s : Site} →
        Acts app n (Return (Some x)) →
        LocalRule 12 (Points n x s ∷ []) (ExitPoints n.by returning s)
    return_taint : {n : Node} {x l : ℕ} {p : Path} →
        Acts app n (Return (Some x)) →
        LocalRule 12 (Taint n x p l ∷ []) (ExitTaint n.by returning p l)
    -- 13. What an object holds is held by it.
    cell_back : {k : KeyId} {s t : Site} →
        LocalRule 13 (Cell s k t ∷ []) (Back t k s)
