-- Rules 3 to 12: steps within a method.
use Rattle.std.specs.Prelude.{◌≡◌, ℕ, List, [], ◌∷◌, Option, Some}
use Rattle.vet_base.specs.declared.key_id.KeyId.{KeyId}
use Rattle.app_machine.specs.declared.method.Act.TheVariants.{Join, Move, New, Fill, Get, Put, GetStatic, PutStatic, Return, Throw, TakeResult, TakeException}
use Rattle.app_machine.specs.declared.lists.Lists.{Lists}
use Rattle.app_machine.specs.declared.app.App.{App}
use Rattle.vet_base.specs.Members.{In}
use Rattle.app_machine.specs.Names.{Name}
use Rattle.app_machine.specs.Lookups.{elem_key}
use Rattle.app_machine.specs.Summaries.{static_source}
use Rattle.app_machine.specs.State.{result_register, exception_register}
use Rattle.fact_rows.specs.declared.context.Node.{Node}
use Rattle.fact_rows.specs.declared.site.Site.{Site}
use Rattle.fact_rows.specs.declared.row.Row.{Row}
use Rattle.fact_rows.specs.declared.row.Row.TheVariants.{Reached, Points, Label, Cell, CellLabel, StaticPoints, StaticLabel, ExitLabel}
use Rattle.flow_rules.specs.Nodes.{at_pc, Acts, GoesOn, CaughtAt}
use Rattle.flow_rules.specs.LocalRules.{returning, throwing}
use Rattle.cell_rules.specs.Making.{made_at}
use Rattle.cell_rules.specs.Reading.{ReadAt}

module _ (app : App) (lists : Lists) where
  -- The rule of that number gives the row from these premises.
  pub data LocalRule : ℕ → List Row → Row → Type 0 where
    -- 3. Move copies its source to each destination, TakeResult RES, and TakeException EXC.
    move_points : {n : Node} {pc x u : ℕ} (d : ℕ) {ds : List ℕ} {s : Site} →
        Acts app n (Move ds x) →
        In d ds →
        GoesOn app n pc →
        ReadAt app n.by.method d pc u →
        LocalRule 3 (Points n x s ∷ []) (Points (at_pc n u) d s)
    move_label : {n : Node} {pc x l u : ℕ} (d : ℕ) {ds : List ℕ} →
        Acts app n (Move ds x) →
        In d ds →
        GoesOn app n pc →
        ReadAt app n.by.method d pc u →
        LocalRule 3 (Label n x l ∷ []) (Label (at_pc n u) d l)
    result_points : {n : Node} {pc u : ℕ} (d : ℕ) {ds : List ℕ} {s : Site} →
        Acts app n (TakeResult ds) →
        In d ds →
        GoesOn app n pc →
        ReadAt app n.by.method d pc u →
        LocalRule 3 (Points n result_register s ∷ []) (Points (at_pc n u) d s)
    result_label : {n : Node} {pc l u : ℕ} (d : ℕ) {ds : List ℕ} →
        Acts app n (TakeResult ds) →
        In d ds →
        GoesOn app n pc →
        ReadAt app n.by.method d pc u →
        LocalRule 3 (Label n result_register l ∷ []) (Label (at_pc n u) d l)
    exception_points : {n : Node} {pc d u : ℕ} {s : Site} →
        Acts app n (TakeException d) →
        GoesOn app n pc →
        ReadAt app n.by.method d pc u →
        LocalRule 3 (Points n exception_register s ∷ []) (Points (at_pc n u) d s)
    exception_label : {n : Node} {pc d l u : ℕ} →
        Acts app n (TakeException d) →
        GoesOn app n pc →
        ReadAt app n.by.method d pc u →
        LocalRule 3 (Label n exception_register l ∷ []) (Label (at_pc n u) d l)
    -- 4. Join gives each destination the sources' own labels.
    join_label : {n : Node} {pc l u : ℕ} (d x : ℕ) {ds xs : List ℕ} →
        Acts app n (Join ds xs) →
        In d ds →
        In x xs →
        GoesOn app n pc →
        ReadAt app n.by.method d pc u →
        LocalRule 4 (Label n x l ∷ []) (Label (at_pc n u) d l)
    -- 5. New points to an object that is made here, and has the own labels of its size. The RES of Fill points so too.
    new_points : {n : Node} {pc d u : ℕ} {class : Name} {size : Option ℕ} →
        Acts app n (New d class size) →
        GoesOn app n pc →
        ReadAt app n.by.method d pc u →
        LocalRule 5 (Reached n ∷ []) (Points (at_pc n u) d (made_at app n))
    new_label : {n : Node} {pc d x l u : ℕ} {class : Name} →
        Acts app n (New d class (Some x)) →
        GoesOn app n pc →
        ReadAt app n.by.method d pc u →
        LocalRule 5 (Label n x l ∷ []) (Label (at_pc n u) d l)
    fill_points : {n : Node} {pc u : ℕ} {xs : List ℕ} {class : Name} →
        Acts app n (Fill xs class) →
        GoesOn app n pc →
        ReadAt app n.by.method result_register pc u →
        LocalRule 5 (Reached n ∷ []) (Points (at_pc n u) result_register (made_at app n))
    -- 6. Fill makes its registers elements of the array.
    fill_cell : {n : Node} (x : ℕ) {xs : List ℕ} {class : Name} {s : Site} →
        Acts app n (Fill xs class) →
        In x xs →
        LocalRule 6 (Points n x s ∷ []) (Cell (made_at app n) elem_key s)
    fill_label : {n : Node} {l : ℕ} (x : ℕ) {xs : List ℕ} {class : Name} →
        Acts app n (Fill xs class) →
        In x xs →
        LocalRule 6 (Label n x l ∷ []) (CellLabel (made_at app n) elem_key l)
    -- 7. Get gives each destination what the object holds under the key.
    get_points : {n : Node} {pc o u : ℕ} (d : ℕ) {ds : List ℕ} {k : KeyId} {s t : Site} →
        Acts app n (Get ds o k) →
        In d ds →
        GoesOn app n pc →
        ReadAt app n.by.method d pc u →
        LocalRule 7 (Points n o s ∷ Cell s k t ∷ []) (Points (at_pc n u) d t)
    get_label : {n : Node} {pc o l u : ℕ} (d : ℕ) {ds : List ℕ} {k : KeyId} {s : Site} →
        Acts app n (Get ds o k) →
        In d ds →
        GoesOn app n pc →
        ReadAt app n.by.method d pc u →
        LocalRule 7 (Points n o s ∷ CellLabel s k l ∷ []) (Label (at_pc n u) d l)
    -- 8. Put makes the object hold the value's labels.
    put_label : {n : Node} {o x l : ℕ} {k : KeyId} {s : Site} →
        Acts app n (Put o k x) →
        LocalRule 8 (Points n o s ∷ Label n x l ∷ []) (CellLabel s k l)
    -- 9. GetStatic gives each destination what the static holds, and the label that the lists give it.
    get_static_points : {n : Node} {pc g u : ℕ} (d : ℕ) {ds : List ℕ} {s : Site} →
        Acts app n (GetStatic ds g) →
        In d ds →
        GoesOn app n pc →
        ReadAt app n.by.method d pc u →
        LocalRule 9 (Reached n ∷ StaticPoints g s ∷ []) (Points (at_pc n u) d s)
    get_static_label : {n : Node} {pc g l u : ℕ} (d : ℕ) {ds : List ℕ} →
        Acts app n (GetStatic ds g) →
        In d ds →
        GoesOn app n pc →
        ReadAt app n.by.method d pc u →
        LocalRule 9 (Reached n ∷ StaticLabel g l ∷ []) (Label (at_pc n u) d l)
    get_static_source : {n : Node} {pc g l u : ℕ} (d : ℕ) {ds : List ℕ} →
        Acts app n (GetStatic ds g) →
        In d ds →
        static_source app lists g ≡ Some l →
        GoesOn app n pc →
        ReadAt app n.by.method d pc u →
        LocalRule 9 (Reached n ∷ []) (Label (at_pc n u) d l)
    -- 10. PutStatic gives the static the register's labels.
    put_static_label : {n : Node} {g x l : ℕ} →
        Acts app n (PutStatic g x) →
        LocalRule 10 (Label n x l ∷ []) (StaticLabel g l)
    -- 11. Throw gives its register to EXC at each handler, and its labels out of the activation.
    throw_points : {n : Node} {pc x u : ℕ} {s : Site} →
        Acts app n (Throw x) →
        CaughtAt app n pc →
        ReadAt app n.by.method exception_register pc u →
        LocalRule 11 (Points n x s ∷ []) (Points (at_pc n u) exception_register s)
    throw_label : {n : Node} {pc x l u : ℕ} →
        Acts app n (Throw x) →
        CaughtAt app n pc →
        ReadAt app n.by.method exception_register pc u →
        LocalRule 11 (Label n x l ∷ []) (Label (at_pc n u) exception_register l)
    throw_exit_label : {n : Node} {x l : ℕ} →
        Acts app n (Throw x) →
        LocalRule 11 (Label n x l ∷ []) (ExitLabel n.by throwing l)
    -- 12. Return gives its register's labels out of the activation.
    return_label : {n : Node} {x l : ℕ} →
        Acts app n (Return (Some x)) →
        LocalRule 12 (Label n x l ∷ []) (ExitLabel n.by returning l)
