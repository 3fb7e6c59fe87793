-- A loop over the items of a list that a script sees through a view: the laws of `walk`, the view put in.
use Rattle.std.proofs.Common.{◌≡◌, ℕ, ◌+◌, ◌<◌, ◌≤◌, Result, Ok, List, [], ◌∷◌, ◌++◌, length, map, get_or}
use Rattle.std.proofs.lemmas.List.{length-map}
use Rattle.vet_base.specs.declared.stop.Stop.{Stop}
use Rattle.vet_base.specs.Script.{Script, run, walk, Fails}
use Rattle.vet_base.proofs.Scripts.{Walks, walk_begins, walk_goes_on, walk_fails, walk_is_done}
use Rattle.vet_base.proofs.Lists.{get_or-map_read}

-- of the items, the first `i` are read, and with what is still read they make the whole
pub record Walking {F S V X Y : Type 0} (see : V → X) (items : List V) (i : ℕ) (row : X → S → Script F (Y × S)) (front : List Y) (s : S) (whole : Result (List Y × S) F) : Type 0 where
  pub walks : Walks (map see items) i row front s whole

pub begins : {F S V X Y : Type 0} (see : V → X) (items : List V) (row : X → S → Script F (Y × S)) (s : S) → Walking see items 0 row [] s (run (walk row (map see items) s))
begins see items row s = record { walks = walk_begins (map see items) row s }

pub goes_on : {F S V X Y : Type 0} (see : V → X) (items : List V) (i : ℕ) (row : X → S → Script F (Y × S)) (front : List Y) (s : S) (v : V) (y : Y) (t : S) (whole : Result (List Y × S) F)
    → i < length items → v ≡ get_or items i v → run (row (see v) s) ≡ Ok (y, t) → Walking see items i row front s whole → Walking see items (i + 1) row (front ++ y ∷ []) t whole
goes_on see items i row front s v y t whole lt item one so_far =
    let there : i < length (map see items) = rw length-map lt in
    record { walks = walk_goes_on (map see items) i row front s (see v) y t whole there (get_or-map_read see items i v lt item) one so_far.walks }

pub fails : {F S V X Y : Type 0} (e : Stop F) (see : V → X) (items : List V) (i : ℕ) (row : X → S → Script F (Y × S)) (front : List Y) (s : S) (v : V) (whole : Result (List Y × S) F)
    → i < length items → v ≡ get_or items i v → Fails e (run (row (see v) s)) → Walking see items i row front s whole → Fails e whole
fails e see items i row front s v whole lt item one so_far =
    let there : i < length (map see items) = rw length-map lt in
    walk_fails e (map see items) i row front s (see v) whole there (get_or-map_read see items i v lt item) one so_far.walks

pub is_done : {F S V X Y : Type 0} (see : V → X) (items : List V) (i : ℕ) (row : X → S → Script F (Y × S)) (front : List Y) (s : S) (whole : Result (List Y × S) F)
    → length items ≤ i → Walking see items i row front s whole → whole ≡ Ok (front, s)
is_done see items i row front s whole le so_far =
    let past : length (map see items) ≤ i = rw length-map le in
    walk_is_done (map see items) i row front s whole past so_far.walks
