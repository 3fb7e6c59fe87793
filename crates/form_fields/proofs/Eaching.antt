-- A loop over the items of a list that keeps a state alone: the laws of `each`, over the list itself and over its items seen by
-- a view.
use Rattle.std.proofs.Common.{◌≡◌, ℕ, ◌+◌, ◌<◌, ◌≤◌, Result, Ok, List, length, map, get_or}
use Rattle.std.proofs.lemmas.List.{length-map}
use Rattle.vet_base.specs.declared.stop.Stop.{Stop}
use Rattle.vet_base.specs.Script.{Script, run, Fails, each}
use Rattle.vet_base.proofs.Lists.{get_or-map_read}
use Rattle.vet_base.proofs.Eaches.{Eaches, each_begins, each_goes_on, each_fails, each_is_done}

pub record Eaching {F S V X : Type 0} (see : V → X) (items : List V) (i : ℕ) (row : X → S → Script F S) (s : S) (whole : Result S F) : Type 0 where
  pub goes : Eaches (map see items) i row s whole

pub eaching_begins : {F S V X : Type 0} (see : V → X) (items : List V) (row : X → S → Script F S) (s : S) → Eaching see items 0 row s (run (each row (map see items) s))
eaching_begins see items row s = record { goes = each_begins (map see items) row s }

pub eaching_goes_on : {F S V X : Type 0} (see : V → X) (items : List V) (i : ℕ) (row : X → S → Script F S) (s : S) (v : V) (t : S) (whole : Result S F)
    → i < length items → v ≡ get_or items i v → run (row (see v) s) ≡ Ok t → Eaching see items i row s whole → Eaching see items (i + 1) row t whole
eaching_goes_on see items i row s v t whole lt item one so_far =
    let there : i < length (map see items) = rw length-map lt in
    record { goes = each_goes_on (map see items) i row s (see v) t whole there (get_or-map_read see items i v lt item) one so_far.goes }

pub eaching_fails : {F S V X : Type 0} (e : Stop F) (see : V → X) (items : List V) (i : ℕ) (row : X → S → Script F S) (s : S) (v : V) (whole : Result S F)
    → i < length items → v ≡ get_or items i v → Fails e (run (row (see v) s)) → Eaching see items i row s whole → Fails e whole
eaching_fails e see items i row s v whole lt item one so_far =
    let there : i < length (map see items) = rw length-map lt in
    each_fails e (map see items) i row s (see v) whole there (get_or-map_read see items i v lt item) one so_far.goes

pub eaching_is_done : {F S V X : Type 0} (see : V → X) (items : List V) (i : ℕ) (row : X → S → Script F S) (s : S) (whole : Result S F)
    → length items ≤ i → Eaching see items i row s whole → whole ≡ Ok s
eaching_is_done see items i row s whole le so_far =
    let past : length (map see items) ≤ i = rw length-map le in
    each_is_done (map see items) i row s whole past so_far.goes
