-- One more row is written.
use Rattle.std.proofs.Common.{◌≡◌, ℕ, ◌+◌, ◌<◌, List, [], ◌∷◌, ◌++◌, length, take, get_or, append_assoc, ap, ◌∙◌}
use Rattle.std.specs.List.{All, flat_map}
use Rattle.std.proofs.lemmas.List.{append-nil, take_more}
use Rattle.std.proofs.lemmas.List.Concat.{flat_map-append}
use Rattle.std.proofs.lemmas.List.Elements.{All-append, All-from_recursion}
use Rattle.fact_rows.specs.declared.row.Row.{Row}
use Rattle.cert_rows.specs.Fitting.{RowIsSmall}
use Rattle.cert_rows.specs.Spelling.{row_bytes}

pushed : (rows : List Row) (x : Row) → flat_map row_bytes (rows ++ x ∷ []) ≡ flat_map row_bytes rows ++ row_bytes x
pushed rows x = flat_map-append row_bytes rows (x ∷ []) ∙ ap (λ bytes. flat_map row_bytes rows ++ bytes) (append-nil (row_bytes x))

pub put_more : (i : ℕ) (rows : List Row) (d : Row) (old now new : List ℕ) → i < length rows
    → now ≡ old ++ flat_map row_bytes (take i rows) → new ≡ now ++ row_bytes (get_or rows i d) → new ≡ old ++ flat_map row_bytes (take (i + 1) rows)
put_more i rows d old now new lt so_far one =
    rw (take_more rows i d lt, pushed (take i rows) (get_or rows i d), one, so_far) (append_assoc old (flat_map row_bytes (take i rows)) (row_bytes (get_or rows i d)))

pub small_more : (i : ℕ) (rows : List Row) (d : Row) → i < length rows → All RowIsSmall (take i rows) → RowIsSmall (get_or rows i d) → All RowIsSmall (take (i + 1) rows)
small_more i rows d lt so_far one =
    rw (take_more rows i d lt) (All-append RowIsSmall (take i rows) (get_or rows i d ∷ []) so_far (All-from_recursion RowIsSmall (get_or rows i d ∷ []) (one, tt)))
