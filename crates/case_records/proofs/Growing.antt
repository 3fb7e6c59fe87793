-- One more text is written.
use Rattle.std.proofs.Common.{◌≡◌, ℕ, ◌+◌, ◌<◌, List, [], ◌∷◌, ◌++◌, length, take, get_or, append_assoc, sym, ap, ◌∙◌}
use Rattle.std.specs.List.{flat_map}
use Rattle.std.proofs.lemmas.List.{append-nil, take_more}
use Rattle.std.proofs.lemmas.List.Concat.{flat_map-append}
use Rattle.vet_base.proofs.Every.{each_append}
use Rattle.case_records.specs.Fitting.{TextFits, AllFit}
use Rattle.case_records.specs.Spelling.{text_bytes}

pushed : (texts : List (List ℕ)) (x : List ℕ) → flat_map text_bytes (texts ++ x ∷ []) ≡ flat_map text_bytes texts ++ text_bytes x
pushed texts x = flat_map-append text_bytes texts (x ∷ []) ∙ ap (λ bytes. flat_map text_bytes texts ++ bytes) (append-nil (text_bytes x))

one_more : (i : ℕ) (texts : List (List ℕ)) (x : List ℕ) → i < length texts → x ≡ get_or texts i x → take (i + 1) texts ≡ take i texts ++ x ∷ []
one_more i texts x lt item = take_more texts i x lt ∙ ap (λ (y : List ℕ). take i texts ++ y ∷ []) (sym item)

pub put_more : (i : ℕ) (texts : List (List ℕ)) (x : List ℕ) (old now new : List ℕ) → i < length texts → x ≡ get_or texts i x
    → now ≡ old ++ flat_map text_bytes (take i texts) → new ≡ now ++ text_bytes x → new ≡ old ++ flat_map text_bytes (take (i + 1) texts)
put_more i texts x old now new lt item so_far one =
    rw (one_more i texts x lt item, pushed (take i texts) x, one, so_far) (append_assoc old (flat_map text_bytes (take i texts)) (text_bytes x))

pub fits_more : (i : ℕ) (texts : List (List ℕ)) (x : List ℕ) → i < length texts → x ≡ get_or texts i x → AllFit (take i texts) → TextFits x
    → AllFit (take (i + 1) texts)
fits_more i texts x lt item so_far one =
    rw (one_more i texts x lt item) (each_append TextFits (take i texts) (x ∷ []) so_far (one, tt))
