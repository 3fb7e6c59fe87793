-- When rows fit a value and a heap, how this lasts over a change and a new object, and what is reached from an object.
use Rattle.std.proofs.Common.{◌≡◌, ℕ, ◌<◌, List, [], ◌∷◌, ◌++◌, length, ◌⊎◌, inl, inr, Some, refl, sym, subst, arith}
use Rattle.std.proofs.lemmas.List.{length-append}
use Rattle.std.proofs.lemmas.Option.{none-some, same_Some}
use Rattle.vet_base.specs.declared.key_id.KeyId.{KeyId}
use Rattle.app_machine.specs.declared.app.App.{App}
use Rattle.app_machine.specs.declared.lists.Lists.{Lists}
use Rattle.vet_base.specs.Members.{In}
use Rattle.vet_base.proofs.Members.{in_either}
use Rattle.app_machine.specs.Names.{Name}
use Rattle.app_machine.specs.Heap.{Value, Object, EntryAt, ClassAt, Reaches, Gets, entry_of, no_element, no_entry, blank, labelled}
use Rattle.fact_rows.specs.declared.site.Site.{Site}
use Rattle.flow_rules.specs.Sites.{SiteClass}
use Rattle.flow_rules.specs.LocalRules.{cell_back}
use Rattle.flow_rules.specs.Rules.{by_local as first_local}
use Rattle.fact_rows.specs.declared.row.Row.{Row}
use Rattle.fact_rows.specs.declared.row.Row.TheVariants.{Cell, CellLabel, Holds}
use Rattle.cell_rules.specs.HeapRules.{cell_holds, lift_holds}
use Rattle.cell_rules.specs.KeptRules.{kept}
use Rattle.cell_rules.specs.Rules.{by_kept, by_heap, Closed}
use Rattle.flow_proof.proofs.HeapLaws.{EntryAt-append, EntryAt-within, ClassAt-append, ClassAt-within}
use Rattle.flow_proof.proofs.Growing.{with_site, with_site-new, with_site-below}

-- The rows know the value: the site of its object, and its own labels. Objects are below the size.
pub record Fits (size : ℕ) (site : ℕ → Site) (v : Value) (points : Site → Type 0) (known : ℕ → Type 0) : Type 0 where
  pub within : (p : ℕ) → v.place ≡ Some p → p < size
  pub pointed : (p : ℕ) → v.place ≡ Some p → points (site p)
  pub labels : (l : ℕ) → In l v.labels → known l

-- the rows know a value under the key of an object of the site
abbrev pub CellFits : (Row → Type 0) → ℕ → (ℕ → Site) → Site → KeyId → Value → Type 0
CellFits has size site s k w = Fits size site w (λ t. has (Cell s k t)) (λ l. has (CellLabel s k l))

-- Each object is of its site's class, and each entry is known.
pub record HeapFits (app : App) (lists : Lists) (has : Row → Type 0) (heap : List Object) (site : ℕ → Site) : Type 0 where
  pub entries : (p : ℕ) (k : KeyId) (w : Value) → EntryAt heap p k w → CellFits has (length heap) site (site p) k w
  pub class : (p : ℕ) (c : Name) → ClassAt heap p c → SiteClass app lists (site p) c

-- a value without a place is known by its own labels
pub placeless_fits : (size : ℕ) (site : ℕ → Site) (own : List ℕ) (points : Site → Type 0) (labels : ℕ → Type 0) → ((l : ℕ) → In l own → labels l) →
    Fits size site (labelled own) points labels
placeless_fits size site own points labels known =
    record { within = λ p e. absurd (none-some p e); pointed = λ p e. absurd (none-some p e); labels = known }

pub blank_fits : (size : ℕ) (site : ℕ → Site) (points : Site → Type 0) (labels : ℕ → Type 0) → Fits size site blank points labels
blank_fits size site points labels = placeless_fits size site [] points labels (λ l h. absurd h)

pub fits_map : {size : ℕ} {site : ℕ → Site} {v : Value} {P P' : Site → Type 0} {L L' : ℕ → Type 0} → ((s : Site) → P s → P' s) →
    ((l : ℕ) → L l → L' l) → Fits size site v P L → Fits size site v P' L'
fits_map f g fits = record { within = fits.within; pointed = λ p e. f _ (fits.pointed p e); labels = λ l h. g l (fits.labels l h) }

pub fits_sized : {size size' : ℕ} {site : ℕ → Site} {v : Value} {P : Site → Type 0} {L : ℕ → Type 0} → size' ≡ size → Fits size site v P L →
    Fits size' site v P L
fits_sized {size} {size'} {site} {v} {P} {L} same fits = subst (λ n. Fits n site v P L) (sym same) fits

-- The heap changed by entries alone, and each entry was there or is known.
pub record Changed (has : Row → Type 0) (site : ℕ → Site) (heap heap' : List Object) : Type 0 where
  pub same_length : length heap' ≡ length heap
  pub same_class : (p : ℕ) (c : Name) → ClassAt heap' p c → ClassAt heap p c
  pub entries : (p : ℕ) (k : KeyId) (w : Value) → EntryAt heap' p k w → EntryAt heap p k w ⊎ CellFits has (length heap) site (site p) k w

pub heap_changed : {app : App} {lists : Lists} {has : Row → Type 0} {site : ℕ → Site} {heap heap' : List Object} → HeapFits app lists has heap site →
    Changed has site heap heap' → HeapFits app lists has heap' site
heap_changed fits changed = record {
  entries = λ p k w h. fits_sized changed.same_length (elim (changed.entries p k w h) [ inl old ↦ fits.entries p k w old | inr put ↦ put ]);
  class = λ p c h. fits.class p c (changed.same_class p c h);
}

-- a value with more labels
pub labelled_fits : {size : ℕ} {site : ℕ → Site} {v : Value} {P : Site → Type 0} {L : ℕ → Type 0} (more : List ℕ) → ((l : ℕ) → In l more → L l) →
    Fits size site v P L → Fits size site (record { place = v.place; labels = more ++ v.labels }) P L
labelled_fits {v = v} more own fits = record {
  within = fits.within;
  pointed = fits.pointed;
  labels = λ l h. elim (in_either l more v.labels h) [ inl new ↦ own l new | inr old ↦ fits.labels l old ];
}

-- what a new object leaves as it was
pub fits_grown : {site : ℕ → Site} {v : Value} {P : Site → Type 0} {L : ℕ → Type 0} (heap : List Object) (o : Object) (new : Site) →
    Fits (length heap) site v P L → Fits (length (heap ++ o ∷ [])) (with_site site (length heap) new) v P L
fits_grown {site} {v} {P} heap o new fits = record {
  within = λ p e. let below = fits.within p e in omega (arith, length-append heap (o ∷ []));
  pointed = λ p e. let same = with_site-below site (length heap) new p (fits.within p e) in subst P (sym same) (fits.pointed p e);
  labels = fits.labels;
}

-- the entries of the new object have their rows
pub record NewFits (app : App) (lists : Lists) (has : Row → Type 0) (size : ℕ) (site : ℕ → Site) (new : Site) (o : Object) : Type 0 where
  pub entries : (k : KeyId) (w : Value) → In (k, w) o.entries → CellFits has size site new k w
  pub class : SiteClass app lists new o.class

pub heap_grown : {app : App} {lists : Lists} {has : Row → Type 0} {site : ℕ → Site} {heap : List Object} {o : Object} {new : Site} →
    HeapFits app lists has heap site → NewFits app lists has (length heap) site new o →
    HeapFits app lists has (heap ++ o ∷ []) (with_site site (length heap) new)
heap_grown {app} {lists} {has} {site} {heap} {o} {new} fits new_fits = record {
  entries = λ p k w entry. entries p k w (EntryAt-append heap o p k w entry);
  class = λ p c h. class p c (ClassAt-append heap o p c h);
}
  where
    at_site : {s t : Site} (k : KeyId) (w : Value) → t ≡ s → CellFits has (length (heap ++ o ∷ [])) (with_site site (length heap) new) s k w →
        CellFits has (length (heap ++ o ∷ [])) (with_site site (length heap) new) t k w
    at_site k w same h = subst (λ s. CellFits has (length (heap ++ o ∷ [])) (with_site site (length heap) new) s k w) (sym same) h

    entries : (p : ℕ) (k : KeyId) (w : Value) → ((p ≡ length heap) × In (k, w) o.entries) ⊎ EntryAt heap p k w →
        CellFits has (length (heap ++ o ∷ [])) (with_site site (length heap) new) (with_site site (length heap) new p) k w
    entries p k w (inl (at_end, entry)) = rw (at_end, with_site-new site (length heap) new) (fits_grown heap o new (new_fits.entries k w entry))
    entries p k w (inr old) =
        at_site k w (with_site-below site (length heap) new p (EntryAt-within heap p k w old)) (fits_grown heap o new (fits.entries p k w old))

    class : (p : ℕ) (c : Name) → ((p ≡ length heap) × (o.class ≡ c)) ⊎ ClassAt heap p c → SiteClass app lists (with_site site (length heap) new p) c
    class p c (inl (at_end, same)) = rw (at_end, with_site-new site (length heap) new) (subst (λ x. SiteClass app lists new x) same new_fits.class)
    class p c (inr old) = rw (with_site-below site (length heap) new p (ClassAt-within heap p c old)) (fits.class p c old)

-- the new object in a value
pub new_fits : (heap : List Object) (site : ℕ → Site) (new : Site) (o : Object) (own : List ℕ) (points : Site → Type 0) (labels : ℕ → Type 0) →
    points new → ((l : ℕ) → In l own → labels l) →
    Fits (length (heap ++ o ∷ [])) (with_site site (length heap) new) (record { place = Some (length heap); labels = own }) points labels
new_fits heap site new o own points labels pointed known = record {
  within = λ p e. let same = same_Some _ _ e in omega (arith, length-append heap (o ∷ []));
  pointed = λ p e. subst (λ q. points (with_site site (length heap) new q)) (same_Some _ _ e) (rw with_site-new pointed);
  labels = known;
}

module _ (app : App) (lists : Lists) (has : Row → Type 0) where
  -- What a get gives is known where the rows of the object and of its cells give rows of the destination.
  pub gets_fit : {heap : List Object} {size : ℕ} {site : ℕ → Site} {k : KeyId} {v w : Value} {P P' : Site → Type 0} {L L' : ℕ → Type 0} →
      HeapFits app lists has heap site → ((s t : Site) → P s → has (Cell s k t) → P' t) → ((s : Site) (l : ℕ) → P s → has (CellLabel s k l) → L' l) →
      Fits size site v P L → Gets heap v k w → Fits (length heap) site w P' L'
  gets_fit heap_fits points_rule label_rule fits (no_element _) = blank_fits _ _ _ _
  gets_fit heap_fits points_rule label_rule fits (no_entry _) = blank_fits _ _ _ _
  gets_fit {k = k} {w = w} heap_fits points_rule label_rule fits (entry_of {p = p} there found) =
      fits_map (λ t cell. points_rule _ t (fits.pointed p there) cell) (λ l own. label_rule _ l (fits.pointed p there) own) (heap_fits.entries p k w found)

  module _ (closed : Closed app lists has) where
    -- Each label that a walk reaches through an entry of an object is held by the object.
    pub reached_held : {heap : List Object} {site : ℕ → Site} → HeapFits app lists has heap site →
        (ks : List KeyId) (p : ℕ) (k : KeyId) (w : Value) (l : ℕ) → EntryAt heap p k w → Reaches heap w ks l → has (Holds (site p) l)
    reached_held fits [] p k w l entry own = closed _ _ _ (by_heap cell_holds) ((fits.entries p k w entry).labels l own, tt)
    reached_held fits (j ∷ ks) p k w l entry (t, there, (x, inner, walk)) =
        closed _ _ _ (by_heap lift_holds) (reached_held fits ks t j x l inner walk, (closed _ _ _ (by_kept (kept (first_local cell_back) tt refl)) ((fits.entries p k w entry).pointed t there, tt), tt))

    -- a label that a walk from a known value comes to is its own, or held by its object
    pub walked : {heap : List Object} {size : ℕ} {site : ℕ → Site} {v : Value} {P : Site → Type 0} {L : ℕ → Type 0} →
        HeapFits app lists has heap site → Fits size site v P L → (ks : List KeyId) (l : ℕ) → Reaches heap v ks l →
        L l ⊎ ((s : Site) × P s × has (Holds s l))
    walked heap_fits fits [] l own = inl (fits.labels l own)
    walked {site = site} heap_fits fits (k ∷ ks) l (p, there, (w, entry, walk)) =
        inr (site p, fits.pointed p there, reached_held heap_fits ks p k w l entry walk)
