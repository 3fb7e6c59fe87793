-- When rows fit a value in a heap, and how this lasts over a change of the heap.
use Rattle.std.proofs.Common.{◌≡◌, ℕ, ◌<◌, List, [], ◌∷◌, ◌++◌, length, ◌⊎◌, inl, inr, Some, arith}
use Rattle.std.proofs.lemmas.Option.{none-some}
use Rattle.vet_base.specs.declared.key_id.KeyId.{KeyId}
use Rattle.access_path.specs.declared.path.Path.{Path}
use Rattle.access_path.specs.Laws.{PathLaws}
use Rattle.access_path.specs.Paths.{Covers, cut}
use Rattle.app_machine.specs.declared.app.App.{App}
use Rattle.app_machine.specs.declared.lists.Lists.{Lists}
use Rattle.vet_base.specs.Members.{In}
use Rattle.vet_base.proofs.Members.{in_either}
use Rattle.app_machine.specs.Names.{Name}
use Rattle.app_machine.specs.Heap.{Value, Object, EntryAt, ClassAt, Reaches, blank, labelled}
use Rattle.fact_rows.specs.declared.site.Site.{Site}
use Rattle.fact_rows.specs.declared.row.Row.{Row}
use Rattle.fact_rows.specs.declared.row.Row.TheVariants.{Cell}
use Rattle.flow_rules.specs.Sites.{SiteClass}

-- some path of which the fact holds covers the keys
pub record Covered (taints : Path → ℕ → Type 0) (ks : List KeyId) (label : ℕ) : Type 0 where
  pub path : Path
  pub covers : Covers path ks
  pub row : taints path label

-- The rows know the value: the site of its object, and each walk from it.
pub record Fits (heap : List Object) (site : ℕ → Site) (v : Value) (points : Site → Type 0) (taints : Path → ℕ → Type 0) : Type 0 where
  pub within : (p : ℕ) → v.place ≡ Some p → p < length heap
  pub pointed : (p : ℕ) → v.place ≡ Some p → points (site p)
  pub tainted : (ks : List KeyId) (label : ℕ) → Reaches heap v ks label → Covered taints ks label

-- Each object is of its site's class, and each entry with a place has its Cell row.
pub record HeapFits (app : App) (lists : Lists) (has : Row → Type 0) (heap : List Object) (site : ℕ → Site) : Type 0 where
  pub within : (p : ℕ) (k : KeyId) (w : Value) (t : ℕ) → EntryAt heap p k w → w.place ≡ Some t → t < length heap
  pub cell : (p : ℕ) (k : KeyId) (w : Value) (t : ℕ) → EntryAt heap p k w → w.place ≡ Some t → has (Cell (site p) k (site t))
  pub class : (p : ℕ) (c : Name) → ClassAt heap p c → SiteClass app lists (site p) c

pub covered_map : {T T' : Path → ℕ → Type 0} {ks : List KeyId} {label : ℕ} → ((q : Path) (l : ℕ) → T q l → T' q l) → Covered T ks label →
    Covered T' ks label
covered_map f c = record { path = c.path; covers = c.covers; row = f c.path _ c.row }

-- a value without a place is known by its own labels
pub placeless_fits : (heap : List Object) (site : ℕ → Site) (labels : List ℕ) (points : Site → Type 0) (taints : Path → ℕ → Type 0) →
    ((l : ℕ) → In l labels → Covered taints [] l) → Fits heap site (labelled labels) points taints
placeless_fits heap site labels points taints own = record {
  within = λ p e. absurd (none-some p e);
  pointed = λ p e. absurd (none-some p e);
  tainted = elim [ [] ↦ λ label h. own label h | k ∷ ks ↦ λ label h. absurd (none-some h.0 h.1) ];
}

pub blank_fits : (heap : List Object) (site : ℕ → Site) (points : Site → Type 0) (taints : Path → ℕ → Type 0) → Fits heap site blank points taints
blank_fits heap site points taints = placeless_fits heap site [] points taints (λ l h. absurd h)

pub fits_map : {heap : List Object} {site : ℕ → Site} {v : Value} {P P' : Site → Type 0} {T T' : Path → ℕ → Type 0} →
    ((s : Site) → P s → P' s) → ((q : Path) (l : ℕ) → T q l → T' q l) → Fits heap site v P T → Fits heap site v P' T'
fits_map f g fits = record {
  within = fits.within;
  pointed = λ p e. f _ (fits.pointed p e);
  tainted = λ ks label h. covered_map g (fits.tainted ks label h);
}

-- a value with more labels
pub labelled_fits : {heap : List Object} {site : ℕ → Site} {v : Value} {points : Site → Type 0} {taints : Path → ℕ → Type 0} (more : List ℕ) →
    ((l : ℕ) → In l more → Covered taints [] l) → Fits heap site v points taints → Fits heap site (record { place = v.place; labels = more ++ v.labels }) points taints
labelled_fits {v = v} more own fits = record {
  within = fits.within;
  pointed = fits.pointed;
  tainted = elim [ [] ↦ λ l h. elim (in_either l more v.labels h) [ inl new ↦ own l new | inr old ↦ fits.tainted [] l old ] | k ∷ ks ↦ λ l h. fits.tainted (k ∷ ks) l h ];
}

-- The entry that is put under the key of an object is known, and the effect on the object's site covers what it leads to.
pub record PutFits (has : Row → Type 0) (effect : Site → Path → ℕ → Type 0) (heap : List Object) (site : ℕ → Site) (p : ℕ) (k : KeyId) (w : Value) : Type 0 where
  pub within : (t : ℕ) → w.place ≡ Some t → t < length heap
  pub cell : (t : ℕ) → w.place ≡ Some t → has (Cell (site p) k (site t))
  pub covered : (ks : List KeyId) (label : ℕ) → Reaches heap w ks label → Covered (effect (site p)) (k ∷ ks) label

-- The heap changed by entries alone, and each entry was there or fits the effect.
pub record Changed (has : Row → Type 0) (effect : Site → Path → ℕ → Type 0) (site : ℕ → Site) (heap heap' : List Object) : Type 0 where
  pub same_length : length heap' ≡ length heap
  pub same_class : (p : ℕ) (c : Name) → ClassAt heap' p c → ClassAt heap p c
  pub entries : (p : ℕ) (k : KeyId) (w : Value) → EntryAt heap' p k w → EntryAt heap p k w ⊎ PutFits has effect heap site p k w
  -- the effect goes on to each object with an entry that leads there
  pub lift : (k : KeyId) (l : ℕ) (s t : Site) (q : Path) → effect t q l → has (Cell s k t) → effect s (cut k q) l

-- an effect on a value's site
abbrev pub Touched : (Site → Type 0) → (Site → Path → ℕ → Type 0) → Path → ℕ → Type 0
Touched points effect q l = (s : Site) × points s × effect s q l

pub heap_changed : {app : App} {lists : Lists} {has : Row → Type 0} {effect : Site → Path → ℕ → Type 0} {site : ℕ → Site} {heap heap' : List Object} →
    HeapFits app lists has heap site → Changed has effect site heap heap' → HeapFits app lists has heap' site
heap_changed {app} {lists} {has} {effect} {site} {heap} {heap'} fits changed = record {
  within = λ p k w t h e. let below = elim (changed.entries p k w h) as (λ _. t < length heap) [ inl old ↦ fits.within p k w t old e | inr put ↦ put.within t e ] in let same = changed.same_length in omega arith;
  cell = λ p k w t h e. elim (changed.entries p k w h) [ inl old ↦ fits.cell p k w t old e | inr put ↦ put.cell t e ];
  class = λ p c h. fits.class p c (changed.same_class p c h);
}

-- what an effect says of the walks from a value
pub record Affected (effect : Site → Path → ℕ → Type 0) (site : ℕ → Site) (v : Value) (ks : List KeyId) (label : ℕ) : Type 0 where
  pub place : ℕ
  pub there : v.place ≡ Some place
  pub covered : Covered (effect (site place)) ks label

-- The central lemma: after a change each walk is an old one, or the effect on its first object covers it.
pub walk_after : PathLaws →
    {app : App} {lists : Lists} {has : Row → Type 0} {effect : Site → Path → ℕ → Type 0} {site : ℕ → Site} {heap heap' : List Object} →
    HeapFits app lists has heap site → Changed has effect site heap heap' → (ks : List KeyId) (v : Value) (label : ℕ) →
    Reaches heap' v ks label → Reaches heap v ks label ⊎ Affected effect site v ks label
walk_after laws fits changed [] v label h = inl h
walk_after laws {app} {lists} {has} {effect} {site} {heap} {heap'} fits changed (k ∷ ks) v label (p, there, (w, entered, walk)) =
    elim (walk_after laws fits changed ks w label walk) [
      | inl old ↦ elim (changed.entries p k w entered) [
        | inl before ↦ inl (p, there, (w, before, old))
        | inr put ↦ inr (record { place = p; there = there; covered = put.covered ks label old })
      ]
      | inr affected ↦ inr (lifted affected)
    ]
  where
    lifted : Affected effect site w ks label → Affected effect site v (k ∷ ks) label
    lifted a = record {
      place = p;
      there = there;
      covered = record {
        path = cut k a.covered.path;
        covers = laws.cut k a.covered.path ks a.covered.covers;
        row =
            changed.lift k label (site p) (site a.place) a.covered.path a.covered.row ((heap_changed fits changed).cell p k w a.place entered a.there);
      };
    }

-- So a value that the rows knew is known with the effect besides.
pub fits_after : PathLaws →
    {app : App} {lists : Lists} {has : Row → Type 0} {effect : Site → Path → ℕ → Type 0} {site : ℕ → Site} {heap heap' : List Object} →
    HeapFits app lists has heap site → Changed has effect site heap heap' → {v : Value} {P : Site → Type 0} {T T' : Path → ℕ → Type 0} →
    ((q : Path) (l : ℕ) → T q l ⊎ Touched P effect q l → T' q l) → Fits heap site v P T → Fits heap' site v P T'
fits_after laws {app} {lists} {has} {effect} {site} {heap} {heap'} heap_fits changed {v} {P} {T} {T'} take_in fits = record {
  within = λ p e. let below = fits.within p e in let same = changed.same_length in omega arith;
  pointed = fits.pointed;
  tainted = λ ks label h. go ks label (walk_after laws heap_fits changed ks v label h);
}
  where
    go : (ks : List KeyId) (label : ℕ) → Reaches heap v ks label ⊎ Affected effect site v ks label → Covered T' ks label
    go ks label (inl old) = covered_map (λ q l t. take_in q l (inl t)) (fits.tainted ks label old)
    go ks label (inr a) = covered_map (λ q l e. take_in q l (inr (_, fits.pointed a.place a.there, e))) a.covered
