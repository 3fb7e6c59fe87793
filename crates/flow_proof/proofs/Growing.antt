-- What a new object leaves as it was.
use Rattle.std.proofs.Common.{◌≡◌, ◌==◌, ℕ, ◌<◌, List, [], ◌∷◌, ◌++◌, length, cond, ◌⊎◌, inl, inr, Some, refl, sym, subst, arith, eq-eqb}
use Rattle.std.proofs.lemmas.List.{length-append}
use Rattle.std.proofs.lemmas.Bool.Decides.{eqb_tells}
use Rattle.std.proofs.lemmas.Option.{same_Some}
use Rattle.vet_base.specs.declared.key_id.KeyId.{KeyId}
use Rattle.access_path.specs.declared.path.Path.{Path}
use Rattle.app_machine.specs.declared.app.App.{App}
use Rattle.app_machine.specs.declared.lists.Lists.{Lists}
use Rattle.vet_base.specs.Members.{In}
use Rattle.app_machine.specs.Names.{Name}
use Rattle.app_machine.specs.Heap.{Value, Object, EntryAt, ClassAt, Reaches}
use Rattle.fact_rows.specs.declared.site.Site.{Site}
use Rattle.fact_rows.specs.declared.row.Row.{Row}
use Rattle.fact_rows.specs.declared.row.Row.TheVariants.{Cell}
use Rattle.flow_rules.specs.Sites.{SiteClass}
use Rattle.flow_proof.proofs.HeapLaws.{EntryAt-append, EntryAt-within, EntryAt-new, ClassAt-append, ClassAt-within}
use Rattle.flow_proof.proofs.Fitting.{Fits, HeapFits, Covered}

-- the sites when the object at the place is new
abbrev pub with_site : (ℕ → Site) → ℕ → Site → ℕ → Site
with_site site n s p = cond (p == n) s (site p)

pub with_site-new : (site : ℕ → Site) (n : ℕ) (s : Site) → with_site site n s n ≡ s
with_site-new site n s = rw (eq-eqb n n refl)

pub with_site-below : (site : ℕ → Site) (n : ℕ) (s : Site) (p : ℕ) → p < n → with_site site n s p ≡ site p
with_site-below site n s p below =
    elim (eqb_tells p n) [
      | inl same ↦ let e = same.1 in absurd (omega arith)
      | inr other ↦ let e = other.0 in rw e
    ]

-- a walk from an old value stays among the old objects
pub walk_before : (app : App) (lists : Lists) (has : Row → Type 0) (site : ℕ → Site) (heap : List Object) (o : Object) →
    HeapFits app lists has heap site → (ks : List KeyId) (v : Value) (label : ℕ) → ((p : ℕ) → v.place ≡ Some p → p < length heap) →
    Reaches (heap ++ o ∷ []) v ks label → Reaches heap v ks label
walk_before app lists has site heap o fits [] v label within h = h
walk_before app lists has site heap o fits (k ∷ ks) v label within (p, there, (w, entry, walk)) =
    elim (EntryAt-append heap o p k w entry) [
      | inl new ↦ let below = within p there in let at_end = new.0 in absurd (omega arith)
      | inr old ↦ (p, there, (w, old, walk_before app lists has site heap o fits ks w label (λ t e. fits.within p k w t old e) walk))
    ]

pub fits_grown : {app : App} {lists : Lists} {has : Row → Type 0} {site : ℕ → Site} {heap : List Object} {v : Value} {P : Site → Type 0} {T : Path → ℕ → Type 0} (o : Object) (new : Site) →
    HeapFits app lists has heap site → Fits heap site v P T → Fits (heap ++ o ∷ []) (with_site site (length heap) new) v P T
fits_grown {app} {lists} {has} {site} {heap} {v} {P} o new heap_fits fits = record {
  within = λ p e. let below = fits.within p e in omega (arith, length-append heap (o ∷ []));
  pointed = λ p e. let same = with_site-below site (length heap) new p (fits.within p e) in subst P (sym same) (fits.pointed p e);
  tainted = λ ks label h. fits.tainted ks label (walk_before app lists has site heap o heap_fits ks v label fits.within h);
}

-- the entries of the new object have their rows
pub record NewFits (app : App) (lists : Lists) (has : Row → Type 0) (heap : List Object) (site : ℕ → Site) (new : Site) (o : Object) : Type 0 where
  pub within : (k : KeyId) (w : Value) (t : ℕ) → In (k, w) o.entries → w.place ≡ Some t → t < length heap
  pub cell : (k : KeyId) (w : Value) (t : ℕ) → In (k, w) o.entries → w.place ≡ Some t → has (Cell new k (site t))
  pub class : SiteClass app lists new o.class

pub heap_grown : {app : App} {lists : Lists} {has : Row → Type 0} {site : ℕ → Site} {heap : List Object} {o : Object} {new : Site} →
    HeapFits app lists has heap site → NewFits app lists has heap site new o →
    HeapFits app lists has (heap ++ o ∷ []) (with_site site (length heap) new)
heap_grown {app} {lists} {has} {site} {heap} {o} {new} fits new_fits = record {
  within = λ p k w t entry e. let below = within p k w t e (EntryAt-append heap o p k w entry) in omega (arith, length-append heap (o ∷ []));
  cell = λ p k w t entry e. cell p k w t e (EntryAt-append heap o p k w entry);
  class = λ p c h. class p c (ClassAt-append heap o p c h);
}
  where
    within : (p : ℕ) (k : KeyId) (w : Value) (t : ℕ) → w.place ≡ Some t → ((p ≡ length heap) × In (k, w) o.entries) ⊎ EntryAt heap p k w →
        t < length heap
    within p k w t e (inl (at_end, entry)) = new_fits.within k w t entry e
    within p k w t e (inr old) = fits.within p k w t old e

    cell : (p : ℕ) (k : KeyId) (w : Value) (t : ℕ) → w.place ≡ Some t → ((p ≡ length heap) × In (k, w) o.entries) ⊎ EntryAt heap p k w →
        has (Cell (with_site site (length heap) new p) k (with_site site (length heap) new t))
    cell p k w t e (inl (at_end, entry)) =
        rw (at_end, with_site-new site (length heap) new, with_site-below site (length heap) new t (new_fits.within k w t entry e)) (new_fits.cell k w t entry e)
    cell p k w t e (inr old) =
        rw (with_site-below site (length heap) new p (EntryAt-within heap p k w old), with_site-below site (length heap) new t (fits.within p k w t old e)) (fits.cell p k w t old e)

    class : (p : ℕ) (c : Name) → ((p ≡ length heap) × (o.class ≡ c)) ⊎ ClassAt heap p c → SiteClass app lists (with_site site (length heap) new p) c
    class p c (inl (at_end, same)) = rw (at_end, with_site-new site (length heap) new) (subst (λ x. SiteClass app lists new x) same new_fits.class)
    class p c (inr old) = rw (with_site-below site (length heap) new p (ClassAt-within heap p c old)) (fits.class p c old)

-- the new object in a value
pub new_fits : (heap : List Object) (site : ℕ → Site) (new : Site) (o : Object) (labels : List ℕ) (points : Site → Type 0) (taints : Path → ℕ → Type 0) →
    points new → ((l : ℕ) → In l labels → Covered taints [] l) →
    ((k : KeyId) (w : Value) → In (k, w) o.entries → (ks : List KeyId) (l : ℕ) → Reaches (heap ++ o ∷ []) w ks l → Covered taints (k ∷ ks) l) →
    Fits (heap ++ o ∷ []) (with_site site (length heap) new) (record { place = Some (length heap); labels = labels }) points taints
new_fits heap site new o labels points taints pointed own entries = record {
  within = λ p e. let same = same_Some _ _ e in omega (arith, length-append heap (o ∷ []));
  pointed = λ p e. subst (λ q. points (with_site site (length heap) new q)) (same_Some _ _ e) (rw with_site-new pointed);
  tainted = elim [ [] ↦ λ l h. own l h | k ∷ ks ↦ λ l h. entries k h.2.0 (EntryAt-new heap o h.0 k h.2.0 (same_Some _ _ h.1) h.2.1) ks l h.2.2 ];
}
