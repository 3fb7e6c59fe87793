-- What the entries of a heap are after a put and beside a new object.
use Rattle.std.proofs.Common.{◌≡◌, ◌==◌, ℕ, zero, suc, ◌<◌, List, [], ◌∷◌, ◌++◌, length, Bool, true, false, cond, ◌⊎◌, inl, inr, refl, ap, ◌∙◌, arith}
use Rattle.vet_base.specs.declared.key_id.KeyId.{KeyId}
use Rattle.vet_base.specs.Members.{In}
use Rattle.app_machine.specs.Names.{Name}
use Rattle.app_machine.specs.Lookups.{elem_key}
use Rattle.app_machine.specs.Heap.{Value, Object, EntryAt, ClassAt, without, put_entry, put_at, add_all}

abbrev pub Entry : Type 0
Entry = KeyId × Value

In-without : (k : KeyId) (e : Entry) (es : List Entry) → In e (without k es) → In e es
In-without k e [] h = h
In-without k e (f ∷ es) h = kept (f.0.0 == k.0) (In-without k e es) h
  where
    kept : (b : Bool) → (In e (without k es) → In e es) → In e (cond b (without k es) (f ∷ without k es)) → In e (f ∷ es)
    kept true old h = inr (old h)
    kept false old (inl same) = inl same
    kept false old (inr h) = inr (old h)

-- an entry after a put is the one that was put, or was there before
In-put_entry : (k : KeyId) (v : Value) (e : Entry) (es : List Entry) → In e (put_entry k v es) → (e ≡ (k, v)) ⊎ In e es
In-put_entry k v e es h = put_by (k.0 == 0) h
  where
    put_by : (b : Bool) → In e (cond b ((k, v) ∷ es) ((k, v) ∷ without k es)) → (e ≡ (k, v)) ⊎ In e es
    put_by true h = h
    put_by false (inl same) = inl same
    put_by false (inr h) = inr (In-without k e es h)

-- the entry that was put
pub record IsPut (p : ℕ) (k : KeyId) (v : Value) (q : ℕ) (j : KeyId) (w : Value) : Type 0 where
  pub place : q ≡ p
  pub key : j ≡ k
  pub value : w ≡ v

pub EntryAt-put : (heap : List Object) (p : ℕ) (k : KeyId) (v : Value) (q : ℕ) (j : KeyId) (w : Value) → EntryAt (put_at heap p k v) q j w →
    IsPut p k v q j w ⊎ EntryAt heap q j w
EntryAt-put [] p k v q j w h = absurd h
EntryAt-put (o ∷ os) zero k v zero j w h =
    elim (In-put_entry k v (j, w) o.entries h) [
      | inl same ↦ inl (record { place = refl; key = ap (λ (e : Entry). e.0) same; value = ap (λ (e : Entry). e.1) same })
      | inr old ↦ inr old
    ]
EntryAt-put (o ∷ os) zero k v (suc q) j w h = inr h
EntryAt-put (o ∷ os) (suc p) k v zero j w h = inr h
EntryAt-put (o ∷ os) (suc p) k v (suc q) j w h =
    elim (EntryAt-put os p k v q j w h) [
      | inl same ↦ inl (record { place = ap suc same.place; key = same.key; value = same.value })
      | inr old ↦ inr old
    ]

pub length-put_at : (heap : List Object) (p : ℕ) (k : KeyId) (v : Value) → length (put_at heap p k v) ≡ length heap
length-put_at [] p k v = refl
length-put_at (o ∷ os) zero k v = refl
length-put_at (o ∷ os) (suc p) k v = ap suc (length-put_at os p k v)

pub ClassAt-put : (heap : List Object) (p : ℕ) (k : KeyId) (v : Value) (q : ℕ) (c : Name) → ClassAt (put_at heap p k v) q c → ClassAt heap q c
ClassAt-put [] p k v q c h = absurd h
ClassAt-put (o ∷ os) zero k v zero c h = h
ClassAt-put (o ∷ os) zero k v (suc q) c h = h
ClassAt-put (o ∷ os) (suc p) k v zero c h = h
ClassAt-put (o ∷ os) (suc p) k v (suc q) c h = ClassAt-put os p k v q c h

-- an entry beside a new object is of that object, or was there before
pub EntryAt-append : (heap : List Object) (o : Object) (p : ℕ) (k : KeyId) (w : Value) → EntryAt (heap ++ o ∷ []) p k w →
    ((p ≡ length heap) × In (k, w) o.entries) ⊎ EntryAt heap p k w
EntryAt-append [] o zero k w h = inl (refl, h)
EntryAt-append [] o (suc p) k w h = absurd h
EntryAt-append (x ∷ heap) o zero k w h = inr h
EntryAt-append (x ∷ heap) o (suc p) k w h =
    elim (EntryAt-append heap o p k w h) [ inl new ↦ inl (ap suc new.0, new.1) | inr old ↦ inr old ]

pub EntryAt-within : (heap : List Object) (p : ℕ) (k : KeyId) (w : Value) → EntryAt heap p k w → p < length heap
EntryAt-within [] p k w h = absurd h
EntryAt-within (x ∷ heap) zero k w h = omega arith
EntryAt-within (x ∷ heap) (suc p) k w h = let below = EntryAt-within heap p k w h in omega arith

-- the entries at the place of a new object are its own
pub EntryAt-new : (heap : List Object) (o : Object) (p : ℕ) (k : KeyId) (w : Value) → length heap ≡ p → EntryAt (heap ++ o ∷ []) p k w →
    In (k, w) o.entries
EntryAt-new heap o p k w at_end h =
    elim (EntryAt-append heap o p k w h) [
      | inl new ↦ new.1
      | inr old ↦ let below = EntryAt-within heap p k w old in absurd (omega arith)
    ]

pub ClassAt-append : (heap : List Object) (o : Object) (p : ℕ) (c : Name) → ClassAt (heap ++ o ∷ []) p c →
    ((p ≡ length heap) × (o.class ≡ c)) ⊎ ClassAt heap p c
ClassAt-append [] o zero c h = inl (refl, h)
ClassAt-append [] o (suc p) c h = absurd h
ClassAt-append (x ∷ heap) o zero c h = inr h
ClassAt-append (x ∷ heap) o (suc p) c h =
    elim (ClassAt-append heap o p c h) [ inl new ↦ inl (ap suc new.0, new.1) | inr old ↦ inr old ]

pub ClassAt-within : (heap : List Object) (p : ℕ) (c : Name) → ClassAt heap p c → p < length heap
ClassAt-within [] p c h = absurd h
ClassAt-within (x ∷ heap) zero c h = omega arith
ClassAt-within (x ∷ heap) (suc p) c h = let below = ClassAt-within heap p c h in omega arith

-- an entry after values were added as elements is one of those, or was there before
pub EntryAt-add_all : (added : List (ℕ × Value)) (heap : List Object) (p : ℕ) (k : KeyId) (w : Value) → EntryAt (add_all heap added) p k w →
    ((k ≡ elem_key) × In (p, w) added) ⊎ EntryAt heap p k w
EntryAt-add_all [] heap p k w h = inr h
EntryAt-add_all (a ∷ more) heap p k w h =
    elim (EntryAt-add_all more (put_at heap a.0 elem_key a.1) p k w h) [
      | inl (key, later) ↦ inl (key, inr later)
      | inr before ↦ elim (EntryAt-put heap a.0 elem_key a.1 p k w before)
          [ inl put ↦ inl (put.key, inl (added_here put)) | inr old ↦ inr old ]
    ]
  where
    added_here : IsPut a.0 elem_key a.1 p k w → (p, w) ≡ a
    added_here put = rw (put.place, put.value) refl

pub length-add_all : (added : List (ℕ × Value)) (heap : List Object) → length (add_all heap added) ≡ length heap
length-add_all [] heap = refl
length-add_all (a ∷ more) heap = length-add_all more (put_at heap a.0 elem_key a.1) ∙ length-put_at heap a.0 elem_key a.1

pub ClassAt-add_all : (added : List (ℕ × Value)) (heap : List Object) (p : ℕ) (c : Name) → ClassAt (add_all heap added) p c → ClassAt heap p c
ClassAt-add_all [] heap p c h = h
ClassAt-add_all (a ∷ more) heap p c h = ClassAt-put heap a.0 elem_key a.1 p c (ClassAt-add_all more (put_at heap a.0 elem_key a.1) p c h)
