-- Worlds and registers after an act.
use Rattle.std.proofs.Common.{◌≡◌, ℕ, Option, Some, None, List, [], ◌∷◌, ◌++◌, map, reverse, refl, sym, ap, ◌∙◌, subst}
use Rattle.std.specs.Prelude.{MatchOption, option_to_list}
use Rattle.std.proofs.lemmas.List.{reverse-append, map-append}
use Rattle.vet_base.specs.declared.key_id.KeyId.{KeyId}
use Rattle.app_machine.specs.declared.app.App.{App}
use Rattle.app_machine.specs.declared.lists.Lists.{Lists}
use Rattle.app_machine.specs.declared.method.Act.{Act}
use Rattle.app_machine.specs.declared.method.Act.TheVariants.{Skip, Join, Move, Blank, New, Fill, Get, Put, GetStatic, PutStatic, Call, Return, Throw, TakeResult, TakeException, Go}
use Rattle.app_machine.specs.Heap.{Value, Object, put_to}
use Rattle.app_machine.specs.Lookups.{elem_key}
use Rattle.app_machine.specs.Names.{Name}
use Rattle.app_machine.specs.State.{write_all, World}
use Rattle.played_alike.specs.Alike.{AlikeValue, AlikeValues, AlikeHeap, AlikeObject, AlikeWorld}
use Rattle.played_alike.proofs.Heaps.{alike_itself, alike_object, alike_write_all}
use Rattle.played_alike.proofs.Pairs.{pair_same}
use Rattle.runner_heap.specs.Shown.{element_of}
use Rattle.runner_local.specs.Changed.{AlikeChange, array_of, changed, written}
use Rattle.runner_state.specs.declared.value.Held.{Held}
use Rattle.runner_state.specs.Shown.{value_of}

pub alike_same : (one other : ℕ → Value) → one ≡ other → AlikeValues one other
alike_same one other same = subst (AlikeValues one) same (λ r. alike_itself (one r))

-- an option as a slice
pub as_slice_is : (o : Option ℕ) (xs : List ℕ) → MatchOption o (xs ≡ []) (λ x. xs ≡ x ∷ []) → xs ≡ option_to_list o
as_slice_is None xs is = is
as_slice_is (Some x) xs is = is

pub set_to : (registers : ℕ → Value) (ds es : List ℕ) (v w : Value) → ds ≡ es → v ≡ w → write_all registers ds v ≡ write_all registers es w
set_to registers ds es v w first second = ap (λ xs. write_all registers xs v) first ∙ ap (λ z. write_all registers es z) second

pub set_alike : (registers new : ℕ → Value) (ds es : List ℕ) (v w : Value) → new ≡ write_all registers ds w → ds ≡ es → AlikeValue v w → AlikeValues (write_all registers es v) new
set_alike registers new ds es v w made first alike =
    subst (AlikeValues (write_all registers es v)) (sym (made ∙ ap (λ xs. write_all registers xs w) first)) (alike_write_all registers registers es v w (λ r. alike_itself (registers r)) alike)

module _ (app : App) (lists : Lists) (w : World) (registers : ℕ → Value) (act a : Act) (v : Value) (is : act ≡ a) where
  pub wrote : (new : ℕ → Value) → AlikeValues (written app lists w registers a v) new → AlikeValues (written app lists w registers act v) new
  wrote new alike = subst (λ z. AlikeValues (written app lists w registers z v) new) (sym is) alike

  pub changed_so : (u : World) (new : ℕ → Value) → AlikeChange (changed app lists w registers a v) u new → AlikeChange (changed app lists w registers act v) u new
  changed_so u new alike = subst (λ z. AlikeChange (changed app lists w registers z v) u new) (sym is) alike

-- worlds
pub same_heap : (heap : List Object) → AlikeHeap heap heap
same_heap heap = pair_same AlikeObject alike_object heap

pub same_world : (w u : World) → w ≡ u → AlikeWorld w u
same_world w u same = subst (AlikeWorld w) same (record {
  heap = same_heap w.heap;
  statics = λ g. alike_itself (w.statics g);
  components = refl;
  handed = refl;
  arrivals = refl;
})

pub with_heap : (w : World) (heap new : List Object) → AlikeHeap heap new → AlikeWorld (record w { heap = heap }) (record w { heap = new })
with_heap w heap new alike = record {
  heap = alike;
  statics = λ g. alike_itself (w.statics g);
  components = refl;
  handed = refl;
  arrivals = refl;
}

pub put_alike : (w : World) (new : List Object) (registers : ℕ → Value) (o x : ℕ) (k : KeyId) (holder value : Held) → value_of holder ≡ registers o → value_of value ≡ registers x → AlikeHeap (put_to w.heap holder.place k (value_of value)) new →
    AlikeWorld (record w { heap = put_to w.heap (registers o).place k (registers x) }) (record w { heap = new })
put_alike w new registers o x k holder value held from alike =
    with_heap w (put_to w.heap (registers o).place k (registers x)) new
    (subst (λ heap. AlikeHeap heap new) (ap (λ (z : Value). put_to w.heap z.place k (value_of value)) held ∙ ap (λ z. put_to w.heap (registers o).place k z) from) alike)

-- what is left to the acts that are not named
module _ (app : App) (lists : Lists) (w : World) (registers : ℕ → Value) (v : Value) where
  pub unwritten : (act : Act) → ((ds xs : List ℕ) → act ≡ Join ds xs → ⊥) → ((ds : List ℕ) (x : ℕ) → act ≡ Move ds x → ⊥) → ((ds : List ℕ) → act ≡ Blank ds → ⊥) → ((ds : List ℕ) (o : ℕ) (k : KeyId) → act ≡ Get ds o k → ⊥) →
      ((ds : List ℕ) (g : ℕ) → act ≡ GetStatic ds g → ⊥) → ((ds : List ℕ) → act ≡ TakeResult ds → ⊥) → ((d : ℕ) → act ≡ TakeException d → ⊥) → registers ≡ written app lists w registers act v
  unfolding written
  unwritten (Join ds xs) join move blank get get_static take_result take_exception = absurd (join ds xs refl)
  unwritten (Move ds x) join move blank get get_static take_result take_exception = absurd (move ds x refl)
  unwritten (Blank ds) join move blank get get_static take_result take_exception = absurd (blank ds refl)
  unwritten (Get ds o k) join move blank get get_static take_result take_exception = absurd (get ds o k refl)
  unwritten (GetStatic ds g) join move blank get get_static take_result take_exception = absurd (get_static ds g refl)
  unwritten (TakeResult ds) join move blank get get_static take_result take_exception = absurd (take_result ds refl)
  unwritten (TakeException d) join move blank get get_static take_result take_exception = absurd (take_exception d refl)
  unwritten Skip join move blank get get_static take_result take_exception = refl
  unwritten (New d class size) join move blank get get_static take_result take_exception = refl
  unwritten (Fill xs class) join move blank get get_static take_result take_exception = refl
  unwritten (Put o k x) join move blank get get_static take_result take_exception = refl
  unwritten (PutStatic g x) join move blank get get_static take_result take_exception = refl
  unwritten (Call kind at args) join move blank get get_static take_result take_exception = refl
  unwritten (Return x) join move blank get get_static take_result take_exception = refl
  unwritten (Throw x) join move blank get get_static take_result take_exception = refl
  unwritten Go join move blank get get_static take_result take_exception = refl

  pub only_written : (act : Act) → ((d : ℕ) (class : Name) (size : Option ℕ) → act ≡ New d class size → ⊥) → ((xs : List ℕ) (class : Name) → act ≡ Fill xs class → ⊥) → ((o : ℕ) (k : KeyId) (x : ℕ) → act ≡ Put o k x → ⊥) →
      ((g x : ℕ) → act ≡ PutStatic g x → ⊥) → (w, written app lists w registers act v) ≡ changed app lists w registers act v
  unfolding changed
  only_written (New d class size) new fill put put_static = absurd (new d class size refl)
  only_written (Fill xs class) new fill put put_static = absurd (fill xs class refl)
  only_written (Put o k x) new fill put put_static = absurd (put o k x refl)
  only_written (PutStatic g x) new fill put put_static = absurd (put_static g x refl)
  only_written Skip new fill put put_static = refl
  only_written (Join ds xs) new fill put put_static = refl
  only_written (Move ds x) new fill put put_static = refl
  only_written (Blank ds) new fill put put_static = refl
  only_written (Get ds o k) new fill put put_static = refl
  only_written (GetStatic ds g) new fill put put_static = refl
  only_written (Call kind at args) new fill put put_static = refl
  only_written (Return x) new fill put put_static = refl
  only_written (Throw x) new fill put put_static = refl
  only_written (TakeResult ds) new fill put put_static = refl
  only_written (TakeException d) new fill put put_static = refl
  only_written Go new fill put put_static = refl

  pub write_alike : (act : Act) (new : ℕ → Value) → (w, written app lists w registers act v) ≡ changed app lists w registers act v → AlikeValues (written app lists w registers act v) new → AlikeChange (changed app lists w registers act v) w new
  write_alike act new is alike = subst (λ done. AlikeChange done w new) is (same_world w w refl, alike)

-- a filled array
map_reverse : {A B : Type 0} (f : A → B) (xs : List A) → map f (reverse xs) ≡ reverse (map f xs)
map_reverse f [] = refl
map_reverse f (x ∷ xs) =
    ap (map f) (reverse-append (x ∷ []) xs)
    ∙ (map-append f (reverse xs) (x ∷ [])
    ∙ (ap (λ ys. ys ++ f x ∷ []) (map_reverse f xs) ∙ sym (reverse-append (f x ∷ []) (map f xs))))

abbrev as_element : Value → KeyId × Value
as_element v = (elem_key, v)

held_elements : (held : List Held) → map element_of held ≡ map as_element (map value_of held)
held_elements [] = refl
held_elements (h ∷ held) = ap (λ es. element_of h ∷ es) (held_elements held)

register_elements : (registers : ℕ → Value) (xs : List ℕ) → map as_element (map registers xs) ≡ map (λ x. (elem_key, registers x)) xs
register_elements registers [] = refl
register_elements registers (x ∷ xs) = ap (λ es. as_element (registers x) ∷ es) (register_elements registers xs)

pub filled : (registers : ℕ → Value) (class : Name) (held : List Held) (xs : List ℕ) (o : Object) → map value_of held ≡ map registers xs → o.class ≡ class → o.entries ≡ map element_of (reverse held) → o ≡ array_of registers class xs
filled registers class held xs o same is_class entries =
    ap {B = Object} (λ c. record { class = c; entries = o.entries }) is_class
    ∙ ap {B = Object} (λ es. record { class = class; entries = es }) (entries ∙ (map_reverse element_of held ∙ ap reverse (held_elements held ∙ (ap (map as_element) same ∙ register_elements registers xs))))
