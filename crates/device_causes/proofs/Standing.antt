-- Where a path of classes stands, as classes come and go.
use Rattle.std.proofs.Common.{◌≡◌, suc, ◌-◌, ◌&&◌, ◌||◌, not, Bool, true, false, List, [], ◌∷◌, ◌++◌, append_assoc, map, length, Some, slice_get, refl, sym, ◌∙◌, ap, subst, arith}
use Rattle.std.specs.BTreeMap.{is_at}
use Rattle.std.specs.List.{list_any}
use Rattle.std.specs.Map.{lookup}
use Rattle.std.proofs.lemmas.List.{append-nil, nil_from_length}
use Rattle.std.proofs.lemmas.Option.{none-some, same_Some}
use Rattle.app_machine.specs.declared.app.App.{App}
use Rattle.app_machine.specs.declared.app.Class.{Class}
use Rattle.app_machine.specs.Lookups.{class_named, up}
use Rattle.app_machine.specs.Names.{Name, same_name}
use Rattle.app_machine.specs.Sound.{SoundApp}
use Rattle.app_model.specs.ClassWalks.{classes_from}
use Rattle.vet_base.proofs.Texts.{same_equal}
use Rattle.link_access.specs.Access.{Accesses}
use Rattle.link_access.specs.declared.access.MethodAccess.{MethodAccess}
use Rattle.device_causes.specs.declared.path.Path.{Path}
use Rattle.device_causes.specs.declared.path.Step.{Step}
use Rattle.device_causes.specs.declared.seen.Seen.{Seen}
use Rattle.device_causes.specs.Hidden.{is_special, methods_of, any_hides, is_hidden_by, is_hidden}
use Rattle.device_causes.specs.Path.{Signature, signature_order, signature_of, Known, known_in, known_hides, taken_back, Entered, Stands, IsPath}
use Rattle.device_causes.specs.Seen.{maybe_hides}
use Rattle.device_causes.proofs.Paths.{back_alike, hides_alike}
use Rattle.device_causes.proofs.Upward.{up_step, suffix_up}

-- a list has one last element, and one list before it
last_alike : {A : Type 0} (xs ys : List A) (x y : A) → xs ++ x ∷ [] ≡ ys ++ y ∷ [] → (xs ≡ ys) × (x ≡ y)
last_alike [] [] x y same = (refl, cc)
last_alike [] (b ∷ []) x y same = absurd cc
last_alike [] (b ∷ c ∷ ys) x y same = absurd cc
last_alike (a ∷ []) [] x y same = absurd cc
last_alike (a ∷ c ∷ xs) [] x y same = absurd cc
last_alike (a ∷ xs) (b ∷ ys) x y same =
    let tails : xs ++ x ∷ [] ≡ ys ++ y ∷ [] = cc in
    let heads : a ≡ b = cc in
    let rest = last_alike xs ys x y tails in
    let front : xs ≡ ys = rest.0 in
    (cc, rest.1)

-- the last element, and the list before it
split_last : {A : Type 0} (xs : List A) (x : A) → slice_get xs (length xs - 1) ≡ Some x → (front : List A) × (xs ≡ front ++ x ∷ [])
split_last [] x is = absurd (none-some x is)
split_last (y ∷ []) x is = ([], ap (λ z. z ∷ []) (same_Some y x is))
split_last (y ∷ z ∷ zs) x is =
    let last : length (y ∷ z ∷ zs) - 1 ≡ suc (length (z ∷ zs) - 1) = omega arith in
    let there : slice_get (z ∷ zs) (length (z ∷ zs) - 1) ≡ Some x = ap (slice_get (y ∷ z ∷ zs)) (sym last) ∙ is in
    let later = split_last (z ∷ zs) x there in
    (y ∷ later.0, ap (λ l. y ∷ l) later.1)

not_none : {A : Type 0} (xs : List A) (x : A) → xs ++ x ∷ [] ≡ [] → ⊥
not_none [] x same = cc
not_none (y ∷ xs) x same = cc

module _ (app : App) (access : Accesses) where
  pub alike : (above : List Class) (steps : List Step) (one other : Known) → ((q : Signature) → one q ≡ other q) → Stands app access above steps one → Stands app access above steps other
  unfolding Stands
  alike [] steps one other same stands = (stands.0, λ c m. sym (hides_alike one other same c m) ∙ stands.1 c m)
  alike (k ∷ above) steps one other same stands = (
    stands.0,
    stands.1,
    stands.2,
    stands.3,
    stands.4,
    (λ c m. sym (hides_alike one other same c m) ∙ stands.5 c m),
    alike above stands.0 (taken_back stands.1.undo.items one) (taken_back stands.1.undo.items other) (back_alike stands.1.undo.items one other same) stands.6,
  )

  -- without steps no class is known
  pub no_steps : (above : List Class) (steps : List Step) (known : Known) → steps ≡ [] → Stands app access above steps known → Stands app access [] steps known
  unfolding Stands
  no_steps [] steps known none stands = stands
  no_steps (k ∷ above) steps known none stands = absurd (not_none stands.0 stands.1 (sym stands.2 ∙ none))

  -- at its last class
  pub at_last : (above : List Class) (below : List Step) (last : Step) (steps : List Step) (known : Known) (name : Name) → steps ≡ below ++ last ∷ [] → last.class ≡ name → Stands app access above steps known → Stands app access (up app name) steps known
  unfolding Stands
  at_last [] below last steps known name is called stands = absurd (not_none below last (sym is ∙ stands.0))
  at_last (k ∷ above) below last steps known name is called stands =
      let same = last_alike below stands.0 last stands.1 (sym is ∙ stands.2) in
      let one : k.name ≡ name = sym stands.3 ∙ ap (λ (s : Step). s.class) (sym same.1) ∙ called in
      let way : up app name ≡ k ∷ above = ap (up app) (sym one) ∙ stands.4 in
      subst (λ (ks : List Class). Stands app access ks steps known) (sym way) stands

  -- without its last class
  pub without_last : (k : Class) (above : List Class) (below : List Step) (last : Step) (steps : List Step) (known after : Known) → steps ≡ below ++ last ∷ [] → ((q : Signature) → after q ≡ taken_back last.undo.items known q) → Stands app access (k ∷ above) steps known → Stands app access above below after
  unfolding Stands
  without_last k above below last steps known after is back stands =
      let same = last_alike below stands.0 last stands.1 (sym is ∙ stands.2) in
      let there : Stands app access above below (taken_back stands.1.undo.items known) = subst (λ (s : List Step). Stands app access above s (taken_back stands.1.undo.items known)) (sym same.0) stands.6 in
      let mine : Stands app access above below (taken_back last.undo.items known) = subst (λ (s : Step). Stands app access above below (taken_back s.undo.items known)) (sym same.1) there in
      alike above below (taken_back last.undo.items known) after (λ q. sym (back q)) mine

  -- with one class more
  pub with_class : (k : Class) (above : List Class) (steps : List Step) (last : Step) (before after : Known) → up app k.name ≡ k ∷ above → last.class ≡ k.name → Entered k.name (methods_of access k.name) before after last.undo.items
      → Stands app access above steps before → Stands app access (k ∷ above) (steps ++ last ∷ []) after
  unfolding is_hidden_by Stands
  with_class k above steps last before after way called entered stands = (
    steps,
    last,
    refl,
    called,
    way,
    (λ c m. entered.tells c m ∙ ap (λ b. any_hides c m k.name (methods_of access k.name) || b) (told above stands c m)),
    alike above steps before (taken_back last.undo.items after) (λ q. sym (entered.back q)) stands,
  )
    where
      told : (above : List Class) → Stands app access above steps before → (c : Name) (m : MethodAccess) → known_hides before c m ≡ list_any (λ (k : Class). any_hides c m k.name (methods_of access k.name)) above
      told [] stands c m = stands.1 c m
      told (j ∷ above) stands c m = stands.5 c m

  -- where it stands is known what hides
  pub stands_tells : (above : List Class) (steps : List Step) (known : Known) → Stands app access above steps known → (c : Name) (m : MethodAccess) → known_hides known c m ≡ is_hidden_by access c m above
  unfolding is_hidden_by Stands
  stands_tells [] steps known stands c m = stands.1 c m
  stands_tells (k ∷ above) steps known stands c m = stands.5 c m

  -- a method that may be hidden, of a class below where it stands
  pub told_hidden : (steps : List Step) (known : Known) (k : Class) (m : MethodAccess) → Stands app access (classes_from app k.superclass) steps known → is_special m ≡ false → known_hides known k.name m ≡ is_hidden app access k m
  unfolding is_hidden
  told_hidden steps known k m stands ordinary =
      stands_tells (classes_from app k.superclass) steps known stands k.name m ∙ ap (λ (b : Bool). not b && is_hidden_by access k.name m (classes_from app k.superclass)) (sym ordinary)

  -- a path without steps
  pub nowhere : (path : Path) → path.steps.items ≡ [] → path.known.entries ≡ [] → IsPath app access path
  unfolding Stands
  nowhere path without none = record { above = []; stands = (without, λ c m. ap (λ (es : List (Signature × Seen)). maybe_hides (lookup (is_at (signature_order (signature_of m))) es) c m) none) }

  -- at its last class, which is the one of this name
  pub stands_there : (path : Path) (last : Step) (name : Name) → slice_get path.steps.items (length path.steps.items - 1) ≡ Some last → same_name last.class name ≡ true → IsPath app access path
      → Stands app access (up app name) path.steps.items (known_in path.known)
  stands_there path last name there called is =
      let split = split_last path.steps.items last there in
      at_last is.above split.0 last path.steps.items (known_in path.known) name split.1 (same_equal last.class name called) is.stands

  -- the last class is taken away
  pub shorter_path : (old new : Path) (last : Step) → old.steps.items ≡ new.steps.items ++ last ∷ [] → ((q : Signature) → known_in new.known q ≡ taken_back last.undo.items (known_in old.known) q)
      → IsPath app access old → IsPath app access new
  unfolding Stands
  shorter_path old new last is back path = by_above path.above path.stands
    where
      by_above : (above : List Class) → Stands app access above old.steps.items (known_in old.known) → IsPath app access new
      by_above [] stands = absurd (not_none new.steps.items last (sym is ∙ stands.0))
      by_above (k ∷ above) stands = record { above = above; stands = without_last k above new.steps.items last old.steps.items (known_in old.known) (known_in new.known) is back stands }

  -- where no step is left it stands nowhere
  pub on_ground : (path : Path) → length path.steps.items ≡ 0 → IsPath app access path → Stands app access [] path.steps.items (known_in path.known)
  on_ground path none is = no_steps is.above path.steps.items (known_in path.known) (nil_from_length path.steps.items none) is.stands

  -- one class more
  pub stepped : (name : Name) (methods : List MethodAccess) (steps longer : List Step) (before after : Known) (last : Step) → longer ≡ steps ++ last ∷ [] → last.class ≡ name → methods ≡ methods_of access name
      → Entered name methods before after last.undo.items
      → (k : Class) (above : List Class) → k.name ≡ name → up app k.name ≡ k ∷ above → Stands app access above steps before → Stands app access (k ∷ above) longer after
  stepped name methods steps longer before after last more called are entered k above is way stands =
      let same : last.class ≡ k.name = called ∙ sym is in
      let of_name : Entered name (methods_of access name) before after last.undo.items = subst (λ (ms : List MethodAccess). Entered name ms before after last.undo.items) are entered in
      let of_class : Entered k.name (methods_of access k.name) before after last.undo.items = subst (λ (n : Name). Entered n (methods_of access n) before after last.undo.items) (sym is) of_name in
      subst (λ (s : List Step). Stands app access (k ∷ above) s after) (sym more) (with_class k above steps last before after way same of_class stands)

  -- the way down: the classes of these names are left, and the path stands at the others of those upward
  pub record Climbs (name : Name) (names : List Name) (steps : List Step) (known : Known) : Type 0 where
    pub left : List Class
    pub above : List Class
    pub are : names ≡ map (λ (k : Class). k.name) left
    pub whole : up app name ≡ left ++ above
    pub stands : Stands app access above steps known

  pub climb_begins : (name : Name) (names : List Name) (steps : List Step) (known : Known) → names ≡ map (λ (k : Class). k.name) (up app name) → Stands app access [] steps known → Climbs name names steps known
  climb_begins name names steps known are stands = record { left = up app name; above = []; are = are; whole = sym (append-nil (up app name)); stands = stands }

  last_named : (left : List Class) (rest : List Name) (n : Name) → rest ++ n ∷ [] ≡ map (λ (k : Class). k.name) left → (front : List Class) × (k : Class) × (left ≡ front ++ k ∷ []) × (k.name ≡ n) × (rest ≡ map (λ (k : Class). k.name) front)
  last_named [] rest n same = absurd (not_none rest n same)
  last_named (k ∷ []) [] n same = let one : n ≡ k.name = cc in ([], k, refl, sym one, refl)
  last_named (k ∷ j ∷ left) [] n same = absurd cc
  last_named (k ∷ []) (r ∷ []) n same = absurd cc
  last_named (k ∷ []) (r ∷ q ∷ rest) n same = absurd cc
  last_named (k ∷ j ∷ left) (r ∷ rest) n same =
      let tails : rest ++ n ∷ [] ≡ map (λ (k : Class). k.name) (j ∷ left) = cc in
      let head : r ≡ k.name = cc in
      let later = last_named (j ∷ left) rest n tails in
      (k ∷ later.0, later.1, ap (λ ks. k ∷ ks) later.2, later.3, λ i. head i ∷ later.4 i)

  pub climb_goes_on : SoundApp app → (name : Name) (names rest : List Name) (n : Name) (steps longer : List Step) (before after : Known) → names ≡ rest ++ n ∷ []
      → ((k : Class) (above : List Class) → k.name ≡ n → up app k.name ≡ k ∷ above → Stands app access above steps before → Stands app access (k ∷ above) longer after)
      → Climbs name names steps before → Climbs name rest longer after
  climb_goes_on sound name names rest n steps longer before after is step so_far =
      let last = last_named so_far.left rest n (sym is ∙ so_far.are) in
      let whole : up app name ≡ last.0 ++ last.1 ∷ so_far.above = so_far.whole ∙ ap (λ (ks : List Class). ks ++ so_far.above) last.2 ∙ append_assoc last.0 (last.1 ∷ []) so_far.above in
      let way : up app last.1.name ≡ last.1 ∷ so_far.above = suffix_up app sound.no_circle last.0 name last.1 so_far.above whole in
      record { left = last.0; above = last.1 ∷ so_far.above; are = last.4; whole = whole; stands = step last.1 so_far.above last.3 way so_far.stands }

  pub climb_done : (name : Name) (names : List Name) (steps : List Step) (known : Known) → length names ≡ 0 → Climbs name names steps known → Stands app access (up app name) steps known
  climb_done name names steps known none so_far =
      let no_names : map (λ (k : Class). k.name) so_far.left ≡ [] = sym so_far.are ∙ nil_from_length names none in
      let no_left : so_far.left ≡ [] = none_left so_far.left no_names in
      let is : up app name ≡ so_far.above = so_far.whole ∙ ap (λ (ks : List Class). ks ++ so_far.above) no_left in
      subst (λ (ks : List Class). Stands app access ks steps known) (sym is) so_far.stands
    where
      none_left : (left : List Class) → map (λ (k : Class). k.name) left ≡ [] → left ≡ []
      none_left [] same = refl
      none_left (k ∷ left) same = absurd cc

  -- a class of the app is the first of its own way
  pub way_of_class : SoundApp app → (path : Path) (k : Class) (steps : List Step) (known : Known) → class_named app k.name ≡ Some k → Stands app access (classes_from app k.superclass) steps known
      → ((j : Class) (above : List Class) → j.name ≡ k.name → up app j.name ≡ j ∷ above → Stands app access above steps known → Stands app access (j ∷ above) path.steps.items (known_in path.known))
      → IsPath app access path
  way_of_class sound path k steps known own stands step =
      record { above = k ∷ classes_from app k.superclass; stands = step k (classes_from app k.superclass) refl (up_step app sound.no_circle k.name k own) stands }
