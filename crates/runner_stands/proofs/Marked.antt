-- Native bodies, marked one after the other.
use Rattle.std.proofs.Common.{◌≡◌, ◌≢◌, ◌⊎◌, inl, inr, ℕ, zero, suc, ◌+◌, ◌<◌, ◌≤◌, Bool, true, false, cond, List, [], ◌∷◌, ◌++◌, take, length, map, filter, flat_map, set, replicate, Option, Some, None, slice_get, refl, sym, ap, subst, ◌∙◌, arith, append_assoc, append-nil}
use Rattle.std.specs.Prelude.{option_to_list}
use Rattle.std.proofs.lemmas.Bool.{cases_eq, cases_lt}
use Rattle.std.proofs.lemmas.Grind.{flat_map-append}
use Rattle.std.proofs.lemmas.List.{get_or-set_same, get_or-set_other, get_or_past, get_or-replicate, length-replicate, length-set, take_all}
use Rattle.std.proofs.lemmas.List.Elements.{filter-append}
use Rattle.std.proofs.lemmas.Option.{slice_get_within}
use Rattle.vet_base.specs.Members.{In}
use Rattle.vet_base.proofs.Members.{in_back, in_either, in_front}
use Rattle.app_machine.specs.declared.app.App.{App}
use Rattle.app_machine.specs.declared.lists.Lists.{Lists}
use Rattle.app_machine.specs.declared.method.Method.{Method}
use Rattle.app_machine.specs.State.{World}
use Rattle.app_machine.specs.Summaries.{numbers_from}
use Rattle.played_alike.proofs.Orders.{Rises, rises_ascending, rises_filter, same_rising}
use Rattle.played_machine.specs.Calling.{if_native, is_native_body}
use Rattle.played_machine.specs.Coming.{Event, component_events, events, handed_events}
use Rattle.played_machine.specs.Ordered.{ascending}
use Rattle.played_machine.specs.Standing.{body_of, stands_of}
use Rattle.played_machine.proofs.Ordered.{false_true, from_ascending, from_filter, in_ascending, in_filter}
use Rattle.runner_choices.specs.declared.choice.Met.{Met}
use Rattle.runner_choices.specs.declared.choice.Met.TheVariants.{Here, Past}
use Rattle.runner_choices.specs.Meeting.{MeetsAt}
use Rattle.runner_stands.specs.Stands.{Marks, MarksMet, MarksMore, at_body, has_mark, marked_below, natives_of}

-- an element more at the front
take_suc : {A : Type 0} (xs : List A) (i : ℕ) → take (suc i) xs ≡ take i xs ++ option_to_list (slice_get xs i)
take_suc [] zero = refl
take_suc [] (suc i) = refl
take_suc (x ∷ xs) zero = refl
take_suc (x ∷ xs) (suc i) = ap (λ ys. x ∷ ys) (take_suc xs i)

pub take_next : {A : Type 0} (xs : List A) (i : ℕ) → take (i + 1) xs ≡ take i xs ++ option_to_list (slice_get xs i)
take_next xs i = let same : i + 1 ≡ suc i = omega arith in ap (λ n. take n xs) same ∙ take_suc xs i

pub as_many : (n : ℕ) → length (replicate n false) ≡ n
as_many n = length-replicate n false

-- events more
module _ (app : App) where
  natives_more : (xs ys : List Event) → natives_of app (xs ++ ys) ≡ natives_of app xs ++ natives_of app ys
  natives_more xs ys = ap (filter (is_native_body app)) (flat_map-append body_of xs ys) ∙ filter-append (is_native_body app) (flat_map body_of xs) (flat_map body_of ys)

  native_one : (event : Event) (body : Option ℕ) → option_to_list body ≡ body_of event → natives_of app (event ∷ []) ≡ filter (is_native_body app) (option_to_list body)
  native_one event body is = ap (filter (is_native_body app)) (append-nil (body_of event) ∙ sym is)

  native_within : (body : ℕ) → is_native_body app body ≡ true → body < length app.methods
  unfolding is_native_body
  native_within body is = by_there (slice_get app.methods body) refl is
    where
      by_there : (o : Option Method) → slice_get app.methods body ≡ o → if_native o ≡ true → body < length app.methods
      by_there None there native = absurd (false_true native)
      by_there (Some m) there native = slice_get_within app.methods body m there

  module _ (marks : List Bool) where
    pub within_marks : (b : ℕ) (native : Bool) → native ≡ is_native_body app b → native ≡ true → length marks ≡ length app.methods → b < length marks
    within_marks b native same holds long = let within : b < length app.methods = native_within b (sym same ∙ holds) in omega (arith, within, long)

    pub mark_none : (events : List Event) → natives_of app events ≡ [] → MarksMore app events marks marks
    mark_none events none = record { long = refl; more = λ before marked. nothing_more before marked }
      where
        nothing_more : (before : List Event) → Marks app before marks → Marks app (before ++ events) marks
        nothing_more before marked =
            let same : natives_of app (before ++ events) ≡ natives_of app before = natives_more before events ∙ (ap (λ xs. natives_of app before ++ xs) none ∙ append-nil (natives_of app before)) in
            record { so = λ b h. subst (In b) (sym same) (marked.so b h); all = λ b h. marked.all b (subst (In b) same h) }

    pub mark_body : (events : List Event) (body : ℕ) → natives_of app events ≡ body ∷ [] → body < length marks → MarksMore app events marks (set marks body true)
    mark_body events body one within = record { long = length-set marks body true; more = one_more }
      where
        same : (before : List Event) → natives_of app (before ++ events) ≡ natives_of app before ++ body ∷ []
        same before = natives_more before events ∙ ap (λ xs. natives_of app before ++ xs) one

        is_so : (before : List Event) → Marks app before marks → (b : ℕ) → (b ≡ body) ⊎ (b ≢ body) → has_mark (set marks body true) b ≡ true → In b (natives_of app (before ++ events))
        is_so before marked b (inl here) h = subst (In b) (sym (same before)) (in_back b (natives_of app before) (body ∷ []) (inl here))
        is_so before marked b (inr other) h = subst (In b) (sym (same before)) (in_front b (natives_of app before) (body ∷ []) (marked.so b (sym (get_or-set_other marks body b true false other) ∙ h)))

        is_marked : (before : List Event) → Marks app before marks → (b : ℕ) → (b ≡ body) ⊎ (b ≢ body) → In b (natives_of app before ++ body ∷ []) → has_mark (set marks body true) b ≡ true
        is_marked before marked b (inl here) h = ap (has_mark (set marks body true)) here ∙ get_or-set_same marks body true false within
        is_marked before marked b (inr other) h = elim (in_either b (natives_of app before) (body ∷ []) h) [
          | inl sooner ↦ get_or-set_other marks body b true false other ∙ marked.all b sooner
          | inr last ↦ absurd (elim last [ inl same_one ↦ other same_one | inr none ↦ none ])
        ]

        one_more : (before : List Event) → Marks app before marks → Marks app (before ++ events) (set marks body true)
        one_more before marked = record {
          so = λ b h. is_so before marked b (cases_eq b body) h;
          all = λ b h. is_marked before marked b (cases_eq b body) (subst (In b) (same before) h);
        }

  pub none_marked : (n : ℕ) → Marks app [] (replicate n false)
  none_marked n = record { so = λ b h. absurd (false_true (sym (unmarked b (cases_lt b n)) ∙ h)); all = λ b h. absurd h }
    where
      unmarked : (b : ℕ) → (b < n) ⊎ (n ≤ b) → has_mark (replicate n false) b ≡ false
      unmarked b (inl within) = get_or-replicate n b false false within
      unmarked b (inr past) = get_or_past (replicate n false) b false (subst (λ k. k ≤ b) (sym (length-replicate n false)) past)

  -- of the body of a choice
  module _ (event : Event) (marks : List Bool) where
    pub without_body : (body : Option ℕ) → None ≡ body → option_to_list body ≡ body_of event → MarksMore app (event ∷ []) marks marks
    without_body body none is = mark_none marks (event ∷ []) (native_one event body is ∙ ap (λ (o : Option ℕ). filter (is_native_body app) (option_to_list o)) (sym none))

    with_body : (b : ℕ) (body : Option ℕ) → Some b ≡ body → option_to_list body ≡ body_of event → natives_of app (event ∷ []) ≡ cond (is_native_body app b) (b ∷ []) []
    with_body b body some is = native_one event body is ∙ ap (λ (o : Option ℕ). filter (is_native_body app) (option_to_list o)) (sym some)

    pub other_body : (b : ℕ) (body : Option ℕ) (native : Bool) → Some b ≡ body → option_to_list body ≡ body_of event → native ≡ is_native_body app b → native ≡ false → MarksMore app (event ∷ []) marks marks
    other_body b body native some is same fails = mark_none marks (event ∷ []) (with_body b body some is ∙ ap (λ c. cond c (b ∷ []) []) (sym same ∙ fails))

    pub this_body : (b : ℕ) (body : Option ℕ) (native : Bool) → Some b ≡ body → option_to_list body ≡ body_of event → native ≡ is_native_body app b → native ≡ true → length marks ≡ length app.methods → MarksMore app (event ∷ []) marks (set marks b true)
    this_body b body native some is same holds long =
        mark_body marks (event ∷ []) b (with_body b body some is ∙ ap (λ c. cond c (b ∷ []) []) (sym same ∙ holds)) (within_marks marks b native same holds long)

  -- events after events
  pub nothing_yet : (marks : List Bool) → MarksMore app [] marks marks
  nothing_yet marks = mark_none marks [] refl

  pub marks_next : (events more all : List Event) (old now new : List Bool) → all ≡ events ++ more → MarksMore app more now new → MarksMore app events old now → MarksMore app all old new
  marks_next events more all old now new is next so_far = record {
    long = next.long ∙ so_far.long;
    more = λ before marked. subst (λ es. Marks app es new) (append_assoc before events more ∙ ap (λ es. before ++ es) (sym is)) (next.more (before ++ events) (so_far.more before marked));
  }

  pub marks_all : (xs : List Event) (i : ℕ) (old new : List Bool) → length xs ≤ i → MarksMore app (take i xs) old new → MarksMore app xs old new
  marks_all xs i old new past so_far = subst (λ es. MarksMore app es old new) (take_all i xs past) so_far

-- the event that was met, or found
module _ (app : App) (w : World) (xs : List Event) (i : ℕ) (old new : List Bool) where
  pub met_marks : (met : Met) → i < length xs → MeetsAt w xs i met → MarksMet app w met old new → MarksMore app (option_to_list (slice_get xs i)) old new
  met_marks (Here choice) within meets more = subst (λ (o : Option Event). MarksMore app (option_to_list o) old new) (sym meets) more
  met_marks (Past left) within meets unchanged = absurd (omega (arith, within, meets))

-- numbers one after the other
within_from : (s n i : ℕ) → In i (numbers_from s n) → s ≤ i
within_from s zero i h = absurd h
within_from s (suc n) i (inl same) = omega (arith, same)
within_from s (suc n) i (inr h) = let later : s + 1 ≤ i = within_from (s + 1) n i h in omega (arith, later)

rises_from : (s n : ℕ) → Rises (numbers_from s n)
rises_from s zero = tt
rises_from s (suc n) = (λ y h. let later : s + 1 ≤ y = within_from (s + 1) n y h in omega (arith, later), rises_from (s + 1) n)

in_numbers : (s n i : ℕ) → s ≤ i → i < s + n → In i (numbers_from s n)
in_numbers s zero i low high = absurd (omega (arith, low, high))
in_numbers s (suc n) i low high = by_first (cases_eq i s) (λ other. in_numbers (s + 1) n i (omega (arith, low, other)) (omega (arith, high)))
  where
    by_first : (i ≡ s) ⊎ (i ≢ s) → (i ≢ s → In i (numbers_from (s + 1) n)) → In i (s ∷ numbers_from (s + 1) n)
    by_first (inl same) later = inl same
    by_first (inr other) later = inr (later other)

-- all that may come
module _ (app : App) (lists : Lists) (w : World) where
  abbrev of_components : List Event
  of_components = flat_map (component_events app lists w) (numbers_from 0 (length app.components))

  abbrev of_handed : List Event
  of_handed = flat_map (handed_events app lists w) (numbers_from 0 (length lists.callbacks))

  pub all_marked : (none middle all : List Bool) → Marks app [] none → MarksMore app of_components none middle → MarksMore app of_handed middle all → Marks app (events app lists w) all
  unfolding events
  all_marked none middle all nothing first second = second.more of_components (first.more [] nothing)

  pub listed : (marks : List Bool) → Marks app (events app lists w) marks → marked_below marks (length app.methods) ≡ ascending (natives_of app (events app lists w))
  listed marks marked =
      same_rising (marked_below marks (length app.methods)) (ascending (natives_of app (events app lists w))) (rises_filter (has_mark marks) (numbers_from 0 (length app.methods)) (rises_from 0 (length app.methods))) (rises_ascending (natives_of app (events app lists w)))
      (λ b h. in_ascending (natives_of app (events app lists w)) b (marked.so b (from_filter (has_mark marks) (numbers_from 0 (length app.methods)) b h).1))
      (λ b h.
      let one = from_ascending (natives_of app (events app lists w)) b h in
      let within : b < length app.methods = native_within app b (from_filter (is_native_body app) (flat_map body_of (events app lists w)) b one).1 in
      in_filter (has_mark marks) (numbers_from 0 (length app.methods)) b (in_numbers 0 (length app.methods) b (omega arith) (omega (arith, within))) (marked.all b one))

  pub all_listed : (marks : List Bool) → Marks app (events app lists w) marks → map at_body (marked_below marks (length app.methods)) ≡ stands_of app lists w []
  unfolding stands_of
  all_listed marks marked = ap (map at_body) (listed marks marked)
