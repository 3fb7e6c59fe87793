-- The lines on which a line rests, with new numbers, are its story.
use Rattle.std.proofs.Common.{◌≡◌, ◌⊎◌, ◌==◌, ℕ, zero, suc, ◌+◌, ◌<◌, ◌≤◌, List, [], ◌∷◌, ◌++◌, map, length, take, get_or, filter_map, Option, Some, None, option_map, Err, Equal, slice_get, refl, sym, ap, subst, ◌∙◌, inl, inr, length-append, append-nil, arith}
use Rattle.std.specs.List.{cons_option}
use Rattle.std.specs.List.Sorted.{IsBinarySearchResult}
use Rattle.std.specs.Ordering.{nat_cmp}
use Rattle.std.proofs.lemmas.Bool.{cases_lt, eqb-true, eq-eqb}
use Rattle.std.proofs.lemmas.Cmp.{nat_cmp_total, tied_itself}
use Rattle.std.proofs.lemmas.List.{take_all, take_more}
use Rattle.std.proofs.lemmas.List.Elements.{filter_map-append}
use Rattle.std.proofs.lemmas.Option.{none-some, same_Some, slice_get_within, slice_get-get_or, get_or_from_slice_get}
use Rattle.std.proofs.lemmas.Map.Lookups.{exact_unsigned}
use Rattle.vet_base.specs.Ascending.{Ascends}
use Rattle.vet_base.specs.Apart.{Apart}
use Rattle.vet_base.specs.Members.{In}
use Rattle.vet_base.proofs.Fronts.{front_at}
use Rattle.vet_base.proofs.Halving.{found_at, found_nowhere}
use Rattle.vet_base.proofs.Lists.{slice_get_push, slice_get-take, slice_get-map_at}
use Rattle.vet_base.proofs.Members.{in_map, in_slice_get}
use Rattle.fact_rows.specs.declared.row.Row.{Row}
use Rattle.flow_story.specs.declared.line.Numbers.{Numbers}
use Rattle.flow_story.specs.declared.line.Numbers.TheVariants as numbers
use Rattle.flow_story.specs.declared.line.StoryLine.{StoryLine}
use Rattle.flow_story.specs.Stories.{AreRight, EndsIn, IsRight, IsUsed, TellsOf, a_start, by_rule, listed, row_of}
use Rattle.flow_trail.specs.Trails.{Came, IsNumbered, lines_of, rows_of, number_in}
use Rattle.flow_trail.proofs.Coming.{number_there}
use Rattle.flow_trail.proofs.Lines.{apart_if_placed, from_mapped, stands_at}
use Rattle.story_finder.specs.Cutting.{AreNeeded, IsPremise, line_named, premises_by}
use Rattle.story_finder.specs.Retelling.{counted, new_number, renumbered, retell, retold}
use Rattle.story_finder.proofs.Before.{line_is, named_is, right_before, row_is, row_named}
use Rattle.story_finder.proofs.Orders.{rises}

module _ {A : Type 0} where
  at_place : (xs : List A) (i : ℕ) → i < length xs → (x : A) × (slice_get xs i ≡ Some x)
  at_place [] i within = absurd (omega arith)
  at_place (x ∷ xs) zero within = (x, refl)
  at_place (x ∷ xs) (suc i) within = at_place xs i (omega arith)

  -- what stands in the front of a list
  from_take : (n : ℕ) (xs : List A) (i : ℕ) (x : A) → slice_get (take n xs) i ≡ Some x → (i < n) × (slice_get xs i ≡ Some x)
  from_take zero xs i x at = absurd (none-some x at)
  from_take (suc n) [] i x at = absurd (none-some x at)
  from_take (suc n) (y ∷ xs) zero x at = (omega arith, at)
  from_take (suc n) (y ∷ xs) (suc i) x at = let r = from_take n xs i x at in let below : i < n = r.0 in (omega (arith, below), r.1)

-- Where each element gives one, they stand at the same places.
record IsGiven {A B : Type 0} (f : A → Option B) (xs : List A) (ys : List B) : Type 0 where
  pub count : length ys ≡ length xs
  pub each : (i : ℕ) (x : A) (y : B) → slice_get xs i ≡ Some x → f x ≡ Some y → slice_get ys i ≡ Some y

each_gives : {A B : Type 0} (f : A → Option B) (xs : List A) → ((x : A) → In x xs → (y : B) × (f x ≡ Some y)) → IsGiven f xs (filter_map f xs)
each_gives f [] gives = record { count = refl; each = λ i x y at is. absurd (none-some x at) }
each_gives {A = A} {B = B} f (x ∷ xs) gives = by_head (gives x (inl refl)).0 (gives x (inl refl)).1 (each_gives f xs (λ z i. gives z (inr i)))
  where
    later : (first : B) (ys : List B) → f x ≡ Some first → IsGiven f xs ys → (i : ℕ) (z : A) (y : B) → slice_get (x ∷ xs) i ≡ Some z → f z ≡ Some y → slice_get (first ∷ ys) i ≡ Some y
    later first ys is rest zero z y at gives_y = sym is ∙ (ap f (same_Some x z at) ∙ gives_y)
    later first ys is rest (suc i) z y at gives_y = rest.each i z y at gives_y

    by_head : (first : B) → f x ≡ Some first → IsGiven f xs (filter_map f xs) → IsGiven f (x ∷ xs) (cons_option (f x) (filter_map f xs))
    by_head first is rest = subst (λ o. IsGiven f (x ∷ xs) (cons_option o (filter_map f xs))) (sym is)
        (record { count = ap suc rest.count; each = later first (filter_map f xs) is rest })

listed_renumbered : (told : List ℕ) (ns : Numbers) → listed (renumbered told ns) ≡ map (new_number told) (listed ns)
listed_renumbered told numbers.None = refl
listed_renumbered told (numbers.One a) = refl
listed_renumbered told (numbers.Two a b) = refl
listed_renumbered told (numbers.Three a b c) = refl
listed_renumbered told (numbers.Four a b c d) = refl

-- rows that are named by other numbers
rows_moved : (f g : ℕ → Option Row) (new : ℕ → ℕ) (ns : List ℕ) (rows : List Row) → map f ns ≡ map (λ (row : Row). Some row) rows →
    ((n : ℕ) → In n ns → (row : Row) → f n ≡ Some row → g (new n) ≡ Some row) → map g (map new ns) ≡ map (λ (row : Row). Some row) rows
rows_moved f g new [] [] is moves = refl
rows_moved f g new [] (row ∷ rows) is moves = absurd cc
rows_moved f g new (n ∷ ns) [] is moves = absurd cc
rows_moved f g new (n ∷ ns) (row ∷ rows) is moves =
    let first : f n ≡ Some row = cc in
    let rest : map f ns ≡ map (λ (row : Row). Some row) rows = cc in
    ap (λ z. z ∷ map g (map new ns)) (moves n (inl refl) row first) ∙ ap (λ z. Some row ∷ z) (rows_moved f g new ns rows rest (λ m i. moves m (inr i)))

line_there : (lines : List StoryLine) (n : ℕ) → 0 < n → n ≤ length lines → (line : StoryLine) × (line_named lines n ≡ Some line)
line_there lines zero some within = absurd (omega (arith, some))
line_there lines (suc n) some within = let l = at_place lines n (omega (arith, within)) in l

module _ (told : List ℕ) (up : Ascends nat_cmp told) where
  -- the number of a place, and the place of a number
  pub new_is : (i n : ℕ) → slice_get told i ≡ Some n → new_number told n ≡ suc i
  new_is i n at =
      let within : i < length told = slice_get_within told i n at in
      let reads : get_or told i n ≡ n = get_or_from_slice_get told i n n at in
      ap counted (found_at (λ (z : ℕ). z) nat_cmp_total told up n (λ m. m == n) (λ m same. ap (λ z. nat_cmp z n) (eqb-true m n same) ∙ tied_itself nat_cmp_total n)
      i n within (sym reads) (ap (λ z. nat_cmp z n) reads ∙ tied_itself nat_cmp_total n) (eq-eqb n n refl)).0

  -- the same as halving finds it
  pub number_found : (i n : ℕ) → i < length told → ((d : ℕ) → nat_cmp (get_or told i d) n ≡ Equal) → i + 1 ≡ new_number told n
  number_found i n within ties =
      let same : get_or told i n ≡ n = exact_unsigned (get_or told i n) n (ties n) in
      let next : i + 1 ≡ suc i = omega arith in
      next ∙ sym (new_is i n (slice_get-get_or told i n within ∙ ap (λ z. Some z) same))

  pub number_missing : (i n : ℕ) → i ≤ length told → IsBinarySearchResult (λ m. nat_cmp m n) told (Err i) → 0 ≡ new_number told n
  number_missing i n within parted =
      ap counted (sym (found_nowhere (λ (z : ℕ). z) nat_cmp_total told up n (λ m. m == n) (λ m same. ap (λ z. nat_cmp z n) (eqb-true m n same) ∙ tied_itself nat_cmp_total n) i within parted).0)

  same_number : (i j n : ℕ) → slice_get told i ≡ Some n → slice_get told j ≡ Some n → i ≡ j
  same_number i j n at_i at_j = let e : suc i ≡ suc j = sym (new_is i n at_i) ∙ new_is j n at_j in omega (arith, e)

  earlier : (i j m n : ℕ) → slice_get told i ≡ Some n → slice_get told j ≡ Some m → m < n → j < i
  earlier i j m n at_i at_j less = elim (cases_lt j i) [
    | inl before ↦ before
    | inr behind ↦ elim (cases_lt i j) [
      | inl after ↦ let more : n < m = rises told up i j n m after at_i at_j in absurd (omega (arith, less, more))
      | inr upto ↦
          let same : i ≡ j = omega (arith, behind, upto) in
          let e : n ≡ m = same_Some n m (sym at_i ∙ (ap (slice_get told) same ∙ at_j)) in
          absurd (omega (arith, less, e))
    ]
  ]

  -- there are no more of them than the last says
  pub as_few : (i n : ℕ) → ((m : ℕ) → In m told → 0 < m) → slice_get told i ≡ Some n → suc i ≤ n
  as_few zero n some at = let positive : 0 < n = some n (in_slice_get told 0 n at) in omega (arith, positive)
  as_few (suc i) n some at =
      let within : suc i < length told = slice_get_within told (suc i) n at in
      let before = at_place told i (omega (arith, within)) in
      let upto : suc i ≤ before.0 = as_few i before.0 some before.1 in
      let less : before.0 < n = rises told up i (suc i) before.0 n (omega arith) before.1 at in
      omega (arith, upto, less)

module _ (Rule : ℕ → List Row → Row → Type 0) (Start : Row → Type 0) (came : Came) (counts : IsNumbered came) (right : AreRight Rule Start (length (lines_of came)) (lines_of came)) where
  module _ (goal : ℕ) (told : List ℕ) (needed : AreNeeded (lines_of came) goal told) where
    line_for : (n : ℕ) → In n told → (line : StoryLine) × (line_named (lines_of came) n ≡ Some line)
    line_for n i = let w = needed.within n i in line_there (lines_of came) n w.0 w.1

    retold_for : (n : ℕ) → In n told → (line : StoryLine) × (retold (lines_of came) told n ≡ Some line)
    retold_for n i = let l = line_for n i in (retell told l.0, ap (option_map (retell told)) l.1)

    given : IsGiven (retold (lines_of came) told) told (filter_map (retold (lines_of came) told) told)
    given = each_gives (retold (lines_of came) told) told retold_for

    -- the story, and the line that stands in it for a line of the trail
    abbrev retelling : List StoryLine
    retelling = filter_map (retold (lines_of came) told) told

    stands_for : (i n : ℕ) (line : StoryLine) → slice_get told i ≡ Some n → line_named (lines_of came) n ≡ Some line → slice_get retelling i ≡ Some (retell told line)
    stands_for i n line at is = given.each i n (retell told line) at (ap (option_map (retell told)) is)

    -- of a line of the story, that for which it stands
    record IsFrom (i : ℕ) (line : StoryLine) : Type 0 where
      pub n : ℕ
      pub old : StoryLine
      pub at : slice_get told i ≡ Some n
      pub named : line_named (lines_of came) n ≡ Some old
      pub is : retell told old ≡ line

    from : (i : ℕ) (line : StoryLine) → slice_get retelling i ≡ Some line → IsFrom i line
    from i line at =
        let within : i < length retelling = slice_get_within retelling i line at in
        let count : length retelling ≡ length told = given.count in
        let n = at_place told i (omega (arith, within, count)) in
        let l = line_for n.0 (in_slice_get told i n.0 n.1) in
        record { n = n.0; old = l.0; at = n.1; named = l.1; is = same_Some (retell told l.0) line (sym (stands_for i n.0 l.0 n.1 l.1) ∙ at) }

    -- a premise of a line stands in the story before it
    premise_moves : (i n place : ℕ) (line : StoryLine) → slice_get told i ≡ Some n → n ≡ suc place → line_named (lines_of came) n ≡ Some line →
        (m : ℕ) → In m (listed line.premises) → (row : Row) → row_of (take place (lines_of came)) m ≡ Some row → row_of (take i retelling) (new_number told m) ≡ Some row
    premise_moves i n place line at is named m names row stands =
        let r = row_named (take place (lines_of came)) m row stands in
        let q : ℕ = r.0 in
        let m_is : m ≡ suc q = r.1.0 in
        let old : StoryLine = r.1.1.0 in
        let front = from_take place (lines_of came) q old r.1.1.1.0 in
        let below : q < place = front.0 in
        let there : In m told = needed.closed n m (in_slice_get told i n at) (subst (λ o. In m (premises_by o)) (sym named) names) in
        let at_m = stands_at told m there in
        let less : m < n = omega (arith, m_is, below, is) in
        let before : at_m.0 < i = earlier told needed.ascend i at_m.0 m n at at_m.1 less in
        let m_named : line_named (lines_of came) m ≡ Some old = ap (line_named (lines_of came)) m_is ∙ (line_is (lines_of came) q ∙ front.1) in
        let new_at : slice_get (take i retelling) at_m.0 ≡ Some (retell told old) = slice_get-take retelling i at_m.0 (retell told old) before (stands_for at_m.0 m old at_m.1 m_named) in
        ap (row_of (take i retelling)) (new_is told needed.ascend at_m.0 m at_m.1)
        ∙ (row_is (take i retelling) at_m.0 ∙ (ap (option_map (λ (l : StoryLine). l.row)) new_at ∙ ap (λ z. Some z) r.1.1.1.1))

    moved : (i n place : ℕ) (line : StoryLine) → slice_get told i ≡ Some n → n ≡ suc place → line_named (lines_of came) n ≡ Some line →
        IsRight Rule Start (take place (lines_of came)) line → IsRight Rule Start (take i retelling) (retell told line)
    moved i n place line at is named (a_start start) = a_start start
    moved i n place line at is named (by_rule rows stand some follows) =
        by_rule rows
        (ap (map (row_of (take i retelling))) (listed_renumbered told line.premises)
        ∙ rows_moved (row_of (take place (lines_of came))) (row_of (take i retelling)) (new_number told) (listed line.premises) rows stand (premise_moves i n place line at is named))
        some follows

    story_right : AreRight Rule Start (length retelling) retelling
    story_right i below line at =
        let f = from i line at.there in
        let p = named_is (lines_of came) f.n f.old f.named in
        let within : p.0 < length (lines_of came) = slice_get_within (lines_of came) p.0 f.old p.1.1 in
        subst (λ z. IsRight Rule Start (take i retelling) z) f.is (moved i f.n p.0 f.old f.at p.1.0 f.named (right p.0 within f.old (record { there = p.1.1 })))

    -- the goal stands last
    last_at : slice_get told (length needed.front) ≡ Some goal
    last_at = ap (λ z. slice_get z (length needed.front)) needed.ends ∙ slice_get_push needed.front goal

    count_is : length retelling ≡ suc (length needed.front)
    count_is = let e : length needed.front + 1 ≡ suc (length needed.front) = omega arith in given.count ∙ (ap length needed.ends ∙ (length-append needed.front (goal ∷ []) ∙ e))

    story_ends : (row : Row) (line : StoryLine) → line_named (lines_of came) goal ≡ Some line → line.row ≡ row → EndsIn row retelling
    story_ends row line named is =
        let at : slice_get retelling (length needed.front) ≡ Some (retell told line) = stands_for (length needed.front) goal line last_at named in
        let over : length retelling ≤ length needed.front + 1 = omega (arith, count_is) in
        record {
          front = take (length needed.front) retelling;
          last = retell told line;
          is = sym (take_all (length needed.front + 1) retelling over) ∙ front_at retelling (length needed.front) (retell told line) at;
          tells = is;
        }

    -- each line but the last is a premise of a later one
    story_used : (place : ℕ) → suc place < length retelling → IsUsed retelling place
    story_used place below =
        let within : place < length told = omega (arith, below, given.count) in
        let n = at_place told place within in
        let before : place < length needed.front = omega (arith, below, count_is) in
        let less : n.0 < goal = rises told needed.ascend place (length needed.front) n.0 goal before n.1 last_at in
        by_use n.0 n.1 less (needed.used n.0 (in_slice_get told place n.0 n.1))
      where
        by_use : (n : ℕ) → slice_get told place ≡ Some n → n < goal → (n ≡ goal) ⊎ IsPremise (lines_of came) told n → IsUsed retelling place
        by_use n at less (inl same) = absurd (omega (arith, less, same))
        by_use n at less (inr p) =
            let m : ℕ = p.of in
            let l = line_for m p.there in
            let at_m = stands_at told m p.there in
            let after : n < m = ((right_before Rule Start (lines_of came) right).each m n p.names).1 in
            let names : In n (listed l.0.premises) = subst (λ o. In n (premises_by o)) l.1 p.names in
            record {
              later = at_m.0;
              behind = earlier told needed.ascend at_m.0 place n m at_m.1 at after;
              line = retell told l.0;
              there = record { there = stands_for at_m.0 m l.0 at_m.1 l.1 };
              names = subst (λ z. In z (listed (renumbered told l.0.premises))) (new_is told needed.ascend place n at)
                  (subst (λ z. In (new_number told n) z) (sym (listed_renumbered told l.0.premises)) (in_map (new_number told) (listed l.0.premises) n names));
            }

    -- no row stands twice
    number_of_line : (i : ℕ) (row : Row) → slice_get (map (λ (line : StoryLine). line.row) retelling) i ≡ Some row → slice_get told i ≡ Some (number_in came row)
    number_of_line i row at =
        let l = from_mapped (λ (line : StoryLine). line.row) retelling i row at in
        let f = from i l.0 l.1.0 in
        let p = named_is (lines_of came) f.n f.old f.named in
        let is : f.old.row ≡ row = ap (λ (line : StoryLine). line.row) f.is ∙ l.1.1 in
        let stands : slice_get (rows_of came) p.0 ≡ Some row = slice_get-map_at (λ (line : StoryLine). line.row) (lines_of came) p.0 f.old p.1.1 ∙ ap (λ z. Some z) is in
        f.at ∙ ap (λ z. Some z) (p.1.0 ∙ sym (number_there came counts p.0 row stands))

    story_apart : Apart (map (λ (line : StoryLine). line.row) retelling)
    story_apart = apart_if_placed (map (λ (line : StoryLine). line.row) retelling)
        (λ i j row p q. same_number told needed.ascend i j (number_in came row) (number_of_line i row p) (number_of_line j row q))

    pub is_told : (row : Row) (line : StoryLine) → line_named (lines_of came) goal ≡ Some line → line.row ≡ row → TellsOf Rule Start row retelling
    is_told row line named is = record {
      story = record { some = λ none. let e : length retelling ≡ 0 = ap length none in absurd (omega (arith, e, count_is)); right = story_right };
      ends = story_ends row line named is;
      apart = story_apart;
      used = story_used;
    }

    -- there are as many lines as numbers
    pub few_retold : length retelling ≡ length told
    few_retold = given.count

    -- there are no more lines than the number of the last
    pub few_told : length told ≤ goal
    few_told =
        let last : suc (length needed.front) ≤ goal = as_few told needed.ascend (length needed.front) goal (λ m i. (needed.within m i).0) last_at in
        omega (arith, last, count_is, given.count)

-- one number more is gone through
module _ (f : ℕ → Option StoryLine) (ns : List ℕ) (i d : ℕ) (lines : List StoryLine) (below : i < length ns) (before : lines ≡ filter_map f (take i ns)) where
  upto : filter_map f (take (i + 1) ns) ≡ filter_map f (take i ns) ++ cons_option (f (get_or ns i d)) []
  upto = ap (filter_map f) (take_more ns i d below) ∙ filter_map-append f (take i ns) (get_or ns i d ∷ [])

  pub one_retold : (line : StoryLine) (new : List StoryLine) → f (get_or ns i d) ≡ Some line → new ≡ lines ++ line ∷ [] → new ≡ filter_map f (take (i + 1) ns)
  one_retold line new gives is = is ∙ (ap (λ z. z ++ line ∷ []) before ∙ sym (upto ∙ ap (λ o. filter_map f (take i ns) ++ cons_option o []) gives))

  pub none_retold : f (get_or ns i d) ≡ None → lines ≡ filter_map f (take (i + 1) ns)
  none_retold gives = before ∙ sym (upto ∙ (ap (λ o. filter_map f (take i ns) ++ cons_option o []) gives ∙ append-nil (filter_map f (take i ns))))
