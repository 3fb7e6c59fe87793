-- Lines that ascend, halved: both halves ascend, and what one half and then the other add is what all lines add.
use Rattle.std.proofs.Common.{◌≡◌, ℕ, zero, suc, ◌-◌, ◌<◌, ◌≤◌, List, [], ◌∷◌, ◌++◌, append_assoc, length, map, take, drop, get_or, refl, sym, ap, ◌∙◌, arith}
use Rattle.std.proofs.lemmas.List.{get_or_default, map-append, take-append-drop}
use Rattle.std.specs.Borrow.{Bor}
use Rattle.dex_tables.specs.declared.dex.RawTry.{RawTry}
use Rattle.dex_code.specs.Lines.{Line}
use Rattle.dex_code.specs.Find.{AllBehind, Ascend}
use Rattle.dex_code.specs.Next.{catches_of, in_order}
use Rattle.dex_code.specs.Handlers.{AddsCatches, catches_beside, IsParted}
use Rattle.dex_code.proofs.Covering.{more_shared, shared_alone}
use Rattle.dex_code.proofs.Halving.{no_line, pc_at, rise}

behind_take : (k pc : ℕ) (lines : List Line) → AllBehind pc lines → AllBehind pc (take k lines)
unfolding AllBehind
behind_take zero pc lines behind = tt
behind_take (suc k) pc [] behind = tt
behind_take (suc k) pc (line ∷ lines) behind = (behind.0, behind_take k pc lines behind.1)

pub ascend_take : (k : ℕ) (lines : List Line) → Ascend lines → Ascend (take k lines)
unfolding Ascend
ascend_take zero lines up = tt
ascend_take (suc k) [] up = tt
ascend_take (suc k) (line ∷ lines) up = (behind_take k line.0 lines up.0, ascend_take k lines up.1)

pub ascend_drop : (k : ℕ) (lines : List Line) → Ascend lines → Ascend (drop k lines)
unfolding Ascend
ascend_drop zero lines up = up
ascend_drop (suc k) [] up = tt
ascend_drop (suc k) (line ∷ lines) up = ascend_drop k lines up.1

same_map : (f g : Line → List ℕ) (lines : List Line) → ((i : ℕ) → i < length lines → f (get_or lines i no_line) ≡ g (get_or lines i no_line)) → map f lines ≡ map g lines
same_map f g [] same = refl
same_map f g (line ∷ lines) same = rw (same 0 (omega arith), same_map f g lines (λ i lt. same (suc i) (omega arith))) refl

-- where no tries are left each line has what is shared
pub shared_by_all : (shared : List ℕ) (refs : List (Bor RawTry)) (lines : List Line) → in_order shared ≡ shared → refs ≡ [] → map (λ (line : Line). shared) lines ≡ map (λ (line : Line). catches_beside shared (map (λ t. t.now) refs) line.0) lines
shared_by_all shared refs lines order none = rw none (same_map (λ line. shared) (λ line. catches_beside shared [] line.0) lines (λ i lt. sym (shared_alone shared (pc_at lines i) order)))

module _ (lines : List Line) (up : Ascend lines) (d e : Line) where
  not_before : (i : ℕ) → i < length lines → (get_or lines 0 d).0 ≤ pc_at lines i
  not_before i lt =
      let begins : (get_or lines 0 d).0 ≡ pc_at lines 0 = ap (λ (line : Line). line.0) (get_or_default lines 0 d no_line (omega arith)) in
      grind (arith, rise lines 0 i up, λ (same : 0 ≡ i). ap (pc_at lines) same)

  not_behind : (i : ℕ) → i < length lines → pc_at lines i ≤ (get_or lines (length lines - 1) e).0
  not_behind i lt =
      let ends : (get_or lines (length lines - 1) e).0 ≡ pc_at lines (length lines - 1) = ap (λ (line : Line). line.0) (get_or_default lines (length lines - 1) e no_line (omega arith)) in
      grind (arith, rise lines i (length lines - 1) up, λ (same : i ≡ length lines - 1). ap (pc_at lines) same)

  module _ (shared : List ℕ) (ts : List RawTry) (more : List ℕ) (left : List RawTry) (parted : IsParted (get_or lines 0 d).0 (get_or lines (length lines - 1) e).0 ts more left) (all : List ℕ) (all_is : all ≡ in_order (more ++ shared)) where
    there : Line → List ℕ
    there line = catches_beside all left line.0

    here : Line → List ℕ
    here line = catches_beside shared ts line.0

    same_lines : map there lines ≡ map here lines
    unfolding there here
    same_lines = same_map there here lines (λ i lt. rw all_is (more_shared _ _ shared ts more left parted (pc_at lines i) (not_before i lt) (not_behind i lt)))

    -- by what all lines share, and by the tries that are left, one half after the other has its handlers
    pub halves : (k : ℕ) (before middle after : List (List ℕ)) → AddsCatches all left (take k lines) before middle → AddsCatches all left (drop k lines) middle after → AddsCatches shared ts lines before after
    unfolding there here
    halves k before middle after lower upper =
        upper
        ∙ ap (λ rows. rows ++ map there (drop k lines)) lower
        ∙ append_assoc before (map there (take k lines)) (map there (drop k lines))
        ∙ ap (λ rows. before ++ rows) (sym (map-append there (take k lines) (drop k lines)) ∙ ap (map there) (take-append-drop k lines) ∙ same_lines)

-- beside nothing, each line has what the tries give it
pub catches_alone : (ts : List RawTry) (lines : List Line) (before after : List (List ℕ)) → before ≡ [] → AddsCatches [] ts lines before after → after ≡ map (λ (line : Line). catches_of ts line.0) lines
unfolding catches_beside catches_of
catches_alone ts lines before after none adds = adds ∙ ap (λ rows. rows ++ map (λ (line : Line). catches_of ts line.0) lines) none
