-- What is found of parts of which stories are told.
use Rattle.std.proofs.Common.{◌≡◌, ℕ, suc, List, [], ◌∷◌, length, Option, Some, None, refl, sym, ◌∙◌, ap, arith}
use Rattle.std.specs.Option.{option_map}
use Rattle.app_machine.specs.declared.app.App.{App}
use Rattle.app_machine.specs.declared.lists.Lists.{Lists}
use Rattle.app_machine.specs.declared.papers.Declaration.{Declaration}
use Rattle.app_flow.specs.declared.flow_rows.FlowTable.{FlowTable}
use Rattle.fact_rows.specs.declared.row.Row.{Row}
use Rattle.finding_rows.specs.Arrivals.{AreFirstArrivals}
use Rattle.outcomes.specs.declared.outcome.Finding.{Finding}
use Rattle.verdict.specs.declared.outcome.Judged.{Judged}
use Rattle.verdict.specs.declared.outcome.Outcome.{Outcome}
use Rattle.verdict.specs.declared.outcome.Outcome.TheVariants.{Clear, Flagged, Undecided, Refused}
use Rattle.verdict.specs.declared.parts.Parts.{Parts}
use Rattle.verdict.specs.Outcome.{findings_in, status_of}
use Rattle.verdict.specs.Tells.{IsFollowed, TellsOfApp}
use Rattle.verdict.specs.Verdict.{IsSafeApp}
use Rattle.app_stories.specs.Stories.{Story, AreStories, AreStoriesOf, Tells, alone, told, OneJudgement}
use Rattle.app_folder.specs.Due.{Due}
use Rattle.vetting_desk.specs.Due.{SameButStories, storied}
use Rattle.vetting_desk.specs.PartsDue.{Retells}
use Rattle.vetting_desk.specs.Found.{FindsStories}

is_clear : (outcome : Outcome) → status_of outcome ≡ 0 → outcome ≡ Clear
is_clear Clear zero = refl
is_clear (Flagged fs) zero = absurd (omega (arith, zero))
is_clear (Undecided cs fs) zero = absurd (omega (arith, zero))
is_clear (Refused part reason) zero = absurd (omega (arith, zero))

-- how many there are
abbrev count : Option (List Story) → Option ℕ
count o = option_map (λ (stories : List Story). length stories) o

as_many_goals : (app : App) (lists : Lists) (declaration : Declaration) (rows : List Row) (findings : List Finding) (goals : List Row) → AreFirstArrivals app lists declaration rows findings goals → length goals ≡ length findings
as_many_goals app lists declaration rows [] [] are = refl
as_many_goals app lists declaration rows [] (goal ∷ goals) are = absurd are
as_many_goals app lists declaration rows (finding ∷ findings) [] are = absurd are
as_many_goals app lists declaration rows (finding ∷ findings) (goal ∷ goals) are = ap suc (as_many_goals app lists declaration rows findings goals are.1)

as_many_stories : (Rule : ℕ → List Row → Row → Type 0) (Start : Row → Type 0) (goals : List Row) (stories : List Story) → AreStories Rule Start goals stories → length stories ≡ length goals
as_many_stories Rule Start [] [] are = refl
as_many_stories Rule Start [] (story ∷ stories) are = absurd are
as_many_stories Rule Start (goal ∷ goals) [] are = absurd are
as_many_stories Rule Start (goal ∷ goals) (story ∷ stories) are = ap suc (as_many_stories Rule Start goals stories are.1)

as_many : (app : App) (lists : Lists) (declaration : Declaration) (table : FlowTable) (findings : List Finding) (stories : List Story) → AreStoriesOf app lists declaration table findings stories → length stories ≡ length findings
as_many app lists declaration table findings stories are = as_many_stories _ _ are.goals stories are.told ∙ as_many_goals app lists declaration table.rows findings are.goals are.first

-- what is told twice of parts is of one outcome, and as many stories
record SameTelling (outcome other : Outcome) (stories others : Option (List Story)) : Type 0 where
  outcomes : other ≡ outcome
  counts : count stories ≡ count others

same_telling : (parts : Parts) (outcome other : Outcome) (stories others : Option (List Story)) → OneJudgement parts → Tells parts outcome stories → Tells parts other others → SameTelling outcome other stories others
same_telling parts _ _ _ _ one (alone outcome is) (alone other too) =
    record { outcomes = ap (λ (j : Judged). j.outcome) (one (record { outcome = other; table = None }) (record { outcome = outcome; table = None }) too is); counts = refl }
same_telling parts _ _ _ _ one (alone outcome is) (told other table linked stories too of are) =
    let e : None ≡ Some table = ap (λ (j : Judged). j.table) (one (record { outcome = outcome; table = None }) (record { outcome = other; table = Some table }) is too) in
    absurd cc
same_telling parts _ _ _ _ one (told outcome table linked stories is of are) (alone other too) =
    let e : None ≡ Some table = ap (λ (j : Judged). j.table) (one (record { outcome = other; table = None }) (record { outcome = outcome; table = Some table }) too is) in
    absurd cc
same_telling parts _ _ _ _ one (told outcome table linked stories is of are) (told other table2 linked2 others too of2 are2) =
    let e : other ≡ outcome = ap (λ (j : Judged). j.outcome) (one (record { outcome = other; table = Some table2 }) (record { outcome = outcome; table = Some table }) too is) in
    let n : length stories ≡ length (findings_in outcome) = as_many linked.app linked.papers.lists linked.papers.declaration table (findings_in outcome) stories are in
    let m : length others ≡ length (findings_in other) = as_many linked2.app linked2.papers.lists linked2.papers.declaration table2 (findings_in other) others are2 in
    let f : length (findings_in other) ≡ length (findings_in outcome) = ap (λ (o : Outcome). length (findings_in o)) e in
    let same : length stories ≡ length others = n ∙ sym f ∙ sym m in
    record { outcomes = e; counts = ap (λ (k : ℕ). Some k) same }

only_told : (parts : Parts) (outcome : Outcome) (stories : Option (List Story)) → OneJudgement parts → Tells parts outcome stories → (other : Due) → Retells parts other → SameButStories (storied outcome stories) other
only_told parts outcome stories one tells _ (Retells.stories other others too) =
    let same = same_telling parts outcome other stories others one tells too in
    record { outcome = outcome; first = stories; second = others; one_is = refl; other_is = ap (λ (o : Outcome). storied o others) same.outcomes; as_many = same.counts }

-- parts of which stories were told
pub finds_stories : (parts : Parts) (outcome : Outcome) (stories : Option (List Story)) → Tells parts outcome stories → OneJudgement parts → (IsFollowed outcome → TellsOfApp parts outcome) → (outcome ≡ Clear → IsSafeApp parts) →
    FindsStories parts (storied outcome stories)
finds_stories parts outcome stories tells one followed safe = record {
  is = Retells.stories outcome stories tells;
  only = only_told parts outcome stories one tells;
  safe = λ zero. safe (is_clear outcome zero);
  full = λ found. record { outcome = outcome; stories = stories; retells = tells; status = refl; text = refl; tells = followed };
}
