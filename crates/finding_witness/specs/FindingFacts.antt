-- Arrivals in an app without methods: of category 0 at a sink of category 1, at the addresses 0 and 4. Behind each fact
-- stands what a slip would answer.
use Rattle.std.specs.Prelude.{ℕ, List, [], ◌∷◌, codes}
use Rattle.app_flow.specs.declared.flow_rows.FlowTable.{FlowTable}
use Rattle.app_machine.specs.declared.app.App.{App}
use Rattle.app_machine.specs.declared.lists.Lists.{Lists}
use Rattle.app_machine.specs.declared.papers.Declaration.{Declaration}
use Rattle.fact_rows.specs.declared.context.Ctx.TheVariants as ctx
use Rattle.fact_rows.specs.declared.context.Node.{Node}
use Rattle.fact_rows.specs.declared.row.Row.{Row}
use Rattle.fact_rows.specs.declared.row.Row.TheVariants.{Arrive}
use Rattle.flow_story.specs.declared.line.StoryLine.{StoryLine}
use Rattle.outcomes.specs.declared.outcome.Finding.{Finding}
use Rattle.outcomes.specs.Places.{no_method, place_at}
use Rattle.finding_rows.specs.Arrivals.{IsFirstArrival, Tells}
use Rattle.app_stories.specs.Stories.{AreStoriesOf}

unfoldable pub no_app : App
no_app = record {
  classes = [];
  methods = [];
  keys = [];
  statics = [];
  components = [];
  clicks = [];
  providers = [];
  layout_classes = [];
}

abbrev pub two_categories : Lists
two_categories = record {
  rows = 9;
  categories = codes "id" ∷ codes "net" ∷ [];
  classes = [];
  shared = [];
  methods = [];
  callbacks = [];
  statics = [];
}

abbrev pub undeclared : Declaration
undeclared = record { pairs = [] }

abbrev pub declared : Declaration
declared = record { pairs = (codes "id", codes "net") ∷ [] }

-- method 0 at the address, in the context of this event of component 0
abbrev pub node : ℕ → ℕ → Node
node event pc = record { by = record { ctx = ctx.Row 0 event; method = 0 }; pc = pc }

abbrev pub arrives : ℕ → ℕ → Row
arrives event pc = Arrive 0 1 (node event pc)

abbrev pub sent_at : ℕ → Finding
sent_at pc = record { source = codes "id"; sink = codes "net"; at = place_at no_method pc }

pub record FindingsAreTold : Type 0 where
  -- an arrival at another place does not tell the finding (else the first of the pair is taken, whatever its place)
  pub other_place :
      IsFirstArrival no_app two_categories undeclared (arrives 1 0 ∷ arrives 1 4 ∷ []) (sent_at 4) (arrives 1 0) →
      ⊥
  -- nor does one in another context behind the first (else the last is taken)
  pub later_context :
      IsFirstArrival no_app two_categories undeclared (arrives 1 4 ∷ arrives 2 4 ∷ []) (sent_at 4) (arrives 2 4) →
      ⊥
  -- nor one of a declared pair
  pub of_declared : Tells no_app two_categories declared (sent_at 4) (arrives 1 4) → ⊥
  -- two findings have two stories, whatever they are (else one is left out where they share a row)
  pub left_out : (table : FlowTable) (one other : Finding) (story : List StoryLine) →
      AreStoriesOf no_app two_categories undeclared table (one ∷ other ∷ []) (story ∷ []) →
      ⊥
  -- and none of no finding (else one too many is told)
  pub one_more : (table : FlowTable) (story : List StoryLine) →
      AreStoriesOf no_app two_categories undeclared table [] (story ∷ []) →
      ⊥
