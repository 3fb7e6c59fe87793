-- The library call at a node, by what the lists say of it.
use Rattle.std.specs.Prelude.{◌≡◌, ◌<◌, ℕ, Bool, true, false, cond, List, Option, Some, None, option_map}
use Rattle.std.specs.List.{All}
use Rattle.app_machine.specs.declared.call.MethodRef.{MethodRef}
use Rattle.app_machine.specs.declared.call.CallKind.{CallKind}
use Rattle.app_machine.specs.declared.method.Act.{Act}
use Rattle.app_machine.specs.declared.method.Act.TheVariants as act
use Rattle.app_machine.specs.declared.method.Step.{Step}
use Rattle.app_machine.specs.declared.summary.Gives.TheVariants.{Shared}
use Rattle.app_machine.specs.declared.summary.Summary.{Summary}
use Rattle.app_machine.specs.declared.lists.Lists.{Lists}
use Rattle.app_machine.specs.declared.lists.SummaryId.{SummaryId}
use Rattle.app_machine.specs.declared.app.App.{App}
use Rattle.app_machine.specs.Names.{Name, is_void}
use Rattle.app_machine.specs.Library.{positions}
use Rattle.app_machine.specs.Lookups.{step_at, is_static_call}
use Rattle.app_machine.specs.State.{holds}
use Rattle.app_machine.specs.Summaries.{summary}
use Rattle.app_parts.specs.Views.{shown_summary}
use Rattle.fact_rows.specs.declared.context.Node.{Node}
use Rattle.library_ground.specs.declared.call.LibraryCall.{LibraryCall}

-- Where it stands, the first registers of its positions, to where control goes on, the type of its result, and what the lists
-- say of it by the row or default.
pub record CallRow : Type 0 where
  pub node : Node
  pub uses : SummaryId
  pub places : List ℕ
  pub next : List ℕ
  pub ret : Name
  pub row : Summary

abbrev pub used_row : Node → SummaryId → List ℕ → CallKind → MethodRef → List ℕ → Summary → CallRow
used_row n u next kind at args row = record {
  node = n;
  uses = u;
  places = positions kind at args;
  next = next;
  ret = at.proto.ret;
  row = row;
}

abbrev pub row_by : Lists → Node → SummaryId → List ℕ → Act → Option CallRow
row_by lists n u next (act.Call kind at args) = option_map (λ row. used_row n u next kind at args row) (summary lists u at (is_static_call kind))
row_by lists n u next _ = None

abbrev pub row_on : Option Step → Lists → Node → SummaryId → Option CallRow
row_on None lists n u = None
row_on (Some step) lists n u = row_by lists n u step.next step.act

abbrev pub call_row : App → Lists → Node → SummaryId → Option CallRow
call_row app lists n u = row_on (step_at app n.by.method n.pc) lists n u

abbrev pub shown_call : LibraryCall → CallRow
shown_call call = used_row call.node call.uses call.next.now call.kind call.at.now call.args.now (shown_summary call.view call.at.now (is_static_call call.kind))

abbrev pub has_result : CallRow → Bool
has_result c = cond (is_void c.ret) false true

-- the category of the sink of which the position is one
abbrev pub sink_among : Option (ℕ × List ℕ) → ℕ → Option ℕ
sink_among None i = None
sink_among (Some sink) i = cond (holds sink.1 i) (Some sink.0) None

abbrev pub sink_of : CallRow → ℕ → Option ℕ
sink_of c i = sink_among c.row.sink i

-- the shared objects that are named have small numbers
pub record IsWithin (c : CallRow) : Type 0 where
  pub gives : (g : ℕ) → c.row.gives ≡ Shared g → g < 65536
  pub stores : All (λ (store : ℕ × ℕ). store.1 < 65536) c.row.stores
