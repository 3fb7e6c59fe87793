-- Each step, and so each run, keeps what is known: the theorem.
use Rattle.std.proofs.Common.{List, refl}
use Rattle.app_machine.specs.declared.lists.Lists.{Lists}
use Rattle.app_machine.specs.declared.app.App.{App}
use Rattle.vet_base.specs.Members.{In}
use Rattle.app_machine.specs.State.{result_register, Arrival, World, Frame}
use Rattle.app_machine.specs.Run.{Steps, goes_on, raises, throws, calls, calls_library, library_raises, returns, initialises, has_initialised, ends, passes, begins, begins_initialiser, Run, starts as run_starts, then}
use Rattle.app_machine.specs.Sound.{SoundApp}
use Rattle.fact_rows.specs.declared.site.Site.TheVariants.{Shared}
use Rattle.fact_rows.specs.declared.row.Row.{Row}
use Rattle.flow_rules.specs.Rules.{Starts}
use Rattle.cell_rules.specs.Rules.{Closed}
use Rattle.flow_proof.specs.Covering.{CoversEveryRun}
use Rattle.cell_proof.specs.Covering.{EveryGoodCellTableCoversEveryRun}
use Rattle.cell_proof.proofs.Fitting.{blank_fits}
use Rattle.cell_proof.proofs.Knowing.{ArrivalKnown, Known, idle, running}
use Rattle.cell_proof.proofs.Lasting.{goes_writing}
use Rattle.cell_proof.proofs.Stepping.{known_local}
use Rattle.cell_proof.proofs.Framing.{raised_blank, known_throw, known_return, known_initialised, known_call, known_initialiser}
use Rattle.cell_proof.proofs.Librarian.{known_library}
use Rattle.cell_proof.proofs.Eventing.{came}
use Rattle.cell_proof.proofs.Beginning.{known_begin, known_begin_initialiser, known_end}
use Rattle.cell_proof.proofs.Standing.{stands_known}

module _ (app : App) (lists : Lists) (has : Row → Type 0) (closed : Closed app lists has) (starts : (row : Row) → Starts app row → has row) (sound : SoundApp app) where
  known_step : {w : World} {fs : List Frame} {new : World} {gs : List Frame} → Known app lists has w fs → Steps app lists w fs new gs →
      Known app lists has new gs
  known_step (running site c known) (goes_on step) = known_local app lists has closed sound known step
  known_step (running site c known) (raises raised) = raised_blank app lists has closed sound known raised
  known_step (running site c known) (throws act raised) = known_throw app lists has closed sound known act raised
  known_step (running site c known) (calls act goes code) = known_call app lists has closed sound known act goes refl code
  known_step (running site c known) (calls_library act next used call) =
      let k = known_library app lists has closed known act used call in
      goes_writing app lists has closed k.running act next result_register _ (λ _ other. other) (k.result _ next)
  known_step (running site c known) (library_raises act used call raised) =
      raised_blank app lists has closed sound (known_library app lists has closed known act used call).running raised
  known_step (running site c known) (returns ordinary act next) = known_return app lists has closed sound known ordinary act next
  known_step (running site c known) (initialises is_one code) = known_initialiser app lists has closed sound known is_one code
  known_step (running site c known) (has_initialised is_one act) = known_initialised app lists has closed sound known
  known_step (running site c known) (ends act) = known_end app lists has closed known act
  known_step (idle site fits) (passes comes none) = let e = came app lists has closed starts fits comes in idle e.sites e.world
  known_step (idle site fits) (begins {body = body} comes code receiver parameters) =
      let e = came app lists has closed starts fits comes in
      known_begin app lists has closed e.world (e.begins body refl).begun code receiver parameters
  known_step (idle site fits) (begins_initialiser may code) = known_begin_initialiser app lists has closed starts fits may code

  known_run : {w : World} {fs : List Frame} → Run app lists w fs → Known app lists has w fs
  known_run run_starts = idle (λ p. Shared 0) (record {
    heap = record { entries = λ p k w h. absurd h; class = λ p c h. absurd h };
    statics = λ g. blank_fits _ _ _ _;
    arrivals = λ a h. absurd h;
    live = λ c alive. absurd {0} (alive refl);
    components = λ c. blank_fits _ _ _ _;
    handed = λ p h. absurd h;
  })
  known_run (then run step) = known_step (known_run run) step

  arrivals_of : {w : World} {fs : List Frame} → Known app lists has w fs → (a : Arrival) → In a w.arrivals → ArrivalKnown has a
  arrivals_of (idle site fits) = fits.arrivals
  arrivals_of (running site c known) = known.world.arrivals

  -- Whatever set of rows has the starts and is closed covers every run.
  pub covers_every_run : CoversEveryRun app lists has
  covers_every_run = record {
    arrivals = λ w fs run. arrivals_of (known_run run);
    stands = λ w fs run method pc cause stands. stands_known app lists has closed starts (known_run run) stands;
    safe = λ declaration declared none. record {
      declared = λ w fs run a h. let arrived = arrivals_of (known_run run) a h in declared a.label a.sink arrived.node arrived.holds;
      never_stands = λ w fs run method pc cause stands. let unknown = stands_known app lists has closed starts (known_run run) stands in none unknown.node cause unknown.holds;
    };
  }

pub every_good_cell_table_covers_every_run : EveryGoodCellTableCoversEveryRun
every_good_cell_table_covers_every_run app lists table sound good = covers_every_run app lists (λ row. In row table) good.closed good.starts sound
