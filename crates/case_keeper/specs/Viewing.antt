-- What a keeper shows for a command: all that the command needs, and no content where it needs none.
use Rattle.std.specs.Prelude.{◌≡◌, ℕ, List, []}
use Rattle.std.specs.Option.{option_map}
use Rattle.case_rules.specs.declared.case.Case.{Case}
use Rattle.case_rules.specs.declared.case.Content.{Content}
use Rattle.case_rules.specs.declared.case.Entry.{Entry}
use Rattle.case_rules.specs.declared.command.Command.{Command}
use Rattle.case_rules.specs.declared.command.Command.TheVariants as commands
use Rattle.case_rules.specs.declared.command.View.{View}
use Rattle.case_rules.specs.Desk.{view_of}
use Rattle.case_rules.specs.Docket.{Shows}
use Rattle.case_rules.specs.Rules.{Session}

abbrev pub no_content : Content
no_content = record { manifest = []; layouts = []; declaration = []; dex = [] }

-- a case but its content
abbrev pub without_content : Case → Case
without_content case = record case { content = no_content }

-- a case of this name with these entries, and without content
abbrev pub bare : List ℕ → List ℕ → List Entry → Case
bare party reference entries = record { party = party; reference = reference; content = no_content; entries = entries }

-- The view shows the case that the command speaks of, as the cases do, but its content.
abbrev pub ShowsWithout : Session → Command → View → List Case → Type 0
ShowsWithout session command view cases = view.found ≡ option_map without_content (view_of session command cases).found

-- What the view shows is so, as far as the command needs it: content for a submission and for what may be judged.
abbrev pub ShowsFor : Session → Command → View → List Case → Type 0
ShowsFor session (commands.Submit reference content) view cases =
    Shows session (commands.Submit reference content) view cases
ShowsFor session commands.Decide view cases = Shows session commands.Decide view cases
ShowsFor session (commands.Show reference) view cases = ShowsWithout session (commands.Show reference) view cases
ShowsFor session (commands.Report reference) view cases = ShowsWithout session (commands.Report reference) view cases
ShowsFor session (commands.Appeal reference text) view cases =
    ShowsWithout session (commands.Appeal reference text) view cases
ShowsFor session (commands.Review developer reference) view cases =
    Shows session (commands.Review developer reference) view cases
ShowsFor session (commands.Rule developer reference word) view cases =
    ShowsWithout session (commands.Rule developer reference word) view cases
ShowsFor session commands.List view cases = Shows session commands.List view cases
