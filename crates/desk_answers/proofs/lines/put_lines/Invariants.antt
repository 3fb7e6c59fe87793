use Rattle.std.proofs.Common.{take, flat_map}
use Rattle.desk_answers.specs.Tokens.{Adds, line_tokens}
use Rattle.desk_answers.proofs.lines.put_lines.Given as goal

-- the lines so far are written
abbrev pub invariant-loop-line : goal.invariant-loop-line
invariant-loop-line l = Adds l.initial.body l.body (flat_map (line_tokens l.role) (take l.line-index l.lines))
