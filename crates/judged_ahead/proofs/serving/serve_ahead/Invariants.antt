use Rattle.judged_ahead.proofs.serving.serve_ahead.Given as goal

abbrev pub ghosts-served_by_memo : goal.ghosts-served_by_memo
ghosts-served_by_memo g a = record { finds = g.J.Judge.finds a.judge }
