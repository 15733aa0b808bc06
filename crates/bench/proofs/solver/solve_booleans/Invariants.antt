use Rattle.bench.proofs.solver.solve_booleans.Given as goal

abbrev pub ghosts-booleans_by : goal.ghosts-booleans_by
ghosts-booleans_by a = record { name = a.blank.name; parts = a.blank.parts }
