use Rattle.rv64_select.proofs.constants.+put_parts.Given as goal

abbrev pub decreases-put_parts : goal.decreases-put_parts
decreases-put_parts l = l.parts
