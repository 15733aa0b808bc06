use Rattle.std.proofs.Common.{◌≡◌, ◌+◌, drop}
use Rattle.symbol_resolution.specs.LineFaults.{words_fault}
use Rattle.symbol_resolution.proofs.lines.check_words.Given as goal

abbrev pub invariant-loop-place : goal.invariant-loop-place
invariant-loop-place l = words_fault (l.line + l.place) (drop l.place l.symbols) (drop l.place l.words) ≡ words_fault l.line l.symbols l.words
