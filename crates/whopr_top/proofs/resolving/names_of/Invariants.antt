use Rattle.std.proofs.Common.{◌≡◌, ◌++◌, drop, true}
use Rattle.std.specs.List.{list_all}
use Rattle.whopr_words.specs.Commands.{words_of, is_file_name}
use Rattle.whopr_top.proofs.resolving.names_of.Given as goal

abbrev pub invariant-loop-word : goal.invariant-loop-word
invariant-loop-word l = record {
  value : l.names.items ++ words_of (drop l.word-index l.words) ≡ words_of l.words;
  valid : list_all is_file_name (words_of (drop l.word-index l.words)) ≡ true;
}
