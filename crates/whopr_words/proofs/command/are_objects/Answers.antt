use Rattle.std.proofs.Common.{string_bytes, arith}
use Rattle.std.proofs.lemmas.List.{length-map}
use Rattle.std.proofs.lemmas.List.Folds.{list_all-map}
use Rattle.std.proofs.lemmas.Grind.{common_steps}
use Rattle.whopr_words.specs.Commands.{is_file_name}
use Rattle.whopr_words.proofs.command.are_objects.Goals as goal

pub returns-then-words-le256 : goal.returns-then-words-le256
returns-then-words-le256 c = rw (list_all-map is_file_name (λ w. string_bytes w) c.args.words.now) (grind (arith, common_steps, length-map))
