use Rattle.std.proofs.Common.{◌≡◌, drop, vec_len}
use Rattle.std.specs.Prelude.{All}
use Rattle.lto_object.specs.Objects.{IsObject}
use Rattle.whopr_top.specs.Reads.{contents_of}
use Rattle.whopr_top.specs.Judgements.{objects_from}
use Rattle.whopr_top.proofs.ObjectsInOrder.{after_these}
use Rattle.whopr_top.proofs.resolving.objects_of.Given as goal

-- what is read and what the files that are left give is what all give
abbrev pub invariant-loop-number : goal.invariant-loop-number
invariant-loop-number l = record {
  value : after_these l.objects.items (objects_from l.number (contents_of (drop l.number l.contents))) ≡ objects_from 0 (contents_of l.contents);
  count : vec_len l.objects ≡ l.number;
  objects : All IsObject l.objects.items;
}
