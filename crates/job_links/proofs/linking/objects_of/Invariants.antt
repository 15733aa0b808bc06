use Rattle.std.proofs.Common.{◌≡◌, drop, length}
use Rattle.std.specs.Prelude.{All}
use Rattle.lto_object.specs.Objects.{IsObject}
use Rattle.job_links.specs.Alone.{objects_from}
use Rattle.job_links.proofs.ObjectsInOrder.{after_these}
use Rattle.job_links.proofs.linking.objects_of.Given as goal

-- what is read and what the files that are left give is what all give
abbrev pub invariant-loop-number : goal.invariant-loop-number
invariant-loop-number l = record {
  value : after_these l.objects.items (objects_from l.number (drop l.number l.contents)) ≡ objects_from 0 l.contents;
  count : length l.objects.items ≡ l.number;
  objects : All IsObject l.objects.items;
}
