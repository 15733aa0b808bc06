use Rattle.std.proofs.Common.{◌≡◌, ℕ, List, [], map, take, drop}
use Rattle.gimple_ir.specs.Names.{is_among}
use Rattle.elf_container.specs.Views.{owned}
use Rattle.elf_container.specs.SeenNames.{holds}
use Rattle.lto_object.specs.Forms.{all_names, double_from}
use Rattle.lto_object.proofs.form.double.Given as goal

abbrev pub invariant-loop-place : goal.invariant-loop-place
invariant-loop-place l = record {
  seen : (q : List ℕ) → holds l.seen q ≡ is_among (take l.place (all_names (map owned l.sections))) q;
  rest : double_from 0 [] (all_names (map owned l.sections)) ≡ double_from l.place (take l.place (all_names (map owned l.sections))) (drop l.place (all_names (map owned l.sections)));
}
