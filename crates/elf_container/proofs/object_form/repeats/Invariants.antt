use Rattle.std.proofs.Common.{◌≡◌, ℕ, List, map, take, drop}
use Rattle.gimple_ir.specs.Names.{is_among, repeats, repeats_after}
use Rattle.elf_container.specs.SeenNames.{holds}
use Rattle.elf_container.proofs.object_form.repeats.Given as goal

abbrev pub invariant-loop-symbol : goal.invariant-loop-symbol
invariant-loop-symbol l = record {
  seen : (q : List ℕ) → holds l.seen q ≡ is_among (take l.symbol-index (map (λ s. s.name) l.symbols)) q;
  rest : repeats (map (λ s. s.name) l.symbols) ≡ repeats_after (take l.symbol-index (map (λ s. s.name) l.symbols)) (drop l.symbol-index (map (λ s. s.name) l.symbols));
}
