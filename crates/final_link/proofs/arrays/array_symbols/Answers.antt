use Rattle.std.proofs.Common.{◌+◌, ◌*◌, ◌/◌, List, ℕ, ap, ◌∙◌, arith}
use Rattle.final_link.specs.Arrays.{size_of}
use Rattle.final_link.specs.Symbols.{end_of}
use Rattle.final_link.proofs.ArrayLaws.{kept_end}
use Rattle.final_link.proofs.arrays.array_symbols.Goals as goal

pub symbols_from-requires : goal.symbols_from-requires
symbols_from-requires c =
    let at = (c.args.text_end + 4095) / 4096 * 4096 in
    omega (
      arith,
      ap (λ (l : List ℕ). end_of (size_of c.args.merged.now) at l) (c.as_slice.ensures.value ∙ c.in_ok-numbers.ensures),
      kept_end c.args.merged.now c.args.kept.now at,
      c.requires.text,
      c.requires.size,
    )
