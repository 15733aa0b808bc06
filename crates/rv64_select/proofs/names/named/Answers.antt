use Rattle.std.proofs.Common.{◌≡◌, ◌+◌, ◌<◌, List, [], ◌∷◌, ◌++◌, length, get_or, drop, map, fold, sym, ap, ◌∙◌, subst, arith, append_assoc}
use Rattle.std.specs.List.{AllByRecursion}
use Rattle.elf_container.specs.declared.relocatable.Reloc.{Reloc}
use Rattle.rv64_select.specs.declared.item.Symbol.TheVariants as symbols
use Rattle.rv64_select.specs.declared.references.Reference.{Reference}
use Rattle.rv64_select.specs.Code.{symbol_name}
use Rattle.rv64_select.specs.Items.{SymbolFits}
use Rattle.rv64_select.specs.Selected.{with_name, with_reference, names_of, place_of, relocation_of}
use Rattle.rv64_select.proofs.Naming.{relocation_kept, drop_more, with_short}
use Rattle.rv64_select.proofs.names.named.Goals as goal

pub loop-reference-preserved : goal.loop-reference-preserved
loop-reference-preserved c =
    let f = c.args.function.now in
    let refs = c.args.references.now in
    let i = c.loop-reference.reference-index in
    let r : Reference = get_or refs i (record { offset = 0; kind = 0; symbol = symbols.Putchar }) in
    let rest = drop (i + 1) refs in
    let names = c.loop-reference.names in
    let new = c.place.new.names in
    let final = names_of f refs in
    let made : Reloc = record { offset = r.offset; kind = r.kind; symbol = c.in_ok-symbol.symbol } in
    let before : i < length refs = omega arith in
    let step : drop i refs ≡ r ∷ rest = drop_more refs i (record { offset = 0; kind = 0; symbol = symbols.Putchar }) before in
    let is : new ≡ with_name names (symbol_name f r.symbol) = c.in_ok-symbol.ensures.names ∙ ap (with_name names) c.symbol_name-name.ensures.value in
    let at : c.in_ok-symbol.symbol ≡ place_of new (symbol_name f r.symbol) = c.in_ok-symbol.ensures.place ∙ ap (place_of new) c.symbol_name-name.ensures.value in
    let folded : fold (with_reference f) names (r ∷ rest) ≡ final = ap (fold (with_reference f) names) (sym step) ∙ c.loop-reference.invariant.names in
    let kept = relocation_kept f final names new r rest c.in_ok-symbol.symbol folded is at in
    let relocations = c.loop-reference.relocations in
    let all : AllByRecursion (λ s. SymbolFits f s.symbol) (r ∷ rest) = subst (AllByRecursion (λ (s : Reference). SymbolFits f s.symbol)) step c.loop-reference.invariant.fits in
    record {
      few = omega (arith, ap length is, with_short names (symbol_name f r.symbol), c.loop-reference.invariant.few);
      fits = all.1;
      placed = c.in_ok-symbol.ensures.placed;
      names = ap (λ ns. fold (with_reference f) ns rest) is ∙ folded;
      relocations =
          ap (λ ls. ls ++ map (relocation_of f final) rest) c.in_ok-push.ensures.ok
          ∙ append_assoc relocations (made ∷ []) (map (relocation_of f final) rest)
          ∙ ap (λ (x : Reloc). relocations ++ x ∷ map (relocation_of f final) rest) (sym kept)
          ∙ ap (λ (l : List Reference). relocations ++ map (relocation_of f final) l) (sym step)
          ∙ c.loop-reference.invariant.relocations;
    }
