use Rattle.std.proofs.Common.{◌≡◌, ◌++◌, sym, ap, ap₂, ◌∙◌, List}
use Rattle.lto_object.specs.declared.symbol.Symbol.{Symbol}
use Rattle.lto_object.specs.Objects.{array_symbols, function_symbols, named_arrays, named_functions}
use Rattle.lto_object.proofs.LoopLaws.{arrays_same, functions_same}
use Rattle.lto_object.proofs.listing.symbols.Goals as goal

pub returns : goal.returns
returns c =
    let source = c.args.source.now in
    let arrays : c.in_ok-symbols.symbols.items ≡ array_symbols (named_arrays source.functions) source.arrays =
    c.in_ok-symbols.ensures ∙ ap (λ (before : List Symbol). before ++ array_symbols c.as_slice-2.result.now c.as_slice.result.now) c.new.ensures.items
    ∙ ap₂ array_symbols c.as_slice-2.ensures.value c.as_slice.ensures ∙ arrays_same c.ascending-named.result.items c.in_ok-named_arrays.field-0.items source.arrays c.ascending-named.ensures.same
    ∙ ap (λ named. array_symbols named source.arrays) (c.in_ok-named_arrays.ensures ∙ ap named_arrays c.as_slice-functions.ensures) in
    let functions : function_symbols c.as_slice-3.result.now c.as_slice-functions.result.now ≡ function_symbols (named_functions source.functions) source.functions =
    ap₂ function_symbols c.as_slice-3.ensures.value c.as_slice-functions.ensures ∙ functions_same c.ascending-called.result.items c.in_ok-named_functions.field-0.items source.functions c.ascending-called.ensures.same
    ∙ ap (λ named. function_symbols named source.functions) (c.in_ok-named_functions.ensures ∙ ap named_functions c.as_slice-functions.ensures) in
    c.from_vec.ensures ∙ c.in_ok-all.ensures ∙ ap₂ (λ a b. a ++ b) arrays functions
