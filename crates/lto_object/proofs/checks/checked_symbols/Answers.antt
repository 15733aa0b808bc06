use Rattle.std.proofs.Common.{◌≡◌, None, length, ap, ◌∙◌, sym, arith}
use Rattle.lto_object.specs.ObjectReading.{differs_from}
use Rattle.lto_object.proofs.CheckLaws.{stored_are}
use Rattle.lto_object.proofs.SymbolFits.{few_symbols}
use Rattle.lto_object.proofs.checks.checked_symbols.Goals as goal

pub overflow_cast-result : goal.overflow_cast-result
overflow_cast-result c =
    omega (arith, c.in-Some.ensures.within, ap length c.as_slice.ensures, ap length c.in_ok-symbols.ensures, few_symbols c.args.source.now c.requires, c.requires.stated.items)

pub returns-in-None-clause-same : goal.returns-in-None-clause-same
returns-in-None-clause-same c =
    let none : differs_from 0 c.args.stored.now c.in_ok-symbols.symbols ≡ None = ap (differs_from 0 c.args.stored.now) (sym c.as_slice.ensures) ∙ sym c.differs.ensures.value ∙ c.in-None.is in
    stored_are 0 c.args.stored.now c.in_ok-symbols.symbols none
