use Rattle.std.proofs.Common.{◌≡◌, ◌<◌, ◌++◌, true, false, sym, ap, ◌∙◌, arith}
use Rattle.std.specs.Prelude.{FitsSigned}
use Rattle.std.specs.Int.{w32, w64}
use Rattle.std.proofs.lemmas.Int.{ints, to_z-of_z}
use Rattle.std.proofs.lemmas.List.{append-nil}
use Rattle.rv64_abi.specs.Offsets.{hi, lo}
use Rattle.rv64_select.specs.Templates.{is_signed_in}
use Rattle.rv64_select.specs.Assembly.{plain}
use Rattle.rv64_select.proofs.Parts.{on_ok, short_fits, parts_none, parts_short, parts_word, parts_joined}
use Rattle.rv64_select.proofs.constants.+put_parts.Goals as goal

pub returns-then-parts-eq0 : goal.returns-then-parts-eq0
returns-then-parts-eq0 t c =
    let old = c.args.out.now.items in
    sym (append-nil old) ∙ ap (λ is. old ++ plain is) (sym (parts_none c.args.parts c.args.register c.args.number c.if-parts-eq0.true))

pub returns-then-fits_12 : goal.returns-then-fits_12
returns-then-fits_12 t c =
    let old = c.args.out.now.items in
    let fits = c.ranges.number in
    let short : is_signed_in 12 c.args.number ≡ true = simp to_z-of_z at (sym c.fits_12.ensures ∙ c.if-fits_12.true) in
    let small : FitsSigned w32 c.args.number = short_fits c.args.number short in
    let some : 0 < c.args.parts = omega arith in
    on_ok c.put_all.result _ _ (λ e. e ∙ ap (λ is. old ++ plain is) (sym (parts_short c.args.parts c.args.register c.args.number some short))) (simp to_z-of_z at c.put_all.ensures)

pub returns-then-fits_32 : goal.returns-then-fits_32
returns-then-fits_32 t c =
    let old = c.args.out.now.items in
    let fits = c.ranges.number in
    let long : is_signed_in 12 c.args.number ≡ false = simp to_z-of_z at (sym c.fits_12.ensures ∙ c.if-fits_12.false) in
    let word : is_signed_in 32 c.args.number ≡ true = simp to_z-of_z at (sym c.fits_32.ensures ∙ c.if-fits_32.true) in
    let some : 0 < c.args.parts = omega arith in
    on_ok c.put_long_constant.result _ _ (λ e. e ∙ ap (λ is. old ++ plain is) (sym (parts_word c.args.parts c.args.register c.args.number some long word)))
    (simp to_z-of_z at c.put_long_constant.ensures)

pub returns : goal.returns
returns t c =
    let number = c.args.number in
    let fits = c.ranges.number in
    let upper_fits : FitsSigned w64 c.hi.result = omega (arith, ints, c.hi.type_inv) in
    let lower_fits : FitsSigned w32 c.lo-lower.result = omega (arith, ints, c.lo-lower.type_inv) in
    let long : is_signed_in 12 number ≡ false = simp to_z-of_z at (sym c.fits_12.ensures ∙ c.if-fits_12.false) in
    let wide : is_signed_in 32 number ≡ false = simp to_z-of_z at (sym c.fits_32.ensures ∙ c.if-fits_32.false) in
    let some : 0 < c.args.parts = omega arith in
    let upper : c.hi.result ≡ hi number = simp to_z-of_z at c.hi.ensures in
    let lower : c.lo-lower.result ≡ lo number = simp to_z-of_z at c.lo-lower.ensures in
    let deep = simp to_z-of_z at c.in_ok-put_parts.ensures in
    on_ok c.put_all-2.result _ _
    (λ e. parts_joined c.args.out.now.items c.put_parts.new.out.items c.put_all-2.new.out.items c.args.parts c.args.register number c.hi.result c.lo-lower.result some long wide upper lower deep e)
    (simp to_z-of_z at c.put_all-2.ensures)
