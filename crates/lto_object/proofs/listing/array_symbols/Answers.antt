use Rattle.std.proofs.Common.{◌≡◌, ◌+◌, Some, take, false, Bool, sym, ap, ◌∙◌, arith}
use Rattle.std.specs.Prelude.{slice_get, nat_eq}
use Rattle.std.specs.List.{list_any}
use Rattle.gimple_checks.proofs.Lists.{slice_get_at}
use Rattle.lto_object.specs.Objects.{is_listed, array_symbols}
use Rattle.lto_object.proofs.LoopLaws.{array_here, not_listed, is_next, renamed}
use Rattle.lto_object.proofs.listing.array_symbols.Goals as goal

pub loop-place-preserved-then-not-is_listed : goal.loop-place-preserved-then-not-is_listed
loop-place-preserved-then-not-is_listed c =
    let named = c.args.named.now in
    let items = c.args.arrays.now in
    let i = c.loop-place.place in
    let a = c.index-arrays-place.result in
    let here : slice_get items i ≡ Some a = slice_get_at items i a (omega arith) c.index-arrays-place.is in
    let b : Bool = is_listed a.linkage (list_any (nat_eq i) named) in
    let is : b ≡ c.is_listed.result = sym (c.is_listed.ensures ∙ ap (is_listed a.linkage) c.is_among.ensures) in
    not_listed b (record { name = a.name; function = false; linkage = a.linkage; place = i }) c.args.symbols.items (array_symbols named (take i items)) (array_symbols named (take (i + 1) items)) c.loop-place.symbols.items c.loop-place.invariant (is ∙ c.if-not-is_listed.true) (array_here named items i a here)

pub loop-place-preserved : goal.loop-place-preserved
loop-place-preserved c =
    let named = c.args.named.now in
    let items = c.args.arrays.now in
    let i = c.loop-place.place in
    let a = c.index-arrays-place.result in
    let here : slice_get items i ≡ Some a = slice_get_at items i a (omega arith) c.index-arrays-place.is in
    let b : Bool = is_listed a.linkage (list_any (nat_eq i) named) in
    let is : b ≡ c.is_listed.result = sym (c.is_listed.ensures ∙ ap (is_listed a.linkage) c.is_among.ensures) in
    is_next b (record { name = a.name; function = false; linkage = a.linkage; place = i }) c.args.symbols.items (array_symbols named (take i items)) (array_symbols named (take (i + 1) items)) c.loop-place.symbols.items c.push.new.self.items c.loop-place.invariant
    (renamed c.loop-place.symbols.items c.push.new.self.items c.in_ok-copy.field-0 a.name false a.linkage i c.in_ok-push.ensures.items c.in_ok-copy.ensures) (is ∙ c.if-not-is_listed.false) (array_here named items i a here)
