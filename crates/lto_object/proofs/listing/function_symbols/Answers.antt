use Rattle.std.proofs.Common.{◌≡◌, ◌+◌, Some, take, true, Bool, sym, ap, ◌∙◌, arith}
use Rattle.std.specs.Prelude.{slice_get, nat_eq}
use Rattle.std.specs.List.{list_any}
use Rattle.gimple_checks.proofs.Lists.{slice_get_at}
use Rattle.lto_object.specs.Objects.{is_listed, function_symbols}
use Rattle.lto_object.proofs.LoopLaws.{function_here, not_listed, is_next, renamed}
use Rattle.lto_object.proofs.listing.function_symbols.Goals as goal

pub loop-place-preserved-then-not-is_listed : goal.loop-place-preserved-then-not-is_listed
loop-place-preserved-then-not-is_listed c =
    let named = c.args.named.now in
    let items = c.args.functions.now in
    let i = c.loop-place.place in
    let a = c.index-functions-place.result in
    let here : slice_get items i ≡ Some a = slice_get_at items i a (omega arith) c.index-functions-place.is in
    let b : Bool = is_listed a.linkage (list_any (nat_eq i) named) in
    let is : b ≡ c.is_listed.result = sym (c.is_listed.ensures ∙ ap (is_listed a.linkage) c.is_among.ensures) in
    not_listed b (record { name = a.name; function = true; linkage = a.linkage; place = i }) c.args.symbols.items (function_symbols named (take i items)) (function_symbols named (take (i + 1) items)) c.loop-place.symbols.items c.loop-place.invariant (is ∙ c.if-not-is_listed.true) (function_here named items i a here)

pub loop-place-preserved : goal.loop-place-preserved
loop-place-preserved c =
    let named = c.args.named.now in
    let items = c.args.functions.now in
    let i = c.loop-place.place in
    let a = c.index-functions-place.result in
    let here : slice_get items i ≡ Some a = slice_get_at items i a (omega arith) c.index-functions-place.is in
    let b : Bool = is_listed a.linkage (list_any (nat_eq i) named) in
    let is : b ≡ c.is_listed.result = sym (c.is_listed.ensures ∙ ap (is_listed a.linkage) c.is_among.ensures) in
    is_next b (record { name = a.name; function = true; linkage = a.linkage; place = i }) c.args.symbols.items (function_symbols named (take i items)) (function_symbols named (take (i + 1) items)) c.loop-place.symbols.items c.push.new.self.items c.loop-place.invariant
    (renamed c.loop-place.symbols.items c.push.new.self.items c.in_ok-copy.field-0 a.name true a.linkage i c.in_ok-push.ensures.items c.in_ok-copy.ensures) (is ∙ c.if-not-is_listed.false) (function_here named items i a here)
