use Rattle.std.proofs.Common.{◌≡◌, ◌+◌, ◌++◌, [], ◌∷◌, length, take, sym, ap, ◌∙◌, arith}
use Rattle.std.specs.List.{flat_map}
use Rattle.std.proofs.lemmas.List.{take_more, flat_map_more}
use Rattle.cursors.specs.Leb128.{uleb_of}
use Rattle.module_stream.proofs.encode.put_counted.Goals as goal

pub loop-item-preserved : goal.loop-item-preserved
loop-item-preserved g c =
    let write = g.T.Encode.spelling in
    let items = c.args.items.now in
    let i = c.loop-item.item-index in
    let item = c.item-item.result in
    let front = c.args.out.now.items ++ uleb_of (length items) in
    let next : take (i + 1) items ≡ take i items ++ item ∷ [] =
    take_more items i item (omega arith) ∙ ap (λ y. take i items ++ y ∷ []) (sym c.item-item.is) in
    c.in_ok-encode.ensures ∙ ap (λ t. t ++ write item) c.loop-item.invariant ∙ flat_map_more write front (take i items) item
    ∙ ap (λ ys. front ++ flat_map write ys) (sym next)
