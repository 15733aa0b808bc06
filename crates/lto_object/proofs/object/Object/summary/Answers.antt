use Rattle.std.proofs.Common.{◌≡◌, length, sym, ap, subst, ◌∙◌, arith}
use Rattle.std.specs.Prelude.{IfSome, slice_get}
use Rattle.func_summary.specs.Summaries.{summary_of}
use Rattle.lto_object.specs.Objects.{IsDefinition, ObjectData}
use Rattle.lto_object.proofs.RankLaws.{rank_small, rank_is, summary_some, summary_there}
use Rattle.lto_object.proofs.object.Object.summary.Goals as goal

pub index-requires : goal.index-requires
index-requires c =
    let source = c.self.inside.source in
    let defined : IsDefinition source c.args.place = subst (λ (o : ObjectData). IsDefinition o.source c.args.place) (sym c.self.view_is) c.requires in
    omega (arith, c.self.inside.ranks.ok.0, ap length c.self.invariant.1, rank_small source c.args.place defined)

pub get-requires : goal.get-requires
get-requires c =
    let source = c.self.inside.source in
    let defined : IsDefinition source c.args.place = subst (λ (o : ObjectData). IsDefinition o.source c.args.place) (sym c.self.view_is) c.requires in
    let rank = c.index.ensures ∙ rank_is c.self.inside.ranks.items source c.args.place c.index.result.now defined c.self.invariant.1 in
    omega (arith, rank, summary_some _ c.args.place c.self.invariant.0 defined)

pub returns : goal.returns
returns c =
    let source = c.self.inside.source in
    let defined : IsDefinition source c.args.place = subst (λ (o : ObjectData). IsDefinition o.source c.args.place) (sym c.self.view_is) c.requires in
    let rank = c.index.ensures ∙ rank_is c.self.inside.ranks.items source c.args.place c.index.result.now defined c.self.invariant.1 in
    subst (λ (o : ObjectData). IfSome (slice_get o.source.functions c.args.place) (λ f. c.get.result.now ≡ summary_of o.source f)) c.self.view_is
    (summary_there _ c.args.place c.index.result.now c.get.result.now c.self.invariant.0 defined rank c.get.ensures)
