use Rattle.std.proofs.Common.{◌≡◌, length, sym, ap, subst, ◌∙◌, arith}
use Rattle.std.specs.Prelude.{IfSome, slice_get}
use Rattle.module_stream.specs.Bodies.{body_of}
use Rattle.lto_object.specs.Objects.{IsDefinition, ObjectData}
use Rattle.lto_object.proofs.RankLaws.{rank_small, rank_is, body_some, body_there}
use Rattle.lto_object.proofs.object.Object.body.Goals as goal

pub index-requires : goal.index-requires
index-requires c =
    let source = c.self.inside.source in
    let defined : IsDefinition source c.args.place = subst (λ (o : ObjectData). IsDefinition o.source c.args.place) (sym c.self.view_is) c.requires in
    omega (arith, c.self.inside.ranks.ok.0, ap length c.self.invariant.1, rank_small source c.args.place defined)

pub index-requires-2 : goal.index-requires-2
index-requires-2 c =
    let source = c.self.inside.source in
    let defined : IsDefinition source c.args.place = subst (λ (o : ObjectData). IsDefinition o.source c.args.place) (sym c.self.view_is) c.requires in
    let rank = c.index.ensures ∙ rank_is c.self.inside.ranks.items source c.args.place c.index.result.now defined c.self.invariant.1 in
    omega (arith, rank, c.self.inside.bodies.ok.0, body_some source c.args.place c.self.inside.bodies.items c.self.invariant.0.bodies defined)

pub returns : goal.returns
returns c =
    let source = c.self.inside.source in
    let defined : IsDefinition source c.args.place = subst (λ (o : ObjectData). IsDefinition o.source c.args.place) (sym c.self.view_is) c.requires in
    let rank = c.index.ensures ∙ rank_is c.self.inside.ranks.items source c.args.place c.index.result.now defined c.self.invariant.1 in
    let lt = body_some source c.args.place c.self.inside.bodies.items c.self.invariant.0.bodies defined in
    subst (λ (o : ObjectData). IfSome (slice_get o.source.functions c.args.place) (λ f. c.index-2.result.now.now ≡ body_of f.body)) c.self.view_is
    (body_there source c.args.place c.index.result.now c.self.inside.bodies.items c.index-2.result.now c.self.invariant.0.bodies defined rank (omega (arith, rank, lt)) c.index-2.ensures)
