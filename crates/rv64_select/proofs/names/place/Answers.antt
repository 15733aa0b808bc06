use Rattle.std.proofs.Common.{◌≡◌, ◌++◌, [], ◌∷◌, None, sym, ap, ◌∙◌}
use Rattle.std.specs.Prelude.{position}
use Rattle.std.specs.Str.{bytes_eq}
use Rattle.rv64_select.specs.Selected.{place_of}
use Rattle.rv64_select.proofs.Naming.{with_found, with_new, place_new, placed_new}
use Rattle.rv64_select.proofs.names.place.Goals as goal

pub returns-in-Some-clause-names : goal.returns-in-Some-clause-names
returns-in-Some-clause-names c =
    let names = c.args.names.now in
    let name = c.args.name.now in
    sym (with_found names name c.in-Some.place.now (sym (c.requires.placed name) ∙ sym c.in-Some.ensures.value)).0

pub returns-clause-names : goal.returns-clause-names
returns-clause-names c =
    let names = c.args.names.now in
    let name = c.args.name.now in
    let none : position (bytes_eq name) names ≡ None = sym (c.requires.placed name) ∙ sym c.in_default.ensures.value in
    c.in_ok-push.ensures.ok ∙ ap (λ n. names ++ n ∷ []) c.in_ok-owned.ensures ∙ sym (with_new names name none)

pub returns-clause-place : goal.returns-clause-place
returns-clause-place c =
    let names = c.args.names.now in
    let name = c.args.name.now in
    let none : position (bytes_eq name) names ≡ None = sym (c.requires.placed name) ∙ sym c.in_default.ensures.value in
    let new : c.push.new.self ≡ names ++ name ∷ [] = c.in_ok-push.ensures.ok ∙ ap (λ n. names ++ n ∷ []) c.in_ok-owned.ensures in
    c.len-place.ensures ∙ sym (place_new names name none) ∙ ap (λ ns. place_of ns name) (sym new)

pub returns-clause-placed : goal.returns-clause-placed
returns-clause-placed c =
    let names = c.args.names.now in
    let name = c.args.name.now in
    let none : position (bytes_eq name) names ≡ None = sym (c.requires.placed name) ∙ sym c.in_default.ensures.value in
    let new : c.push.new.self ≡ names ++ name ∷ [] = c.in_ok-push.ensures.ok ∙ ap (λ n. names ++ n ∷ []) c.in_ok-owned.ensures in
    λ q. placed_new name names c.len-place.result c.args.places.now c.insert.new.self c.len-place.ensures none c.requires.placed c.in_ok-insert.ensures.updates q
    ∙ ap (position (bytes_eq q)) (sym new)
