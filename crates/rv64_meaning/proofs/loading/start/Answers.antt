use Rattle.std.proofs.Common.{◌+◌, ◌-◌, ap, ◌∙◌, take, drop}
use Rattle.rv64_meaning.specs.Loading.{text_size}
use Rattle.rv64_meaning.proofs.ByteLaws.{range_is}
use Rattle.rv64_meaning.proofs.LoadingLaws.{started}
use Rattle.rv64_meaning.proofs.loading.start.Goals as goal

pub returns-clause-state : goal.returns-clause-state
returns-clause-state c =
    let image = c.args.image.now in
    let text = c.in_ok-text.ensures.items ∙ ap (λ k. take (4096 + k - 4096) (drop 4096 image)) c.text_size.ensures ∙ range_is image 4096 (text_size image) in
    started image c.args.input.items c.in_ok-text.text.items c.in_ok-data.data.items c.data_start.result text c.in_ok-data.ensures c.data_start.ensures
