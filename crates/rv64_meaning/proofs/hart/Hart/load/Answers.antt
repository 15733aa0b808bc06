use Rattle.std.proofs.Common.{length, sym, ap, ◌∙◌, arith}
use Rattle.rv64_meaning.specs.Bytes.{number_of}
use Rattle.rv64_meaning.specs.View.{state_of}
use Rattle.rv64_meaning.proofs.ByteLaws.{load-number, length-bytes_from}
use Rattle.rv64_meaning.proofs.hart.Hart.load.Goals as goal

pub number-requires : goal.number-requires
number-requires c =
    let e = ap length c.bytes.ensures ∙ length-bytes_from c.args.n (state_of c.args.self.now).mem c.args.a in
    omega (arith, e, c.requires.small)

pub returns : goal.returns
returns c = c.number.ensures ∙ ap number_of c.bytes.ensures ∙ sym (load-number c.args.n (state_of c.args.self.now).mem c.args.a)
