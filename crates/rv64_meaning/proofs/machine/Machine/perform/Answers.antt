use Rattle.std.proofs.Common.{◌++◌, ap, ◌∙◌}
use Rattle.rv64_meaning.specs.View.{state_of}
use Rattle.rv64_meaning.specs.Standings.{standing_by}
use Rattle.rv64_meaning.proofs.StandingLaws.{does_move, bytes_of}
use Rattle.rv64_meaning.proofs.machine.Machine.perform.Goals as goal

pub returns-clause-moves : goal.returns-clause-moves
returns-clause-moves c = λ output.
    let old = c.args.self.now.hart in
    let new = c.perform-event.new.self in
    let written = bytes_of new c.perform-event.result in
    ap (λ state. standing_by state (state_of new) (output ++ written)) c.state-self.ensures
    ∙ does_move _ c.args.fetched c.perform-event.result old new output c.perform-event.ensures
