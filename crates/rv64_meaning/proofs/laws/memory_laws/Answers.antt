use Rattle.rv64_meaning.proofs.MemoryLaws.{load_same, load_apart}
use Rattle.rv64_meaning.proofs.laws.memory_laws.Goals as goal

pub returns : goal.returns
returns c = record { same = load_same; apart = load_apart }
