use Rattle.version_laws.proofs.Typed.{versions_typed}
use Rattle.version_laws.proofs.typed_versions.Goals as goal

pub returns : goal.returns
returns c = λ p merged plan summarised planned. versions_typed p merged plan summarised planned (c.versioned.ensures.fit p merged plan summarised planned)
