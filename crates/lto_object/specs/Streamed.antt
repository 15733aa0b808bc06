-- What the streams of a file hold, and where a stream's fault stands in the file.
use Rattle.std.specs.Prelude.{◌≡◌, ℕ, ◌+◌, ◌<◌, ◌^◌, List, map}
use Rattle.gimple_ir.specs.Programs.{IsStated}
use Rattle.elf_container.specs.declared.sections.OwnSection.{OwnSection}
use Rattle.elf_container.specs.ObjectReading.{part}
use Rattle.module_stream.specs.Bodies.{body_of}
use Rattle.module_stream.specs.Declarations.{decls_of}
use Rattle.module_stream.specs.declared.fault.StreamError.{StreamError}
use Rattle.module_stream.specs.declared.fault.StreamError.TheVariants as faults
use Rattle.lto_object.specs.declared.fault.ObjectFault.TheVariants.{BadStream}
use Rattle.lto_object.specs.declared.fault.ObjectError.{ObjectError}
use Rattle.lto_object.specs.declared.fault.ObjectError.TheVariants as errors
use Rattle.lto_object.specs.declared.streams.Streams.{Streams}
use Rattle.lto_object.specs.BodyStream.{bodies_of, bodies_bytes}
use Rattle.lto_object.specs.SummaryStream.{summaries_bytes, FitSummaries}
use Rattle.lto_object.specs.SymbolStream.{symbols_bytes}
use Rattle.lto_object.specs.ObjectReading.{Stored}

-- but for the bytes of the bodies
abbrev pub stored : Streams → Stored
stored s = record { source = s.source; summaries = s.summaries; symbols = s.symbols }

-- the fault's offset in the file is a number of 64 bits
abbrev pub IsPlaced : ℕ → StreamError → Type 0
IsPlaced start faults.NoMemory = Unit {0}
IsPlaced start (faults.BadStream offset) = start + offset < 2 ^ 64

abbrev pub placed_error : ℕ → StreamError → ObjectError
placed_error start faults.NoMemory = errors.NoMemory
placed_error start (faults.BadStream offset) = errors.Fault (BadStream (start + offset))

-- the sections spell what the streams hold, a well formed module first
pub record AreStreams (ss : List OwnSection) (s : Streams) : Type 0 where
  pub stated : IsStated s.source
  pub fit : FitSummaries s.source s.summaries
  pub declarations : part 1 ss ≡ decls_of s.source
  pub spelled_bodies : part 2 ss ≡ bodies_bytes (bodies_of s.source.functions)
  pub spelled_summaries : part 3 ss ≡ summaries_bytes s.summaries
  pub spelled_symbols : part 4 ss ≡ symbols_bytes s.symbols
  pub lent : map (λ b. b.now) s.bodies.items ≡ map body_of (bodies_of s.source.functions)
