use Rattle.std.proofs.Common.{◌≡◌, ◌≤◌, take, vec_len}
use Rattle.std.specs.Prelude.{IfSome, All}
use Rattle.whopr_top.specs.declared.top.TheConstants.{FILE_BYTES}
use Rattle.whopr_top.specs.Reads.{AreHeld, contents_of}
use Rattle.whopr_top.proofs.reads.read_files.Given as goal

abbrev pub invariant-loop-name : goal.invariant-loop-name
invariant-loop-name g l = record {
  unchanged : g.F.FileStore.held l.files ≡ g.F.FileStore.held l.fn.files;
  never_falls : g.F.FileStore.faults l.fn.files ≤ g.F.FileStore.faults l.files;
  count : vec_len l.contents ≡ l.name-index;
  within : All (λ bytes. vec_len bytes ≤ FILE_BYTES) l.contents.items;
  held : IfSome (g.F.FileStore.held l.fn.files) (λ held. AreHeld FILE_BYTES held (take l.name-index l.names) (contents_of l.contents.items));
}
