use Rattle.follow_laws.proofs.EncodingLaws.{all_append, constant_encodes, load_encodes, store_encodes, call_encodes, enter_encodes, leave_encodes, stubs_encode}
use Rattle.follow_laws.proofs.encodings.Goals as goal

pub returns : goal.returns
returns c = record {
  constant = constant_encodes;
  load = load_encodes;
  store = store_encodes;
  call = call_encodes;
  enter = enter_encodes;
  leave = leave_encodes;
  stubs = stubs_encode;
  both = all_append;
}
