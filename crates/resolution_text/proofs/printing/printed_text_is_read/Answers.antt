use Rattle.resolution_text.proofs.Printed.{text_of-read}
use Rattle.resolution_text.proofs.printing.printed_text_is_read.Goals as goal

pub returns : goal.returns
returns c = text_of-read
