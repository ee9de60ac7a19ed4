use Rattle.cs_text.proofs.Certificates.{read_back}
use Rattle.cs_text.proofs.laws.written_is_read_back.Goals as goal

pub returns : goal.returns
returns c = read_back
