use Rattle.cs_certificate.proofs.Look.{looks_up, tells_equalities}
use Rattle.cs_certificate.proofs.numbers_name_terms.Goals as goal

pub returns : goal.returns
returns c = record { look_up = looks_up; equalities = tells_equalities }
