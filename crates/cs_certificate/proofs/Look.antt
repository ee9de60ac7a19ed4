-- What look-up says.
use Rattle.cs_certificate.specs.Laws.{LooksUp, TellsEqualities}
use Rattle.cs_certificate.proofs.Find.{found, finds}
use Rattle.cs_certificate.proofs.Equalities.{told, tells}

pub looks_up : LooksUp
looks_up nodes terms r h ps k = (
  λ e. let f = found nodes terms r h ps k e in (f.0, f.1, (f.2).its_head, (f.2).its_parts),
  λ (t, at, is, over). finds nodes terms r h ps k t at record { its_head = is; its_parts = over },
)

pub tells_equalities : TellsEqualities
tells_equalities nodes s r a b t u p q k = (told nodes s r a b t u p q k, λ (e, at, h). tells nodes s r a b t u p q k e at h)
