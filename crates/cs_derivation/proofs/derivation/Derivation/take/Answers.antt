use Rattle.cs_proof.specs.Views.{written}
use Rattle.cs_derivation.specs.View.{reached}
use Rattle.cs_derivation.proofs.Adding.{adds}
use Rattle.cs_derivation.proofs.derivation.Derivation.take.Goals as goal

pub returns : goal.returns
returns c = adds c.args.self.now (written c.args.step) (reached c.advance.new.self) c.advance.result c.advance.ensures
