use Rattle.std.proofs.Common.{sym, subst}
use Rattle.cs_cong.specs.declared.explain.Derived.TheVariants.{Path}
use Rattle.cs_cong.specs.Needed.{HasPath}
use Rattle.cs_cong.proofs.Explaining.{has_path}
use Rattle.cs_cong.proofs.merges.Merges.add_path.Goals as goal

pub returns : goal.returns
returns c =
    subst (HasPath c.args.self.now.log.items c.args.time c.args.a c.args.b c.args.steps.now.items) (sym c.in_ok-push.ensures.items)
    (has_path c.args.self.now.log.items c.args.time c.args.a c.args.b c.requires.joined c.args.steps.now.items (Path c.in_ok-terms.terms) c.in_ok-terms.ensures)
