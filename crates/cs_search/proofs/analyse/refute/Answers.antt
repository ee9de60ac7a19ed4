use Rattle.std.proofs.Common.{◌≡◌, length, ◌∙◌, arith}
use Rattle.cs_search.proofs.Analyses.{conflict_within, reduced_all}
use Rattle.cs_search.proofs.Settles.{some_at}
use Rattle.cs_search.proofs.Mets.{unwound_first, unwound_over}
use Rattle.cs_search.proofs.analyse.refute.Goals as goal

pub loop-k-init : goal.loop-k-init
loop-k-init c =
    let clauses = c.args.clauses.now in
    let made = c.args.made.now in
    let x = some_at clauses c.args.conflict (conflict_within clauses made.values.items (length made.trail.items) c.args.conflict c.requires.conflict) in
    let e : c.len-k.result ≡ length made.trail.items = c.len-k.ensures ∙ made.trail.ok.0 in
    let f = c.in_ok-found.ensures in
    record {
      within = omega (arith, e);
      unwound = unwound_over clauses made _ _ _ e (unwound_first clauses made c.args.conflict x.0 c.in_ok-found.found x.1 c.requires.conflict f.met (f.joined x.0 x.1) f.hints);
    }

pub returns : goal.returns
returns c = reduced_all c.args.clauses.now c.args.made.now.values.items c.loop-k.k _ _ c.loop-k-test.false c.loop-k.invariant.unwound.reduced
