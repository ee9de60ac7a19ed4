use Rattle.std.proofs.Common.{◌≡◌, ◌≤◌, ◌+◌, ◌-◌, length, ◌∙◌, arith}
use Rattle.std.proofs.lemmas.Option.{slice_get_within}
use Rattle.std.proofs.lemmas.Result.{IfOk-weaker}
use Rattle.cs_search.proofs.Analyses.{learned_later, conflict_within, false_later}
use Rattle.cs_search.proofs.Settles.{some_at}
use Rattle.cs_search.proofs.Mets.{walked_first, walked_over}
use Rattle.cs_search.proofs.analyse.analyse.Goals as goal

pub loop-k-init : goal.loop-k-init
loop-k-init c =
    let clauses = c.args.clauses.now in
    let made = c.args.made.now in
    let x = some_at clauses c.args.conflict (conflict_within clauses made.values.items (length made.trail.items) c.args.conflict c.requires.conflict) in
    let e : c.len-k.result ≡ length made.trail.items = c.len-k.ensures ∙ made.trail.ok.0 in
    let f = c.in_ok-found.ensures in
    let d = c.requires.decision.decision in
    let within = slice_get_within made.trail.items c.args.start d.0 d.1 in
    record {
      above = omega (arith, e, within);
      within = omega (arith, e);
      walked = walked_over clauses made c.args.start _ _ _ e (walked_first clauses made c.args.start c.args.conflict x.0 c.in_ok-found.found x.1 c.requires.conflict c.requires.closed f.met (f.joined x.0 x.1) f.hints);
    }

pub returns-in-Some : goal.returns-in-Some
returns-in-Some c =
    let made = c.args.made.now in
    let k = c.loop-k.k - 1 in
    let le : k + 1 ≤ length made.trail.items = let x = c.loop-k.invariant.within in let y = c.loop-k-test.true in omega arith in
    IfOk-weaker c.finish.result _ _ (λ l h. learned_later c.args.clauses.now made.values.items c.args.start (k + 1) (length made.trail.items) l.literals.items l.hints.items l.forced le h) c.finish.ensures

pub unreachable-requires : goal.unreachable-requires
unreachable-requires c = c.loop-k.invariant.walked.resolved.later (false_later c.args.made.now.values.items c.loop-k.k c.args.start _ c.loop-k-test.false c.loop-k.invariant.walked.resolved.false)
