use Rattle.std.proofs.Common.{◌≡◌, ◌+◌, ◌<◌, ◌≤◌, [], ◌∷◌, ◌++◌, length, drop, List, Option, None, sym, ◌∙◌, ap, ap₂, arith}
use Rattle.std.proofs.lemmas.List.{map-append, drop_all}
use Rattle.cs_certificate.specs.Certificate.{NumberedLiteral}
use Rattle.cs_certificate.specs.Steps.{denial, pairs}
use Rattle.cs_table.specs.declared.steps.Stop.{Stop}
use Rattle.cs_table.specs.declared.steps.Stop.TheVariants as stops
use Rattle.cs_table.specs.Table.{nodes_in}
use Rattle.cs_table.specs.Gives.{Fails, clause, numbered}
use Rattle.cs_table.proofs.Pairs.{joined, no_pairs, at_first, at_end, same_pair, other_pair, missing_pair}
use Rattle.cs_table.proofs.steps.pairs.Goals as goal
use Rattle.cs_table.proofs.steps.pairs.Goals.{then-x-y+in-Ok+in_ok-push-in-Ok, else-x-y}

fails_too : {X Y : Type 0} (stop : Stop) (o : Option X) (p : Option Y) → (o ≡ None → p ≡ None) → Fails stop o → Fails stop p
fails_too stops.Want o p f h = tt
fails_too stops.Miss o p f h = f h

pub returns-then-xs-ys : goal.returns-then-xs-ys
returns-then-xs-ys c = no_pairs (nodes_in c.args.all.now) c.args.xs.now c.args.ys.now c.if-xs-ys.true

pub loop-at-init : goal.loop-at-init
loop-at-init c =
    at_first (nodes_in c.args.all.now) c.args.xs.now c.args.ys.now
    ∙ ap (λ ls. joined (clause ls) (pairs (nodes_in c.args.all.now) c.args.xs.now c.args.ys.now)) (sym c.new-denials.ensures.items)

pub returns-in-Err : goal.returns-in-Err
returns-in-Err c =
    let ly : c.loop-at.at < length c.args.ys.now = omega arith in
    fails_too c.in-Err.stop _ _
    (λ e. c.loop-at.invariant ∙ missing_pair (nodes_in c.args.all.now) c.args.xs.now c.args.ys.now c.loop-at.at c.loop-at-test.true ly (clause c.loop-at.denials.items) c.if-x-y.true e)
    c.in-Err.ensures

pub loop-at-preserved : goal.loop-at-preserved
loop-at-preserved c =
    let ly : c.loop-at.at < length c.args.ys.now = omega arith in
    let more = λ (ls : List NumberedLiteral). joined ls (pairs (nodes_in c.args.all.now) (drop (c.loop-at.at + 1) c.args.xs.now) (drop (c.loop-at.at + 1) c.args.ys.now)) in
    elim c.if-x-y.branch [
      | then-x-y+in-Ok+in_ok-push-in-Ok w ↦ (
          let items : c.if-x-y.denials.items ≡ c.loop-at.denials.items ++ w.denial.result ∷ [] = ap (λ v. v.items) w.denials-is ∙ w.in_ok-push-in-Ok.ensures.items in
          let whole : clause c.if-x-y.denials.items ≡ clause c.loop-at.denials.items ++ denial w.in-Ok.equal ∷ [] =
          ap clause items ∙ map-append numbered c.loop-at.denials.items (w.denial.result ∷ []) ∙ ap (λ l. clause c.loop-at.denials.items ++ l ∷ []) w.denial.ensures in
          c.loop-at.invariant
          ∙ other_pair (nodes_in c.args.all.now) c.args.xs.now c.args.ys.now c.loop-at.at c.loop-at-test.true ly (clause c.loop-at.denials.items) w.in-Ok.equal w.if-x-y.true w.in-Ok.ensures
          ∙ ap more (sym whole))
      | else-x-y w ↦ (
          c.loop-at.invariant
          ∙ same_pair (nodes_in c.args.all.now) c.args.xs.now c.args.ys.now c.loop-at.at c.loop-at-test.true ly (clause c.loop-at.denials.items) w.if-x-y.false
          ∙ ap (λ v. more (clause v.items)) (sym w.denials-is))
    ]

pub returns : goal.returns
returns c =
    let ly : length c.args.ys.now ≤ c.loop-at.at = omega arith in
    c.loop-at.invariant
    ∙ ap (joined (clause c.loop-at.denials.items)) (ap₂ (pairs (nodes_in c.args.all.now)) (drop_all _ c.args.xs.now c.loop-at-test.false) (drop_all _ c.args.ys.now ly))
    ∙ at_end (clause c.loop-at.denials.items)
