use Rattle.std.proofs.Common.{◌≡◌, ◌+◌, ◌-◌, [], ◌∷◌, ◌++◌, length, map, ap, ◌∙◌}
use Rattle.std.proofs.lemmas.List.{map-append}
use Rattle.vx_terms.specs.Views.{term}
use Rattle.cs_reader.specs.Items.{with_front, items_for}
use Rattle.cs_reader.specs.Spelling.{part_at, spelled_at}
use Rattle.cs_reader.specs.Views.{scope}
use Rattle.cs_reader.proofs.Loops.{stops_here, ends_here, goes_on}
use Rattle.cs_reader.proofs.spell.+spelling.Goals as goal

pub parts-returns-in-Err : goal.parts-returns-in-Err
parts-returns-in-Err t c =
    stops_here (part_at (spelled_at (scope c.args.within.now) c.args.room)) _ (length c.args.tokens.now) c.loop-count.count c.loop-count.rest.now c.in-Err.stop _ c.loop-count-test.true c.loop-count.invariant c.in-Err.ensures

pub parts-returns-in-None : goal.parts-returns-in-None
parts-returns-in-None t c =
    let e = rw c.in-None.is at c.in-Ok.ensures in
    ends_here (part_at (spelled_at (scope c.args.within.now) c.args.room)) _ (length c.args.tokens.now) c.loop-count.count c.loop-count.rest.now _ _ c.loop-count-test.true c.loop-count.invariant e

pub parts-loop-count-preserved : goal.parts-loop-count-preserved
parts-loop-count-preserved t c =
    let e = rw c.in-Some.is at c.in-Ok.ensures in
    let p : c.push.new.self.items ≡ c.loop-count.found.items ++ c.in-Some.part ∷ [] = c.in_ok-push-in-Some.ensures.items in
    ap (λ xs. with_front xs (items_for (part_at (spelled_at (scope c.args.within.now) c.args.room)) (length c.args.tokens.now - (c.loop-count.count + 1)) c.in-Ok.behind.now))
    (ap (map (λ x. term x.value)) p ∙ map-append (λ x. term x.value) c.loop-count.found.items (c.in-Some.part ∷ []))
    ∙ goes_on (part_at (spelled_at (scope c.args.within.now) c.args.room)) _ (term c.in-Some.part.value) (length c.args.tokens.now) c.loop-count.count c.loop-count.rest.now _ _ c.loop-count-test.true c.loop-count.invariant e
