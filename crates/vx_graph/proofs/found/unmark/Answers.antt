use Rattle.std.proofs.Common.{◌≡◌, ◌<◌, ◌∙◌, ◌&&◌, sym, subst, length, get_or, ℕ}
use Rattle.std.specs.Prelude.{not}
use Rattle.std.proofs.lemmas.List.{get_or_default, length-set, take_all}
use Rattle.std.proofs.lemmas.List.Elements.{All-get_or}
use Rattle.vx_ast.specs.declared.MemberId.{MemberId}
use Rattle.vx_graph.specs.Listed.{is_in, is_marked}
use Rattle.vx_graph.proofs.Marks.{unset_more}
use Rattle.vx_graph.proofs.found.unmark.Goals as goal

pub loop-m-preserved : goal.loop-m-preserved
loop-m-preserved c =
    let old = c.args.marks.now.items in
    let now = c.loop-m.marks.items in
    let ms = c.args.members.now in
    let i = c.loop-m.m-index in
    let m : MemberId = get_or ms i record { 0 = 0 } in
    let below : m.0 < length old = All-get_or (λ (k : MemberId). k.0 < length old) ms i record { 0 = 0 } c.loop-m-test.true c.requires in
    record {
      members = length-set now m.0 _ ∙ c.loop-m.invariant.members;
      marks = unset_more old now ms i m c.loop-m-test.true (get_or_default ms i _ _ c.loop-m-test.true) (subst (λ k. m.0 < k) (sym c.loop-m.invariant.members) below) c.loop-m.invariant.marks;
    }

pub returns-clause-marks : goal.returns-clause-marks
returns-clause-marks c = subst (λ ms. (n : ℕ) → is_marked c.loop-m.marks.items n ≡ (is_marked c.args.marks.now.items n && not (is_in ms n))) (take_all c.loop-m.m-index c.args.members.now c.loop-m-test.false) c.loop-m.invariant.marks
