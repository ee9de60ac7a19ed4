use Rattle.std.proofs.Common.{rules, Vec, Global, vec_len, ◌≡◌, ◌<◌, ◌≤◌, ◌+◌, Bool, None, true, false, length, map, sym, ◌∙◌, ap, subst, arith}
use Rattle.std.specs.Prelude.{if◌then◌else◌}
use Rattle.std.specs.List.{list_any}
use Rattle.std.specs.Option.{option_map}
use Rattle.std.proofs.lemmas.List.{length-map}
use Rattle.cs_proof.specs.declared.prepare.Duty.{Duty}
use Rattle.cs_proof.specs.Views.{duty}
use Rattle.cs_proof.specs.Checking.{Checker, Finished, NotEmpty, closed, is_empty, refusal, verdict}
use Rattle.cs_proof.specs.CheckerView.{checker}
use Rattle.cs_proof.proofs.Verdicts.{verdict_stepped, at_end, refused_is, goes_on, same_duties}
use Rattle.std.proofs.lemmas.Grind.{common_steps}
use Rattle.cs_proof.proofs.checker.Checker.finish.Goals as goal

long : (v : Vec Duty Global) → vec_len v ≡ length v.items
long v = search rules

-- the verdict behind the last step, where none was refused
by_clauses : (c : Checker) (b : Bool) → length c.duties ≤ c.done → c.refusal ≡ None → list_any is_empty c.clauses ≡ b → verdict c ≡ (if b then Finished else NotEmpty)
by_clauses c b le none e = at_end c le ∙ ap (λ o. closed o c.clauses) none ∙ ap (λ t. if t then Finished else NotEmpty) e

pub returns-in-Err : goal.returns-in-Err
returns-in-Err c =
    sym c.loop-at.invariant.same ∙ sym (verdict_stepped (checker c.loop-at.self)) ∙ ap verdict (sym c.step.ensures.value) ∙ refused_is (checker c.step.new.self) (refusal c.in-Err.refusal) c.in-Err.ensures.refusal

pub loop-at-preserved : goal.loop-at-preserved
loop-at-preserved c =
    let before = checker c.loop-at.self in
    let as_many : length c.loop-at.self.duties.items ≡ length c.args.self.duties.items =
    sym (length-map c.loop-at.self.duties.items duty) ∙ ap length c.loop-at.invariant.duties ∙ length-map c.args.self.duties.items duty in
    let far : c.loop-at._at < length (map duty c.loop-at.self.duties.items) =
    (let a = c.loop-at-test.true in let b : c.len-at-end.result ≡ length c.args.self.duties.items = c.len-at-end.ensures ∙ long c.args.self.duties in let d = length-map c.loop-at.self.duties.items duty in omega arith) in
    record {
      same = ap verdict c.step.ensures.value ∙ verdict_stepped before ∙ c.loop-at.invariant.same;
      here = λ e.
          let g = goes_on before (λ f. subst (λ n. n < length (map duty c.loop-at.self.duties.items)) (sym (c.loop-at.invariant.here f)) far) (sym (ap (λ x. x.refusal) c.step.ensures.value) ∙ e) in
          ap (λ x. x.done) c.step.ensures.value ∙ g.one_more ∙ ap (λ n. n + 1) (c.loop-at.invariant.here g.before);
      duties = ap (λ x. x.duties) c.step.ensures.value ∙ same_duties before ∙ c.loop-at.invariant.duties;
    }

pub returns-in-Some : goal.returns-in-Some
returns-in-Some c = sym c.loop-at.invariant.same ∙ refused_is (checker c.loop-at.self) (refusal c.in-Some.refusal) (ap (option_map refusal) c.in-Some.is)

pub returns-then-has_empty : goal.returns-then-has_empty
returns-then-has_empty c =
    let self = checker c.loop-at.self in
    let none : c.loop-at.self.refusal ≡ None = grind (arith, common_steps) in
    let quiet : self.refusal ≡ None = ap (option_map refusal) none in
    let as_many : length self.duties ≡ length c.args.self.duties.items = ap length c.loop-at.invariant.duties ∙ length-map c.args.self.duties.items duty in
    let all : length self.duties ≤ self.done =
    (let a = c.loop-at-test.false in let b : c.len-at-end.result ≡ length c.args.self.duties.items = c.len-at-end.ensures ∙ long c.args.self.duties in let d = c.loop-at.invariant.here quiet in omega arith) in
    sym c.loop-at.invariant.same ∙ by_clauses self true all quiet (ap (list_any is_empty) (sym c.deref.ensures.value) ∙ sym c.has_empty.ensures ∙ c.if-has_empty.true)

pub returns : goal.returns
returns c =
    let self = checker c.loop-at.self in
    let none : c.loop-at.self.refusal ≡ None = grind (arith, common_steps) in
    let quiet : self.refusal ≡ None = ap (option_map refusal) none in
    let as_many : length self.duties ≡ length c.args.self.duties.items = ap length c.loop-at.invariant.duties ∙ length-map c.args.self.duties.items duty in
    let all : length self.duties ≤ self.done =
    (let a = c.loop-at-test.false in let b : c.len-at-end.result ≡ length c.args.self.duties.items = c.len-at-end.ensures ∙ long c.args.self.duties in let d = c.loop-at.invariant.here quiet in omega arith) in
    sym c.loop-at.invariant.same ∙ by_clauses self false all quiet (ap (list_any is_empty) (sym c.deref.ensures.value) ∙ sym c.has_empty.ensures ∙ c.if-has_empty.false)
