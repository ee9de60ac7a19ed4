use Rattle.std.proofs.Common.{◌≡◌, ◌∙◌, ℕ, suc, ◌<◌, ◌-◌, List, ◌∷◌, length, drop, map, get_or, HashMap, sym, ap, subst, arith}
use Rattle.std.proofs.Math.Seq.{drop-cons}
use Rattle.vx_ast.specs.Syntax.{Program}
use Rattle.vx_resolved.specs.Resolved.{member}
use Rattle.vx_resolved.specs.Numbers.{Key, AreNumbers}
use Rattle.vx_resolved.proofs.numbers.member_numbers.Goals as goal

one_before : {S : Type 0} (old : HashMap Key ℕ S) (new : HashMap Key ℕ S) (j : ℕ) (k : ℕ) (all : List _) (m : _) → suc j ≡ k → j < length all → m ≡ get_or all j m → AreNumbers old k (map member (drop k all)) →
    ((ms : Program) → AreNumbers old (suc j) ms → AreNumbers new j (member m ∷ ms)) → AreNumbers new j (map member (drop j all))
one_before old new j k all m next within is before step =
    subst (λ xs. AreNumbers new j (map member xs)) (sym (drop-cons all j m within ∙ ap (λ x. x ∷ drop (suc j) all) (sym is)))
    (step (map member (drop (suc j) all)) (subst (λ n. AreNumbers old n (map member (drop n all))) (sym next) before))

pub loop-left-preserved : goal.loop-left-preserved
loop-left-preserved c = record {
  within = omega arith;
  numbers =
      one_before c.loop-left.numbers c.add_first.new.numbers (c.loop-left.left - 1) c.loop-left.left c.args.all.now c.index-all-left.result (omega arith) (omega arith) c.index-all-left.is c.loop-left.invariant.numbers
      c.in_ok-add_first.ensures;
}
