use Rattle.std.proofs.Common.{◌≡◌, ℕ, ◌+◌, ◌<◌, List, [], ◌∷◌, ◌++◌, length, get_or, drop, Option, Some, None, refl, sym, ◌∙◌, ap, append_assoc, append-nil, arith}
use Rattle.std.specs.Prelude.{slice_get}
use Rattle.std.proofs.lemmas.List.{at_drop_more, drop_all, map-append}
use Rattle.std.proofs.lemmas.Grind.{common_steps}
use Rattle.cs_certificate.specs.Certificate.{NumberedLiteral}
use Rattle.cs_certificate.specs.Nodes.{Node, equality}
use Rattle.cs_certificate.specs.Steps.{◌>>=◌, denial, links}
use Rattle.cs_table.specs.Table.{nodes_in}
use Rattle.cs_table.specs.Gives.{clause, numbered}
use Rattle.cs_table.proofs.steps.links.Invariants.{with_front}
use Rattle.cs_table.proofs.steps.links.Goals as goal

front_front : (ls : List NumberedLiteral) (l : NumberedLiteral) (o : Option (List NumberedLiteral × ℕ)) → with_front ls (with_front (l ∷ []) o) ≡ with_front (ls ++ l ∷ []) o
front_front ls l None = refl
front_front ls l (Some r) = ap (λ ys. Some (ys, r.1)) (sym (append_assoc ls (l ∷ []) r.0))

unrolled : (ns : List Node) (a : ℕ) (ts : List ℕ) (k : ℕ) (n : Node) (e : ℕ) → k < length ts → slice_get ns (get_or ts k 0) ≡ Some n → equality ns a (get_or ts k 0) ≡ Some e →
    links ns a (drop k ts) ≡ with_front (denial e ∷ []) (links ns (get_or ts k 0) (drop (k + 1) ts))
unrolled ns a ts k n e lt is eq =
    at_drop_more (links ns a) ts k 0 lt
    ∙ ap (λ o. o >>= λ m. equality ns a (get_or ts k 0) >>= λ x. links ns (get_or ts k 0) (drop (k + 1) ts) >>= λ r. Some (denial x ∷ r.0, r.1)) is
    ∙ ap (λ o. o >>= λ x. links ns (get_or ts k 0) (drop (k + 1) ts) >>= λ r. Some (denial x ∷ r.0, r.1)) eq

one_more : (ns : List Node) (ls : List NumberedLiteral) (a : ℕ) (ts : List ℕ) (k : ℕ) (n : Node) (e : ℕ) (r : Option (List NumberedLiteral × ℕ))
    → k < length ts → slice_get ns (get_or ts k 0) ≡ Some n → equality ns a (get_or ts k 0) ≡ Some e → with_front ls (links ns a (drop k ts)) ≡ r
    → with_front (ls ++ denial e ∷ []) (links ns (get_or ts k 0) (drop (k + 1) ts)) ≡ r
one_more ns ls a ts k n e r lt is eq h =
    sym (front_front ls (denial e) (links ns (get_or ts k 0) (drop (k + 1) ts))) ∙ ap (with_front ls) (sym (unrolled ns a ts k n e lt is eq)) ∙ h

pub loop-term-preserved : goal.loop-term-preserved
loop-term-preserved c =
    ap (λ ls. with_front ls (links (nodes_in c.args.all.now) (get_or c.args.terms.now c.loop-term.term-index 0) (drop (c.loop-term.term-index + 1) c.args.terms.now)))
    (ap clause c.in_ok-push.ensures.items ∙ map-append numbered c.loop-term.denials.items (c.denial.result ∷ [])
    ∙ ap (λ l. clause c.loop-term.denials.items ++ l ∷ []) c.denial.ensures)
    ∙ one_more (nodes_in c.args.all.now) (clause c.loop-term.denials.items) c.loop-term.last c.args.terms.now c.loop-term.term-index _ c.in_ok-equal.equal _ c.loop-term-test.true
    c.in_ok-node_at.ensures c.in_ok-equal.ensures c.loop-term.invariant

pub returns-in_err-node_at : goal.returns-in_err-node_at
returns-in_err-node_at c = grind (arith, common_steps)

pub returns-in_err-equal : goal.returns-in_err-equal
returns-in_err-equal c = grind (arith, common_steps)

pub returns : goal.returns
returns c =
    sym (
    ap (λ ts. with_front (clause c.loop-term.denials.items) (links (nodes_in c.args.all.now) c.loop-term.last ts)) (sym (drop_all _ c.args.terms.now c.loop-term-test.false)) ∙ c.loop-term.invariant
    )
    ∙ ap (λ ls. Some (ls, c.loop-term.last)) (append-nil (clause c.loop-term.denials.items))
