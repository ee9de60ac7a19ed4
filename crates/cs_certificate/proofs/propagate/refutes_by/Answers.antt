use Rattle.std.proofs.Common.{◌<◌, [], ◌∷◌, ◌++◌, take, refl, sym, ◌∙◌, ap, subst}
use Rattle.std.specs.Prelude.{All}
use Rattle.std.proofs.lemmas.List.{take_more, take_all}
use Rattle.std.proofs.lemmas.List.Elements.{All-get_or}
use Rattle.cs_certificate.specs.declared.literal.Left.TheVariants.{Nothing, One, Many}
use Rattle.cs_certificate.specs.Hints.{denied}
use Rattle.cs_certificate.specs.Marks.{flip, IsBelow, terms_in}
use Rattle.cs_certificate.proofs.Hints.{missing, leaves}
use Rattle.cs_certificate.proofs.Marked.{marked_more, found_is, within}
use Rattle.cs_certificate.proofs.propagate.refutes_by.Goals as goal

pub loop-literal-init : goal.loop-literal-init
loop-literal-init c = record { marked = λ l. c.begin.ensures.clear (flip l); terms = c.begin.ensures.terms; rounds = c.begin.ensures.rounds }

pub loop-literal-preserved : goal.loop-literal-preserved
loop-literal-preserved c =
    let i = c.loop-literal.invariant in
    let m = marked_more c.loop-literal.marks c.mark.new.self (take c.loop-literal.literal-index c.args.assumed.now) _ i.marked c.mark.ensures.marked in
    record {
      marked = λ l. m l ∙ ap (λ xs. denied xs l) (sym (take_more c.args.assumed.now c.loop-literal.literal-index _ c.loop-literal-test.true));
      terms = c.mark.ensures.terms ∙ i.terms;
      rounds = c.mark.ensures.rounds ∙ i.rounds;
    }

pub loop-hint-init : goal.loop-hint-init
loop-hint-init c =
    let i = c.loop-literal.invariant in
    record { known = c.args.assumed.now; marked = λ l. i.marked l ∙ ap (λ xs. denied xs l) (take_all _ c.args.assumed.now c.loop-literal-test.false); same = refl; terms = i.terms; rounds = i.rounds }

pub returns-then-at-clauses-clause-value : goal.returns-then-at-clauses-clause-value
returns-then-at-clauses-clause-value c = sym (c.loop-hint.invariant.same ∙ missing _ _ _ c.loop-hint.hint-index _ c.loop-hint-test.true refl c.if-at-clauses.true)

pub returns-in-Nothing-clause-value : goal.returns-in-Nothing-clause-value
returns-in-Nothing-clause-value c =
    let i = c.loop-hint.invariant in
    let e = ap (λ x. x.literals.items) c.index-clauses-at.is ∙ sym c.deref.ensures.value in
    let f = found_is c.loop-hint.marks i.known _ _ c.left_of.result Nothing i.marked e c.left_of.ensures c.in-Nothing.is in
    sym (i.same ∙ leaves _ _ _ c.loop-hint.hint-index _ c.index-clauses-at.result Nothing c.loop-hint-test.true refl c.if-at-clauses.false c.index-clauses-at.is f)

pub returns-in-Many-clause-value : goal.returns-in-Many-clause-value
returns-in-Many-clause-value c =
    let i = c.loop-hint.invariant in
    let e = ap (λ x. x.literals.items) c.index-clauses-at.is ∙ sym c.deref.ensures.value in
    let f = found_is c.loop-hint.marks i.known _ _ c.left_of.result Many i.marked e c.left_of.ensures c.in-Many.is in
    sym (i.same ∙ leaves _ _ _ c.loop-hint.hint-index _ c.index-clauses-at.result Many c.loop-hint-test.true refl c.if-at-clauses.false c.index-clauses-at.is f)

pub mark-requires-in-One : goal.mark-requires-in-One
mark-requires-in-One c =
    let i = c.loop-hint.invariant in
    let e = ap (λ x. x.literals.items) c.index-clauses-at.is ∙ sym c.deref.ensures.value in
    let f = found_is c.loop-hint.marks i.known _ _ c.left_of.result (One c.in-One.literal) i.marked e c.left_of.ensures c.in-One.is in
    let all = All-get_or (λ x. All (IsBelow (terms_in c.args.marks.now)) x.literals.items) c.args.clauses.now _ c.index-clauses-at.result c.if-at-clauses.false c.requires.clauses in
    subst (λ n. c.in-One.literal.number < n) (sym i.terms)
    (within (terms_in c.args.marks.now) i.known _ c.in-One.literal f (subst (λ x. All (IsBelow (terms_in c.args.marks.now)) x.literals.items) (sym c.index-clauses-at.is) all))

pub loop-hint-preserved : goal.loop-hint-preserved
loop-hint-preserved c =
    let i = c.loop-hint.invariant in
    let e = ap (λ x. x.literals.items) c.index-clauses-at.is ∙ sym c.deref.ensures.value in
    let f = found_is c.loop-hint.marks i.known _ _ c.left_of.result (One c.in-One.literal) i.marked e c.left_of.ensures c.in-One.is in
    record {
      known = i.known ++ c.in-One.literal ∷ [];
      marked = marked_more c.loop-hint.marks c.mark-in-One.new.self i.known c.in-One.literal i.marked c.mark-in-One.ensures.marked;
      same = i.same ∙ leaves _ _ _ c.loop-hint.hint-index _ c.index-clauses-at.result (One c.in-One.literal) c.loop-hint-test.true refl c.if-at-clauses.false c.index-clauses-at.is f;
      terms = c.mark-in-One.ensures.terms ∙ i.terms;
      rounds = c.mark-in-One.ensures.rounds ∙ i.rounds;
    }
