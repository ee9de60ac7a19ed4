use Rattle.std.proofs.Common.{rules, List, sym, ◌∙◌, ap, subst}
use Rattle.std.specs.List.{All}
use Rattle.cs_table.specs.Table.{nodes_in}
use Rattle.cs_proof.specs.Fits.{seen}
use Rattle.cs_derivation.specs.View.{reached}
use Rattle.cs_search.specs.declared.Value.{Value}
use Rattle.cs_search.specs.Search.{IsSolved}
use Rattle.cs_ground.specs.Assigned.{AreSolving}
use Rattle.cs_ground.specs.Atoms.{AreBool, AreAtoms, literals}
use Rattle.cs_ground.specs.Replayed.{Follows}
use Rattle.cs_ground.proofs.Begun.{are_bool, follows, solves, from_none}
use Rattle.cs_ground.proofs.settled.answered.Goals as goal

pub returns-in_err-search : goal.returns-in_err-search
returns-in_err-search c = λ plain g.
    let r = reached c.args.ground.derivation in
    let a = c.in_ok-atoms.atoms in
    let are : AreAtoms r.nodes a.terms.items a.places.items = subst (λ t. AreAtoms (nodes_in t) a.terms.items a.places.items) c.nodes.ensures c.in_ok-atoms.ensures in
    let h = c.in_err-search.ensures.found r.nodes are (subst (λ cs. All (AreBool r.nodes) (literals cs)) (sym c.clauses.ensures) (are_bool (seen c.args.stack.now) r c.args.ground.count g)) in
    search rules

pub returns-in_err-steps-in-Refuted : goal.returns-in_err-steps-in-Refuted
returns-in_err-steps-in-Refuted c = λ plain g.
    let r = reached c.args.ground.derivation in
    let stack = seen c.args.stack.now in
    let a = c.in_ok-atoms.atoms in
    let s = c.in_ok-search.search in
    let n = c.solved.new.search in
    let made = c.in_ok-search.ensures in
    let ended = c.in_ok-last.ensures in
    let are : AreAtoms r.nodes a.terms.items a.places.items = subst (λ t. AreAtoms (nodes_in t) a.terms.items a.places.items) c.nodes.ensures c.in_ok-atoms.ensures in
    let f = follows stack r c.args.ground.count g a.terms.items a.places.items are s made.ready made.count (made.same ∙ ap literals c.clauses.ensures) in
    let h = c.in_err-steps-in-Refuted.ensures stack s.clauses.items (subst (λ ns. Follows stack ns (literals s.clauses.items) r) (sym c.deref.ensures.value) f) (from_none s n.clauses.items n.steps.items made.steps ended.learns)
    (subst (IsSolved n.clauses.items n.made.values.items) c.in-Refuted.is ended.solved) in
    search rules

pub returns-in_ok-steps-in-Refuted : goal.returns-in_ok-steps-in-Refuted
returns-in_ok-steps-in-Refuted c = λ plain g.
    let r = reached c.args.ground.derivation in
    let stack = seen c.args.stack.now in
    let a = c.in_ok-atoms.atoms in
    let s = c.in_ok-search.search in
    let n = c.solved.new.search in
    let made = c.in_ok-search.ensures in
    let ended = c.in_ok-last.ensures in
    let are : AreAtoms r.nodes a.terms.items a.places.items = subst (λ t. AreAtoms (nodes_in t) a.terms.items a.places.items) c.nodes.ensures c.in_ok-atoms.ensures in
    let f = follows stack r c.args.ground.count g a.terms.items a.places.items are s made.ready made.count (made.same ∙ ap literals c.clauses.ensures) in
    let h = c.in_ok-steps-in-Refuted.ensures stack s.clauses.items (subst (λ ns. Follows stack ns (literals s.clauses.items) r) (sym c.deref.ensures.value) f) (from_none s n.clauses.items n.steps.items made.steps ended.learns)
    (subst (IsSolved n.clauses.items n.made.values.items) c.in-Refuted.is ended.solved) in
    h

pub returns-in_err-model-in-Assigned : goal.returns-in_err-model-in-Assigned
returns-in_err-model-in-Assigned c = λ plain g.
    let r = reached c.args.ground.derivation in
    let stack = seen c.args.stack.now in
    let a = c.in_ok-atoms.atoms in
    let s = c.in_ok-search.search in
    let n = c.solved.new.search in
    let made = c.in_ok-search.ensures in
    let ended = c.in_ok-last.ensures in
    let are : AreAtoms r.nodes a.terms.items a.places.items = subst (λ t. AreAtoms (nodes_in t) a.terms.items a.places.items) c.nodes.ensures c.in_ok-atoms.ensures in
    let f = follows stack r c.args.ground.count g a.terms.items a.places.items are s made.ready made.count (made.same ∙ ap literals c.clauses.ensures) in
    let sol = solves stack r c.args.ground.count g a.terms.items a.places.items are s made.ready made.count n.steps.items n.clauses.items n.made.values.items ended.learns (subst (IsSolved n.clauses.items n.made.values.items) c.in-Assigned.is ended.solved) in
    let h = c.in_err-model-in-Assigned.ensures s.clauses.items plain g are f (subst (λ (vs : List Value). AreSolving a.terms.items s.clauses.items vs) (sym c.deref-in-Assigned.ensures.value) sol) in
    search rules

pub returns-in_ok-model-in-Assigned : goal.returns-in_ok-model-in-Assigned
returns-in_ok-model-in-Assigned c = λ plain g.
    let r = reached c.args.ground.derivation in
    let stack = seen c.args.stack.now in
    let a = c.in_ok-atoms.atoms in
    let s = c.in_ok-search.search in
    let n = c.solved.new.search in
    let made = c.in_ok-search.ensures in
    let ended = c.in_ok-last.ensures in
    let are : AreAtoms r.nodes a.terms.items a.places.items = subst (λ t. AreAtoms (nodes_in t) a.terms.items a.places.items) c.nodes.ensures c.in_ok-atoms.ensures in
    let f = follows stack r c.args.ground.count g a.terms.items a.places.items are s made.ready made.count (made.same ∙ ap literals c.clauses.ensures) in
    let sol = solves stack r c.args.ground.count g a.terms.items a.places.items are s made.ready made.count n.steps.items n.clauses.items n.made.values.items ended.learns (subst (IsSolved n.clauses.items n.made.values.items) c.in-Assigned.is ended.solved) in
    let h = c.in_ok-model-in-Assigned.ensures s.clauses.items plain g are f (subst (λ (vs : List Value). AreSolving a.terms.items s.clauses.items vs) (sym c.deref-in-Assigned.ensures.value) sol) in
    h
