use Rattle.std.proofs.Common.{◌≡◌, map, sym, ◌∙◌, ap, subst}
use Rattle.vx_terms.specs.Views.{term}
use Rattle.cs_certificate.specs.Terms.{numbered, parts_of}
use Rattle.cs_proof.specs.Fits.{seen}
use Rattle.cs_table.specs.Table.{nodes_in}
use Rattle.cs_numbers.specs.Listed.{terms_in}
use Rattle.cs_numbers.proofs.Added.{added_distinct}
use Rattle.cs_derivation.specs.View.{reached}
use Rattle.cs_tables.specs.Told.{Tells}
use Rattle.cs_ground.specs.Assigned.{is_true, AreClasses}
use Rattle.cs_ground.proofs.Solved.{assignment, assigned, tells}
use Rattle.cs_ground.proofs.models.model_of.Goals as goal

pub returns : goal.returns
returns c = λ clauses plain g are f sol.
    let stack = seen c.args.stack.now in
    let r = reached c.args.ground.now.derivation in
    let truths = c.in_ok-truths.truths.items in
    let classes = c.in_ok-classes.classes.items in
    let told : truths ≡ map (is_true c.args.values.now) c.args.atoms.now.places.items = c.in_ok-truths.ensures ∙ ap (map (is_true c.args.values.now)) c.deref.ensures.value in
    let by : AreClasses r.nodes truths c.args.ground.now.count classes =
    subst (λ ts. AreClasses r.nodes ts c.args.ground.now.count classes) c.deref-2.ensures.value (subst (λ t. AreClasses (nodes_in t) c.deref-2.result.now c.args.ground.now.count classes) c.nodes.ensures c.in_ok-classes.ensures) in
    let is = assigned stack r c.args.ground.now.count g c.args.atoms.now.terms.items c.args.atoms.now.places.items are clauses f c.args.values.now sol truths told classes by plain c.satisfied_assigns.ensures.equivalence c.satisfied_assigns.ensures.assigns in
    let tell = tells stack r c.args.ground.now.count g c.args.atoms.now.terms.items c.args.atoms.now.places.items are clauses f c.args.values.now sol truths told classes by in
    let terms : terms_in c.in_ok-terms.terms ≡ numbered stack.assertions = c.in_ok-terms.ensures ∙ added_distinct (parts_of (map (λ x. term x.value) c.deref-3.result.now)) ∙ ap (λ xs. numbered (map (λ x. term x.value) xs)) c.deref-3.ensures.value in
    c.tables_of.ensures.models stack.assertions (assignment r.terms truths classes) terms is
    (subst (λ ts. Tells (numbered stack.assertions) ts c.deref-5.result.now (assignment r.terms truths classes)) (sym c.deref-4.ensures.value) (subst (λ cs. Tells (numbered stack.assertions) truths cs (assignment r.terms truths classes)) (sym c.deref-5.ensures.value) tell))
