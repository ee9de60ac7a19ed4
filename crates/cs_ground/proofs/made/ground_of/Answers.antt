use Rattle.std.proofs.Common.{vec_len, length, map, sym, ◌∙◌, ap, subst}
use Rattle.vx_terms.specs.Views.{term}
use Rattle.cs_derivation.specs.View.{reached}
use Rattle.cs_proof.specs.Fits.{seen}
use Rattle.cs_ground.specs.Steps.{Collects, IsWanted}
use Rattle.cs_ground.proofs.Lists.{counted}
use Rattle.cs_ground.proofs.Naming.{begins_naming}
use Rattle.cs_ground.proofs.Whole.{all_sorted, begins_clausal, ground_is}
use Rattle.cs_ground.proofs.made.ground_of.Goals as goal

pub returns : goal.returns
returns c = λ formed.
    let stack = seen c.args.stack.now in
    let r = reached c.in_ok-derivation.derivation in
    let q = reached c.in_ok-derivation-2.derivation in
    let o = reached c.add_clauses.new.derivation in
    let aliases = c.in_ok-derivation-2.aliases.items in
    let count = c.len-count.result in
    let new = c.in_ok-derivation.ensures stack (ap (map (λ x. term x.value)) (sym c.deref.ensures.value)) (all_sorted stack formed) in
    let named = c.in_ok-derivation-2.ensures stack (begins_naming stack r formed new) in
    let clauses = subst (λ xs. Collects stack (IsWanted c.len-assertions.result (length q.terms) count xs) q o) c.deref-2.ensures.value (c.in_ok-add_clauses.ensures stack (begins_clausal stack q formed (named.more).naming)) in
    ground_is stack r q o count aliases new named
    (subst (λ n. Collects stack (IsWanted n (length q.terms) count aliases) q o) (c.len-assertions.ensures ∙ counted (λ x. term x.value) c.args.stack.now.assertions) clauses)
    (c.len-count.ensures ∙ ap (λ n. vec_len n.terms) c.terms.ensures ∙ counted (λ x. term x.value) c.in_ok-derivation.derivation.terms.terms)
