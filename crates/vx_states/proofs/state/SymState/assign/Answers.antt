use Rattle.std.proofs.Common.{◌≡◌, map, subst, sym, ap, ◌∙◌, arith, Some, None, refl}
use Rattle.std.specs.Prelude.{string_bytes, slice_set, slice_index_or}
use Rattle.std.proofs.Math.ListN.{get_or-map}
use Rattle.vx_ast.specs.Syntax.{Name}
use Rattle.vx_terms.specs.Terms.{Term}
use Rattle.vx_states.specs.declared.state.Binding.{Binding}
use Rattle.std.proofs.lemmas.List.{map-set, length-map}
use Rattle.vx_heap.specs.Views.{held_term}
use Rattle.vx_rules.specs.States.{Store, assign, with_store}
use Rattle.vx_states.specs.SymStates.{binding, state}
use Rattle.vx_states.proofs.Stores.{Assigned, assigned}
use Rattle.vx_states.proofs.state.SymState.assign.Goals as goal

pub index_mut-requires : goal.index_mut-requires
index_mut-requires c =
    let x = string_bytes c.args.name.now.value in
    let t = held_term c.args.t in
    let s : Store = map binding c.args.self.now.store.items in
    let h : Assigned x t s (Some c.in-Some.k) = subst (Assigned x t s) (sym c.find.ensures ∙ c.in-Some.is) (assigned x t s) in
    omega (arith, h.0, length-map c.args.self.now.store.items binding, c.args.self.now.store.ok.0)

pub returns-in-Some : goal.returns-in-Some
returns-in-Some c =
    let x = string_bytes c.args.name.now.value in
    let t = held_term c.args.t in
    let s : Store = map binding c.args.self.now.store.items in
    let h : Assigned x t s (Some c.in-Some.k) = subst (Assigned x t s) (sym c.find.ensures ∙ c.in-Some.is) (assigned x t s) in
    let items = c.args.self.now.store.items in
    let r : Binding = c.index_mut.result.now in
    let b : Binding = record { name = r.name; value = c.args.t } in
    let e1 : map binding (slice_set items c.in-Some.k b) ≡ slice_set s c.in-Some.k (binding b) = map-set binding items c.in-Some.k b in
    let e2 : slice_index_or s c.in-Some.k (binding r) ≡ binding r = get_or-map binding items c.in-Some.k r ∙ ap binding (sym c.index_mut.ensures.value) in
    let e3 : assign x t s ≡ slice_set s c.in-Some.k (binding b) = h.1 (binding r) ∙ ap (λ (y : Name × Term). slice_set s c.in-Some.k (y.0, t)) e2 in
    ap (λ (l : Store). with_store l (state c.args.self.now)) (e1 ∙ sym e3)

pub returns-in-None : goal.returns-in-None
returns-in-None c =
    let x = string_bytes c.args.name.now.value in
    let t = held_term c.args.t in
    let s : Store = map binding c.args.self.now.store.items in
    let h : Assigned x t s None = subst (Assigned x t s) (sym c.find.ensures ∙ c.in-None.is) (assigned x t s) in
    rw h refl
