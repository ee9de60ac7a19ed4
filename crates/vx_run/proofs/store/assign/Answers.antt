use Rattle.std.proofs.Common.{◌≡◌, List, map, subst, sym, ap, ◌∙◌, arith, Some, None}
use Rattle.std.specs.Prelude.{string_bytes, slice_set, slice_index_or}
use Rattle.std.proofs.Math.ListN.{get_or-map}
use Rattle.std.proofs.lemmas.List.{map-set, length-map}
use Rattle.vx_ast.specs.Syntax.{Name}
use Rattle.vx_meaning.specs.Values.{Value}
use Rattle.vx_meaning.specs.States.{Store, assign}
use Rattle.vx_run.specs.declared.store.Variable.{Variable}
use Rattle.vx_run.specs.Views.{value}
use Rattle.vx_run.specs.Stores.{store}
use Rattle.vx_run.specs.Stores.{place_in}
use Rattle.vx_run.proofs.Stores.{Assigned, assigned}
use Rattle.vx_run.proofs.store.assign.Goals as goal

abbrev entry : Variable → Name × Value
entry x = (string_bytes x.name.value, value x.value)

pub index_mut-requires : goal.index_mut-requires
index_mut-requires c =
    let x = string_bytes c.args.name.now.value in
    let s : Store = store c.args.variables.now.items in
    let h : Assigned x (value c.args.v) s (Some c.in-Some.k) = subst (Assigned x (value c.args.v) s) (ap (λ (l : List Variable). place_in x (store l)) (sym c.deref.ensures.value) ∙ sym c.find.ensures ∙ c.in-Some.is) (assigned x (value c.args.v) s) in
    omega (arith, h.0, length-map c.args.variables.now.items entry, c.args.variables.now.ok.0)

pub returns-in-Some : goal.returns-in-Some
returns-in-Some c =
    let x = string_bytes c.args.name.now.value in
    let t = value c.args.v in
    let items = c.args.variables.now.items in
    let s : Store = store items in
    let h : Assigned x t s (Some c.in-Some.k) = subst (Assigned x t s) (ap (λ (l : List Variable). place_in x (store l)) (sym c.deref.ensures.value) ∙ sym c.find.ensures ∙ c.in-Some.is) (assigned x t s) in
    let r : Variable = c.index_mut.result.now in
    let b : Variable = record { name = r.name; value = c.args.v } in
    let e1 : map entry (slice_set items c.in-Some.k b) ≡ slice_set s c.in-Some.k (entry b) = map-set entry items c.in-Some.k b in
    let e2 : slice_index_or s c.in-Some.k (entry r) ≡ entry r = get_or-map entry items c.in-Some.k r ∙ ap entry (sym c.index_mut.ensures.value) in
    let e3 : assign x t s ≡ slice_set s c.in-Some.k (entry b) = h.1 (entry r) ∙ ap (λ (y : Name × Value). slice_set s c.in-Some.k (y.0, t)) e2 in
    e1 ∙ sym e3

pub returns-in-None : goal.returns-in-None
returns-in-None c =
    let x = string_bytes c.args.name.now.value in
    let t = value c.args.v in
    let s : Store = store c.args.variables.now.items in
    let h : Assigned x t s None = subst (Assigned x t s) (ap (λ (l : List Variable). place_in x (store l)) (sym c.deref.ensures.value) ∙ sym c.find.ensures ∙ c.in-None.is) (assigned x t s) in
    sym h
