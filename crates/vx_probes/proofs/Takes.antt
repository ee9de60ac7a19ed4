-- What is taken by equal parts, and what is exchanged once it is taken.
use Rattle.std.proofs.Common.{◌≡◌, ◌∙◌, ap, refl, List, [], ◌∷◌, Bool, true, false, ◌||◌, Option, Some, None}
use Rattle.std.specs.Prelude.{if◌then◌else◌, string_bytes}
use Rattle.std.specs.declared.alloc.Global.{Global}
use Rattle.std.specs.declared.rc.Rc.{Rc}
use Rattle.std.specs.declared.string.String.{String}
use Rattle.vx_ast.specs.declared.Place.{Place}
use Rattle.vx_ast.specs.Syntax.{Name, Program, Predicate, Assertion, predicate_named}
use Rattle.vx_heap.specs.declared.chunk.Resource.TheVariants as resource
use Rattle.vx_heap.specs.Views.{key, terms_of}
use Rattle.vx_probes.specs.Firsts.{take_first}
use Rattle.vx_rules.specs.Chunks.{candidates, field_key, holds_amount, instance_key, reduced}
use Rattle.vx_rules.specs.Members.{rules}
use Rattle.vx_rules.specs.Rules.{Going, back, entered, first_with, leads_inside, never, question, take_fresh, unfolded, unless_false}
use Rattle.vx_rules.specs.States.{Chunk, State, after_fresh, bind, fresh, is_known, is_quiet, with_entry, with_heap}
use Rattle.vx_rules.specs.Trees.{Code, Tree, End, Step, Ask, UnfoldCode}
use Rattle.vx_stack.specs.Stack.{exchanged}
use Rattle.vx_terms.specs.declared.term.Term.{Term as Term'}
use Rattle.vx_terms.specs.Build.{equals, true_term, zero_amount}
use Rattle.vx_terms.specs.Sorts.{Sort, SnapSort}
use Rattle.vx_terms.specs.Terms.{Term, same}

pub takes : (k l : Chunk) (t a : Term) (n o : Sort) (at place : Place) (c : Code) (s1 s : State) (on other : Chunk → State → Tree) →
    k ≡ l → t ≡ a → n ≡ o → at ≡ place → s1 ≡ s → on ≡ other → take_first k t n at c s1 on ≡ take_first l a o place c s other
takes k l t a n o at place c s1 s on other e f g h i j =
    ap (λ y. take_first y t n at c s1 on) e
    ∙ ap (λ y. take_first l y n at c s1 on) f
    ∙ ap (λ y. take_first l a y at c s1 on) g
    ∙ ap (λ y. take_first l a o y c s1 on) h
    ∙ ap (λ y. take_first l a o place c y on) i
    ∙ ap (λ (y : Chunk → State → Tree). take_first l a o place c s y) j

pub key_of_field : (x y : Rc (String Global) Global) (ts : List (Rc Term' Global)) (r : Term) → x.value ≡ y.value → terms_of ts ≡ r ∷ [] → key (resource.Field x) ts ≡ field_key (string_bytes y.value) r
key_of_field x y ts r e f =
    ap (λ (us : List Term). record (field_key (string_bytes x.value) r) { arguments = us }) f
    ∙ ap (λ z. field_key (string_bytes z) r) e

pub key_of_instance : (x y : Rc (String Global) Global) (ts : List (Rc Term' Global)) (us : List Term) → x.value ≡ y.value → terms_of ts ≡ us → key (resource.Predicate x) ts ≡ instance_key (string_bytes y.value) us
key_of_instance x y ts us e f =
    ap (λ (vs : List Term). instance_key (string_bytes x.value) vs) f
    ∙ ap (λ z. instance_key (string_bytes z) us) e

-- an instance is taken, and then exchanged for its body: what is taken leaves the variables, the place and the mark
module _ (p : Program) (at : Place) (i : Name) (ts : List Term) (a : Term) (on : Going) where
  abbrev within : State → Chunk → State → Predicate → Option Assertion → Tree
  within before k s d b =
      elim b as (λ b. Tree) [
        | None ↦ never at UnfoldCode s
        | Some body ↦ (rules p).produce body a (Some k.value) (record (entered (bind d.parameters ts) at s) { inner = leads_inside k }) (λ s1. on (back before s1))
      ]

  abbrev inside : State → Chunk → State → Tree
  inside before k s = elim (predicate_named p i) as (λ d. Tree) [ None ↦ never at UnfoldCode s | Some d ↦ within before k s d d.body ]

  abbrev new_one : State → Chunk
  new_one s = record (instance_key i ts) { amount = a; value = fresh SnapSort s }

  abbrev missing : Term
  missing = equals a zero_amount

  after_fact : (s : State) (b : Bool) →
      (let s1 : State = if b then s else with_entry (record { term = missing; branch = false }) s in inside s (new_one s1) (after_fresh s1) ≡ inside (after_fresh s1) (new_one s1) (after_fresh s1))
  after_fact s true = refl
  after_fact s false = refl

  taken_new : (s : State) →
      take_fresh (instance_key i ts) a SnapSort at UnfoldCode s (inside s) ≡ take_fresh (instance_key i ts) a SnapSort at UnfoldCode s (λ k s1. inside s1 k s1)
  taken_new s =
      ap (λ t.
      if is_quiet s then End else
      (if same missing true_term || is_quiet s then Step (inside s (new_one s) (after_fresh s)) else Ask (question false missing at UnfoldCode s) (unless_false missing s t)))
      (after_fact s (is_known missing s))

  pub exchanged_once_taken : (s : State) →
      unfolded p (rules p) at i ts a s on ≡ take_first (instance_key i ts) a SnapSort at UnfoldCode s (λ k s1. exchanged p at i ts a k.value (leads_inside k) s1 on)
  exchanged_once_taken s =
      ap (λ t.
      first_with (holds_amount a ts) (candidates (instance_key i ts) s.heap) at UnfoldCode s (λ c. inside s c.chunk (with_heap (reduced c a s.heap) s)) t)
      (taken_new s)
