use Rattle.std.proofs.Common.{◌≡◌, ◌∙◌, ◌++◌, ap, sym, refl, [], ◌∷◌}
use Rattle.std.specs.Prelude.{string_bytes}
use Rattle.vx_resolved.specs.Settled.{settled}
use Rattle.vx_heap.specs.declared.chunk.Resource.TheVariants as resource
use Rattle.vx_heap.specs.Views.{key, terms_of, held_term}
use Rattle.vx_rules.specs.Chunks.{field_key}
use Rattle.vx_rules.specs.Codes.{code}
use Rattle.vx_rules.specs.Rules.{field_sort}
use Rattle.vx_rules.specs.States.{Chunk, State}
use Rattle.vx_rules.specs.Trees.{Tree}
use Rattle.vx_states.specs.SymStates.{state}
use Rattle.vx_stack.specs.declared.frame.Hole.{Hole}
use Rattle.vx_stack.specs.Stack.{giving}
use Rattle.vx_terms.specs.Views.{sort, term}
use Rattle.vx_probes.proofs.Firsts.{stepped_by}
use Rattle.vx_probes.proofs.Takes.{key_of_field, takes}
use Rattle.vx_probes.proofs.starts.probe_location.Goals as goal

pub returns : goal.returns
returns c =
    let p = settled c.args.program.now in
    let l = c.args.location.now in
    let f = string_bytes l.field.value in
    let a = held_term l.amount in
    let r = held_term l.receiver in
    let s = state c.args.state in
    let items = c.push.new.self.items in
    let receiver : terms_of items ≡ r ∷ [] = ap terms_of c.in_ok-push.ensures.items ∙ ap (λ ts. terms_of (ts ++ c.in_ok-clone.field-0 ∷ [])) c.new-arguments.ensures.items ∙ ap (λ y. term y ∷ []) c.in_ok-clone.ensures.cases in
    let on = λ (h : Hole) (k : Chunk) (s1 : State). giving p h k.value s1 in
    stepped_by p c.take.result _ _ _ c.take.ensures _
    (sym (takes (key (resource.Field c.in_ok-clone-2.field-0) items) (field_key f r) a a (sort c.field_sort-of.result) (field_sort p f) c.args.place c.args.place (code c.args.code) s s
    (on c.in_ok-clone-3.field-0.value) (on c.args.hole.now.value)
    (key_of_field c.in_ok-clone-2.field-0 l.field items r c.in_ok-clone-2.ensures.cases receiver) refl c.field_sort-of.ensures refl refl
    (ap {B = Chunk → State → Tree} on c.in_ok-clone-3.ensures.cases)))
