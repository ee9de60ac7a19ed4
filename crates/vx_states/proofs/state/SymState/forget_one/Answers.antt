use Rattle.std.proofs.Common.{◌≡◌, ◌∙◌, ◌++◌, ◌∷◌, [], ap, sym, true, false}
use Rattle.std.proofs.lemmas.List.{map-append}
use Rattle.std.proofs.lemmas.Result.{IfOk-weaker}
use Rattle.std.specs.Prelude.{string_bytes}
use Rattle.vx_ast.specs.Mentions.{is_among}
use Rattle.vx_rules.specs.States.{is_stored}
use Rattle.vx_resolved.specs.Resolved.{names_of}
use Rattle.vx_states.specs.SymStates.{state}
use Rattle.vx_states.proofs.Done.{forgot_one}
use Rattle.vx_states.proofs.state.SymState.forget_one.Goals as goal

pub returns : goal.returns
returns c =
    let x = string_bytes c.args.name.now.value in
    let d = names_of c.args.done.now.items in
    let s = state c.args.self.now in
    let stored : is_stored x s.store ≡ true = sym c.is_stored.ensures ∙ c.if-not-is_stored.false in
    let new : is_among x d ≡ false = ap (λ y. is_among x (names_of y)) (sym c.deref.ensures.value) ∙ sym c.is_among.ensures ∙ c.if-is_among.false in
    let more : names_of c.push.new.self.items ≡ d ++ x ∷ [] =
    ap names_of c.in_ok-push.ensures.items ∙ map-append (λ y. string_bytes y.value) c.args.done.now.items (c.in_ok-clone.field-0 ∷ []) ∙ ap (λ y. d ++ string_bytes y ∷ []) c.in_ok-clone.ensures.cases in
    IfOk-weaker c.renew.result _ _ (λ r h rest. forgot_one x d _ rest s _ stored new more h) c.renew.ensures
