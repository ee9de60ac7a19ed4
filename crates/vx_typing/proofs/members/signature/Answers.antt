use Rattle.std.proofs.Common.{◌∙◌, ap, ap₂, sym}
use Rattle.vx_ast.specs.Written.{written_kind}
use Rattle.vx_expressions.specs.Settings.{IsPredicate, IsFunction, IsMethod}
use Rattle.vx_typing.specs.Members.{signature_of}
use Rattle.vx_expressions.specs.Views.{types_of}
use Rattle.vx_typing.proofs.Tables.{types, has_body}
use Rattle.vx_typing.proofs.members.signature.Goals as goal

pub returns-in-Predicate : goal.returns-in-Predicate
returns-in-Predicate c =
    ap₂ IsPredicate (ap types_of c.deref.ensures.value ∙ types c.in-Predicate.p.parameters.items) (c.is_some.ensures ∙ has_body c.in-Predicate.p.body)
    ∙ ap (λ k. signature_of (written_kind k)) (sym c.in-Predicate.is)

pub returns-in-Function : goal.returns-in-Function
returns-in-Function c =
    ap (λ ts. IsFunction ts c.in-Function.f.value_type) (ap types_of c.deref-in-Function.ensures.value ∙ types c.in-Function.f.parameters.items)
    ∙ ap (λ k. signature_of (written_kind k)) (sym c.in-Function.is)

pub returns-in-Method : goal.returns-in-Method
returns-in-Method c =
    ap₂ IsMethod (ap types_of c.deref-in-Method.ensures.value ∙ types c.in-Method.m.parameters.items) (ap types_of c.deref-in-Method-2.ensures.value ∙ types c.in-Method.m.returns.items)
    ∙ ap (λ k. signature_of (written_kind k)) (sym c.in-Method.is)
