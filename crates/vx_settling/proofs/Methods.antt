-- A settled method, predicate or function, part by part.
use Rattle.std.proofs.Common.{◌≡◌, ◌∙◌, List, Option, ap}
use Rattle.vx_ast.specs.declared.Place.{Place}
use Rattle.vx_ast.specs.declared.ValueType.{ValueType}
use Rattle.vx_ast.specs.Syntax.{Declaration, Assertion, Block, Expr, Kind, IsPredicate, IsFunction, IsMethod, Measure}

abbrev made : Place → List Declaration → List Declaration → List Assertion → List Assertion → Option Block → Kind
made place ps rs before after b = IsMethod record { place = place; parameters = ps; returns = rs; requires = before; ensures = after; body = b }

pub same_method : (place : Place) (ps ps' rs rs' : List Declaration) (before before' after after' : List Assertion) (b b' : Option Block)
    → ps ≡ ps' → rs ≡ rs' → before ≡ before' → after ≡ after' → b ≡ b' → made place ps rs before after b ≡ made place ps' rs' before' after' b'
same_method place ps ps' rs rs' before before' after after' b b' e f g h k =
    ap (λ x. made place x rs before after b) e ∙ ap (λ x. made place ps' x before after b) f ∙ ap (λ x. made place ps' rs' x after b) g
    ∙ ap (λ x. made place ps' rs' before' x b) h ∙ ap (λ x. made place ps' rs' before' after' x) k

abbrev defined : Place → List Declaration → Option Assertion → Kind
defined place ps b = IsPredicate record { place = place; parameters = ps; body = b }

pub same_predicate : (place : Place) (ps ps' : List Declaration) (b b' : Option Assertion) → ps ≡ ps' → b ≡ b' → defined place ps b ≡ defined place ps' b'
same_predicate place ps ps' b b' e f = ap (λ x. defined place x b) e ∙ ap (λ x. defined place ps' x) f

abbrev valued : Place → List Declaration → ValueType → List Assertion → List Expr → Option Measure → Expr → Kind
valued place ps of before after m e = IsFunction record { place = place; parameters = ps; of = of; requires = before; ensures = after; decreases = m; body = e }

pub same_function : (place : Place) (of : ValueType) (ps ps' : List Declaration) (before before' : List Assertion) (after after' : List Expr) (m m' : Option Measure) (e e' : Expr)
    → ps ≡ ps' → before ≡ before' → after ≡ after' → m ≡ m' → e ≡ e' → valued place ps of before after m e ≡ valued place ps' of before' after' m' e'
same_function place of ps ps' before before' after after' m m' e e' f g h k l =
    ap (λ x. valued place x of before after m e) f ∙ ap (λ x. valued place ps' of x after m e) g ∙ ap (λ x. valued place ps' of before' x m e) h
    ∙ ap (λ x. valued place ps' of before' after' x e) k ∙ ap (λ x. valued place ps' of before' after' m' x) l
