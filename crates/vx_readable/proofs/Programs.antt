-- The parts of a program whose numerals are small.
use Rattle.std.proofs.Common.{◌≡◌, ℕ, zero, suc, Bool, true, false, List, [], ◌∷◌, Option, Some, None, subst}
use Rattle.std.specs.Prelude.{IfSome, slice_get}
use Rattle.vx_ast.specs.declared.Place.{Place}
use Rattle.vx_ast.specs.Syntax.{Name, same_name, Program, Member, Kind, IsField, IsPredicate, IsFunction, IsMethod, Predicate, member_named, predicate_named, function_named, method_named, predicate_in, function_in, method_in, joined_with, joined, conjoined_with, conjoined, as_assertion, And, Or, Implies, Expr, Number, Truth, Null, Part, Variable, Not, Operate, Divide, Connect, Choose, Read, Old, Apply, Unfolding, Assertion, Both}
use Rattle.vx_terms.specs.Interpretations.{Each}
use Rattle.vx_readable.specs.Numerals.{IsSmallExpr, IsSmallAssertion, IsSmallFunction, IsSmallMethod, IsSmallKind, HasSmallNumerals}

-- ---- members

member_small : (p : Program) (x : Name) → HasSmallNumerals p → IfSome (member_named p x) IsSmallKind
member_small [] x h = tt
member_small (m ∷ ms) x h = go (same_name x m.name) (member_small ms x h.1)
  where
    go : (b : Bool) → IfSome (member_named ms x) IsSmallKind → IfSome (elim b as (λ b. Option Kind) [ true ↦ Some m.kind | false ↦ member_named ms x ]) IsSmallKind
    go true more = h.0
    go false more = more

predicate_of : (k : Option Kind) → IfSome k IsSmallKind → IfSome (predicate_in k) (λ (d : Predicate). IfSome d.body IsSmallAssertion)
predicate_of None h = tt
predicate_of (Some (IsField t)) h = tt
predicate_of (Some (IsPredicate d)) h = h
predicate_of (Some (IsFunction g)) h = tt
predicate_of (Some (IsMethod m)) h = tt

function_of : (k : Option Kind) → IfSome k IsSmallKind → IfSome (function_in k) IsSmallFunction
function_of None h = tt
function_of (Some (IsField t)) h = tt
function_of (Some (IsPredicate d)) h = tt
function_of (Some (IsFunction g)) h = h
function_of (Some (IsMethod m)) h = tt

method_of : (k : Option Kind) → IfSome k IsSmallKind → IfSome (method_in k) IsSmallMethod
method_of None h = tt
method_of (Some (IsField t)) h = tt
method_of (Some (IsPredicate d)) h = tt
method_of (Some (IsFunction g)) h = tt
method_of (Some (IsMethod m)) h = h

pub kind_small : (p : Program) (n : ℕ) (m : Member) → HasSmallNumerals p → slice_get p n ≡ Some m → IsSmallKind m.kind
kind_small [] n m h is = cc
kind_small (k ∷ ms) zero m h is = let same : k ≡ m = cc in subst (λ (l : Member). IsSmallKind l.kind) same h.0
kind_small (k ∷ ms) (suc n) m h is = kind_small ms n m h.1 is

pub predicate_small : (p : Program) (x : Name) → HasSmallNumerals p → IfSome (predicate_named p x) (λ (d : Predicate). IfSome d.body IsSmallAssertion)
predicate_small p x h = predicate_of (member_named p x) (member_small p x h)

pub function_small : (p : Program) (x : Name) → HasSmallNumerals p → IfSome (function_named p x) IsSmallFunction
function_small p x h = function_of (member_named p x) (member_small p x h)

pub method_small : (p : Program) (x : Name) → HasSmallNumerals p → IfSome (method_named p x) IsSmallMethod
method_small p x h = method_of (member_named p x) (member_small p x h)

-- ---- clauses

joined_on : (a : Assertion) (rest : List Assertion) → IsSmallAssertion a → Each IsSmallAssertion rest → IsSmallAssertion (joined_with a rest)
joined_on a [] h k = h
joined_on a (b ∷ rest) h k = joined_on (Both a b) rest (h, k.0) k.1

pub joined_small : (at : Place) (as' : List Assertion) → Each IsSmallAssertion as' → IsSmallAssertion (joined at as')
joined_small at [] h = tt
joined_small at (a ∷ rest) h = joined_on a rest h.0 h.1

conjoined_on : (a : Expr) (rest : List Expr) → IsSmallExpr a → Each IsSmallExpr rest → IsSmallExpr (conjoined_with a rest)
conjoined_on a [] h k = h
conjoined_on a (b ∷ rest) h k = conjoined_on _ rest (h, k.0) k.1

pub conjoined_small : (at : Place) (es : List Expr) → Each IsSmallExpr es → IsSmallExpr (conjoined at es)
conjoined_small at [] h = tt
conjoined_small at (e ∷ rest) h = conjoined_on e rest h.0 h.1

pub asserted_small : (e : Expr) → IsSmallExpr e → IsSmallAssertion (as_assertion e)
asserted_small (Connect at And a b) h = (asserted_small a h.0, asserted_small b h.1)
asserted_small (Connect at Or a b) h = h
asserted_small (Connect at Implies a b) h = h
asserted_small (Number at n) h = h
asserted_small (Truth at b) h = h
asserted_small (Null at) h = h
asserted_small (Part at n d) h = h
asserted_small (Variable at x) h = h
asserted_small (Not at e) h = h
asserted_small (Operate at op a b) h = h
asserted_small (Divide at op a b) h = h
asserted_small (Choose at c a b) h = h
asserted_small (Read at e f) h = h
asserted_small (Old at e) h = h
asserted_small (Apply at f es) h = h
asserted_small (Unfolding at i es share e) h = h
