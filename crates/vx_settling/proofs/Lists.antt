-- Lists that are settled one item after another.
use Rattle.std.proofs.Common.{◌≡◌, ◌∙◌, ◌++◌, ◌∷◌, [], ℕ, List, map, ap, append_assoc, string_bytes}
use Rattle.std.proofs.lemmas.List.{map-append}
use Rattle.std.specs.declared.alloc.Global.{Global}
use Rattle.std.specs.declared.rc.Rc.{Rc}
use Rattle.std.specs.declared.string.String.{String}
use Rattle.vx_resolved.specs.declared.Assertion as assertion'
use Rattle.vx_resolved.specs.declared.Expr as expr'
use Rattle.vx_resolved.specs.Resolved as resolved
use Rattle.vx_resolved.specs.Resolved.{names_of as listed}
use Rattle.vx_ast.specs.Syntax.{Assertion, Expr}

-- the items so far, and one more, in front of others
behind : {X Y : Type 0} (view : X → Y) (done : List X) (x : X) (next : List X) (y : Y) (rest : List Y)
    → next ≡ done ++ x ∷ [] → view x ≡ y → map view next ++ rest ≡ map view done ++ y ∷ rest
behind view done x next y rest is same =
    ap (λ xs. map view xs ++ rest) is
    ∙ ap (λ xs. xs ++ rest) (map-append view done (x ∷ []))
    ∙ append_assoc (map view done) (view x ∷ []) rest
    ∙ ap (λ z. map view done ++ z ∷ rest) same

pub one_behind : (done : List (Rc assertion'.Assertion Global)) (a : Rc assertion'.Assertion Global) (next : List (Rc assertion'.Assertion Global)) (x : Assertion) (rest : List Assertion)
    → next ≡ done ++ a ∷ [] → resolved.assertion a.value ≡ x → resolved.assertions next ++ rest ≡ resolved.assertions done ++ x ∷ rest
one_behind = behind (λ a. resolved.assertion a.value)

pub expression_behind : (done : List (Rc expr'.Expr Global)) (a : Rc expr'.Expr Global) (next : List (Rc expr'.Expr Global)) (x : Expr) (rest : List Expr)
    → next ≡ done ++ a ∷ [] → resolved.expr a.value ≡ x → resolved.expressions next ++ rest ≡ resolved.expressions done ++ x ∷ rest
expression_behind = behind (λ a. resolved.expr a.value)

pub name_behind : (done : List (Rc (String Global) Global)) (a : Rc (String Global) Global) (next : List (Rc (String Global) Global)) (x : List ℕ) (rest : List (List ℕ))
    → next ≡ done ++ a ∷ [] → string_bytes a.value ≡ x → listed next ++ rest ≡ listed done ++ x ∷ rest
name_behind = behind (λ a. string_bytes a.value)
