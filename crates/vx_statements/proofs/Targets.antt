-- The targets of a call, one after another.
use Rattle.std.proofs.Common.{◌≡◌, ◌∙◌, refl, ap, sym, List, [], ◌∷◌, ◌++◌, Ok, Err, ℕ, ◌+◌, ◌<◌, ◌≤◌, length, drop, map, Option, Some, None, subst, append_assoc, append-nil, get_or}
use Rattle.std.proofs.lemmas.List.{drop_all}
use Rattle.std.specs.Prelude.{IfSome}
use Rattle.vx_ast.specs.declared.Name as declared
use Rattle.vx_ast.specs.declared.ValueType.{ValueType}
use Rattle.vx_ast.specs.Written.{Name, name_of}
use Rattle.vx_expressions.specs.Faults.{Checked, Fault, ◌>>=◌}
use Rattle.vx_expressions.specs.Scopes.{Scope}
use Rattle.vx_expressions.specs.Gives.{Fails, told}
use Rattle.vx_expressions.specs.declared.fault.TypeFault as fault'
use Rattle.vx_expressions.proofs.Fails.{fails_on}
use Rattle.vx_expressions.proofs.Rows.{onto}
use Rattle.vx_statements.specs.StatementFaults.{target, targets}
use Rattle.vx_statements.proofs.Loops.{left}

behind : (ts : List ValueType) (t : ValueType) (x : Checked (List ValueType)) → onto ts (x >>= λ us. Ok (t ∷ us)) ≡ onto (ts ++ t ∷ []) x
behind ts t (Ok us) = ap Ok (sym (append_assoc ts (t ∷ []) us))
behind ts t (Err e) = refl

some_onto : (o : Option Fault) (ts : List ValueType) (x : Checked (List ValueType)) → IfSome o (λ f. x ≡ Err f) → IfSome o (λ f. onto ts x ≡ Err f)
some_onto None ts x e = tt
some_onto (Some f) ts x e = ap (onto ts) e

onto_fails : (ts : List ValueType) (f : fault'.TypeFault) (x : Checked (List ValueType)) → Fails f x → Fails f (onto ts x)
onto_fails ts f x h = some_onto (told f) ts x h

-- one target more has its type
pub one_more : (scope : Scope) (xs : List declared.Name) (i : ℕ) (x : declared.Name) (before after : List Name) (ts types : List ValueType) (t : ValueType) (whole : Checked (List ValueType))
    → i < length xs → x ≡ get_or xs i x → target scope before (name_of x) ≡ Ok t → after ≡ before ++ (name_of x).name ∷ [] → types ≡ ts ++ t ∷ []
    → whole ≡ onto ts (targets scope before (map name_of (drop i xs))) → whole ≡ onto types (targets scope after (map name_of (drop (i + 1) xs)))
one_more scope xs i x before after ts types t whole within is passes names more so_far =
    let rest = map name_of (drop (i + 1) xs) in
    let next = before ++ (name_of x).name ∷ [] in
    so_far
    ∙ ap (λ ys. onto ts (targets scope before (map name_of ys))) (left xs i x within is)
    ∙ ap (λ r. onto ts (r >>= λ t. targets scope next rest >>= λ us. Ok (t ∷ us))) passes
    ∙ behind ts t (targets scope next rest)
    ∙ ap (λ us. onto us (targets scope next rest)) (sym more)
    ∙ ap (λ ns. onto types (targets scope ns rest)) (sym names)

pub no_more : (scope : Scope) (xs : List declared.Name) (i : ℕ) (before : List Name) (ts : List ValueType) (whole : Checked (List ValueType))
    → length xs ≤ i → whole ≡ onto ts (targets scope before (map name_of (drop i xs))) → whole ≡ Ok ts
no_more scope xs i before ts whole past so_far = so_far ∙ ap (λ ys. onto ts (targets scope before (map name_of ys))) (drop_all i xs past) ∙ ap Ok (append-nil ts)

-- a fault of one of them is that of all
pub one_fails : (scope : Scope) (xs : List declared.Name) (i : ℕ) (x : declared.Name) (before : List Name) (ts : List ValueType) (f : fault'.TypeFault) (whole : Checked (List ValueType))
    → i < length xs → x ≡ get_or xs i x → Fails f (target scope before (name_of x)) → whole ≡ onto ts (targets scope before (map name_of (drop i xs))) → Fails f whole
one_fails scope xs i x before ts f whole within is fails so_far =
    subst (Fails f) (sym (so_far ∙ ap (λ ys. onto ts (targets scope before (map name_of ys))) (left xs i x within is)))
    (onto_fails ts f _ (fails_on f (target scope before (name_of x)) _ fails))
