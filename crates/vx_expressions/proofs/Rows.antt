-- Arguments as a list, and what is left of them to check.
use Rattle.std.proofs.Common.{◌≡◌, ◌∙◌, refl, ap, sym, List, [], ◌∷◌, ◌++◌, Ok, Err, ℕ, suc, ◌≤◌, subst, Option, Some, None, ◌+◌, ◌<◌, length, drop, get_or, append_assoc, add-one}
use Rattle.std.proofs.lemmas.List.{drop_all, append-nil}
use Rattle.std.specs.Prelude.{IfSome}
use Rattle.vx_expressions.specs.declared.fault.TypeFault as fault'
use Rattle.vx_expressions.specs.Gives.{Fails, told}
use Rattle.vx_expressions.proofs.Fails.{fails_on}
use Rattle.std.proofs.Math.Seq.{drop-cons}
use Rattle.std.specs.declared.alloc.Global.{Global}
use Rattle.std.specs.declared.rc.Rc.{Rc}
use Rattle.vx_ast.specs.declared.Expr as expr
use Rattle.vx_ast.specs.declared.ExprKind as tree
use Rattle.vx_ast.specs.declared.ValueType.{ValueType}
use Rattle.vx_ast.specs.Written.{More, written, written_expr, written_row, written_all}
use Rattle.vx_expressions.specs.Settings.{Setting}
use Rattle.vx_expressions.specs.Faults.{Fault, Checked, ◌>>=◌, check, check_all}

-- the types so far, before those of the rest
abbrev pub onto : List ValueType → Checked (List ValueType) → Checked (List ValueType)
onto ts (Ok us) = Ok (ts ++ us)
onto ts (Err e) = Err e

pub onto_none : (x : Checked (List ValueType)) → x ≡ onto [] x
onto_none (Ok us) = refl
onto_none (Err e) = refl

after : (ts : List ValueType) (t : ValueType) (x : Checked (List ValueType)) → onto ts (x >>= λ us. Ok (t ∷ us)) ≡ onto (ts ++ t ∷ []) x
after ts t (Ok us) = ap Ok (sym (append_assoc ts (t ∷ []) us))
after ts t (Err e) = refl

all_more : (s : Setting) (es : List (Rc expr.Expr Global)) (i : ℕ) (e : Rc expr.Expr Global) → i < length es → e ≡ get_or es i e →
    check_all s (written_all (drop i es)) ≡ (check s (written_expr e.value) >>= λ t. check_all s (written_all (drop (suc i) es)) >>= λ us. Ok (t ∷ us))
all_more s es i e within is = ap (λ xs. check_all s (written_all xs)) (drop-cons es i e within ∙ ap (λ x. x ∷ drop (suc i) es) (sym is))

-- one more argument has its type
pub one_more : (s : Setting) (es : List (Rc expr.Expr Global)) (i : ℕ) (e : Rc expr.Expr Global) (ts : List ValueType) (t : ValueType) (whole : Checked (List ValueType)) → i < length es → e ≡ get_or es i e →
    check s (written_expr e.value) ≡ Ok t → whole ≡ onto ts (check_all s (written_all (drop i es))) → whole ≡ onto (ts ++ t ∷ []) (check_all s (written_all (drop (i + 1) es)))
one_more s es i e ts t whole within is typed before =
    before ∙ ap (onto ts) (all_more s es i e within is ∙ ap (λ x. x >>= λ t. check_all s (written_all (drop (suc i) es)) >>= λ us. Ok (t ∷ us)) typed)
    ∙ after ts t (check_all s (written_all (drop (suc i) es))) ∙ ap (λ k. onto (ts ++ t ∷ []) (check_all s (written_all (drop k es)))) (sym (add-one i))

pub no_more : (s : Setting) (es : List (Rc expr.Expr Global)) (i : ℕ) (ts : List ValueType) (whole : Checked (List ValueType)) → length es ≤ i → whole ≡ onto ts (check_all s (written_all (drop i es))) → whole ≡ Ok ts
no_more s es i ts whole past before = before ∙ ap (λ xs. onto ts (check_all s (written_all xs))) (drop_all i es past) ∙ ap Ok (append-nil ts)

some_onto : (o : Option Fault) (ts : List ValueType) (x : Checked (List ValueType)) → IfSome o (λ f. x ≡ Err f) → IfSome o (λ f. onto ts x ≡ Err f)
some_onto None ts x e = tt
some_onto (Some f) ts x e = ap (onto ts) e

onto_fails : (ts : List ValueType) (f : fault'.TypeFault) (x : Checked (List ValueType)) → Fails f x → Fails f (onto ts x)
onto_fails ts f x h = some_onto (told f) ts x h

-- a fault of one of them is that of all
pub one_fails : (s : Setting) (es : List (Rc expr.Expr Global)) (i : ℕ) (e : Rc expr.Expr Global) (ts : List ValueType) (f : fault'.TypeFault) (whole : Checked (List ValueType)) → i < length es → e ≡ get_or es i e →
    Fails f (check s (written_expr e.value)) → whole ≡ onto ts (check_all s (written_all (drop i es))) → Fails f whole
one_fails s es i e ts f whole within is fails before =
    subst (Fails f) (sym (before ∙ ap (onto ts) (all_more s es i e within is))) (onto_fails ts f _ (fails_on f (check s (written_expr e.value)) (λ t. check_all s (written_all (drop (suc i) es)) >>= λ us. Ok (t ∷ us)) fails))

pub call_row : (n : _) (k : tree.Row_of-ExprKind-Call-1-1 n) → written_row k ≡ written_all (tree.items-the_row-ExprKind-Call-1-1 n k)
call_row n tree.end_of-ExprKind-Call-1-1 = refl
call_row n (tree.more_of-ExprKind-Call-1-1 p place e rest) = ap (More (written place e)) (call_row _ rest)
