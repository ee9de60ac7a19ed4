-- What a check does at each form of the tree.
use Rattle.std.proofs.Common.{◌≡◌, ◌∙◌, refl, ap, sym, subst, rules, List, Option, Result, Ok, Err, string_bytes, vec_items}
use Rattle.std.specs.Prelude.{IsErrAnd}
use Rattle.vx_ast.specs.declared.Expr as expr
use Rattle.vx_ast.specs.declared.ExprKind as tree
use Rattle.vx_ast.specs.declared.Place.{Place}
use Rattle.vx_ast.specs.declared.ValueType.{ValueType}
use Rattle.vx_ast.specs.Written as written
use Rattle.vx_ast.specs.Written.{Name, Exprs, written_expr, written_all, written_optional, name_of}
use Rattle.vx_expressions.specs.Settings.{Setting, Signature}
use Rattle.vx_expressions.specs.declared.fault.TypeFault as fault'
use Rattle.vx_expressions.specs.Gives.{Gives, Fails}
use Rattle.vx_expressions.specs.Faults.{Checked, Impure, ◌>>=◌, check, check_all, instance_of, check_held, check_share, applied, instance, unfolded_type, unary_type, binary_type, choice_type, claim, call, called, read}
use Rattle.vx_expressions.proofs.Rows.{call_row}
use Rattle.vx_expressions.proofs.Accesses.{access_is}
use Rattle.vx_expressions.proofs.Fails.{passed_on}

-- the first of what is done fails
pub first_fails : {X Y Z : Type 0} (view : X → Y) (r : Result X fault'.TypeFault) (f : fault'.TypeFault) (x : Checked Z) (k : Z → Checked Y) (whole : Checked Y) → whole ≡ (x >>= k) →
    IsErrAnd r (λ g. g ≡ f) → Fails f x → Gives view r whole
first_fails view r f x k whole is at fails = subst (Gives view r) (sym is) (passed_on view r f x k at fails)

-- and here it is done
pub goes_on : {Y Z : Type 0} (x : Checked Z) (k : Z → Checked Y) (v : Z) (whole : Checked Y) → whole ≡ (x >>= k) → x ≡ Ok v → whole ≡ k v
goes_on x k v whole is done = is ∙ ap (λ y. y >>= k) done

pub gives_as : {X Y : Type 0} (view : X → Y) (r : Result X fault'.TypeFault) (whole : Checked Y) (x : Checked Y) → whole ≡ x → Gives view r x → Gives view r whole
gives_as view r whole x is h = subst (Gives view r) (sym is) h

call_view : (e : expr.Expr) (f : _) (es : _) → e.kind ≡ tree.Call f es → written_expr e ≡ written.Call e.place (string_bytes f) (written_all (vec_items es))
call_view e f es is = search (rules, tree.the_lemmas, call_row)

pub call_is : (s : Setting) (e : expr.Expr) (f : _) (es : _) (n : Name) (xs : List _) → e.kind ≡ tree.Call f es → n ≡ string_bytes f → xs ≡ vec_items es → check s (written_expr e) ≡ applied s e.place n (written_all xs)
call_is s e f es n xs is named items = rw (named, items) (ap (check s) (call_view e f es is))

pub held_call_is : (s : Setting) (e : expr.Expr) (f : _) (es : _) (n : Name) (xs : List _) → e.kind ≡ tree.Call f es → n ≡ string_bytes f → xs ≡ vec_items es →
    check_held s (written_expr e) ≡ (instance s e.place n (written_all xs) >>= λ _. Ok tt)
held_call_is s e f es n xs is named items = rw (named, items) (ap (check_held s) (call_view e f es is))

pub claimed_call_is : (s : Setting) (e : expr.Expr) (f : _) (es : _) (n : Name) (xs : List _) → e.kind ≡ tree.Call f es → n ≡ string_bytes f → xs ≡ vec_items es → claim s (written_expr e) ≡ call s e.place n (written_all xs)
claimed_call_is s e f es n xs is named items = rw (named, items) (ap (claim s) (call_view e f es is))

access_view : (e : expr.Expr) (a : _) (share : _) → e.kind ≡ tree.Access a share → written_expr e ≡ written.Access e.place (written_expr a.value) (written_optional share)
access_view e a share is = search (rules, tree.the_lemmas)

pub at_access : (s : Setting) (e : expr.Expr) (a : _) (share : _) (x : expr.Expr) → e.kind ≡ tree.Access a share → x ≡ a.value →
    check s (written_expr e) ≡ (check_held s (written_expr x) >>= λ _. check_share s (written_optional share) >>= λ _. Err (Impure e.place))
at_access s e a share x is loan = rw loan (ap (check s) (access_view e a share is) ∙ access_is s e.place (written_expr a.value) (written_optional share))

unfolding_view : (e : expr.Expr) (i : _) (es : _) (share : _) (a : _) → e.kind ≡ tree.Unfolding i es share a →
    written_expr e ≡ written.Unfolding e.place (name_of i) (written_all (vec_items es)) (written_optional share) (written_expr a.value)
unfolding_view e i es share a is = search (rules, tree.the_lemmas, call_row)

assoc : {X Y Z : Type 0} (x : Checked X) (f : X → Checked Y) (k : Y → Checked Z) → (x >>= λ v. f v >>= k) ≡ ((x >>= f) >>= k)
assoc (Ok v) f k = refl
assoc (Err e) f k = refl

pub at_unfolding : (s : Setting) (e : expr.Expr) (i : _) (es : _) (share : _) (a : _) (n : Name) (xs : List _) (x : expr.Expr) → e.kind ≡ tree.Unfolding i es share a → n ≡ string_bytes i.text → xs ≡ vec_items es → x ≡ a.value →
    check s (written_expr e) ≡ (instance s i.place n (written_all xs) >>= λ b. check_share s (written_optional share) >>= λ _. check s (written_expr x) >>= λ t. unfolded_type i.place b t)
at_unfolding s e i es share a n xs x is named items p = rw (named, items, p) (ap (check s) (unfolding_view e i es share a is) ∙ assoc (check_all s (written_all (vec_items es))) (λ found. instance_of i.place (string_bytes i.text) (written_all (vec_items es)) found (s.member (string_bytes i.text))) (λ b. check_share s (written_optional share) >>= λ _. check s (written_expr a.value) >>= λ t. unfolded_type i.place b t))

pub at_unary : (s : Setting) (e : expr.Expr) (op : _) (a : _) (x : expr.Expr) (x' : expr.Expr) → e.kind ≡ tree.Unary op a → x ≡ a.value → x' ≡ a.value → check s (written_expr e) ≡ (check s (written_expr x) >>= λ t. unary_type op (written_expr x') t)
at_unary s e op a x x' is p p' = rw (p, p') (ap (λ k. check s (written.written e.place k)) is)

pub at_binary : (s : Setting) (e : expr.Expr) (op : _) (a : _) (b : _) (x : expr.Expr) (y : expr.Expr) (x' : expr.Expr) (y' : expr.Expr) → e.kind ≡ tree.Binary op a b → x ≡ a.value → y ≡ b.value → x' ≡ a.value → y' ≡ b.value →
    check s (written_expr e) ≡ (check s (written_expr x) >>= λ t. check s (written_expr y) >>= λ u. binary_type op (written_expr x') (written_expr y') t u)
at_binary s e op a b x y x' y' is p q p' q' = rw (p, q, p', q') (ap (λ k. check s (written.written e.place k)) is)

pub at_choice : (s : Setting) (e : expr.Expr) (c : _) (a : _) (b : _) (z : expr.Expr) (x : expr.Expr) (y : expr.Expr) (z' : expr.Expr) (y' : expr.Expr) → e.kind ≡ tree.Conditional c a b → z ≡ c.value → x ≡ a.value → y ≡ b.value → z' ≡ c.value → y' ≡ b.value →
    check s (written_expr e) ≡ (check s (written_expr z) >>= λ k. check s (written_expr x) >>= λ t. check s (written_expr y) >>= λ u. choice_type (written_expr z') (written_expr y') k t u)
at_choice s e c a b z x y z' y' is o p q o' q' = rw (o, p, q, o', q') (ap (λ k. check s (written.written e.place k)) is)

pub at_read : (s : Setting) (e : expr.Expr) (a : _) (f : _) (x : expr.Expr) → e.kind ≡ tree.Read a f → x ≡ a.value → check s (written_expr e) ≡ read s (written_expr x) (name_of f)
at_read s e a f x is p = rw p (ap (λ k. check s (written.written e.place k)) is)

pub held_read_is : (s : Setting) (e : expr.Expr) (a : _) (f : _) (x : expr.Expr) → e.kind ≡ tree.Read a f → x ≡ a.value → check_held s (written_expr e) ≡ (read s (written_expr x) (name_of f) >>= λ _. Ok tt)
held_read_is s e a f x is p = rw p (ap (λ k. check_held s (written.written e.place k)) is)

pub called_is : (s : Setting) (at : Place) (n : Name) (es : Exprs) (ts : List ValueType) (found : List ValueType) (member : Option Signature) → check_all s es ≡ Ok ts → found ≡ ts → member ≡ s.member n → call s at n es ≡ called s at n es found member
called_is s at n es ts found member typed is known =
    ap (λ x. x >>= λ found. called s at n es found (s.member n)) typed ∙ ap (λ xs. called s at n es xs (s.member n)) (sym is) ∙ ap (called s at n es found) (sym known)
