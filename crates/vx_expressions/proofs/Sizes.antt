-- What stands in an expression is smaller.
use Rattle.std.proofs.Common.{◌≡◌, ◌<◌, ◌+◌, ◌*◌, ℕ, rules, arith, List, vec_items}
use Rattle.std.specs.declared.alloc.Global.{Global}
use Rattle.std.specs.declared.rc.Rc.{Rc}
use Rattle.vx_ast.specs.declared.ExprKind.TheShapes.{weighed-ExprKind-Access-1}
use denote.Param.Weighed.{most}
use Rattle.vx_ast.specs.declared.Expr as expr
use Rattle.vx_ast.specs.declared.Expr.{size-Expr}
use Rattle.vx_ast.specs.declared.ExprKind as tree

pub falls : (m n t j k : ℕ) → 3 * n + j ≡ t → m < n → k < 3 → 3 * m + k < t
falls m n t j k is below few = omega arith

pub under_unary : (e : expr.Expr) (op : _) (a : _) (x : expr.Expr) → e.kind ≡ tree.Unary op a → x ≡ a.value → size-Expr x < size-Expr e
under_unary e op a x is loan = search (rules, tree.the_lemmas)

pub under_left : (e : expr.Expr) (op : _) (a : _) (b : _) (x : expr.Expr) → e.kind ≡ tree.Binary op a b → x ≡ a.value → size-Expr x < size-Expr e
under_left e op a b x is loan = search (rules, tree.the_lemmas)

pub under_right : (e : expr.Expr) (op : _) (a : _) (b : _) (x : expr.Expr) → e.kind ≡ tree.Binary op a b → x ≡ b.value → size-Expr x < size-Expr e
under_right e op a b x is loan = search (rules, tree.the_lemmas)

pub under_condition : (e : expr.Expr) (c : _) (a : _) (b : _) (x : expr.Expr) → e.kind ≡ tree.Conditional c a b → x ≡ c.value → size-Expr x < size-Expr e
under_condition e c a b x is loan = search (rules, tree.the_lemmas)

pub under_then : (e : expr.Expr) (c : _) (a : _) (b : _) (x : expr.Expr) → e.kind ≡ tree.Conditional c a b → x ≡ a.value → size-Expr x < size-Expr e
under_then e c a b x is loan = search (rules, tree.the_lemmas)

pub under_else : (e : expr.Expr) (c : _) (a : _) (b : _) (x : expr.Expr) → e.kind ≡ tree.Conditional c a b → x ≡ b.value → size-Expr x < size-Expr e
under_else e c a b x is loan = search (rules, tree.the_lemmas)

pub under_old : (e : expr.Expr) (a : _) (x : expr.Expr) → e.kind ≡ tree.Old a → x ≡ a.value → size-Expr x < size-Expr e
under_old e a x is loan = search (rules, tree.the_lemmas)

pub under_access : (e : expr.Expr) (a : _) (share : _) (x : expr.Expr) → e.kind ≡ tree.Access a share → x ≡ a.value → size-Expr x < size-Expr e
under_access e a share x is loan = search (rules, tree.the_lemmas)

pub under_read : (e : expr.Expr) (a : _) (f : _) (x : expr.Expr) → e.kind ≡ tree.Read a f → x ≡ a.value → size-Expr x < size-Expr e
under_read e a f x is loan = search (rules, tree.the_lemmas)

pub under_unfolding : (e : expr.Expr) (i : _) (es : _) (share : _) (a : _) (x : expr.Expr) → e.kind ≡ tree.Unfolding i es share a → x ≡ a.value → size-Expr x < size-Expr e
under_unfolding e i es share a x is loan = search (rules, tree.the_lemmas)

pub under_call : (e : expr.Expr) (f : _) (es : _) (xs : List (Rc expr.Expr Global)) → e.kind ≡ tree.Call f es → xs ≡ vec_items es → most (λ x. size-Expr x.value) xs < size-Expr e
under_call e f es xs is items = search (rules, tree.the_lemmas)

pub under_instance : (e : expr.Expr) (i : _) (es : _) (share : _) (a : _) (xs : List (Rc expr.Expr Global)) → e.kind ≡ tree.Unfolding i es share a → xs ≡ vec_items es → most (λ x. size-Expr x.value) xs < size-Expr e
under_instance e i es share a xs is items = search (rules, tree.the_lemmas)

pub under_share : (e : expr.Expr) (a : _) (share : _) → e.kind ≡ tree.Access a share → weighed-ExprKind-Access-1.weight _ size-Expr share < size-Expr e
under_share e a share is = search (rules, tree.the_lemmas)

pub under_instance_share : (e : expr.Expr) (i : _) (es : _) (share : _) (a : _) → e.kind ≡ tree.Unfolding i es share a → weighed-ExprKind-Access-1.weight _ size-Expr share < size-Expr e
under_instance_share e i es share a is = search (rules, tree.the_lemmas)
