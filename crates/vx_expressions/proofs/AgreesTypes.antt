-- An expression has the type that its check gives.
use Rattle.std.proofs.Common.{◌≡◌, zero, suc, Bool, true, false, ◌&&◌, List, [], ◌∷◌, length, Option, Some, None, refl, sym, ap, ap₂, ◌∙◌, subst, Ok, Err, arith, eq-eqb}
use Rattle.std.proofs.lemmas.Bool.{eqb-true}
use Rattle.std.specs.Prelude.{⊤, nat_eq, if◌then◌else◌}
use Rattle.vx_ast.specs.declared.Place.{Place}
use Rattle.vx_ast.specs.declared.ValueType.{ValueType}
use Rattle.vx_ast.specs.declared.ValueType.TheVariants as type
use Rattle.vx_ast.specs.declared.UnaryOperator.{UnaryOperator}
use Rattle.vx_ast.specs.declared.UnaryOperator.TheVariants as unary
use Rattle.vx_ast.specs.declared.BinaryOperator.{BinaryOperator}
use Rattle.vx_ast.specs.declared.BinaryOperator.TheVariants as binary
use Rattle.vx_ast.specs.Written.{Name, Placed, Expr, Exprs, NoMore, More, Amount, All, Part}
use Rattle.vx_ast.specs.Written as expr
use Rattle.vx_expressions.specs.Places.{place_of}
use Rattle.vx_expressions.specs.Settings.{Setting, Signature, IsField, IsPredicate, IsFunction}
use Rattle.vx_expressions.specs.Typing as typing
use Rattle.vx_expressions.specs.Typing.{Operates, HasType, HaveTypes, IsShare}
use Rattle.vx_ast.specs.Types.{same_type}
use Rattle.vx_expressions.specs.Faults.{Impure, Arity, NotHere, ◌>>=◌, is_numeral, unless, expect, expect_ordered, unary_type, both, compared, summed, same, multiplied, divided, binary_type, choice_type, known, field_type, read_type, old_type, unfolded_type, outcome_type, arguments_fit, arguments, instance_of, application, amount, check, check_all, check_share}
use Rattle.vx_expressions.proofs.Passed.{ok_is, not_ok, bound, chosen, tested, type_is, expected, as_expected, ordered, as_ordered}
use Rattle.vx_expressions.proofs.AgreesAmounts.{to_amount, from_amount}

-- names, and what they are given
known_to : (at : Place) (x : Name) (o : Option ValueType) (t : ValueType) → known at x o ≡ Ok t → o ≡ Some t
known_to at x (Some u) t h = ap Some (ok_is h)
known_to at x None t h = not_ok h

outcome_to : (at : Place) (o : Option ValueType) (t : ValueType) → outcome_type at o ≡ Ok t → o ≡ Some t
outcome_to at (Some u) t h = ap Some (ok_is h)
outcome_to at None t h = not_ok h

field_to : (f : Placed) (o : Option Signature) (t : ValueType) → field_type f o ≡ Ok t → o ≡ Some (IsField t)
field_to f (Some (IsField u)) t h = ap (λ t. Some (IsField t)) (ok_is h)
field_to f o t h = not_ok h

pub fit_to : {s : Setting} {es : Exprs} {found : List ValueType} → HaveTypes s es found → (ts : List ValueType) (u : ⊤) → length found ≡ length ts → arguments_fit es found ts ≡ Ok u → found ≡ ts
fit_to typing.no_more [] u l h = refl
fit_to typing.no_more (t ∷ ts) u l h = absurd (omega arith)
fit_to (typing.more k ks) [] u l h = absurd (omega arith)
fit_to (typing.more {e = e} {es = es} {t = t'} {ts = found} k ks) (t ∷ ts) u l h =
    let x = bound (expect (place_of e) t t') _ u h in ap₂ (λ x xs. x ∷ xs) (expected _ t t' x.0 x.1) (fit_to ks ts u (omega arith) x.2)

arguments_to : {s : Setting} (at : Place) {es : Exprs} {found : List ValueType} → HaveTypes s es found → (ts : List ValueType) (u : ⊤) → arguments at es found ts ≡ Ok u → found ≡ ts
arguments_to at {es = es} {found = found} k ts u h =
    let x = bound (unless (nat_eq (length found) (length ts)) _) _ u h in
    fit_to k ts u (eqb-true (length found) (length ts) (tested (nat_eq (length found) (length ts)) _ x.0 x.1)) x.2

pub fits : (es : Exprs) (ts : List ValueType) → arguments_fit es ts ts ≡ Ok tt
fits NoMore ts = refl
fits (More e es) [] = refl
fits (More e es) (t ∷ ts) = ap (λ x. x >>= λ u. arguments_fit es ts ts) (as_expected (place_of e) t) ∙ fits es ts

pub arguments_from : (at : Place) (es : Exprs) (ts : List ValueType) → arguments at es ts ts ≡ Ok tt
arguments_from at es ts = ap (λ b. unless b (Arity at (length ts) (length ts)) >>= λ u. arguments_fit es ts ts) (eq-eqb (length ts) (length ts) refl) ∙ fits es ts

pub instance_to : {s : Setting} (at : Place) (i : Name) {es : Exprs} {found : List ValueType} → HaveTypes s es found → (o : Option Signature) (b : Bool) →
    instance_of at i es found o ≡ Ok b → o ≡ Some (IsPredicate found b)
instance_to at i {es = es} {found = found} k (Some (IsPredicate ts c)) b h =
    let x = bound (arguments at es found ts) _ b h in ap₂ (λ ts b. Some (IsPredicate ts b)) (sym (arguments_to at k ts x.0 x.1)) (ok_is x.2)
instance_to at i k o b h = not_ok h

pub instance_from : (at : Place) (i : Name) (es : Exprs) {ts : List ValueType} {b : Bool} {o : Option Signature} → o ≡ Some (IsPredicate ts b) → instance_of at i es ts o ≡ Ok b
instance_from at i es {ts = ts} {b = b} e = ap (instance_of at i es ts) e ∙ ap (λ x. x >>= λ u. Ok b) (arguments_from at es ts)

application_to : (s : Setting) (at : Place) (f : Name) {es : Exprs} {found : List ValueType} → HaveTypes s es found → (o : Option Signature) (t : ValueType) →
    application s at f es found o ≡ Ok t → (o ≡ Some (IsFunction found t)) × (s.applies ≡ true)
application_to s at f {es = es} {found = found} k (Some (IsFunction ts u)) t h =
    let x = bound (unless s.applies _) _ t h in
    let y = bound (arguments at es found ts) _ t x.2 in
    (ap₂ (λ ts t. Some (IsFunction ts t)) (sym (arguments_to at k ts y.0 y.1)) (ok_is y.2), tested s.applies _ x.0 x.1)
application_to s at f {es = es} {found = found} k (Some (IsPredicate ts b)) t h = let x = bound (arguments at es found ts) _ t h in not_ok x.2
application_to s at f k o t h = not_ok h

application_from : (s : Setting) (at : Place) (f : Name) (es : Exprs) {ts : List ValueType} {t : ValueType} {o : Option Signature} → o ≡ Some (IsFunction ts t) → s.applies ≡ true →
    application s at f es ts o ≡ Ok t
application_from s at f es {ts = ts} {t = t} e a =
    ap (application s at f es ts) e ∙ ap (λ b. unless b (NotHere at) >>= λ u. arguments at es ts ts >>= λ u. Ok t) a ∙ ap (λ x. x >>= λ u. Ok t) (arguments_from at es ts)

pub read_to : (s : Setting) (at : Place) {e : Expr} (f : Placed) {t : ValueType} → HasType s e t → (u : ValueType) → read_type s e f t ≡ Ok u → HasType s (expr.Read at e f) u
read_to s at {e = e} f {t = t} k u h =
    let x = bound (expect (place_of e) type.Ref t) _ u h in
    typing.reads at f (subst (HasType s e) (expected _ type.Ref t x.0 x.1) k) (field_to f (s.member f.name) u x.2)

read_from : (s : Setting) (e : Expr) (f : Placed) {t : ValueType} → s.member f.name ≡ Some (IsField t) → read_type s e f type.Ref ≡ Ok t
read_from s e f m = ap (field_type f) m

-- operators
unary_to : (s : Setting) (at : Place) (op : UnaryOperator) {e : Expr} {t : ValueType} → HasType s e t → (u : ValueType) → unary_type op e t ≡ Ok u → HasType s (expr.Unary at op e) u
unary_to s at unary.Not {e = e} {t = t} k u h =
    let x = bound (expect (place_of e) type.Bool t) _ u h in
    subst (HasType s (expr.Unary at unary.Not e)) (ok_is x.2) (typing.nots at (subst (HasType s e) (expected _ type.Bool t x.0 x.1) k))
unary_to s at unary.Negate {e = e} {t = t} k u h =
    let x = bound (expect (place_of e) type.Int t) _ u h in
    subst (HasType s (expr.Unary at unary.Negate e)) (ok_is x.2) (typing.negates at (subst (HasType s e) (expected _ type.Int t x.0 x.1) k))

-- of two expressions that have types, where the types are one
operated : {s : Setting} (at : Place) {op : BinaryOperator} {a b : Expr} {t u w v : ValueType} → Operates op t w → HasType s a t → HasType s b u → u ≡ t → w ≡ v → HasType s (expr.Binary at op a b) v
operated {s = s} at {op = op} {a = a} {b = b} o h k e f = subst (HasType s (expr.Binary at op a b)) f (typing.operates at o h (subst (HasType s b) e k))

pub both_to : (x : ValueType) (a b : Expr) (t u v : ValueType) → both x a b t u ≡ Ok v → (t ≡ x) × (u ≡ x) × (x ≡ v)
both_to x a b t u v h =
    let p = bound (expect (place_of a) x t) _ v h in
    let q = bound (expect (place_of b) x u) _ v p.2 in
    (expected _ x t p.0 p.1, expected _ x u q.0 q.1, ok_is q.2)

both_typed : {s : Setting} (at : Place) {op : BinaryOperator} {a b : Expr} {t u x : ValueType} → Operates op x x → HasType s a t → HasType s b u → (v : ValueType) → both x a b t u ≡ Ok v → HasType s (expr.Binary at op a b) v
both_typed {s = s} at {a = a} {b = b} {t = t} {u = u} {x = x} o h k v e =
    let p = both_to x a b t u v e in operated at o (subst (HasType s a) p.0 h) k p.1 p.2

same_typed : {s : Setting} (at : Place) {op : BinaryOperator} {a b : Expr} {t u : ValueType} → Operates op t type.Bool → HasType s a t → HasType s b u → (v : ValueType) → same b t u ≡ Ok v → HasType s (expr.Binary at op a b) v
same_typed at {b = b} {t = t} {u = u} o h k v e = let p = bound (expect (place_of b) t u) _ v e in operated at o h k (expected _ t u p.0 p.1) (ok_is p.2)

compared_typed : {s : Setting} (at : Place) {op : BinaryOperator} {a b : Expr} {t u : ValueType} → (typing.IsOrdered t → Operates op t type.Bool) → HasType s a t → HasType s b u → (v : ValueType) → compared a b t u ≡ Ok v → HasType s (expr.Binary at op a b) v
compared_typed at {a = a} {b = b} {t = t} {u = u} o h k v e =
    let p = bound (expect_ordered (place_of a) t) _ v e in same_typed at (o (ordered _ t p.0 p.1)) h k v p.2

summed_typed : {s : Setting} (at : Place) {op : BinaryOperator} {a b : Expr} {t u : ValueType} → (typing.IsOrdered t → Operates op t t) → HasType s a t → HasType s b u → (v : ValueType) → summed a b t u ≡ Ok v → HasType s (expr.Binary at op a b) v
summed_typed at {a = a} {b = b} {t = t} {u = u} o h k v e =
    let p = bound (expect_ordered (place_of a) t) _ v e in
    let q = bound (expect (place_of b) t u) _ v p.2 in
    operated at (o (ordered _ t p.0 p.1)) h k (expected _ t u q.0 q.1) (ok_is q.2)

multiplied_typed : {s : Setting} (at : Place) (a b : Expr) {t u : ValueType} → HasType s a t → HasType s b u → (v : ValueType) → multiplied a b t u ≡ Ok v → HasType s (expr.Binary at binary.Multiply a b) v
multiplied_typed {s = s} at (expr.Number p n) b {t = t} {u = u} h k v e = go (same_type u type.Perm) refl e
  where
    go : (d : Bool) → same_type u type.Perm ≡ d → (if d then Ok type.Perm else both type.Int (expr.Number p n) b t u) ≡ Ok v → HasType s (expr.Binary at binary.Multiply (expr.Number p n) b) v
    go true z e = subst (HasType s (expr.Binary at binary.Multiply (expr.Number p n) b)) (ok_is e) (typing.scales at p n (subst (HasType s b) (type_is u type.Perm z) k))
    go false z e = both_typed at typing.multiply h k v e
multiplied_typed at a b h k v e = both_typed at typing.multiply h k v e

divided_typed : (s : Setting) (at : Place) (a b : Expr) (t u v : ValueType) → divided a b t u ≡ Ok v → HasType s (expr.Binary at binary.Divide a b) v
divided_typed s at (expr.Number p n) (expr.Number q zero) t u v e = not_ok e
divided_typed s at (expr.Number p n) (expr.Number q (suc d)) t u v e =
    subst (HasType s (expr.Binary at binary.Divide (expr.Number p n) (expr.Number q (suc d)))) (ok_is e) (typing.fraction at p q n (suc d) (omega arith))
divided_typed s at (expr.Number p n) b t u v e = not_ok e
divided_typed s at a b t u v e = not_ok e

binary_to : (s : Setting) (at : Place) (op : BinaryOperator) (a b : Expr) {t u : ValueType} → HasType s a t → HasType s b u → (v : ValueType) → binary_type op a b t u ≡ Ok v → HasType s (expr.Binary at op a b) v
binary_to s at binary.And a b h k v e = both_typed at typing.and h k v e
binary_to s at binary.Or a b h k v e = both_typed at typing.or h k v e
binary_to s at binary.Implies a b h k v e = both_typed at typing.implies h k v e
binary_to s at binary.Equal a b {t = t} h k v e = same_typed at (typing.equal t) h k v e
binary_to s at binary.NotEqual a b {t = t} h k v e = same_typed at (typing.not_equal t) h k v e
binary_to s at binary.Less a b h k v e = compared_typed at typing.less h k v e
binary_to s at binary.LessEqual a b h k v e = compared_typed at typing.less_equal h k v e
binary_to s at binary.Greater a b h k v e = compared_typed at typing.greater h k v e
binary_to s at binary.GreaterEqual a b h k v e = compared_typed at typing.greater_equal h k v e
binary_to s at binary.Add a b h k v e = summed_typed at typing.add h k v e
binary_to s at binary.Subtract a b h k v e = summed_typed at typing.subtract h k v e
binary_to s at binary.Multiply a b h k v e = multiplied_typed at a b h k v e
binary_to s at binary.Divide a b {t = t} {u = u} h k v e = divided_typed s at a b t u v e
binary_to s at binary.Quotient a b h k v e = both_typed at typing.quotient h k v e
binary_to s at binary.Remainder a b h k v e = both_typed at typing.remainder h k v e

pub both_from : (x : ValueType) (a b : Expr) → both x a b x x ≡ Ok x
both_from x a b = ap (λ y. y >>= λ u. expect (place_of b) x x >>= λ u. Ok x) (as_expected (place_of a) x) ∙ ap (λ y. y >>= λ u. Ok x) (as_expected (place_of b) x)

same_from : (b : Expr) (t : ValueType) → same b t t ≡ Ok type.Bool
same_from b t = ap (λ y. y >>= λ u. Ok type.Bool) (as_expected (place_of b) t)

compared_from : (a b : Expr) {t : ValueType} → typing.IsOrdered t → compared a b t t ≡ Ok type.Bool
compared_from a b {t = t} o = ap (λ y. y >>= λ u. same b t t) (as_ordered (place_of a) o) ∙ same_from b t

summed_from : (a b : Expr) {t : ValueType} → typing.IsOrdered t → summed a b t t ≡ Ok t
summed_from a b {t = t} o =
    ap (λ y. y >>= λ u. expect (place_of b) t t >>= λ u. Ok t) (as_ordered (place_of a) o) ∙ ap (λ y. y >>= λ u. Ok t) (as_expected (place_of b) t)

multiplied_from : (a b : Expr) → multiplied a b type.Int type.Int ≡ Ok type.Int
multiplied_from a b = go (is_numeral a)
  where
    go : (d : Bool) → (if d && false then Ok type.Perm else both type.Int a b type.Int type.Int) ≡ Ok type.Int
    go true = both_from type.Int a b
    go false = both_from type.Int a b

binary_from : {op : BinaryOperator} (a b : Expr) {t u : ValueType} → Operates op t u → binary_type op a b t t ≡ Ok u
binary_from a b typing.and = both_from type.Bool a b
binary_from a b typing.or = both_from type.Bool a b
binary_from a b typing.implies = both_from type.Bool a b
binary_from a b (typing.equal t) = same_from b t
binary_from a b (typing.not_equal t) = same_from b t
binary_from a b (typing.less o) = compared_from a b o
binary_from a b (typing.less_equal o) = compared_from a b o
binary_from a b (typing.greater o) = compared_from a b o
binary_from a b (typing.greater_equal o) = compared_from a b o
binary_from a b (typing.add o) = summed_from a b o
binary_from a b (typing.subtract o) = summed_from a b o
binary_from a b typing.multiply = multiplied_from a b
binary_from a b typing.quotient = both_from type.Int a b
binary_from a b typing.remainder = both_from type.Int a b

-- a permission is no value
pub no_access : (s : Setting) (at : Place) (e : Expr) (share : Amount) (t : ValueType) → {R : Type 0} → check s (expr.Access at e share) ≡ Ok t → R
no_access s at (expr.Read p e f) share t h =
    let x = bound (check s e) _ t h in
    let y = bound (read_type s e f x.0) _ t x.2 in
    let z = bound (check_share s share) _ t y.2 in
    not_ok z.2
no_access s at (expr.Call p i es) share t h =
    let x = bound (check_all s es) _ t h in
    let y = bound (instance_of p i es x.0 (s.member i)) _ t x.2 in
    let z = bound (check_share s share) _ t y.2 in
    not_ok z.2
no_access s at e share t h = let x = bound (check s e) (λ u. Err (Impure (place_of e))) t h in not_ok x.2

module _ (s : Setting) where
  mutual
    pub to_type : (e : Expr) (t : ValueType) → check s e ≡ Ok t → HasType s e t
    to_type (expr.Number at n) t h = subst (HasType s (expr.Number at n)) (ok_is h) (typing.number at n)
    to_type (expr.Truth at b) t h = subst (HasType s (expr.Truth at b)) (ok_is h) (typing.truth at b)
    to_type (expr.Null at) t h = subst (HasType s (expr.Null at)) (ok_is h) (typing.nulls at)
    to_type (expr.Whole at) t h = subst (HasType s (expr.Whole at)) (ok_is h) (typing.whole at)
    to_type (expr.Nothing at) t h = subst (HasType s (expr.Nothing at)) (ok_is h) (typing.nothing at)
    to_type (expr.Result at) t h = typing.result at (outcome_to at s.outcome t h)
    to_type (expr.Variable at x) t h = typing.variable at x (known_to at x (s.variable x) t h)
    to_type (expr.Call at f es) t h =
        let x = bound (check_all s es) _ t h in
        let k = to_types es x.0 x.1 in
        let a = application_to s at f k (s.member f) t x.2 in
        typing.applies at f a.0 a.1 k
    to_type (expr.Read at e f) t h = let x = bound (check s e) _ t h in read_to s at f (to_type e x.0 x.1) t x.2
    to_type (expr.Unary at op e) t h = let x = bound (check s e) _ t h in unary_to s at op (to_type e x.0 x.1) t x.2
    to_type (expr.Binary at op a b) t h =
        let x = bound (check s a) _ t h in
        let y = bound (check s b) _ t x.2 in
        binary_to s at op a b (to_type a x.0 x.1) (to_type b y.0 y.1) t y.2
    to_type (expr.Choice at c a b) t h =
        let w = bound (check s c) _ t h in
        let x = bound (check s a) _ t w.2 in
        let y = bound (check s b) _ t x.2 in
        let p = bound (expect (place_of c) type.Bool w.0) _ t y.2 in
        let q = bound (expect (place_of b) x.0 y.0) _ t p.2 in
        let condition = subst (HasType s c) (expected _ type.Bool w.0 p.0 p.1) (to_type c w.0 w.1) in
        let second = subst (HasType s b) (expected _ x.0 y.0 q.0 q.1) (to_type b y.0 y.1) in
        subst (HasType s (expr.Choice at c a b)) (ok_is q.2) (typing.chooses at condition (to_type a x.0 x.1) second)
    to_type (expr.Old at e) t h =
        let x = bound (check s e) _ t h in
        let c = chosen s.has_old x.0 t _ x.2 in
        subst (HasType s (expr.Old at e)) c.1 (typing.olds at (to_type e x.0 x.1) c.0)
    to_type (expr.Access at e share) t h = no_access s at e share t h
    to_type (expr.Unfolding at i es share e) t h =
        let x = bound (check_all s es) _ t h in
        let k = to_types es x.0 x.1 in
        let y = bound (instance_of i.place i.name es x.0 (s.member i.name)) _ t x.2 in
        let z = bound (check_share s share) _ t y.2 in
        let w = bound (check s e) _ t z.2 in
        let c = chosen y.0 w.0 t _ w.2 in
        let m = instance_to i.place i.name k (s.member i.name) y.0 y.1 ∙ ap (λ b. Some (IsPredicate x.0 b)) c.0 in
        subst (HasType s (expr.Unfolding at i es share e)) c.1 (typing.unfoldings at i m k (to_share share z.0 z.1) (to_type e w.0 w.1))

    pub to_types : (es : Exprs) (ts : List ValueType) → check_all s es ≡ Ok ts → HaveTypes s es ts
    to_types NoMore ts h = subst (HaveTypes s NoMore) (ok_is h) typing.no_more
    to_types (More e es) ts h =
        let x = bound (check s e) _ ts h in
        let y = bound (check_all s es) _ ts x.2 in
        subst (HaveTypes s (More e es)) (ok_is y.2) (typing.more (to_type e x.0 x.1) (to_types es y.0 y.1))

    pub to_share : (share : Amount) (u : ⊤) → check_share s share ≡ Ok u → IsShare s share
    to_share All u h = typing.all
    to_share (Part e) u h =
        let x = bound (check s e) _ u h in
        let y = bound (expect (place_of e) type.Perm x.0) _ u x.2 in
        let a = to_amount s.constant e u y.2 in
        typing.part (subst (HasType s e) (expected _ type.Perm x.0 y.0 y.1) (to_type e x.0 x.1)) a.0 a.1

  mutual
    pub from_type : {e : Expr} {t : ValueType} → HasType s e t → check s e ≡ Ok t
    from_type (typing.number at n) = refl
    from_type (typing.truth at b) = refl
    from_type (typing.nulls at) = refl
    from_type (typing.whole at) = refl
    from_type (typing.nothing at) = refl
    from_type (typing.result at m) = ap (outcome_type at) m
    from_type (typing.variable at x m) = ap (known at x) m
    from_type (typing.applies at f {es = es} m a k) =
        ap (λ r. r >>= λ found. application s at f es found (s.member f)) (from_types k) ∙ application_from s at f es m a
    from_type (typing.reads at {e = e} f k m) = ap (λ r. r >>= λ t. read_type s e f t) (from_type k) ∙ read_from s e f m
    from_type (typing.nots at {e = e} k) = ap (λ r. r >>= λ t. unary_type unary.Not e t) (from_type k)
    from_type (typing.negates at {e = e} k) = ap (λ r. r >>= λ t. unary_type unary.Negate e t) (from_type k)
    from_type (typing.operates at {op = op} {a = a} {b = b} {t = t} o h k) =
        ap (λ r. r >>= λ t. check s b >>= λ u. binary_type op a b t u) (from_type h) ∙ ap (λ r. r >>= λ u. binary_type op a b t u) (from_type k) ∙ binary_from a b o
    from_type (typing.scales at p n {b = b} k) = ap (λ r. r >>= λ u. binary_type binary.Multiply (expr.Number p n) b type.Int u) (from_type k)
    from_type (typing.fraction at p q n zero l) = absurd (omega arith)
    from_type (typing.fraction at p q n (suc d) l) = refl
    from_type (typing.chooses at {c = c} {a = a} {b = b} {t = t} g h k) =
        ap (λ r. r >>= λ k. check s a >>= λ t. check s b >>= λ u. choice_type c b k t u) (from_type g)
        ∙ ap (λ r. r >>= λ t. check s b >>= λ u. choice_type c b type.Bool t u) (from_type h)
        ∙ ap (λ r. r >>= λ u. choice_type c b type.Bool t u) (from_type k) ∙ ap (λ r. r >>= λ u. Ok t) (as_expected (place_of b) t)
    from_type (typing.olds at {t = t} h o) = ap (λ r. r >>= λ t. old_type at s.has_old t) (from_type h) ∙ ap (λ b. old_type at b t) o
    from_type (typing.unfoldings at i {es = es} {share = share} {e = e} {ts = ts} m k h g) =
        ap (λ r. r >>= λ found. instance_of i.place i.name es found (s.member i.name) >>= λ has_body. check_share s share >>= λ u. check s e >>= λ t. unfolded_type i.place has_body t) (from_types k)
        ∙ ap (λ r. r >>= λ has_body. check_share s share >>= λ u. check s e >>= λ t. unfolded_type i.place has_body t) (instance_from i.place i.name es m)
        ∙ ap (λ r. r >>= λ u. check s e >>= λ t. unfolded_type i.place true t) (from_share h)
        ∙ ap (λ r. r >>= λ t. unfolded_type i.place true t) (from_type g)

    pub from_types : {es : Exprs} {ts : List ValueType} → HaveTypes s es ts → check_all s es ≡ Ok ts
    from_types typing.no_more = refl
    from_types (typing.more {es = es} {t = t} h k) = ap (λ r. r >>= λ t. check_all s es >>= λ ts. Ok (t ∷ ts)) (from_type h) ∙ ap (λ r. r >>= λ ts. Ok (t ∷ ts)) (from_types k)

    pub from_share : {share : Amount} → IsShare s share → check_share s share ≡ Ok tt
    from_share typing.all = refl
    from_share (typing.part {e = e} h m c) = ap (λ r. r >>= λ t. amount s.constant e t) (from_type h) ∙ from_amount s.constant e m c
