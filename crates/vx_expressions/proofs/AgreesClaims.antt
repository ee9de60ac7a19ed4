-- An assertion is what its check passes.
use Rattle.std.proofs.Common.{◌≡◌, List, Option, Some, refl, ap, ◌∙◌, subst, Ok, Err}
use Rattle.std.specs.Prelude.{⊤}
use Rattle.vx_ast.specs.declared.Place.{Place}
use Rattle.vx_ast.specs.declared.ValueType.{ValueType}
use Rattle.vx_ast.specs.declared.ValueType.TheVariants as type
use Rattle.vx_ast.specs.declared.BinaryOperator.TheVariants as binary
use Rattle.vx_ast.specs.Written.{Name, Expr, Exprs, Amount}
use Rattle.vx_ast.specs.Written as expr
use Rattle.vx_expressions.specs.Places.{place_of}
use Rattle.vx_expressions.specs.Settings.{Setting, Signature, IsPredicate, IsFunction}
use Rattle.vx_expressions.specs.Typing as typing
use Rattle.vx_expressions.specs.Typing.{HasType, HaveTypes, IsPermission, IsAssertion}
use Rattle.vx_expressions.specs.Faults.{Impure, Claim, Value, Permission, ◌>>=◌, expect, arguments, instance_of, instance, read, application, check, check_all, check_share, check_held, held, joined, conjunction, choice, called, claim, assertion}
use Rattle.vx_expressions.proofs.Passed.{ok_is, not_ok, bound, expected}
use Rattle.vx_expressions.proofs.AgreesTypes.{instance_to, instance_from, arguments_from, both_to, no_access, to_type, to_types, to_share, from_type, from_types, from_share}

-- what a claim says of its expression
abbrev pub Claimed : Setting → Expr → Claim → Type 0
Claimed s e (Value t) = HasType s e t
Claimed s e Permission = IsPermission s e

-- ---- from a claim
held_to : {s : Setting} (e : Expr) (x : Claim) (u : ⊤) → Claimed s e x → held e x ≡ Ok u → IsAssertion s e
held_to {s = s} e (Value t) u k h = typing.pure (subst (HasType s e) (expected _ type.Bool t u h) k)
held_to e Permission u k h = typing.permission k

truth_to : {s : Setting} (e : Expr) (t : ValueType) (u : ⊤) → HasType s e t → held e (Value t) ≡ Ok u → HasType s e type.Bool
truth_to {s = s} e t u k h = subst (HasType s e) (expected _ type.Bool t u h) k

called_to : {s : Setting} (at : Place) (f : Name) {es : Exprs} {found : List ValueType} → check_all s es ≡ Ok found → HaveTypes s es found → (o : Option Signature) → s.member f ≡ o →
    (x : Claim) → called s at f es found o ≡ Ok x → Claimed s (expr.Call at f es) x
called_to {s = s} at f {es = es} {found = found} c k (Some (IsPredicate ts b)) m x h =
    let y = bound (arguments at es found ts) _ x h in
    let i = instance_to at f k (Some (IsPredicate ts b)) b (ap (λ r. r >>= λ u. Ok b) y.1) in
    subst (Claimed s (expr.Call at f es)) (ok_is y.2) (typing.instance at f (m ∙ i) k)
called_to {s = s} at f {es = es} {found = found} c k (Some (IsFunction ts t)) m x h =
    let y = bound (application s at f es found (Some (IsFunction ts t))) _ x h in
    let all = ap (λ r. r >>= λ found. application s at f es found (s.member f)) c ∙ ap (application s at f es found) m ∙ y.1 in
    subst (Claimed s (expr.Call at f es)) (ok_is y.2) (to_type s (expr.Call at f es) y.0 all)
called_to at f c k o m x h = not_ok h

conjunction_to : (s : Setting) (at : Place) (a b : Expr) (x y z : Claim) → Claimed s a x → Claimed s b y → conjunction a b x y ≡ Ok z → Claimed s (expr.Binary at binary.And a b) z
conjunction_to s at a b (Value t) (Value u) z h k e =
    let p = bound (held a (Value t)) _ z e in
    let q = bound (held b (Value u)) _ z p.2 in
    subst (Claimed s (expr.Binary at binary.And a b)) (ok_is q.2) (typing.operates at typing.and (truth_to a t p.0 h p.1) (truth_to b u q.0 k q.1))
conjunction_to s at a b (Value t) Permission z h k e =
    let p = bound (held a (Value t)) _ z e in
    subst (Claimed s (expr.Binary at binary.And a b)) (ok_is p.2) (typing.right at (held_to a (Value t) p.0 h p.1) k)
conjunction_to s at a b Permission y z h k e =
    let q = bound (held b y) _ z e in subst (Claimed s (expr.Binary at binary.And a b)) (ok_is q.2) (typing.left at h (held_to b y q.0 k q.1))

implied_to : {s : Setting} (at : Place) (c a : Expr) (y z : Claim) → HasType s c type.Bool → Claimed s a y → (held a y >>= λ u. Ok (joined (Value type.Bool) y)) ≡ Ok z → Claimed s (expr.Binary at binary.Implies c a) z
implied_to {s = s} at c a (Value t) z h k e =
    let p = bound (held a (Value t)) _ z e in subst (Claimed s (expr.Binary at binary.Implies c a)) (ok_is p.2) (typing.operates at typing.implies h (truth_to a t p.0 k p.1))
implied_to {s = s} at c a Permission z h k e = subst (Claimed s (expr.Binary at binary.Implies c a)) (ok_is e) (typing.implied at h k)

choice_to : {s : Setting} (at : Place) (c a b : Expr) (x y z : Claim) → HasType s c type.Bool → Claimed s a x → Claimed s b y → choice a b x y ≡ Ok z → Claimed s (expr.Choice at c a b) z
choice_to {s = s} at c a b (Value t) (Value u) z g h k e =
    let p = bound (expect (place_of b) t u) _ z e in
    subst (Claimed s (expr.Choice at c a b)) (ok_is p.2) (typing.chooses at g h (subst (HasType s b) (expected _ t u p.0 p.1) k))
choice_to {s = s} at c a b (Value t) Permission z g h k e =
    let p = bound (held a (Value t)) _ z e in
    subst (Claimed s (expr.Choice at c a b)) (ok_is p.2) (typing.second at g (held_to a (Value t) p.0 h p.1) k)
choice_to {s = s} at c a b Permission (Value u) z g h k e =
    let q = bound (held b (Value u)) _ z e in subst (Claimed s (expr.Choice at c a b)) (ok_is q.2) (typing.first at g h (held_to b (Value u) q.0 k q.1))
choice_to {s = s} at c a b Permission Permission z g h k e = subst (Claimed s (expr.Choice at c a b)) (ok_is e) (typing.first at g h (typing.permission k))

access_to : (s : Setting) (at : Place) (e : Expr) (share : Amount) (x : Claim) → claim s (expr.Access at e share) ≡ Ok x → Claimed s (expr.Access at e share) x
access_to s at (expr.Read p e f) share x h =
    let y = bound (check_held s (expr.Read p e f)) _ x h in
    let r = bound (read s e f) _ y.0 y.1 in
    let z = bound (check_share s share) _ x y.2 in
    subst (Claimed s (expr.Access at (expr.Read p e f) share)) (ok_is z.2) (typing.location at p f (to_type s (expr.Read p e f) r.0 r.1) (to_share s share z.0 z.1))
access_to s at (expr.Call p i es) share x h =
    let y = bound (check_held s (expr.Call p i es)) _ x h in
    let r = bound (instance s p i es) _ y.0 y.1 in
    let all = bound (check_all s es) _ r.0 r.1 in
    let k = to_types s es all.0 all.1 in
    let z = bound (check_share s share) _ x y.2 in
    subst (Claimed s (expr.Access at (expr.Call p i es) share)) (ok_is z.2) (typing.share_of at p i (instance_to p i k (s.member i) r.0 all.2) k (to_share s share z.0 z.1))
access_to s at e share x h =
    let y = bound (check_held s e) (λ u. check_share s share >>= λ u. Ok Permission) x h in
    let r = bound (check s e) (λ t. Err (Impure (place_of e))) y.0 y.1 in
    not_ok r.2

value_to : (s : Setting) (e : Expr) (x : Claim) → (check s e >>= λ t. Ok (Value t)) ≡ Ok x → Claimed s e x
value_to s e x h = let y = bound (check s e) _ x h in subst (Claimed s e) (ok_is y.2) (to_type s e y.0 y.1)

pub to_claim : (s : Setting) (e : Expr) (x : Claim) → claim s e ≡ Ok x → Claimed s e x
to_claim s (expr.Access at e share) x h = access_to s at e share x h
to_claim s (expr.Call at f es) x h = let y = bound (check_all s es) _ x h in called_to at f y.1 (to_types s es y.0 y.1) (s.member f) refl x y.2
to_claim s (expr.Binary at binary.And a b) z h =
    let x = bound (claim s a) _ z h in
    let y = bound (claim s b) _ z x.2 in
    conjunction_to s at a b x.0 y.0 z (to_claim s a x.0 x.1) (to_claim s b y.0 y.1) y.2
to_claim s (expr.Binary at binary.Implies c a) z h =
    let w = bound (check s c) _ z h in
    let y = bound (claim s a) _ z w.2 in
    let p = bound (expect (place_of c) type.Bool w.0) _ z y.2 in
    implied_to at c a y.0 z (subst (HasType s c) (expected _ type.Bool w.0 p.0 p.1) (to_type s c w.0 w.1)) (to_claim s a y.0 y.1) p.2
to_claim s (expr.Choice at c a b) z h =
    let w = bound (check s c) _ z h in
    let x = bound (claim s a) (λ x. claim s b >>= λ y. expect (place_of c) type.Bool w.0 >>= λ u. choice a b x y) z w.2 in
    let y = bound (claim s b) _ z x.2 in
    let p = bound (expect (place_of c) type.Bool w.0) _ z y.2 in
    choice_to at c a b x.0 y.0 z (subst (HasType s c) (expected _ type.Bool w.0 p.0 p.1) (to_type s c w.0 w.1)) (to_claim s a x.0 x.1) (to_claim s b y.0 y.1) p.2
to_claim s e x h = value_to s e x h

pub to_assertion : (s : Setting) (e : Expr) (u : ⊤) → assertion s e ≡ Ok u → IsAssertion s e
to_assertion s e u h = let x = bound (claim s e) _ u h in held_to e x.0 u (to_claim s e x.0 x.1) x.2

-- ---- to a claim
called_value : (s : Setting) (at : Place) (f : Name) (es : Exprs) (found : List ValueType) (o : Option Signature) (t : ValueType) → application s at f es found o ≡ Ok t →
    called s at f es found o ≡ Ok (Value t)
called_value s at f es found (Some (IsPredicate ts b)) t h = let x = bound (arguments at es found ts) _ t h in not_ok x.2
called_value s at f es found o t h = ap (λ r. r >>= λ t. Ok (Value t)) h

pub value_claim : (s : Setting) (e : Expr) (t : ValueType) → check s e ≡ Ok t → claim s e ≡ Ok (Value t)
value_claim s (expr.Access at e share) t h = no_access s at e share t h
value_claim s (expr.Call at f es) t h =
    let x = bound (check_all s es) _ t h in
    ap (λ r. r >>= λ found. called s at f es found (s.member f)) x.1 ∙ called_value s at f es x.0 (s.member f) t x.2
value_claim s (expr.Binary at binary.And a b) v h =
    let x = bound (check s a) _ v h in
    let y = bound (check s b) _ v x.2 in
    let p = both_to type.Bool a b x.0 y.0 v y.2 in
    ap (λ r. r >>= λ x. claim s b >>= λ y. conjunction a b x y) (value_claim s a type.Bool (x.1 ∙ ap Ok p.0))
    ∙ ap (λ r. r >>= λ y. conjunction a b (Value type.Bool) y) (value_claim s b type.Bool (y.1 ∙ ap Ok p.1)) ∙ bools a b ∙ ap (λ v. Ok (Value v)) p.2
  where
    bools : (a b : Expr) → conjunction a b (Value type.Bool) (Value type.Bool) ≡ Ok (Value type.Bool)
    bools a b = refl
value_claim s (expr.Binary at binary.Implies c a) v h =
    let x = bound (check s c) _ v h in
    let y = bound (check s a) _ v x.2 in
    let p = both_to type.Bool c a x.0 y.0 v y.2 in
    ap (λ r. r >>= λ t. claim s a >>= λ y. expect (place_of c) type.Bool t >>= λ u. held a y >>= λ u. Ok (joined (Value type.Bool) y)) (x.1 ∙ ap Ok p.0)
    ∙ ap (λ r. r >>= λ y. held a y >>= λ u. Ok (joined (Value type.Bool) y)) (value_claim s a type.Bool (y.1 ∙ ap Ok p.1)) ∙ ap (λ v. Ok (Value v)) p.2
value_claim s (expr.Choice at c a b) v h =
    let w = bound (check s c) _ v h in
    let x = bound (check s a) _ v w.2 in
    let y = bound (check s b) _ v x.2 in
    let p = bound (expect (place_of c) type.Bool w.0) _ v y.2 in
    let q = bound (expect (place_of b) x.0 y.0) _ v p.2 in
    ap (λ r. r >>= λ t. claim s a >>= λ x. claim s b >>= λ y. expect (place_of c) type.Bool t >>= λ u. choice a b x y) w.1
    ∙ ap (λ r. r >>= λ x. claim s b >>= λ y. expect (place_of c) type.Bool w.0 >>= λ u. choice a b x y) (value_claim s a x.0 x.1)
    ∙ ap (λ r. r >>= λ y. expect (place_of c) type.Bool w.0 >>= λ u. choice a b (Value x.0) y) (value_claim s b y.0 y.1)
    ∙ ap (λ r. r >>= λ u. choice a b (Value x.0) (Value y.0)) p.1 ∙ ap (λ r. r >>= λ u. Ok (Value x.0)) q.1 ∙ ap (λ v. Ok (Value v)) (ok_is q.2)
value_claim s e t h = ap (λ r. r >>= λ t. Ok (Value t)) h

-- whatever the other part claims, it is a permission
left_claim : (a b : Expr) (y : Claim) → held b y ≡ Ok tt → conjunction a b Permission y ≡ Ok Permission
left_claim a b y h = ap (λ r. r >>= λ u. Ok Permission) h

right_claim : (a b : Expr) (x : Claim) → held a x ≡ Ok tt → conjunction a b x Permission ≡ Ok Permission
right_claim a b (Value t) h = ap (λ r. r >>= λ u. Ok Permission) h
right_claim a b Permission h = refl

first_claim : (a b : Expr) (y : Claim) → held b y ≡ Ok tt → choice a b Permission y ≡ Ok Permission
first_claim a b (Value t) h = ap (λ r. r >>= λ u. Ok Permission) h
first_claim a b Permission h = refl

second_claim : (a b : Expr) (x : Claim) → held a x ≡ Ok tt → choice a b x Permission ≡ Ok Permission
second_claim a b (Value t) h = ap (λ r. r >>= λ u. Ok Permission) h
second_claim a b Permission h = refl

-- what an assertion claims can stand in one
abbrev Claims : Setting → Expr → Type 0
Claims s e = (x : Claim) × (claim s e ≡ Ok x) × (held e x ≡ Ok tt)

chosen_claim : (s : Setting) (at : Place) (c a b : Expr) (x y : Claim) → HasType s c type.Bool → claim s a ≡ Ok x → claim s b ≡ Ok y → claim s (expr.Choice at c a b) ≡ choice a b x y
chosen_claim s at c a b x y g h k =
    ap (λ r. r >>= λ t. claim s a >>= λ x. claim s b >>= λ y. expect (place_of c) type.Bool t >>= λ u. choice a b x y) (from_type s g)
    ∙ ap (λ r. r >>= λ x. claim s b >>= λ y. choice a b x y) h ∙ ap (λ r. r >>= λ y. choice a b x y) k

joined_claim : (s : Setting) (at : Place) (a b : Expr) (x y : Claim) → claim s a ≡ Ok x → claim s b ≡ Ok y → claim s (expr.Binary at binary.And a b) ≡ conjunction a b x y
joined_claim s at a b x y h k = ap (λ r. r >>= λ x. claim s b >>= λ y. conjunction a b x y) h ∙ ap (λ r. r >>= λ y. conjunction a b x y) k

module _ (s : Setting) where
  mutual
    pub from_permission : {e : Expr} → IsPermission s e → claim s e ≡ Ok Permission
    from_permission (typing.location at p f {t = t} {share = share} k h) =
        ap (λ r. (r >>= λ t. Ok tt) >>= λ u. check_share s share >>= λ u. Ok Permission) (from_type s k) ∙ ap (λ r. r >>= λ u. Ok Permission) (from_share s h)
    from_permission (typing.share_of at p i {es = es} {share = share} m k h) =
        let found = ap (λ r. r >>= λ found. instance_of p i es found (s.member i)) (from_types s k) ∙ instance_from p i es m in
        ap (λ r. (r >>= λ b. Ok tt) >>= λ u. check_share s share >>= λ u. Ok Permission) found ∙ ap (λ r. r >>= λ u. Ok Permission) (from_share s h)
    from_permission (typing.instance at i {es = es} {ts = ts} m k) =
        ap (λ r. r >>= λ found. called s at i es found (s.member i)) (from_types s k) ∙ ap (called s at i es ts) m ∙ ap (λ r. r >>= λ u. Ok Permission) (arguments_from at es ts)
    from_permission (typing.left at {a = a} {b = b} h k) =
        let y = from_assertion k in joined_claim s at a b Permission y.0 (from_permission h) y.1 ∙ left_claim a b y.0 y.2
    from_permission (typing.right at {a = a} {b = b} h k) =
        let x = from_assertion h in joined_claim s at a b x.0 Permission x.1 (from_permission k) ∙ right_claim a b x.0 x.2
    from_permission (typing.implied at {c = c} {a = a} h k) =
        ap (λ r. r >>= λ t. claim s a >>= λ y. expect (place_of c) type.Bool t >>= λ u. held a y >>= λ u. Ok (joined (Value type.Bool) y)) (from_type s h)
        ∙ ap (λ r. r >>= λ y. held a y >>= λ u. Ok (joined (Value type.Bool) y)) (from_permission k)
    from_permission (typing.first at {c = c} {a = a} {b = b} g h k) =
        let y = from_assertion k in chosen_claim s at c a b Permission y.0 g (from_permission h) y.1 ∙ first_claim a b y.0 y.2
    from_permission (typing.second at {c = c} {a = a} {b = b} g h k) =
        let x = from_assertion h in chosen_claim s at c a b x.0 Permission g x.1 (from_permission k) ∙ second_claim a b x.0 x.2

    pub from_assertion : {e : Expr} → IsAssertion s e → Claims s e
    from_assertion (typing.pure {e = e} h) = (Value type.Bool, value_claim s e type.Bool (from_type s h), refl)
    from_assertion (typing.permission h) = (Permission, from_permission h, refl)

pub passes : (s : Setting) (e : Expr) → IsAssertion s e → assertion s e ≡ Ok tt
passes s e h = let x = from_assertion s h in ap (λ r. r >>= λ x. held e x) x.1 ∙ x.2
