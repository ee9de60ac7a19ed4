-- Where no permission stands, an assertion is walked as any expression is.
use Rattle.std.proofs.Common.{◌≡◌, Bool, true, false, ◌||◌, List, Option, Some, refl, ap, ◌∙◌, Ok, Err}
use Rattle.std.specs.Prelude.{⊤}
use Rattle.std.proofs.lemmas.Bool.{true≢false}
use Rattle.vx_ast.specs.declared.Place.{Place}
use Rattle.vx_ast.specs.declared.ValueType.{ValueType}
use Rattle.vx_ast.specs.declared.ValueType.TheVariants as type
use Rattle.vx_ast.specs.declared.BinaryOperator.TheVariants as binary
use Rattle.vx_ast.specs.Written.{Name, Expr, Exprs}
use Rattle.vx_ast.specs.Written as expr
use Rattle.vx_expressions.specs.Places.{place_of}
use Rattle.vx_expressions.specs.Settings.{Setting, Signature, IsPredicate}
use Rattle.vx_expressions.specs.Faults.{Checked, ◌>>=◌, Claim, Value, expect, both, choice_type, application, check, check_all, held, joined, conjunction, choice, called, claim}
use Rattle.vx_expressions.specs.Laws.{PureAreWalkedAlike, has_permission}
use Rattle.vx_expressions.specs.Settings.{is_predicate}

or_parts : (a b : Bool) → (a || b) ≡ false → (a ≡ false) × (b ≡ false)
or_parts true b e = absurd (true≢false e)
or_parts false b e = (refl, e)

-- a check whose type is a claim
abbrev as_claim : Checked ValueType → Checked Claim
as_claim r = r >>= λ t. Ok (Value t)

called_alike : (s : Setting) (at : Place) (f : Name) (es : Exprs) (found : List ValueType) (o : Option Signature) → is_predicate o ≡ false → called s at f es found o ≡ as_claim (application s at f es found o)
called_alike s at f es found (Some (IsPredicate ts b)) h = absurd (true≢false h)
called_alike s at f es found o h = refl

call_alike : (s : Setting) (at : Place) (f : Name) (es : Exprs) (r : Checked (List ValueType)) (o : Option Signature) → is_predicate o ≡ false →
    (r >>= λ found. called s at f es found o) ≡ as_claim (r >>= λ found. application s at f es found o)
call_alike s at f es (Ok found) o h = called_alike s at f es found o h
call_alike s at f es (Err e) o h = refl

-- two tests, then a type
tests_alike : (r q : Checked ⊤) (t : ValueType) → (r >>= λ u. q >>= λ u. Ok (Value t)) ≡ as_claim (r >>= λ u. q >>= λ u. Ok t)
tests_alike (Ok u) (Ok v) t = refl
tests_alike (Ok u) (Err e) t = refl
tests_alike (Err e) q t = refl

and_alike : (a b : Expr) (r q : Checked ValueType) → (as_claim r >>= λ x. as_claim q >>= λ y. conjunction a b x y) ≡ as_claim (r >>= λ t. q >>= λ u. both type.Bool a b t u)
and_alike a b (Ok t) (Ok u) = tests_alike (expect (place_of a) type.Bool t) (expect (place_of b) type.Bool u) type.Bool
and_alike a b (Ok t) (Err e) = refl
and_alike a b (Err e) q = refl

implies_alike : (c a : Expr) (r q : Checked ValueType) →
    (r >>= λ t. as_claim q >>= λ y. expect (place_of c) type.Bool t >>= λ u. held a y >>= λ u. Ok (joined (Value type.Bool) y)) ≡ as_claim (r >>= λ t. q >>= λ u. both type.Bool c a t u)
implies_alike c a (Ok t) (Ok u) = tests_alike (expect (place_of c) type.Bool t) (expect (place_of a) type.Bool u) type.Bool
implies_alike c a (Ok t) (Err e) = refl
implies_alike c a (Err e) q = refl

choice_alike : (c a b : Expr) (k r q : Checked ValueType) →
    (k >>= λ t. as_claim r >>= λ x. as_claim q >>= λ y. expect (place_of c) type.Bool t >>= λ u. choice a b x y) ≡ as_claim (k >>= λ k. r >>= λ t. q >>= λ u. choice_type c b k t u)
choice_alike c a b (Ok k) (Ok t) (Ok u) = tests_alike (expect (place_of c) type.Bool k) (expect (place_of b) t u) t
choice_alike c a b (Ok k) (Ok t) (Err e) = refl
choice_alike c a b (Ok k) (Err e) q = refl
choice_alike c a b (Err e) r q = refl

pub alike : PureAreWalkedAlike
alike s (expr.Access at e share) h = absurd (true≢false h)
alike s (expr.Call at f es) h = call_alike s at f es (check_all s es) (s.member f) h
alike s (expr.Binary at binary.And a b) h =
    let p = or_parts (has_permission s a) (has_permission s b) h in
    ap (λ r. r >>= λ x. claim s b >>= λ y. conjunction a b x y) (alike s a p.0) ∙ ap (λ r. as_claim (check s a) >>= λ x. r >>= λ y. conjunction a b x y) (alike s b p.1)
    ∙ and_alike a b (check s a) (check s b)
alike s (expr.Binary at binary.Implies c a) h =
    ap (λ r. check s c >>= λ t. r >>= λ y. expect (place_of c) type.Bool t >>= λ u. held a y >>= λ u. Ok (joined (Value type.Bool) y)) (alike s a h)
    ∙ implies_alike c a (check s c) (check s a)
alike s (expr.Choice at c a b) h =
    let p = or_parts (has_permission s a) (has_permission s b) h in
    ap (λ r. check s c >>= λ t. r >>= λ x. claim s b >>= λ y. expect (place_of c) type.Bool t >>= λ u. choice a b x y) (alike s a p.0)
    ∙ ap (λ r. check s c >>= λ t. as_claim (check s a) >>= λ x. r >>= λ y. expect (place_of c) type.Bool t >>= λ u. choice a b x y) (alike s b p.1)
    ∙ choice_alike c a b (check s c) (check s a) (check s b)
alike s e h = refl
