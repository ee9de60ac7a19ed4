-- Clauses that are joined, longer scopes, and the scope behind a block.
use Rattle.std.proofs.Common.{◌≡◌, Bool, true, false, cond, List, [], ◌∷◌, ◌++◌, Some, refl, ap, ◌∙◌, append_assoc}
use Rattle.vx_ast.specs.declared.Place.{Place}
use Rattle.vx_ast.specs.declared.ValueType.{ValueType}
use Rattle.vx_ast.specs.Syntax.{Name, same_name, Declaration, Program, Expr, Exprs, Assertion, Pure, Points, Instance, Both, Implied, Chosen, Declare, Block, Done, Then, joined_with, joined}
use Rattle.vx_types.specs.Typing.{Scope, type_in, HasType, number, truth, nulls, part, variable, nots, operates, scales, divides, connects, chooses, reads, olds, applies, unfoldings, HaveTypes, no_more, more, IsTyped, AllTyped, scope_after_all}

-- Clauses that are joined are typed where each is.

joined_with_typed : (p : Program) (scope : Scope) (a : Assertion) (rest : List Assertion) → IsTyped p scope a → AllTyped p scope rest → IsTyped p scope (joined_with a rest)
joined_with_typed p scope a [] t ts = t
joined_with_typed p scope a (b ∷ rest) t ts = joined_with_typed p scope (Both a b) rest (t, ts.0) ts.1

pub joined_typed : (p : Program) (scope : Scope) (at : Place) (rest : List Assertion) → AllTyped p scope rest → IsTyped p scope (joined at rest)
joined_typed p scope at [] t = truth
joined_typed p scope at (a ∷ rest) t = joined_with_typed p scope a rest t.0 t.1

-- What is typed stays so in a longer scope.

type_in_longer : (x : Name) (scope further : Scope) {t : ValueType} → type_in x scope ≡ Some t → type_in x (scope ++ further) ≡ Some t
type_in_longer x [] further e = cc
type_in_longer x (d ∷ ds) further {t = t} e = go (same_name x d.name) e (λ k. type_in_longer x ds further k)
  where
    go : (b : Bool) → cond b (Some d.of) (type_in x ds) ≡ Some t → (type_in x ds ≡ Some t → type_in x (ds ++ further) ≡ Some t) → cond b (Some d.of) (type_in x (ds ++ further)) ≡ Some t
    go true k r = k
    go false k r = r k

mutual
  longer : {p : Program} {scope : Scope} (further : Scope) {e : Expr} {t : ValueType} → HasType p scope e t → HasType p (scope ++ further) e t
  longer m (number at n) = number at n
  longer m truth = truth
  longer m (nulls at) = nulls at
  longer m (part at n d l) = part at n d l
  longer {scope = scope} m (variable at x e) = variable at x (type_in_longer x scope m e)
  longer m (nots a) = nots (longer m a)
  longer m (operates o a b) = operates o (longer m a) (longer m b)
  longer m (scales at n b) = scales at n (longer m b)
  longer m (divides a b) = divides (longer m a) (longer m b)
  longer m (connects a b) = connects (longer m a) (longer m b)
  longer m (chooses c a b) = chooses (longer m c) (longer m a) (longer m b)
  longer m (reads f e a) = reads f e (longer m a)
  longer m (olds a) = olds (longer m a)
  longer m (applies f g e es) = applies f g e (all_longer m es)
  longer m (unfoldings i d e es share a) = unfoldings i d e (all_longer m es) (longer m share) (longer m a)

  all_longer : {p : Program} {scope : Scope} (further : Scope) {es : Exprs} {ds : List Declaration} → HaveTypes p scope es ds → HaveTypes p (scope ++ further) es ds
  all_longer m no_more = no_more
  all_longer m (more a es) = more (longer m a) (all_longer m es)

pub typed_longer : (p : Program) (scope m : Scope) (a : Assertion) → IsTyped p scope a → IsTyped p (scope ++ m) a
typed_longer p scope m (Pure e) t = longer m t
typed_longer p scope m (Points at e f share) t = (longer m t.0, t.1, longer m t.2)
typed_longer p scope m (Instance at i es share) t = ((t.0.0, t.0.1, all_longer m t.0.2), longer m t.1)
typed_longer p scope m (Both a b) t = (typed_longer p scope m a t.0, typed_longer p scope m b t.1)
typed_longer p scope m (Implied c a) t = (longer m t.0, typed_longer p scope m a t.1)
typed_longer p scope m (Chosen c a b) t = (longer m t.0, typed_longer p scope m a t.1, typed_longer p scope m b t.2)

pub all_typed_longer : (p : Program) (scope m : Scope) (rest : List Assertion) → AllTyped p scope rest → AllTyped p (scope ++ m) rest
all_typed_longer p scope m [] t = tt
all_typed_longer p scope m (a ∷ rest) t = (typed_longer p scope m a t.0, all_typed_longer p scope m rest t.1)

-- A block's scope goes on from the one before.

pub scope_more : (p : Program) (b : Block) (scope : Scope) → (more : Scope) × (scope_after_all p b scope ≡ scope ++ more)
scope_more p Done scope = ([], append_nil scope)
  where
    append_nil : (xs : Scope) → xs ≡ xs ++ []
    append_nil [] = refl
    append_nil (x ∷ xs) = ap (λ ys. x ∷ ys) (append_nil xs)
scope_more p (Then (Declare at x t) b) scope =
    let d : Declaration = record { name = x; of = t } in
    let r = scope_more p b (scope ++ d ∷ []) in (d ∷ r.0, r.1 ∙ append_assoc scope (d ∷ []) r.0)
scope_more p (Then st b) scope = scope_more p b scope
