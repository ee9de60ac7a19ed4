-- In a typed program the bodies of predicates are good, and speak of instances of predicates that they lead to.
use Rattle.std.proofs.Common.{◌≡◌, inl, inr, List, [], ◌∷◌, ◌++◌, Option, Some, None, refl, sym, ap, subst}
use Rattle.std.specs.Prelude.{flat_map}
use Rattle.vx_ast.specs.declared.Place.{Place}
use Rattle.vx_ast.specs.Syntax.{Name, joined, joined_with, conjoined, conjoined_with, place_of, And, Program, Kind, IsField, IsPredicate, IsFunction, IsMethod, Predicate, member_named, predicate_in, predicate_named, Expr, Number, Truth, Null, Part, Variable, Not, Operate, Divide, Connect, Choose, Read, Old, Apply, Unfolding, Exprs, NoMore, More, Assertion, Pure, Points, Instance, Both, Implied, Chosen}
use Rattle.vx_ast.specs.Mentions.{mentioned, mentioned_in, mentioned_by}
use Rattle.vx_types.specs.Typing.{HaveNoPerm, IsTypedContent}
use Rattle.vx_ast.specs.Apart.{Stands}
use Rattle.vx_ast.specs.Apart.{mentioned_by_body}
use Rattle.vx_types.specs.Premises.{IsTypedProgram}
use Rattle.vx_types.specs.Closure.{mentioned_by_kind, InClosure, further}
use Rattle.vx_sound.proofs.Speaks.{Speaks, AllSpeak, SpeaksOf}
use Rattle.vx_sound_preds.specs.Bodies.{Rigid, IsPlain, ArePlain, IsPlainBody, GoodBodies}
use Rattle.vx_sound_preds.proofs.Typed.{on_left, on_right, good_bodies}
use Rattle.vx_sound_preds.proofs.Unfolds.{BodiesSpeak}

-- the member of a predicate
pub predicate_member : (o : Option Kind) (d : Predicate) → predicate_in o ≡ Some d → o ≡ Some (IsPredicate d)
predicate_member (Some (IsPredicate e)) d h = ap (λ (d : Predicate). Some (IsPredicate d)) (same_some e d h)
  where
    same_some : (a b : Predicate) → Some a ≡ Some b → a ≡ b
    same_some a b e = cc
predicate_member None d h = cc
predicate_member (Some (IsField t)) d h = cc
predicate_member (Some (IsFunction g)) d h = cc
predicate_member (Some (IsMethod m)) d h = cc

module _ (p : Program) (x : Name) where
  -- x leads to all of these
  abbrev pub AllSeen : List Name → Type 0
  AllSeen ys = (y : Name) → Stands y ys → InClosure p x y

  pub lefts : (ys zs : List Name) → AllSeen (ys ++ zs) → AllSeen ys
  lefts ys zs k y s = k y (on_left y ys zs s)

  pub rights : (ys zs : List Name) → AllSeen (ys ++ zs) → AllSeen zs
  rights ys zs k y s = k y (on_right y ys zs s)

  pub both_seen : (ys zs : List Name) → AllSeen ys → AllSeen zs → AllSeen (ys ++ zs)
  both_seen [] zs k l z s = l z s
  both_seen (y ∷ ys) zs k l z (inl e) = k z (inl e)
  both_seen (y ∷ ys) zs k l z (inr s) = both_seen ys zs (λ w t. k w (inr t)) l z s

  joined_with_seen : (a : Assertion) (rest : List Assertion) → AllSeen (mentioned_by a) → AllSeen (flat_map mentioned_by rest) → AllSeen (mentioned_by (joined_with a rest))
  joined_with_seen a [] k l = k
  joined_with_seen a (b ∷ rest) k l =
      joined_with_seen (Both a b) rest (both_seen (mentioned_by a) (mentioned_by b) k (lefts (mentioned_by b) (flat_map mentioned_by rest) l)) (rights (mentioned_by b) (flat_map mentioned_by rest) l)

  -- clauses that are joined mention what each mentions
  pub joined_seen : (at : Place) (rest : List Assertion) → AllSeen (flat_map mentioned_by rest) → AllSeen (mentioned_by (joined at rest))
  joined_seen at [] k y s = absurd s
  joined_seen at (a ∷ rest) k y s = joined_with_seen a rest (lefts (mentioned_by a) (flat_map mentioned_by rest) k) (rights (mentioned_by a) (flat_map mentioned_by rest) k) y s

  conjoined_with_seen : (e : Expr) (rest : List Expr) → AllSeen (mentioned e) → AllSeen (flat_map mentioned rest) → AllSeen (mentioned (conjoined_with e rest))
  conjoined_with_seen e [] k l = k
  conjoined_with_seen e (b ∷ rest) k l =
      conjoined_with_seen (Connect (place_of e) And e b) rest (both_seen (mentioned e) (mentioned b) k (lefts (mentioned b) (flat_map mentioned rest) l)) (rights (mentioned b) (flat_map mentioned rest) l)

  pub conjoined_seen : (at : Place) (rest : List Expr) → AllSeen (flat_map mentioned rest) → AllSeen (mentioned (conjoined at rest))
  conjoined_seen at [] k y s = absurd s
  conjoined_seen at (e ∷ rest) k y s = conjoined_with_seen e rest (lefts (mentioned e) (flat_map mentioned rest) k) (rights (mentioned e) (flat_map mentioned rest) k) y s

  -- a predicate's body mentions only what it leads to
  body_seen : (i : Name) (d : Predicate) (a : Assertion) → InClosure p x i → predicate_named p i ≡ Some d → d.body ≡ Some a → AllSeen (mentioned_by a)
  body_seen i d a c is body y s =
      further c (subst (λ (o : Option Kind). Stands y (mentioned_by_kind p o)) (sym (predicate_member (member_named p i) d is)) (subst (λ (b : Option Assertion). Stands y (mentioned_by_body b)) (sym body) s))

  abbrev Held : Name → Type 0
  Held = InClosure p x

  mutual
    plain : (e : Expr) → IsPlain e → AllSeen (mentioned e) → Speaks Held (λ f. ⊥) e
    plain (Number at n) k s = tt
    plain (Truth at b) k s = tt
    plain (Null at) k s = tt
    plain (Part at n d) k s = tt
    plain (Variable at y) k s = tt
    plain (Not at e) k s = plain e k s
    plain (Operate at op a b) k s = (plain a k.0 (lefts (mentioned a) (mentioned b) s), plain b k.1 (rights (mentioned a) (mentioned b) s))
    plain (Divide at op a b) k s = (plain a k.0 (lefts (mentioned a) (mentioned b) s), plain b k.1 (rights (mentioned a) (mentioned b) s))
    plain (Connect at c a b) k s = (plain a k.0 (lefts (mentioned a) (mentioned b) s), plain b k.1 (rights (mentioned a) (mentioned b) s))
    plain (Choose at c a b) k s =
        let first = lefts (mentioned c ++ mentioned a) (mentioned b) s in (
          plain c k.0 (lefts (mentioned c) (mentioned a) first),
          plain a k.1 (rights (mentioned c) (mentioned a) first),
          plain b k.2 (rights (mentioned c ++ mentioned a) (mentioned b) s),
        )
    plain (Read at e f) k s = plain e k s
    plain (Old at e) k s = absurd k
    plain (Apply at f es) k s = absurd k
    plain (Unfolding at i es share e) k s =
        let rest = rights (i ∷ []) (mentioned_in es ++ mentioned share ++ mentioned e) s in
        let first = lefts (mentioned_in es ++ mentioned share) (mentioned e) rest in (
          s i (inl refl),
          all_plain es k.0 (lefts (mentioned_in es) (mentioned share) first),
          plain share k.1 (rights (mentioned_in es) (mentioned share) first),
          plain e k.2 (rights (mentioned_in es ++ mentioned share) (mentioned e) rest),
        )

    all_plain : (es : Exprs) → ArePlain es → AllSeen (mentioned_in es) → AllSpeak Held (λ f. ⊥) es
    all_plain NoMore k s = tt
    all_plain (More e es) k s = (plain e k.0 (lefts (mentioned e) (mentioned_in es) s), all_plain es k.1 (rights (mentioned e) (mentioned_in es) s))

  pub plain_body : (a : Assertion) → IsPlainBody p Rigid a → AllSeen (mentioned_by a) → SpeaksOf Held (λ f. ⊥) a
  plain_body (Pure e) k s = plain e k s
  plain_body (Points at e f share) k s = (plain e k.0 (lefts (mentioned e) (mentioned share) s), plain share k.1.plain (rights (mentioned e) (mentioned share) s))
  plain_body (Instance at i es share) k s =
      let rest = rights (i ∷ []) (mentioned_in es ++ mentioned share) s in
      (s i (inl refl), all_plain es k.0 (lefts (mentioned_in es) (mentioned share) rest), plain share k.1.plain (rights (mentioned_in es) (mentioned share) rest))
  plain_body (Both a b) k s = (plain_body a k.0 (lefts (mentioned_by a) (mentioned_by b) s), plain_body b k.1 (rights (mentioned_by a) (mentioned_by b) s))
  plain_body (Implied c a) k s = (plain c k.0 (lefts (mentioned c) (mentioned_by a) s), plain_body a k.1 (rights (mentioned c) (mentioned_by a) s))
  plain_body (Chosen c a b) k s =
      let first = lefts (mentioned c ++ mentioned_by a) (mentioned_by b) s in (
        plain c k.0 (lefts (mentioned c) (mentioned_by a) first),
        plain_body a k.1 (rights (mentioned c) (mentioned_by a) first),
        plain_body b k.2 (rights (mentioned c ++ mentioned_by a) (mentioned_by b) s),
      )

  module _ (typed : IsTypedProgram p) where
    pub good : GoodBodies p
    good = good_bodies p typed

    pub no_perm : (i : Name) (d : Predicate) → predicate_named p i ≡ Some d → HaveNoPerm d.parameters
    no_perm i d e = (typed.predicates i d e).parameters

    pub speak : BodiesSpeak p (InClosure p x)
    speak i d e held named body = (subst (IsTypedContent p d.parameters) body (typed.predicates i d named).body, plain_body e (good.plain i d e named body) (body_seen i d e held named body))
