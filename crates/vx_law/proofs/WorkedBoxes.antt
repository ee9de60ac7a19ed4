-- The law at work where a function reads what is within an instance, and another one applies it.
use Rattle.std.proofs.Common.{◌≡◌, inl, inr, List, [], ◌∷◌, Some, refl, sym, ◌∙◌, ap, subst}
use Rattle.std.proofs.lemmas.Option.{same_Some}
use Rattle.vx_frac.specs.Fractions.{lowest}
use Rattle.vx_ast.specs.Syntax.{Name, Kind, IsPredicate, IsFunction, member_named}
use Rattle.vx_ast.specs.Apart.{Stands}
use Rattle.vx_meaning.specs.Fails.{Fails}
use Rattle.vx_terms.specs.Interpretations.{Each}
use Rattle.vx_rules.specs.Members.{rules}
use Rattle.vx_types.specs.Closure.{InClosure, itself, further, mentions}
use Rattle.vx_sound.specs.Law.{Passes}
use Rattle.vx_sound_preds.specs.Examples.{P}
use Rattle.vx_sound_funcs.specs.Examples.{box, get, getter, twice, doubler, boxes}
use Rattle.vx_sound_funcs.proofs.WorkedTyped.{boxes_typed}
use Rattle.vx_law.proofs.Members.{members_sound}

-- no walk of these asks a question

predicate_passes : Passes boxes P (IsPredicate box) []
unfolding lowest rules
predicate_passes = (refl, tt)

getter_passes : Passes boxes get (IsFunction getter) []
unfolding lowest rules
getter_passes = (refl, tt)

doubler_passes : Passes boxes twice (IsFunction doubler) []
unfolding lowest rules
doubler_passes = (refl, tt)

-- what `twice` leads to

abbrev Known : Name → Type 0
Known y = Stands y (twice ∷ get ∷ P ∷ [])

known_of : (y : Name) (ys : List Name) → Each Known ys → Stands y ys → Known y
known_of y [] k h = absurd h
known_of y (z ∷ ys) k (inl e) = subst Known (sym e) k.0
known_of y (z ∷ ys) k (inr h) = known_of y ys k.1 h

mentions_known : (z : Name) → Known z → Each Known (mentions boxes z)
mentions_known z (inl e) = subst (λ (z : Name). Each Known (mentions boxes z)) (sym e) (inr (inl refl), (inr (inl refl), (inr (inr (inl refl)), (inr (inl refl), (inr (inl refl), tt)))))
mentions_known z (inr (inl e)) = subst (λ (z : Name). Each Known (mentions boxes z)) (sym e) (inr (inr (inl refl)), (inr (inr (inl refl)), tt))
mentions_known z (inr (inr (inl e))) = subst (λ (z : Name). Each Known (mentions boxes z)) (sym e) tt
mentions_known z (inr (inr (inr h))) = absurd h

leads_to_known : (y : Name) → InClosure boxes twice y → Known y
leads_to_known y itself = inl refl
leads_to_known y (further {y = z} k h) = known_of y (mentions boxes z) (mentions_known z (leads_to_known z k)) h

one_passes : (z : Name) (k : Kind) → member_named boxes z ≡ Some k → Passes boxes z k [] → (y : Name) (l : Kind) → y ≡ z → member_named boxes y ≡ Some l → Passes boxes y l []
one_passes z k named pass y l e is =
    subst (λ (y : Name). Passes boxes y l []) (sym e) (subst (λ (l : Kind). Passes boxes z l []) (same_Some k l (sym named ∙ ap (λ (y : Name). member_named boxes y) (sym e) ∙ is)) pass)

closed : (y : Name) (l : Kind) → InClosure boxes twice y → member_named boxes y ≡ Some l → Passes boxes y l []
closed y l leads is = go (leads_to_known y leads)
  where
    go : Known y → Passes boxes y l []
    go (inl e) = one_passes twice (IsFunction doubler) refl doubler_passes y l e is
    go (inr (inl e)) = one_passes get (IsFunction getter) refl getter_passes y l e is
    go (inr (inr (inl e))) = one_passes P (IsPredicate box) refl predicate_passes y l e is
    go (inr (inr (inr h))) = absurd h

pub twice_never_fails : Fails boxes twice (IsFunction doubler) → ⊥
twice_never_fails = members_sound boxes twice (IsFunction doubler) (λ y. []) boxes_typed refl closed
