-- An exposed tree of flat questions is exposed by an interpretation that has references: the trees are renamed that the question at the place mentions.
use Rattle.std.proofs.Common.{◌≡◌, inl, inr, List, [], ◌∷◌, ◌++◌, refl}
use Rattle.vx_ast.specs.declared.Place.{Place}
use Rattle.vx_meaning.specs.Values.{RefValue}
use Rattle.vx_terms.specs.Terms.{Term, Truth, Number, Part, Constant, Apply, Not, Binary, Ite, AllOf, SomeOf, Terms, NoTerms, MoreTerms}
use Rattle.vx_terms.specs.Build.{null, negate}
use Rattle.vx_terms.specs.Interpretations.{Tree as Element_tree, Element, IntElement, BoolElement, RealElement, TreeElement, as_tree, Interpretation, value, AllTrue, Each}
use Rattle.vx_rules.specs.Trees.{Code, Question, Tree, End, Impossible, On, Step, Ask, Probe, Fork}
use Rattle.vx_elements.proofs.Elements.{element}
use Rattle.vx_sound.proofs.Standard.{IsStandard}
use Rattle.vx_real.specs.Exposed.{Exposed}
use Rattle.vx_real.proofs.Matched.{HasReferences}
use Rattle.vx_real.proofs.Flat.{IsFlat, negate_flat}
use Rattle.vx_real.proofs.FlatSteps.{AllFlat}
use Rattle.vx_real.proofs.Renamed.{Found, renamed, renamed_standard, renamed_null, renamed_references, Known, Within, AllWithin, true_renamed}

found_left : (t : Element_tree) (xs ys : List Element_tree) → Found t xs → Found t (xs ++ ys)
found_left t [] ys h = absurd h
found_left t (x ∷ xs) ys (inl e) = inl e
found_left t (x ∷ xs) ys (inr h) = inr (found_left t xs ys h)

found_right : (t : Element_tree) (xs ys : List Element_tree) → Found t ys → Found t (xs ++ ys)
found_right t [] ys h = h
found_right t (x ∷ xs) ys h = inr (found_right t xs ys h)

module _ (i : Interpretation) where
  -- the trees of the symbols in a term
  abbrev mutual
    trees_of : Term → List Element_tree
    trees_of (Truth b) = []
    trees_of (Number z) = []
    trees_of (Part a) = []
    trees_of (Constant f a) = as_tree (value i (Constant f a)) ∷ []
    trees_of (Apply f a ts) = []
    trees_of (Not t) = trees_of t
    trees_of (Binary o t u) = trees_of t ++ trees_of u
    trees_of (Ite c t u) = trees_of c ++ (trees_of t ++ trees_of u)
    trees_of (AllOf ts) = trees_in ts
    trees_of (SomeOf ts) = trees_in ts

    trees_in : Terms → List Element_tree
    trees_in NoTerms = []
    trees_in (MoreTerms t ts) = trees_of t ++ trees_in ts

  abbrev all_trees : List Term → List Element_tree
  all_trees [] = []
  all_trees (t ∷ ts) = trees_of t ++ all_trees ts

  module _ (trees : List Element_tree) where
    abbrev Has : List Element_tree → Type 0
    Has xs = (t : Element_tree) → Found t xs → Found t trees

    lefts : (xs ys : List Element_tree) → Has (xs ++ ys) → Has xs
    lefts xs ys h t f = h t (found_left t xs ys f)

    rights : (xs ys : List Element_tree) → Has (xs ++ ys) → Has ys
    rights xs ys h t f = h t (found_right t xs ys f)

    known_tree : (e : Element) → Has (as_tree e ∷ []) → Known i trees e
    known_tree (TreeElement t) h = inr (h t (inl refl))
    known_tree (IntElement z) h = tt
    known_tree (BoolElement b) h = tt
    known_tree (RealElement a) h = tt

    mutual
      within : (t : Term) → Has (trees_of t) → Within i trees t
      within (Truth b) h = tt
      within (Number z) h = tt
      within (Part a) h = tt
      within (Constant f a) h = known_tree (value i (Constant f a)) h
      within (Apply f a ts) h = tt
      within (Not t) h = within t h
      within (Binary o t u) h = (within t (lefts (trees_of t) (trees_of u) h), within u (rights (trees_of t) (trees_of u) h))
      within (Ite c t u) h =
          let r = rights (trees_of c) (trees_of t ++ trees_of u) h in
          (within c (lefts (trees_of c) (trees_of t ++ trees_of u) h), within t (lefts (trees_of t) (trees_of u) r), within u (rights (trees_of t) (trees_of u) r))
      within (AllOf ts) h = all_within ts h
      within (SomeOf ts) h = all_within ts h

      all_within : (ts : Terms) → Has (trees_in ts) → AllWithin i trees ts
      all_within NoTerms h = tt
      all_within (MoreTerms t ts) h = (within t (lefts (trees_of t) (trees_in ts) h), all_within ts (rights (trees_of t) (trees_in ts) h))

    all_renamed : (ts : List Term) → Each IsFlat ts → Has (all_trees ts) → AllTrue i ts → AllTrue (renamed i trees) ts
    all_renamed [] f h told = tt
    all_renamed (t ∷ ts) f h told =
        (true_renamed i trees t f.0 (within t (lefts (trees_of t) (all_trees ts) h)) told.0, all_renamed ts f.1 (rights (trees_of t) (all_trees ts) h) told.1)

-- exposed by an interpretation that has references
pub record ExposedBy (at : Place) (code : Code) (t : Tree) : Type 0 where
  pub interpretation : Interpretation
  pub references : HasReferences interpretation
  pub null_is : value interpretation null ≡ element (RefValue 0)
  pub standard : IsStandard interpretation
  pub exposed : Exposed interpretation at code t

module _ (i : Interpretation) (at : Place) (code : Code) where
  onto : {t u : Tree} → ((j : Interpretation) → Exposed j at code t → Exposed j at code u) → ExposedBy at code t → ExposedBy at code u
  onto f x = record { interpretation = x.interpretation; references = x.references; null_is = x.null_is; standard = x.standard; exposed = f x.interpretation x.exposed }

  asked : (q : Question) (t : Tree) → IsFlat q.condition → Each IsFlat q.path → (q.place ≡ at) × (q.code ≡ code) × AllTrue i (negate q.condition ∷ q.path) → ExposedBy at code (Ask q t)
  asked q t c path x =
      let ts = negate q.condition ∷ q.path in
      let trees = all_trees i (negate q.condition ∷ q.path) in
      record {
        interpretation = renamed i trees;
        references = renamed_references i trees;
        null_is = renamed_null i trees;
        standard = renamed_standard i trees;
        exposed = inl (x.0, x.1, all_renamed i trees ts (negate_flat q.condition c, path) (λ t f. f) x.2);
      }

  pub chosen : (t : Tree) → AllFlat t → Exposed i at code t → ExposedBy at code t
  chosen End f x = absurd x
  chosen (Impossible s) f x = absurd x
  chosen (On t s) f x = absurd x
  chosen (Step t) f x = onto {t = t} (λ j y. y) (chosen t f x)
  chosen (Ask q t) f (inl x) = asked q t f.0.0 f.0.1 x
  chosen (Ask q t) f (inr x) = onto {t = t} (λ j y. inr y) (chosen t f.1 x)
  chosen (Probe q a b) f (inl x) = onto {t = a} (λ j y. inl y) (chosen a f.1 x)
  chosen (Probe q a b) f (inr x) = onto {t = b} (λ j y. inr y) (chosen b f.2 x)
  chosen (Fork a b) f (inl x) = onto {t = a} (λ j y. inl y) (chosen a f.0 x)
  chosen (Fork a b) f (inr x) = onto {t = b} (λ j y. inr y) (chosen b f.1 x)
