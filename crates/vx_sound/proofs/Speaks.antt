-- What speaks of fields, of instances of predicates of which instances can be held, and of functions that may be applied.
use Rattle.std.proofs.Common.{List, [], ◌∷◌}
use Rattle.vx_ast.specs.Syntax.{Name, joined, joined_with, Expr, Number, Truth, Null, Part, Variable, Not, Operate, Divide, Connect, Choose, Read, Old, Apply, Unfolding, Exprs, NoMore, More, Assertion, Pure, Points, Instance, Both, Implied, Chosen}
use Rattle.vx_ast.specs.declared.Place.{Place}
use Rattle.vx_types.specs.FieldLanguage.{InFields, IsOfFields, AreOfFields}
use Rattle.vx_types.specs.CallLanguage.{AreInFields}

module _ (Held Applied : Name → Type 0) where
  abbrev mutual
    pub Speaks : Expr → Type 0
    Speaks (Number at n) = Unit {0}
    Speaks (Truth at b) = Unit {0}
    Speaks (Null at) = Unit {0}
    Speaks (Part at n d) = Unit {0}
    Speaks (Variable at x) = Unit {0}
    Speaks (Not at e) = Speaks e
    Speaks (Operate at op a b) = Speaks a × Speaks b
    Speaks (Divide at op a b) = Speaks a × Speaks b
    Speaks (Connect at c a b) = Speaks a × Speaks b
    Speaks (Choose at c a b) = Speaks c × Speaks a × Speaks b
    Speaks (Read at e f) = Speaks e
    Speaks (Old at e) = Speaks e
    Speaks (Apply at f es) = Applied f × AllSpeak es
    Speaks (Unfolding at i es share e) = Held i × AllSpeak es × Speaks share × Speaks e

    pub AllSpeak : Exprs → Type 0
    AllSpeak NoMore = Unit {0}
    AllSpeak (More e es) = Speaks e × AllSpeak es

  abbrev pub SpeaksOf : Assertion → Type 0
  SpeaksOf (Pure e) = Speaks e
  SpeaksOf (Points at e f share) = Speaks e × Speaks share
  SpeaksOf (Instance at i es share) = Held i × AllSpeak es × Speaks share
  SpeaksOf (Both a b) = SpeaksOf a × SpeaksOf b
  SpeaksOf (Implied c a) = Speaks c × SpeaksOf a
  SpeaksOf (Chosen c a b) = Speaks c × SpeaksOf a × SpeaksOf b

  abbrev pub AllSpeakOf : List Assertion → Type 0
  AllSpeakOf [] = Unit {0}
  AllSpeakOf (a ∷ rest) = SpeaksOf a × AllSpeakOf rest

  joined_with_speaks : (a : Assertion) (rest : List Assertion) → SpeaksOf a → AllSpeakOf rest → SpeaksOf (joined_with a rest)
  joined_with_speaks a [] k ks = k
  joined_with_speaks a (b ∷ rest) k ks = joined_with_speaks (Both a b) rest (k, ks.0) ks.1

  pub joined_speaks : (at : Place) (rest : List Assertion) → AllSpeakOf rest → SpeaksOf (joined at rest)
  joined_speaks at [] h = tt
  joined_speaks at (a ∷ rest) h = joined_with_speaks a rest h.0 h.1

  -- What speaks of fields alone does.

  pub fields_speak : (e : Expr) → InFields e → Speaks e
  fields_speak (Number at n) k = tt
  fields_speak (Truth at b) k = tt
  fields_speak (Null at) k = tt
  fields_speak (Part at n d) k = tt
  fields_speak (Variable at x) k = tt
  fields_speak (Not at e) k = fields_speak e k
  fields_speak (Operate at op a b) k = (fields_speak a k.0, fields_speak b k.1)
  fields_speak (Divide at op a b) k = (fields_speak a k.0, fields_speak b k.1)
  fields_speak (Connect at c a b) k = (fields_speak a k.0, fields_speak b k.1)
  fields_speak (Choose at c a b) k = (fields_speak c k.0, fields_speak a k.1, fields_speak b k.2)
  fields_speak (Read at e f) k = fields_speak e k
  fields_speak (Old at e) k = fields_speak e k
  fields_speak (Apply at f es) k = absurd k
  fields_speak (Unfolding at i es share e) k = absurd k

  pub all_fields_speak : (es : Exprs) → AreInFields es → AllSpeak es
  all_fields_speak NoMore k = tt
  all_fields_speak (More e es) k = (fields_speak e k.0, all_fields_speak es k.1)

  pub of_fields_speaks : (a : Assertion) → IsOfFields a → SpeaksOf a
  of_fields_speaks (Pure e) k = fields_speak e k
  of_fields_speaks (Points at e f share) k = (fields_speak e k.0, fields_speak share k.1)
  of_fields_speaks (Instance at i es share) k = absurd k
  of_fields_speaks (Both a b) k = (of_fields_speaks a k.0, of_fields_speaks b k.1)
  of_fields_speaks (Implied c a) k = (fields_speak c k.0, of_fields_speaks a k.1)
  of_fields_speaks (Chosen c a b) k = (fields_speak c k.0, of_fields_speaks a k.1, of_fields_speaks b k.2)

  pub are_of_fields_speak : (rest : List Assertion) → AreOfFields rest → AllSpeakOf rest
  are_of_fields_speak [] k = tt
  are_of_fields_speak (a ∷ rest) k = (of_fields_speaks a k.0, are_of_fields_speak rest k.1)

-- What applies nothing speaks of any applications.
module _ (Held Applied : Name → Type 0) where
  mutual
    pub speaks_anyway : (e : Expr) → Speaks Held (λ f. ⊥) e → Speaks Held Applied e
    speaks_anyway (Number at n) k = tt
    speaks_anyway (Truth at b) k = tt
    speaks_anyway (Null at) k = tt
    speaks_anyway (Part at n d) k = tt
    speaks_anyway (Variable at x) k = tt
    speaks_anyway (Not at e) k = speaks_anyway e k
    speaks_anyway (Operate at op a b) k = (speaks_anyway a k.0, speaks_anyway b k.1)
    speaks_anyway (Divide at op a b) k = (speaks_anyway a k.0, speaks_anyway b k.1)
    speaks_anyway (Connect at c a b) k = (speaks_anyway a k.0, speaks_anyway b k.1)
    speaks_anyway (Choose at c a b) k = (speaks_anyway c k.0, speaks_anyway a k.1, speaks_anyway b k.2)
    speaks_anyway (Read at e f) k = speaks_anyway e k
    speaks_anyway (Old at e) k = speaks_anyway e k
    speaks_anyway (Apply at f es) k = absurd k.0
    speaks_anyway (Unfolding at i es share e) k = (k.0, all_speak_anyway es k.1, speaks_anyway share k.2, speaks_anyway e k.3)

    pub all_speak_anyway : (es : Exprs) → AllSpeak Held (λ f. ⊥) es → AllSpeak Held Applied es
    all_speak_anyway NoMore k = tt
    all_speak_anyway (More e es) k = (speaks_anyway e k.0, all_speak_anyway es k.1)

  pub body_speaks : (a : Assertion) → SpeaksOf Held (λ f. ⊥) a → SpeaksOf Held Applied a
  body_speaks (Pure e) k = speaks_anyway e k
  body_speaks (Points at e f share) k = (speaks_anyway e k.0, speaks_anyway share k.1)
  body_speaks (Instance at i es share) k = (k.0, all_speak_anyway es k.1, speaks_anyway share k.2)
  body_speaks (Both a b) k = (body_speaks a k.0, body_speaks b k.1)
  body_speaks (Implied c a) k = (speaks_anyway c k.0, body_speaks a k.1)
  body_speaks (Chosen c a b) k = (speaks_anyway c k.0, body_speaks a k.1, body_speaks b k.2)
