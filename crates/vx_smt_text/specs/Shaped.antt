-- Terms that are written so that they can be read back.
use Rattle.std.specs.Prelude.{◌≡◌, ⊤, ◌<◌, ◌^◌, nat_abs, true}
use Rattle.vx_terms.specs.Terms.{Term, Truth, Number, Part, Constant, Apply, Not, Binary, Ite, AllOf, SomeOf, Terms, NoTerms, MoreTerms}
use Rattle.vx_smt_text.specs.Unique.{has_three}

-- Literals stay below 2^127; an application has arguments, and `and` and `or` of a list have three parts or more.
abbrev mutual
  pub IsShaped : Term → Type 0
  IsShaped (Truth b) = ⊤
  IsShaped (Number z) = nat_abs z < 2 ^ 127
  IsShaped (Part a) = nat_abs a.numerator < 2 ^ 127
  IsShaped (Constant f a) = ⊤
  IsShaped (Apply f a NoTerms) = ⊥
  IsShaped (Apply f a (MoreTerms t ts)) = IsShaped t × AreShaped ts
  IsShaped (Not t) = IsShaped t
  IsShaped (Binary o t u) = IsShaped t × IsShaped u
  IsShaped (Ite c t u) = IsShaped c × IsShaped t × IsShaped u
  IsShaped (AllOf ts) = (has_three ts ≡ true) × AreShaped ts
  IsShaped (SomeOf ts) = (has_three ts ≡ true) × AreShaped ts

  pub AreShaped : Terms → Type 0
  AreShaped NoTerms = ⊤
  AreShaped (MoreTerms t ts) = IsShaped t × AreShaped ts
