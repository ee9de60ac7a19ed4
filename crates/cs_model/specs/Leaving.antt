-- Where the value of a term can't be told, since a number leaves 128 bits.
use Rattle.std.specs.Prelude.{◌≡◌, ◌⊎◌, false, ⊤, List, [], ◌∷◌}
use Rattle.vx_frac.specs.Fraction.{fraction}
use Rattle.vx_frac.specs.Fractions.{Fraction, whole}
use Rattle.vx_frac.specs.declared.Op.{Op}
use Rattle.vx_frac.specs.declared.Op.TheVariants as calls
use Rattle.vx_frac.specs.declared.Over.{Over}
use Rattle.vx_terms.specs.Sorts.{Operator, Add, Subtract, Multiply, Div, Mod}
use Rattle.vx_terms.specs.Terms.{Term, Apply, Not, Binary, Ite, AllOf, SomeOf, Terms, NoTerms, MoreTerms}
use Rattle.vx_terms.specs.Interpretations.{Element, RealElement, as_int, as_fraction, Interpretation, value}
use Rattle.cs_meter.specs.Calls.{call_fits}
use Rattle.cs_model.specs.declared.valuing.Stop.{Stop}
use Rattle.cs_model.specs.declared.valuing.Stop.TheVariants as stops

-- it is the call of these two fractions, and leaves 128 bits
pub record Leaves (op : Op) (a b : Fraction) (c : Over) : Type 0 where
  pub call : c.op ≡ op
  pub left : fraction c.a ≡ a
  pub right : fraction c.b ≡ b
  pub leaves : call_fits op a b ≡ false

-- a call of Int is one of whole numbers
abbrev pub LeavesInts : Op → Element → Element → Over → Type 0
LeavesInts op d e c = Leaves op (whole (as_int d)) (whole (as_int e)) c

abbrev pub LeavesNumbers : Op → Element → Element → Over → Type 0
LeavesNumbers op (RealElement a) e c = Leaves op a (as_fraction e) c
LeavesNumbers op d e c = LeavesInts op d e c

-- an operator on these elements makes the call; quotients and remainders are of Int
abbrev pub LeavesAt : Operator → Element → Element → Over → Type 0
LeavesAt Add d e c = LeavesNumbers calls.Add d e c
LeavesAt Subtract d e c = LeavesNumbers calls.Sub d e c
LeavesAt Multiply d e c = LeavesNumbers calls.Mul d e c
LeavesAt Div d e c = LeavesInts calls.Div d e c
LeavesAt Mod d e c = LeavesInts calls.Div d e c
LeavesAt _ d e c = ⊥

-- some operator in the term makes the call, by the values of its operands
abbrev mutual
  pub LeavesIn : Interpretation → Over → Term → Type 0
  LeavesIn i c (Apply f a ts) = LeavesInParts i c ts
  LeavesIn i c (Not t) = LeavesIn i c t
  LeavesIn i c (Binary o t u) = LeavesIn i c t ⊎ (LeavesIn i c u ⊎ LeavesAt o (value i t) (value i u) c)
  LeavesIn i c (Ite b t u) = LeavesIn i c b ⊎ (LeavesIn i c t ⊎ LeavesIn i c u)
  LeavesIn i c (AllOf ts) = LeavesInParts i c ts
  LeavesIn i c (SomeOf ts) = LeavesInParts i c ts
  LeavesIn i c _ = ⊥

  pub LeavesInParts : Interpretation → Over → Terms → Type 0
  LeavesInParts i c NoTerms = ⊥
  LeavesInParts i c (MoreTerms t ts) = LeavesIn i c t ⊎ LeavesInParts i c ts

-- some operator in one of the terms does
abbrev pub LeavesAmong : Interpretation → Over → List Term → Type 0
LeavesAmong i c [] = ⊥
LeavesAmong i c (t ∷ ts) = LeavesIn i c t ⊎ LeavesAmong i c ts

-- of a stop: where it is a call's, this holds of the call
abbrev pub IfOver : (Over → Type 0) → Stop → Type 0
IfOver P (stops.Over c) = P c
IfOver P stops.Want = ⊤
