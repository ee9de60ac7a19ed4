-- An assignment that satisfies all clauses of a grounded stack makes a model.
use Rattle.cs_certificate.specs.Terms.{numbered}
use Rattle.cs_certificate.specs.Certificate.{Stack, State, Contains}
use Rattle.vx_terms.specs.Terms.{Term}
use Rattle.cs_classes.specs.Elements.{Assignment}
use Rattle.cs_classes.specs.Agreement.{HasNoNumber, Agrees}
use Rattle.cs_classes.specs.Laws.{IsAssigned}
use Rattle.cs_ground.specs.Ground.{IsFormed, IsGrounded, Satisfies}
use Rattle.cs_ground.specs.Classed.{AreSame, AreClassed}

-- what is the same is so in either order, and goes on from term to term
pub record IsEquivalence (stack : Stack) (s : State) (v : Assignment) : Type 0 where
  pub turned : (x y : Term) → AreSame s v x y → AreSame s v y x
  pub joined : (x y z : Term) → Contains (numbered stack.assertions) x → Contains (numbered stack.assertions) y → Contains (numbered stack.assertions) z → AreSame s v x y → AreSame s v y z → AreSame s v x z

abbrev pub SatisfiedIsEquivalence : Type 0
SatisfiedIsEquivalence = (stack : Stack) (s : State) (v : Assignment) → IsFormed stack → IsGrounded stack s → Satisfies v s → IsEquivalence stack s v

-- with classes of what is the same, it agrees with the rows of Bool terms and with congruence
abbrev pub SatisfiedAgrees : Type 0
SatisfiedAgrees = (stack : Stack) (s : State) (v : Assignment) → IsFormed stack → IsGrounded stack s → Satisfies v s → AreClassed stack s v → Agrees (numbered stack.assertions) v

-- so where there are no numbers, it makes a model of the assertions
abbrev pub SatisfiedAssigns : Type 0
SatisfiedAssigns = (stack : Stack) (s : State) (v : Assignment) → IsFormed stack → HasNoNumber (numbered stack.assertions) → IsGrounded stack s → Satisfies v s → AreClassed stack s v → IsAssigned stack.assertions v
