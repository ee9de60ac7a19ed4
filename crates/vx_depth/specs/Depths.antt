-- When the rules of two depths give the same trees. Source of the rules: the Silicon thesis.
use Rattle.std.specs.Prelude.{◌≡◌, ℕ, List, Option}
use Rattle.vx_ast.specs.Syntax.{Program, Expr, Exprs, Assertion, Stmt, Block}
use Rattle.vx_terms.specs.Terms.{Term}
use Rattle.vx_rules.specs.States.{Heap, State}
use Rattle.vx_rules.specs.Trees.{Tree}
use Rattle.vx_rules.specs.Rules.{Giving, Going, GivingAll, Context, outer}
use Rattle.vx_rules.specs.Rules as rules
use Rattle.vx_rules.specs.Members as members

-- what follows is the same from states of a level
abbrev pub SameGiving : ℕ → Giving → Giving → Type 0
SameGiving l on other = (t : Term) (s : State) → s.level ≡ l → on t s ≡ other t s

abbrev pub SameGivingAll : ℕ → GivingAll → GivingAll → Type 0
SameGivingAll l on other = (ts : List Term) (s : State) → s.level ≡ l → on ts s ≡ other ts s

abbrev pub SameGoing : ℕ → Going → Going → Type 0
SameGoing l on other = (s : State) → s.level ≡ l → on s ≡ other s

-- the trees are the same, from each state of a level, where what follows is
abbrev pub EvalSame : ℕ → (Expr → State → Giving → Tree) → (Expr → State → Giving → Tree) → Expr → Type 0
EvalSame l f g e = (s : State) → s.level ≡ l → (on other : Giving) → SameGiving l on other → f e s on ≡ g e s other

abbrev pub EvalsSame : ℕ → (Exprs → State → GivingAll → Tree) → (Exprs → State → GivingAll → Tree) → Exprs → Type 0
EvalsSame l f g es = (s : State) → s.level ≡ l → (on other : GivingAll) → SameGivingAll l on other → f es s on ≡ g es s other

abbrev pub ProduceSame : ℕ → (Assertion → Term → Option Term → State → Going → Tree) → (Assertion → Term → Option Term → State → Going → Tree) → Assertion → Type 0
ProduceSame l f g a =
    (scale : Term) (snapshot : Option Term) (s : State) → s.level ≡ l → (on other : Going) → SameGoing l on other → f a scale snapshot s on ≡ g a scale snapshot s other

abbrev pub ConsumeSame : ℕ → (Assertion → Context → Term → Heap → State → Giving → Tree) → (Assertion → Context → Term → Heap → State → Giving → Tree) → Assertion → Type 0
ConsumeSame l f g a =
    (x : Context) (scale : Term) (h : Heap) (s : State) → s.level ≡ l → (on other : Giving) → SameGiving l on other → f a x scale h s on ≡ g a x scale h s other

abbrev pub ExecSame : {A : Type 0} → (A → State → Going → Tree) → (A → State → Going → Tree) → A → Type 0
ExecSame f g a = (s : State) → s.level ≡ 0 → (on other : Going) → SameGoing 0 on other → f a s on ≡ g a s other

-- each rule over the rules of the one depth gives the tree that it gives over those of the other
pub record SameRules (p : Program) (c d : ℕ) : Type 0 where
  pub eval : (e : Expr) → EvalSame 0 (rules.eval p (outer p c)) (rules.eval p (outer p d)) e
  pub evals : (es : Exprs) → EvalsSame 0 (rules.evals p (outer p c)) (rules.evals p (outer p d)) es
  pub produce : (a : Assertion) → ProduceSame 0 (rules.produce p (outer p c)) (rules.produce p (outer p d)) a
  pub consume : (a : Assertion) → ConsumeSame 0 (rules.consume p (outer p c)) (rules.consume p (outer p d)) a
  pub exec : (st : Stmt) → ExecSame (members.exec p (outer p c)) (members.exec p (outer p d)) st
  pub exec_all : (b : Block) → ExecSame (members.exec_all p (outer p c)) (members.exec_all p (outer p d)) b

-- from states of a level, what stands in another member is read as the rules over themselves read it: no depth is seen
pub record ReadsItself (p : Program) (l : ℕ) : Type 0 where
  pub eval : (e : Expr) → EvalSame l (members.rules p).eval (rules.eval p (members.rules p)) e
  pub evals : (es : Exprs) → EvalsSame l (members.rules p).evals (rules.evals p (members.rules p)) es
  pub produce : (a : Assertion) → ProduceSame l (members.rules p).produce (rules.produce p (members.rules p)) a
  pub consume : (a : Assertion) → ConsumeSame l (members.rules p).consume (rules.consume p (members.rules p)) a
