-- What is asked of an assertion that may apply functions, as a precondition of a function; its entries, and the tree of its values.
use Rattle.std.specs.Prelude.{◌≡◌, ℕ, true, ◌++◌, List, [], Option, Some, None, if◌then◌else◌}
use Rattle.vx_frac.specs.Fractions.{Fraction, is_positive}
use Rattle.vx_ast.specs.Syntax.{Name, Program, Expr, Not, Operate, Divide, Connect, Choose, Read, Old, Apply, Unfolding, Exprs, NoMore, More, Assertion, Pure, Points, Both, Implied, Chosen}
use Rattle.vx_ast.specs.Syntax as syntax
use Rattle.vx_terms.specs.Interpretations.{Tree, Empty, Pair}
use Rattle.vx_meaning.specs.Values.{◌>>=◌, Value, PermValue, is_true}
use Rattle.vx_meaning.specs.States.{State, Holdings, Instance}
use Rattle.vx_meaning.specs.Evaluate.{Applications, choose, value, values, applications}
use Rattle.vx_meaning.specs.Flatten.{no_applications, location_entry, instance_entry}
use Rattle.vx_sound.specs.Snapshots.{location_leaf, truth_leaf, tree_by}
use Rattle.vx_sound_preds.specs.Bodies.{AreRigid, Rigid}

-- an expression without `old`, whose applications are as `May` says
abbrev mutual
  pub Says : (Name → Exprs → Type 0) → Expr → Type 0
  Says May (Not at e) = Says May e
  Says May (Operate at op a b) = Says May a × Says May b
  Says May (Divide at op a b) = Says May a × Says May b
  Says May (Connect at c a b) = Says May a × Says May b
  Says May (Choose at c a b) = Says May c × Says May a × Says May b
  Says May (Read at e f) = Says May e
  Says May (Old at e) = ⊥
  Says May (Apply at f es) = May f es × AllSay May es
  Says May (Unfolding at i es share e) = AllSay May es × Says May share × Says May e
  Says May _ = Unit {0}

  pub AllSay : (Name → Exprs → Type 0) → Exprs → Type 0
  AllSay May NoMore = Unit {0}
  AllSay May (More e es) = Says May e × AllSay May es

-- an application's arguments are no amounts, where no variable is one
abbrev pub HasRigidArguments : Program → Name → Exprs → Type 0
HasRigidArguments p f es = (n : ℕ) (s : State) (vs : List Value) → Rigid s → values p (applications p n) s es ≡ Some vs → AreRigid vs

-- an amount that may apply functions, but is one fraction above none, whatever these are
pub record IsAskingAmount (p : Program) (share : Expr) : Type 0 where
  pub says : Says (HasRigidArguments p) share
  pub amount : Fraction
  pub above : is_positive amount ≡ true
  pub value_is : (ap : Applications) (s : State) → value p ap s share ≡ Some (PermValue amount)

-- an assertion that may apply functions: without `old`, and what functions and instances take is no amount
abbrev pub IsAsking : Program → Assertion → Type 0
IsAsking p (Pure e) = Says (HasRigidArguments p) e
IsAsking p (Points at e f share) = Says (HasRigidArguments p) e × IsAskingAmount p share
IsAsking p (syntax.Instance at i es share) = AllSay (HasRigidArguments p) es × IsAskingAmount p share × HasRigidArguments p i es
IsAsking p (Both a b) = IsAsking p a × IsAsking p b
IsAsking p (Implied c a) = Says (HasRigidArguments p) c × IsAsking p a
IsAsking p (Chosen c a b) = Says (HasRigidArguments p) c × IsAsking p a × IsAsking p b

-- the tree of an assertion's values, where f gives that of an instance within it, and what is applied has its value
abbrev pub asking_tree : Program → Applications → (Instance → Option Tree) → State → Assertion → Option Tree
asking_tree p ap f s (Pure e) = value p ap s e >>= truth_leaf
asking_tree p ap f s (Points at e x share) = value p ap s e >>= location_leaf p s.heap x
asking_tree p ap f s (syntax.Instance at i es share) = values p ap s es >>= λ vs. f record { predicate = i; arguments = vs }
asking_tree p ap f s (Both a b) = asking_tree p ap f s a >>= λ t. asking_tree p ap f s b >>= λ u. Some (Pair t u)
asking_tree p ap f s (Implied c a) = value p ap s c >>= λ v. choose v (asking_tree p ap f s a) (Some Empty)
asking_tree p ap f s (Chosen c a b) = value p ap s c >>= λ v. choose v (asking_tree p ap f s a) (asking_tree p ap f s b)

-- its entries; for amounts nothing need be applied
abbrev pub asking_entries : Program → Applications → State → Assertion → Option Holdings
asking_entries p ap s (Pure e) = value p ap s e >>= λ v. if is_true v then Some [] else None
asking_entries p ap s (Points at e f share) = value p ap s e >>= λ r. value p no_applications s share >>= location_entry f r
asking_entries p ap s (syntax.Instance at i es share) = values p ap s es >>= λ vs. value p no_applications s share >>= instance_entry i vs
asking_entries p ap s (Both a b) = asking_entries p ap s a >>= λ xs. asking_entries p ap s b >>= λ ys. Some (xs ++ ys)
asking_entries p ap s (Implied c a) = value p ap s c >>= λ v. choose v (asking_entries p ap s a) (Some [])
asking_entries p ap s (Chosen c a b) = value p ap s c >>= λ v. choose v (asking_entries p ap s a) (asking_entries p ap s b)

-- the tree of an assertion's values in a state
abbrev pub IsAskingTreeOf : Program → State → Assertion → Tree → Type 0
IsAskingTreeOf p s a t = (n : ℕ) × (asking_tree p (applications p n) (tree_by p n s.heap) s a ≡ Some t)
