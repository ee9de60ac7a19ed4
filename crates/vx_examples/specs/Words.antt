-- Words that the examples share.
use Rattle.std.specs.Prelude.{◌≡◌, Ok, Err, ℕ, true, false, ℤ, pos, List, [], ◌∷◌, ◌++◌, Some, None}
use Rattle.vx_ast.specs.declared.Place.{Place}
use Rattle.vx_ast.specs.Syntax.{Name, Program, member_named}
use Rattle.vx_meaning.specs.States as meant
use Rattle.vx_meaning.specs.States.{Holdings}
use Rattle.vx_meaning.specs.Fits.{Checked}
use Rattle.vx_smt_meaning.specs.declared.reply.Reply.{Reply}
use Rattle.vx_smt_meaning.specs.declared.reply.Reply.TheVariants.{Unsat, Sat}
use Rattle.vx_terms.specs.Sorts as sort
use Rattle.vx_terms.specs.Sorts.{IntSort, BoolSort, RealSort, RefSort, SnapSort, Sort}
use Rattle.vx_terms.specs.Terms as term
use Rattle.vx_terms.specs.Terms.{Term, Terms, NoTerms, MoreTerms}
use Rattle.vx_rules.specs.Trees.{Code, Question, Tree, End, Impossible, On, Step, Ask, Probe, Fork, Ending, Answered, Walked, walk}
use Rattle.vx_rules.specs.Members.{tree}

abbrev pub at : ℕ → ℕ → Place
at l c = record { line = l; column = c }

-- Terms as they stand, with no simplifying

abbrev pub int : ℕ → Term
int n = term.Constant (sort.Variable n) IntSort

abbrev pub bool : ℕ → Term
bool n = term.Constant (sort.Variable n) BoolSort

abbrev pub real : ℕ → Term
real n = term.Constant (sort.Variable n) RealSort

abbrev pub ref : ℕ → Term
ref n = term.Constant (sort.Variable n) RefSort

abbrev pub snap : ℕ → Term
snap n = term.Constant (sort.Variable n) SnapSort

abbrev pub null : Term
null = term.Constant (sort.Standard 0) RefSort

abbrev pub unit : Term
unit = term.Constant (sort.Standard 1) SnapSort

abbrev pub number : ℕ → Term
number n = term.Number (pos n)

-- a numeral over one above 0
abbrev pub part : ℤ → ℕ → Term
part n d = term.Part record { numerator = n; below = d }

abbrev pub falsity : Term
falsity = term.Truth false

abbrev pub denied : Term → Term
denied t = term.Not t

abbrev pub equal : Term → Term → Term
equal s t = term.Binary sort.Equal s t

abbrev pub differ : Term → Term → Term
differ s t = term.Not (equal s t)

abbrev pub less : Term → Term → Term
less s t = term.Binary sort.Less s t

abbrev pub at_most : Term → Term → Term
at_most s t = term.Binary sort.LessEqual s t

abbrev pub plus : Term → Term → Term
plus s t = term.Binary sort.Add s t

abbrev pub minus : Term → Term → Term
minus s t = term.Binary sort.Subtract s t

abbrev pub times : Term → Term → Term
times s t = term.Binary sort.Multiply s t

abbrev pub both : Term → Term → Term
both s t = term.Binary sort.And s t

abbrev pub implied : Term → Term → Term
implied s t = term.Binary sort.Implies s t

abbrev pub applied : ℕ → Sort → Terms → Term
applied n a ts = term.Apply (sort.Standard n) a ts

abbrev pub pair : Term → Term → Term
pair s t = applied 2 SnapSort (MoreTerms s (MoreTerms t NoTerms))

abbrev pub first : Term → Term
first t = applied 3 SnapSort (MoreTerms t NoTerms)

abbrev pub second : Term → Term
second t = applied 4 SnapSort (MoreTerms t NoTerms)

abbrev pub wrapped_int : Term → Term
wrapped_int t = applied 5 SnapSort (MoreTerms t NoTerms)

abbrev pub wrapped_real : Term → Term
wrapped_real t = applied 7 SnapSort (MoreTerms t NoTerms)

abbrev pub wrapped_ref : Term → Term
wrapped_ref t = applied 8 SnapSort (MoreTerms t NoTerms)

abbrev pub as_int : Term → Term
as_int t = applied 9 IntSort (MoreTerms t NoTerms)

abbrev pub as_real : Term → Term
as_real t = applied 11 RealSort (MoreTerms t NoTerms)

abbrev pub as_ref : Term → Term
as_ref t = applied 12 RefSort (MoreTerms t NoTerms)

-- Trees

-- the tree of the member of this name
abbrev pub tree_of : Program → Name → Tree
tree_of p x = elim (member_named p x) as (λ o. Tree) [ None ↦ End | Some k ↦ tree p x k ]

-- all of its questions, in the order of the walk: what follows a refuted probe before what follows else
abbrev pub questions : Tree → List Question
questions End = []
questions (Impossible s) = []
questions (On t s) = []
questions (Step t) = questions t
questions (Ask q t) = q ∷ questions t
questions (Probe q a b) = q ∷ questions a ++ questions b
questions (Fork a b) = questions a ++ questions b

abbrev pub questions_of : Program → Name → List Question
questions_of p x = questions (tree_of p x)

abbrev pub asks : Place → Code → List Term → Term → Question
asks place code path condition = record { place = place; code = code; path = path; condition = condition; probe = false }

abbrev pub probes : Place → Code → List Term → Term → Question
probes place code path condition = record { place = place; code = code; path = path; condition = condition; probe = true }

abbrev pub walk_of : Program → Name → List Reply → Walked
walk_of p x rs = walk (tree_of p x) rs

abbrev pub ending_of : Program → Name → List Reply → Ending
ending_of p x rs = (walk_of p x rs).ending

-- the checks of a walk, with their replies
abbrev pub checks_of : Program → Name → List Reply → List Answered
checks_of p x rs = (walk_of p x rs).answered

abbrev pub refuted : Question → Answered
refuted q = record { question = q; reply = Unsat }

abbrev pub satisfied : Question → Answered
satisfied q = record { question = q; reply = Sat }

-- a function gives each first part its second
abbrev pub Computes : {A B : Type 0} → (A → B) → List (A × B) → Type 0
Computes f [] = Unit {0}
Computes f (row ∷ rows) = (f row.0 ≡ row.1) × Computes f rows

abbrev pub none : Term
none = part (pos 0) 0

abbrev pub all : Term
all = part (pos 1) 0

abbrev pub either : Term → Term → Term
either s t = term.Binary sort.Or s t

abbrev pub chosen_term : Term → Term → Term → Term
chosen_term c s t = term.Ite c s t

abbrev pub quotient : Term → Term → Term
quotient s t = term.Binary sort.Div s t

abbrev pub remainder : Term → Term → Term
remainder s t = term.Binary sort.Mod s t

-- what is held in a state that a check gives
abbrev pub held_in : Checked meant.State → Checked Holdings
held_in (Ok s) = Ok s.holdings
held_in (Err place) = Err place
