-- A term that says the same as another one, whose symbols are read by their names.
use Rattle.std.proofs.Common.{◌≡◌, ◌&&◌, ◌||◌, not, zero, suc, ℤ, pos, negsuc, Bool, true, false, List, [], ◌∷◌, Result, IfOk, refl, ap, ap₂, ◌∙◌}
use Rattle.std.specs.Prelude.{cond}
use Rattle.vx_terms.specs.Sorts.{Sort, Symbol, Operator, And, Or, Implies, Equal, Less, LessEqual, Add, Subtract, Multiply, Div, Mod, gives}
use Rattle.vx_terms.specs.Terms.{Term, Truth, Constant, Apply, Not, Binary, Ite, AllOf, SomeOf, Terms, NoTerms, MoreTerms, sort_of}
use Rattle.vx_terms.specs.Interpretations.{Interpretation, Element, BoolElement, IntElement, as_bool, as_int, as_sort, quotient_in, remainder_in, operate, value, values, all_true, some_true}
use Rattle.cs_reader.specs.Spelling.{listed}
use Rattle.cs_commands.specs.declared.fault.CommandFault.{CommandFault}
use Rattle.cs_commands.specs.Building.{if_sorted, negation, choice, operation, operation_of_two}
use Rattle.vx_smt_meaning.specs.Names.{IsName}
use Rattle.vx_companion.proofs.Originals.{read_as, original, original_of}

-- a symbol means there what the one that was written means
abbrev pub there : Interpretation → Interpretation
there i = record i { functions = λ f a es. i.functions (original f) a es }

-- and a name that was written means what it means as it is read
abbrev pub back : Interpretation → Interpretation
back k = record k { functions = λ f a es. k.functions (read_as f) a es }

-- the one means by what a name is read as what the other means by the name
pub record Renames (k i : Interpretation) : Type 0 where
  pub functions : (f : Symbol) → IsName f → (a : Sort) (es : List Element) → k.functions (read_as f) a es ≡ i.functions f a es
  pub quotients : k.quotients ≡ i.quotients
  pub remainders : k.remainders ≡ i.remainders

pub there_renames : (i : Interpretation) → Renames (there i) i
there_renames i = record { functions = λ f name a es. ap (λ g. i.functions g a es) (original_of f name); quotients = refl; remainders = refl }

pub back_renames : (k : Interpretation) → Renames k (back k)
back_renames k = record { functions = λ f name a es. refl; quotients = refl; remainders = refl }

-- of one sort and one value
pub record IsLike (u t : Term) : Type 0 where
  pub sort : sort_of u ≡ sort_of t
  pub meaning : (k i : Interpretation) → Renames k i → value k u ≡ value i t

abbrev pub AreLike : List Term → Terms → Type 0
AreLike [] NoTerms = Unit {0}
AreLike [] (MoreTerms t ts) = ⊥
AreLike (u ∷ us) NoTerms = ⊥
AreLike (u ∷ us) (MoreTerms t ts) = IsLike u t × AreLike us ts

-- ---- terms without parts

pub like_truth : (b : Bool) → IsLike (Truth b) (Truth b)
like_truth b = record { sort = refl; meaning = λ k i r. refl }

pub like_constant : (f : Symbol) (a : Sort) → IsName f → IsLike (Constant (read_as f) a) (Constant f a)
like_constant f a name = record { sort = refl; meaning = λ k i r. ap (as_sort a) (r.functions f name a []) }

-- ---- parts

pub values_like : (us : List Term) (ts : Terms) → AreLike us ts → (k i : Interpretation) → Renames k i → values k (listed us) ≡ values i ts
values_like [] NoTerms h k i r = refl
values_like [] (MoreTerms t ts) h k i r = absurd h
values_like (u ∷ us) NoTerms h k i r = absurd h
values_like (u ∷ us) (MoreTerms t ts) h k i r = ap₂ (λ e es. e ∷ es) (h.0.meaning k i r) (values_like us ts h.1 k i r)

same_quotient : (k i : Interpretation) → Renames k i → (n d : ℤ) → quotient_in k n d ≡ quotient_in i n d
same_quotient k i r n (pos zero) = ap (λ q. q n) r.quotients
same_quotient k i r n (pos (suc d)) = refl
same_quotient k i r n (negsuc d) = refl

same_remainder : (k i : Interpretation) → Renames k i → (n d : ℤ) → remainder_in k n d ≡ remainder_in i n d
same_remainder k i r n (pos zero) = ap (λ q. q n) r.remainders
same_remainder k i r n (pos (suc d)) = refl
same_remainder k i r n (negsuc d) = refl

same_operation : (k i : Interpretation) → Renames k i → (o : Operator) (d e : Element) → operate k o d e ≡ operate i o d e
same_operation k i r And d e = refl
same_operation k i r Or d e = refl
same_operation k i r Implies d e = refl
same_operation k i r Equal d e = refl
same_operation k i r Less d e = refl
same_operation k i r LessEqual d e = refl
same_operation k i r Add d e = refl
same_operation k i r Subtract d e = refl
same_operation k i r Multiply d e = refl
same_operation k i r Div d e = ap IntElement (same_quotient k i r (as_int d) (as_int e))
same_operation k i r Mod d e = ap IntElement (same_remainder k i r (as_int d) (as_int e))

pub like_application : (f : Symbol) (a : Sort) (us : List Term) (ts : Terms) → IsName f → AreLike us ts → IsLike (Apply (read_as f) a (listed us)) (Apply f a ts)
like_application f a us ts name h =
    record { sort = refl; meaning = λ k i r. ap (as_sort a) (ap (k.functions (read_as f) a) (values_like us ts h k i r) ∙ r.functions f name a (values i ts)) }

like_not : (u t : Term) → IsLike u t → IsLike (Not u) (Not t)
like_not u t h = record { sort = refl; meaning = λ k i r. ap (λ e. BoolElement (not (as_bool e))) (h.meaning k i r) }

like_binary : (o : Operator) (u v t s : Term) → IsLike u t → IsLike v s → IsLike (Binary o u v) (Binary o t s)
like_binary o u v t s h g = record {
  sort = ap (gives o) h.sort;
  meaning = λ k i r. same_operation k i r o (value k u) (value k v) ∙ ap₂ (operate i o) (h.meaning k i r) (g.meaning k i r);
}

like_choice : (c u v d t s : Term) → IsLike c d → IsLike u t → IsLike v s → IsLike (Ite c u v) (Ite d t s)
like_choice c u v d t s e h g = record {
  sort = h.sort;
  meaning = λ k i r. ap₂ (λ x y. cond (as_bool x) y (value k v)) (e.meaning k i r) (h.meaning k i r) ∙ ap (λ z. cond (as_bool (value i d)) (value i t) z) (g.meaning k i r);
}

like_all : (us : List Term) (ts : Terms) → AreLike us ts → IsLike (AllOf (listed us)) (AllOf ts)
like_all us ts h = record { sort = refl; meaning = λ k i r. ap (λ es. BoolElement (all_true es)) (values_like us ts h k i r) }

like_some : (us : List Term) (ts : Terms) → AreLike us ts → IsLike (SomeOf (listed us)) (SomeOf ts)
like_some us ts h = record { sort = refl; meaning = λ k i r. ap (λ es. BoolElement (some_true es)) (values_like us ts h k i r) }

-- two alone are joined by an operator
both_of : (a b : Bool) → cond a b false ≡ (a && (b && true))
both_of true true = refl
both_of true false = refl
both_of false b = refl

like_both : (u v t s : Term) → IsLike u t → IsLike v s → IsLike (Binary And u v) (AllOf (MoreTerms t (MoreTerms s NoTerms)))
like_both u v t s h g = record {
  sort = refl;
  meaning = λ k i r.
      ap₂ (λ x y. BoolElement (cond (as_bool x) (as_bool y) false)) (h.meaning k i r) (g.meaning k i r) ∙ ap BoolElement (both_of (as_bool (value i t)) (as_bool (value i s)));
}

either_of : (a b : Bool) → cond a true b ≡ (a || (b || false))
either_of true b = refl
either_of false true = refl
either_of false false = refl

like_either : (u v t s : Term) → IsLike u t → IsLike v s → IsLike (Binary Or u v) (SomeOf (MoreTerms t (MoreTerms s NoTerms)))
like_either u v t s h g = record {
  sort = refl;
  meaning = λ k i r.
      ap₂ (λ x y. BoolElement (cond (as_bool x) true (as_bool y))) (h.meaning k i r) (g.meaning k i r) ∙ ap BoolElement (either_of (as_bool (value i t)) (as_bool (value i s)));
}

-- ---- what is built of parts

-- what is built says the same, or nothing is
abbrev pub BuildsLike : Result Term CommandFault → Term → Type 0
BuildsLike r t = IfOk r (λ u. IsLike u t)

pub if_like : (b : Bool) (u t : Term) → IsLike u t → BuildsLike (if_sorted b u) t
if_like true u t h = h
if_like false u t h = tt

pub builds_not : (us : List Term) (t : Term) → AreLike us (MoreTerms t NoTerms) → BuildsLike (negation us) (Not t)
builds_not [] t h = absurd h
builds_not (u ∷ []) t h = if_like _ (Not u) (Not t) (like_not u t h.0)
builds_not (u ∷ v ∷ us) t h = absurd h.1

pub builds_choice : (us : List Term) (c t s : Term) → AreLike us (MoreTerms c (MoreTerms t (MoreTerms s NoTerms))) → BuildsLike (choice us) (Ite c t s)
builds_choice [] c t s h = absurd h
builds_choice (d ∷ []) c t s h = absurd h.1
builds_choice (d ∷ u ∷ []) c t s h = absurd h.1.1
builds_choice (d ∷ u ∷ v ∷ []) c t s h = if_like _ (Ite d u v) (Ite c t s) (like_choice d u v c t s h.0 h.1.0 h.1.1.0)
builds_choice (d ∷ u ∷ v ∷ w ∷ us) c t s h = absurd h.1.1.1

pub builds_two : (o : Operator) (u v t s : Term) → IsLike u t → IsLike v s → BuildsLike (operation_of_two o u v) (Binary o t s)
builds_two o u v t s h g = if_like _ (Binary o u v) (Binary o t s) (like_binary o u v t s h g)

pub builds_all : (us : List Term) (ts : Terms) → AreLike us ts → BuildsLike (operation And us) (AllOf ts)
builds_all [] ts h = tt
builds_all (u ∷ []) ts h = tt
builds_all (u ∷ v ∷ []) NoTerms h = absurd h
builds_all (u ∷ v ∷ []) (MoreTerms t NoTerms) h = absurd h.1
builds_all (u ∷ v ∷ []) (MoreTerms t (MoreTerms s NoTerms)) h = if_like _ (Binary And u v) _ (like_both u v t s h.0 h.1.0)
builds_all (u ∷ v ∷ []) (MoreTerms t (MoreTerms s (MoreTerms r ts))) h = absurd h.1.1
builds_all (u ∷ v ∷ w ∷ us) ts h = if_like _ (AllOf (listed (u ∷ v ∷ w ∷ us))) (AllOf ts) (like_all (u ∷ v ∷ w ∷ us) ts h)

pub builds_some : (us : List Term) (ts : Terms) → AreLike us ts → BuildsLike (operation Or us) (SomeOf ts)
builds_some [] ts h = tt
builds_some (u ∷ []) ts h = tt
builds_some (u ∷ v ∷ []) NoTerms h = absurd h
builds_some (u ∷ v ∷ []) (MoreTerms t NoTerms) h = absurd h.1
builds_some (u ∷ v ∷ []) (MoreTerms t (MoreTerms s NoTerms)) h = if_like _ (Binary Or u v) _ (like_either u v t s h.0 h.1.0)
builds_some (u ∷ v ∷ []) (MoreTerms t (MoreTerms s (MoreTerms r ts))) h = absurd h.1.1
builds_some (u ∷ v ∷ w ∷ us) ts h = if_like _ (SomeOf (listed (u ∷ v ∷ w ∷ us))) (SomeOf ts) (like_some (u ∷ v ∷ w ∷ us) ts h)
