-- Stores that are of a scope: each name has a value of its type.
use Rattle.std.proofs.Common.{◌≡◌, Bool, true, false, cond, List, [], ◌∷◌, ◌++◌, length, take, Some, None, refl, sym, ◌∙◌, ap, subst}
use Rattle.std.specs.Prelude.{option_and_then}
use Rattle.std.proofs.lemmas.Option.{same_Some}
use Rattle.vx_ast.specs.declared.ValueType.{ValueType}
use Rattle.vx_ast.specs.Syntax.{Name, same_name, Declaration, Program}
use Rattle.vx_meaning.specs.Values.{Value, type_of}
use Rattle.vx_meaning.specs.States.{Store, lookup, assign, assign_all, bind, HaveTypes}
use Rattle.vx_types.specs.Typing.{Scope, type_in, AreOnce, TargetsHaveTypes}
use Rattle.vx_elements.proofs.Lists.{name_is, name_same}
use Rattle.vx_sound_preds.proofs.Flats.{came}
use Rattle.vx_sound_preds.proofs.TypedValues.{AreTyped}
use Rattle.vx_runs.specs.Whole.{returned}
use Rattle.vx_runs.proofs.Followed.{StoreOf}

type_is : (a b : ValueType) → Some a ≡ Some b → a ≡ b
type_is a b e = cc

pub store_typed : (ds : Scope) (xs : Store) → StoreOf ds xs → AreTyped ds xs
store_typed [] [] k x t v e f = cc
store_typed [] (y ∷ ys) k x t v e f = absurd k
store_typed (d ∷ ds) [] k x t v e f = absurd k
store_typed (d ∷ ds) (y ∷ ys) k x t v e f = go (same_name x d.name) e (subst (λ (n : Name). cond (same_name x n) (Some y.1) (lookup x ys) ≡ Some v) k.0 f) (store_typed ds ys k.2 x t v)
  where
    go : (b : Bool) → cond b (Some d.of) (type_in x ds) ≡ Some t → cond b (Some y.1) (lookup x ys) ≡ Some v → (type_in x ds ≡ Some t → lookup x ys ≡ Some v → type_of v ≡ t) → type_of v ≡ t
    go true e f r = ap type_of (sym (same_Some y.1 v f)) ∙ k.1 ∙ type_is d.of t e
    go false e f r = r e f

pub store_both : (ds es : Scope) (xs ys : Store) → StoreOf ds xs → StoreOf es ys → StoreOf (ds ++ es) (xs ++ ys)
store_both [] es [] ys k l = l
store_both [] es (x ∷ xs) ys k l = absurd k
store_both (d ∷ ds) es [] ys k l = absurd k
store_both (d ∷ ds) es (x ∷ xs) ys k l = (k.0, k.1, store_both ds es xs ys k.2 l)

pub store_declared : (ds : Scope) (xs : Store) (x : Name) (t : ValueType) (v : Value) → StoreOf ds xs → type_of v ≡ t → StoreOf (ds ++ record { name = x; of = t } ∷ []) (xs ++ (x, v) ∷ [])
store_declared ds xs x t v k e = store_both ds (record { name = x; of = t } ∷ []) xs ((x, v) ∷ []) k (refl, e, tt)

pub store_assigned : (ds : Scope) (xs : Store) (x : Name) (t : ValueType) (v : Value) → StoreOf ds xs → type_in x ds ≡ Some t → type_of v ≡ t → StoreOf ds (assign x v xs)
store_assigned [] [] x t v k e f = tt
store_assigned [] (y ∷ ys) x t v k e f = absurd k
store_assigned (d ∷ ds) [] x t v k e f = absurd k
store_assigned (d ∷ ds) (y ∷ ys) x t v k e f = go (same_name x y.0) refl (subst (λ (n : Name). cond (same_name x n) (Some d.of) (type_in x ds) ≡ Some t) (sym k.0) e) (λ e. store_assigned ds ys x t v k.2 e f)
  where
    go : (b : Bool) → same_name x y.0 ≡ b → cond b (Some d.of) (type_in x ds) ≡ Some t → (type_in x ds ≡ Some t → StoreOf ds (assign x v ys)) → StoreOf (d ∷ ds) (cond b ((x, v) ∷ ys) (y ∷ assign x v ys))
    go true g e r = (name_is x y.0 g ∙ k.0, f ∙ sym (type_is d.of t e), k.2)
    go false g e r = (k.0, k.1, r e)

pub store_all_assigned : (p : Program) (ds : Scope) (s : Store) (xs : List Name) (rs : List Declaration) (vs : List Value) → StoreOf ds s → TargetsHaveTypes p ds xs rs → HaveTypes rs vs → StoreOf ds (assign_all xs vs s)
store_all_assigned p ds s [] [] [] k t h = k
store_all_assigned p ds s [] [] (v ∷ vs) k t h = absurd h
store_all_assigned p ds s [] (r ∷ rs) vs k t h = absurd t
store_all_assigned p ds s (x ∷ xs) [] vs k t h = absurd t
store_all_assigned p ds s (x ∷ xs) (r ∷ rs) [] k t h = absurd h
store_all_assigned p ds s (x ∷ xs) (r ∷ rs) (v ∷ vs) k t h = store_all_assigned p ds (assign x v s) xs rs vs (store_assigned ds s x r.of v k t.0 h.0) t.1 h.1

pub store_bound : (ds : Scope) (vs : List Value) → HaveTypes ds vs → StoreOf ds (bind ds vs)
store_bound [] [] h = tt
store_bound [] (v ∷ vs) h = absurd h
store_bound (d ∷ ds) [] h = absurd h
store_bound (d ∷ ds) (v ∷ vs) h = (refl, h.0, store_bound ds vs h.1)

-- the first ones, as many as there were
pub store_first : (ds es : Scope) (xs ys : Store) → StoreOf ds xs → StoreOf (ds ++ es) ys → StoreOf ds (take (length xs) ys)
store_first [] es [] ys k l = tt
store_first [] es (x ∷ xs) ys k l = absurd k
store_first (d ∷ ds) es [] ys k l = absurd k
store_first (d ∷ ds) es (x ∷ xs) [] k l = absurd l
store_first (d ∷ ds) es (x ∷ xs) (y ∷ ys) k l = (l.0, l.1, store_first ds es xs ys k.2 l.2)

-- what is known isn't hidden by what stands behind
pub known_first : (ds : Scope) (xs ys : Store) (x : Name) (t : ValueType) → StoreOf ds xs → type_in x ds ≡ Some t → lookup x (xs ++ ys) ≡ lookup x xs
known_first [] [] ys x t k e = cc
known_first [] (z ∷ zs) ys x t k e = absurd k
known_first (d ∷ ds) [] ys x t k e = absurd k
known_first (d ∷ ds) (z ∷ zs) ys x t k e = go (same_name x z.0) (subst (λ (n : Name). cond (same_name x n) (Some d.of) (type_in x ds) ≡ Some t) (sym k.0) e) (λ e. known_first ds zs ys x t k.2 e)
  where
    go : (b : Bool) → cond b (Some d.of) (type_in x ds) ≡ Some t → (type_in x ds ≡ Some t → lookup x (zs ++ ys) ≡ lookup x zs) → cond b (Some z.1) (lookup x (zs ++ ys)) ≡ cond b (Some z.1) (lookup x zs)
    go true e r = refl
    go false e r = r e

-- Returns

pub type_in_longer : (x : Name) (ds more : Scope) (t : ValueType) → type_in x ds ≡ Some t → type_in x (ds ++ more) ≡ Some t
type_in_longer x [] more t e = cc
type_in_longer x (d ∷ ds) more t e = go (same_name x d.name) e (λ k. type_in_longer x ds more t k)
  where
    go : (b : Bool) → cond b (Some d.of) (type_in x ds) ≡ Some t → (type_in x ds ≡ Some t → type_in x (ds ++ more) ≡ Some t) → cond b (Some d.of) (type_in x (ds ++ more)) ≡ Some t
    go true k r = k
    go false k r = r k

-- each of these has its type in the scope
abbrev pub AreIn : List Declaration → Scope → Type 0
AreIn [] ds = Unit {0}
AreIn (r ∷ rs) ds = (type_in r.name ds ≡ Some r.of) × AreIn rs ds

pub returned_typed : (ds : Scope) (rs : List Declaration) (xs : Store) (us : List Value) → AreTyped ds xs → AreIn rs ds → returned rs xs ≡ Some us → HaveTypes rs us
returned_typed ds [] xs us t k e = subst (HaveTypes []) (same_Some [] us e) tt
returned_typed ds (r ∷ rs) xs us t k e =
    let x = came (lookup r.name xs) (λ v. option_and_then (λ vs. Some (v ∷ vs)) (returned rs xs)) us e in
    let y = came (returned rs xs) (λ vs. Some (x.it ∷ vs)) us x.then in
    subst (HaveTypes (r ∷ rs)) (same_Some (x.it ∷ y.it) us y.then) (t r.name r.of x.it k.0 x.is, returned_typed ds rs xs y.it t k.1 y.is)

pub in_longer : (rs : List Declaration) (ds more : Scope) → AreIn rs ds → AreIn rs (ds ++ more)
in_longer [] ds more k = tt
in_longer (r ∷ rs) ds more k = (type_in_longer r.name ds more r.of k.0, in_longer rs ds more k.1)

in_more : (rs : List Declaration) (d : Declaration) (ds : Scope) → type_in d.name ds ≡ None → AreIn rs ds → AreIn rs (d ∷ ds)
in_more [] d ds e k = tt
in_more (r ∷ rs) d ds e k = (go (same_name r.name d.name) refl, in_more rs d ds e k.1)
  where
    nothing : {R : Type 0} (t : ValueType) → None ≡ Some t → R
    nothing t e = cc

    go : (b : Bool) → same_name r.name d.name ≡ b → cond b (Some d.of) (type_in r.name ds) ≡ Some r.of
    go true f = nothing r.of (sym e ∙ ap (λ (x : Name). type_in x ds) (sym (name_is r.name d.name f)) ∙ k.0)
    go false f = k.0

once_self : (rs : List Declaration) → AreOnce rs → AreIn rs rs
once_self [] k = tt
once_self (r ∷ rs) k = (ap (λ (b : Bool). cond b (Some r.of) (type_in r.name rs)) (name_same r.name), in_more rs r rs k.0 (once_self rs k.1))

pub once_in : (ps rs : List Declaration) → AreOnce (ps ++ rs) → AreIn rs (ps ++ rs)
once_in [] rs k = once_self rs k
once_in (d ∷ ps) rs k = in_more rs d (ps ++ rs) k.0 (once_in ps rs k.1)
