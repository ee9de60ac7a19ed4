-- Where a function's precondition can be taken, the function starts over the same heap with what was taken.
use Rattle.std.proofs.Common.{arith, ◌≡◌, ◌≤◌, ℕ, true, ◌⊎◌, inl, inr, List, [], ◌∷◌, ◌++◌, Option, Some, None, refl, sym, ◌∙◌, ap, subst}
use Rattle.std.specs.Prelude.{Ok}
use Rattle.vx_ast.specs.declared.Place.{Place}
use Rattle.vx_ast.specs.declared.ValueType.{ValueType}
use Rattle.vx_frac.specs.Fractions.{Fraction, none, full}
use Rattle.vx_ast.specs.Syntax.{Name, Declaration, Program, Predicate, Function, IsFunction, Kind, member_named, function_in, function_named, predicate_named, joined, joined_with, Expr, Exprs, Assertion, Pure, Points, Both, Implied, Chosen}
use Rattle.vx_ast.specs.Syntax as syntax
use Rattle.vx_meaning.specs.Values.{Value}
use Rattle.vx_meaning.specs.States as run
use Rattle.vx_meaning.specs.States.{State, Store, Heap, Holdings, Resource, Folded, amount, gained, lost, bind, with_store, with_holdings}
use Rattle.vx_meaning.specs.Flatten.{bare}
use Rattle.vx_meaning.specs.Consistent.{IsConsistent}
use Rattle.vx_meaning.specs.Fits.{deeper, fit, fit_all, take, Eventually}
use Rattle.vx_meaning.specs.Fails.{FunctionStarts, FunctionFails, precondition}
use Rattle.vx_types.specs.Typing.{HasType, HaveTypes}
use Rattle.vx_types.specs.Now.{IsOfNow, AreOfNow, SaysNow}
use Rattle.vx_types.specs.Premises.{IsTypedProgram}
use Rattle.vx_terms.specs.Interpretations.{Each}
use Rattle.vx_amounts.proofs.Amounts.{Le, le-refl, full-positive}
use Rattle.vx_sound.proofs.Fuel.{one_value, all_one_value}
use Rattle.vx_sound.proofs.Stripped.{fit_worth, all_fit_worth}
use Rattle.vx_sound.proofs.World.{IsTypedResource}
use Rattle.vx_elements.proofs.Scopes.{joined_typed}
use Rattle.vx_sound_preds.proofs.Holding.{consistent}
use Rattle.vx_sound_preds.proofs.Typed.{good_bodies}
use Rattle.vx_sound_preds.proofs.Types.{found_type}
use Rattle.vx_sound_preds.proofs.TypedValues.{have_types, applications_typed}
use Rattle.vx_runs.specs.Law.{NoneFails}
use Rattle.vx_runs.proofs.Followed.{Any, Sane, AtMost}
use Rattle.vx_runs.proofs.Fewer.{at_most_self}
use Rattle.vx_runs.proofs.Surely.{Surely, surely_map}
use Rattle.vx_runs.proofs.Rising.{Refuses}
use Rattle.vx_runs.proofs.Settling.{fit_settles, all_settle}
use Rattle.vx_runs.proofs.Shared.{Shared, shared_first, shared_moved, shared_sane, shared_fewer}
use Rattle.vx_runs.proofs.Taking.{take_takes}
use Rattle.vx_runs.proofs.Exchanging.{no_perm}
use Rattle.vx_runs.proofs.Now.{IsSameNow, value_now, values_now}
use Rattle.vx_runs.proofs.Regiven.{SettlesAt, AllParts, GivenOrFails, given_again}

-- Clauses that are joined

joined_with_now : (a : Assertion) (rest : List Assertion) → SaysNow a → Each SaysNow rest → SaysNow (joined_with a rest)
joined_with_now a [] k l = k
joined_with_now a (b ∷ rest) k l = joined_with_now (Both a b) rest (k, l.0) l.1

pub joined_now : (at : Place) (rest : List Assertion) → Each SaysNow rest → SaysNow (joined at rest)
joined_now at [] k = tt
joined_now at (a ∷ rest) k = joined_with_now a rest k.0 k.1

now_parts : (a : Assertion) → SaysNow a → AllParts IsOfNow AreOfNow a
now_parts (Pure e) k = k
now_parts (Points at e f share) k = k
now_parts (syntax.Instance at i es share) k = k
now_parts (Both a b) k = (now_parts a k.0, now_parts b k.1)
now_parts (Implied c a) k = (k.0, now_parts a k.1)
now_parts (Chosen c a b) k = (k.0, now_parts a k.1, now_parts b k.2)

pub function_member : (o : Option Kind) (g : Function) → function_in o ≡ Some g → o ≡ Some (IsFunction g)
function_member (Some (IsFunction f)) g h = ap (λ (d : Function). Some (IsFunction d)) (same f g h)
  where
    same : (a b : Function) → Some a ≡ Some b → a ≡ b
    same a b e = cc
function_member None g h = cc
function_member (Some (syntax.IsField t)) g h = cc
function_member (Some (syntax.IsPredicate d)) g h = cc
function_member (Some (syntax.IsMethod m)) g h = cc

pub record Started (p : Program) (g : Function) (vs : List Value) (s : State) : Type 0 where
  pub held : Holdings
  pub starts : FunctionStarts p g record { store = bind g.parameters vs; heap = s.heap; holdings = held; old_heap = s.heap; old_holdings = held }
  pub sane : Sane p s.heap held
  pub fewer : AtMost held s.holdings

module _ (p : Program) (typed : IsTypedProgram p) (none_fails : NoneFails p) where
  never : (f : Name) (g : Function) → function_named p f ≡ Some g → FunctionFails p f g → ⊥
  never f g named = none_fails f (IsFunction g) (function_member (member_named p f) g named)

  bodies_now : (f : Name) (g : Function) → function_named p f ≡ Some g → IsOfNow g.body
  bodies_now f g named = let k = typed.functions_now f g named in k.body

  module _ (f : Name) (g : Function) (named : function_named p f ≡ Some g) (vs : List Value) (types : run.HaveTypes g.parameters vs) (s : State) (sane : Sane p s.heap s.holdings) where
    store : Store
    store = bind g.parameters vs

    callee : State
    callee = with_store (bind g.parameters vs) s

    abbrev Within : Holdings → State → Type 0
    Within h u = (u.store ≡ bind g.parameters vs) × (u.heap ≡ s.heap) × Shared p s.holdings [] [] u.holdings h

    same_now : (h : Holdings) (u : State) → Within h u → IsSameNow (with_store (bind g.parameters vs) s) u
    same_now h u w = record { store = w.0; heap = w.1 }

    settles : (n : ℕ) (h : Holdings) (u : State) (e : Expr) (t : ValueType) (v : Value) → HasType p g.parameters e t → IsOfNow e → Within h u → fit p (deeper p n) (with_store (bind g.parameters vs) s) e ≡ Ok v → SettlesAt (λ m. fit p (deeper p m) u e) v
    settles n h u e t v ty x w fits = surely_map (fit_settles p u e) go
      where
        go : ((w : Value) × Eventually (λ m. fit p (deeper p m) u e ≡ Ok w)) ⊎ Refuses (λ m. fit p (deeper p m) u e) → Eventually (λ m. fit p (deeper p m) u e ≡ Ok v) ⊎ Refuses (λ m. fit p (deeper p m) u e)
        go (inr x) = inr x
        go (inl (z, k)) =
            let there = value_now p bodies_now n (with_store (bind g.parameters vs) s) u (same_now h u w) e x in
            let same : z ≡ v = one_value p u e z v (k.0, fit_worth p k.0 u e z (k.1 k.0 (self k.0))) (n, sym there ∙ fit_worth p n (with_store (bind g.parameters vs) s) e v fits) in
            inl (subst (λ (y : Value). Eventually (λ m. fit p (deeper p m) u e ≡ Ok y)) same k)
          where
            self : (n : ℕ) → n ≤ n
            self n = omega arith

    all_settle_too : (n : ℕ) (h : Holdings) (u : State) (es : Exprs) (fs : List Declaration) (ws : List Value) → HaveTypes p g.parameters es fs → AreOfNow es → Within h u → fit_all p (deeper p n) (with_store (bind g.parameters vs) s) es ≡ Ok ws → SettlesAt (λ m. fit_all p (deeper p m) u es) ws
    all_settle_too n h u es fs ws ty x w fits = surely_map (all_settle p u es) go
      where
        go : ((z : List Value) × Eventually (λ m. fit_all p (deeper p m) u es ≡ Ok z)) ⊎ Refuses (λ m. fit_all p (deeper p m) u es) → Eventually (λ m. fit_all p (deeper p m) u es ≡ Ok ws) ⊎ Refuses (λ m. fit_all p (deeper p m) u es)
        go (inr x) = inr x
        go (inl (z, k)) =
            let there = values_now p bodies_now n (with_store (bind g.parameters vs) s) u (same_now h u w) es x in
            let same : z ≡ ws = all_one_value p u es z ws k.0 n (all_fit_worth p k.0 u es z (k.1 k.0 (self k.0))) (sym there ∙ all_fit_worth p n (with_store (bind g.parameters vs) s) es ws fits) in
            inl (subst (λ (y : List Value). Eventually (λ m. fit_all p (deeper p m) u es ≡ Ok y)) same k)
          where
            self : (n : ℕ) → n ≤ n
            self n = omega arith

    of_type : (n : ℕ) (es : Exprs) (i : Name) (d : Predicate) (ws : List Value) → predicate_named p i ≡ Some d → HaveTypes p g.parameters es d.parameters → fit_all p (deeper p n) (with_store (bind g.parameters vs) s) es ≡ Ok ws → IsTypedResource p Any (Folded record { predicate = i; arguments = ws })
    of_type n es i d ws is ty fits =
        (tt, (d, is, no_perm p typed i d is, have_types p typed.functions n (applications_typed p typed.functions n) (with_store (bind g.parameters vs) s) (λ x t v a b. found_type x t g.parameters vs v types a b) ty ws (all_fit_worth p n (with_store (bind g.parameters vs) s) es ws fits)))

    possible : (h : Holdings) (u : State) → Within h u → IsConsistent p u
    possible h u w = consistent p (good_bodies p typed) Any true u refl (subst (λ (k : Heap). Sane p k u.holdings) (sym w.1) (shared_sane p (good_bodies p typed) s.heap s.holdings [] [] u.holdings h sane (at_most_self []) w.2))

    moved : (h : Holdings) (u : State) (r : Resource) (q : Fraction) → IsTypedResource p Any r → Le none q → Le q (amount h r) → AtMost [] (lost r q h) → Within h u → Within (lost r q h) (with_holdings (gained r q u.holdings) u)
    moved h u r q kind sign le above w = (w.0, w.1, shared_moved p s.holdings [] [] u.holdings h r q kind sign above w.2)

    pub starts : (n : ℕ) (left : Holdings) → take p (deeper p n) (with_store (bind g.parameters vs) s) full (joined g.place g.requires) s.holdings ≡ Ok left → Surely (Started p g vs s)
    starts n left taken =
        let pre = joined_typed p g.parameters g.place g.requires (let k = typed.functions f g named in k.requires) in
        let debts = (take_takes p (deeper p n) (with_store (bind g.parameters vs) s) full full-positive g.parameters (of_type n) (joined g.place g.requires) pre s.holdings left (λ r si. sane.debts r si) taken).debts in
        let begun : Shared p s.holdings [] [] [] s.holdings = shared_first p s.holdings [] [] tt (λ r si. le-refl none) (λ r si. sane.debts r si) in
        surely_map (given_again p (IsConsistent p) g.parameters IsOfNow AreOfNow (with_store (bind g.parameters vs) s) [] Within possible settles all_settle_too of_type moved n (joined g.place g.requires)
        pre (now_parts (joined g.place g.requires) (joined_now g.place g.requires (let k = typed.functions_now f g named in k.requires)))
        (bare (bind g.parameters vs) s.heap) s.holdings left (refl, refl, begun) (λ r si. debts r si) taken) go
      where
        go : GivenOrFails p (IsConsistent p) g.parameters IsOfNow AreOfNow (with_store (bind g.parameters vs) s) [] Within possible settles all_settle_too of_type moved (joined g.place g.requires) (bare (bind g.parameters vs) s.heap) s.holdings left → Started p g vs s
        go (inr (at, x)) = absurd (never f g named (precondition vs at types (s.heap, x)))
        go (inl k) = record {
          held = k.entries ++ [];
          starts = (vs, types, (s.heap, with_holdings (k.entries ++ []) (bare (bind g.parameters vs) s.heap), k.ends, refl));
          sane = shared_sane p (good_bodies p typed) s.heap s.holdings [] [] (k.entries ++ []) left sane (at_most_self []) k.within.2;
          fewer = shared_fewer p s.holdings [] [] (k.entries ++ []) left (at_most_self []) k.within.2;
        }
