-- Plans grow at their ends, and the nodes of the first terms stay.
use Rattle.std.proofs.Common.{◌≡◌, ℕ, zero, suc, Bool, true, false, List, [], ◌∷◌, ◌++◌, Option, Some, None, length, take, drop, refl, sym, ◌∙◌, ap, ap₂, subst, append_assoc, append-nil}
use Rattle.std.specs.Prelude.{slice_get, if◌then◌else◌}
use Rattle.std.specs.Option.{option_map}
use Rattle.std.proofs.lemmas.Option.{same_Some}
use Rattle.vx_terms.specs.Terms.{Term, same, sort_of}
use Rattle.vx_smt_meaning.specs.Commands.{Declared}
use Rattle.cs_certificate.specs.Terms.{head, parts, subterms}
use Rattle.cs_certificate.specs.Certificate.{At, AllAt, no-terms, one-term, Step, NewTerm}
use Rattle.cs_certificate.specs.Nodes.{Node}
use Rattle.cs_certificate.specs.Steps.{◌>>=◌}
use Rattle.cs_certificate.proofs.Chains.{bind_some}
use Rattle.cs_numbers.specs.Numbering.{place, places, node_of, nodes_of, has, with_one, added}
use Rattle.cs_certificate.specs.declared.literal.Literal.{Literal}
use Rattle.cs_proof.specs.Prepared.{Duty, Missed, Named, prepared}
use Rattle.cs_proof.specs.Plans.{Plans, with_duty, kept, is_fine, named, named_if, planned, planned_all}

-- ---- lists
pub take_front : {A : Type 0} (xs ys : List A) → take (length xs) (xs ++ ys) ≡ xs
take_front [] ys = refl
take_front (x ∷ xs) ys = ap (λ zs. x ∷ zs) (take_front xs ys)

pub drop_front : {A : Type 0} (xs ys : List A) → drop (length xs) (xs ++ ys) ≡ ys
drop_front [] ys = refl
drop_front (x ∷ xs) ys = drop_front xs ys

pub get_front : {A : Type 0} (xs : List A) (y : A) (ys : List A) → slice_get (xs ++ y ∷ ys) (length xs) ≡ Some y
get_front [] y ys = refl
get_front (x ∷ xs) y ys = get_front xs y ys

pub at_left : {A : Type 0} (xs ys : List A) (n : ℕ) (x : A) → At xs n x → At (xs ++ ys) n x
at_left [] ys n x e = cc
at_left (z ∷ zs) ys zero x e = e
at_left (z ∷ zs) ys (suc n) x e = at_left zs ys n x e

pub all_left : (xs ys : List Term) {ns : List ℕ} {ts : List Term} → AllAt xs ns ts → AllAt (xs ++ ys) ns ts
all_left xs ys no-terms = no-terms
all_left xs ys (one-term at more) = one-term (at_left xs ys _ _ at) (all_left xs ys more)

pub one_longer : {A : Type 0} (xs : List A) (y : A) → length (xs ++ y ∷ []) ≡ suc (length xs)
one_longer [] y = refl
one_longer (x ∷ xs) y = ap suc (one_longer xs y)

-- ---- growth
abbrev pub Begins : {A : Type 0} → List A → List A → Type 0
Begins xs ys = (more : List _) × (ys ≡ xs ++ more)

pub begins_itself : {A : Type 0} (xs : List A) → Begins xs xs
begins_itself xs = ([], sym (append-nil xs))

pub begins_on : {A : Type 0} (xs ys zs : List A) → Begins xs ys → Begins ys zs → Begins xs zs
begins_on xs ys zs (m, e) (n, f) = (m ++ n, f ∙ ap (λ l. l ++ n) e ∙ append_assoc xs m n)

pub record Grows (p q : Plans) : Type 0 where
  pub terms : Begins p.terms q.terms
  pub nodes : Begins p.nodes q.nodes
  pub duties : Begins p.duties q.duties
  pub clauses : Begins p.clauses q.clauses

grows_itself : (p : Plans) → Grows p p
grows_itself p = record { terms = begins_itself p.terms; nodes = begins_itself p.nodes; duties = begins_itself p.duties; clauses = begins_itself p.clauses }

grows_on : (p q r : Plans) → Grows p q → Grows q r → Grows p r
grows_on p q r g h = record {
  terms = begins_on p.terms q.terms r.terms g.terms h.terms;
  nodes = begins_on p.nodes q.nodes r.nodes g.nodes h.nodes;
  duties = begins_on p.duties q.duties r.duties g.duties h.duties;
  clauses = begins_on p.clauses q.clauses r.clauses g.clauses h.clauses;
}

with_duty_grows : (p : Plans) (d : Duty) → Grows p (with_duty p d)
with_duty_grows p d = record { terms = begins_itself p.terms; nodes = begins_itself p.nodes; duties = (d ∷ [], refl); clauses = begins_itself p.clauses }

kept_grows : (p : Plans) (o : Option (Duty × List Literal)) → Grows p (kept p o)
kept_grows p None = with_duty_grows p Missed
kept_grows p (Some x) = record { terms = begins_itself p.terms; nodes = begins_itself p.nodes; duties = (x.0 ∷ [], refl); clauses = (x.1 ∷ [], refl) }

pub with_one_begins : (terms : List Term) (t : Term) → Begins terms (with_one terms t)
with_one_begins terms t = go (has terms t)
  where
    go : (b : Bool) → Begins terms (if b then terms else terms ++ t ∷ [])
    go true = begins_itself terms
    go false = (t ∷ [], refl)

pub added_begins : (terms ts : List Term) → Begins terms (added terms ts)
added_begins terms [] = begins_itself terms
added_begins terms (t ∷ ts) = begins_on terms (with_one terms t) (added (with_one terms t) ts) (with_one_begins terms t) (added_begins (with_one terms t) ts)

-- what `named` gives
pub record IsNamed (p : Plans) (t : Term) (q : Plans) : Type 0 where
  pub fresh : List Node
  pub are : nodes_of (added p.terms (subterms t)) (drop (length p.nodes) (added p.terms (subterms t))) ≡ Some fresh
  pub whole : q ≡ record { terms = added p.terms (subterms t); nodes = p.nodes ++ fresh; duties = p.duties ++ Named ∷ []; clauses = p.clauses }

pub named_is : (p : Plans) (t : Term) (q : Plans) → named p t ≡ Some q → IsNamed p t q
named_is p t q e = go (nodes_of (added p.terms (subterms t)) (drop (length p.nodes) (added p.terms (subterms t)))) refl e
  where
    go : (o : Option (List Node)) → nodes_of (added p.terms (subterms t)) (drop (length p.nodes) (added p.terms (subterms t))) ≡ o →
        (((o >>= λ ns. Some (p.nodes ++ ns)) >>= λ nodes. Some record p { terms = added p.terms (subterms t); nodes = nodes }) >>= λ r. Some (with_duty r Named)) ≡ Some q → IsNamed p t q
    go None f e = cc
    go (Some ns) f e = record { fresh = ns; are = f; whole = sym (same_Some _ _ e) }

named_grows : (p : Plans) (t : Term) (q : Plans) → named p t ≡ Some q → Grows p q
named_grows p t q e = let n = named_is p t q e in subst (Grows p) (sym n.whole) record { terms = added_begins p.terms (subterms t); nodes = (n.fresh, refl); duties = (Named ∷ [], refl); clauses = begins_itself p.clauses }

pub planned_grows : (symbols : List Declared) (roots : List ℕ) (p : Plans) (w : Option Step) (q : Plans) → planned symbols roots p w ≡ Some q → Grows p q
planned_grows symbols roots p None q e = subst (Grows p) (same_Some _ _ e) (with_duty_grows p Missed)
planned_grows symbols roots p (Some (NewTerm t)) q e = go (is_fine symbols t) e
  where
    go : (b : Bool) → named_if p b t ≡ Some q → Grows p q
    go true e = named_grows p t q e
    go false e = subst (Grows p) (same_Some _ _ e) (with_duty_grows p Missed)
planned_grows symbols roots p (Some step) q e = subst (Grows p) (same_Some _ _ e) (kept_grows p (prepared p.nodes roots step))

pub all_grows : (symbols : List Declared) (roots : List ℕ) (p : Plans) (ws : List (Option Step)) (q : Plans) → planned_all symbols roots p ws ≡ Some q → Grows p q
all_grows symbols roots p [] q e = subst (Grows p) (same_Some _ _ e) (grows_itself p)
all_grows symbols roots p (w ∷ ws) q e =
    let b = bind_some (planned symbols roots p w) (λ r. planned_all symbols roots r ws) q e in
    grows_on p b.0 q (planned_grows symbols roots p w b.0 b.1) (all_grows symbols roots b.0 ws q b.2)

-- ---- the nodes of the first terms
place_left : (xs ys : List Term) (t : Term) (k : ℕ) → place xs t ≡ Some k → place (xs ++ ys) t ≡ Some k
place_left [] ys t k e = cc
place_left (x ∷ xs) ys t k e = go (same t x) e (place_left xs ys t)
  where
    later : (o : Option ℕ) → ((j : ℕ) → o ≡ Some j → place (xs ++ ys) t ≡ Some j) → option_map suc o ≡ Some k → option_map suc (place (xs ++ ys) t) ≡ Some k
    later None h e = cc
    later (Some j) h e = ap (option_map suc) (h j refl) ∙ e

    go : (b : Bool) → (if b then Some 0 else option_map suc (place xs t)) ≡ Some k → ((j : ℕ) → place xs t ≡ Some j → place (xs ++ ys) t ≡ Some j) → (if b then Some 0 else option_map suc (place (xs ++ ys) t)) ≡ Some k
    go true e h = e
    go false e h = later (place xs t) h e

places_left : (xs ys ts : List Term) (ns : List ℕ) → places xs ts ≡ Some ns → places (xs ++ ys) ts ≡ Some ns
places_left xs ys [] ns e = e
places_left xs ys (t ∷ ts) ns e =
    let b = bind_some (place xs t) (λ n. places xs ts >>= λ ns. Some (n ∷ ns)) ns e in
    let c = bind_some (places xs ts) (λ ns. Some (b.0 ∷ ns)) ns b.2 in
    ap (λ o. o >>= λ n. places (xs ++ ys) ts >>= λ ns. Some (n ∷ ns)) (place_left xs ys t b.0 b.1) ∙ ap (λ o. o >>= λ ns. Some (b.0 ∷ ns)) (places_left xs ys ts c.0 c.1) ∙ c.2

node_left : (xs ys : List Term) (t : Term) (n : Node) → node_of xs t ≡ Some n → node_of (xs ++ ys) t ≡ Some n
node_left xs ys t n e =
    let b = bind_some (places xs (parts t)) (λ ns. Some record { head = head t; parts = ns; sort = sort_of t }) n e in
    ap (λ o. o >>= λ ns. Some record { head = head t; parts = ns; sort = sort_of t }) (places_left xs ys (parts t) b.0 b.1) ∙ b.2

nodes_left : (xs ys ts : List Term) (ns : List Node) → nodes_of xs ts ≡ Some ns → nodes_of (xs ++ ys) ts ≡ Some ns
nodes_left xs ys [] ns e = e
nodes_left xs ys (t ∷ ts) ns e =
    let b = bind_some (node_of xs t) (λ n. nodes_of xs ts >>= λ ns. Some (n ∷ ns)) ns e in
    let c = bind_some (nodes_of xs ts) (λ ns. Some (b.0 ∷ ns)) ns b.2 in
    ap (λ o. o >>= λ n. nodes_of (xs ++ ys) ts >>= λ ns. Some (n ∷ ns)) (node_left xs ys t b.0 b.1) ∙ ap (λ o. o >>= λ ns. Some (b.0 ∷ ns)) (nodes_left xs ys ts c.0 c.1) ∙ c.2

nodes_joined : (xs ts us : List Term) (ns ms : List Node) → nodes_of xs ts ≡ Some ns → nodes_of xs us ≡ Some ms → nodes_of xs (ts ++ us) ≡ Some (ns ++ ms)
nodes_joined xs [] us ns ms e f = f ∙ ap (λ l. Some (l ++ ms)) (same_Some _ _ e)
nodes_joined xs (t ∷ ts) us ns ms e f =
    let b = bind_some (node_of xs t) (λ n. nodes_of xs ts >>= λ ns. Some (n ∷ ns)) ns e in
    let c = bind_some (nodes_of xs ts) (λ ns. Some (b.0 ∷ ns)) ns b.2 in
    ap (λ o. o >>= λ n. nodes_of xs (ts ++ us) >>= λ ns. Some (n ∷ ns)) b.1 ∙ ap (λ o. o >>= λ ns. Some (b.0 ∷ ns)) (nodes_joined xs ts us c.0 ms c.1 f) ∙ ap (λ l. Some (l ++ ms)) (same_Some _ _ c.2)

pub as_many : (xs ts : List Term) (ns : List Node) → nodes_of xs ts ≡ Some ns → length ns ≡ length ts
as_many xs [] ns e = ap length (sym (same_Some _ _ e))
as_many xs (t ∷ ts) ns e =
    let b = bind_some (node_of xs t) (λ n. nodes_of xs ts >>= λ ns. Some (n ∷ ns)) ns e in
    let c = bind_some (nodes_of xs ts) (λ ns. Some (b.0 ∷ ns)) ns b.2 in
    ap length (sym (same_Some _ _ c.2)) ∙ ap suc (as_many xs ts c.0 c.1)

-- with the nodes of further terms behind them
pub nodes_grown : (xs ys : List Term) (ns fresh : List Node) → Begins xs ys → nodes_of xs xs ≡ Some ns → nodes_of ys (drop (length ns) ys) ≡ Some fresh → nodes_of ys ys ≡ Some (ns ++ fresh)
nodes_grown xs ys ns fresh (more, e) f g =
    let rest : drop (length ns) ys ≡ more = ap₂ (λ n l. drop n l) (as_many xs xs ns f) e ∙ drop_front xs more in
    let whole : nodes_of (xs ++ more) more ≡ Some fresh = ap₂ nodes_of (sym e) (sym rest) ∙ g in
    ap₂ nodes_of e e ∙ nodes_joined (xs ++ more) xs more ns fresh (nodes_left xs more xs ns f) whole
