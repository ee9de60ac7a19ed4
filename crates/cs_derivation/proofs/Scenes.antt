-- What the checker's laws ask of a derivation.
use Rattle.std.proofs.Common.{◌≡◌, ℕ, zero, suc, ◌<◌, ◌^◌, true, List, [], ◌∷◌, Some, map, length, take, refl, sym, ◌∙◌, ap, subst, arith}
use Rattle.std.proofs.lemmas.List.{length-map}
use Rattle.std.proofs.lemmas.Option.{slice_get-get_or, same_Some}
use Rattle.std.specs.List.{All}
use Rattle.vx_terms.specs.Terms.{Term, Truth}
use Rattle.vx_terms.specs.Interpretations.{Each}
use Rattle.cs_certificate.specs.Certificate.{Stack, State, AllAt, no-terms, one-term, Contains}
use Rattle.cs_certificate.specs.Nodes.{Node, Represents}
use Rattle.cs_certificate.specs.Steps.{ComputesSteps}
use Rattle.cs_certificate.proofs.Chains.{chain_computes, congruence_computes}
use Rattle.cs_certificate.proofs.Comparisons.{split_computes, trichotomy_computes}
use Rattle.cs_certificate.proofs.Picks.{pick_computes}
use Rattle.cs_certificate.proofs.Divisions.{divide_computes}
use Rattle.cs_certificate.proofs.Definitions.{define_computes}
use Rattle.cs_numbers.specs.Parts.{HasFewParts}
use Rattle.cs_certificate.specs.declared.literal.Literal.{Literal}
use Rattle.cs_certificate.specs.declared.literal.Clause.{Clause as Clause'}
use Rattle.cs_certificate.specs.Bridge.{term_at, views, state, IsNumbered, AreDistinct}
use Rattle.cs_proof.specs.Plans.{Plans}
use Rattle.cs_proof.proofs.Answered.{Scene}
use Rattle.cs_proof.proofs.State.{represents}
use Rattle.cs_proof.proofs.State as checked
use Rattle.cs_derivation.specs.Reached.{Reached, Stands, state_of}

-- the literals of clauses
abbrev pub literals : List Clause' → List (List Literal)
literals cs = map (λ c. c.literals.items) cs

take_whole : {A : Type 0} (xs : List A) → take (length xs) xs ≡ xs
take_whole [] = refl
take_whole (x ∷ xs) = ap (λ l. x ∷ l) (take_whole xs)

literals_viewed : (terms : List Term) (cs : List Clause') → map (λ c. views terms c.literals.items) cs ≡ map (views terms) (literals cs)
literals_viewed terms [] = refl
literals_viewed terms (c ∷ cs) = ap (λ l. views terms c.literals.items ∷ l) (literals_viewed terms cs)

each_clause : (P : List Literal → Type 0) (cs : List Clause') → Each P (literals cs) → Each (λ c. P c.literals.items) cs
each_clause P [] h = tt
each_clause P (c ∷ cs) h = (h.0, each_clause P cs h.1)

as_many_roots : {terms ts : List Term} {ns : List ℕ} → AllAt terms ns ts → length ns ≡ length ts
as_many_roots no-terms = refl
as_many_roots (one-term at more) = ap suc (as_many_roots more)

pub few_at : {X : Type 0} (view : X → Term) (xs : List X) (t : Term) → All (λ x. HasFewParts (view x)) xs → Contains (map view xs) t → HasFewParts t
few_at view [] t h (n, e) = cc
few_at view (x ∷ xs) t h (zero, e) = subst HasFewParts (same_Some _ _ e) (h 0 x (omega arith))
few_at view (x ∷ xs) t h (suc n, e) = few_at view xs t (λ k d lt. h (suc k) d (omega arith)) (n, e)

by_numbers : (nodes : List Node) (s : State) (stack : Stack) → Represents nodes s.terms → ComputesSteps nodes s stack
by_numbers nodes s stack r = record {
  define = define_computes nodes s r stack;
  chain = chain_computes nodes s r stack;
  congruence = congruence_computes nodes s r stack;
  split = split_computes nodes s r stack;
  trichotomy = trichotomy_computes nodes s r stack;
  pick = pick_computes nodes s r stack;
  divide = divide_computes nodes s r stack;
}

are_distinct : (nodes : List Node) (terms : List Term) → Represents nodes terms → AreDistinct terms
are_distinct nodes terms r m n lm ln e =
    r.distinct m n (term_at terms m) (slice_get-get_or terms m (Truth true) lm) (slice_get-get_or terms n (Truth true) ln ∙ ap Some (sym e))

-- as plans of the checker
abbrev pub plans : Reached → Plans
plans r = record { terms = r.terms; nodes = r.nodes; duties = []; clauses = r.clauses }

-- what a derivation keeps to
pub record Keeps (clauses : List Clause') (r : Reached) : Type 0 where
  pub same : r.clauses ≡ literals clauses
  pub small : length r.nodes < 2 ^ 32
  pub few_roots : length r.roots < 2 ^ 32
  pub few_clauses : length clauses < 2 ^ 32
  pub few_parts : (t : Term) → Contains r.terms t → HasFewParts t

pub taken_whole : (clauses : List Clause') (r : Reached) → Keeps clauses r → take (length r.clauses) clauses ≡ clauses
taken_whole clauses r k = ap (λ n. take n clauses) (ap length k.same ∙ length-map clauses (λ c. c.literals.items)) ∙ take_whole clauses

pub stood : (stack : Stack) (r : Reached) → Stands stack r → checked.Stands stack r.roots (plans r)
stood stack r h = record { table = h.table; nodes = h.nodes; numbers = h.numbers; at_roots = h.at_roots }

pub scene : (stack : Stack) (clauses : List Clause') (r : Reached) → Keeps clauses r → Stands stack r → Scene stack r.roots r.nodes clauses (plans r)
scene stack clauses r k h =
    let whole = taken_whole clauses r k in
    let by = represents stack r.roots (plans r) (stood stack r h) in
    record {
      stands = stood stack r h;
      small = k.small;
      few = subst (λ n. n < 2 ^ 32) (as_many_roots h.at_roots) k.few_roots;
      few_clauses = subst (λ cs. length cs < 2 ^ 32) (sym whole) k.few_clauses;
      few_parts = k.few_parts;
      by = by_numbers r.nodes (state_of r) stack by;
      distinct = are_distinct r.nodes r.terms by;
      front = take_whole r.nodes;
      wide = omega arith;
      here = ap (state r.terms) whole ∙ ap (λ cs. record { terms = r.terms; clauses = cs }) (literals_viewed r.terms clauses ∙ ap (map (views r.terms)) (sym k.same));
      within_terms = subst (Each (λ c. Each (IsNumbered r.terms) c.literals.items)) (sym whole) (each_clause (Each (IsNumbered r.terms)) clauses (subst (Each (Each (IsNumbered r.terms))) k.same h.numbers));
    }
