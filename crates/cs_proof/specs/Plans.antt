-- What is prepared for all steps, one after another.
use Rattle.std.specs.Prelude.{ℕ, Bool, true, false, ◌&&◌, if◌then◌else◌, List, [], ◌∷◌, ◌++◌, length, drop, Option, Some, None}
use Rattle.vx_terms.specs.Sorts.{Sort}
use Rattle.vx_terms.specs.Terms.{Term}
use Rattle.vx_smt_meaning.specs.Commands.{Declared}
use Rattle.cs_certificate.specs.Terms.{subterms, parts_of}
use Rattle.cs_certificate.specs.Certificate.{Step, NewTerm, Stack}
use Rattle.cs_certificate.specs.Nodes.{Node}
use Rattle.cs_certificate.specs.Steps.{◌>>=◌}
use Rattle.cs_numbers.specs.Numbering.{added, nodes_after, places}
use Rattle.cs_sorts.specs.Sorting.{sort_in, is_live}
use Rattle.cs_certificate.specs.declared.literal.Literal.{Literal}
use Rattle.cs_proof.specs.Prepared.{Duty, Named, Missed, prepared}

pub record Plans : Type 0 where
  pub terms : List Term
  pub nodes : List Node
  pub duties : List Duty
  pub clauses : List (List Literal)

abbrev pub with_duty : Plans → Duty → Plans
with_duty p d = record p { duties = p.duties ++ d ∷ [] }

abbrev pub and_clause : Plans → List Literal → Plans
and_clause p c = record p { clauses = p.clauses ++ c ∷ [] }

-- a step's duty and its clause
abbrev pub with_clause : Plans → Duty × List Literal → Plans
with_clause p x = record p { duties = p.duties ++ x.0 ∷ []; clauses = p.clauses ++ x.1 ∷ [] }

abbrev pub kept : Plans → Option (Duty × List Literal) → Plans
kept p None = with_duty p Missed
kept p (Some x) = with_clause p x

abbrev pub has_sort : Option Sort → Bool
has_sort (Some a) = true
has_sort None = false

-- well-sorted over the live symbols
abbrev pub is_fine : List Declared → Term → Bool
is_fine symbols t = has_sort (sort_in t) && is_live symbols t

-- the terms have nodes
abbrev pub numbered : Plans → List Term → Option Plans
numbered p terms = nodes_after p.nodes terms (drop (length p.nodes) terms) >>= λ nodes. Some record p { terms = terms; nodes = nodes }

abbrev pub named : Plans → Term → Option Plans
named p t = numbered p (added p.terms (subterms t)) >>= λ q. Some (with_duty q Named)

abbrev pub named_if : Plans → Bool → Term → Option Plans
named_if p fine t = if fine then named p t else Some (with_duty p Missed)

-- with one step more; a `term` step may spell no term
abbrev pub planned_step : List Declared → (roots : List ℕ) → Plans → Step → Option Plans
planned_step symbols roots p (NewTerm t) = named_if p (is_fine symbols t) t
planned_step symbols roots p step = Some (kept p (prepared p.nodes roots step))

abbrev pub planned : List Declared → (roots : List ℕ) → Plans → Option Step → Option Plans
planned symbols roots p None = Some (with_duty p Missed)
planned symbols roots p (Some step) = planned_step symbols roots p step

abbrev pub planned_all : List Declared → (roots : List ℕ) → Plans → List (Option Step) → Option Plans
planned_all symbols roots p [] = Some p
planned_all symbols roots p (w ∷ ws) = planned symbols roots p w >>= λ q. planned_all symbols roots q ws

-- the plans of all steps over a stack
abbrev pub begun : List Term → Option (List ℕ × Plans)
begun assertions = nodes_after [] (added [] (parts_of assertions)) (added [] (parts_of assertions)) >>= λ nodes.
    (places (added [] (parts_of assertions)) assertions >>= λ roots. Some (roots, record { terms = added [] (parts_of assertions); nodes = nodes; duties = []; clauses = [] }))

abbrev pub plans_of : Stack → List (Option Step) → Option Plans
plans_of stack ws = begun stack.assertions >>= λ b. planned_all stack.symbols b.0 b.1 ws
