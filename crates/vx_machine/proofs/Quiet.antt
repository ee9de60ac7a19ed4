-- What a quiet evaluation leaves is read as by the rules over themselves; and what is told leaves the level.
use Rattle.std.proofs.Common.{◌≡◌, ◌∙◌, Bool, true, false, cond, List, [], ◌∷◌, Some, refl, sym, ap}
use Rattle.vx_ast.specs.Syntax.{Program, Expr, Function, joined}
use Rattle.vx_depth.specs.Depths.{ReadsItself}
use Rattle.vx_rules.specs.Members.{rules}
use Rattle.vx_rules.specs.Rules.{Going, eval, gathered, produce, quietly, sides_of, with_body}
use Rattle.vx_rules.specs.States.{State, bind, is_known, with_entry, with_fact, with_facts}
use Rattle.vx_rules.specs.Trees.{On, leaves}
use Rattle.vx_terms.specs.Build.{equals, whole_amount}
use Rattle.vx_terms.specs.Terms.{Term}

-- an expression is evaluated, and leaves its value
abbrev pub leaving : Program → Expr → Going
leaving p e s = eval p (rules p) e s (λ t s1. On t s1)

pub sides_read : (p : Program) (g : Function) (e : Expr) (t : Term) (z : State) → ReadsItself p z.level →
    leaves (produce p (rules p) (joined g.place g.requires) whole_amount (Some t) z (leaving p e)) ≡ sides_of p (rules p) g e t z
sides_read p g e t z reads =
    ap leaves (sym (reads.produce (joined g.place g.requires) whole_amount (Some t) z refl (λ s. (rules p).eval e s (λ t s1. On t s1)) (leaving p e) (λ s l. reads.eval e s l (λ t s1. On t s1) (λ t s1. On t s1) (λ t s1 l. refl))))

-- facts leave the level
pub facts_level : (ts : List Term) (s : State) → (with_facts ts s).level ≡ s.level
facts_level [] s = refl
facts_level (t ∷ ts) s = facts_level ts (with_fact t s) ∙ one (is_known t s)
  where
    one : (b : Bool) → (cond b s (with_entry record { term = t; branch = false } s)).level ≡ s.level
    one true = refl
    one false = refl

pub body_level : (p : Program) (g : Function) (ts : List Term) (snapshot t : Term) (s : State) → (with_body p (rules p) g ts snapshot t s).level ≡ s.level
body_level p g ts snapshot t s =
    let start : State = quietly p (rules p) (bind g.parameters ts) s in
    facts_level (gathered start (λ w. equals t w) (sides_of p (rules p) g g.body snapshot start)) s
