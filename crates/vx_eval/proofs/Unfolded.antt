-- What an amount leads to before the arguments of an `unfolding`, by equal parts.
use Rattle.std.proofs.Common.{◌≡◌, ◌∙◌, ap}
use Rattle.std.specs.Prelude.{string_bytes}
use Rattle.std.specs.declared.alloc.Global.{Global}
use Rattle.std.specs.declared.string.String.{String}
use Rattle.vx_ast.specs.declared.Place.{Place}
use Rattle.vx_ast.specs.Syntax.{Program}
use Rattle.vx_heap.specs.declared.heap.SymHeap.{SymHeap}
use Rattle.vx_heap.specs.Views.{heap}
use Rattle.vx_resolved.specs.declared.Expr as expr'
use Rattle.vx_resolved.specs.declared.Exprs as exprs'
use Rattle.vx_resolved.specs.Resolved.{expr, exprs}
use Rattle.vx_rules.specs.Members.{rules}
use Rattle.vx_rules.specs.Rules.{Giving, Going, GivingAll, ask, eval, evals, placed, unfolded}
use Rattle.vx_rules.specs.States.{with_heap}
use Rattle.vx_rules.specs.Trees.{AmountCode, Step}
use Rattle.vx_terms.specs.Build.{less, zero_amount}
use Rattle.vx_terms.specs.Terms.{Term}

-- the expression is evaluated, and the heap behind it is this one
abbrev pub within : Program → expr'.Expr → SymHeap → Giving → Going
within p e h on = λ s. eval p (rules p) (expr e) s (λ t s1. Step (on t (with_heap (heap h) s1)))

abbrev pub after_arguments : Program → Place → String Global → Term → Going → GivingAll
after_arguments p at i a on = λ ts s. unfolded p (rules p) (placed s at) (string_bytes i) ts a s on

abbrev pub opened : Program → Place → String Global → exprs'.Exprs → expr'.Expr → SymHeap → Giving → Giving
opened p at i es e h on = λ a s. ask (less zero_amount a) (placed s at) AmountCode s (λ s1. evals p (rules p) (exprs es) s1 (after_arguments p at i a (within p e h on)))

pub opens : (p : Program) (at : Place) (i j : String Global) (es fs : exprs'.Exprs) (e f : expr'.Expr) (h k : SymHeap) (on : Giving) → i ≡ j → es ≡ fs → e ≡ f → h ≡ k →
    ◌≡◌ {A = Giving} (opened p at i es e h on) (opened p at j fs f k on)
opens p at i j es fs e f h k on a b c d =
    ap {B = Giving} (λ y. opened p at y es e h on) a
    ∙ ap {B = Giving} (λ y. opened p at j y e h on) b
    ∙ ap {B = Giving} (λ y. opened p at j fs y h on) c
    ∙ ap {B = Giving} (λ y. opened p at j fs f y on) d
