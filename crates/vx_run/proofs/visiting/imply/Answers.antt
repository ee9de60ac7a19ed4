use Rattle.std.proofs.Common.{◌≡◌, ℕ, Bool, true, false, Result, Ok, sym, ◌∙◌, ap}
use Rattle.vx_resolved.specs.Resolved.{assertion}
use Rattle.vx_run.specs.Going.{Going, ◌>>=◌, gives, when}
use Rattle.vx_run.specs.Blame.{within}
use Rattle.vx_run.specs.Configs.{Config}
use Rattle.vx_run.specs.Frames.{rest}
use Rattle.vx_run.specs.Visits.{came, visiting}
use Rattle.vx_run.specs.declared.outcome.Whole.{Whole}
use Rattle.vx_run.proofs.visiting.imply.Goals as goal

-- the condition that was found
side_is : (x : Result Bool Whole) (b v : Bool) (s : Going ℕ Bool) → came (λ c. c) x ≡ s → x ≡ Ok b → b ≡ v → (let g : Going ℕ Bool = gives v in g) ≡ s
side_is x b v s e i h = ap (λ (y : Bool). let g : Going ℕ Bool = gives y in g) (sym h) ∙ ap (came (λ c. c)) (sym i) ∙ e

pub returns-then-b : goal.returns-then-b
returns-then-b c = λ t s e d l.
    let g = rest t c.args.frames.now.items in
    let a = assertion c.args.a.now in
    ap (λ (f : Config → Going ℕ Config). f d l) (c.in_ok-put_off-in-Ok.ensures t)
    ∙ ap (λ (n : Going ℕ Bool). ((within c.args.k.blame n >>= λ b. when b (visiting t c.args.k c.args.m a d) (gives d)) >>= g) l) (side_is _ _ true s e c.in-Ok.is c.if-b.true)

pub returns-else-b : goal.returns-else-b
returns-else-b c = λ t s e d l.
    let g = rest t c.args.frames.now.items in
    let a = assertion c.args.a.now in
    ap (λ (n : Going ℕ Bool). ((within c.args.k.blame n >>= λ b. when b (visiting t c.args.k c.args.m a d) (gives d)) >>= g) l) (side_is _ _ false s e c.in-Ok.is c.if-b.false)
