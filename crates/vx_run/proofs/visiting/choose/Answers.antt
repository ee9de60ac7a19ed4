use Rattle.std.proofs.Common.{◌≡◌, ℕ, Bool, true, false, Result, Ok, sym, ◌∙◌, ap}
use Rattle.vx_resolved.specs.Resolved.{assertion}
use Rattle.vx_run.specs.Going.{Going, ◌>>=◌, gives, when}
use Rattle.vx_run.specs.Blame.{within}
use Rattle.vx_run.specs.Configs.{Config}
use Rattle.vx_run.specs.Frames.{rest}
use Rattle.vx_run.specs.Visits.{came, visiting}
use Rattle.vx_run.specs.declared.outcome.Whole.{Whole}
use Rattle.vx_run.proofs.visiting.choose.Goals as goal

-- the condition that was found
side_is : (x : Result Bool Whole) (b v : Bool) (s : Going ℕ Bool) → came (λ c. c) x ≡ s → x ≡ Ok b → b ≡ v → (let g : Going ℕ Bool = gives v in g) ≡ s
side_is x b v s e i h = ap (λ (y : Bool). let g : Going ℕ Bool = gives y in g) (sym h) ∙ ap (came (λ c. c)) (sym i) ∙ e

pub returns-then-first : goal.returns-then-first
returns-then-first c = λ t s e d l.
    let g = rest t c.args.frames.now.items in
    let k = c.args.k in
    let m = c.args.m in
    ap (λ (f : Config → Going ℕ Config). f d l) (c.in_ok-put_off-in-Ok.ensures t)
    ∙ ap (λ (n : Going ℕ Bool). ((within k.blame n >>= λ y. when y (visiting t k m (assertion c.args.a.now) d) (visiting t k m (assertion c.args.b.now) d)) >>= g) l)
    (side_is _ _ true s e c.in-Ok.is c.if-first.true)

pub returns-in_ok-put_off-in-Ok-2 : goal.returns-in_ok-put_off-in-Ok-2
returns-in_ok-put_off-in-Ok-2 c = λ t s e d l.
    let g = rest t c.args.frames.now.items in
    let k = c.args.k in
    let m = c.args.m in
    ap (λ (f : Config → Going ℕ Config). f d l) (c.in_ok-put_off-in-Ok-2.ensures t)
    ∙ ap (λ (n : Going ℕ Bool). ((within k.blame n >>= λ y. when y (visiting t k m (assertion c.args.a.now) d) (visiting t k m (assertion c.args.b.now) d)) >>= g) l)
    (side_is _ _ false s e c.in-Ok.is c.if-first.false)
