use Rattle.std.proofs.Common.{ℕ, List, ◌∷◌, sym, ◌∙◌, ap}
use Rattle.vx_meaning.specs.Values.{Value}
use Rattle.vx_run.specs.Going.{Going, gives}
use Rattle.vx_run.specs.Configs.{Config, with_lists, with_list}
use Rattle.vx_run.specs.Frames.{Come}
use Rattle.vx_run.specs.Views.{value}
use Rattle.vx_run.proofs.evaluating.collect.Goals as goal

pub returns-in_ok-put_longer-in-Some-pop_list : goal.returns-in_ok-put_longer-in-Some-pop_list
returns-in_ok-put_longer-in-Some-pop_list c = λ l.
    let first : Value → Config → Going ℕ Config = λ v d. with_list d (λ vs f. gives (with_lists ((v ∷ vs) ∷ f.lists) f)) in
    let second : List Value → Config → Going ℕ Config = λ vs f. gives (with_lists ((value c.in-Some.v ∷ vs) ∷ f.lists) f) in
    ap (λ (d : Config). let m : Come = gives d l in m) c.in_ok-put_longer-in-Some-pop_list.ensures
    ∙ sym (ap (λ (m : Going ℕ Config). m l) (c.in-Some.ensures.some first ∙ c.in-Some-pop_list.ensures.some second))
