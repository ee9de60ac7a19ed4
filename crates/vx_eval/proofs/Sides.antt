-- What waits for a value with two ways to go on, and two sides by equal sides.
use Rattle.std.proofs.Common.{◌≡◌, Bool, true, false, if◌then◌else◌, ◌∙◌, ap, sym}
use Rattle.vx_terms.specs.Terms.{Term}
use Rattle.vx_rules.specs.States.{State}
use Rattle.vx_rules.specs.Trees.{Tree}
use Rattle.vx_rules.specs.Rules.{Giving, Going, fork}

pub first_way : (b : Bool) (o x y : Giving) → b ≡ true → ◌≡◌ {A = Giving} o x → ◌≡◌ {A = Giving} o (if b then x else y)
first_way b o x y e f = rw e f

pub second_way : (b : Bool) (o x y : Giving) → b ≡ false → ◌≡◌ {A = Giving} o y → ◌≡◌ {A = Giving} o (if b then x else y)
second_way b o x y e f = rw e f

pub either_way : (b : Bool) (o x y : Giving) (k : Giving → Tree) → ◌≡◌ {A = Giving} o (if b then x else y) → (if b then k x else k y) ≡ k o
either_way true o x y k e = sym (ap k e)
either_way false o x y k e = sym (ap k e)

pub forks : (t : Term) (s : State) (a b c d : Going) → ◌≡◌ {A = Going} a b → ◌≡◌ {A = Going} c d → fork t s b d ≡ fork t s a c
forks t s a b c d e f = sym (ap (λ (y : Going). fork t s y c) e ∙ ap (λ (y : Going). fork t s b y) f)
