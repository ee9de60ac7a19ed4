-- Rules and frames by equal parts.
use Rattle.std.proofs.Common.{◌≡◌, List, ap, ◌∙◌}
use Rattle.vx_ast.specs.declared.Place.{Place}
use Rattle.vx_ast.specs.Syntax.{Name, Program, Expr, Assertion}
use Rattle.vx_terms.specs.Terms.{Term}
use Rattle.vx_heap.specs.Views.{held_term}
use Rattle.vx_terms.specs.Build.{multiply}
use Rattle.vx_rules.specs.Codes.{code}
use Rattle.vx_rules.specs.States.{Heap, State}
use Rattle.vx_rules.specs.Trees.{Code, Step}
use Rattle.vx_rules.specs.Rules.{Context, Giving, GivingAll, Going, eval, fork}
use Rattle.vx_rules.specs.Members.{rules}
use Rattle.vx_stack.specs.declared.waiting.Consumption.{Consumption}
use Rattle.vx_stack.specs.Stack.{consuming, context, take_instance, take_location, taking, taking_instance, wrapped}

pub forks : (c : Term) (s z : State) (left l right r : Going) → s ≡ z → left ≡ l → right ≡ r → fork c s left right ≡ fork c z l r
forks c s z left l right r e f g = ap (λ y. fork c y left right) e ∙ ap (λ (y : Going). fork c z y right) f ∙ ap (λ (y : Going). fork c z l y) g

pub consumes_from : (p : Program) (a b : Assertion) (x y : Consumption) (k on : Giving) → a ≡ b → x ≡ y → k ≡ on → ◌≡◌ {A = Going} (λ s. consuming p a x s k) (λ s. consuming p b y s on)
consumes_from p a b x y k on e f g =
    ap {B = Going} (λ (z : Assertion) s. consuming p z x s k) e ∙ ap {B = Going} (λ (z : Consumption) s. consuming p b z s k) f
    ∙ ap {B = Going} (λ (z : Giving) s. consuming p b y s z) g

pub wraps : (p : Program) (f g : Name) (x : Context) (k on : Giving) → f ≡ g → k ≡ on → ◌≡◌ {A = Giving} (wrapped p f x k) (wrapped p g x on)
wraps p f g x k on e h = ap {B = Giving} (λ (y : Name). wrapped p y x k) e ∙ ap {B = Giving} (λ (y : Giving). wrapped p g x y) h

pub takes : (p : Program) (at : Place) (f g : Name) (r q a b : Term) (c : Code) (h j : Heap) (k on : Giving) → f ≡ g → r ≡ q → a ≡ b → h ≡ j → k ≡ on →
    ◌≡◌ {A = Going} (λ s. take_location p at f r a c h s k) (λ s. take_location p at g q b c j s on)
takes p at f g r q a b c h j k on e i l m n =
    ap {B = Going} (λ (y : Name) s. take_location p at y r a c h s k) e ∙ ap {B = Going} (λ (y : Term) s. take_location p at g y a c h s k) i
    ∙ ap {B = Going} (λ (y : Term) s. take_location p at g q y c h s k) l ∙ ap {B = Going} (λ (y : Heap) s. take_location p at g q b c y s k) m
    ∙ ap {B = Going} (λ (y : Giving) s. take_location p at g q b c j s y) n

-- a share's value is taken
abbrev pub shared : Program → Place → Name → Term → Consumption → Heap → Giving → Giving
shared p at f r x h on a s = taking p at f r (multiply (held_term x.scale) a) (code x.codes.permission) h s (wrapped p f (context x.codes) on)

pub shares : (p : Program) (at : Place) (f g : Name) (r : Term) (x y : Consumption) (h j : Heap) (k on : Giving) → f ≡ g → x ≡ y → h ≡ j → k ≡ on → ◌≡◌ {A = Giving} (shared p at f r x h k) (shared p at g r y j on)
shares p at f g r x y h j k on e i l m =
    ap {B = Giving} (λ (z : Name). shared p at z r x h k) e ∙ ap {B = Giving} (λ (z : Consumption). shared p at g r z h k) i
    ∙ ap {B = Giving} (λ (z : Heap). shared p at g r y z k) l ∙ ap {B = Giving} (λ (z : Giving). shared p at g r y j z) m

-- a receiver's value leads to the share
abbrev pub located : Program → Place → Name → Expr → Consumption → Heap → Giving → Giving
located p at f e x h on r s = eval p (rules p) e s (shared p at f r x h on)

pub locates : (p : Program) (at : Place) (f g : Name) (e d : Expr) (x y : Consumption) (h j : Heap) (on : Giving) → f ≡ g → e ≡ d → x ≡ y → h ≡ j → ◌≡◌ {A = Giving} (located p at f e x h on) (located p at g d y j on)
locates p at f g e d x y h j on i k l m =
    ap {B = Giving} (λ (z : Name). located p at z e x h on) i ∙ ap {B = Giving} (λ (z : Expr). located p at g z x h on) k
    ∙ ap {B = Giving} (λ (z : Consumption). located p at g d z h on) l ∙ ap {B = Giving} (λ (z : Heap). located p at g d y z on) m

pub takes_held : (p : Program) (at : Place) (f g : Name) (ts us : List Term) (a b : Term) (c : Code) (h j : Heap) (k on : Giving) → f ≡ g → ts ≡ us → a ≡ b → h ≡ j → k ≡ on →
    ◌≡◌ {A = Going} (λ s. take_instance p at f ts a c h s k) (λ s. take_instance p at g us b c j s on)
takes_held p at f g ts us a b c h j k on e i l m n =
    ap {B = Going} (λ (y : Name) s. take_instance p at y ts a c h s k) e ∙ ap {B = Going} (λ (y : List Term) s. take_instance p at g y a c h s k) i
    ∙ ap {B = Going} (λ (y : Term) s. take_instance p at g us y c h s k) l ∙ ap {B = Going} (λ (y : Heap) s. take_instance p at g us b c y s k) m
    ∙ ap {B = Going} (λ (y : Giving) s. take_instance p at g us b c j s y) n

-- an instance's share's value is taken
abbrev pub shared_held : Program → Place → Name → List Term → Consumption → Heap → Giving → Giving
shared_held p at f ts x h on a s = taking_instance p at f ts (multiply (held_term x.scale) a) (code x.codes.permission) h s (λ v s1. Step (on v s1))

pub shares_held : (p : Program) (at : Place) (f g : Name) (ts us : List Term) (x y : Consumption) (h j : Heap) (k on : Giving) → f ≡ g → ts ≡ us → x ≡ y → h ≡ j → k ≡ on →
    ◌≡◌ {A = Giving} (shared_held p at f ts x h k) (shared_held p at g us y j on)
shares_held p at f g ts us x y h j k on e i l m n =
    ap {B = Giving} (λ (z : Name). shared_held p at z ts x h k) e ∙ ap {B = Giving} (λ (z : List Term). shared_held p at g z x h k) i
    ∙ ap {B = Giving} (λ (z : Consumption). shared_held p at g us z h k) l ∙ ap {B = Giving} (λ (z : Heap). shared_held p at g us y z k) m
    ∙ ap {B = Giving} (λ (z : Giving). shared_held p at g us y j z) n

-- the values of an instance's arguments lead to its share
abbrev pub held : Program → Place → Name → Expr → Consumption → Heap → Giving → GivingAll
held p at f e x h on ts s = eval p (rules p) e s (shared_held p at f ts x h on)

pub helds : (p : Program) (at : Place) (f g : Name) (e d : Expr) (x y : Consumption) (h j : Heap) (on : Giving) → f ≡ g → e ≡ d → x ≡ y → h ≡ j → ◌≡◌ {A = GivingAll} (held p at f e x h on) (held p at g d y j on)
helds p at f g e d x y h j on i k l m =
    ap {B = GivingAll} (λ (z : Name). held p at z e x h on) i ∙ ap {B = GivingAll} (λ (z : Expr). held p at g z x h on) k
    ∙ ap {B = GivingAll} (λ (z : Consumption). held p at g d z h on) l ∙ ap {B = GivingAll} (λ (z : Heap). held p at g d y z on) m
