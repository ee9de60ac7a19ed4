-- Programs with one predicate: with bodies that typing refuses, and with good ones.
use Rattle.std.specs.Prelude.{codes, ℕ, [], ◌∷◌, Some}
use Rattle.vx_ast.specs.declared.Place.{Place}
use Rattle.vx_ast.specs.declared.ValueType.{ValueType}
use Rattle.vx_ast.specs.declared.ValueType.TheVariants as type
use Rattle.vx_ast.specs.Syntax.{Name, Program, Predicate, IsField, IsPredicate, Expr, Null, Part, Variable, Not, Operate, Equal, Subtract, Read, Old, Number, NoMore, More, Assertion, Pure, Points, Instance, Both, Implied}
use Rattle.vx_frac.specs.Fractions.{full}
use Rattle.vx_meaning.specs.Values.{RefValue}
use Rattle.vx_meaning.specs.States as run
use Rattle.vx_meaning.specs.States.{Holdings, At, Folded}

abbrev pub here : Place
here = record { line = 1; column = 1 }

abbrev pub x : Name
x = codes "x"

abbrev pub y : Name
y = codes "y"

abbrev pub f : Name
f = codes "f"

abbrev pub P : Name
P = codes "P"

-- field f: T, and the predicate as P
abbrev pub with_field : ValueType → Predicate → Program
with_field t d = record { name = f; kind = IsField t } ∷ record { name = P; kind = IsPredicate d } ∷ []

-- predicate P(x: Ref) { acc(x.f) && acc(P(x), none) }
abbrev pub loop_body : Assertion
loop_body = Both (Points here (Variable here x) f (Part here 1 1)) (Instance here P (More (Variable here x) NoMore) (Part here 0 1))

abbrev pub loop : Predicate
loop = record { place = here; parameters = record { name = x; of = type.Ref } ∷ []; body = Some loop_body }

abbrev pub loops : Program
loops = with_field type.Int loop

abbrev pub instance_of : ℕ → run.Instance
instance_of r = record { predicate = P; arguments = RefValue r ∷ [] }

-- predicate P(x: Ref, y: Ref) { acc(x.f) && (x == null ==> acc(x.f, none - write) && acc(y.f, none - write)) }
abbrev pub less : Expr
less = Operate here Subtract (Part here 0 1) (Part here 1 1)

abbrev pub owe_body : Assertion
owe_body = Both
    (Points here (Variable here x) f (Part here 1 1))
    (Implied (Operate here Equal (Variable here x) (Null here)) (Both (Points here (Variable here x) f less) (Points here (Variable here y) f less)))

abbrev pub owe : Predicate
owe = record { place = here; parameters = record { name = x; of = type.Ref } ∷ record { name = y; of = type.Ref } ∷ []; body = Some owe_body }

abbrev pub owes : Program
owes = with_field type.Int owe

-- the whole of 1.f, and the whole of P(null, 1)
abbrev pub owing : Holdings
owing =
    (At record { receiver = 1; field = f }, full)
    ∷ (Folded record { predicate = P; arguments = RefValue 0 ∷ RefValue 1 ∷ [] }, full)
    ∷ []

-- predicate P(x: Ref) { acc(x.f) && x.f == 0 }
abbrev pub cell_body : Assertion
cell_body = Both (Points here (Variable here x) f (Part here 1 1)) (Pure (Operate here Equal (Read here (Variable here x) f) (Number here 0)))

abbrev pub cell : Predicate
cell = record { place = here; parameters = record { name = x; of = type.Ref } ∷ []; body = Some cell_body }

abbrev pub cells : Program
cells = with_field type.Int cell

-- predicate P(x: Ref) { acc(x.f) && (!(x.f == null) ==> P(x.f)) }, where f is a Ref
abbrev pub chain_body : Assertion
chain_body = Both
    (Points here (Variable here x) f (Part here 1 1))
    (Implied (Not here (Operate here Equal (Read here (Variable here x) f) (Null here))) (Instance here P (More (Read here (Variable here x) f) NoMore) (Part here 1 1)))

abbrev pub chain : Predicate
chain = record { place = here; parameters = record { name = x; of = type.Ref } ∷ []; body = Some chain_body }

abbrev pub chains : Program
chains = with_field type.Ref chain

-- predicate P(x: Ref) { old(x) == x }, which typing refuses
abbrev pub remember_body : Assertion
remember_body = Pure (Operate here Equal (Old here (Variable here x)) (Variable here x))

abbrev pub remember : Predicate
remember = record { place = here; parameters = record { name = x; of = type.Ref } ∷ []; body = Some remember_body }

abbrev pub remembers : Program
remembers = with_field type.Int remember
