-- Small trees, and the parts of symbolic states.
use Rattle.std.specs.Prelude.{true, false, pos, [], ◌∷◌, codes}
use Rattle.vx_ast.specs.Syntax.{Name}
use Rattle.vx_terms.specs.Terms.{Term}
use Rattle.vx_rules.specs.States.{Entry, Chunk, Heap, State}
use Rattle.vx_rules.specs.Trees.{Question, Tree, End, On, Step, Ask, Probe, Fork, AssertCode, PermissionCode}
use Rattle.vx_rules.specs.Members.{blank}
use Rattle.vx_examples.specs.Words.{at, int, bool, ref, snap, all, asks, probes, part, denied, number}

abbrev pub first_ask : Question
first_ask = asks (at 1 1) AssertCode [] (bool 1)

abbrev pub second_ask : Question
second_ask = asks (at 2 1) AssertCode [] (bool 2)

abbrev pub a_probe : Question
a_probe = probes (at 3 1) PermissionCode [] (bool 3)

-- a question, and then another
abbrev pub two_asks : Tree
two_asks = Ask first_ask (Step (Ask second_ask End))

-- two sides with a question each
abbrev pub two_sides : Tree
two_sides = Fork (Ask first_ask End) (Ask second_ask End)

-- a probe with a question behind each answer
abbrev pub probing : Tree
probing = Probe a_probe (Ask first_ask End) (Ask second_ask End)

-- an evaluation that leaves three sides, and drops one
abbrev pub leaving : Tree
leaving = Fork (Step (On (int 1) blank)) (Probe a_probe (Ask first_ask (On (int 2) blank)) (Fork End (On (int 3) blank)))

-- States

abbrev pub x : Name
x = codes "x"

abbrev pub y : Name
y = codes "y"

abbrev pub f : Name
f = codes "f"

abbrev pub g : Name
g = codes "g"

abbrev pub cell : Name
cell = codes "cell"

abbrev pub fact : Term → Entry
fact t = record { term = t; branch = false }

abbrev pub branch : Term → Entry
branch t = record { term = t; branch = true }

-- x is v0 and y is 1; v0 is a branch of the path and the negated v1 a fact; the next symbol is v7
abbrev pub scene : State
scene = record blank { store = (x, bool 0) ∷ (y, number 1) ∷ []; path = branch (bool 0) ∷ fact (denied (bool 1)) ∷ []; next = 7 }

-- the same above level 0
abbrev pub quiet_scene : State
quiet_scene = record scene { level = 1 }

abbrev pub field_chunk : Name → Term → Term → Term → Chunk
field_chunk h r a v = record { is_field = true; resource = h; arguments = r ∷ []; amount = a; value = v; root = false; inner = false }

abbrev pub cell_chunk : Term → Term → Term → Chunk
cell_chunk r a s = record { is_field = false; resource = cell; arguments = r ∷ []; amount = a; value = s; root = false; inner = false }

abbrev pub half : Term
half = part (pos 1) 1

-- half of f at v0, all of f at v1, all of g at v0, half of cell at v0
abbrev pub heap : Heap
heap =
    field_chunk f (ref 0) half (int 10) ∷ field_chunk f (ref 1) all (int 11) ∷ field_chunk g (ref 0) all (int 12) ∷ cell_chunk (ref 0) half (snap 13) ∷ []

abbrev pub with_chunks : State
with_chunks = record blank { heap = heap; next = 20 }
