-- Blocks of statements, one a line.
use Rattle.std.specs.Prelude.{false, [], ◌∷◌, codes}
use Rattle.vx_ast.specs.declared.ValueType.TheVariants.{Int}
use Rattle.vx_ast.specs.Syntax.{Name, Add, Assert, Assign, Assume, Block, Both, Call, Chosen, Declare, Done, Equal, Exhale, Fold, If, Implied, Inhale, Instance, Less, LessEqual, More, New, NoMore, Null, Number, Operate, Part, Points, Pure, Read, Subtract, Then, Truth, Unfold, Variable, While, Write}
use Rattle.vx_examples.specs.Words.{at}
use Rattle.vx_examples.specs.Cells.{cell, f, hidden, never, read_name, unframed, x, y}

abbrev pub z : Name
z = codes "z"

-- { }
abbrev pub nothing : Block
nothing = Done

-- { var z: Int }
abbrev pub declares : Block
declares = Then (Declare (at 1 3) z Int) Done

-- { y := 1 }
abbrev pub assigns : Block
assigns = Then (Assign (at 1 3) y (Number (at 1 8) 1)) Done

-- { y := x.f }
abbrev pub reads : Block
reads = Then (Assign (at 1 3) y (Read (at 1 8) (Variable (at 1 8) x) f)) Done

-- { x.f := 1 }
abbrev pub writes : Block
writes = Then (Write (at 1 3) (Variable (at 1 3) x) f (Number (at 1 10) 1)) Done

-- { null.f := 1 }
abbrev pub writes_null : Block
writes_null = Then (Write (at 1 3) (Null (at 1 3)) f (Number (at 1 13) 1)) Done

-- { x := new(f) }
abbrev pub creates : Block
creates = Then (New (at 1 3) x (f ∷ [])) Done

-- { x := new() }
abbrev pub creates_bare : Block
creates_bare = Then (New (at 1 3) x []) Done

-- { y := read(x) }
abbrev pub calls : Block
calls = Then (Call (at 1 3) (y ∷ []) read_name (More (Variable (at 1 13) x) NoMore)) Done

-- { never(x) }
abbrev pub calls_never : Block
calls_never = Then (Call (at 1 3) [] never (More (Variable (at 1 9) x) NoMore)) Done

-- { unframed(x) }
abbrev pub calls_unframed : Block
calls_unframed = Then (Call (at 1 3) [] unframed (More (Variable (at 1 12) x) NoMore)) Done

-- { inhale acc(x.f, 1/2) }
abbrev pub inhales : Block
inhales = Then (Inhale (at 1 3) (Points (at 1 10) (Variable (at 1 14) x) f (Part (at 1 19) 1 2))) Done

-- { inhale false }
abbrev pub inhales_false : Block
inhales_false = Then (Inhale (at 1 3) (Pure (Truth (at 1 10) false))) Done

-- { inhale x.f == 5 }
abbrev pub inhales_unread : Block
inhales_unread = Then (Inhale (at 1 3) (Pure (Operate (at 1 10) Equal (Read (at 1 10) (Variable (at 1 10) x) f) (Number (at 1 17) 5)))) Done

-- { inhale acc(x.f, 1/2) && x.f == 5 }
abbrev pub inhales_framed : Block
inhales_framed = Then (Inhale (at 1 3) (Both (Points (at 1 10) (Variable (at 1 14) x) f (Part (at 1 19) 1 2)) (Pure (Operate (at 1 27) Equal (Read (at 1 27) (Variable (at 1 27) x) f) (Number (at 1 34) 5))))) Done

-- { inhale x.f == 5 && acc(x.f, 1/2) }
abbrev pub inhales_too_early : Block
inhales_too_early = Then (Inhale (at 1 3) (Both (Pure (Operate (at 1 10) Equal (Read (at 1 10) (Variable (at 1 10) x) f) (Number (at 1 17) 5))) (Points (at 1 22) (Variable (at 1 26) x) f (Part (at 1 31) 1 2)))) Done

-- { inhale y == 0 ==> acc(x.f, 1/2) }
abbrev pub inhales_where : Block
inhales_where = Then (Inhale (at 1 3) (Implied (Operate (at 1 10) Equal (Variable (at 1 10) y) (Number (at 1 15) 0)) (Points (at 1 21) (Variable (at 1 25) x) f (Part (at 1 30) 1 2)))) Done

-- { inhale y == 1 ==> acc(x.f, 1/2) }
abbrev pub inhales_nowhere : Block
inhales_nowhere = Then (Inhale (at 1 3) (Implied (Operate (at 1 10) Equal (Variable (at 1 10) y) (Number (at 1 15) 1)) (Points (at 1 21) (Variable (at 1 25) x) f (Part (at 1 30) 1 2)))) Done

-- { inhale y == 0 ? acc(x.f, 1/2) : false && acc(x.f) }
abbrev pub inhales_by_choice : Block
inhales_by_choice = Then (Inhale (at 1 3) (Chosen (Operate (at 1 10) Equal (Variable (at 1 10) y) (Number (at 1 15) 0)) (Points (at 1 19) (Variable (at 1 23) x) f (Part (at 1 28) 1 2)) (Both (Pure (Truth (at 1 35) false)) (Points (at 1 44) (Variable (at 1 48) x) f (Part (at 1 44) 1 1))))) Done

-- { inhale y == 1 ? acc(x.f, 1/2) : false && acc(x.f) }
abbrev pub inhales_other_choice : Block
inhales_other_choice = Then (Inhale (at 1 3) (Chosen (Operate (at 1 10) Equal (Variable (at 1 10) y) (Number (at 1 15) 1)) (Points (at 1 19) (Variable (at 1 23) x) f (Part (at 1 28) 1 2)) (Both (Pure (Truth (at 1 35) false)) (Points (at 1 44) (Variable (at 1 48) x) f (Part (at 1 44) 1 1))))) Done

-- { inhale x.f == 0 ==> acc(x.f, 1/2) }
abbrev pub inhales_unread_condition : Block
inhales_unread_condition = Then (Inhale (at 1 3) (Implied (Operate (at 1 10) Equal (Read (at 1 10) (Variable (at 1 10) x) f) (Number (at 1 17) 0)) (Points (at 1 23) (Variable (at 1 27) x) f (Part (at 1 32) 1 2)))) Done

-- { inhale cell(x) }
abbrev pub inhales_instance : Block
inhales_instance = Then (Inhale (at 1 3) (Instance (at 1 10) cell (More (Variable (at 1 15) x) NoMore) (Part (at 1 10) 1 1))) Done

-- { inhale acc(x.f, none - write) }
abbrev pub inhales_negative : Block
inhales_negative = Then (Inhale (at 1 3) (Points (at 1 10) (Variable (at 1 14) x) f (Operate (at 1 19) Subtract (Part (at 1 19) 0 1) (Part (at 1 26) 1 1)))) Done

-- { assume y == 0 }
abbrev pub assumes : Block
assumes = Then (Assume (at 1 3) (Operate (at 1 10) Equal (Variable (at 1 10) y) (Number (at 1 15) 0))) Done

-- { assume y == 1 }
abbrev pub assumes_false : Block
assumes_false = Then (Assume (at 1 3) (Operate (at 1 10) Equal (Variable (at 1 10) y) (Number (at 1 15) 1))) Done

-- { assume x.f == 5 }
abbrev pub assumes_unread : Block
assumes_unread = Then (Assume (at 1 3) (Operate (at 1 10) Equal (Read (at 1 10) (Variable (at 1 10) x) f) (Number (at 1 17) 5))) Done

-- { exhale acc(x.f) && x.f == 5 }
abbrev pub exhales : Block
exhales = Then (Exhale (at 1 3) (Both (Points (at 1 10) (Variable (at 1 14) x) f (Part (at 1 10) 1 1)) (Pure (Operate (at 1 22) Equal (Read (at 1 22) (Variable (at 1 22) x) f) (Number (at 1 29) 5))))) Done

-- { exhale acc(x.f) && x.f == 6 }
abbrev pub exhales_wrong : Block
exhales_wrong = Then (Exhale (at 1 3) (Both (Points (at 1 10) (Variable (at 1 14) x) f (Part (at 1 10) 1 1)) (Pure (Operate (at 1 22) Equal (Read (at 1 22) (Variable (at 1 22) x) f) (Number (at 1 29) 6))))) Done

-- { exhale acc(x.f, 1/2) }
abbrev pub exhales_half : Block
exhales_half = Then (Exhale (at 1 3) (Points (at 1 10) (Variable (at 1 14) x) f (Part (at 1 19) 1 2))) Done

-- { assert acc(x.f, 1/2) && acc(x.f, 1/2) && acc(x.f, 1/2) }
abbrev pub asserts_thrice : Block
asserts_thrice = Then (Assert (at 1 3) (Both (Both (Points (at 1 10) (Variable (at 1 14) x) f (Part (at 1 19) 1 2)) (Points (at 1 27) (Variable (at 1 31) x) f (Part (at 1 36) 1 2))) (Points (at 1 44) (Variable (at 1 48) x) f (Part (at 1 53) 1 2)))) Done

-- { assert acc(x.f, 1/2) && x.f == 5 }
abbrev pub asserts : Block
asserts = Then (Assert (at 1 3) (Both (Points (at 1 10) (Variable (at 1 14) x) f (Part (at 1 19) 1 2)) (Pure (Operate (at 1 27) Equal (Read (at 1 27) (Variable (at 1 27) x) f) (Number (at 1 34) 5))))) Done

-- { assert y == 1 }
abbrev pub asserts_wrong : Block
asserts_wrong = Then (Assert (at 1 3) (Pure (Operate (at 1 10) Equal (Variable (at 1 10) y) (Number (at 1 15) 1)))) Done

-- { fold cell(x) }
abbrev pub folds : Block
folds = Then (Fold (at 1 3) cell (More (Variable (at 1 13) x) NoMore) (Part (at 1 3) 1 1)) Done

-- { fold acc(cell(x), none) }
abbrev pub folds_none : Block
folds_none = Then (Fold (at 1 3) cell (More (Variable (at 1 17) x) NoMore) (Part (at 1 21) 0 1)) Done

-- { fold hidden(x) }
abbrev pub folds_hidden : Block
folds_hidden = Then (Fold (at 1 3) hidden (More (Variable (at 1 15) x) NoMore) (Part (at 1 3) 1 1)) Done

-- { unfold cell(x) }
abbrev pub unfolds : Block
unfolds = Then (Unfold (at 1 3) cell (More (Variable (at 1 15) x) NoMore) (Part (at 1 3) 1 1)) Done

-- { unfold acc(cell(x), none) }
abbrev pub unfolds_none : Block
unfolds_none = Then (Unfold (at 1 3) cell (More (Variable (at 1 19) x) NoMore) (Part (at 1 23) 0 1)) Done

-- { if (y == 0) { y := 1 } else { assert false } }
abbrev pub chooses : Block
chooses = Then (If (at 1 3) (Operate (at 1 7) Equal (Variable (at 1 7) y) (Number (at 1 12) 0)) (Then (Assign (at 1 17) y (Number (at 1 22) 1)) Done) (Then (Assert (at 1 33) (Pure (Truth (at 1 40) false))) Done)) Done

-- { if (y == 1) { y := 1 } else { assert false } }
abbrev pub chooses_other : Block
chooses_other = Then (If (at 1 3) (Operate (at 1 7) Equal (Variable (at 1 7) y) (Number (at 1 12) 1)) (Then (Assign (at 1 17) y (Number (at 1 22) 1)) Done) (Then (Assert (at 1 33) (Pure (Truth (at 1 40) false))) Done)) Done

-- { if (x.f == 0) { } else { } }
abbrev pub chooses_unread : Block
chooses_unread = Then (If (at 1 3) (Operate (at 1 7) Equal (Read (at 1 7) (Variable (at 1 7) x) f) (Number (at 1 14) 0)) Done Done) Done

-- { if (y == 0) { var z: Int y := z } }
abbrev pub declares_within : Block
declares_within = Then (If (at 1 3) (Operate (at 1 7) Equal (Variable (at 1 7) y) (Number (at 1 12) 0)) (Then (Declare (at 1 17) z Int) (Then (Assign (at 1 28) y (Variable (at 1 33) z)) Done)) Done) Done

-- { while (y < 3) invariant y <= 3 { y := y + 1 } }
abbrev pub loops : Block
loops = Then (While (at 1 3) (Operate (at 1 10) Less (Variable (at 1 10) y) (Number (at 1 14) 3)) ((Pure (Operate (at 1 27) LessEqual (Variable (at 1 27) y) (Number (at 1 32) 3))) ∷ []) (Then (Assign (at 1 36) y (Operate (at 1 41) Add (Variable (at 1 41) y) (Number (at 1 45) 1))) Done)) Done

-- { while (y < 3) invariant y <= 2 { y := y + 1 } }
abbrev pub loops_unkept : Block
loops_unkept = Then (While (at 1 3) (Operate (at 1 10) Less (Variable (at 1 10) y) (Number (at 1 14) 3)) ((Pure (Operate (at 1 27) LessEqual (Variable (at 1 27) y) (Number (at 1 32) 2))) ∷ []) (Then (Assign (at 1 36) y (Operate (at 1 41) Add (Variable (at 1 41) y) (Number (at 1 45) 1))) Done)) Done

-- { while (y < 3) invariant y == 1 { } }
abbrev pub loops_wrong : Block
loops_wrong = Then (While (at 1 3) (Operate (at 1 10) Less (Variable (at 1 10) y) (Number (at 1 14) 3)) ((Pure (Operate (at 1 27) Equal (Variable (at 1 27) y) (Number (at 1 32) 1))) ∷ []) Done) Done

-- { while (x.f < 3) { } }
abbrev pub loops_unread : Block
loops_unread = Then (While (at 1 3) (Operate (at 1 10) Less (Read (at 1 10) (Variable (at 1 10) x) f) (Number (at 1 16) 3)) [] Done) Done

-- { assert false y := 1 }
abbrev pub fails_then_more : Block
fails_then_more = Then (Assert (at 1 3) (Pure (Truth (at 1 10) false))) (Then (Assign (at 1 16) y (Number (at 1 21) 1)) Done)

-- { y := 1 assert y == 1 }
abbrev pub goes_on : Block
goes_on = Then (Assign (at 1 3) y (Number (at 1 8) 1)) (Then (Assert (at 1 10) (Pure (Operate (at 1 17) Equal (Variable (at 1 17) y) (Number (at 1 22) 1)))) Done)

-- { assume false assert false }
abbrev pub stops_then_more : Block
stops_then_more = Then (Assume (at 1 3) (Truth (at 1 10) false)) (Then (Assert (at 1 16) (Pure (Truth (at 1 23) false))) Done)
