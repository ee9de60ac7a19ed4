-- The text of generated methods: four fields and two predicates, and then a line for each method.
use Rattle.std.specs.Prelude.{ℕ, zero, suc, ◌%◌, List, [], ◌++◌, codes}
use Rattle.std.specs.Fmt.{decimal}

abbrev pub field_lines : List ℕ
field_lines = codes "field value: Int\n" ++ codes "field next: Ref\n" ++ codes "field left: Ref\n" ++ codes "field right: Ref\n"

abbrev pub list_line : List ℕ
list_line = codes "predicate list(x: Ref) { acc(x.value) && acc(x.next) && (x.next != null ==> list(x.next)) }\n"

abbrev pub tree_line : List ℕ
tree_line = codes "predicate tree(x: Ref) { acc(x.value) && acc(x.left) && acc(x.right) && (x.left != null ==> tree(x.left)) && (x.right != null ==> tree(x.right)) }\n"

abbrev pub first_lines : List ℕ
first_lines = field_lines ++ (list_line ++ tree_line)

-- each with a number in its name and in the value that it writes
abbrev pub list_method : ℕ → List ℕ
list_method i = codes "method list" ++ decimal i ++ codes "(x: Ref, v: Int) requires list(x) ensures list(x) { unfold list(x) x.value := v + " ++ decimal i ++ codes " fold list(x) }\n"

abbrev pub account_contract : ℕ → List ℕ
account_contract i = codes "method account" ++ decimal i ++ codes "(x: Ref, v: Int) requires acc(x.value) && 0 <= v ensures acc(x.value) && x.value == old(x.value) + v + " ++ decimal i

abbrev pub account_body : ℕ → List ℕ
account_body i = codes " { x.value := x.value + v + " ++ decimal i ++ codes " }\n"

abbrev pub account_method : ℕ → List ℕ
account_method i = account_contract i ++ account_body i

abbrev pub tree_method : ℕ → List ℕ
tree_method i = codes "method tree" ++ decimal i ++ codes "(x: Ref, v: Int) requires tree(x) ensures tree(x) { unfold tree(x) x.value := v + " ++ decimal i ++ codes " fold tree(x) }\n"

-- the three kinds take turns
abbrev pub method_by : (turn number : ℕ) → List ℕ
method_by zero i = list_method i
method_by (suc zero) i = account_method i
method_by (suc (suc k)) i = tree_method i

abbrev pub method_line : ℕ → List ℕ
method_line i = method_by (i % 3) i

-- the methods with a number below this
abbrev pub method_lines : ℕ → List ℕ
method_lines zero = []
method_lines (suc n) = method_lines n ++ method_line n

abbrev pub generated : ℕ → List ℕ
generated n = first_lines ++ method_lines n
