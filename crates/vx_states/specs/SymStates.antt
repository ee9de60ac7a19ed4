-- What the symbolic states of src/ stand for.
use Rattle.std.specs.Prelude.{ℕ, suc, [], ◌∷◌, Option, Some, None, option_map, if◌then◌else◌, map, string_bytes}
use Rattle.std.specs.declared.alloc.Global.{Global}
use Rattle.std.specs.declared.rc.Rc.{Rc}
use Rattle.vx_states.specs.declared.state.Binding.{Binding}
use Rattle.vx_states.specs.declared.state.Own.{Own as Own'}
use Rattle.vx_states.specs.declared.state.SymState.{SymState}
use Rattle.vx_ast.specs.Syntax.{Name, same_name}
use Rattle.vx_terms.specs.declared.term.Term.{Term as Term'}
use Rattle.vx_terms.specs.Terms.{Term, sort_of}
use Rattle.vx_heap.specs.Views.{heap, held_term}
use Rattle.vx_rules.specs.States.{Own, Store, State, found, assign, with_store, fresh, after_fresh}
use Rattle.vx_states.specs.Paths.{entries}

abbrev pub binding : Binding → Name × Term
binding b = (string_bytes b.name.value, held_term b.value)

-- a term, where there is one
abbrev pub optional_term : Option (Rc Term' Global) → Option Term
optional_term o = option_map (λ t. held_term t) o

abbrev pub own : Own' → Own
own o = record { function = string_bytes o.function.value; measure = optional_term o.measure }

abbrev pub state : SymState → State
state s = record {
  store = map binding s.store.items;
  heap = heap s.heap.value;
  old = heap s.old_heap.value;
  path = entries s.path.path;
  next = s.next;
  level = s.level;
  bounded = s.is_bounded;
  inner = s.is_inner;
  own = option_map own s.own;
  at = s.at;
}

-- where a variable stands in a store
abbrev pub place_in : Name → Store → Option ℕ
place_in x [] = None
place_in x (e ∷ rest) = if same_name x e.0 then Some 0 else option_map suc (place_in x rest)

-- a variable with a new symbol of its value's sort
abbrev pub renewed : Name → State → State
renewed x s = with_store (assign x (fresh (sort_of (found x s.store)) s) s.store) (after_fresh s)
