-- What is understood over the live levels may follow there.
use Rattle.std.proofs.Common.{◌≡◌, ℕ, Bool, true, false, List, [], ◌∷◌, None, refl, ap, ap₂, ◌∙◌, sym, subst, true≢false}
use Rattle.std.specs.Prelude.{if◌then◌else◌}
use Rattle.std.proofs.lemmas.Bool.{and_parts}
use Rattle.vx_sexp.specs.Tokens.{is_empty}
use Rattle.vx_terms.specs.Sorts.{Sort, IntSort, BoolSort, RealSort, RefSort, SnapSort, OtherSort, Symbol, same_sort, same_symbol}
use Rattle.vx_terms.specs.Terms.{Term, sort_of}
use Rattle.vx_terms.specs.Interpretations.{Each}
use Rattle.vx_terms.proofs.Same.{sort_is}
use Rattle.vx_smt_meaning.specs.Commands.{Command, Declared, Level, declared_in}
use Rattle.vx_smt_meaning.specs.Symbols.{declaration, Declares, sorts_of, UsesDeclared, AllUseDeclared}
use Rattle.vx_smt_meaning.specs.WellFormed.{names, sorts_in, knows_sort, has_sort, MayFollow}
use Rattle.vx_smt_meaning.specs.Words.{sort_word}
use Rattle.cs_reader.specs.Spelling.{listed}
use Rattle.cs_commands.specs.Names.{sort_named}
use Rattle.cs_commands.specs.Live.{Scope, declared_as}
use Rattle.cs_commands.specs.Building.{have_sorts}
use Rattle.cs_commands.specs.Laws.{scope_of}
use Rattle.cs_commands.specs.Following.{UnderstoodMayFollow, LeavesALevel}
use Rattle.cs_commands.proofs.Passed.{not_some}
use Rattle.cs_commands.proofs.Declarations.{first_is, first_later, other_way}
use Rattle.cs_commands.proofs.WrittenCommands.{named_word}
use Rattle.cs_commands.proofs.ReadTerms.{Keeps, read_keeps}
use Rattle.cs_commands.proofs.ReadCommands.{KeepsCommands, understood_keeps}

-- ---- a term's symbols are declared

alone_is : (d : Declared) → is_empty d.takes ≡ true → d ≡ declaration d.symbol [] d.gives
alone_is d e = ap (λ (xs : List Sort). declaration d.symbol xs d.gives) (go d.takes e)
  where
    go : (xs : List Sort) → is_empty xs ≡ true → xs ≡ []
    go [] h = refl
    go (a ∷ xs) h = absurd (true≢false (sym h))

own_sorts : (ts : List Term) (xs : List Sort) → have_sorts ts xs ≡ true → sorts_of (listed ts) ≡ xs
own_sorts [] [] e = refl
own_sorts [] (a ∷ xs) e = absurd (true≢false (sym e))
own_sorts (t ∷ ts) [] e = absurd (true≢false (sym e))
own_sorts (t ∷ ts) (a ∷ xs) e =
    let p = and_parts (same_sort (sort_of t) a) (have_sorts ts xs) e in
    ap₂ (λ (y : Sort) (ys : List Sort). y ∷ ys) (sort_is (sort_of t) a p.0) (own_sorts ts xs p.1)

each_declared : (ds : List Declared) (ts : List Term) → Each (UsesDeclared ds) ts → AllUseDeclared ds (listed ts)
each_declared ds [] h = tt
each_declared ds (t ∷ ts) h = (h.0, each_declared ds ts h.1)

declared_kept : (scope : Scope) → Keeps scope (UsesDeclared scope.symbols)
declared_kept scope = record {
  truth = λ b. tt;
  number = λ n small. tt;
  negated = λ n h. tt;
  part = λ a low small. tt;
  opposite = λ m n h. tt;
  constant = λ d is none. subst (Declares scope.symbols) (alone_is d none) is;
  applies = λ d ts is h some sorts.
      (subst (Declares scope.symbols) (ap (λ (xs : List Sort). declaration d.symbol xs d.gives) (sym (own_sorts ts d.takes sorts))) is, each_declared scope.symbols ts h);
  nots = λ t h bool. h;
  binary = λ o t u h g takes same. (h, g);
  choices = λ c t u h f g bool same. (h, f, g);
  all_of = λ ts h three bools. each_declared scope.symbols ts h;
  some_of = λ ts h three bools. each_declared scope.symbols ts h;
}

-- ---- what is declared is new

pub not_named : (ds : List Declared) (f : Symbol) → declared_as ds f ≡ None → names ds f ≡ false
not_named [] f e = refl
not_named (d ∷ ds) f e = go (same_symbol f d.symbol) refl (not_named ds f)
  where
    go : (b : Bool) → same_symbol f d.symbol ≡ b → (declared_as ds f ≡ None → names ds f ≡ false) → names (d ∷ ds) f ≡ false
    go true h more = not_some (sym e ∙ first_is d ds f h)
    go false h more = ap (λ b. if b then true else names ds f) (other_way d.symbol f h) ∙ more (sym (first_later d ds f h) ∙ e)

no_sort : (sorts : List (List ℕ)) (a : Sort) → knows_sort sorts a ≡ false → has_sort sorts (sort_word a) ≡ false
no_sort sorts IntSort e = absurd (true≢false e)
no_sort sorts BoolSort e = absurd (true≢false e)
no_sort sorts RealSort e = absurd (true≢false e)
no_sort sorts RefSort e = e
no_sort sorts SnapSort e = e
no_sort sorts (OtherSort x) e = e

new_name : (sorts : List (List ℕ)) (x : List ℕ) → knows_sort sorts (sort_named x) ≡ false → has_sort sorts x ≡ false
new_name sorts x e = ap (has_sort sorts) (sym (named_word x)) ∙ no_sort sorts (sort_named x) e

-- ---- commands

may_follow : (levels : List Level) → KeepsCommands (scope_of levels) (λ (c : Command). LeavesALevel levels c → MayFollow levels c)
may_follow levels = record {
  options = λ x b h. tt;
  logics = λ x h. tt;
  sorts = λ x new h. new_name (sorts_in levels) x new;
  functions = λ d new takes gives h. record { new = not_named (declared_in levels) d.symbol new; takes = takes; gives = gives };
  asserts = λ ts r reads bool h. record {
    bool = sort_is (sort_of r.0) BoolSort bool;
    declared = read_keeps (scope_of levels) (UsesDeclared (declared_in levels)) (declared_kept (scope_of levels)) [] ts r tt reads;
  };
  pushes = λ n h. tt;
  pops = λ n h. h;
  checks = λ h. tt;
  proofs = λ h. tt;
  exits = λ h. tt;
}

pub understood_follows : UnderstoodMayFollow
understood_follows levels tokens c e leaves = understood_keeps (scope_of levels) (λ (d : Command). LeavesALevel levels d → MayFollow levels d) (may_follow levels) tokens c e leaves
