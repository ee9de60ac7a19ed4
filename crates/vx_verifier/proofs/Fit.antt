-- The script of fine questions is well formed, behind the declarations of functions' symbols. That of one question sent whole is so, and by it (vx_dialogue) that of a dialogue.
use Rattle.std.proofs.Common.{◌≡◌, ◌++◌, ◌≤◌, ℕ, suc, Bool, true, false, List, [], ◌∷◌, map, refl, ap, ◌∙◌, sym, subst, le_refl, lt_irrefl, ne_eqb, arith, if◌then◌else◌}
use Rattle.vx_terms.specs.Sorts.{Sort, IntSort, BoolSort, RealSort, RefSort, SnapSort, OtherSort, Symbol, Function, Variable, same_symbol}
use Rattle.vx_terms.specs.Terms.{Term, Truth, sort_of}
use Rattle.vx_terms.specs.Formed.{Formed, truth}
use Rattle.vx_terms.specs.Interpretations.{Each}
use Rattle.vx_terms.specs.Build.{negate}
use Rattle.vx_elements.proofs.Lists.{each_map}
use Rattle.vx_smt_meaning.specs.Commands.{Declared, Assert, Push, Level, empty_level, stack_from, declared_in}
use Rattle.vx_smt_meaning.specs.Names.{AreNames, AreCommands}
use Rattle.vx_smt_meaning.specs.Symbols.{Declares}
use Rattle.vx_smt_meaning.specs.Standard.{standard_symbols}
use Rattle.vx_smt_meaning.specs.Over.{IsOver}
use Rattle.vx_smt_meaning.specs.WellFormed.{names, sorts_in, knows_sort, AllMayFollow, IsWellFormed}
use Rattle.vx_dialogue.specs.Symbols.{with_listed, symbols_of}
use Rattle.vx_dialogue.specs.Preamble.{declarations, front, preamble}
use Rattle.vx_dialogue.specs.Askable.{AreTurns}
use Rattle.vx_dialogue.specs.Scripts.{ScopedTurn, plain, script}
use Rattle.vx_dialogue.specs.Dialogue.{pushed, base_of}
use Rattle.vx_dialogue.proofs.Lists.{none_more, stack_append}
use Rattle.vx_dialogue.proofs.Levels.{declared_level, asserted_level}
use Rattle.vx_dialogue.proofs.Whole.{assertions, question}
use Rattle.vx_dialogue.proofs.Scoped.{scoped_well_formed}
use Rattle.vx_dialogue.proofs.Follows.{follow_join}
use Rattle.vx_dialogue.proofs.Declared.{Includes, AreVariables, in_pushed, over_includes, question_declared, question_variables}
use Rattle.vx_dialogue.proofs.NewNames.{AreNew, new_term, new_path, assertions_follow}
use Rattle.vx_dialogue.proofs.Steady.{commands_join}
use Rattle.vx_live.specs.Live.{IsBuiltIn}
use Rattle.vx_live.proofs.Nameless.{IsNameless}
use Rattle.vx_verifier.proofs.Sorted.{IsFine}
use Rattle.vx_verifier.proofs.FunctionSymbols.{AreSymbols, symbols_spelled}
use Rattle.vx_verifier.proofs.Nameless.{nameless_names, path_names, declared_question}
use Rattle.vx_verifier.proofs.Steady.{begun_named}

-- ---- the preamble

-- the level that the standard symbols leave
abbrev first_level : Level
first_level = record { sorts = (83 ∷ 110 ∷ 97 ∷ 112 ∷ []) ∷ (82 ∷ 101 ∷ 102 ∷ []) ∷ []; symbols = pushed standard_symbols []; assertions = [] }

front_level : stack_from (empty_level ∷ []) (front false) ≡ first_level ∷ []
front_level = refl

front_follows : AllMayFollow (empty_level ∷ []) (front false)
front_follows = (tt, (tt, (refl, (refl, (record { new = refl; takes = tt; gives = refl }, (record { new = refl; takes = tt; gives = refl }, (record { new = refl; takes = (refl, (refl, tt)); gives = refl }, (record { new = refl; takes = (refl, tt); gives = refl }, (record { new = refl; takes = (refl, tt); gives = refl }, (record { new = refl; takes = (refl, tt); gives = refl }, (record { new = refl; takes = (refl, tt); gives = refl }, (record { new = refl; takes = (refl, tt); gives = refl }, (record { new = refl; takes = (refl, tt); gives = refl }, (record { new = refl; takes = (refl, tt); gives = refl }, (record { new = refl; takes = (refl, tt); gives = refl }, (record { new = refl; takes = (refl, tt); gives = refl }, (record { new = refl; takes = (refl, tt); gives = refl }, tt)))))))))))))))))

-- an f with another number, or any v, isn't the one declared last
behind_last : (d : Declared) (ds : List Declared) (n : ℕ) (f : Symbol) → d.symbol ≡ Function n → same_symbol (Function n) f ≡ false → names ds f ≡ false → names (d ∷ ds) f ≡ false
behind_last d ds n f is other none =
    ap (λ (g : Symbol). if same_symbol g f then true else names ds f) is ∙ (ap (λ (b : Bool). if b then true else names ds f) other ∙ none)

other_number : (n k : ℕ) → suc n ≤ k → same_symbol (Function n) (Function k) ≡ false
other_number n k above = ne_eqb n k (λ same. absurd (lt_irrefl n (subst (λ (i : ℕ). suc n ≤ i) (sym same) above)))

-- the symbols of functions may follow, where none with such a number is there
functions_follow : (n : ℕ) (l : Level) (levels : List Level) (ds : List Declared) → AreSymbols n ds → ((k : ℕ) → n ≤ k → names (declared_in (l ∷ levels)) (Function k) ≡ false)
    → ((a : Sort) → IsBuiltIn a → knows_sort (sorts_in (l ∷ levels)) a ≡ true) → AllMayFollow (l ∷ levels) (declarations ds)
functions_follow n l levels [] are unseen known = tt
functions_follow n l levels (d ∷ ds) are unseen known = (
  record {
    new = subst (λ (f : Symbol). names (declared_in (l ∷ levels)) f ≡ false) (sym are.0.symbol) (unseen n (le_refl n));
    takes = each_map IsBuiltIn (λ (a : Sort). knows_sort (sorts_in (l ∷ levels)) a ≡ true) known d.takes are.0.takes;
    gives = known d.gives are.0.gives;
  },
  functions_follow (suc n) (record l { symbols = d ∷ l.symbols }) levels ds are.1
      (λ k above. behind_last d (declared_in (l ∷ levels)) n (Function k) are.0.symbol (other_number n k above) (unseen k (let h = above in omega arith))) known,
)

-- ---- what the preamble leaves

-- No v is declared, the five sorts are known, and the standard symbols and these are declared.
record IsBase (functions : List Declared) (base : List Level) : Type 0 where
  unseen : (n : ℕ) → names (declared_in base) (Variable n) ≡ false
  known : (a : Sort) → IsBuiltIn a → knows_sort (sorts_in base) a ≡ true
  declared : Includes (standard_symbols ++ functions) (declared_in base)

pushed_append : (xs ys zs : List Declared) → pushed (xs ++ ys) zs ≡ pushed ys (pushed xs zs)
pushed_append [] ys zs = refl
pushed_append (x ∷ xs) ys zs = pushed_append xs ys (x ∷ zs)

no_variable : (n : ℕ) (ds seen : List Declared) (k : ℕ) → AreSymbols n ds → names seen (Variable k) ≡ false → names (pushed ds seen) (Variable k) ≡ false
no_variable n [] seen k are none = none
no_variable n (d ∷ ds) seen k are none = no_variable (suc n) ds (d ∷ seen) k are.1 (behind_last d seen n (Variable k) are.0.symbol refl none)

-- the level of the preamble
abbrev base_level : List Declared → Level
base_level functions = record first_level { symbols = pushed functions (pushed standard_symbols []) }

base_level_is : (functions : List Declared) → base_of false functions ≡ base_level functions ∷ []
base_level_is functions =
    stack_append (empty_level ∷ []) (front false) (declarations functions) ∙ (ap (λ x. stack_from x (declarations functions)) front_level ∙ declared_level first_level [] functions)

five_known : (a : Sort) → IsBuiltIn a → knows_sort (sorts_in (first_level ∷ [])) a ≡ true
five_known IntSort h = refl
five_known BoolSort h = refl
five_known RealSort h = refl
five_known RefSort h = refl
five_known SnapSort h = refl
five_known (OtherSort x) h = absurd h

level_is : (functions : List Declared) → AreSymbols 0 functions → IsBase functions (base_level functions ∷ [])
level_is functions are =
    let all = pushed functions (pushed standard_symbols []) in
    record {
      unseen = λ n. subst (λ x. names x (Variable n) ≡ false) (sym (none_more all)) (no_variable 0 functions (pushed standard_symbols []) n are refl);
      known = five_known;
      declared = λ d h. subst (λ x. Declares x d) (pushed_append standard_symbols functions [] ∙ sym (none_more all)) (in_pushed (standard_symbols ++ functions) [] d h);
    }

base_is : (functions : List Declared) → AreSymbols 0 functions → IsBase functions (base_of false functions)
base_is functions are = subst (IsBase functions) (sym (base_level_is functions)) (level_is functions are)

preamble_follows : (functions : List Declared) → AreSymbols 0 functions → AllMayFollow (empty_level ∷ []) (preamble false functions)
preamble_follows functions are =
    follow_join (empty_level ∷ []) (front false) (declarations functions) front_follows
    (subst (λ x. AllMayFollow x (declarations functions)) (sym front_level) (functions_follow 0 first_level [] functions are (λ k above. refl) five_known))

-- ---- a question

declarations_follow : (sorts : ℕ → Sort) (l : Level) (levels : List Level) (ds : List Declared) → AreVariables sorts ds → ((n : ℕ) → IsBuiltIn (sorts n))
    → AreNew (declared_in (l ∷ levels)) ds → ((a : Sort) → IsBuiltIn a → knows_sort (sorts_in (l ∷ levels)) a ≡ true) → AllMayFollow (l ∷ levels) (declarations ds)
declarations_follow sorts l levels [] variables built new known = tt
declarations_follow sorts l levels (d ∷ ds) variables built new known = (
  record {
    new = new.0;
    takes = subst (λ (x : Declared). Each (λ (a : Sort). knows_sort (sorts_in (l ∷ levels)) a ≡ true) x.takes) (sym variables.0.1) tt;
    gives = known d.gives (subst (λ (x : Declared). IsBuiltIn x.gives) (sym variables.0.1) (built variables.0.0));
  },
  declarations_follow sorts (record l { symbols = d ∷ l.symbols }) levels ds variables.1 built new.1 known,
)

module _ (functions : List Declared) where
  -- it is sent whole, behind what the preamble leaves
  question_follows : (base : List Level) (p : List Term) (t : Term) → IsBase functions base → IsFine functions p t → AllMayFollow base (question p t)
  question_follows base p t is q =
      let negated = negate t in
      let symbols = symbols_of p negated in
      let inside = empty_level ∷ base in
      let fresh = record empty_level { symbols = pushed symbols [] } in
      let opened = Push 1 ∷ Push 1 ∷ declarations symbols in
      let over : Each (IsOver (declared_in base) q.sorts) p =
      each_map (IsOver (standard_symbols ++ functions) q.sorts) (IsOver (declared_in base) q.sorts) (λ u h. over_includes (standard_symbols ++ functions) (declared_in base) q.sorts u is.declared h) p q.path_over in
      let over_last : IsOver (declared_in base) q.sorts t = over_includes (standard_symbols ++ functions) (declared_in base) q.sorts t is.declared q.over in
      let variables : AreVariables q.sorts symbols = question_variables (declared_in base) q.sorts p t over over_last in
      let declared = question_declared (declared_in base) q.sorts p t over over_last in
      let new : AreNew (declared_in base) symbols = new_term (declared_in base) is.unseen negated (with_listed [] p) (new_path (declared_in base) is.unseen p [] tt) in
      let declared_stack : stack_from base opened ≡ fresh ∷ inside = declared_level empty_level inside symbols in
      let asserted_stack : stack_from base (opened ++ assertions p) ≡ record fresh { assertions = pushed p [] } ∷ inside =
      stack_append base opened (assertions p) ∙ (ap (λ x. stack_from x (assertions p)) declared_stack ∙ asserted_level fresh inside p) in
      let first : AllMayFollow base opened = (tt, (tt, declarations_follow q.sorts empty_level inside symbols variables q.built_in new is.known)) in
      let second : AllMayFollow base (opened ++ assertions p) =
      follow_join base opened (assertions p) first (subst (λ x. AllMayFollow x (assertions p)) (sym declared_stack) (assertions_follow fresh inside p q.path_bool declared.0)) in
      follow_join base (opened ++ assertions p) (Assert negated ∷ []) second
      (subst (λ x. AllMayFollow x (Assert negated ∷ [])) (sym asserted_stack) (record { bool = q.bool; declared = declared.1 }, tt))

  -- ---- the names

  asserted_named : (p : List Term) → Each AreNames p → AreCommands (assertions p)
  asserted_named [] named = tt
  asserted_named (t ∷ p) named = (named.0, asserted_named p named.1)

  question_named : (p : List Term) (t : Term) → IsFine functions p t → AreCommands (question p t)
  question_named p t q =
      let opened = Push 1 ∷ Push 1 ∷ declarations (symbols_of p (negate t)) in
      commands_join (opened ++ assertions p) (Assert (negate t) ∷ [])
      (commands_join opened (assertions p) (tt, (tt, declared_question p (negate t) q.path_nameless q.nameless)) (asserted_named p (path_names p q.path_nameless)))
      (nameless_names (negate t) q.nameless, tt)

  -- ---- the beginning of its path, before a condition that is always met

  each_front : (P : Term → Type 0) (xs ys : List Term) → Each P (xs ++ ys) → Each P xs
  each_front P [] ys h = tt
  each_front P (x ∷ xs) ys h = (h.0, each_front P xs ys h.1)

  beginning_fine : (xs ys : List Term) (t : Term) → IsFine functions (xs ++ ys) t → IsFine functions xs (Truth true)
  beginning_fine xs ys t q = record {
    sorts = q.sorts;
    built_in = q.built_in;
    path_over = each_front (IsOver (standard_symbols ++ functions) q.sorts) xs ys q.path_over;
    over = tt;
    path_nameless = each_front IsNameless xs ys q.path_nameless;
    nameless = tt;
    path_bool = each_front (λ (u : Term). sort_of u ≡ BoolSort) xs ys q.path_bool;
    bool = refl;
    along = each_front (λ (u : Term). (n : ℕ) × Formed n u BoolSort) xs ys q.along;
    negated = (0, truth false);
  }

-- ---- all of it

preamble_fits : (functions : List Declared) → AreSymbols 0 functions → IsWellFormed (preamble false functions)
preamble_fits functions are = record { spelled = begun_named functions (symbols_spelled 0 functions are); in_order = preamble_follows functions are }

question_fits : (functions : List Declared) → AreSymbols 0 functions → (p : List Term) (t : Term) → IsFine functions p t → IsWellFormed (preamble false functions ++ question p t)
question_fits functions are p t q =
    let first = preamble_fits functions are in
    record {
      spelled = commands_join (preamble false functions) (question p t) first.spelled (question_named functions p t q);
      in_order = follow_join (empty_level ∷ []) (preamble false functions) (question p t) first.in_order (question_follows functions (base_of false functions) p t (base_is functions are) q);
    }

pub well_formed : (functions : List Declared) (turns : List ScopedTurn) → AreSymbols 0 functions → AreTurns (IsFine functions) (map plain turns) → IsWellFormed (script false functions turns)
well_formed functions turns are fine = scoped_well_formed false functions (IsFine functions) (preamble_fits functions are) (question_fits functions are) (beginning_fine functions) turns fine
