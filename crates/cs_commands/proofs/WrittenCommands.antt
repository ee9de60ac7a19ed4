-- What is written for a command is understood as that command.
use Rattle.std.proofs.Common.{◌≡◌, ℕ, ◌<◌, ◌^◌, Bool, true, false, List, [], ◌∷◌, ◌++◌, Ok, refl, ap, ◌∙◌, sym, arith, append_assoc, append-nil, subst, true≢false, codes}
use Rattle.std.specs.Prelude.{if◌then◌else◌}
use Rattle.std.specs.declared.result.Result.{Result}
use Rattle.std.specs.Str.{bytes_eq}
use Rattle.std.proofs.lemmas.Slice.Eq.{bytes_eq-Decides}
use Rattle.vx_sexp.specs.declared.token.Kind.TheVariants as kinds
use Rattle.vx_sexp.specs.declared.token.Token.{Token}
use Rattle.vx_sexp.specs.declared.token.Token.TheVariants.{Close, Atom}
use Rattle.vx_sexp.specs.Tokens.{Lexes}
use Rattle.vx_sexp.specs.First.{IsFirst}
use Rattle.vx_terms.specs.Sorts.{Sort, IntSort, BoolSort, RealSort, RefSort, SnapSort, OtherSort, Symbol}
use Rattle.vx_terms.specs.Terms.{Term}
use Rattle.vx_terms.specs.Interpretations.{Each}
use Rattle.vx_smt_meaning.specs.Commands.{Command, SetOption, SetLogic, DeclareSort, DeclareFun, Assert, Push, Pop, CheckSat, GetProof, Exit, Declared, Level, declared_in}
use Rattle.vx_smt_meaning.specs.Names.{IsCommand, IsSortName, AreSortNames}
use Rattle.vx_smt_meaning.specs.WellFormed.{names, knows_sort, has_sort, MayFollow}
use Rattle.vx_smt_meaning.specs.Words.{word, numeral, symbol_word, sort_word, truth_word, sorts_tokens, command_tokens}
use Rattle.vx_smt_text.specs.Text.{command_text}
use Rattle.vx_smt_text.proofs.Words as written
use Rattle.vx_smt_text.proofs.Back.{commands_back}
use Rattle.vx_dialogue.proofs.Counts.{one_command}
use Rattle.cs_commands.specs.declared.fault.CommandFault.{CommandFault}
use Rattle.cs_commands.specs.declared.fault.CommandFault.TheVariants as faults
use Rattle.cs_commands.specs.Outcomes.{◌>>=◌, or_fault, with_front}
use Rattle.cs_commands.specs.Names.{sort_named}
use Rattle.cs_commands.specs.Live.{Scope, sort_at, new_symbol}
use Rattle.cs_commands.specs.Building.{is_bool, if_sorted}
use Rattle.cs_commands.specs.Commands as reading
use Rattle.cs_commands.specs.Laws.{WrittenIsUnderstood, scope_of, AreApart, IsSmallSymbol, IsPlain}
use Rattle.cs_commands.proofs.Numerals.{number_back}
use Rattle.cs_commands.proofs.Spellings.{symbol_text, keyword_text, symbol_is_name, symbol_back, sort_back}
use Rattle.cs_commands.proofs.Declarations.{not_declared}
use Rattle.cs_commands.proofs.WrittenTerms.{term_back, bool_is}

-- ---- sorts

pub sort_read : (scope : Scope) (a : Sort) → IsSortName a → knows_sort scope.sorts a ≡ true → sort_at scope (sort_word a) ≡ Ok a
sort_read scope a name known =
    rw (symbol_text (sort_word a) (written.sort_is a name), sort_back a name, known) refl

pub sorts_read : (scope : Scope) (as' : List Sort) (rest : List Token) → AreSortNames as' → Each (λ (a : Sort). knows_sort scope.sorts a ≡ true) as' → reading.sorts_at scope (sorts_tokens as' ++ Close ∷ rest) ≡ Ok (as', rest)
sorts_read scope [] rest names known = refl
sorts_read scope (a ∷ as') rest names known =
    ap (λ o. o >>= before) (sort_read scope a names.0 known.0)
    ∙ ap (with_front (a ∷ [])) (sorts_read scope as' rest names.1 known.1)
  where
    before : Sort → Result (List Sort × List Token) CommandFault
    before b = with_front (b ∷ []) (reading.sorts_at scope (sorts_tokens as' ++ Close ∷ rest))

pub named_word : (x : List ℕ) → sort_word (sort_named x) ≡ x
named_word x = on_int (bytes_eq x (codes "Int")) refl
  where
    on_snap : (b : Bool) → bytes_eq x (codes "Snap") ≡ b → sort_word (if b then SnapSort else OtherSort x) ≡ x
    on_snap true e = sym ((bytes_eq-Decides x (codes "Snap")).0 e)
    on_snap false e = refl

    on_ref : (b : Bool) → bytes_eq x (codes "Ref") ≡ b → sort_word (if b then RefSort else (if bytes_eq x (codes "Snap") then SnapSort else OtherSort x)) ≡ x
    on_ref true e = sym ((bytes_eq-Decides x (codes "Ref")).0 e)
    on_ref false e = on_snap (bytes_eq x (codes "Snap")) refl

    on_real : (b : Bool) → bytes_eq x (codes "Real") ≡ b → sort_word (if b then RealSort else (if bytes_eq x (codes "Ref") then RefSort else (if bytes_eq x (codes "Snap") then SnapSort else OtherSort x))) ≡ x
    on_real true e = sym ((bytes_eq-Decides x (codes "Real")).0 e)
    on_real false e = on_ref (bytes_eq x (codes "Ref")) refl

    on_bool : (b : Bool) → bytes_eq x (codes "Bool") ≡ b →
        sort_word (if b then BoolSort else (if bytes_eq x (codes "Real") then RealSort else (if bytes_eq x (codes "Ref") then RefSort else (if bytes_eq x (codes "Snap") then SnapSort else OtherSort x)))) ≡ x
    on_bool true e = sym ((bytes_eq-Decides x (codes "Bool")).0 e)
    on_bool false e = on_real (bytes_eq x (codes "Real")) refl

    on_int : (b : Bool) → bytes_eq x (codes "Int") ≡ b →
        sort_word (if b then IntSort else (if bytes_eq x (codes "Bool") then BoolSort else (if bytes_eq x (codes "Real") then RealSort else (if bytes_eq x (codes "Ref") then RefSort else (if bytes_eq x (codes "Snap") then SnapSort else OtherSort x))))) ≡ x
    on_int true e = sym ((bytes_eq-Decides x (codes "Int")).0 e)
    on_int false e = on_bool (bytes_eq x (codes "Bool")) refl

unknown : (sorts : List (List ℕ)) (a : Sort) → knows_sort [] a ≡ false → has_sort sorts (sort_word a) ≡ false → knows_sort sorts a ≡ false
unknown sorts IntSort e h = absurd (true≢false e)
unknown sorts BoolSort e h = absurd (true≢false e)
unknown sorts RealSort e h = absurd (true≢false e)
unknown sorts RefSort e h = h
unknown sorts SnapSort e h = h
unknown sorts (OtherSort x) e h = h

sort_declared : (scope : Scope) (x : List ℕ) → knows_sort [] (sort_named x) ≡ false → has_sort scope.sorts x ≡ false → knows_sort scope.sorts (sort_named x) ≡ false
sort_declared scope x own new = unknown scope.sorts (sort_named x) own (ap (has_sort scope.sorts) (named_word x) ∙ new)

-- ---- commands

truth_back : (b : Bool) → reading.is_true kinds.Symbol (truth_word b) ≡ b
truth_back true = refl
truth_back false = refl

option_back : (scope : Scope) (x : List ℕ) (b : Bool) → IsCommand (SetOption x b) → reading.understood scope (command_tokens (SetOption x b)) ≡ Ok (SetOption x b)
option_back scope x b name = rw (keyword_text x name, truth_back b) refl

logic_back : (scope : Scope) (x : List ℕ) → IsCommand (SetLogic x) → reading.understood scope (command_tokens (SetLogic x)) ≡ Ok (SetLogic x)
logic_back scope x name = rw (symbol_text x name) refl

sort_command : (scope : Scope) (x : List ℕ) → IsCommand (DeclareSort x) → knows_sort [] (sort_named x) ≡ false → has_sort scope.sorts x ≡ false → reading.understood scope (command_tokens (DeclareSort x)) ≡ Ok (DeclareSort x)
sort_command scope x name own new =
    rw (symbol_text x name, sort_declared scope x own new)
    (ap (λ o. or_fault faults.Wide o >>= ending) (number_back (2 ^ 127) 0 (omega arith)))
  where
    ending : ℕ → Result Command CommandFault
    ending n = reading.ended (DeclareSort x) (Close ∷ []) >>= λ c. reading.if_none n c

symbol_new : (scope : Scope) (d : Declared) → IsCommand (DeclareFun d) → IsSmallSymbol d.symbol → names scope.symbols d.symbol ≡ false → new_symbol scope (symbol_word d.symbol) ≡ Ok d.symbol
symbol_new scope d name small new =
    rw (symbol_text (symbol_word d.symbol) (written.symbol_is d.symbol name.0), symbol_is_name d.symbol name.0, symbol_back d.symbol name.0 small, not_declared scope.symbols d.symbol new) refl

pub behind_sorts : (xs : List Token) (t u : Token) → ((xs ++ Close ∷ []) ++ t ∷ []) ++ u ∷ [] ≡ xs ++ Close ∷ t ∷ u ∷ []
behind_sorts xs t u = append_assoc (xs ++ Close ∷ []) (t ∷ []) (u ∷ []) ∙ append_assoc xs (Close ∷ []) (t ∷ u ∷ [])

fun_command : (scope : Scope) (d : Declared) → IsCommand (DeclareFun d) → IsSmallSymbol d.symbol → names scope.symbols d.symbol ≡ false
    → Each (λ (a : Sort). knows_sort scope.sorts a ≡ true) d.takes → knows_sort scope.sorts d.gives ≡ true → reading.understood scope (command_tokens (DeclareFun d)) ≡ Ok (DeclareFun d)
fun_command scope d name small new takes gives =
    ap (λ o. o >>= with_symbol) (symbol_new scope d name small new)
    ∙ ap (λ ts. reading.sorts_at scope ts >>= with_sorts) (behind_sorts (sorts_tokens d.takes) (word (sort_word d.gives)) Close)
    ∙ ap (λ o. o >>= with_sorts) (sorts_read scope d.takes (word (sort_word d.gives) ∷ Close ∷ []) name.1 takes)
    ∙ ap (λ o. o >>= with_last) (sort_read scope d.gives name.2 gives)
  where
    with_last : Sort → Result Command CommandFault
    with_last b = reading.ended (reading.declared d.symbol d.takes b) (Close ∷ [])

    with_sorts : List Sort × List Token → Result Command CommandFault
    with_sorts takes = reading.symbol_at takes.1 >>= λ last. sort_at scope last.0 >>= λ b. reading.ended (reading.declared d.symbol takes.0 b) last.1

    with_symbol : Symbol → Result Command CommandFault
    with_symbol f =
        reading.sorts_at scope (((sorts_tokens d.takes ++ Close ∷ []) ++ word (sort_word d.gives) ∷ []) ++ Close ∷ []) >>= λ takes.
        reading.symbol_at takes.1 >>= λ last.
        sort_at scope last.0 >>= λ b.
        reading.ended (reading.declared f takes.0 b) last.1

assertion_back : (levels : List Level) (t : Term) → AreApart (scope_of levels).symbols → IsCommand (Assert t) → MayFollow levels (Assert t) → IsPlain (Assert t) → reading.understood (scope_of levels) (command_tokens (Assert t)) ≡ Ok (Assert t)
assertion_back levels t apart name follows plain =
    ap (λ o. o >>= with_term) ((term_back (scope_of levels) apart plain.0.0 plain.0.1 name follows.declared plain.1).1 [] (Close ∷ []))
    ∙ ap (λ b. if_sorted b t >>= asserted) (bool_is plain.0.1)
  where
    asserted : Term → Result Command CommandFault
    asserted u = reading.ended (Assert u) (Close ∷ [])

    with_term : Term × List Token → Result Command CommandFault
    with_term r = if_sorted (is_bool r.0) r.0 >>= λ u. reading.ended (Assert u) r.1

levels_back : (make : ℕ → Command) (n : ℕ) → n < 2 ^ 32 → reading.levels make (Atom kinds.Numeral (numeral n) ∷ Close ∷ []) ≡ Ok (make n)
levels_back make n h = ap (λ o. or_fault faults.Levels o >>= ending) (number_back (2 ^ 32) n h)
  where
    ending : ℕ → Result Command CommandFault
    ending m = reading.ended (make m) (Close ∷ [])

command_back : (levels : List Level) (c : Command) → AreApart (declared_in levels) → IsCommand c → MayFollow levels c → IsPlain c → reading.understood (scope_of levels) (command_tokens c) ≡ Ok c
command_back levels (SetOption x b) apart name follows plain = option_back (scope_of levels) x b name
command_back levels (SetLogic x) apart name follows plain = logic_back (scope_of levels) x name
command_back levels (DeclareSort x) apart name follows plain = sort_command (scope_of levels) x name plain follows
command_back levels (DeclareFun d) apart name follows plain = fun_command (scope_of levels) d name plain follows.new follows.takes follows.gives
command_back levels (Assert t) apart name follows plain = assertion_back levels t apart name follows plain
command_back levels (Push n) apart name follows plain = levels_back Push n plain
command_back levels (Pop n) apart name follows plain = levels_back Pop n plain
command_back levels CheckSat apart name follows plain = refl
command_back levels GetProof apart name follows plain = refl
command_back levels Exit apart name follows plain = refl

-- ---- texts

first_text : (c : Command) → IsCommand c → (rest : List ℕ) × IsFirst (command_text c) (command_tokens c) rest
first_text c name =
    let spelled = commands_back (c ∷ []) (name, tt) in
    (spelled.0, record { lexed = subst (λ bytes. Lexes bytes (command_tokens c) spelled.0) (append-nil (command_text c)) spelled.1; one = one_command c })

pub written_back : WrittenIsUnderstood
written_back levels c apart name follows plain =
    let text = first_text c name in
    record { rest = text.0; first = text.1; meant = command_back levels c apart name follows plain }
