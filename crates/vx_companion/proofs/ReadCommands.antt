-- What is written for a command is read as that command, up to names, or refused.
use Rattle.std.proofs.Common.{◌≡◌, inl, inr, ◌<◌, Bool, true, false, List, [], ◌∷◌, ◌++◌, Option, Some, None, Result, Ok, Err, refl, ap, ◌∙◌, sym, subst}
use Rattle.vx_sexp.specs.declared.token.Token.{Token}
use Rattle.vx_sexp.specs.declared.token.Token.TheVariants.{Close}
use Rattle.vx_terms.specs.Sorts.{Sort, Symbol}
use Rattle.vx_terms.specs.Terms.{Term}
use Rattle.vx_terms.specs.Interpretations.{Each}
use Rattle.vx_smt_meaning.specs.Commands.{Command, SetOption, SetLogic, DeclareSort, DeclareFun, Assert, Push, Pop, CheckSat, GetProof, Exit, Declared, Level, declared_in}
use Rattle.vx_smt_meaning.specs.Names.{IsCommand}
use Rattle.vx_smt_meaning.specs.WellFormed.{knows_sort, has_sort, sorts_in, MayFollow}
use Rattle.vx_smt_meaning.specs.Words.{word, symbol_word, sort_word, sorts_tokens, term_tokens, command_tokens}
use Rattle.vx_smt_text.proofs.Words.{symbol_is}
use Rattle.cs_commands.specs.declared.fault.CommandFault.{CommandFault}
use Rattle.cs_commands.specs.declared.fault.CommandFault.TheVariants as faults
use Rattle.cs_commands.specs.Outcomes.{◌>>=◌}
use Rattle.cs_commands.specs.Live.{Scope, sort_at, new_symbol, if_new, declared_as}
use Rattle.cs_commands.specs.Building.{is_bool, if_sorted}
use Rattle.cs_commands.specs.Commands as reading
use Rattle.cs_commands.specs.Laws.{scope_of, AreApart, IsPlain}
use Rattle.cs_commands.proofs.Spellings.{symbol_text, symbol_is_name}
use Rattle.cs_commands.proofs.WrittenCommands.{sort_read, sorts_read, behind_sorts, written_back}
use Rattle.vx_companion.specs.Right.{IsSorted}
use Rattle.vx_companion.proofs.Originals.{read_as}
use Rattle.vx_companion.proofs.ReadTerms.{ReadsLike, read_declared, term_like}
use Rattle.vx_companion.proofs.Mirrors.{Mirrors, IsLikeCommand, same_sorts, same_symbols, same_length}

pub same_ok : {A : Type 0} {x y : A} → (let r : Result A CommandFault = Ok x in r) ≡ Ok y → x ≡ y
same_ok e = cc

never_ok : {A : Type 0} (o : Result A CommandFault) (e : CommandFault) (x : A) → o ≡ Err e → o ≡ Ok x → ⊥
never_ok o e x is ok = cc

-- ---- a declaration

module _ (scope : Scope) (d : Declared) (name : IsCommand (DeclareFun d)) (takes : Each (λ (a : Sort). knows_sort scope.sorts a ≡ true) d.takes) (gives : knows_sort scope.sorts d.gives ≡ true) where
  abbrev with_last : Sort → Result Command CommandFault
  with_last b = reading.ended (reading.declared (read_as d.symbol) d.takes b) (Close ∷ [])

  abbrev with_sorts : List Sort × List Token → Result Command CommandFault
  with_sorts ts = reading.symbol_at ts.1 >>= λ last. sort_at scope last.0 >>= λ b. reading.ended (reading.declared (read_as d.symbol) ts.0 b) last.1

  abbrev with_symbol : Symbol → Result Command CommandFault
  with_symbol f =
      reading.sorts_at scope (((sorts_tokens d.takes ++ Close ∷ []) ++ word (sort_word d.gives) ∷ []) ++ Close ∷ []) >>= λ ts.
      reading.symbol_at ts.1 >>= λ last.
      sort_at scope last.0 >>= λ b.
      reading.ended (reading.declared f ts.0 b) last.1

  symbol_new : new_symbol scope (symbol_word d.symbol) ≡ if_new (read_as d.symbol) (declared_as scope.symbols (read_as d.symbol))
  symbol_new = rw (symbol_text (symbol_word d.symbol) (symbol_is d.symbol name.0), symbol_is_name d.symbol name.0) refl

  read_new : with_symbol (read_as d.symbol) ≡ Ok (DeclareFun (read_declared d))
  read_new =
      ap (λ ts. reading.sorts_at scope ts >>= with_sorts) (behind_sorts (sorts_tokens d.takes) (word (sort_word d.gives)) Close)
      ∙ ap (λ o. o >>= with_sorts) (sorts_read scope d.takes (word (sort_word d.gives) ∷ Close ∷ []) name.1 takes)
      ∙ ap (λ o. o >>= with_last) (sort_read scope d.gives name.2 gives)

  declared_by : (o : Option Declared) (c : Command) → declared_as scope.symbols (read_as d.symbol) ≡ o → reading.understood scope (command_tokens (DeclareFun d)) ≡ Ok c → c ≡ DeclareFun (read_declared d)
  declared_by None c is e =
      same_ok (sym e ∙ (ap (λ o. o >>= with_symbol) (symbol_new ∙ ap (if_new (read_as d.symbol)) is) ∙ read_new))
  declared_by (Some f) c is e =
      absurd (never_ok (reading.understood scope (command_tokens (DeclareFun d))) faults.Name c (ap (λ o. o >>= with_symbol) (symbol_new ∙ ap (if_new (read_as d.symbol)) is)) e)

-- ---- an assertion

abbrev asserted : Term → Result Command CommandFault
asserted u = reading.ended (Assert u) (Close ∷ [])

abbrev with_term : Term × List Token → Result Command CommandFault
with_term r = if_sorted (is_bool r.0) r.0 >>= λ u. reading.ended (Assert u) r.1

asserted_if : (b : Bool) (u : Term) (c : Command) → (if_sorted b u >>= asserted) ≡ Ok c → c ≡ Assert u
asserted_if true u c e = sym (same_ok e)
asserted_if false u c e = absurd (cc)

asserted_by : (scope : Scope) (t : Term) (c : Command) → ReadsLike scope (term_tokens t) t → reading.understood scope (command_tokens (Assert t)) ≡ Ok c → IsLikeCommand c (Assert t)
asserted_by scope t c (inl missed) e =
    let fails = missed [] (Close ∷ []) in absurd (never_ok (reading.understood scope (command_tokens (Assert t))) fails.0 c (ap (λ o. o >>= with_term) fails.1) e)
asserted_by scope t c (inr h) e =
    (h.0, asserted_if (is_bool h.0) h.0 c (sym (ap (λ o. o >>= with_term) (h.1.1 [] (Close ∷ []))) ∙ e), h.2)

-- ---- any command

module _ (ks ls : List Level) (m : Mirrors ks ls) (apart : AreApart (declared_in ks)) where
  plain_by : (c d : Command) → IsCommand c → MayFollow ks c → IsPlain c → reading.understood (scope_of ks) (command_tokens c) ≡ Ok d → d ≡ c
  plain_by c d name follows plain e = same_ok (sym e ∙ (written_back ks c apart name follows plain).meant)

  knows_too : (a : Sort) → knows_sort (sorts_in ls) a ≡ true → knows_sort (sorts_in ks) a ≡ true
  knows_too a known = ap (λ xs. knows_sort xs a) (same_sorts ks ls m) ∙ known

  all_known : (as' : List Sort) → Each (λ (a : Sort). knows_sort (sorts_in ls) a ≡ true) as' → Each (λ (a : Sort). knows_sort (sorts_in ks) a ≡ true) as'
  all_known [] h = tt
  all_known (a ∷ as') h = (knows_too a h.0, all_known as' h.1)

  pub read_like : (c d : Command) → IsCommand c → MayFollow ls c → IsSorted c → reading.understood (scope_of ks) (command_tokens c) ≡ Ok d → IsLikeCommand d c
  read_like (SetOption x b) d name follows sorted e = plain_by (SetOption x b) d name tt tt e
  read_like (SetLogic x) d name follows sorted e = plain_by (SetLogic x) d name tt tt e
  read_like (DeclareSort x) d name follows sorted e = plain_by (DeclareSort x) d name (ap (λ xs. has_sort xs x) (same_sorts ks ls m) ∙ follows) sorted e
  read_like (DeclareFun f) d name follows sorted e =
      declared_by (scope_of ks) f name (all_known f.takes follows.takes) (knows_too f.gives follows.gives) (declared_as (declared_in ks) (read_as f.symbol)) d refl e
  read_like (Assert t) d name follows sorted e =
      asserted_by (scope_of ks) t d (term_like (scope_of ks) (declared_in ls) (same_symbols ks ls m) apart sorted.0 sorted.1 name follows.declared) e
  read_like (Push n) d name follows sorted e = plain_by (Push n) d name tt sorted e
  read_like (Pop n) d name follows sorted e = plain_by (Pop n) d name (subst (λ k. n < k) (sym (same_length ks ls m)) follows) sorted e
  read_like CheckSat d name follows sorted e = plain_by CheckSat d name tt tt e
  read_like GetProof d name follows sorted e = plain_by GetProof d name tt tt e
  read_like Exit d name follows sorted e = plain_by Exit d name tt tt e
