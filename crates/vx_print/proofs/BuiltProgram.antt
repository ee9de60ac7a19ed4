-- What is printed of a program is a phrase of it, wherever its tokens stand.
use Rattle.std.proofs.Common.{◌≡◌, ◌∙◌, ℕ, ◌+◌, List, [], ◌∷◌, ◌++◌, length, map, Bool, true, false, Option, Some, None, refl, ap, ap₂, append_assoc, arith}
use Rattle.std.specs.Prelude.{option_map}
use Rattle.vx_ast.specs.declared.Place.{Place}
use Rattle.vx_ast.specs.declared.ValueType.{ValueType}
use Rattle.vx_ast.specs.Written.{Name, Expr, Clause, Requires, Ensures, Decreases, Declaration, Block, IsPredicate, IsFunction, IsMethod, Member, Program}
use Rattle.vx_tokens.specs.declared.token.Word.TheVariants as words
use Rattle.vx_tokens.specs.declared.token.Symbol.TheVariants as signs
use Rattle.vx_tokens.specs.Tokens.{Kind, name, word, symbol}
use Rattle.vx_grammar.specs.Grammar.{Mark, mark, marks, tokens_of, meant, StandsAt}
use Rattle.vx_grammar.specs.Statements.{declaration_meant, declaration_marks, type_word, BlockPhrase}
use Rattle.vx_grammar.specs.Programs.{MoreDeclarations, no_more, listed, DeclarationsPhrase, none, some, ParametersPhrase, ReturnsPhrase, no_returns, returns, more_meant, declarations_meant, returns_meant, more_marks, declarations_marks, parameters_marks, returns_marks, ClausesPhrase, no_clauses, requires, ensures, decreases, clauses_meant, StandsClauses, clauses_marks, BracedPhrase, braced_marks, PredicatePhrase, given_meant, GivenStands, given_marks, FunctionPhrase, StandsFunction, body_meant, BodyStands, body_marks, MethodPhrase, StandsMethod, MemberPhrase, a_field, a_predicate, a_function, a_method, member_meant, StandsMember, member_marks, ProgramPhrase, no_members, member, program_meant, StandsProgram, program_marks}
use Rattle.vx_print.specs.Canonical.{parenthesized, braced, whole_tokens, further_declarations, declarations_tokens, returns_tokens, contract_tokens, optional_expr_tokens, optional_block_tokens, member_tokens}
use Rattle.vx_print.specs.Same.{nowhere, bare_name, bare_declaration, bare_declarations, bare, bare_block, bare_clause, bare_member, bare_program}
use Rattle.vx_print.proofs.Built.{placed, two, first, built}
use Rattle.vx_print.proofs.BuiltStmt.{place_declaration, built_block}

-- ---- parameters

place_more : (ℕ → Place) → ℕ → List Declaration → MoreDeclarations
place_more f i [] = no_more
place_more f i (d ∷ ds) = listed (f i) (place_declaration f (i + 1) d) (place_more f (i + 1 + 1 + 1 + 1) ds)

more_same : (f : ℕ → Place) (i : ℕ) (ds : List Declaration) → bare_declarations (more_meant (place_more f i ds)) ≡ bare_declarations ds
unfolding place_more
more_same f i [] = refl
more_same f i (d ∷ ds) = ap (λ l. bare_declaration d ∷ l) (more_same f (i + 1 + 1 + 1 + 1) ds)

more_placed : (f : ℕ → Place) (i n : ℕ) (ds : List Declaration) → tokens_of (more_marks n (place_more f i ds)) ≡ placed f i (further_declarations ds)
unfolding place_more
more_placed f i n [] = refl
more_placed f i n (d ∷ ds) = two f i (mark n (f i) (symbol signs.Comma) ∷ declaration_marks n (place_declaration f (i + 1) d)) (more_marks n (place_more f (i + 1 + 1 + 1 + 1) ds)) (symbol signs.Comma ∷ name d.name.name ∷ symbol signs.Colon ∷ word _ ∷ []) (further_declarations ds) refl
    (let e : i + 1 + 1 + 1 + 1 ≡ i + 4 = omega arith in more_placed f (i + 1 + 1 + 1 + 1) n ds ∙ ap (λ j. placed f j (further_declarations ds)) e)

place_all : (ℕ → Place) → ℕ → List Declaration → DeclarationsPhrase
place_all f i [] = none
place_all f i (d ∷ ds) = some (place_declaration f i d) (place_more f (i + 1 + 1 + 1) ds)

all_same : (f : ℕ → Place) (i : ℕ) (ds : List Declaration) → bare_declarations (declarations_meant (place_all f i ds)) ≡ bare_declarations ds
unfolding place_all
all_same f i [] = refl
all_same f i (d ∷ ds) = ap (λ l. bare_declaration d ∷ l) (more_same f (i + 1 + 1 + 1) ds)

all_placed : (f : ℕ → Place) (i n : ℕ) (ds : List Declaration) → tokens_of (declarations_marks n (place_all f i ds)) ≡ placed f i (declarations_tokens ds)
unfolding place_all
all_placed f i n [] = refl
all_placed f i n (d ∷ ds) = two f i (declaration_marks n (place_declaration f i d)) (more_marks n (place_more f (i + 1 + 1 + 1) ds)) (name d.name.name ∷ symbol signs.Colon ∷ word _ ∷ []) (further_declarations ds) refl
    (let e : i + 1 + 1 + 1 ≡ i + 3 = omega arith in more_placed f (i + 1 + 1 + 1) n ds ∙ ap (λ j. placed f j (further_declarations ds)) e)

abbrev place_parameters : (ℕ → Place) → ℕ → List Declaration → ParametersPhrase
place_parameters f i ds = record { from = f i; inner = place_all f (i + 1) ds; to = f (i + 1 + length (declarations_tokens ds)) }

parameters_placed : (f : ℕ → Place) (i n : ℕ) (ds : List Declaration) → tokens_of (parameters_marks n (place_parameters f i ds)) ≡ placed f i (parenthesized (declarations_tokens ds))
parameters_placed f i n ds =
    let ks = declarations_tokens ds in
    let close = mark (n + 1) (f (i + 1 + length ks)) (symbol signs.Close) in
    first f i (symbol signs.Open) _ (ks ++ symbol signs.Close ∷ []) (two f (i + 1) (declarations_marks (n + 1) (place_all f (i + 1) ds)) (close ∷ []) ks (symbol signs.Close ∷ []) (all_placed f (i + 1) (n + 1) ds) refl)

place_returns : (ℕ → Place) → ℕ → List Declaration → ReturnsPhrase
place_returns f i [] = no_returns
place_returns f i (d ∷ ds) = returns (f i) (place_parameters f (i + 1) (d ∷ ds))

returns_same : (f : ℕ → Place) (i : ℕ) (ds : List Declaration) → bare_declarations (returns_meant (place_returns f i ds)) ≡ bare_declarations ds
unfolding place_returns
returns_same f i [] = refl
returns_same f i (d ∷ ds) = all_same f (i + 1 + 1) (d ∷ ds)

returns_placed : (f : ℕ → Place) (i n : ℕ) (ds : List Declaration) → tokens_of (returns_marks n (place_returns f i ds)) ≡ placed f i (returns_tokens ds)
unfolding place_returns
returns_placed f i n [] = refl
returns_placed f i n (d ∷ ds) = first f i (word words.Returns) _ (parenthesized (declarations_tokens (d ∷ ds))) (parameters_placed f (i + 1) n (d ∷ ds))

-- ---- clauses

-- clauses where a measure may come, or none may
record BuiltClauses (may : Bool) (f : ℕ → Place) (i : ℕ) (ks : List Kind) (cs : List Clause) : Type 0 where
  phrase : ClausesPhrase
  stands : StandsClauses may phrase
  means : map bare_clause (clauses_meant phrase) ≡ cs
  tokens : (r k : ℕ) → tokens_of (clauses_marks r k phrase) ≡ placed f i ks

built_clauses : (may : Bool) (f : ℕ → Place) (i : ℕ) (w : ClausesPhrase) → StandsClauses may w → BuiltClauses may f i (contract_tokens (clauses_meant w)) (map bare_clause (clauses_meant w))
built_clauses may f i no_clauses h = record { phrase = no_clauses; stands = tt; means = refl; tokens = λ r k. refl }
built_clauses may f i (requires p e semi rest) h =
    let ke = whole_tokens (meant e) in
    let kr = contract_tokens (clauses_meant rest) in
    let b = built f (i + 1) 8 true e in
    let c = built_clauses may f (i + 1 + length ke) rest h.1 in
    record {
      phrase = requires (f i) b.phrase None c.phrase;
      stands = (b.stands, c.stands);
      means = ap₂ (λ x l. Requires x ∷ l) b.means c.means;
      tokens = λ r k. first f i (word words.Requires) _ (ke ++ kr) (two f (i + 1) (marks r b.phrase) (clauses_marks (r + 1) k c.phrase) ke kr (b.tokens r) (c.tokens (r + 1) k));
    }
built_clauses may f i (ensures p e semi rest) h =
    let ke = whole_tokens (meant e) in
    let kr = contract_tokens (clauses_meant rest) in
    let b = built f (i + 1) 8 true e in
    let c = built_clauses may f (i + 1 + length ke) rest h.1 in
    record {
      phrase = ensures (f i) b.phrase None c.phrase;
      stands = (b.stands, c.stands);
      means = ap₂ (λ x l. Ensures x ∷ l) b.means c.means;
      tokens = λ r k. first f i (word words.Ensures) _ (ke ++ kr) (two f (i + 1) (marks k b.phrase) (clauses_marks r (k + 1) c.phrase) ke kr (b.tokens k) (c.tokens r (k + 1)));
    }
built_clauses may f i (decreases p e semi rest) h =
    let ke = whole_tokens (meant e) in
    let kr = contract_tokens (clauses_meant rest) in
    let b = built f (i + 1) 8 true e in
    let c = built_clauses false f (i + 1 + length ke) rest h.2 in
    record {
      phrase = decreases (f i) b.phrase None c.phrase;
      stands = (h.0, b.stands, c.stands);
      means = ap₂ (λ x l. Decreases x ∷ l) b.means c.means;
      tokens = λ r k. first f i (word words.Decreases) _ (ke ++ kr) (two f (i + 1) (marks 0 b.phrase) (clauses_marks r k c.phrase) ke kr (b.tokens 0) (c.tokens r k));
    }

-- ---- members

record BuiltMember (f : ℕ → Place) (i : ℕ) (ks : List Kind) (m : Member) : Type 0 where
  phrase : MemberPhrase
  stands : StandsMember phrase
  means : bare_member (member_meant phrase) ≡ m
  tokens : tokens_of (member_marks phrase) ≡ placed f i ks

-- a body or none
record BuiltBody (f : ℕ → Place) (i : ℕ) (ks : List Kind) (b : Option Block) : Type 0 where
  phrase : Option BlockPhrase
  stands : BodyStands phrase
  means : option_map bare_block (body_meant phrase) ≡ b
  tokens : tokens_of (body_marks phrase) ≡ placed f i ks

built_body : (f : ℕ → Place) (i : ℕ) (w : Option BlockPhrase) → BodyStands w → BuiltBody f i (optional_block_tokens (body_meant w)) (option_map bare_block (body_meant w))
built_body f i None h = record { phrase = None; stands = tt; means = refl; tokens = refl }
built_body f i (Some b) h = let d = built_block f i b h in record { phrase = Some d.phrase; stands = d.stands; means = ap Some d.means; tokens = d.tokens 0 }

record BuiltBraced (f : ℕ → Place) (i : ℕ) (ks : List Kind) (e : Expr) : Type 0 where
  phrase : BracedPhrase
  stands : StandsAt 8 phrase.inner
  means : bare (meant phrase.inner) ≡ e
  tokens : tokens_of (braced_marks phrase) ≡ placed f i ks

built_braced : (f : ℕ → Place) (i : ℕ) (w : BracedPhrase) → BuiltBraced f i (braced (whole_tokens (meant w.inner))) (bare (meant w.inner))
built_braced f i w =
    let ke = whole_tokens (meant w.inner) in
    let b = built f (i + 1) 8 true w.inner in
    let c = f (i + 1 + length ke) in
    record {
      phrase = record { from = f i; inner = b.phrase; to = c };
      stands = b.stands;
      means = b.means;
      tokens = first f i (symbol signs.OpenBrace) _ (ke ++ symbol signs.CloseBrace ∷ []) (two f (i + 1) (marks 1 b.phrase) (mark 1 c (symbol signs.CloseBrace) ∷ []) ke (symbol signs.CloseBrace ∷ []) (b.tokens 1) refl);
    }

record BuiltGiven (f : ℕ → Place) (i : ℕ) (ks : List Kind) (e : Option Expr) : Type 0 where
  phrase : Option BracedPhrase
  stands : GivenStands phrase
  means : option_map bare (given_meant phrase) ≡ e
  tokens : tokens_of (given_marks phrase) ≡ placed f i ks

built_given : (f : ℕ → Place) (i : ℕ) (w : Option BracedPhrase) → BuiltGiven f i (optional_expr_tokens (given_meant w)) (option_map bare (given_meant w))
built_given f i None = record { phrase = None; stands = tt; means = refl; tokens = refl }
built_given f i (Some w) = let b = built_braced f i w in record { phrase = Some b.phrase; stands = b.stands; means = ap Some b.means; tokens = b.tokens }

abbrev bare_predicate : Name → List Declaration → Option Expr → Member
bare_predicate x ps e = record { place = nowhere; name = bare_name x; kind = IsPredicate record { parameters = ps; body = e } }

built_predicate : (f : ℕ → Place) (i : ℕ) (x : Name) (ps : List Declaration) (kb : List Kind) (e : Option Expr) → ((j : ℕ) → BuiltGiven f j kb e) → BuiltMember f i (word words.Predicate ∷ name x ∷ (parenthesized (declarations_tokens ps) ++ kb)) (bare_predicate x (bare_declarations ps) e)
built_predicate f i x ps kb e given =
    let kp = parenthesized (declarations_tokens ps) in
    let p = i + 1 + 1 in
    let b = given (p + length kp) in
    let w : PredicatePhrase = record { at = f i; name_at = f (i + 1); text = x; parameters = place_parameters f p ps; body = b.phrase } in
    record {
      phrase = a_predicate w;
      stands = b.stands;
      means = ap₂ (bare_predicate x) (all_same f (p + 1) ps) b.means;
      tokens = first f i (word words.Predicate) _ (name x ∷ (kp ++ kb)) (first f (i + 1) (name x) _ (kp ++ kb) (two f p (parameters_marks 0 (place_parameters f p ps)) (given_marks b.phrase) kp kb (parameters_placed f p 0 ps) b.tokens));
    }

abbrev bare_function : Name → List Declaration → ValueType → List Clause → Expr → Member
bare_function x ps t cs e = record { place = nowhere; name = bare_name x; kind = IsFunction record { parameters = ps; of = t; clauses = cs; body = e } }

built_function : (f : ℕ → Place) (i : ℕ) (x : Name) (ps : List Declaration) (t : ValueType) (kc kb : List Kind) (cs : List Clause) (e : Expr)
    → ((j : ℕ) → BuiltClauses true f j kc cs) → ((j : ℕ) → BuiltBraced f j kb e)
    → BuiltMember f i (word words.Function ∷ name x ∷ (parenthesized (declarations_tokens ps) ++ symbol signs.Colon ∷ word (type_word t) ∷ (kc ++ kb))) (bare_function x (bare_declarations ps) t cs e)
built_function f i x ps t kc kb cs e clauses body =
    let kp = parenthesized (declarations_tokens ps) in
    let kt = word (type_word t) ∷ (kc ++ kb) in
    let p = i + 1 + 1 in
    let s = p + length kp in
    let c = clauses (s + 1 + 1) in
    let b = body (s + 1 + 1 + length kc) in
    let w : FunctionPhrase = record { at = f i; name_at = f (i + 1); text = x; parameters = place_parameters f p ps; colon_at = f s; type_at = f (s + 1); of = t; clauses = c.phrase; body = b.phrase } in
    let stands : StandsFunction w = record { clauses = c.stands; body = b.stands } in
    let pm = parameters_marks 0 (place_parameters f p ps) in
    let cm : List Mark = mark 0 (f s) (symbol signs.Colon) ∷ mark 0 (f (s + 1)) (word (type_word t)) ∷ clauses_marks 0 0 c.phrase in
    let bm = braced_marks b.phrase in
    let behind : tokens_of (cm ++ bm) ≡ placed f s (symbol signs.Colon ∷ kt) =
    first f s (symbol signs.Colon) _ kt (first f (s + 1) (word (type_word t)) _ (kc ++ kb)
    (two f (s + 1 + 1) (clauses_marks 0 0 c.phrase) bm kc kb (c.tokens 0 0) b.tokens)) in
    record {
      phrase = a_function w;
      stands = stands;
      means =
          ap₂ (λ l k. bare_function x l t k (bare (meant b.phrase.inner))) (all_same f (p + 1) ps) c.means
          ∙ ap (bare_function x (bare_declarations ps) t cs) b.means;
      tokens =
          first f i (word words.Function) _ (name x ∷ (kp ++ symbol signs.Colon ∷ kt)) (first f (i + 1) (name x) _ (kp ++ symbol signs.Colon ∷ kt)
          (ap tokens_of (append_assoc pm cm bm) ∙ two f p pm (cm ++ bm) kp (symbol signs.Colon ∷ kt) (parameters_placed f p 0 ps) behind));
    }

abbrev bare_method : Name → List Declaration → List Declaration → List Clause → Option Block → Member
bare_method x ps rs cs b = record { place = nowhere; name = bare_name x; kind = IsMethod record { parameters = ps; returns = rs; clauses = cs; body = b } }

built_method : (f : ℕ → Place) (i : ℕ) (x : Name) (ps rs : List Declaration) (kc kb : List Kind) (cs : List Clause) (b : Option Block) → ((j : ℕ) → BuiltClauses false f j kc cs) → ((j : ℕ) → BuiltBody f j kb b)
    → BuiltMember f i (word words.Method ∷ name x ∷ (parenthesized (declarations_tokens ps) ++ (returns_tokens rs ++ (kc ++ kb)))) (bare_method x (bare_declarations ps) (bare_declarations rs) cs b)
built_method f i x ps rs kc kb cs b clauses block =
    let kp = parenthesized (declarations_tokens ps) in
    let kr = returns_tokens rs in
    let p = i + 1 + 1 in
    let r = p + length kp in
    let c = clauses (r + length kr) in
    let d = block (r + length kr + length kc) in
    let w : MethodPhrase = record { at = f i; name_at = f (i + 1); text = x; parameters = place_parameters f p ps; returns = place_returns f r rs; clauses = c.phrase; body = d.phrase } in
    let s : StandsMethod w = record { clauses = c.stands; body = d.stands } in
    record {
      phrase = a_method w;
      stands = s;
      means =
          ap₂ (λ l k. bare_method x l k (map bare_clause (clauses_meant c.phrase)) (option_map bare_block (body_meant d.phrase))) (all_same f (p + 1) ps) (returns_same f r rs)
          ∙ ap₂ (bare_method x (bare_declarations ps) (bare_declarations rs)) c.means d.means;
      tokens =
          first f i (word words.Method) _ (name x ∷ (kp ++ (kr ++ (kc ++ kb)))) (first f (i + 1) (name x) _ (kp ++ (kr ++ (kc ++ kb)))
          (two f p (parameters_marks 0 (place_parameters f p ps)) (returns_marks 0 (place_returns f r rs) ++ (clauses_marks 0 0 c.phrase ++ body_marks d.phrase)) kp (kr ++ (kc ++ kb)) (parameters_placed f p 0 ps)
          (two f r (returns_marks 0 (place_returns f r rs)) (clauses_marks 0 0 c.phrase ++ body_marks d.phrase) kr (kc ++ kb) (returns_placed f r 0 rs)
          (two f (r + length kr) (clauses_marks 0 0 c.phrase) (body_marks d.phrase) kc kb (c.tokens 0 0) d.tokens))));
    }

built_member : (f : ℕ → Place) (i : ℕ) (m : MemberPhrase) → StandsMember m → BuiltMember f i (member_tokens (member_meant m)) (bare_member (member_meant m))
built_member f i (a_field p d) h = record { phrase = a_field (f i) (place_declaration f (i + 1) (declaration_meant d)); stands = tt; means = refl; tokens = refl }
built_member f i (a_predicate w) h = built_predicate f i w.text (declarations_meant w.parameters.inner) (optional_expr_tokens (given_meant w.body)) (option_map bare (given_meant w.body)) (λ j. built_given f j w.body)
built_member f i (a_function w) h =
    let cs = clauses_meant w.clauses in
    built_function f i w.text (declarations_meant w.parameters.inner) w.of (contract_tokens cs) (braced (whole_tokens (meant w.body.inner))) (map bare_clause cs) (bare (meant w.body.inner))
    (λ j. built_clauses true f j w.clauses h.clauses) (λ j. built_braced f j w.body)
built_member f i (a_method m) h =
    let cs = clauses_meant m.clauses in
    built_method f i m.text (declarations_meant m.parameters.inner) (returns_meant m.returns) (contract_tokens cs) (optional_block_tokens (body_meant m.body)) (map bare_clause cs) (option_map bare_block (body_meant m.body))
    (λ j. built_clauses false f j m.clauses h.clauses) (λ j. built_body f j m.body h.body)

-- ---- programs

abbrev pub program_tokens : Program → List Kind
program_tokens [] = []
program_tokens (m ∷ ms) = member_tokens m ++ program_tokens ms

pub record BuiltProgram (f : ℕ → Place) (i : ℕ) (ks : List Kind) (p : Program) : Type 0 where
  pub phrase : ProgramPhrase
  pub stands : StandsProgram phrase
  pub means : bare_program (program_meant phrase) ≡ p
  pub tokens : tokens_of (program_marks phrase) ≡ placed f i ks

pub built_program : (f : ℕ → Place) (i : ℕ) (w : ProgramPhrase) → StandsProgram w → BuiltProgram f i (program_tokens (program_meant w)) (bare_program (program_meant w))
built_program f i no_members h = record { phrase = no_members; stands = tt; means = refl; tokens = refl }
built_program f i (member m semi rest) h =
    let km = member_tokens (member_meant m) in
    let kr = program_tokens (program_meant rest) in
    let b = built_member f i m h.0 in
    let r = built_program f (i + length km) rest h.1 in
    record {
      phrase = member b.phrase None r.phrase;
      stands = (b.stands, r.stands);
      means = ap₂ (λ x y. x ∷ y) b.means r.means;
      tokens = two f i (member_marks b.phrase) (program_marks r.phrase) km kr b.tokens r.tokens;
    }
