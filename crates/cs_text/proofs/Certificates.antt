-- What is written for the steps of a finished certificate is read as these steps.
use Rattle.std.proofs.Common.{◌≡◌, ℕ, zero, suc, ◌<◌, ◌≤◌, ◌+◌, false, List, [], ◌∷◌, ◌++◌, map, length, Some, Ok, codes, refl, ap, ap₂, ◌∙◌, subst, append_assoc, length-append, arith}
use Rattle.std.specs.Prelude.{⊤, if◌then◌else◌}
use Rattle.std.specs.Option.{option_map}
use Rattle.vx_frac.specs.Fractions.{Fraction}
use Rattle.vx_sexp.specs.declared.token.Kind.TheVariants as kinds
use Rattle.vx_sexp.specs.declared.token.Token.{Token}
use Rattle.vx_sexp.specs.declared.token.Token.TheVariants.{Open, Close}
use Rattle.vx_sexp.specs.Tokens.{Lexes}
use Rattle.vx_terms.specs.Sorts.{Sort, IntSort, Symbol, Standard}
use Rattle.vx_terms.specs.Formed.{Formed}
use Rattle.vx_terms.specs.Interpretations.{Each}
use Rattle.vx_smt_meaning.specs.Commands.{Declared}
use Rattle.vx_smt_meaning.specs.Words as written
use Rattle.vx_smt_meaning.specs.Words.{numeral, word, symbol_word, term_tokens}
use Rattle.cs_certificate.specs.Certificate.{Sign, Plain, Negated, NumberedLiteral, Stack, State, Clause, Step, Input, NewTerm, Define, Pick, Chain, Congruence, Farkas, Split, Trichotomy, Divide, Propagate, IsLive, AreLive, Derives, input, define, pick-then, pick-else, chain, congruence, farkas, split, trichotomy, divide-0, divide-1, divide-2, propagate, Leads, stays, names, derives}
use Rattle.cs_reader.specs.declared.mark.Mark.TheVariants as marked
use Rattle.cs_reader.specs.declared.mark.Name.{Name}
use Rattle.cs_reader.specs.declared.mark.Name.TheVariants as step_names
use Rattle.cs_reader.specs.Marks as marks
use Rattle.cs_reader.specs.Items.{◌>>=◌}
use Rattle.cs_reader.specs.Spelling.{any, among}
use Rattle.cs_reader.specs.Reading.{if_name, opened_at, name_at, step_by, step_at, chain_at, farkas_at, term_at, split_at, propagate_at, is_end, with_steps, after_step, steps_for, headed_at, certificate_at}
use Rattle.cs_proof.specs.Views.{numbered}
use Rattle.cs_proof.specs.Meant.{meant}
use Rattle.cs_text.specs.Text.{listed, literal_text, step_text, text_of}
use Rattle.cs_commands.specs.Following.{HasWord}
use Rattle.cs_writable.specs.Writable.{IsWritable}
use Rattle.cs_text.specs.Law.{HaveWords, WrittenIsReadBack}
use Rattle.cs_text.proofs.Whole.{One, Many, atom, list, none, one, join, more, one_signed, one_term, closes_one, counts}
use Rattle.cs_text.proofs.Words.{found, has_word}
use Rattle.cs_text.proofs.Terms.{Renaming, renamed, as_it_is, term_spelled}
use Rattle.cs_text.proofs.Terms as terms
use Rattle.cs_text.proofs.Lexed.{num, literal_token, ratio_tokens, multipliers_tokens, step_tokens, steps_tokens, certificate_tokens, HasTerm, reads_term, scanned}
use Rattle.cs_text.proofs.Steps.{literal_of, read_step, input_read, pair_read, chain_read, farkas_read, propagate_read, split_read, divide_read, term_read}

-- ---- what a step that meets its rule is

-- its term is well-sorted and live; a chain has a term
abbrev Fits : Stack → Step → Type 0
Fits stack (NewTerm t) = (n : ℕ) × (a : Sort) × Formed n t a × AreLive stack t
Fits stack (Chain ns) = ns ≡ [] → ⊥
Fits stack s = ⊤

derived_fits : {stack : Stack} {s : State} {step : Step} {c : Clause} → Derives stack s step c → Fits stack step
derived_fits (input a) = tt
derived_fits (define a d) = tt
derived_fits (pick-then a b e) = tt
derived_fits (pick-else a b e) = tt
derived_fits (chain a b l e) = λ is. cc
derived_fits (congruence a b h p e) = tt
derived_fits (farkas r n rows is) = tt
derived_fits (split a h l m) = tt
derived_fits (trichotomy a b n h k l e m) = tt
derived_fits (divide-0 a b d h e) = tt
derived_fits (divide-1 a b d h l) = tt
derived_fits (divide-2 a b d h l) = tt
derived_fits (propagate r h) = tt

fit : {stack : Stack} {s u : State} {steps : List Step} → Leads stack s steps u → Each (Fits stack) steps
fit stays = tt
fit (names {sort = a} h live rest) = ((h.0, a, h.1, live), fit rest)
fit (derives d rest) = (derived_fits d, fit rest)

-- ---- each step's tokens are one expression

many_numbers : (ns : List ℕ) → Many (map num ns)
many_numbers [] = none
many_numbers (n ∷ ns) = more kinds.Numeral (numeral n) (many_numbers ns)

many_literals : (ls : List NumberedLiteral) → Many (map literal_token ls)
many_literals [] = none
many_literals (l ∷ ls) = more kinds.Symbol (literal_text l) (many_literals ls)

one_ratio : (p d : ℕ) → One (ratio_tokens p d)
one_ratio p zero = atom kinds.Numeral (numeral p)
one_ratio p (suc d) = list (more kinds.Symbol (codes "/") (many_numbers (p ∷ (suc d + 1) ∷ [])))

many_multipliers : (ms : List Fraction) → Many (multipliers_tokens ms)
many_multipliers [] = none
many_multipliers (m ∷ ms) = join (one (one_signed m.numerator (λ p. ratio_tokens p m.below) (λ p. one_ratio p m.below))) (many_multipliers ms)

one_step : (s : Step) → One (step_tokens s)
one_step (Input n) = list (more kinds.Symbol (codes "input") (many_numbers (n ∷ [])))
one_step (NewTerm t) = list (more kinds.Symbol (codes "term") (one (one_term t)))
one_step (Define t k) = list (more kinds.Symbol (codes "def") (many_numbers (t ∷ k ∷ [])))
one_step (Pick t k) = list (more kinds.Symbol (codes "pick") (many_numbers (t ∷ k ∷ [])))
one_step (Chain ts) = list (more kinds.Symbol (codes "chain") (many_numbers ts))
one_step (Congruence s t) = list (more kinds.Symbol (codes "cong") (many_numbers (s ∷ t ∷ [])))
one_step (Farkas ls ms) = list (more kinds.Symbol (codes "farkas") (join (one (list (many_literals ls))) (one (list (many_multipliers ms)))))
one_step (Split t z) = list (more kinds.Symbol (codes "split") (more kinds.Numeral (numeral t) (one (one_signed z (λ n. num n ∷ []) (λ n. atom kinds.Numeral (numeral n))))))
one_step (Trichotomy a b) = list (more kinds.Symbol (codes "tri") (many_numbers (a ∷ b ∷ [])))
one_step (Divide a d k) = list (more kinds.Symbol (codes "div") (many_numbers (a ∷ d ∷ k ∷ [])))
one_step (Propagate ls hs) = list (more kinds.Symbol (codes "rup") (join (one (list (many_literals ls))) (one (list (many_numbers hs)))))

many_steps : (ss : List Step) → Many (steps_tokens ss)
many_steps [] = none
many_steps (s ∷ ss) = join (one (one_step s)) (many_steps ss)

-- ---- a step is read

begun : (w : List ℕ) (n : Name) (ts : List Token) → marks.mark (word w) ≡ marked.Name n → step_at (Open ∷ word w ∷ ts) ≡ step_by n ts
unfolding step_at opened_at name_at
begun w n ts e = ap (λ m. if_name m ts >>= λ x. step_by x.0 x.1) e

two_lists : (xs ys rest : List Token) → ((written.listed xs ++ written.listed ys) ++ Close ∷ []) ++ rest ≡ Open ∷ (xs ++ (Close ∷ Open ∷ (ys ++ (Close ∷ Close ∷ rest))))
two_lists xs ys rest = ap (λ (ts : List Token). Open ∷ ts) (
    append_assoc ((xs ++ Close ∷ []) ++ (Open ∷ (ys ++ Close ∷ []))) (Close ∷ []) rest
    ∙ append_assoc (xs ++ Close ∷ []) (Open ∷ (ys ++ Close ∷ [])) (Close ∷ rest)
    ∙ ap (λ (ts : List Token). (xs ++ Close ∷ []) ++ (Open ∷ ts)) (append_assoc ys (Close ∷ []) (Close ∷ rest))
    ∙ append_assoc xs (Close ∷ []) (Open ∷ (ys ++ (Close ∷ Close ∷ rest))))

-- which symbols stand in the place of those of a term is not looked at
abbrev unnamed : Renaming
unnamed f a = (Standard 0, IntSort)

module _ (stack : Stack) (words : HaveWords stack.symbols) where
  abbrev declaration : Symbol → List Sort → Sort → Declared
  declaration f ss a = record { symbol = f; takes = ss; gives = a }

  named : (f : Symbol) (ss : List Sort) (a : Sort) → IsLive stack f ss a → HasWord f
  named f ss a live = has_word stack.symbols live.0 (declaration f ss a) words.1 live.1

  known : (f : Symbol) (ss : List Sort) (a : Sort) → IsLive stack f ss a → among stack.symbols (symbol_word f) ≡ Some (f, a)
  known f ss a live = found stack.symbols live.0 (declaration f ss a) words.0 words.1 live.1

  step_back : (s : Step) (rest : List Token) → Fits stack s → IsWritable s → step_at (step_tokens s ++ rest) ≡ Some (read_step s, rest)
  step_back (Input n) rest h w = begun (codes "input") step_names.Input (num n ∷ Close ∷ rest) refl ∙ input_read n rest w
  step_back (NewTerm t) rest h w =
      begun (codes "term") step_names.Term ((term_tokens t ++ Close ∷ []) ++ rest) refl
      ∙ ap term_at (append_assoc (term_tokens t) (Close ∷ []) rest)
      ∙ term_read (term_tokens t) rest (renamed unnamed t) (counts (one_term t) (Close ∷ rest))
      (term_spelled any stack unnamed named (λ f ss a live. refl) h.0 h.2 h.3 w)
  step_back (Define t k) rest h w = begun (codes "def") step_names.Define (num t ∷ num k ∷ Close ∷ rest) refl ∙ pair_read step_names.Define t k rest w.0 w.1
  step_back (Pick t k) rest h w = begun (codes "pick") step_names.Pick (num t ∷ num k ∷ Close ∷ rest) refl ∙ pair_read step_names.Pick t k rest w.0 w.1
  step_back (Chain []) rest h w = absurd (h refl)
  step_back (Chain (n ∷ ns)) rest h w =
      begun (codes "chain") step_names.Chain ((map num (n ∷ ns) ++ Close ∷ []) ++ rest) refl
      ∙ ap chain_at (append_assoc (map num (n ∷ ns)) (Close ∷ []) rest)
      ∙ chain_read n ns rest w
  step_back (Congruence s t) rest h w = begun (codes "cong") step_names.Congruence (num s ∷ num t ∷ Close ∷ rest) refl ∙ pair_read step_names.Congruence s t rest w.0 w.1
  step_back (Farkas ls ms) rest h w =
      begun (codes "farkas") step_names.Farkas (((written.listed (map literal_token ls) ++ written.listed (multipliers_tokens ms)) ++ Close ∷ []) ++ rest) refl
      ∙ ap farkas_at (two_lists (map literal_token ls) (multipliers_tokens ms) rest)
      ∙ farkas_read ls ms rest w.0 w.1
  step_back (Split t z) rest h w =
      begun (codes "split") step_names.Split (num t ∷ (written.signed_tokens z (λ n. num n ∷ []) ++ Close ∷ []) ++ rest) refl
      ∙ ap (λ us. split_at (num t ∷ us)) (append_assoc (written.signed_tokens z (λ n. num n ∷ [])) (Close ∷ []) rest)
      ∙ split_read t z rest w.0 w.1
  step_back (Trichotomy a b) rest h w = begun (codes "tri") step_names.Trichotomy (num a ∷ num b ∷ Close ∷ rest) refl ∙ pair_read step_names.Trichotomy a b rest w.0 w.1
  step_back (Divide a d k) rest h w = begun (codes "div") step_names.Divide (num a ∷ num d ∷ num k ∷ Close ∷ rest) refl ∙ divide_read a d k rest w.0 w.1 w.2
  step_back (Propagate ls hs) rest h w =
      begun (codes "rup") step_names.Propagate (((written.listed (map literal_token ls) ++ written.listed (map num hs)) ++ Close ∷ []) ++ rest) refl
      ∙ ap propagate_at (two_lists (map literal_token ls) (map num hs) rest)
      ∙ propagate_read ls hs rest w.0 w.1

  -- ---- all steps are read

  begins : (s : Step) (ts : List Token) → is_end (step_tokens s ++ ts) ≡ false
  begins (Input n) ts = refl
  begins (NewTerm t) ts = refl
  begins (Define t k) ts = refl
  begins (Pick t k) ts = refl
  begins (Chain ns) ts = refl
  begins (Congruence s t) ts = refl
  begins (Farkas ls ms) ts = refl
  begins (Split t z) ts = refl
  begins (Trichotomy a b) ts = refl
  begins (Divide a d k) ts = refl
  begins (Propagate ls hs) ts = refl

  steps_back : (ss : List Step) (k n : ℕ) → Each (Fits stack) ss → Each IsWritable ss → length ss < k → steps_for k n (steps_tokens ss ++ Close ∷ []) ≡ Ok (map read_step ss)
  steps_back ss zero n h w less = absurd (omega arith)
  steps_back [] (suc k) n h w less = refl
  steps_back (s ∷ ss) (suc k) n h w less =
      ap (steps_for (suc k) n) (append_assoc (step_tokens s) (steps_tokens ss) (Close ∷ []))
      ∙ ap (λ b. if b then Ok [] else after_step (step_at (step_tokens s ++ (steps_tokens ss ++ Close ∷ []))) n (steps_for k (n + 1))) (begins s (steps_tokens ss ++ Close ∷ []))
      ∙ ap (λ o. after_step o n (steps_for k (n + 1))) (step_back s (steps_tokens ss ++ Close ∷ []) h.0 w.0)
      ∙ ap (with_steps (read_step s ∷ [])) (steps_back ss k (n + 1) h.1 w.1 (omega arith))

  some_tokens : {ts : List Token} → One ts → 0 < length ts
  some_tokens (atom k x) = omega arith
  some_tokens (list m) = omega arith

  fewer : (ss : List Step) → length ss ≤ length (steps_tokens ss)
  fewer [] = omega arith
  fewer (s ∷ ss) =
      let long = length-append (step_tokens s) (steps_tokens ss) in
      let some = some_tokens (one_step s) in
      let rest = fewer ss in
      omega arith

  certificate_back : (ss : List Step) → Each (Fits stack) ss → Each IsWritable ss → certificate_at (certificate_tokens ss) ≡ Ok (map read_step ss)
  unfolding headed_at opened_at name_at
  certificate_back ss h w =
      let long = length-append (steps_tokens ss) (Close ∷ []) in
      let few = fewer ss in
      steps_back ss (length (steps_tokens ss ++ Close ∷ [])) 0 h w (omega arith)

  -- ---- what they stand for

  same_literal : (s : Sign) (n : ℕ) → numbered (literal_of record { sign = s; number = n }) ≡ record { sign = s; number = n }
  same_literal Plain n = refl
  same_literal Negated n = refl

  same_literals : (ls : List NumberedLiteral) → map numbered (map literal_of ls) ≡ ls
  same_literals [] = refl
  same_literals (l ∷ ls) = ap₂ (λ x xs. x ∷ xs) (same_literal l.sign l.number) (same_literals ls)

  step_meant : (s : Step) → Fits stack s → IsWritable s → meant stack.symbols (read_step s) ≡ Some s
  step_meant (Input n) h w = refl
  step_meant (NewTerm t) h w = ap (option_map NewTerm) (term_spelled (among stack.symbols) stack as_it_is named known h.0 h.2 h.3 w ∙ ap Some (terms.stays t))
  step_meant (Define t k) h w = refl
  step_meant (Pick t k) h w = refl
  step_meant (Chain ns) h w = refl
  step_meant (Congruence s t) h w = refl
  step_meant (Farkas ls ms) h w = ap (λ xs. Some (Farkas xs ms)) (same_literals ls)
  step_meant (Split t z) h w = refl
  step_meant (Trichotomy a b) h w = refl
  step_meant (Divide a d k) h w = refl
  step_meant (Propagate ls hs) h w = ap (λ xs. Some (Propagate xs hs)) (same_literals ls)

  steps_meant : (ss : List Step) → Each (Fits stack) ss → Each IsWritable ss → map (meant stack.symbols) (map read_step ss) ≡ map Some ss
  steps_meant [] h w = refl
  steps_meant (s ∷ ss) h w = ap₂ (λ x xs. x ∷ xs) (step_meant s h.0 w.0) (steps_meant ss h.1 w.1)

  -- ---- their text

  step_has_term : (s : Step) → Fits stack s → HasTerm s
  step_has_term (Input n) h = tt
  step_has_term (NewTerm t) h = reads_term stack (λ f ss a live. (named f ss a live).spelled) t h.3
  step_has_term (Define t k) h = tt
  step_has_term (Pick t k) h = tt
  step_has_term (Chain ns) h = tt
  step_has_term (Congruence s t) h = tt
  step_has_term (Farkas ls ms) h = tt
  step_has_term (Split t z) h = tt
  step_has_term (Trichotomy a b) h = tt
  step_has_term (Divide a d k) h = tt
  step_has_term (Propagate ls hs) h = tt

  have_terms : (ss : List Step) → Each (Fits stack) ss → Each HasTerm ss
  have_terms [] h = tt
  have_terms (s ∷ ss) h = (step_has_term s h.0, have_terms ss h.1)

texts : (ss : List Step) → map step_text ss ≡ map text_of (map Some ss)
texts [] = refl
texts (s ∷ ss) = ap (λ xs. step_text s ∷ xs) (texts ss)

pub read_back : WrittenIsReadBack
read_back stack ss words finished w =
    let h = fit finished.1 in
    record {
      tokens = certificate_tokens ss;
      first = λ rest. record {
        lexed = subst (λ xs. Lexes (listed (codes "certificate" ∷ xs) ++ rest) (certificate_tokens ss) rest) (texts ss) (scanned ss (have_terms stack words ss h) rest);
        one = closes_one (more kinds.Symbol (codes "certificate") (many_steps ss));
      };
      found = map read_step ss;
      is_read = certificate_back stack words ss h w;
      meant = steps_meant stack words ss h w;
    }
