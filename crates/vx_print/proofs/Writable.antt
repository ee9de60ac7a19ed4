-- The tokens that are printed can be written, since those of the text that was read could.
use Rattle.std.proofs.Common.{◌≡◌, ◌∙◌, ℕ, ◌+◌, ◌≤◌, List, [], ◌∷◌, ◌++◌, Bool, true, false, ltb, ◌||◌, not, Option, Some, None, refl, sym, ap, subst, arith}
use Rattle.std.specs.List.{AllByRecursion}
use Rattle.vx_ast.specs.declared.Place.{Place}
use Rattle.vx_tokens.specs.declared.token.Word.{Word}
use Rattle.vx_tokens.specs.declared.token.Word.TheVariants as words
use Rattle.vx_tokens.specs.declared.token.Symbol.TheVariants as signs
use Rattle.vx_tokens.specs.Tokens.{Kind, name, number, word, symbol, Token}
use Rattle.vx_tokens.specs.Text.{Ending, Scans, scans_end, scans_blank, scans_line, scans_block, scans_token, scans_wide, scans_open, scans_bad, IsWide, Spells, token, IsWord, word_or_name, reserved, word_kind, max_numeral}
use Rattle.vx_grammar.specs.Grammar.{null_word, write_word, none_word, result_word, Phrase, literal, constant, numeral, named, called, dotted, grouped, past, accessed, prefixed, joined, chosen, unfolded, InstancePhrase, alone, held, instance_meant, instance_marks, ArgumentsPhrase, no_arguments, arguments_from, FurtherPhrase, nothing_further, further, AmountPhrase, no_amount, amount, Mark, mark, marks, arguments_marks, further_marks, amount_marks, tokens_of, meant, arguments_meant, further_meant, amount_meant, level_of, left_level, right_level, sign_of, operators, dots}
use Rattle.vx_print.specs.Canonical.{parenthesized, parenthesized_if, is_prefixed, applied, expr_tokens, exprs_tokens, further_tokens, amount_tokens, written_amount, instance_tokens}
use Rattle.vx_print.proofs.Scanned.{IsWritable}

-- ---- lists

abbrev pub Fine : List Kind → Type 0
Fine ks = AllByRecursion IsWritable ks

abbrev pub FineMarks : List Mark → Type 0
FineMarks ms = AllByRecursion (λ m. IsWritable m.token.kind) ms

abbrev pub FineTokens : List Token → Type 0
FineTokens ts = AllByRecursion (λ t. IsWritable t.kind) ts

pub fine_append : (xs ys : List Kind) → Fine xs → Fine ys → Fine (xs ++ ys)
fine_append [] ys h k = k
fine_append (x ∷ xs) ys h k = (h.0, fine_append xs ys h.1 k)

pub fine_front : (xs ys : List Mark) → FineMarks (xs ++ ys) → FineMarks xs
fine_front [] ys h = tt
fine_front (x ∷ xs) ys h = (h.0, fine_front xs ys h.1)

pub fine_back : (xs ys : List Mark) → FineMarks (xs ++ ys) → FineMarks ys
fine_back [] ys h = h
fine_back (x ∷ xs) ys h = fine_back xs ys h.1

pub fine_marks : (ms : List Mark) → FineTokens (tokens_of ms) → FineMarks ms
fine_marks [] h = tt
fine_marks (m ∷ ms) h = (h.0, fine_marks ms h.1)

pub fine_around : (ks : List Kind) → Fine ks → Fine (parenthesized ks)
fine_around ks h = (tt, fine_append ks (symbol signs.Close ∷ []) h (tt, tt))

fine_if : (b : Bool) (ks : List Kind) → Fine ks → Fine (parenthesized_if b ks)
fine_if true ks h = fine_around ks h
fine_if false ks h = fine_append ks [] h tt

-- ---- what was scanned can be written

same_name : (o : Option Word) (text x : List ℕ) → word_or_name o text ≡ name x → text ≡ x
same_name None text x e = cc
same_name (Some w) text x e = absurd cc

writable_kind : (k : Kind) (text : List ℕ) → Spells k text → (IsWide (token k text) → ⊥) → IsWritable k
writable_kind (name x) text h n =
    let e = same_name (reserved text) text x h.1 in
    (subst IsWord e h.0, ap word_kind (sym e) ∙ h.1)
writable_kind (number m) text h n = by_bound (ltb max_numeral m) refl
  where
    by_bound : (t : Bool) → ltb max_numeral m ≡ t → m ≤ max_numeral
    by_bound true e = absurd (n (grind (arith, e)))
    by_bound false e = grind (arith, e)
writable_kind (word w) text h n = tt
writable_kind (symbol s) text h n = tt

pub scanned_fine : (p : Place) (bytes : List ℕ) (ts : List Token) (e : Ending) → Scans p bytes ts e → FineTokens ts
scanned_fine p bytes ts e scans_end = tt
scanned_fine p bytes ts e (scans_blank h s) = scanned_fine _ _ ts e s
scanned_fine p bytes ts e (scans_line h s) = scanned_fine _ _ ts e s
scanned_fine p bytes ts e (scans_block h s) = scanned_fine _ _ ts e s
scanned_fine p bytes (t ∷ ts) e (scans_token {k = k} {text = text} h wide closed s) = (writable_kind k text h.is_piece wide, scanned_fine _ _ ts e s)
scanned_fine p bytes ts e (scans_wide h w) = tt
scanned_fine p bytes ts e (scans_open h) = tt
scanned_fine p bytes ts e (scans_bad h o) = tt

-- ---- expressions

mutual
  pub fine : (n level : ℕ) (last : Bool) (w : Phrase) → FineMarks (marks n w) → Fine (expr_tokens level last (meant w))
  fine n level last (literal p b) h = h
  fine n level last (constant p null_word) h = h
  fine n level last (constant p write_word) h = h
  fine n level last (constant p none_word) h = h
  fine n level last (constant p result_word) h = h
  fine n level last (numeral p m) h = h
  fine n level last (named p x) h = h
  fine n level last (called p x o es c) h = (h.0, fine_around (exprs_tokens (arguments_meant es)) (fine_arguments (n + 1) es (fine_front (arguments_marks (n + 1) es) (mark (n + 1) c (symbol signs.Close) ∷ []) h.1.1)))
  fine n level last (dotted e p q x) h =
      let inside = is_prefixed (meant e) in
      let deep = n + dots e + 1 in
      let end = fine_back (marks n e) (mark deep p (symbol signs.Dot) ∷ mark deep q (name x) ∷ []) h in
      fine_append (parenthesized_if inside (expr_tokens 0 inside (meant e))) (symbol signs.Dot ∷ name x ∷ []) (fine_if inside (expr_tokens 0 inside (meant e)) (fine n 0 inside e (fine_front (marks n e) (mark deep p (symbol signs.Dot) ∷ mark deep q (name x) ∷ []) h))) end
  fine n level last (grouped p e q) h = fine (n + 1) level last e (fine_front (marks (n + 1) e) (mark (n + 1) q (symbol signs.Close) ∷ []) h.1)
  fine n level last (past p o e c) h = (tt, fine_around (expr_tokens 8 true (meant e)) (fine (n + 1) 8 true e (fine_front (marks (n + 1) e) (mark (n + 1) c (symbol signs.Close) ∷ []) h.1.1)))
  fine n level last (accessed p o e a c) h =
      let both = fine_front (marks (n + 1) e ++ amount_marks (n + 1) a) (mark (n + 1) c (symbol signs.Close) ∷ []) h.1.1 in
      let ke = expr_tokens 8 true (meant e) in
      let ka = written_amount (amount_tokens (amount_meant a)) in
      (tt, fine_around (ke ++ symbol signs.Comma ∷ ka) (fine_append ke (symbol signs.Comma ∷ ka) (fine (n + 1) 8 true e (fine_front (marks (n + 1) e) (amount_marks (n + 1) a) both)) (tt, fine_amount (n + 1) a (fine_back (marks (n + 1) e) (amount_marks (n + 1) a) both))))
  fine n level last (prefixed p op e) h = (tt, fine (n + 1) 0 last e h.1)
  fine n level last (joined a p op b) h =
      let deep = n + operators (level_of op) a + 1 in
      let inside = ltb level (level_of op) in
      let ka = expr_tokens (left_level op) false (meant a) in
      let kb = expr_tokens (right_level op) (inside || last) (meant b) in
      let more = mark deep p (symbol (sign_of op)) ∷ marks deep b in
      let end = fine_back (marks n a) more h in
      fine_if inside (ka ++ symbol (sign_of op) ∷ kb) (fine_append ka (symbol (sign_of op) ∷ kb) (fine n (left_level op) false a (fine_front (marks n a) more h)) (tt, fine deep (right_level op) (inside || last) b end.1))
  fine n level last (chosen c p a q b) h =
      let inside = ltb level 8 in
      let kc = expr_tokens 7 false (meant c) in
      let ka = expr_tokens 8 true (meant a) in
      let kb = expr_tokens 8 (inside || last) (meant b) in
      let colon = mark (n + 1) q (symbol signs.Colon) ∷ marks (n + 1) b in
      let question = mark (n + 1) p (symbol signs.Question) ∷ (marks (n + 1) a ++ colon) in
      let behind_c = fine_back (marks n c) question h in
      let behind_a = fine_back (marks (n + 1) a) colon behind_c.1 in
      fine_if inside (kc ++ symbol signs.Question ∷ (ka ++ symbol signs.Colon ∷ kb)) (fine_append kc (symbol signs.Question ∷ (ka ++ symbol signs.Colon ∷ kb)) (fine n 7 false c (fine_front (marks n c) question h))
      (tt, fine_append ka (symbol signs.Colon ∷ kb) (fine (n + 1) 8 true a (fine_front (marks (n + 1) a) colon behind_c.1)) (tt, fine (n + 1) 8 (inside || last) b behind_a.1)))
  fine n level last (unfolded p w q e) h =
      let more = mark (n + 1) q (word words.In) ∷ marks (n + 1) e in
      let ki = instance_tokens (instance_meant w).predicate.name (instance_meant w).arguments (instance_meant w).amount in
      let ke = expr_tokens 8 true (meant e) in
      let end = fine_back (instance_marks n w) more h.1 in
      fine_if (not last) (word words.Unfolding ∷ (ki ++ word words.In ∷ ke)) (tt, fine_append ki (word words.In ∷ ke) (fine_instance n w (fine_front (instance_marks n w) more h.1)) (tt, fine (n + 1) 8 true e end.1))

  pub fine_instance : (n : ℕ) (w : InstancePhrase) → FineMarks (instance_marks n w) → Fine (instance_tokens (instance_meant w).predicate.name (instance_meant w).arguments (instance_meant w).amount)
  fine_instance n (alone p x o es c) h =
      let ks = exprs_tokens (arguments_meant es) in
      fine_append (applied x ks) [] (h.0, fine_around ks (fine_arguments (n + 1) es (fine_front (arguments_marks (n + 1) es) (mark (n + 1) c (symbol signs.Close) ∷ []) h.1.1))) tt
  fine_instance n (held p o q x o' es c' no_amount c) h =
      let ks = exprs_tokens (arguments_meant es) in
      let close = mark (n + 1 + 1) c' (symbol signs.Close) ∷ [] in
      let call = mark (n + 1) q (name x) ∷ mark (n + 1 + 1) o' (symbol signs.Open) ∷ (arguments_marks (n + 1 + 1) es ++ close) in
      let k = fine_front call [] (fine_front (call ++ []) (mark (n + 1) c (symbol signs.Close) ∷ []) h.1.1) in
      fine_append (applied x ks) [] (k.0, fine_around ks (fine_arguments (n + 1 + 1) es (fine_front (arguments_marks (n + 1 + 1) es) close k.1.1))) tt
  fine_instance n (held p o q x o' es c' (amount r a) c) h =
      let ks = exprs_tokens (arguments_meant es) in
      let ka = expr_tokens 8 true (meant a) in
      let close = mark (n + 1 + 1) c' (symbol signs.Close) ∷ [] in
      let part = mark (n + 1) r (symbol signs.Comma) ∷ marks (n + 1) a in
      let call = mark (n + 1) q (name x) ∷ mark (n + 1 + 1) o' (symbol signs.Open) ∷ (arguments_marks (n + 1 + 1) es ++ close) in
      let both = fine_front (call ++ part) (mark (n + 1) c (symbol signs.Close) ∷ []) h.1.1 in
      let k = fine_front call part both in
      let d = fine_back call part both in
      (tt, (tt, fine_append (applied x ks) (symbol signs.Comma ∷ (ka ++ symbol signs.Close ∷ [])) (k.0, fine_around ks (fine_arguments (n + 1 + 1) es (fine_front (arguments_marks (n + 1 + 1) es) close k.1.1))) (tt, fine_append ka (symbol signs.Close ∷ []) (fine (n + 1) 8 true a d.1) (tt, tt))))

  pub fine_amount : (n : ℕ) (a : AmountPhrase) → FineMarks (amount_marks n a) → Fine (written_amount (amount_tokens (amount_meant a)))
  fine_amount n no_amount h = (tt, tt)
  fine_amount n (amount p e) h = fine n 8 true e h.1

  pub fine_arguments : (n : ℕ) (es : ArgumentsPhrase) → FineMarks (arguments_marks n es) → Fine (exprs_tokens (arguments_meant es))
  fine_arguments n no_arguments h = tt
  fine_arguments n (arguments_from e es) h = fine_append (expr_tokens 8 true (meant e)) (further_tokens (further_meant es)) (fine n 8 true e (fine_front (marks n e) (further_marks n es) h)) (fine_further n es (fine_back (marks n e) (further_marks n es) h))

  fine_further : (n : ℕ) (es : FurtherPhrase) → FineMarks (further_marks n es) → Fine (further_tokens (further_meant es))
  fine_further n nothing_further h = tt
  fine_further n (further p e es) h = (tt, fine_append (expr_tokens 8 true (meant e)) (further_tokens (further_meant es)) (fine n 8 true e (fine_front (marks n e) (further_marks n es) h.1)) (fine_further n es (fine_back (marks n e) (further_marks n es) h.1)))
