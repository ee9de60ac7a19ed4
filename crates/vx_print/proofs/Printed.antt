-- What is printed reads back.
use Rattle.std.proofs.Common.{◌≡◌, ◌∙◌, ℕ, zero, suc, ◌+◌, List, [], ◌∷◌, ◌++◌, map, false, refl, sym, ap, ap₂, subst, add-one, append_assoc}
use Rattle.std.specs.Prelude.{codes, ◌==◌}
use Rattle.vx_ast.specs.declared.Place.{Place}
use Rattle.vx_ast.specs.Written.{Program, Kind as MemberKind, IsField, IsPredicate, IsFunction, IsMethod}
use Rattle.vx_tokens.specs.Tokens.{Kind, word, Token}
use Rattle.vx_tokens.specs.Text.{Scans, Ending, AtEnd, first_place, unmarked, one_token}
use Rattle.vx_tokens.specs.Scanning.{scan}
use Rattle.vx_tokens.proofs.Right.{scanning_is_right, scanning_is_all}
use Rattle.vx_grammar.specs.Programs.{program_meant, program_marks}
use Rattle.vx_grammar.specs.Grammar.{tokens_of}
use Rattle.vx_grammar.specs.ProgramLaws.{ProgramSpelled, ProgramsSpelledOnce}
use Rattle.vx_print.specs.Words.{word_text, token_text, behind}
use Rattle.vx_print.specs.Canonical.{member_word, member_rest, canonical_text}
use Rattle.vx_print.specs.Same.{nowhere}
use Rattle.vx_print.specs.Laws.{TextSpells, ReadsBack, PrintedReadsBack}
use Rattle.vx_print.proofs.Behind.{behind_front}
use Rattle.vx_print.proofs.Built.{placed}
use Rattle.vx_print.proofs.BuiltProgram.{program_tokens, built_program}
use Rattle.vx_print.proofs.Scanned.{Reads, reads_none, reads_line}
use Rattle.vx_print.proofs.Writable.{Fine, FineTokens, fine_marks, scanned_fine}
use Rattle.vx_print.proofs.WritableProgram.{fine_program}

-- ---- the text scans as the canonical tokens

fine_first : (xs ys : List Kind) → Fine (xs ++ ys) → Fine xs × Fine ys
fine_first [] ys h = (tt, h)
fine_first (x ∷ xs) ys h = let rest = fine_first xs ys h.1 in ((h.0, rest.0), rest.1)

text_reads : (ms : Program) → Fine (program_tokens ms) → (p : Place) → Reads (canonical_text ms) (program_tokens ms) p
text_reads [] h p = reads_none p
text_reads (m ∷ ms) h p =
    let first = word (member_word m.kind) in
    let rest = member_rest m.name.name m.kind in
    let both = fine_first (first ∷ rest) (program_tokens ms) h in
    let e : (behind (token_text first) rest ++ 10 ∷ []) ++ canonical_text ms ≡ behind (token_text first) rest ++ 10 ∷ canonical_text ms = append_assoc (behind (token_text first) rest) (10 ∷ []) (canonical_text ms) in
    subst (λ l. Reads l (first ∷ (rest ++ program_tokens ms)) p) (sym e) (reads_line first rest (program_tokens ms) (canonical_text ms) p both.0.0 both.0.1 (λ q. text_reads ms both.1 q))

-- no mark stands in front
unmarked_line : (a b c : ℕ) (text : List ℕ) (ks : List Kind) (rest : List ℕ) → (a == 239) ≡ false → unmarked ((behind (a ∷ b ∷ c ∷ text) ks ++ 10 ∷ []) ++ rest) ≡ (behind (a ∷ b ∷ c ∷ text) ks ++ 10 ∷ []) ++ rest
unmarked_line a b c text ks rest h =
    let e : behind (a ∷ b ∷ c ∷ text) ks ≡ a ∷ b ∷ c ∷ behind text ks = behind_front (a ∷ b ∷ c ∷ []) text ks in
    subst (λ l. unmarked ((l ++ 10 ∷ []) ++ rest) ≡ (l ++ 10 ∷ []) ++ rest) (sym e) (rw h refl)

no_mark_by : (k : MemberKind) (ks : List Kind) (rest : List ℕ) → unmarked ((behind (word_text (member_word k)) ks ++ 10 ∷ []) ++ rest) ≡ (behind (word_text (member_word k)) ks ++ 10 ∷ []) ++ rest
no_mark_by (IsField t) ks rest = unmarked_line 102 105 101 (codes "ld") ks rest refl
no_mark_by (IsPredicate p) ks rest = unmarked_line 112 114 101 (codes "dicate") ks rest refl
no_mark_by (IsFunction g) ks rest = unmarked_line 102 117 110 (codes "ction") ks rest refl
no_mark_by (IsMethod m) ks rest = unmarked_line 109 101 116 (codes "hod") ks rest refl

no_mark : (ms : Program) → unmarked (canonical_text ms) ≡ canonical_text ms
no_mark [] = refl
no_mark (m ∷ ms) = no_mark_by m.kind (member_rest m.name.name m.kind) (canonical_text ms)

-- ---- places by number

place_at : List Token → ℕ → Place
place_at [] i = nowhere
place_at (t ∷ ts) zero = t.place
place_at (t ∷ ts) (suc i) = place_at ts i

placed_later : (f : ℕ → Place) (i : ℕ) (ks : List Kind) → placed f (i + 1) ks ≡ placed (λ j. f (j + 1)) i ks
placed_later f i [] = refl
placed_later f i (k ∷ ks) = ap (λ l. one_token k (f (i + 1)) ∷ l) (placed_later f (i + 1) ks)

by_places : (f g : ℕ → Place) (i : ℕ) (ks : List Kind) → ((j : ℕ) → f j ≡ g j) → placed f i ks ≡ placed g i ks
by_places f g i [] h = refl
by_places f g i (k ∷ ks) h = ap₂ (λ p l. one_token k p ∷ l) (h i) (by_places f g (i + 1) ks h)

where_they_stand : (ts : List Token) → placed (place_at ts) 0 (map (λ t. t.kind) ts) ≡ ts
unfolding place_at
where_they_stand [] = refl
where_they_stand (t ∷ ts) =
    ap (λ l. t ∷ l) (placed_later (place_at (t ∷ ts)) 0 (map (λ u. u.kind) ts)
    ∙ by_places (λ j. place_at (t ∷ ts) (j + 1)) (place_at ts) 0 (map (λ u. u.kind) ts) (λ j. ap (place_at (t ∷ ts)) (add-one j))
    ∙ where_they_stand ts)

-- ---- the law

scans_alike : (p : Place) (bytes : List ℕ) (ts us : List Token) (d e : Ending) → Scans p bytes ts d → Scans p bytes us e → ts ≡ us
scans_alike p bytes ts us d e s t = ap (λ x. x.tokens) (sym (scanning_is_all p bytes ts d s) ∙ scanning_is_all p bytes us e t)

pub printed_reads_back : ProgramsSpelledOnce → PrintedReadsBack
printed_reads_back once text p s =
    let w = s.spelled.phrase in
    let fine : FineTokens (tokens_of (program_marks w)) = subst FineTokens (sym s.spelled.tokens) (scanned_fine first_place (unmarked text) s.tokens (AtEnd s.at) s.scans) in
    let can : Fine (program_tokens (program_meant w)) = fine_program w (fine_marks (program_marks w) fine) in
    let r = text_reads (program_meant w) can first_place in
    let ts = (scan 0 first_place (canonical_text (program_meant w))).tokens in
    let b = built_program (place_at ts) 0 w s.spelled.stands in
    let tokens : tokens_of (program_marks b.phrase) ≡ ts = b.tokens ∙ ap (placed (place_at ts) 0) (sym r.kinds) ∙ where_they_stand ts in
    let spelled : ProgramSpelled ts (program_meant b.phrase) = record { phrase = b.phrase; stands = b.stands; means = refl; tokens = tokens } in
    let scans : Scans first_place (unmarked (canonical_text (program_meant w))) ts (AtEnd r.at) =
    subst (λ l. Scans first_place l ts (AtEnd r.at)) (sym (no_mark (program_meant w))) (subst (λ e. Scans first_place (canonical_text (program_meant w)) ts e) r.ending (scanning_is_right first_place (canonical_text (program_meant w)))) in
    let back : TextSpells (canonical_text (program_meant w)) (program_meant b.phrase) = record { tokens = ts; at = r.at; scans = scans; spelled = spelled } in
    let it : ReadsBack (canonical_text (program_meant w)) (program_meant w) = record {
      program = program_meant b.phrase;
      spells = back;
      same = b.means;
      only = λ q t. let e = scans_alike first_place (unmarked (canonical_text (program_meant w))) t.tokens ts (AtEnd t.at) (AtEnd r.at) t.scans scans in once ts q (program_meant b.phrase) (subst (λ l. ProgramSpelled l q) e t.spelled) spelled;
    } in
    subst (λ x. ReadsBack (canonical_text x) x) s.spelled.means it
