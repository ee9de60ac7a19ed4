-- The generated text spells its program.
use Rattle.std.proofs.Common.{◌≡◌, ◌∙◌, ℕ, zero, suc, ◌+◌, ◌-◌, ◌≤◌, ltb, List, [], ◌∷◌, ◌++◌, length, true, refl, sym, ap, ap₂, subst, arith, append_assoc, length-append}
use Rattle.std.specs.Prelude.{Ok}
use Rattle.std.proofs.lemmas.List.{append-nil}
use Rattle.vx_ast.specs.Written.{Member, Program}
use Rattle.vx_tokens.specs.Tokens.{Token}
use Rattle.vx_tokens.specs.Text.{Scans, AtEnd, first_place}
use Rattle.vx_tokens.specs.Scanning.{scan, Scanned}
use Rattle.vx_tokens.proofs.Scan.{followed_by}
use Rattle.vx_tokens.proofs.Right.{scanning_is_right}
use Rattle.vx_grammar.specs.StmtReading.{skip_semicolon}
use Rattle.vx_grammar.specs.MemberReading.{begins_member, member_at, members_by, members_within, members_at}
use Rattle.vx_grammar.specs.ProgramLaws.{ProgramSays}
use Rattle.vx_grammar.proofs.ProgramTold.{programs_are_spelled}
use Rattle.vx_gen.specs.Generated.{generated, first_lines}
use Rattle.vx_gen.specs.Generated as text
use Rattle.vx_gen.specs.Programs.{line, first_members, program_of, method_on}
use Rattle.vx_parser.specs.Spelling.{Spells}
use Rattle.vx_gen.proofs.Texts.{generated_utf8, generated_length}
use Rattle.vx_gen.proofs.Scanned.{followed_on}
use Rattle.vx_gen.proofs.Lines.{IsLine, value_line, next_line, left_line, right_line, list_line, tree_line, method_line}

-- From the first line on the text is n lines of these members.
record IsRead (n : ℕ) (text : List ℕ) (ms : Program) : Type 0 where
  pub tokens : List Token
  pub count : n ≤ length tokens
  pub members : length ms ≡ n
  pub scanned : (rest : List ℕ) → scan 0 (line 1 1) (text ++ rest) ≡ followed_by tokens (scan 0 (line (n + 1) 1) rest)
  pub read : (most : ℕ) (rest : List Token) → skip_semicolon rest ≡ rest → members_by 200 65536 (n + most) [] (tokens ++ rest) ≡ members_by 200 65536 most ms rest

nothing_read : IsRead 0 [] []
nothing_read = record {
  tokens = [];
  count = omega arith;
  members = refl;
  scanned = λ rest. refl;
  read = λ most rest plain. ap (λ k. members_by 200 65536 k [] rest) (let e : 0 + most ≡ most = omega arith in e);
}

few_members : (n : ℕ) → n ≤ 2005 → ltb n 65536 ≡ true
few_members n h = grind (arith, h)

-- one member is read where fewer than the limit were read before
member_read : (most : ℕ) (before : Program) (t : Token) (ts rest : List Token) (m : Member) → ltb (length before) 65536 ≡ true → begins_member t.kind ≡ true → member_at 200 t ts ≡ Ok (m, rest) → skip_semicolon rest ≡ rest →
    members_by 200 65536 (suc most) before (t ∷ ts) ≡ members_by 200 65536 most (before ++ m ∷ []) rest
unfolding members_by
member_read most before t ts rest m few begins is plain = rw begins (rw few (rw is (ap (members_by 200 65536 most (before ++ m ∷ [])) plain)))

-- a line more
line_read : (n : ℕ) (text more : List ℕ) (ms : Program) (m : Member) → n ≤ 2005 → IsRead n text ms → IsLine (n + 1) more m → IsRead (suc n) (text ++ more) (ms ++ m ∷ [])
line_read n text more ms m few r l =
    let ts = l.first ∷ l.more in
    record {
      tokens = r.tokens ++ ts;
      count = let e = length-append r.tokens ts in let c = r.count in omega (arith, e, c);
      members = let e = length-append ms (m ∷ []) in let c = r.members in omega (arith, e, c);
      scanned = λ rest.
          ap (scan 0 (line 1 1)) (append_assoc text more rest) ∙ r.scanned (more ++ rest) ∙ ap (followed_by r.tokens) (l.scanned rest)
          ∙ followed_on r.tokens ts (scan 0 (line (n + 1 + 1) 1) rest) ∙ ap (λ k. followed_by (r.tokens ++ ts) (scan 0 (line k 1) rest)) (let e : n + 1 + 1 ≡ suc n + 1 = omega arith in e);
      read = λ most rest plain.
          ap₂ (λ k us. members_by 200 65536 k [] us) (let e : suc n + most ≡ n + suc most = omega arith in e) (append_assoc r.tokens ts rest)
          ∙ r.read (suc most) (ts ++ rest) (rw l.plain refl)
          ∙ member_read most ms l.first (l.more ++ rest) rest m (let e = r.members in few_members (length ms) (omega (arith, e, few))) l.begins (l.read rest) plain;
    }

first_read : IsRead 6 first_lines first_members
first_read =
    line_read 5 _ _ _ _ (omega arith) (line_read 4 _ _ _ _ (omega arith) (line_read 3 _ _ _ _ (omega arith) (line_read 2 _ _ _ _ (omega arith)
    (line_read 1 _ _ _ _ (omega arith) (line_read 0 _ _ _ _ (omega arith) nothing_read value_line) next_line) left_line) right_line) list_line) tree_line

all_read : (n : ℕ) → n ≤ 2000 → IsRead (6 + n) (generated n) (program_of n)
all_read zero le = first_read
all_read (suc n) le =
    let here : IsLine (6 + n + 1) (text.method_line n) (method_on (7 + n) n) = subst (λ k. IsLine k (text.method_line n) (method_on (7 + n) n)) (let e : 7 + n ≡ 6 + n + 1 = omega arith in e) (method_line (7 + n) n (omega (arith, le))) in
    subst (λ k. IsRead k (generated (suc n)) (program_of (suc n))) (let e : suc (6 + n) ≡ 6 + suc n = omega arith in e)
    (line_read (6 + n) (generated n) (text.method_line n) (program_of n) (method_on (7 + n) n) (omega (arith, le)) (all_read n (omega (arith, le))) here)

-- ---- the law

read_whole : (ts : List Token) (n : ℕ) (p : Program) → n ≤ length ts → ((most : ℕ) → members_by 200 65536 (n + most) [] ts ≡ Ok p) → members_at ts ≡ Ok p
unfolding members_within
read_whole ts n p le h = ap (λ k. members_by 200 65536 k [] ts) (let e : length ts ≡ n + (length ts - n) = omega (arith, le) in e) ∙ h (length ts - n)

nothing_left : (most : ℕ) (p : Program) → members_by 200 65536 most p [] ≡ Ok p
unfolding members_by
nothing_left zero p = refl
nothing_left (suc most) p = refl

abbrev ended : List Token → ℕ → Scanned
ended ts l = record { tokens = ts; ending = AtEnd (line l 1) }

whole_scanned : (n : ℕ) (text : List ℕ) (p : Program) (r : IsRead n text p) → scan 0 first_place text ≡ ended r.tokens (n + 1)
unfolding scan
whole_scanned n text p r = ap (scan 0 first_place) (sym (append-nil text)) ∙ r.scanned [] ∙ ap (λ ts. ended ts (n + 1)) (append-nil r.tokens)

whole_read : (n : ℕ) (text : List ℕ) (p : Program) (r : IsRead n text p) → members_at r.tokens ≡ Ok p
whole_read n text p r = read_whole r.tokens n p r.count (λ most. ap (members_by 200 65536 (n + most) []) (sym (append-nil r.tokens)) ∙ r.read most [] refl ∙ nothing_left most p)

pub generated_spelled : (n : ℕ) → n ≤ 2000 → Spells (generated n) (program_of n)
generated_spelled n le =
    let r = all_read n le in
    record {
      short = generated_length n le;
      utf8 = generated_utf8 n le;
      tokens = r.tokens;
      at = line (6 + n + 1) 1;
      scans = subst (λ s. Scans first_place (generated n) s.tokens s.ending) (whole_scanned (6 + n) (generated n) (program_of n) r) (scanning_is_right first_place (generated n));
      within = subst (ProgramSays r.tokens) (whole_read (6 + n) (generated n) (program_of n) r) (programs_are_spelled r.tokens);
    }
