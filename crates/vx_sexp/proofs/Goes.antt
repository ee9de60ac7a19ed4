-- Which bytes can go on to a first s-expression.
use Rattle.std.proofs.Common.{◌≡◌, ◌⊎◌, inl, inr, ℕ, zero, suc, ◌≤◌, ◌+◌, ◌-◌, ◌++◌, ◌==◌, nat_le, length, drop, Bool, true, false, List, [], ◌∷◌, Option, Some, None, Result, Ok, Err, IfOk, IfErr, MatchResult, ◌↔◌, refl, arith, ap, ◌∙◌, sym, subst, append_assoc}
use Rattle.std.proofs.lemmas.Grind.{common_steps}
use Rattle.vx_sexp.specs.declared.token.Kind.{Kind}
use Rattle.vx_sexp.specs.declared.token.Kind.TheVariants as kind
use Rattle.vx_sexp.specs.declared.token.Token.{Token}
use Rattle.vx_sexp.specs.declared.token.Token.TheVariants.{Open, Close, Atom}
use Rattle.vx_sexp.specs.declared.reader.SexpFault.{SexpFault}
use Rattle.vx_sexp.specs.declared.reader.SexpFault.TheVariants as fault
use Rattle.vx_sexp.specs.declared.scan.Mode.{Mode}
use Rattle.vx_sexp.specs.declared.scan.Mode.TheVariants as mode
use Rattle.vx_sexp.specs.declared.scan.Move.{Move}
use Rattle.vx_sexp.specs.declared.scan.Move.TheVariants as move
use Rattle.vx_sexp.specs.Characters.{is_line_end, is_digit, is_hex_digit, is_bit, is_symbol_byte, is_word_byte}
use Rattle.vx_sexp.specs.Tokens.{Starts, Lexes, is_ended, is_of, is_numeral, is_empty, before_point, behind_point, has_point}
use Rattle.vx_sexp.specs.First.{after, fits, depth, deepest, opens, closes, IsFirst, Begins, IsBad, Faults, CutFaults}
use Rattle.vx_sexp.specs.Scanning.{scan, move_of, Scan, Stops, Runs, Fails, Unfinished, Bad, next, token_at, front, is_begun, is_mark, kind_of, word_of, word_next, word_so_far, closed_next, behind_space}
use Rattle.vx_sexp.specs.Beginnings.{GoesOn, IsBeginning, IsDeep, Means}
use Rattle.vx_sexp.proofs.Scans.{taken, body, scan_whole, scan_body, scan_ended}
use Rattle.vx_sexp.proofs.Firsts.{choose, kind_of_is}
use Rattle.vx_sexp.proofs.Counts.{starts_more, next_more}
use Rattle.vx_sexp.proofs.Exact.{GoesOn as Fits, begin_goes_on, fault_excludes}
use Rattle.vx_sexp.proofs.Longer.{next_bad_more, begun_parts}

-- ---- what a run lacks

abbrev ending : Mode → List ℕ
ending mode.Space = []
ending mode.Comment = 10 ∷ []
ending mode.Word = []
ending mode.Text = 34 ∷ []
ending mode.Quote = []
ending mode.Bars = 124 ∷ []

missing_by : Move → (Mode → List ℕ) → List ℕ
missing_by (move.On m) go = go m
missing_by move.Before go = []
missing_by move.Behind go = []
missing_by move.Wrong go = []

abbrev missing : Mode → List ℕ → List ℕ
missing m [] = ending m
missing m (b ∷ bs) = missing_by (move_of m b) (λ n. missing n bs)

runs_body : (m : Mode) (bytes : List ℕ) → scan m bytes ≡ Runs → body m (bytes ++ missing m bytes) ≡ true
unfolding scan move_of missing_by is_line_end
runs_body mode.Space [] e = refl
runs_body mode.Comment [] e = refl
runs_body mode.Word [] e = refl
runs_body mode.Text [] e = refl
runs_body mode.Quote [] e = refl
runs_body mode.Bars [] e = refl
runs_body mode.Space (b ∷ bs) e = grind (arith, common_steps, runs_body mode.Space bs, runs_body mode.Comment bs)
runs_body mode.Comment (b ∷ bs) e = grind (arith, common_steps, runs_body mode.Space bs, runs_body mode.Comment bs)
runs_body mode.Word (b ∷ bs) e = grind (arith, common_steps, runs_body mode.Word bs)
runs_body mode.Text (b ∷ bs) e = grind (arith, common_steps, runs_body mode.Text bs, runs_body mode.Quote bs)
runs_body mode.Quote (b ∷ bs) e = grind (arith, common_steps, runs_body mode.Text bs)
runs_body mode.Bars (b ∷ bs) e = grind (arith, common_steps, runs_body mode.Bars bs)

-- ---- an atom that lacks some bytes

-- With some bytes more the bytes are an atom.
record Lacks (text : List ℕ) : Type 0 where
  more : List ℕ
  kind : Kind
  whole : is_of kind (text ++ more) ≡ true

append_none : (xs : List ℕ) → xs ++ [] ≡ xs
append_none [] = refl
append_none (x ∷ xs) = ap (λ l. x ∷ l) (append_none xs)

small_bytes : (is_hex_digit 48 ≡ true) × (is_bit 48 ≡ true) × (is_symbol_byte 48 ≡ true) × (is_digit 48 ≡ true)
unfolding is_hex_digit is_bit is_symbol_byte is_digit
small_bytes = (refl, refl, refl, refl)

is_number : (b n : ℕ) → (b == n) ≡ true → b ≡ n
is_number b n e = grind (arith, common_steps)

mark_lacks : (t : List ℕ) → is_mark t ≡ true → Lacks t
mark_lacks [] e = absurd (cc)
mark_lacks (b ∷ []) e = by_case (b == 35) refl
  where
    by_case : (c : Bool) → (b == 35) ≡ c → Lacks (b ∷ [])
    by_case true c = record { more = 120 ∷ 48 ∷ []; kind = kind.Hexadecimal; whole = rw (c, (small_bytes).0) refl }
    by_case false c =
        let colon : (b == 58) ≡ true = grind (arith, common_steps) in
        record { more = 48 ∷ []; kind = kind.Keyword; whole = rw (colon, (small_bytes).2) refl }
mark_lacks (b ∷ l ∷ []) e = by_case (l == 120) refl
  where
    hash : (b == 35) ≡ true
    hash = grind (arith, common_steps)

    by_case : (c : Bool) → (l == 120) ≡ c → Lacks (b ∷ l ∷ [])
    by_case true c = record { more = 48 ∷ []; kind = kind.Hexadecimal; whole = rw (hash, c, (small_bytes).0) refl }
    by_case false c =
        let letter : (l == 98) ≡ true = grind (arith, common_steps) in
        record { more = 48 ∷ []; kind = kind.Binary; whole = rw (hash, letter, (small_bytes).1) refl }
mark_lacks (b ∷ c ∷ d ∷ bs) e = absurd (cc)

point_digit : (t : List ℕ) → has_point t ≡ true → (before_point (t ++ 48 ∷ []) ≡ before_point t) × (behind_point (t ++ 48 ∷ []) ≡ behind_point t ++ 48 ∷ [])
point_digit [] e = absurd (cc)
point_digit (b ∷ bs) e = (grind (arith, common_steps, point_digit bs), grind (arith, common_steps, point_digit bs))

begun_lacks : (t : List ℕ) → is_begun t ≡ true → Lacks t
begun_lacks t e = by_part (begun_parts t e)
  where
    empty_is : (xs : List ℕ) → is_empty xs ≡ true → xs ≡ []
    empty_is [] z = refl
    empty_is (x ∷ xs) z = absurd (cc)

    by_part : (is_mark t ≡ true) ⊎ ((has_point t ≡ true) × (is_numeral (before_point t) ≡ true) × (is_empty (behind_point t) ≡ true)) → Lacks t
    by_part (inl m) = mark_lacks t m
    by_part (inr p) =
        let parts = point_digit t p.0 in
        record { more = 48 ∷ []; kind = kind.Decimal; whole = rw (parts.0, parts.1, p.1, empty_is (behind_point t) p.2, (small_bytes).3) refl }

word_lacks : (whole : List ℕ) (o : Option Kind) → kind_of whole ≡ o → word_so_far o whole ≡ Unfinished → Lacks whole
word_lacks whole (Some k) is e = record { more = []; kind = k; whole = rw (append_none whole) (kind_of_is whole k is) }
word_lacks whole None is e = choose (is_begun whole) Unfinished (Bad whole) Unfinished e (λ c f. begun_lacks whole c) (λ c f. absurd (cc))

word_runs : (whole : List ℕ) (s : Scan) → word_next whole s ≡ Unfinished → Lacks whole
word_runs whole (Stops r) e = absurd (no (kind_of (front whole r)) e)
  where
    no : (o : Option Kind) → word_of o whole r ≡ Unfinished → ⊥
    no (Some k) f = cc
    no None f = cc
word_runs whole Runs e = word_lacks whole (kind_of whole) refl e
word_runs whole Fails e = absurd (cc)

closed_runs : (k : Kind) (whole : List ℕ) (s : Scan) → closed_next k whole s ≡ Unfinished → s ≡ Runs
closed_runs k whole (Stops r) e = absurd (cc)
closed_runs k whole Runs e = refl
closed_runs k whole Fails e = absurd (cc)

-- there is a byte, and it begins a token that isn't whole
token_lacks : (b : ℕ) (bs : List ℕ) → token_at (b ∷ bs) ≡ Unfinished → Lacks (b ∷ bs)
unfolding token_at
token_lacks b bs e =
    choose (b == 40) _ _ _ e (λ c f. absurd (cc)) (λ c0 e0.
    choose (b == 41) _ _ _ e0 (λ c f. absurd (cc)) (λ c1 e1.
    choose (b == 34) _ _ _ e1 (λ c f.
    let run = runs_body mode.Text bs (closed_runs kind.Text (b ∷ bs) (scan mode.Text bs) f) in
    record { more = missing mode.Text bs; kind = kind.Text; whole = rw (c, run) refl }) (λ c2 e2.
    choose (b == 124) _ _ _ e2 (λ c f.
    let run = runs_body mode.Bars bs (closed_runs kind.Quoted (b ∷ bs) (scan mode.Bars bs) f) in
    record { more = missing mode.Bars bs; kind = kind.Quoted; whole = rw (c, run) refl }) (λ c3 e3.
    choose (is_word_byte b) _ _ _ e3 (λ c f. word_runs (b ∷ bs) (scan mode.Word bs) f) (λ c4 f. absurd (cc))))))

-- ---- what closes the lists

abbrev closers : ℕ → List Token
closers zero = []
closers (suc n) = Close ∷ closers n

abbrev closers_text : ℕ → List ℕ
closers_text zero = []
closers_text (suc n) = 41 ∷ closers_text n

close_one : (rest : List ℕ) → Starts (41 ∷ rest) Close rest
close_one rest = record { space = []; text = 41 ∷ []; whole = refl; only_space = refl; spelled = refl; ended = refl }

lexes_closers : (n : ℕ) → Lexes (closers_text n) (closers n) []
lexes_closers zero = refl
lexes_closers (suc n) = (closers_text n, close_one (closers_text n), lexes_closers n)

closes_closers : (n : ℕ) → closes (suc n) (closers (suc n)) ≡ true
closes_closers zero = refl
closes_closers (suc n) =
    let one : suc (suc n) - 1 ≡ suc n = omega arith in
    let some : nat_le 1 (suc (suc n)) ≡ true = grind (arith, common_steps) in
    let more : (suc n == 0) ≡ false = grind (arith, common_steps) in
    rw (some, one, more) (closes_closers n)

-- an empty list, and then all that are open are closed
closes_all : (d : ℕ) → closes d (Open ∷ closers (suc d)) ≡ true
closes_all d =
    let one : d + 1 ≡ suc d = omega arith in
    let more : (suc d == 0) ≡ false = grind (arith, common_steps) in
    rw (one, more) (closes_closers d)

closes_join : (d : ℕ) (ts us : List Token) → opens d ts ≡ true → closes (depth d ts) us ≡ true → closes d (ts ++ us) ≡ true
closes_join d [] us e f = f
closes_join d (t ∷ ts) us e f = grind (arith, common_steps, closes_join (after d t) ts us)

lexes_join : (bytes : List ℕ) (ts us : List Token) (mid rest : List ℕ) → Lexes bytes ts mid → Lexes mid us rest → Lexes bytes (ts ++ us) rest
lexes_join bytes [] us mid rest e f = subst (λ x. Lexes x us rest) e f
lexes_join bytes (t ∷ ts) us mid rest e f = (e.0, e.1, lexes_join e.0 ts us mid rest e.2 f)

pub lexes_longer : (bytes more : List ℕ) (ts : List Token) (rest : List ℕ) → Lexes bytes ts rest → Lexes (bytes ++ more) ts (rest ++ more)
lexes_longer bytes more [] rest e = ap (λ x. x ++ more) e
lexes_longer bytes more (t ∷ ts) rest e = (e.0 ++ more, starts_more more e.1, lexes_longer e.0 more ts rest e.2)

-- A beginning goes on by what lexes behind it and closes.
goes_on_by : (bytes rest more : List ℕ) (ts us : List Token) (r : List ℕ) → Begins bytes ts rest → Lexes (rest ++ more) us r → closes (depth 0 ts) us ≡ true → GoesOn bytes
goes_on_by bytes rest more ts us r b e f = (
  more,
  (ts ++ us, r, record { lexed = lexes_join (bytes ++ more) ts us (rest ++ more) r (lexes_longer bytes more ts rest b.lexed) e; one = closes_join 0 ts us b.open_yet f }),
)

ended_open : (k : Kind) (text tail : List ℕ) → is_ended (Atom k text) (40 ∷ tail) ≡ true
unfolding is_word_byte is_symbol_byte
ended_open kind.Numeral text tail = refl
ended_open kind.Decimal text tail = refl
ended_open kind.Hexadecimal text tail = refl
ended_open kind.Binary text tail = refl
ended_open kind.Symbol text tail = refl
ended_open kind.Keyword text tail = refl
ended_open kind.Quoted text tail = refl
ended_open kind.Text text tail = refl

open_one : (bytes : List ℕ) → Starts (40 ∷ bytes) Open bytes
open_one bytes = record { space = []; text = 40 ∷ []; whole = refl; only_space = refl; spelled = refl; ended = refl }

-- behind an atom that is whole now
closes_behind : (k : Kind) (text bytes : List ℕ) (d : ℕ) → Starts bytes (Atom k text) (40 ∷ closers_text (suc d))
    → (us : List Token) × (r : List ℕ) × Lexes bytes us r × (closes d us ≡ true)
closes_behind k text bytes zero s = (Atom k text ∷ [], _, (_, s, refl), refl)
closes_behind k text bytes (suc d) s =
    let n = suc d in
    let more : (suc d == 0) ≡ false = grind (arith, common_steps) in (
      Atom k text ∷ Open ∷ closers (suc n),
      [],
      (_, s, (_, open_one (closers_text (suc n)), lexes_closers (suc n))),
      rw more (closes_all n),
    )

pub space_never_fails : (bytes : List ℕ) → ((scan mode.Space bytes ≡ Fails → ⊥) × (scan mode.Comment bytes ≡ Fails → ⊥))
unfolding scan move_of
space_never_fails [] = (λ e. cc, λ e. cc)
space_never_fails (b ∷ bs) = let h = space_never_fails bs in (λ e. grind (arith, common_steps, h.0, h.1), λ e. grind (arith, common_steps, h.0, h.1))

unfinished_by : (bytes : List ℕ) (ts : List Token) (rest : List ℕ) (s : Scan) → Begins bytes ts rest → scan mode.Space rest ≡ s → behind_space s ≡ Unfinished → GoesOn bytes
unfinished_by bytes ts rest Runs b run e =
    let tail = closers_text (suc (depth 0 ts)) in
    let lacks = missing mode.Space rest in
    goes_on_by bytes rest (lacks ++ 40 ∷ tail) ts (Open ∷ closers (suc (depth 0 ts))) [] b (
      tail,
      record { space = rest ++ lacks; text = 40 ∷ []; whole = sym (append_assoc rest lacks (40 ∷ tail)); only_space = runs_body mode.Space rest run; spelled = refl; ended = refl },
      lexes_closers (suc (depth 0 ts)),
    ) (closes_all (depth 0 ts))
unfinished_by bytes ts rest (Stops []) b run e = absurd (let h = scan_ended mode.Space rest [] run in cc)
unfinished_by bytes ts rest (Stops (c ∷ cs)) b run e =
    let d = depth 0 ts in
    let tail = closers_text (suc d) in
    let lacks = token_lacks c cs e in
    let space = taken mode.Space rest in
    let text = c ∷ cs ++ lacks.more in
    let whole : rest ++ (lacks.more ++ 40 ∷ tail) ≡ space ++ (text ++ 40 ∷ tail) =
    ap (λ x. x ++ (lacks.more ++ 40 ∷ tail)) (scan_whole mode.Space rest (c ∷ cs) run)
    ∙ append_assoc space (c ∷ cs) (lacks.more ++ 40 ∷ tail) ∙ ap (λ x. space ++ x) (sym (append_assoc (c ∷ cs) lacks.more (40 ∷ tail))) in
    let starts : Starts (rest ++ (lacks.more ++ 40 ∷ tail)) (Atom lacks.kind text) (40 ∷ tail) =
    record { space = space; text = text; whole = whole; only_space = scan_body mode.Space rest (c ∷ cs) run; spelled = (refl, lacks.whole); ended = ended_open lacks.kind text tail } in
    let behind = closes_behind lacks.kind text (rest ++ (lacks.more ++ 40 ∷ tail)) d starts in
    goes_on_by bytes rest (lacks.more ++ 40 ∷ tail) ts behind.0 behind.1 b behind.2 behind.3
unfinished_by bytes ts rest Fails b run e = absurd ((space_never_fails rest).0 run)

-- Unfinished bytes are a beginning.
pub unfinished_goes_on : (bytes : List ℕ) (ts : List Token) (rest : List ℕ) → Begins bytes ts rest → next rest ≡ Unfinished → GoesOn bytes
unfolding next
unfinished_goes_on bytes ts rest b e = unfinished_by bytes ts rest (scan mode.Space rest) b refl e

-- ---- what never goes on

next_on : (bytes more : List ℕ) (ts us : List Token) (r s : List ℕ) → IsFirst (bytes ++ more) ts r → Begins bytes us s → Fits 0 ts us (s ++ more)
next_on bytes more ts us r s first b = begin_goes_on 0 (bytes ++ more) ts us r (s ++ more) first.lexed (lexes_longer bytes more us s b.lexed) first.one b.open_yet

-- Behind a bad token nothing does.
pub bad_goes_nowhere : (at : ℕ) (bytes more : List ℕ) (ts : List Token) (r : List ℕ) → Faults (fault.BadToken at) bytes → IsFirst (bytes ++ more) ts r → ⊥
bad_goes_nowhere at bytes more ts r f first = by_cause ts f.1 f.2 (drop at bytes) (next_on bytes more ts f.1 r f.2 first f.3) f.4
  where
    by_cause : (ts us : List Token) (s bad : List ℕ) → Fits 0 ts us (s ++ more) → IsBad us s bad → ⊥
    by_cause ts us s bad on (inl e) = let x = next_bad_more s more bad e in let y = on.is_next in cc
    by_cause ts us s bad on (inr e) =
        let x = next_more s more Close e.1.0 e.1.2 in
        let y = on.is_next in
        let same : on.token ≡ Close = cc in
        let fit = subst (λ t. fits (depth 0 us) t ≡ true) same on.fit in
        let none = subst (λ d. fits d Close ≡ true) e.0 fit in
        cc

pub deep_goes_deep : (at : ℕ) (bytes : List ℕ) → Faults (fault.Deep at) bytes → IsDeep bytes
deep_goes_deep at bytes f = λ more ts r first.
    let on = next_on bytes more ts f.1 r f.2 first f.3 in
    let x = next_more f.2 more Open f.5.0 f.5.2 in
    let y = on.is_next in
    let same : on.token ≡ Open = cc in
    let deep : after (depth 0 f.1) Open ≤ deepest 0 ts = subst (λ t. after (depth 0 f.1) t ≤ deepest 0 ts) same on.deep in
    let four : depth 0 f.1 ≡ 4096 = f.4 in
    omega arith

-- What a fault says of the bytes, whatever follows.
pub fault_means : (e : SexpFault) (bytes : List ℕ) → Faults e bytes → Means e bytes
fault_means (fault.Unfinished at) bytes f =
    (f.0, (λ first. fault_excludes (fault.Unfinished at) bytes first.0 first.1 f first.2, unfinished_goes_on bytes f.1 f.2 f.3 f.4))
fault_means (fault.BadToken at) bytes f = λ on. bad_goes_nowhere at bytes on.0 on.1.0 on.1.1 f on.1.2
fault_means (fault.Deep at) bytes f = deep_goes_deep at bytes f
fault_means fault.Want bytes f = tt

pub cut_fault_means : (e : SexpFault) (bytes : List ℕ) → CutFaults e bytes → Means e bytes
cut_fault_means (fault.Unfinished at) bytes f = fault_means (fault.Unfinished at) bytes f
cut_fault_means (fault.BadToken at) bytes f = fault_means (fault.BadToken at) bytes f
cut_fault_means (fault.Deep at) bytes f = absurd f
cut_fault_means fault.Want bytes f = absurd f

-- ---- the answers of read and cut

pub read_means : {T : Type 0} (r : Result T SexpFault) (bytes : List ℕ) → MatchResult r (λ _. Unit {0}) (λ e. Faults e bytes) → IfErr r (λ e. Means e bytes)
read_means (Ok x) bytes f = tt
read_means (Err e) bytes f = fault_means e bytes f

pub cut_means : {T : Type 0} (r : Result T SexpFault) (bytes : List ℕ) → MatchResult r (λ _. Unit {0}) (λ e. CutFaults e bytes) → IfErr r (λ e. Means e bytes)
cut_means (Ok x) bytes f = tt
cut_means (Err e) bytes f = cut_fault_means e bytes f

begins_unfinished : (e : SexpFault) (bytes : List ℕ) → CutFaults e bytes → IsBeginning bytes → e ≡ fault.Unfinished (length bytes)
begins_unfinished (fault.Unfinished at) bytes f b = ap fault.Unfinished f.0
begins_unfinished (fault.BadToken at) bytes f b = absurd (cut_fault_means (fault.BadToken at) bytes f b.1)
begins_unfinished (fault.Deep at) bytes f b = absurd f
begins_unfinished fault.Want bytes f b = absurd f

-- Unfinished is answered exactly at a proper beginning.
pub cut_beginning : (r : Result ℕ SexpFault) (bytes : List ℕ) → IfOk r (λ n. (n ≤ length bytes) × (tokens : List Token) × IsFirst bytes tokens (drop n bytes))
    → MatchResult r (λ _. Unit {0}) (λ e. CutFaults e bytes) → (r ≡ Err (fault.Unfinished (length bytes))) ↔ IsBeginning bytes
cut_beginning (Ok n) bytes first f = (λ e. absurd (cc), λ b. absurd (b.0 (first.1, drop n bytes, first.2)))
cut_beginning (Err e) bytes first f = (
  λ is. let same : e ≡ fault.Unfinished (length bytes) = cc in (subst (λ x. Means x bytes) same (cut_fault_means e bytes f)).1,
  λ b. ap Err (begins_unfinished e bytes f b),
)
