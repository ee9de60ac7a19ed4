-- Where reading members stops, no program goes on.
use Rattle.std.proofs.Common.{◌≡◌, inl, inr, ℕ, zero, suc, ◌+◌, ◌≤◌, ◌<◌, List, [], ◌∷◌, ◌++◌, Result, Ok, Err, length, refl, sym, ap, ◌∙◌, append_assoc, arith, Bool, true, false, cond, ltb, length-append, max}
use Rattle.std.proofs.lemmas.List.{append-nil, append_cancel_right, length-map}
use Rattle.std.proofs.lemmas.Bool.{lt-ltb, ltb-true}
use Rattle.vx_ast.specs.Written.{Member, Program}
use Rattle.vx_tokens.specs.declared.token.Word.TheVariants as words
use Rattle.vx_tokens.specs.Tokens.{Token, Kind, word}
use Rattle.vx_grammar.specs.Grammar.{Mark, tokens_of}
use Rattle.vx_grammar.specs.Programs.{ProgramPhrase, program_meant, program_marks, StandsProgram}
use Rattle.vx_grammar.specs.Reading.{Read, Unexpected, Measured, TooDeep}
use Rattle.vx_grammar.specs.StmtReading.{skip_semicolon}
use Rattle.vx_grammar.specs.MemberReading.{MemberStop, stopped, bodiless, measured_twice, Halting, Halt, inside, no_body, second_measure, no_member, too_many, halt_of, begins_member, then_members, members_by, members_within, member_at, limit, max_members}
use Rattle.vx_grammar.specs.Laws.{Within}
use Rattle.vx_grammar.specs.ProgramLaws.{GoesOnWith, BeginsMeasure, NoClauseFits, MeasureSays, MeasuresAreTold, ProgramSays, ProgramsSpelledOnce, NoProgramFits, StopsAtFirst, ReadingStopsAtFirst}
use Rattle.vx_grammar.proofs.Lists.{BeginsClause}
use Rattle.vx_grammar.proofs.Local.{Front, Heads, Alike, alike_same, alike_behind}
use Rattle.vx_grammar.proofs.MemberLocal.{HaltingLocal, member_local, skip_local}
use Rattle.vx_grammar.proofs.MemberReads.{program_read, program_long}
use Rattle.vx_grammar.proofs.ProgramTold.{programs_are_spelled, MeasureTold, measures_told}

-- ---- limits that are high enough

highest : List Mark → ℕ
highest [] = 0
highest (m ∷ ms) = max m.count (highest ms)

within_more : (deep more : ℕ) (ms : List Mark) → deep ≤ more → Within deep ms → Within more ms
within_more deep more [] le h = tt
within_more deep more (m ∷ ms) le h = (omega (arith, h.0, le), within_more deep more ms le h.1)

within_highest : (ms : List Mark) → Within (highest ms) ms
unfolding highest
within_highest [] = tt
within_highest (m ∷ ms) = (omega arith, within_more (highest ms) (max m.count (highest ms)) ms (omega arith) (within_highest ms))

-- a program is read where the limits are high enough, with as many turns as there are tokens, or more
read_high : (w : ProgramPhrase) (deep many most : ℕ) → StandsProgram w → length (tokens_of (program_marks w)) ≤ most → members_by (deep + highest (program_marks w)) (many + length (program_meant w)) most [] (tokens_of (program_marks w)) ≡ Ok (program_meant w)
read_high w deep many most st le =
    let ms = program_marks w in
    let h = within_more (highest ms) (deep + highest ms) ms (omega arith) (within_highest ms) in
    let long = program_long w in
    let n = length-map ms (λ m. m.token) in
    ap (λ l. members_by (deep + highest ms) (many + length (program_meant w)) most [] l) (sym (append-nil (tokens_of ms)))
    ∙ program_read (deep + highest ms) (many + length (program_meant w)) w [] most h st (omega arith) (omega (arith, long, n, le))

ok_of : Program → Result Program Halt
ok_of p = Ok p

ok_value : (p q : Program) → ok_of p ≡ ok_of q → p ≡ q
unfolding ok_of
ok_value p q h = cc

pub programs_spelled_once : ProgramsSpelledOnce
unfolding ok_of
programs_spelled_once ts p q a b =
    let i = highest (program_marks a.phrase) in
    let j = highest (program_marks b.phrase) in
    let n = length (program_meant a.phrase) in
    let m = length (program_meant b.phrase) in
    let x : members_by (j + i) (m + n) (length ts) [] ts ≡ Ok p = rw (← a.tokens, ← a.means) (read_high a.phrase j m (length (tokens_of (program_marks a.phrase))) a.stands (omega arith)) in
    let y : members_by (i + j) (n + m) (length ts) [] ts ≡ Ok q = rw (← b.tokens, ← b.means) (read_high b.phrase i n (length (tokens_of (program_marks b.phrase))) b.stands (omega arith)) in
    let k : j + i ≡ i + j = omega arith in
    let l : m + n ≡ n + m = omega arith in
    ok_value p q (sym x ∙ ap (λ r. members_by r (m + n) (length ts) [] ts) k ∙ ap (λ r. members_by (i + j) r (length ts) [] ts) l ∙ y)

-- ---- what is answered is answered again, with higher limits and other tokens behind

pub record HaltFront (b : Bool) (x y : ℕ) (before : List Member) (ts rest : List Token) (answer : List Token → Result Program Halt) : Type 0 where
  pub front : List Token
  pub is : ts ≡ front ++ rest
  pub repeats : (next : List Token) → Heads b rest next → (most : ℕ) → length (front ++ next) ≤ most → members_by (limit + x) (max_members + y) most before (front ++ next) ≡ answer next

abbrev pub HaltLocal : (x y : ℕ) → List Member → List Token → Result Program Halt → Type 0
HaltLocal x y before ts (Err (inside (Unexpected rest))) = HaltFront true x y before ts rest (λ l. Err (inside (Unexpected l)))
HaltLocal x y before ts (Err (inside (Measured rest))) = HaltFront false x y before ts rest (λ l. Err (inside (Measured l)))
HaltLocal x y before ts (Err (no_body rest)) = HaltFront false x y before ts rest (λ l. Err (no_body l))
HaltLocal x y before ts (Err (second_measure rest)) = HaltFront false x y before ts rest (λ l. Err (second_measure l))
HaltLocal x y before ts (Err (no_member rest)) = HaltFront true x y before ts rest (λ l. Err (no_member l))
HaltLocal x y before ts (Err (inside (TooDeep rest))) = Unit {0}
HaltLocal x y before ts (Err (too_many rest)) = Unit {0}
HaltLocal x y before ts (Ok p) = Unit {0}

halt_less : (x y : ℕ) (before : List Member) (ts rest : List Token) (answer : List Token → Result Program Halt) → HaltFront true x y before ts rest answer → HaltFront false x y before ts rest answer
halt_less x y before ts rest answer f = record { front = f.front; is = f.is; repeats = λ next same. f.repeats next (alike_same rest next same) }

no_member_local : (x y : ℕ) (before : List Member) (t : Token) (ts : List Token) → begins_member t.kind ≡ false → HaltLocal x y before (t ∷ ts) (Err (no_member (t ∷ ts)))
unfolding members_by
no_member_local x y before t ts e = record { front = []; is = refl; repeats = again }
  where
    again : (next : List Token) → Alike (t ∷ ts) next → (most : ℕ) → length next ≤ most → members_by (limit + x) (max_members + y) most before next ≡ Err (no_member next)
    again [] same most le = absurd same
    again (s ∷ next) same zero le = refl
    again (s ∷ next) (inl same) (suc most) le = rw (← same, e) refl
    again (s ∷ next) (inr (d, inl c)) (suc most) le = rw c refl
    again (s ∷ next) (inr (d, inr c)) (suc most) le = rw c refl

-- inside a member
inside_local : (b : Bool) (x y : ℕ) (before : List Member) (t : Token) (ts rest : List Token) (stop : List Token → MemberStop) → begins_member t.kind ≡ true → length before < max_members → Front b ts rest (λ l. Err (stop l)) (member_at (limit + x) t) → HaltFront b x y before (t ∷ ts) rest (λ l. Err (halt_of (stop l)))
unfolding members_by
inside_local b x y before t ts rest stop e few f = record { front = t ∷ f.front; is = ap (λ l. t ∷ l) f.is; repeats = again }
  where
    again : (next : List Token) → Heads b rest next → (most : ℕ) → length (t ∷ (f.front ++ next)) ≤ most → members_by (limit + x) (max_members + y) most before (t ∷ (f.front ++ next)) ≡ Err (halt_of (stop next))
    again next same zero le = absurd (omega (arith, le))
    again next same (suc most) le =
        let lt : ltb (length before) (max_members + y) ≡ true = lt-ltb _ _ (omega (arith, few)) in
        rw (e, lt, f.repeats next same) refl

skipped : (m : Member) (a b : List Token) → (let u : Read Member = Ok (m, a) in u) ≡ Ok (m, b) → a ≡ b
skipped m a b h = let pair : (let u : Member × List Token = (m, a) in u) ≡ (m, b) = cc in ap (λ (u : Member × List Token). u.1) pair

-- behind a member that was read, and its semicolon
behind_local : (b : Bool) (x y : ℕ) (before : List Member) (t : Token) (ts : List Token) (m : Member) (mid rest : List Token) (answer : List Token → Result Program Halt) → begins_member t.kind ≡ true → length before < max_members
    → Front true ts mid (λ l. Ok (m, l)) (member_at (limit + x) t) → Front {X = Read Member} true mid (skip_semicolon mid) (λ l. Ok (m, l)) (λ l. Ok (m, skip_semicolon l)) → HaltFront b x y (before ++ m ∷ []) (skip_semicolon mid) rest answer → HaltFront b x y before (t ∷ ts) rest answer
unfolding members_by
behind_local b x y before t ts m mid rest answer e few f s g = record {
  front = t ∷ (f.front ++ (s.front ++ g.front));
  is = ap (λ l. t ∷ l) whole;
  repeats = again;
}
  where
    whole : ts ≡ (f.front ++ (s.front ++ g.front)) ++ rest
    whole = f.is ∙ ap (λ l. f.front ++ l) (s.is ∙ ap (λ l. s.front ++ l) g.is ∙ sym (append_assoc s.front g.front rest)) ∙ sym (append_assoc f.front (s.front ++ g.front) rest)

    again : (next : List Token) → Heads b rest next → (most : ℕ) → length (t ∷ ((f.front ++ (s.front ++ g.front)) ++ next)) ≤ most → members_by (limit + x) (max_members + y) most before (t ∷ ((f.front ++ (s.front ++ g.front)) ++ next)) ≡ answer next
    again next same zero le = absurd (omega (arith, le))
    again next same (suc most) le =
        let l3 = g.front ++ next in
        let l2 = s.front ++ l3 in
        let list : (f.front ++ (s.front ++ g.front)) ++ next ≡ f.front ++ l2 = append_assoc f.front (s.front ++ g.front) next ∙ ap (λ l. f.front ++ l) (append_assoc s.front g.front next) in
        let heads : Alike (skip_semicolon mid) l3 = alike_behind b g.front (skip_semicolon mid) rest next g.is same in
        let heads2 : Alike mid l2 = alike_behind true s.front mid (skip_semicolon mid) l3 s.is heads in
        let lt : ltb (length before) (max_members + y) ≡ true = lt-ltb _ _ (omega (arith, few)) in
        let n1 = length-append f.front l2 in
        let n2 = length-append s.front l3 in
        let n3 = ap length list in
        let short : length l3 ≤ most = omega (arith, n1, n2, n3, le) in
        let read : member_at (limit + x) t (f.front ++ l2) ≡ Ok (m, l2) = f.repeats l2 heads2 in
        let after : skip_semicolon l2 ≡ l3 = skipped m (skip_semicolon l2) l3 (s.repeats l3 heads) in
        rw (list, e, lt, read) (ap (λ l. members_by (limit + x) (max_members + y) most (before ++ m ∷ []) l) after ∙ g.repeats next same most short)

on_local : (x y : ℕ) (before : List Member) (t : Token) (ts : List Token) (m : Member) (mid : List Token) (r : Result Program Halt) → begins_member t.kind ≡ true → length before < max_members
    → Front true ts mid (λ l. Ok (m, l)) (member_at (limit + x) t) → HaltLocal x y (before ++ m ∷ []) (skip_semicolon mid) r → HaltLocal x y before (t ∷ ts) r
on_local x y before t ts m mid (Err (inside (Unexpected rest))) e few f g = behind_local true x y before t ts m mid rest _ e few f (skip_local m mid) g
on_local x y before t ts m mid (Err (inside (Measured rest))) e few f g = behind_local false x y before t ts m mid rest _ e few f (skip_local m mid) g
on_local x y before t ts m mid (Err (no_body rest)) e few f g = behind_local false x y before t ts m mid rest _ e few f (skip_local m mid) g
on_local x y before t ts m mid (Err (second_measure rest)) e few f g = behind_local false x y before t ts m mid rest _ e few f (skip_local m mid) g
on_local x y before t ts m mid (Err (no_member rest)) e few f g = behind_local true x y before t ts m mid rest _ e few f (skip_local m mid) g
on_local x y before t ts m mid (Err (inside (TooDeep rest))) e few f g = tt
on_local x y before t ts m mid (Err (too_many rest)) e few f g = tt
on_local x y before t ts m mid (Ok p) e few f g = tt

method_by_local : (x y : ℕ) (before : List Member) (t : Token) (ts : List Token) (r : Halting Member) (go : Member → List Token → Result Program Halt) → begins_member t.kind ≡ true → length before < max_members → HaltingLocal ts r (member_at (limit + x) t)
    → ((m : Member) (mid : List Token) → length mid ≤ length ts → HaltLocal x y (before ++ m ∷ []) (skip_semicolon mid) (go m mid)) → HaltLocal x y before (t ∷ ts) (then_members r go)
method_by_local x y before t ts (Ok (m, mid)) go e few f h =
    let n = length-append f.front mid in
    let k = ap length f.is in
    on_local x y before t ts m mid (go m mid) e few f (h m mid (omega (arith, n, k)))
method_by_local x y before t ts (Err (stopped (Unexpected rest))) go e few f h = inside_local true x y before t ts rest (λ l. stopped (Unexpected l)) e few f
method_by_local x y before t ts (Err (stopped (Measured rest))) go e few f h = inside_local false x y before t ts rest (λ l. stopped (Measured l)) e few f
method_by_local x y before t ts (Err (bodiless rest)) go e few f h = inside_local false x y before t ts rest (λ l. bodiless l) e few f
method_by_local x y before t ts (Err (measured_twice rest)) go e few f h = inside_local false x y before t ts rest (λ l. measured_twice l) e few f
method_by_local x y before t ts (Err (stopped (TooDeep rest))) go e few f h = tt

skip_short : (ts : List Token) → length (skip_semicolon ts) ≤ length ts
skip_short ts = let s : Front true ts (skip_semicolon ts) (λ l. Ok (ts, l)) (λ l. Ok (ts, skip_semicolon l)) = skip_local ts ts in let n = length-append s.front (skip_semicolon ts) in let k = ap length s.is in omega (arith, n, k)

few_local : (x y : ℕ) (before : List Member) (t : Token) (ts : List Token) (b : Bool) (go : Member → List Token → Result Program Halt) → ltb (length before) max_members ≡ b → begins_member t.kind ≡ true
    → ((m : Member) (us : List Token) → length us ≤ length ts → HaltLocal x y (before ++ m ∷ []) us (go m us)) → HaltLocal x y before (t ∷ ts) (cond b (then_members (member_at limit t ts) (λ m after. go m (skip_semicolon after))) (Err (too_many (t ∷ ts))))
few_local x y before t ts true go lt e h =
    method_by_local x y before t ts (member_at limit t ts) (λ m after. go m (skip_semicolon after)) e (ltb-true _ _ lt) (member_local x t ts)
    (λ m mid le. let s = skip_short mid in h m (skip_semicolon mid) (omega (arith, s, le)))
few_local x y before t ts false go lt e h = tt

turn_local : (x y : ℕ) (before : List Member) (t : Token) (ts : List Token) (b : Bool) (go : Member → List Token → Result Program Halt) → begins_member t.kind ≡ b
    → ((m : Member) (us : List Token) → length us ≤ length ts → HaltLocal x y (before ++ m ∷ []) us (go m us)) → HaltLocal x y before (t ∷ ts) (cond b (cond (ltb (length before) max_members) (then_members (member_at limit t ts) (λ m after. go m (skip_semicolon after))) (Err (too_many (t ∷ ts)))) (Err (no_member (t ∷ ts))))
turn_local x y before t ts true go e h = few_local x y before t ts (ltb (length before) max_members) go refl e h
turn_local x y before t ts false go e h = no_member_local x y before t ts e

members_local : (x y most : ℕ) (before : List Member) (ts : List Token) → length ts ≤ most → HaltLocal x y before ts (members_by limit max_members most before ts)
unfolding members_by
members_local x y zero before [] le = tt
members_local x y (suc most) before [] le = tt
members_local x y zero before (t ∷ ts) le = absurd (omega (arith, le))
members_local x y (suc most) before (t ∷ ts) le = turn_local x y before t ts (begins_member t.kind) (λ m us. members_by limit max_members most (before ++ m ∷ []) us) refl (λ m us short. members_local x y most (before ++ m ∷ []) us (omega (arith, short, le)))

-- ---- no program goes on

-- where a program goes on, it is read, and so reading does not stop there
goes_not_on : (b : Bool) (x y : ℕ) (front rest next : List Token) (ts : List Token) (stop : List Token → Halt) → HaltFront b x y [] ts rest (λ l. Err (stop l)) → ts ≡ front ++ rest → Heads b rest next → (w : ProgramPhrase) → StandsProgram w → tokens_of (program_marks w) ≡ front ++ next → x ≡ highest (program_marks w) → y ≡ length (program_meant w) → ⊥
goes_not_on b x y front rest next ts stop f is same w st tokens ex ey =
    let fronts : f.front ≡ front = append_cancel_right f.front front rest (sym f.is ∙ is) in
    let read : members_by (limit + highest (program_marks w)) (max_members + length (program_meant w)) (length (tokens_of (program_marks w))) [] (tokens_of (program_marks w)) ≡ Ok (program_meant w) = read_high w limit max_members (length (tokens_of (program_marks w))) st (omega arith) in
    let all : tokens_of (program_marks w) ≡ f.front ++ next = tokens ∙ ap (λ l. l ++ next) (sym fronts) in
    let again : members_by (limit + x) (max_members + y) (length (f.front ++ next)) [] (f.front ++ next) ≡ Err (stop next) = f.repeats next same (length (f.front ++ next)) (omega arith) in
    let there : members_by (limit + x) (max_members + y) (length (f.front ++ next)) [] (f.front ++ next) ≡ Ok (program_meant w) =
    ap (λ l. members_by (limit + x) (max_members + y) (length l) [] l) (sym all) ∙ ap (λ n. members_by (limit + n) (max_members + y) (length (tokens_of (program_marks w))) [] (tokens_of (program_marks w))) ex
    ∙ ap (λ n. members_by (limit + highest (program_marks w)) (max_members + n) (length (tokens_of (program_marks w))) [] (tokens_of (program_marks w))) ey ∙ read in
    not_both (stop next) (program_meant w) (sym again ∙ there)
  where
    not_both : (h : Halt) (p : Program) → (let e : Result Program Halt = Err h in e) ≡ Ok p → ⊥
    not_both h p e = absurd cc

none_fits : (front rest ts : List Token) (stop : List Token → Halt) → ((x y : ℕ) → HaltFront false x y [] ts rest (λ l. Err (stop l))) → ts ≡ front ++ rest → NoProgramFits front rest
none_fits front [] ts stop f is = λ p s.
    let w = s.phrase in
    goes_not_on false (highest (program_marks w)) (length (program_meant w)) front [] [] ts stop (f (highest (program_marks w)) (length (program_meant w))) is tt w s.stands (s.tokens ∙ sym (append-nil front)) refl refl
none_fits front (t ∷ rest) ts stop f is = λ p more s.
    let w = s.phrase in
    goes_not_on false (highest (program_marks w)) (length (program_meant w)) front (t ∷ rest) (t ∷ more) ts stop (f (highest (program_marks w)) (length (program_meant w))) is refl w s.stands s.tokens refl refl

stops : (ts : List Token) (r : Result Program Halt) → ((x y : ℕ) → HaltLocal x y [] ts r) → ProgramSays ts r → StopsAtFirst ts r
stops ts (Err (inside (Unexpected rest))) f (front, fits) = record { front = front; fits = fits; none = none_fits (tokens_of front) rest ts (λ l. inside (Unexpected l)) (λ x y. halt_less x y [] ts rest _ (f x y)) fits.tokens }
stops ts (Err (inside (Measured rest))) f (front, fits) = record { front = front; fits = fits; none = none_fits (tokens_of front) rest ts (λ l. inside (Measured l)) f fits.tokens }
stops ts (Err (no_body rest)) f ((front, fits), due) = record { front = front; fits = fits; none = none_fits (tokens_of front) rest ts (λ l. no_body l) f fits.tokens }
stops ts (Err (second_measure rest)) f ((front, fits), due) = record { front = front; fits = fits; none = none_fits (tokens_of front) rest ts (λ l. second_measure l) f fits.tokens }
stops ts (Err (no_member rest)) f (front, fits) = record { front = front; fits = fits; none = none_fits (tokens_of front) rest ts (λ l. no_member l) (λ x y. halt_less x y [] ts rest _ (f x y)) fits.tokens }
stops ts (Err (inside (TooDeep rest))) f h = tt
stops ts (Err (too_many rest)) f h = tt
stops ts (Ok p) f h = tt

pub reading_stops_at_first : ReadingStopsAtFirst
unfolding members_within
reading_stops_at_first ts = stops ts (members_by limit max_members (length ts) [] ts) (λ x y. members_local x y (length ts) [] ts (omega arith)) (programs_are_spelled ts)

-- ---- a measure that does not fit

none_goes_on : (front rest ts : List Token) (stop : List Token → Halt) (k : Kind) → ((x y : ℕ) → HaltFront true x y [] ts rest (λ l. Err (stop l))) → ts ≡ front ++ rest → BeginsMeasure rest → BeginsClause k → GoesOnWith front k → ⊥
none_goes_on front [] ts stop k f is d c g = d
none_goes_on front (t ∷ rest) ts stop k f is d c g =
    let w = g.spelled.phrase in
    let u : Token = record { kind = k; place = g.place } in
    goes_not_on true (highest (program_marks w)) (length (program_meant w)) front (t ∷ rest) (u ∷ g.more) ts stop (f (highest (program_marks w)) (length (program_meant w))) is (inr (d, c)) w g.spelled.stands g.spelled.tokens refl refl

none_fits_clause : (rest ts : List Token) (stop : List Token → Halt) → ((x y : ℕ) → HaltFront true x y [] ts rest (λ l. Err (stop l))) → NoClauseFits ts rest
none_fits_clause rest ts stop f front is d (inl g) = none_goes_on front rest ts stop (word words.Requires) f is d (inl refl) g
none_fits_clause rest ts stop f front is d (inr g) = none_goes_on front rest ts stop (word words.Invariant) f is d (inr refl) g

measure_says : (ts : List Token) (r : Result Program Halt) → ((x y : ℕ) → HaltLocal x y [] ts r) → MeasureTold ts r → MeasureSays ts r
measure_says ts (Err (inside (Measured rest))) f h = h
measure_says ts (Err (inside (Unexpected rest))) f h = none_fits_clause rest ts (λ l. inside (Unexpected l)) f
measure_says ts (Err (no_member rest)) f h = none_fits_clause rest ts (λ l. no_member l) f
measure_says ts (Err (second_measure rest)) f h = h
measure_says ts (Err (no_body rest)) f h = h
measure_says ts (Err (inside (TooDeep rest))) f h = tt
measure_says ts (Err (too_many rest)) f h = tt
measure_says ts (Ok p) f h = tt

pub measures_are_told : MeasuresAreTold
unfolding members_within
measures_are_told ts = measure_says ts (members_by limit max_members (length ts) [] ts) (λ x y. members_local x y (length ts) [] ts (omega arith)) (measures_told ts)
