-- What more bytes change of a token, and what they don't.
use Rattle.std.proofs.Common.{◌≡◌, ◌⊎◌, inl, inr, ℕ, ◌++◌, ◌==◌, ◌&&◌, ◌||◌, Bool, true, false, List, [], ◌∷◌, Option, Some, None, refl, arith, if◌then◌else◌, ap, ◌∙◌, sym, subst, append_assoc}
use Rattle.std.proofs.lemmas.Grind.{common_steps}
use Rattle.std.specs.List.{list_all}
use Rattle.vx_sexp.specs.declared.token.Kind.{Kind}
use Rattle.vx_sexp.specs.declared.token.Kind.TheVariants as kind
use Rattle.vx_sexp.specs.declared.scan.Mode.{Mode}
use Rattle.vx_sexp.specs.declared.scan.Mode.TheVariants as mode
use Rattle.vx_sexp.specs.Characters.{is_digit, is_hex_digit, is_bit, is_symbol_byte, is_word_byte}
use Rattle.vx_sexp.specs.Tokens.{is_numeral, is_decimal, is_symbol, is_keyword, is_led, is_marked, some_all, before_point, behind_point, has_point, is_empty, is_of}
use Rattle.vx_sexp.specs.Scanning.{scan, Scan, Stops, Runs, Fails, Unfinished, Bad, next, token_at, front, is_begun, is_mark, kind_of, word_of, word_next, word_so_far, closed_next, behind_space, move_of}
use Rattle.vx_sexp.proofs.Scans.{taken, scan_whole}
use Rattle.vx_sexp.proofs.Firsts.{front_is, choose, kind_of_is}
use Rattle.vx_sexp.proofs.Backs.{kind_back, is_word_kind}

-- ---- runs

pub scan_stops_more : (m : Mode) (xs r ys : List ℕ) → scan m xs ≡ Stops r → scan m (xs ++ ys) ≡ Stops (r ++ ys)
unfolding scan move_of
scan_stops_more m [] r ys e = absurd (cc)
scan_stops_more mode.Space (b ∷ bs) r ys e = grind (arith, common_steps, scan_stops_more mode.Space bs r ys, scan_stops_more mode.Comment bs r ys)
scan_stops_more mode.Comment (b ∷ bs) r ys e = grind (arith, common_steps, scan_stops_more mode.Space bs r ys, scan_stops_more mode.Comment bs r ys)
scan_stops_more mode.Word (b ∷ bs) r ys e = grind (arith, common_steps, scan_stops_more mode.Word bs r ys)
scan_stops_more mode.Text (b ∷ bs) r ys e = grind (arith, common_steps, scan_stops_more mode.Text bs r ys, scan_stops_more mode.Quote bs r ys)
scan_stops_more mode.Quote (b ∷ bs) r ys e = grind (arith, common_steps, scan_stops_more mode.Text bs r ys)
scan_stops_more mode.Bars (b ∷ bs) r ys e = grind (arith, common_steps, scan_stops_more mode.Bars bs r ys)

pub scan_fails_more : (m : Mode) (xs ys : List ℕ) → scan m xs ≡ Fails → scan m (xs ++ ys) ≡ Fails
unfolding scan move_of
scan_fails_more m [] ys e = absurd (cc)
scan_fails_more mode.Space (b ∷ bs) ys e = grind (arith, common_steps, scan_fails_more mode.Space bs ys, scan_fails_more mode.Comment bs ys)
scan_fails_more mode.Comment (b ∷ bs) ys e = grind (arith, common_steps, scan_fails_more mode.Space bs ys, scan_fails_more mode.Comment bs ys)
scan_fails_more mode.Word (b ∷ bs) ys e = grind (arith, common_steps, scan_fails_more mode.Word bs ys)
scan_fails_more mode.Text (b ∷ bs) ys e = grind (arith, common_steps, scan_fails_more mode.Text bs ys, scan_fails_more mode.Quote bs ys)
scan_fails_more mode.Quote (b ∷ bs) ys e = grind (arith, common_steps, scan_fails_more mode.Text bs ys)
scan_fails_more mode.Bars (b ∷ bs) ys e = grind (arith, common_steps, scan_fails_more mode.Bars bs ys)

word_runs_on : (xs ys : List ℕ) → scan mode.Word xs ≡ Runs → scan mode.Word (xs ++ ys) ≡ scan mode.Word ys
unfolding scan move_of
word_runs_on [] ys e = refl
word_runs_on (b ∷ bs) ys e = grind (arith, common_steps, word_runs_on bs ys)

-- ---- a front of a word

append_none : (xs : List ℕ) → xs ++ [] ≡ xs
append_none [] = refl
append_none (x ∷ xs) = ap (λ l. x ∷ l) (append_none xs)

all_front : (p : ℕ → Bool) (xs ys : List ℕ) → list_all p (xs ++ ys) ≡ true → list_all p xs ≡ true
all_front p [] ys e = refl
all_front p (x ∷ xs) ys e = grind (arith, common_steps, all_front p xs ys)

empty_front : (xs ys : List ℕ) → is_empty (xs ++ ys) ≡ true → is_empty xs ≡ true
empty_front [] ys e = refl
empty_front (x ∷ xs) ys e = e

numeral_front : (b : ℕ) (bs ys : List ℕ) → is_numeral (b ∷ bs ++ ys) ≡ true → is_numeral (b ∷ bs) ≡ true
numeral_front b bs ys e = grind (arith, common_steps, all_front is_digit bs ys, empty_front bs ys)

symbol_front : (b : ℕ) (bs ys : List ℕ) → is_symbol (b ∷ bs ++ ys) ≡ true → is_symbol (b ∷ bs) ≡ true
symbol_front b bs ys e = grind (arith, common_steps, all_front is_symbol_byte bs ys)

pub point_front : (xs ys : List ℕ) → has_point xs ≡ true → (before_point (xs ++ ys) ≡ before_point xs) × (behind_point (xs ++ ys) ≡ behind_point xs ++ ys)
point_front [] ys e = absurd (cc)
point_front (x ∷ xs) ys e = by_case (x == 46) refl (λ g. point_front xs ys g)
  where
    by_case : (c : Bool) → (x == 46) ≡ c → (has_point xs ≡ true → (before_point (xs ++ ys) ≡ before_point xs) × (behind_point (xs ++ ys) ≡ behind_point xs ++ ys)) → ((if x == 46 then [] else (x ∷ before_point (xs ++ ys))) ≡ (if x == 46 then [] else (x ∷ before_point xs)))
        × ((if x == 46 then (xs ++ ys) else behind_point (xs ++ ys)) ≡ (if x == 46 then xs else behind_point xs) ++ ys)
    by_case true c later = (rw c refl, rw c refl)
    by_case false c later = let more = later (rw c at e) in (rw (c, more.0) refl, rw (c, more.1) refl)

no_point_front : (xs ys : List ℕ) → has_point xs ≡ false → before_point (xs ++ ys) ≡ xs ++ before_point ys
no_point_front [] ys e = refl
no_point_front (x ∷ xs) ys e = grind (arith, common_steps, no_point_front xs ys)

-- a token, or a beginning of one
abbrev IsLive : List ℕ → Type 0
IsLive t = ((k : Kind) × (kind_of t ≡ Some k)) ⊎ (is_begun t ≡ true)

mark_begun : (t : List ℕ) → is_mark t ≡ true → IsLive t
unfolding is_begun
mark_begun t e = inr (rw e refl)

point_begun : (t : List ℕ) → has_point t ≡ true → is_numeral (before_point t) ≡ true → is_empty (behind_point t) ≡ true → IsLive t
unfolding is_begun
point_begun t e f g = inr (choose (is_mark t) true false (is_mark t) (grind (arith, common_steps)) (λ m _. rw m refl) (λ m _. rw (m, e, f, g) refl))

kind_live : (k : Kind) (t : List ℕ) → is_word_kind k ≡ true → is_of k t ≡ true → IsLive t
kind_live k t w e = inl (k, kind_back k t w e)

-- by what stands behind the point
point_live : (t ys behind : List ℕ) → has_point t ≡ true → is_numeral (before_point t) ≡ true → behind_point t ≡ behind → some_all is_digit (behind ++ ys) ≡ true → IsLive t
point_live t ys [] e f g h = point_begun t e f (rw g refl)
point_live t ys (c ∷ cs) e f g h =
    let digits : list_all is_digit (c ∷ cs) ≡ true = all_front is_digit (c ∷ cs) ys h in
    kind_live kind.Decimal t refl (rw (f, g) digits)

decimal_front : (b : ℕ) (bs ys : List ℕ) → is_decimal (b ∷ bs ++ ys) ≡ true → IsLive (b ∷ bs)
decimal_front b bs ys e = by_case (has_point (b ∷ bs)) refl
  where
    numeral : is_numeral (before_point (b ∷ bs ++ ys)) ≡ true
    numeral = grind (arith, common_steps)

    digits : some_all is_digit (behind_point (b ∷ bs ++ ys)) ≡ true
    digits = grind (arith, common_steps)

    by_case : (c : Bool) → has_point (b ∷ bs) ≡ c → IsLive (b ∷ bs)
    by_case true c =
        let same = point_front (b ∷ bs) ys c in
        point_live (b ∷ bs) ys (behind_point (b ∷ bs)) c (subst (λ x. is_numeral x ≡ true) same.0 numeral) refl (subst (λ x. some_all is_digit x ≡ true) same.1 digits)
    by_case false c =
        let same = no_point_front (b ∷ bs) ys c in
        kind_live kind.Numeral (b ∷ bs) refl (numeral_front b bs (before_point ys) (subst (λ x. is_numeral x ≡ true) same numeral))

keyword_front : (b : ℕ) (bs ys : List ℕ) → is_led 58 is_symbol_byte (b ∷ bs ++ ys) ≡ true → IsLive (b ∷ bs)
keyword_front b [] ys e =
    let colon : (b == 58) ≡ true = grind (arith, common_steps) in
    mark_begun (b ∷ []) (grind (arith, common_steps))
keyword_front b (c ∷ cs) ys e =
    let all : list_all is_symbol_byte (c ∷ cs ++ ys) ≡ true = grind (arith, common_steps) in
    let front = all_front is_symbol_byte (c ∷ cs) ys all in
    kind_live kind.Keyword (b ∷ c ∷ cs) refl (grind (arith, common_steps, front))

-- # and a letter
marked_front : (k : Kind) (letter b : ℕ) (p : ℕ → Bool) (bs ys : List ℕ) → is_word_kind k ≡ true → (letter == 120) || (letter == 98) ≡ true
    → ((t : List ℕ) → is_of k t ≡ is_marked letter p t) → is_marked letter p (b ∷ bs ++ ys) ≡ true → IsLive (b ∷ bs)
marked_front k letter b p [] ys w l is e =
    let hash : (b == 35) ≡ true = grind (arith, common_steps) in
    mark_begun (b ∷ []) (grind (arith, common_steps))
marked_front k letter b p (c ∷ []) ys w l is e =
    let hash : (b == 35) ≡ true = grind (arith, common_steps) in
    let same : c ≡ letter = grind (arith, common_steps) in
    mark_begun (b ∷ c ∷ []) (rw (hash, same) l)
marked_front k letter b p (c ∷ d ∷ ds) ys w l is e =
    let hash : (b == 35) ≡ true = grind (arith, common_steps) in
    let letter_is : (c == letter) ≡ true = grind (arith, common_steps) in
    let all : list_all p (d ∷ ds ++ ys) ≡ true = grind (arith, common_steps) in
    let front : list_all p (d ∷ ds) ≡ true = all_front p (d ∷ ds) ys all in
    kind_live k (b ∷ c ∷ d ∷ ds) w (is (b ∷ c ∷ d ∷ ds) ∙ rw (hash, letter_is) front)

kind_front : (k : Kind) (b : ℕ) (bs ys : List ℕ) → is_of k (b ∷ bs ++ ys) ≡ true → is_word_kind k ≡ true → IsLive (b ∷ bs)
kind_front kind.Numeral b bs ys e w = kind_live kind.Numeral (b ∷ bs) refl (numeral_front b bs ys e)
kind_front kind.Symbol b bs ys e w = kind_live kind.Symbol (b ∷ bs) refl (symbol_front b bs ys e)
kind_front kind.Decimal b bs ys e w = decimal_front b bs ys e
kind_front kind.Keyword b bs ys e w = keyword_front b bs ys e
kind_front kind.Hexadecimal b bs ys e w = marked_front kind.Hexadecimal 120 b is_hex_digit bs ys refl refl (λ t. refl) e
kind_front kind.Binary b bs ys e w = marked_front kind.Binary 98 b is_bit bs ys refl refl (λ t. refl) e
kind_front kind.Quoted b bs ys e w = absurd (cc)
kind_front kind.Text b bs ys e w = absurd (cc)

word_kind : (b : Bool) (a k : Kind) (o : Option Kind) → is_word_kind a ≡ true → (o ≡ Some k → is_word_kind k ≡ true) → (if b then Some a else o) ≡ Some k → is_word_kind k ≡ true
word_kind true a k o w later e = let same : a ≡ k = cc in rw same at w
word_kind false a k o w later e = later e

pub kind_of_word : (t : List ℕ) (k : Kind) → kind_of t ≡ Some k → is_word_kind k ≡ true
unfolding kind_of
kind_of_word t k e =
    word_kind (is_numeral t) kind.Numeral k _ refl (λ e1.
    word_kind (is_symbol t) kind.Symbol k _ refl (λ e2.
    word_kind (is_decimal t) kind.Decimal k _ refl (λ e3.
    word_kind (is_keyword t) kind.Keyword k _ refl (λ e4.
    word_kind (is_marked 120 is_hex_digit t) kind.Hexadecimal k _ refl (λ e5.
    word_kind (is_marked 98 is_bit t) kind.Binary k None refl (λ e6. absurd (cc)) e5) e4) e3) e2) e1) e

mark_front : (b : ℕ) (bs ys : List ℕ) → is_mark (b ∷ bs ++ ys) ≡ true → IsLive (b ∷ bs)
mark_front b [] [] e = mark_begun (b ∷ []) e
mark_front b [] (c ∷ []) e = let hash : (b == 35) ≡ true = grind (arith, common_steps) in mark_begun (b ∷ []) (rw hash refl)
mark_front b [] (c ∷ d ∷ ys) e = absurd (cc)
mark_front b (c ∷ []) [] e = mark_begun (b ∷ c ∷ []) e
mark_front b (c ∷ []) (d ∷ ys) e = absurd (cc)
mark_front b (c ∷ d ∷ bs) ys e = absurd (cc)

pub begun_parts : (t : List ℕ) → is_begun t ≡ true → (is_mark t ≡ true) ⊎ ((has_point t ≡ true) × (is_numeral (before_point t) ≡ true) × (is_empty (behind_point t) ≡ true))
unfolding is_begun
begun_parts t e = by_cases (is_mark t) (has_point t) (is_numeral (before_point t)) (is_empty (behind_point t)) e
  where
    by_cases : (m h n z : Bool) → m || (h && n && z) ≡ true → (m ≡ true) ⊎ ((h ≡ true) × (n ≡ true) × (z ≡ true))
    by_cases true h n z e = inl refl
    by_cases false true true true e = inr (refl, refl, refl)
    by_cases false true true false e = absurd (cc)
    by_cases false true false z e = absurd (cc)
    by_cases false false n z e = absurd (cc)

point_live_front : (b : ℕ) (bs ys : List ℕ) → is_numeral (before_point (b ∷ bs ++ ys)) ≡ true → is_empty (behind_point (b ∷ bs ++ ys)) ≡ true → IsLive (b ∷ bs)
point_live_front b bs ys n z = by_case (has_point (b ∷ bs)) refl
  where
    by_case : (c : Bool) → has_point (b ∷ bs) ≡ c → IsLive (b ∷ bs)
    by_case true c =
        let same = point_front (b ∷ bs) ys c in
        point_begun (b ∷ bs) c (subst (λ x. is_numeral x ≡ true) same.0 n) (empty_front (behind_point (b ∷ bs)) ys (subst (λ x. is_empty x ≡ true) same.1 z))
    by_case false c =
        let same = no_point_front (b ∷ bs) ys c in
        kind_live kind.Numeral (b ∷ bs) refl (numeral_front b bs (before_point ys) (subst (λ x. is_numeral x ≡ true) same n))

-- Each front of a word is a word, or a word begins so.
pub live_front : (b : ℕ) (bs ys : List ℕ) → IsLive (b ∷ bs ++ ys) → IsLive (b ∷ bs)
live_front b bs ys (inl e) = kind_front e.0 b bs ys (kind_of_is (b ∷ bs ++ ys) e.0 e.1) (kind_of_word (b ∷ bs ++ ys) e.0 e.1)
live_front b bs ys (inr e) = by_part (begun_parts (b ∷ bs ++ ys) e)
  where
    by_part : (is_mark (b ∷ bs ++ ys) ≡ true) ⊎ ((has_point (b ∷ bs ++ ys) ≡ true) × (is_numeral (before_point (b ∷ bs ++ ys)) ≡ true) × (is_empty (behind_point (b ∷ bs ++ ys)) ≡ true)) → IsLive (b ∷ bs)
    by_part (inl m) = mark_front b bs ys m
    by_part (inr p) = point_live_front b bs ys p.1 p.2

-- ---- a bad token stays bad

dead_kind : (o : Option Kind) (t : List ℕ) → (IsLive t → ⊥) → kind_of t ≡ o → o ≡ None
dead_kind (Some k) t dead e = absurd (dead (inl (k, e)))
dead_kind None t dead e = refl

pub dead_bad : (whole : List ℕ) (s : Scan) → ((rest : List ℕ) → s ≡ Stops rest → IsLive (front whole rest) → ⊥) → (s ≡ Runs → IsLive whole → ⊥) → word_next whole s ≡ Bad whole
dead_bad whole (Stops rest) f g = rw (dead_kind (kind_of (front whole rest)) (front whole rest) (f rest refl) refl) refl
dead_bad whole Runs f g = by_case (is_begun whole) refl
  where
    by_case : (c : Bool) → is_begun whole ≡ c → word_so_far (kind_of whole) whole ≡ Bad whole
    by_case true c = absurd (g refl (inr c))
    by_case false c = rw (dead_kind (kind_of whole) whole (g refl) refl, c) refl
dead_bad whole Fails f g = refl

bad_dead : (whole bad : List ℕ) (o : Option Kind) → kind_of whole ≡ o → word_so_far o whole ≡ Bad bad → (bad ≡ whole) × (IsLive whole → ⊥)
bad_dead whole bad (Some k) is e = absurd (cc)
bad_dead whole bad None is e = choose (is_begun whole) Unfinished (Bad whole) (Bad bad) e (λ _ f. absurd (cc)) (λ c f. (cc, no c))
  where
    no : is_begun whole ≡ false → IsLive whole → ⊥
    no c (inl k) = let x = k.1 in cc
    no c (inr b) = cc

bad_word : (whole rest bad : List ℕ) (o : Option Kind) → kind_of (front whole rest) ≡ o → word_of o whole rest ≡ Bad bad → (bad ≡ whole) × (kind_of (front whole rest) ≡ None)
bad_word whole rest bad (Some k) is e = absurd (cc)
bad_word whole rest bad None is e = (cc, is)

bad_closed : (k : Kind) (whole bad : List ℕ) (s : Scan) → closed_next k whole s ≡ Bad bad → (bad ≡ whole) × (s ≡ Fails)
bad_closed k whole bad (Stops r) e = absurd (cc)
bad_closed k whole bad Runs e = absurd (cc)
bad_closed k whole bad Fails e = (cc, refl)

-- ---- the first token

space_bad : (s : Scan) (bad : List ℕ) → behind_space s ≡ Bad bad → (between : List ℕ) × (s ≡ Stops between) × (token_at between ≡ Bad bad)
space_bad (Stops r) bad e = (r, refl, e)
space_bad Runs bad e = absurd (cc)
space_bad Fails bad e = absurd (cc)

-- a word whose run goes on with more bytes
word_longer : (b : ℕ) (bs ys bad : List ℕ) (s : Scan) → scan mode.Word bs ≡ s → word_next (b ∷ bs) s ≡ Bad bad
    → word_next (b ∷ bs ++ ys) (scan mode.Word (bs ++ ys)) ≡ Bad (bad ++ ys)
word_longer b bs ys bad (Stops r) run e =
    let parts = bad_word (b ∷ bs) r bad (kind_of (front (b ∷ bs) r)) refl e in
    let whole : b ∷ bs ≡ (b ∷ taken mode.Word bs) ++ r = ap (λ x. b ∷ x) (scan_whole mode.Word bs r run) in
    let front_one : front (b ∷ bs) r ≡ b ∷ taken mode.Word bs = ap (λ x. front x r) whole ∙ front_is (b ∷ taken mode.Word bs) r in
    let front_two : front (b ∷ bs ++ ys) (r ++ ys) ≡ b ∷ taken mode.Word bs =
    ap (λ x. front (x ++ ys) (r ++ ys)) whole ∙ ap (λ x. front x (r ++ ys)) (append_assoc (b ∷ taken mode.Word bs) r ys) ∙ front_is (b ∷ taken mode.Word bs) (r ++ ys) in
    let none : kind_of (front (b ∷ bs ++ ys) (r ++ ys)) ≡ None = ap kind_of (front_two ∙ sym front_one) ∙ parts.1 in
    ap (word_next (b ∷ bs ++ ys)) (scan_stops_more mode.Word bs r ys run) ∙ ap (λ o. word_of o (b ∷ bs ++ ys) (r ++ ys)) none ∙ ap (λ x. Bad (x ++ ys)) (sym parts.0)
word_longer b bs ys bad Runs run e =
    let parts = bad_dead (b ∷ bs) bad (kind_of (b ∷ bs)) refl e in
    ap (word_next (b ∷ bs ++ ys)) (word_runs_on bs ys run)
    ∙ dead_bad (b ∷ bs ++ ys) (scan mode.Word ys) (λ rest stops live. parts.1 (live_front b bs (taken mode.Word ys) (subst IsLive (front_on rest stops) live)))
    (λ runs live. parts.1 (live_front b bs ys live))
    ∙ ap (λ x. Bad (x ++ ys)) (sym parts.0)
  where
    front_on : (rest : List ℕ) → scan mode.Word ys ≡ Stops rest → front (b ∷ bs ++ ys) rest ≡ (b ∷ bs) ++ taken mode.Word ys
    front_on rest stops =
        ap (λ x. front (b ∷ bs ++ x) rest) (scan_whole mode.Word ys rest stops) ∙ ap (λ x. front x rest) (sym (append_assoc (b ∷ bs) (taken mode.Word ys) rest))
        ∙ front_is (b ∷ bs ++ taken mode.Word ys) rest
word_longer b bs ys bad Fails run e =
    let same : bad ≡ b ∷ bs = cc in
    ap (word_next (b ∷ bs ++ ys)) (scan_fails_more mode.Word bs ys run) ∙ ap (λ x. Bad (x ++ ys)) (sym same)

closed_longer : (k : Kind) (m : Mode) (b : ℕ) (bs ys bad : List ℕ) → closed_next k (b ∷ bs) (scan m bs) ≡ Bad bad
    → closed_next k (b ∷ bs ++ ys) (scan m (bs ++ ys)) ≡ Bad (bad ++ ys)
closed_longer k m b bs ys bad e =
    let parts = bad_closed k (b ∷ bs) bad (scan m bs) e in
    ap (closed_next k (b ∷ bs ++ ys)) (scan_fails_more m bs ys parts.1) ∙ ap (λ x. Bad (x ++ ys)) (sym parts.0)

pub token_bad_more : (xs ys bad : List ℕ) → token_at xs ≡ Bad bad → token_at (xs ++ ys) ≡ Bad (bad ++ ys)
unfolding token_at
token_bad_more [] ys bad e = absurd (cc)
token_bad_more (b ∷ bs) ys bad e =
    choose (b == 40) _ _ _ e (λ c f. absurd (cc)) (λ c0 e0.
    choose (b == 41) _ _ _ e0 (λ c f. absurd (cc)) (λ c1 e1.
    choose (b == 34) _ _ _ e1 (λ c f. rw (c0, c1, c) (closed_longer kind.Text mode.Text b bs ys bad f)) (λ c2 e2.
    choose (b == 124) _ _ _ e2 (λ c f. rw (c0, c1, c2, c) (closed_longer kind.Quoted mode.Bars b bs ys bad f)) (λ c3 e3.
    choose (is_word_byte b) _ _ _ e3 (λ c f. rw (c0, c1, c2, c3, c) (word_longer b bs ys bad (scan mode.Word bs) refl f)) (λ c4 f.
    let same : bad ≡ b ∷ bs = cc in
    rw (c0, c1, c2, c3, c4) (ap (λ x. Bad (x ++ ys)) (sym same)))))))

-- What is no token stays none.
pub next_bad_more : (xs ys bad : List ℕ) → next xs ≡ Bad bad → next (xs ++ ys) ≡ Bad (bad ++ ys)
unfolding next
next_bad_more xs ys bad e =
    let found = space_bad (scan mode.Space xs) bad e in
    ap behind_space (scan_stops_more mode.Space xs found.0 ys found.1) ∙ token_bad_more found.0 ys bad found.2
