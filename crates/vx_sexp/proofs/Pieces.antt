-- One step of a reading.
use Rattle.std.proofs.Common.{◌≡◌, inl, inr, ℕ, zero, suc, ◌≤◌, ◌<◌, ◌+◌, ◌-◌, ◌++◌, ◌==◌, length, length-append, length-drop, drop, take, get_or, Bool, true, false, List, [], ◌∷◌, Option, Some, None, refl, arith, ap, ◌∙◌, sym, subst, append_assoc}
use Rattle.std.proofs.lemmas.Grind.{common_steps}
use Rattle.std.proofs.lemmas.List.{drop-append-le, take-append-le}
use Rattle.vx_sexp.specs.declared.token.Kind.{Kind}
use Rattle.vx_sexp.specs.declared.token.Kind.TheVariants as kind
use Rattle.vx_sexp.specs.declared.token.Token.{Token}
use Rattle.vx_sexp.specs.declared.token.Token.TheVariants.{Open, Close, Atom}
use Rattle.vx_sexp.specs.declared.scan.Mode.{Mode}
use Rattle.vx_sexp.specs.declared.scan.Mode.TheVariants as mode
use Rattle.vx_sexp.specs.declared.reader.SexpFault.TheVariants as fault
use Rattle.vx_sexp.specs.declared.reading.Reading.{Reading}
use Rattle.std.specs.List.{list_all}
use Rattle.vx_sexp.specs.Characters.{is_digit, is_hex_digit, is_bit, is_symbol_byte}
use Rattle.vx_sexp.specs.Tokens.{begins, is_of, is_numeral, is_decimal, is_symbol, is_led, is_marked, some_all, before_point, behind_point, has_point}
use Rattle.vx_sexp.specs.Scanning.{scan, Scan, Stops, Runs, Fails, Found, Unfinished, Bad, next, token_at, front, kind_of, word_of, word_so_far, closed_next}
use Rattle.vx_sexp.specs.First.{after, fits, Faults}
use Rattle.vx_sexp.specs.Views.{between, family}
use Rattle.vx_sexp.specs.Pieces.{found_by, IsKnown, SoFar, Reached, fresh, Meets, Before, StopsAt, RunsToEnd, EndsAt, IsFaulty, lives, waits}
use Rattle.vx_sexp.proofs.Backs.{kind_back, is_word_kind}
use Rattle.vx_sexp.proofs.Scans.{scan_ended, ended}
use Rattle.vx_sexp.proofs.Firsts.{kind_of_is, begins_none, begins_on, begins_ends, deepest_more, depth_more}
use Rattle.vx_sexp.proofs.Longer.{scan_stops_more, point_front}
use Rattle.vx_sexp.proofs.Goes.{lexes_longer, space_never_fails}

pub append_none : (xs : List ℕ) → xs ++ [] ≡ xs
append_none [] = refl
append_none (x ∷ xs) = ap (λ l. x ∷ l) (append_none xs)

pub reached_none : (bytes : List ℕ) → Reached (fresh 0 0) bytes
unfolding next
reached_none bytes = record {
  within = omega arith;
  begun = omega arith;
  tokens = [];
  left = bytes;
  so_far = record { begins = begins_none bytes; deep = refl; low = omega arith; shallow = omega arith };
  ahead = λ more. refl;
  known = tt;
}

-- ---- behind a token

pub found_on : (r : Reading) (bytes : List ℕ) (t : Token) (end n : ℕ) → Meets r bytes t end → fits r.depth t ≡ true → n ≡ after r.depth t → (n ≡ 0 → ⊥) → n ≤ 4096 → Reached (fresh end n) bytes
unfolding next
found_on r bytes t end n m fit same some small =
    let s = m.so_far in record {
      within = m.within;
      begun = omega arith;
      tokens = m.tokens ++ t ∷ [];
      left = drop end bytes;
      so_far = record {
        begins = begins_on r.depth t n s.begins s.deep m.found fit same some;
        deep = depth_more 0 m.tokens t ∙ ap (λ x. after x t) s.deep ∙ sym same;
        low = small;
        shallow = deepest_more 0 m.tokens t s.shallow (rw s.deep (subst (λ x. x ≤ 4096) same small));
      };
      ahead = λ more. refl;
      known = tt;
    }

pub found_ends : (r : Reading) (bytes : List ℕ) (t : Token) (end : ℕ) → Meets r bytes t end → fits r.depth t ≡ true → after r.depth t ≡ 0 → EndsAt end bytes
found_ends r bytes t end m fit none =
    let s = m.so_far in
    let small : after r.depth t ≤ 4096 = omega arith in (
      m.within,
      m.tokens ++ t ∷ [],
      begins_ends r.depth t (after r.depth t) s.begins s.deep m.found fit refl none,
      deepest_more 0 m.tokens t s.shallow (rw s.deep small),
    )

pub too_many : (r : Reading) (bytes : List ℕ) (at : ℕ) → Meets r bytes Open (at + 1) → token_at (drop at bytes) ≡ Found Open (drop (at + 1) bytes) → r.depth ≡ 4096 → IsFaulty (fault.Deep at) bytes
too_many r bytes at m place full =
    let w = m.within in ((omega arith, m.tokens, m.left, m.so_far.begins, m.so_far.deep ∙ full, (drop (at + 1) bytes, place, m.found)), λ e. cc)

pub none_open : (r : Reading) (bytes : List ℕ) (at : ℕ) → Meets r bytes Close (at + 1) → token_at (drop at bytes) ≡ Found Close (drop (at + 1) bytes) → r.depth ≡ 0 → IsFaulty (fault.BadToken at) bytes
none_open r bytes at m place none =
    let w = m.within in ((omega arith, m.tokens, m.left, m.so_far.begins, inr (m.so_far.deep ∙ none, (drop (at + 1) bytes, place, m.found))), λ e. cc)

pub bad_here : (bytes : List ℕ) (tokens : List Token) (left : List ℕ) (d at : ℕ) → SoFar bytes tokens left d → at ≤ length bytes → next left ≡ Bad (drop at bytes) → IsFaulty (fault.BadToken at) bytes
bad_here bytes tokens left d at s within e = ((within, tokens, left, s.begins, inl e), λ x. cc)

pub unfinished_here : (bytes : List ℕ) (tokens : List Token) (left : List ℕ) (d : ℕ) → SoFar bytes tokens left d → next left ≡ Unfinished → Faults (fault.Unfinished (length bytes)) bytes
unfinished_here bytes tokens left d s e = (refl, tokens, left, s.begins, e)

-- ---- what comes next, with no more bytes

pub ahead_now : (r : Reading) (bytes : List ℕ) (e : Reached r bytes) → next e.left ≡ found_by r.mode (drop r.start bytes) (scan r.mode (drop r.at bytes))
ahead_now r bytes e =
    ap next (sym (append_none e.left)) ∙ e.ahead [] ∙ ap (λ x. found_by r.mode x (scan r.mode (drop r.at bytes ++ []))) (append_none (drop r.start bytes))
    ∙ ap (λ x. found_by r.mode (drop r.start bytes) (scan r.mode x)) (append_none (drop r.at bytes))

pub before_now : (r : Reading) (bytes : List ℕ) (at : ℕ) (e : Before r bytes at) → next e.left ≡ token_at (drop at bytes)
before_now r bytes at e = ap next (sym (append_none e.left)) ∙ e.ahead [] ∙ ap token_at (append_none (drop at bytes))

pub by_family : (a b : Mode) (whole : List ℕ) (s : Scan) → family a ≡ family b → found_by a whole s ≡ found_by b whole s
by_family a b whole s e = in_family a ∙ ap (λ m. found_by m whole s) e ∙ sym (in_family b)
  where
    in_family : (m : Mode) → found_by m whole s ≡ found_by (family m) whole s
    in_family mode.Space = refl
    in_family mode.Comment = refl
    in_family mode.Word = refl
    in_family mode.Text = refl
    in_family mode.Quote = refl
    in_family mode.Bars = refl

-- ---- a run that fails

pub fails_bad : (m : Mode) (whole xs : List ℕ) → scan m xs ≡ Fails → found_by m whole Fails ≡ Bad whole
fails_bad mode.Space whole xs e = absurd ((space_never_fails xs).0 e)
fails_bad mode.Comment whole xs e = absurd ((space_never_fails xs).1 e)
fails_bad mode.Word whole xs e = refl
fails_bad mode.Text whole xs e = refl
fails_bad mode.Quote whole xs e = refl
fails_bad mode.Bars whole xs e = refl

-- ---- a run that stops

some_begins : (p : ℕ → Bool) (xs : List ℕ) → begins p xs ≡ true → 0 < length xs
some_begins p [] e = absurd (cc)
some_begins p (x ∷ xs) e = omega arith

space_ended : (m : Mode) (rest : List ℕ) → waits m ≡ 0 → ended m rest ≡ true → 0 < length rest
space_ended mode.Space rest w e = some_begins _ rest e
space_ended mode.Comment rest w e = some_begins _ rest e
space_ended mode.Word rest w e = absurd (omega arith)
space_ended mode.Text rest w e = absurd (omega arith)
space_ended mode.Quote rest w e = absurd (omega arith)
space_ended mode.Bars rest w e = absurd (omega arith)

-- space stops before a byte
pub stops_before : (m : Mode) (xs bytes : List ℕ) (at : ℕ) → waits m ≡ 0 → scan m xs ≡ Stops (drop at bytes) → at ≤ length bytes → at < length bytes
stops_before m xs bytes at w e within =
    let some = space_ended m (drop at bytes) w (scan_ended m xs (drop at bytes) e) in
    omega (arith, length-drop at bytes)

space_by : (m : Mode) (whole x : List ℕ) → waits m ≡ 0 → found_by m whole (Stops x) ≡ token_at x
space_by mode.Space whole x w = refl
space_by mode.Comment whole x w = refl
space_by mode.Word whole x w = absurd (omega arith)
space_by mode.Text whole x w = absurd (omega arith)
space_by mode.Quote whole x w = absurd (omega arith)
space_by mode.Bars whole x w = absurd (omega arith)

-- behind space a token begins
pub before_of : (r : Reading) (bytes : List ℕ) (at : ℕ) → Reached r bytes → StopsAt r bytes at → waits r.mode ≡ 0 → Before r bytes at
before_of r bytes at e s w = record {
  tokens = e.tokens;
  left = e.left;
  so_far = e.so_far;
  within = stops_before r.mode (drop r.at bytes) bytes at w s.stops s.within;
  ahead = λ more. e.ahead more
      ∙ ap (found_by r.mode (drop r.start bytes ++ more)) (scan_stops_more r.mode (drop r.at bytes) (drop at bytes) more s.stops)
      ∙ space_by r.mode (drop r.start bytes ++ more) (drop at bytes ++ more) w;
}

-- a parenthesis stands here
pub paren : (r : Reading) (bytes : List ℕ) (t : Token) (at : ℕ) → Before r bytes at → token_at (drop at bytes) ≡ Found t (drop (at + 1) bytes) → Meets r bytes t (at + 1)
paren r bytes t at e place = let w = e.within in record {
  tokens = e.tokens;
  left = e.left;
  so_far = e.so_far;
  within = omega arith;
  found = before_now r bytes at e ∙ place;
}

pub no_token : (r : Reading) (bytes : List ℕ) (at : ℕ) → Before r bytes at → token_at (drop at bytes) ≡ Bad (drop at bytes) → IsFaulty (fault.BadToken at) bytes
no_token r bytes at e bad = let w = e.within in bad_here bytes e.tokens e.left r.depth at e.so_far (omega arith) (before_now r bytes at e ∙ bad)

-- ---- an atom ends

pub front_between : (bytes : List ℕ) (start at : ℕ) → start ≤ at → at ≤ length bytes → front (drop start bytes) (drop at bytes) ≡ between start at bytes
front_between bytes start at e f =
    let n : length (drop start bytes) - length (drop at bytes) ≡ at - start = omega (arith, length-drop start bytes, length-drop at bytes) in
    ap (λ x. take x (drop start bytes)) n

stopped_now : (r : Reading) (bytes : List ℕ) (at : ℕ) (e : Reached r bytes) → StopsAt r bytes at → next e.left ≡ found_by r.mode (drop r.start bytes) (Stops (drop at bytes))
stopped_now r bytes at e s = ahead_now r bytes e ∙ ap (found_by r.mode (drop r.start bytes)) s.stops

pub word_ends : (r : Reading) (bytes : List ℕ) (at : ℕ) (k : Kind) → Reached r bytes → StopsAt r bytes at → r.mode ≡ mode.Word → Some k ≡ kind_of (between r.start at bytes) → Meets r bytes (Atom k (between r.start at bytes)) at
word_ends r bytes at k e s w is =
    let order : r.start ≤ at = omega (arith, e.begun, s.later) in
    let text = front_between bytes r.start at order s.within in
    record {
      tokens = e.tokens;
      left = e.left;
      so_far = e.so_far;
      within = s.within;
      found = stopped_now r bytes at e s ∙ ap (λ m. found_by m (drop r.start bytes) (Stops (drop at bytes))) w
          ∙ ap (λ o. word_of o (drop r.start bytes) (drop at bytes)) (ap kind_of text ∙ sym is) ∙ ap (λ x. Found (Atom k x) (drop at bytes)) text;
    }

pub word_bad : (r : Reading) (bytes : List ℕ) (at : ℕ) → Reached r bytes → StopsAt r bytes at → r.mode ≡ mode.Word → None ≡ kind_of (between r.start at bytes) → IsFaulty (fault.BadToken r.start) bytes
word_bad r bytes at e s w is =
    let order : r.start ≤ at = omega (arith, e.begun, s.later) in
    let within : r.start ≤ length bytes = omega (arith, e.begun, e.within) in
    let text = front_between bytes r.start at order s.within in
    bad_here bytes e.tokens e.left r.depth r.start e.so_far within
    (stopped_now r bytes at e s ∙ ap (λ m. found_by m (drop r.start bytes) (Stops (drop at bytes))) w
    ∙ ap (λ o. word_of o (drop r.start bytes) (drop at bytes)) (ap kind_of text ∙ sym is))

closed_ends : (k : Kind) (r : Reading) (bytes : List ℕ) (at : ℕ) → Reached r bytes → StopsAt r bytes at → ((whole : List ℕ) (s : Scan) → found_by r.mode whole s ≡ closed_next k whole s)
    → Meets r bytes (Atom k (between r.start at bytes)) at
closed_ends k r bytes at e s is =
    let order : r.start ≤ at = omega (arith, e.begun, s.later) in record {
      tokens = e.tokens;
      left = e.left;
      so_far = e.so_far;
      within = s.within;
      found = stopped_now r bytes at e s ∙ is (drop r.start bytes) (Stops (drop at bytes)) ∙ ap (λ x. Found (Atom k x) (drop at bytes)) (front_between bytes r.start at order s.within);
    }

pub text_ends : (r : Reading) (bytes : List ℕ) (at : ℕ) → Reached r bytes → StopsAt r bytes at → family r.mode ≡ mode.Text → Meets r bytes (Atom kind.Text (between r.start at bytes)) at
text_ends r bytes at e s w = closed_ends kind.Text r bytes at e s (λ whole stop. by_family r.mode mode.Text whole stop w)

pub bars_end : (r : Reading) (bytes : List ℕ) (at : ℕ) → Reached r bytes → StopsAt r bytes at → family r.mode ≡ mode.Bars → Meets r bytes (Atom kind.Quoted (between r.start at bytes)) at
bars_end r bytes at e s w = closed_ends kind.Quoted r bytes at e s (λ whole stop. by_family r.mode mode.Bars whole stop w)

-- ---- the bytes end

take_more : (n : ℕ) (xs : List ℕ) → length xs ≤ n → take n xs ≡ xs
take_more n [] e = grind (arith, common_steps)
take_more zero (x ∷ xs) e = absurd (omega arith)
take_more (suc n) (x ∷ xs) e = ap (λ l. x ∷ l) (take_more n xs (omega arith))

drop_all : (xs : List ℕ) → drop (length xs) xs ≡ []
drop_all [] = refl
drop_all (x ∷ xs) = drop_all xs

-- with any more bytes the run goes on
pub paused_reached : (r : Reading) (bytes : List ℕ) (m : Mode) (k : Option Kind) → Reached r bytes → RunsToEnd r bytes m → IsKnown k (drop r.start bytes)
    → Reached (record { at = length bytes; depth = r.depth; mode = m; start = r.start; kind = k }) bytes
paused_reached r bytes m k e runs known = record {
  within = omega arith;
  begun = omega (arith, e.begun, e.within);
  tokens = e.tokens;
  left = e.left;
  so_far = e.so_far;
  ahead = λ more. e.ahead more
      ∙ ap (found_by r.mode (drop r.start bytes ++ more)) (runs.on more)
      ∙ by_family r.mode m (drop r.start bytes ++ more) (scan m more) (sym runs.same)
      ∙ ap (λ x. found_by m (drop r.start bytes ++ more) (scan m (x ++ more))) (sym (drop_all bytes));
  known = subst (IsKnown k) (sym (take_more (length bytes - r.start) (drop r.start bytes) (omega (arith, length-drop r.start bytes)))) known;
}

runs_by : (m : Mode) (whole : List ℕ) → (m ≡ mode.Word → ⊥) → found_by m whole Runs ≡ Unfinished
runs_by mode.Space whole e = refl
runs_by mode.Comment whole e = refl
runs_by mode.Word whole e = absurd (e refl)
runs_by mode.Text whole e = refl
runs_by mode.Quote whole e = refl
runs_by mode.Bars whole e = refl

ran_now : (r : Reading) (bytes : List ℕ) (m : Mode) (e : Reached r bytes) → RunsToEnd r bytes m → next e.left ≡ found_by r.mode (drop r.start bytes) Runs
ran_now r bytes m e runs = ahead_now r bytes e ∙ ap (found_by r.mode (drop r.start bytes)) runs.runs

pub paused_unfinished : (r : Reading) (bytes : List ℕ) (m : Mode) → Reached r bytes → RunsToEnd r bytes m → (r.mode ≡ mode.Word → ⊥) → Faults (fault.Unfinished (length bytes)) bytes
paused_unfinished r bytes m e runs other = unfinished_here bytes e.tokens e.left r.depth e.so_far (ran_now r bytes m e runs ∙ runs_by r.mode (drop r.start bytes) other)

pub known_is : (o : Option Kind) (text : List ℕ) → o ≡ kind_of text → IsKnown o text
known_is (Some k) text e = sym e
known_is None text e = tt

live_word : (o : Option Kind) (whole : List ℕ) → lives o whole ≡ true → word_so_far o whole ≡ Unfinished
live_word (Some k) whole e = refl
live_word None whole e = rw e refl

dead_word : (o : Option Kind) (whole : List ℕ) → lives o whole ≡ false → word_so_far o whole ≡ Bad whole
dead_word (Some k) whole e = absurd (cc)
dead_word None whole e = rw e refl

word_now : (r : Reading) (bytes : List ℕ) (m : Mode) (o : Option Kind) (e : Reached r bytes) → RunsToEnd r bytes m → r.mode ≡ mode.Word → o ≡ kind_of (drop r.start bytes)
    → next e.left ≡ word_so_far o (drop r.start bytes)
word_now r bytes m o e runs w is =
    ran_now r bytes m e runs ∙ ap (λ x. found_by x (drop r.start bytes) Runs) w ∙ ap (λ x. word_so_far x (drop r.start bytes)) (sym is)

pub word_unfinished : (r : Reading) (bytes : List ℕ) (m : Mode) (o : Option Kind) → Reached r bytes → RunsToEnd r bytes m → r.mode ≡ mode.Word → o ≡ kind_of (drop r.start bytes)
    → lives o (drop r.start bytes) ≡ true → Faults (fault.Unfinished (length bytes)) bytes
word_unfinished r bytes m o e runs w is live =
    unfinished_here bytes e.tokens e.left r.depth e.so_far (word_now r bytes m o e runs w is ∙ live_word o (drop r.start bytes) live)

pub word_dead : (r : Reading) (bytes : List ℕ) (m : Mode) (o : Option Kind) → Reached r bytes → RunsToEnd r bytes m → r.mode ≡ mode.Word → o ≡ kind_of (drop r.start bytes)
    → lives o (drop r.start bytes) ≡ false → IsFaulty (fault.BadToken r.start) bytes
word_dead r bytes m o e runs w is dead =
    bad_here bytes e.tokens e.left r.depth r.start e.so_far (omega (arith, e.begun, e.within)) (word_now r bytes m o e runs w is ∙ dead_word o (drop r.start bytes) dead)

pub run_fails : (r : Reading) (bytes : List ℕ) → Reached r bytes → scan r.mode (drop r.at bytes) ≡ Fails → IsFaulty (fault.BadToken r.start) bytes
run_fails r bytes e fails =
    bad_here bytes e.tokens e.left r.depth r.start e.so_far (omega (arith, e.begun, e.within))
    (ahead_now r bytes e ∙ ap (found_by r.mode (drop r.start bytes)) fails ∙ fails_bad r.mode (drop r.start bytes) (drop r.at bytes) fails)

-- ---- a word keeps its kind

all_join : (p : ℕ → Bool) (xs ys : List ℕ) → list_all p xs ≡ true → list_all p ys ≡ true → list_all p (xs ++ ys) ≡ true
all_join p [] ys e f = f
all_join p (x ∷ xs) ys e f = grind (arith, common_steps, all_join p xs ys)

some_join : (p : ℕ → Bool) (xs ys : List ℕ) → some_all p xs ≡ true → list_all p ys ≡ true → some_all p (xs ++ ys) ≡ true
some_join p [] ys e f = absurd (cc)
some_join p (x ∷ xs) ys e f = all_join p (x ∷ xs) ys e f

keep : (k j : Kind) (t ys : List ℕ) → k ≡ j → is_word_kind j ≡ true → kind_of t ≡ Some k → (is_of j t ≡ true → is_of j (t ++ ys) ≡ true) → kind_of (t ++ ys) ≡ Some k
keep k j t ys same w is more =
    kind_back j (t ++ ys) w (more (subst (λ x. is_of x t ≡ true) same (kind_of_is t k is))) ∙ ap Some (sym same)

numeral_join : (t ys : List ℕ) → (get_or t 0 0 ≡ 48 → ⊥) → list_all is_digit ys ≡ true → is_numeral t ≡ true → is_numeral (t ++ ys) ≡ true
numeral_join [] ys n f e = absurd (cc)
numeral_join (b ∷ bs) ys n f e =
    let digits : list_all is_digit bs ≡ true = grind (arith, common_steps) in
    let no : (b == 48) ≡ false = grind (arith, common_steps) in
    grind (arith, common_steps, all_join is_digit bs ys digits f)

pub keeps_numeral : (k : Kind) (t ys : List ℕ) → k ≡ kind.Numeral → (get_or t 0 0 ≡ 48 → ⊥) → list_all is_digit ys ≡ true → kind_of t ≡ Some k → kind_of (t ++ ys) ≡ Some k
keeps_numeral k t ys same n f is = keep k kind.Numeral t ys same refl is (numeral_join t ys n f)

has_behind : (t : List ℕ) → some_all is_digit (behind_point t) ≡ true → has_point t ≡ true
has_behind [] e = absurd (cc)
has_behind (b ∷ bs) e = grind (arith, common_steps, has_behind bs)

decimal_join : (t ys : List ℕ) → list_all is_digit ys ≡ true → is_decimal t ≡ true → is_decimal (t ++ ys) ≡ true
decimal_join t ys f e =
    let before : is_numeral (before_point t) ≡ true = grind (arith, common_steps) in
    let behind : some_all is_digit (behind_point t) ≡ true = grind (arith, common_steps) in
    let same = point_front t ys (has_behind t behind) in
    rw (same.0, same.1, before) (some_join is_digit (behind_point t) ys behind f)

pub keeps_decimal : (k : Kind) (t ys : List ℕ) → k ≡ kind.Decimal → list_all is_digit ys ≡ true → kind_of t ≡ Some k → kind_of (t ++ ys) ≡ Some k
keeps_decimal k t ys same f is = keep k kind.Decimal t ys same refl is (decimal_join t ys f)

symbol_join : (t ys : List ℕ) → list_all is_symbol_byte ys ≡ true → is_symbol t ≡ true → is_symbol (t ++ ys) ≡ true
symbol_join [] ys f e = absurd (cc)
symbol_join (b ∷ bs) ys f e =
    let all : list_all is_symbol_byte (b ∷ bs) ≡ true = grind (arith, common_steps) in
    let no : is_digit b ≡ false = grind (arith, common_steps) in
    rw no (all_join is_symbol_byte (b ∷ bs) ys all f)

pub keeps_symbol : (k : Kind) (t ys : List ℕ) → k ≡ kind.Symbol → list_all is_symbol_byte ys ≡ true → kind_of t ≡ Some k → kind_of (t ++ ys) ≡ Some k
keeps_symbol k t ys same f is = keep k kind.Symbol t ys same refl is (symbol_join t ys f)

led_join : (first : ℕ) (p : ℕ → Bool) (t ys : List ℕ) → list_all p ys ≡ true → is_led first p t ≡ true → is_led first p (t ++ ys) ≡ true
led_join first p [] ys f e = absurd (cc)
led_join first p (b ∷ bs) ys f e =
    let all : some_all p bs ≡ true = grind (arith, common_steps) in
    let head : (b == first) ≡ true = grind (arith, common_steps) in
    rw head (some_join p bs ys all f)

pub keeps_keyword : (k : Kind) (t ys : List ℕ) → k ≡ kind.Keyword → list_all is_symbol_byte ys ≡ true → kind_of t ≡ Some k → kind_of (t ++ ys) ≡ Some k
keeps_keyword k t ys same f is = keep k kind.Keyword t ys same refl is (led_join 58 is_symbol_byte t ys f)

marked_join : (letter : ℕ) (p : ℕ → Bool) (t ys : List ℕ) → list_all p ys ≡ true → is_marked letter p t ≡ true → is_marked letter p (t ++ ys) ≡ true
marked_join letter p [] ys f e = absurd (cc)
marked_join letter p (b ∷ bs) ys f e =
    let led : is_led letter p bs ≡ true = grind (arith, common_steps) in
    let head : (b == 35) ≡ true = grind (arith, common_steps) in
    rw head (led_join letter p bs ys f led)

pub keeps_hexadecimal : (k : Kind) (t ys : List ℕ) → k ≡ kind.Hexadecimal → list_all is_hex_digit ys ≡ true → kind_of t ≡ Some k → kind_of (t ++ ys) ≡ Some k
keeps_hexadecimal k t ys same f is = keep k kind.Hexadecimal t ys same refl is (marked_join 120 is_hex_digit t ys f)

pub keeps_binary : (k : Kind) (t ys : List ℕ) → k ≡ kind.Binary → list_all is_bit ys ≡ true → kind_of t ≡ Some k → kind_of (t ++ ys) ≡ Some k
keeps_binary k t ys same f is = keep k kind.Binary t ys same refl is (marked_join 98 is_bit t ys f)

-- ---- more bytes

-- What was reached stays so with some bytes more.
pub reached_more : (r : Reading) (bytes ys : List ℕ) → Reached r bytes → Reached r (bytes ++ ys)
reached_more r bytes ys e =
    let begun : r.start ≤ length bytes = omega (arith, e.begun, e.within) in
    let from_start : (more : List ℕ) → drop r.start bytes ++ (ys ++ more) ≡ drop r.start (bytes ++ ys) ++ more =
    λ more. sym (append_assoc (drop r.start bytes) ys more) ∙ ap (λ x. x ++ more) (sym (drop-append-le r.start bytes ys begun)) in
    let from_at : (more : List ℕ) → drop r.at bytes ++ (ys ++ more) ≡ drop r.at (bytes ++ ys) ++ more =
    λ more. sym (append_assoc (drop r.at bytes) ys more) ∙ ap (λ x. x ++ more) (sym (drop-append-le r.at bytes ys e.within)) in
    let small : r.at - r.start ≤ length (drop r.start bytes) = omega (arith, length-drop r.start bytes, e.within) in
    let word : between r.start r.at (bytes ++ ys) ≡ between r.start r.at bytes =
    ap (take (r.at - r.start)) (drop-append-le r.start bytes ys begun) ∙ take-append-le (r.at - r.start) (drop r.start bytes) ys small in
    record {
      within = let h = e.within in omega (arith, length-append bytes ys);
      begun = e.begun;
      tokens = e.tokens;
      left = e.left ++ ys;
      so_far = record {
        begins = record { lexed = lexes_longer bytes ys e.tokens e.left e.so_far.begins.lexed; open_yet = e.so_far.begins.open_yet };
        deep = e.so_far.deep;
        low = e.so_far.low;
        shallow = e.so_far.shallow;
      };
      ahead = λ more. ap next (append_assoc e.left ys more) ∙ e.ahead (ys ++ more)
          ∙ ap (λ x. found_by r.mode x (scan r.mode (drop r.at bytes ++ (ys ++ more)))) (from_start more)
          ∙ ap (λ x. found_by r.mode (drop r.start (bytes ++ ys) ++ more) (scan r.mode x)) (from_at more);
      known = subst (IsKnown r.kind) (sym word) e.known;
    }

-- what follows a place, as a slice
pub rest_whole : (bytes : List ℕ) (at : ℕ) → take (length bytes - at) (drop at bytes) ≡ drop at bytes
rest_whole bytes at = take_more (length bytes - at) (drop at bytes) (omega (arith, length-drop at bytes))

pub grown : (bytes : List ℕ) (n : ℕ) → (more : List ℕ) × (take (n + 1) bytes ≡ take n bytes ++ more)
grown [] n = ([], grind (arith, common_steps))
grown (b ∷ bs) zero = (b ∷ [], refl)
grown (b ∷ bs) (suc n) = let more = grown bs n in let one : suc n + 1 ≡ suc (n + 1) = omega arith in (more.0, rw one (ap (λ x. b ∷ x) more.1))
