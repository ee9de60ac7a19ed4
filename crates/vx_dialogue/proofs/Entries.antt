-- What entries make of the levels.
use Rattle.std.proofs.Common.{◌≡◌, ℕ, zero, suc, Bool, true, false, nat_eq, if◌then◌else◌, List, [], ◌∷◌, ◌++◌, drop, refl, sym, ◌∙◌, ap, subst, append_assoc}
use Rattle.vx_terms.specs.Terms.{Term}
use Rattle.vx_smt_meaning.specs.Commands.{Command, Declared, Assert, Push, Level, empty_level, stack_from, assertions_of, declared_in}
use Rattle.vx_dialogue.specs.Symbols.{with_variables, with_listed}
use Rattle.vx_dialogue.specs.Preamble.{declarations}
use Rattle.vx_dialogue.specs.Dialogue.{pushed}
use Rattle.vx_dialogue.proofs.Lists.{none_more, stack_append}
use Rattle.vx_dialogue.proofs.Levels.{declared_level}
use Rattle.vx_segments.specs.Segments.{Entry, terms}
use Rattle.vx_dialogue.specs.Segments.{last_of, missing, opening, sent, depth, pops}
use Rattle.vx_dialogue.proofs.Extends.{with_missing}

drop_more : {A : Type 0} (n : ℕ) (xs : List A) → drop (suc n) xs ≡ drop 1 (drop n xs)
drop_more zero xs = refl
drop_more (suc n) [] = refl
drop_more (suc n) (x ∷ xs) = drop_more n xs

drop_less : {A : Type 0} (n : ℕ) (xs : List A) → drop n (drop 1 xs) ≡ drop (suc n) xs
drop_less zero xs = refl
drop_less (suc n) [] = refl
drop_less (suc n) (x ∷ xs) = refl

pub popped : (n : ℕ) (levels : List Level) → stack_from levels (pops n) ≡ drop n levels
popped zero levels = refl
popped (suc n) levels = popped n (drop 1 levels) ∙ drop_less n levels

-- ---- entries one after the other

pub sent_join : (last : ℕ) (ds : List Declared) (xs ys : List Entry) → sent last ds (xs ++ ys) ≡ sent last ds xs ++ sent (last_of last xs) (with_listed ds (terms xs)) ys
sent_join last ds [] ys = refl
sent_join last ds (x ∷ xs) ys =
    let first = (opening last x ++ declarations (missing ds x.term)) ++ Assert x.term ∷ [] in
    ap (λ cs. first ++ cs) (sent_join x.segment (with_variables ds x.term) xs ys)
    ∙ sym (append_assoc first (sent x.segment (with_variables ds x.term) xs) (sent (last_of x.segment xs) (with_listed (with_variables ds x.term) (terms xs)) ys))

-- ---- one entry

-- a level with what an entry puts on it
abbrev pub filled : Level → List Declared → Term → Level
filled l ds t = record l { symbols = pushed ds l.symbols; assertions = t ∷ l.assertions }

filled_by : (l : Level) (levels : List Level) (ds : List Declared) (t : Term) → stack_from (l ∷ levels) (declarations ds ++ Assert t ∷ []) ≡ filled l ds t ∷ levels
filled_by l levels ds t = stack_append (l ∷ levels) (declarations ds) (Assert t ∷ []) ∙ ap (λ x. stack_from x (Assert t ∷ [])) (declared_level l levels ds)

-- the levels behind an entry: it stands on the last one, or on one more
abbrev pub entered : Bool → Level → List Level → List Declared → Term → List Level
entered true l levels ds t = filled l ds t ∷ levels
entered false l levels ds t = filled empty_level ds t ∷ l ∷ levels

pub enters : (b : Bool) (l : Level) (levels : List Level) (ds : List Declared) (t : Term)
    → stack_from (l ∷ levels) (((if b then [] else (Push 1 ∷ [])) ++ declarations ds) ++ Assert t ∷ []) ≡ entered b l levels ds t
enters true l levels ds t = filled_by l levels ds t
enters false l levels ds t = filled_by empty_level (l ∷ levels) ds t

pub sent_first : (last : ℕ) (ds : List Declared) (l : Level) (levels : List Level) (e : Entry) (es : List Entry)
    → stack_from (l ∷ levels) (sent last ds (e ∷ es)) ≡ stack_from (entered (nat_eq e.segment last) l levels (missing ds e.term) e.term) (sent e.segment (with_variables ds e.term) es)
sent_first last ds l levels e es =
    stack_append (l ∷ levels) ((opening last e ++ declarations (missing ds e.term)) ++ Assert e.term ∷ []) (sent e.segment (with_variables ds e.term) es)
    ∙ ap (λ x. stack_from x (sent e.segment (with_variables ds e.term) es)) (enters (nat_eq e.segment last) l levels (missing ds e.term) e.term)

-- ---- entries are popped again

-- what is behind an entry, where its rest is known over every level
gone_by : (b : Bool) (l : Level) (levels : List Level) (e : Entry) (es : List Entry) (ds : List Declared)
    → ((m : Level) (ms : List Level) → drop (suc (depth e.segment es)) (stack_from (m ∷ ms) (sent e.segment (with_variables ds e.term) es)) ≡ ms)
    → drop (suc (if b then depth e.segment es else suc (depth e.segment es))) (stack_from (entered b l levels (missing ds e.term) e.term) (sent e.segment (with_variables ds e.term) es)) ≡ levels
gone_by true l levels e es ds rest = rest (filled l (missing ds e.term) e.term) levels
gone_by false l levels e es ds rest =
    drop_more (suc (depth e.segment es)) (stack_from (filled empty_level (missing ds e.term) e.term ∷ l ∷ levels) (sent e.segment (with_variables ds e.term) es))
    ∙ ap (drop 1) (rest (filled empty_level (missing ds e.term) e.term) (l ∷ levels))

-- the levels of entries and the one below them are popped
pub gone : (last : ℕ) (ds : List Declared) (l : Level) (levels : List Level) (ys : List Entry) → drop (suc (depth last ys)) (stack_from (l ∷ levels) (sent last ds ys)) ≡ levels
gone last ds l levels [] = refl
gone last ds l levels (e ∷ es) =
    ap (drop (suc (depth last (e ∷ es)))) (sent_first last ds l levels e es)
    ∙ gone_by (nat_eq e.segment last) l levels e es ds (λ m ms. gone e.segment (with_variables ds e.term) m ms es)

-- no entries, or the first begins another segment
abbrev pub Begins : ℕ → List Entry → Type 0
Begins last [] = Unit {0}
Begins last (e ∷ es) = nat_eq e.segment last ≡ false

-- Where entries begin a segment, the level below them is as it was once theirs are popped.
pub undone : (last : ℕ) (ds : List Declared) (l : Level) (levels : List Level) (ys : List Entry) → Begins last ys
    → drop (depth last ys) (stack_from (l ∷ levels) (sent last ds ys)) ≡ l ∷ levels
undone last ds l levels [] h = refl
undone last ds l levels (e ∷ es) h =
    ap (λ b. drop (if b then depth e.segment es else suc (depth e.segment es)) (stack_from (l ∷ levels) (sent last ds (e ∷ es)))) h
    ∙ ap (drop (suc (depth e.segment es))) (sent_first last ds l levels e es ∙ ap (λ b. stack_from (entered b l levels (missing ds e.term) e.term) (sent e.segment (with_variables ds e.term) es)) h)
    ∙ gone e.segment (with_variables ds e.term) (filled empty_level (missing ds e.term) e.term) (l ∷ levels) es

-- there is a level behind entries
pub record Has (levels : List Level) : Type 0 where
  pub top : Level
  pub rest : List Level
  pub is : levels ≡ top ∷ rest

has_by : (b : Bool) (ds : List Declared) (l : Level) (levels : List Level) (e : Entry) (cs : List Command) → ((m : Level) (ms : List Level) → Has (stack_from (m ∷ ms) cs))
    → Has (stack_from (entered b l levels ds e.term) cs)
has_by true ds l levels e cs rest = rest (filled l ds e.term) levels
has_by false ds l levels e cs rest = rest (filled empty_level ds e.term) (l ∷ levels)

pub has_level : (last : ℕ) (ds : List Declared) (l : Level) (levels : List Level) (ys : List Entry) → Has (stack_from (l ∷ levels) (sent last ds ys))
has_level last ds l levels [] = record { top = l; rest = levels; is = refl }
has_level last ds l levels (e ∷ es) =
    subst Has (sym (sent_first last ds l levels e es))
    (has_by (nat_eq e.segment last) (missing ds e.term) l levels e (sent e.segment (with_variables ds e.term) es) (λ m ms. has_level e.segment (with_variables ds e.term) m ms es))

-- ---- what is live

pub pushed_join : {A : Type 0} (xs ys zs : List A) → pushed (xs ++ ys) zs ≡ pushed ys (pushed xs zs)
pushed_join [] ys zs = refl
pushed_join (x ∷ xs) ys zs = pushed_join xs ys (x ∷ zs)

pub pushed_onto : {A : Type 0} (xs ys zs : List A) → pushed xs (ys ++ zs) ≡ pushed xs ys ++ zs
pushed_onto [] ys zs = refl
pushed_onto (x ∷ xs) ys zs = pushed_onto xs (x ∷ ys) zs

asserted_by : (b : Bool) (ds : List Declared) (l : Level) (levels : List Level) (e : Entry) (es : List Entry) (cs : List Command)
    → ((m : Level) (ms : List Level) → assertions_of (stack_from (m ∷ ms) cs) ≡ pushed (terms es) (assertions_of (m ∷ ms)))
    → assertions_of (stack_from (entered b l levels ds e.term) cs) ≡ pushed (terms es) (e.term ∷ assertions_of (l ∷ levels))
asserted_by true ds l levels e es cs rest = rest (filled l ds e.term) levels
asserted_by false ds l levels e es cs rest = rest (filled empty_level ds e.term) (l ∷ levels)

pub asserted : (last : ℕ) (ds : List Declared) (l : Level) (levels : List Level) (ys : List Entry)
    → assertions_of (stack_from (l ∷ levels) (sent last ds ys)) ≡ pushed (terms ys) (assertions_of (l ∷ levels))
asserted last ds l levels [] = refl
asserted last ds l levels (e ∷ es) =
    ap assertions_of (sent_first last ds l levels e es)
    ∙ asserted_by (nat_eq e.segment last) (missing ds e.term) l levels e es (sent e.segment (with_variables ds e.term) es) (λ m ms. asserted e.segment (with_variables ds e.term) m ms es)

-- the symbols that entries add
abbrev pub added : List Declared → List Entry → List Declared
added ds [] = []
added ds (e ∷ es) = missing ds e.term ++ added (with_variables ds e.term) es

pub listed : (ds : List Declared) (ys : List Entry) → with_listed ds (terms ys) ≡ ds ++ added ds ys
listed ds [] = sym (none_more ds)
listed ds (e ∷ es) =
    let behind = added (with_variables ds e.term) es in
    listed (with_variables ds e.term) es ∙ ap (λ x. x ++ behind) (with_missing ds e.term) ∙ append_assoc ds (missing ds e.term) behind

declared_by : (b : Bool) (ds more : List Declared) (l : Level) (levels : List Level) (e : Entry) (cs : List Command)
    → ((m : Level) (ms : List Level) → declared_in (stack_from (m ∷ ms) cs) ≡ pushed more (declared_in (m ∷ ms)))
    → declared_in (stack_from (entered b l levels ds e.term) cs) ≡ pushed more (pushed ds (declared_in (l ∷ levels)))
declared_by true ds more l levels e cs rest = rest (filled l ds e.term) levels ∙ ap (pushed more) (sym (pushed_onto ds l.symbols (declared_in levels)))
declared_by false ds more l levels e cs rest = rest (filled empty_level ds e.term) (l ∷ levels) ∙ ap (pushed more) (sym (pushed_onto ds [] (declared_in (l ∷ levels))))

pub declared : (last : ℕ) (ds : List Declared) (l : Level) (levels : List Level) (ys : List Entry)
    → declared_in (stack_from (l ∷ levels) (sent last ds ys)) ≡ pushed (added ds ys) (declared_in (l ∷ levels))
declared last ds l levels [] = refl
declared last ds l levels (e ∷ es) =
    ap declared_in (sent_first last ds l levels e es)
    ∙ declared_by (nat_eq e.segment last) (missing ds e.term) (added (with_variables ds e.term) es) l levels e (sent e.segment (with_variables ds e.term) es)
    (λ m ms. declared e.segment (with_variables ds e.term) m ms es)
    ∙ sym (pushed_join (missing ds e.term) (added (with_variables ds e.term) es) (declared_in (l ∷ levels)))
