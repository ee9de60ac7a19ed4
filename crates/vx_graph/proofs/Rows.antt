-- Rows of edges.
use Rattle.std.proofs.Common.{◌≡◌, ℕ, zero, suc, ◌<◌, Bool, true, false, ◌||◌, ◌&&◌, nat_eq, List, [], ◌∷◌, ◌++◌, length, get_or, refl, ap, arith, ◌∙◌, sym, set, Vec, ◌≢◌, ◌⊎◌, inl, inr, subst, take}
use Rattle.std.proofs.lemmas.Bool.Decides.{eqb_tells}
use Rattle.std.specs.declared.alloc.Global.{Global}
use Rattle.vx_ast.specs.declared.MemberId.{MemberId}
use Rattle.vx_graph.specs.Listed.{is_in}
use Rattle.vx_graph.specs.Reach.{Rows, leads}
use Rattle.vx_graph.proofs.Lists.{push_is_in}

or_no : (b : Bool) → b ≡ (b || false)
or_no true = refl
or_no false = refl

changed : (rows : Rows) (at : ℕ) (old row : Vec MemberId Global) (m : MemberId) → at < length rows → old ≡ get_or rows at old → row.items ≡ old.items ++ m ∷ [] →
    (b : ℕ) → leads (set rows at row) at b ≡ (leads rows at b || nat_eq m.0 b)
changed [] at old row m within is pushed b = absurd (omega arith)
changed (r ∷ rows) zero old row m within is pushed b = ap (λ ms. is_in ms b) (pushed ∙ ap (λ (v : Vec MemberId Global). v.items ++ m ∷ []) is) ∙ push_is_in r.items m b
changed (r ∷ rows) (suc at) old row m within is pushed b = changed rows at old row m (omega arith) is pushed b

kept : (rows : Rows) (at a : ℕ) (row : Vec MemberId Global) → at ≢ a → (b : ℕ) → leads (set rows at row) a b ≡ leads rows a b
kept [] at a row other b = refl
kept (r ∷ rows) zero zero row other b = absurd (other refl)
kept (r ∷ rows) zero (suc a) row other b = refl
kept (r ∷ rows) (suc at) zero row other b = refl
kept (r ∷ rows) (suc at) (suc a) row other b = kept rows at a row (λ e. other (ap suc e)) b

pub one_more_edge : (rows : Rows) (at : ℕ) (old row : Vec MemberId Global) (m : MemberId) → at < length rows → old ≡ get_or rows at old → row.items ≡ old.items ++ m ∷ [] →
    (a b : ℕ) → leads (set rows at row) a b ≡ (leads rows a b || (nat_eq at a && nat_eq m.0 b))
one_more_edge rows at old row m within is pushed a b = go (eqb_tells at a)
  where
    go : ((nat_eq at a ≡ true) × (at ≡ a)) ⊎ ((nat_eq at a ≡ false) × (at ≢ a)) → leads (set rows at row) a b ≡ (leads rows a b || (nat_eq at a && nat_eq m.0 b))
    go (inl (e, same)) =
        subst (λ k. leads (set rows at row) k b ≡ (leads rows k b || nat_eq m.0 b)) same (changed rows at old row m within is pushed b)
        ∙ ap (λ d. leads rows a b || (d && nat_eq m.0 b)) (sym e)
    go (inr (e, other)) = kept rows at a row other b ∙ or_no (leads rows a b) ∙ ap (λ d. leads rows a b || (d && nat_eq m.0 b)) (sym e)

pub row_leads : (rows : Rows) (a : ℕ) (row : Vec MemberId Global) → a < length rows → row ≡ get_or rows a row → (b : ℕ) → is_in row.items b ≡ leads rows a b
row_leads [] a row within is b = absurd (omega arith)
row_leads (r ∷ rows) zero row within is b = ap (λ (v : Vec MemberId Global). is_in v.items b) is
row_leads (r ∷ rows) (suc a) row within is b = row_leads rows a row (omega arith) is b

pub none_leads : (rows : Rows) (row : Vec MemberId Global) → row.items ≡ [] → ((a b : ℕ) → leads rows a b ≡ false) → (a b : ℕ) → leads (rows ++ row ∷ []) a b ≡ false
none_leads [] row e none zero b = ap (λ ms. is_in ms b) e
none_leads [] row e none (suc a) b = refl
none_leads (r ∷ rows) row e none zero b = none zero b
none_leads (r ∷ rows) row e none (suc a) b = none_leads rows row e (λ a'. none (suc a')) a b

or_assoc : (a b c : Bool) → ((a || b) || c) ≡ (a || (b || c))
or_assoc true b c = refl
or_assoc false b c = refl

-- one more of a row
pub take_is_in : (ms : List MemberId) (i : ℕ) (m : MemberId) → i < length ms → m ≡ get_or ms i m → (n : ℕ) → is_in (take (suc i) ms) n ≡ (is_in (take i ms) n || nat_eq m.0 n)
take_is_in [] i m within is n = absurd (omega arith)
take_is_in (k ∷ ms) zero m within is n = or_no' (nat_eq k.0 n) ∙ ap (λ (x : MemberId). nat_eq x.0 n) (sym is)
  where
    or_no' : (b : Bool) → (b || false) ≡ b
    or_no' true = refl
    or_no' false = refl
take_is_in (k ∷ ms) (suc i) m within is n = ap (λ b. nat_eq k.0 n || b) (take_is_in ms i m (omega arith) is n) ∙ sym (or_assoc (nat_eq k.0 n) (is_in (take i ms) n) (nat_eq m.0 n))

or_and : (x p q d : Bool) → ((x || (p && d)) || (q && d)) ≡ (x || ((p || q) && d))
or_and true p q d = refl
or_and false true q true = refl
or_and false true true false = refl
or_and false true false false = refl
or_and false false q d = refl

pub edges_more : (old rows new : Rows) (ms : List MemberId) (i : ℕ) (m to : MemberId) → i < length ms → m ≡ get_or ms i m →
    ((a b : ℕ) → leads rows a b ≡ (leads old a b || (is_in (take i ms) a && nat_eq to.0 b))) →
    ((a b : ℕ) → leads new a b ≡ (leads rows a b || (nat_eq m.0 a && nat_eq to.0 b))) →
    (a b : ℕ) → leads new a b ≡ (leads old a b || (is_in (take (suc i) ms) a && nat_eq to.0 b))
edges_more old rows new ms i m to within is before step a b =
    step a b ∙ ap (λ x. x || (nat_eq m.0 a && nat_eq to.0 b)) (before a b)
    ∙ or_and (leads old a b) (is_in (take i ms) a) (nat_eq m.0 a) (nat_eq to.0 b)
    ∙ ap (λ x. leads old a b || (x && nat_eq to.0 b)) (sym (take_is_in ms i m within is a))

past : (rows : Rows) (i b : ℕ) → leads (take i rows) i b ≡ false
past [] i b = nothing i
  where
    nothing : (i : ℕ) → leads (take i []) i b ≡ false
    nothing zero = refl
    nothing (suc i) = refl
past (r ∷ rows) zero b = refl
past (r ∷ rows) (suc i) b = past rows i b

last : (rows : Rows) (i : ℕ) (row : Vec MemberId Global) → i < length rows → row ≡ get_or rows i row → (b : ℕ) → leads (take (suc i) rows) i b ≡ is_in row.items b
last [] i row within is b = absurd (omega arith)
last (r ∷ rows) zero row within is b = ap (λ (v : Vec MemberId Global). is_in v.items b) (sym is)
last (r ∷ rows) (suc i) row within is b = last rows i row (omega arith) is b

others : (rows : Rows) (i a b : ℕ) → i ≢ a → leads (take (suc i) rows) a b ≡ leads (take i rows) a b
others [] zero a b other = refl
others [] (suc i) a b other = refl
others (r ∷ rows) zero zero b other = absurd (other refl)
others (r ∷ rows) zero (suc a) b other = refl
others (r ∷ rows) (suc i) zero b other = refl
others (r ∷ rows) (suc i) (suc a) b other = others rows i a b (λ e. other (ap suc e))

and_yes : (x : Bool) → x ≡ (x && true)
and_yes true = refl
and_yes false = refl

and_no : (x : Bool) → false ≡ (x && false)
and_no true = refl
and_no false = refl

take_leads : (rows : Rows) (i : ℕ) (row : Vec MemberId Global) → i < length rows → row ≡ get_or rows i row →
    (a b : ℕ) → leads (take (suc i) rows) a b ≡ (leads (take i rows) a b || (is_in row.items b && nat_eq i a))
take_leads rows i row within is a b = go (eqb_tells i a)
  where
    go : ((nat_eq i a ≡ true) × (i ≡ a)) ⊎ ((nat_eq i a ≡ false) × (i ≢ a)) → leads (take (suc i) rows) a b ≡ (leads (take i rows) a b || (is_in row.items b && nat_eq i a))
    go (inl (e, same)) =
        subst (λ k. leads (take (suc i) rows) k b ≡ (leads (take i rows) k b || is_in row.items b)) same (last rows i row within is b ∙ ap (λ x. x || is_in row.items b) (sym (past rows i b)))
        ∙ ap (λ x. leads (take i rows) a b || x) (and_yes (is_in row.items b) ∙ ap (λ d. is_in row.items b && d) (sym e))
    go (inr (e, other)) =
        others rows i a b other ∙ or_no (leads (take i rows) a b)
        ∙ ap (λ x. leads (take i rows) a b || x) (and_no (is_in row.items b) ∙ ap (λ d. is_in row.items b && d) (sym e))

pub turned_more : (rows sources new : Rows) (i : ℕ) (row : Vec MemberId Global) → i < length rows → row ≡ get_or rows i row →
    ((a b : ℕ) → leads sources b a ≡ leads (take i rows) a b) →
    ((b a : ℕ) → leads new b a ≡ (leads sources b a || (is_in row.items b && nat_eq i a))) →
    (a b : ℕ) → leads new b a ≡ leads (take (suc i) rows) a b
turned_more rows sources new i row within is before step a b =
    step b a ∙ ap (λ x. x || (is_in row.items b && nat_eq i a)) (before a b) ∙ sym (take_leads rows i row within is a b)
