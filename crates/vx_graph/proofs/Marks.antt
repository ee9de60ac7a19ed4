-- Marks that are taken away, and the walk over a list that takes them away.
use Rattle.std.proofs.Common.{◌≡◌, ◌≢◌, ℕ, zero, suc, ◌+◌, ◌<◌, ◌⊎◌, inl, inr, Bool, true, false, ◌||◌, ◌&&◌, nat_eq, List, [], ◌∷◌, length, get_or, take, refl, ap, arith, add-one, ◌∙◌, sym, subst, set, if◌then◌else◌}
use Rattle.std.specs.Prelude.{All, ◌↔◌, not, replicate, Option, None}
use Rattle.std.proofs.lemmas.Bool.{false≢true}
use Rattle.std.proofs.lemmas.Bool.Decides.{eqb_tells}
use Rattle.std.proofs.lemmas.List.{get_or-set_same, get_or-set_other, get_or-replicate}
use Rattle.vx_ast.specs.declared.MemberId.{MemberId}
use Rattle.vx_graph.specs.Groups.{root_at}
use Rattle.vx_graph.specs.Listed.{is_in, is_marked, set_in}
use Rattle.vx_graph.proofs.Rows.{take_is_in}
use Rattle.vx_graph.proofs.Searches.{all_at}

and_not : (x a b : Bool) → ((x && not a) && not b) ≡ (x && not (a || b))
and_not true true b = refl
and_not true false b = refl
and_not false a b = refl

and_no : (x : Bool) → false ≡ (x && false)
and_no true = refl
and_no false = refl

and_yes : (x : Bool) → x ≡ (x && true)
and_yes true = refl
and_yes false = refl

pub unset : (marks : List Bool) (i n : ℕ) → i < length marks → is_marked (set marks i false) n ≡ (is_marked marks n && not (nat_eq i n))
unset marks i n within = go (eqb_tells i n)
  where
    go : ((nat_eq i n ≡ true) × (i ≡ n)) ⊎ ((nat_eq i n ≡ false) × (i ≢ n)) → is_marked (set marks i false) n ≡ (is_marked marks n && not (nat_eq i n))
    go (inl (e, same)) = subst (λ k. is_marked (set marks i false) k ≡ false) same (get_or-set_same marks i false false within) ∙ and_no (is_marked marks n) ∙ ap (λ b. is_marked marks n && not b) (sym e)
    go (inr (e, other)) = get_or-set_other marks i n false false (λ q. other (sym q)) ∙ and_yes (is_marked marks n) ∙ ap (λ b. is_marked marks n && not b) (sym e)

pub unset_more : (old now : List Bool) (ms : List MemberId) (i : ℕ) (m : MemberId) → i < length ms → m ≡ get_or ms i m → m.0 < length now →
    ((n : ℕ) → is_marked now n ≡ (is_marked old n && not (is_in (take i ms) n))) → (n : ℕ) → is_marked (set now m.0 false) n ≡ (is_marked old n && not (is_in (take (i + 1) ms) n))
unset_more old now ms i m within is below before n =
    unset now m.0 n below ∙ ap (λ b. b && not (nat_eq m.0 n)) (before n) ∙ and_not (is_marked old n) (is_in (take i ms) n) (nat_eq m.0 n)
    ∙ ap (λ b. is_marked old n && not b) (sym (take_is_in ms i m within is n)) ∙ ap (λ k. is_marked old n && not (is_in (take k ms) n)) (sym (add-one i))

not_both : (b : Bool) → (b && not b) ≡ false
not_both true = refl
not_both false = refl

-- where the marks tell who is in the list, none is marked without them
pub none_left : (old new : List Bool) (ms : List MemberId) → ((n : ℕ) → n < length old → get_or old n false ≡ is_in ms n) → ((n : ℕ) → is_marked new n ≡ (is_marked old n && not (is_in ms n))) →
    length new ≡ length old → (n : ℕ) → n < length new → is_marked new n ≡ false
none_left old new ms are taken same n within = taken n ∙ ap (λ b. b && not (is_in ms n)) (are n (subst (λ k. n < k) same within)) ∙ not_both (is_in ms n)

pub none_counted : (marks : List Bool) → ((n : ℕ) → n < length marks → is_marked marks n ≡ false) → 0 ≡ set_in marks
none_counted [] none = refl
none_counted (b ∷ bs) none = none_counted bs (λ n within. none (suc n) (omega arith)) ∙ sum (set_in bs) ∙ ap (λ c. (if c then 1 else 0) + set_in bs) (sym (none zero (omega arith)))
  where
    sum : (k : ℕ) → k ≡ 0 + k
    sum k = omega arith

pub all_marked : (n i : ℕ) → i < n → is_marked (replicate n true) i ≡ true
all_marked n i within = get_or-replicate n i true false within

pub marked_within : (marks : List Bool) (n : ℕ) → is_marked marks n ≡ true → n < length marks
marked_within [] n t = absurd (false≢true t)
marked_within (b ∷ bs) zero t = omega arith
marked_within (b ∷ bs) (suc n) t = let more = marked_within bs n t in omega arith

-- who is in the list is marked, and no other
pub marks_tell : (marks : List Bool) (ms : List MemberId) → All (λ m. m.0 < length marks) ms → ((n : ℕ) → n < length marks → get_or marks n false ≡ is_in ms n) → (n : ℕ) → (is_marked marks n ≡ true) ↔ (is_in ms n ≡ true)
marks_tell marks ms within are n = ((λ t. sym (are n (marked_within marks n t)) ∙ t), (λ e. are n (all_at (λ k. k < length marks) ms n within e) ∙ e))

pub root_reads : (roots : List (Option MemberId)) (n : ℕ) → root_at roots n ≡ get_or roots n None
root_reads [] n = refl
root_reads (r ∷ rs) zero = refl
root_reads (r ∷ rs) (suc n) = root_reads rs n

pub no_roots : (n k : ℕ) → root_at (replicate n None) k ≡ None
no_roots zero k = refl
no_roots (suc n) zero = refl
no_roots (suc n) (suc k) = no_roots n k

root_set : (roots : List (Option MemberId)) (i n : ℕ) (r : Option MemberId) → i < length roots → root_at (set roots i r) n ≡ (if nat_eq i n then r else root_at roots n)
root_set roots i n r within = go (eqb_tells i n)
  where
    go : ((nat_eq i n ≡ true) × (i ≡ n)) ⊎ ((nat_eq i n ≡ false) × (i ≢ n)) → root_at (set roots i r) n ≡ (if nat_eq i n then r else root_at roots n)
    go (inl (e, same)) = root_reads (set roots i r) n ∙ subst (λ k. get_or (set roots i r) k None ≡ r) same (get_or-set_same roots i r None within) ∙ ap (λ b. if b then r else root_at roots n) (sym e)
    go (inr (e, other)) = root_reads (set roots i r) n ∙ get_or-set_other roots i n r None (λ q. other (sym q)) ∙ sym (root_reads roots n) ∙ ap (λ b. if b then r else root_at roots n) (sym e)

either : (a b : Bool) (r s : Option MemberId) → (if b then r else (if a then r else s)) ≡ (if a || b then r else s)
either true true r s = refl
either true false r s = refl
either false true r s = refl
either false false r s = refl

pub root_more : (old now : List (Option MemberId)) (ms : List MemberId) (i : ℕ) (m : MemberId) (r : Option MemberId) → i < length ms → m ≡ get_or ms i m → m.0 < length now →
    ((n : ℕ) → root_at now n ≡ (if is_in (take i ms) n then r else root_at old n)) → (n : ℕ) → root_at (set now m.0 r) n ≡ (if is_in (take (i + 1) ms) n then r else root_at old n)
root_more old now ms i m r within is below before n =
    root_set now m.0 n r below ∙ ap (λ x. if nat_eq m.0 n then r else x) (before n) ∙ either (is_in (take i ms) n) (nat_eq m.0 n) r (root_at old n)
    ∙ ap (λ b. if b then r else root_at old n) (sym (take_is_in ms i m within is n)) ∙ ap (λ k. if is_in (take k ms) n then r else root_at old n) (sym (add-one i))
