-- Edges turned round, and where edges lead.
use Rattle.std.proofs.Common.{◌≡◌, ◌≢◌, ℕ, zero, suc, ◌<◌, ◌⊎◌, inl, inr, Bool, true, false, ◌&&◌, nat_eq, List, [], ◌∷◌, refl, ap, ◌∙◌, sym, Vec}
use Rattle.std.specs.Prelude.{All, not, ◌↔◌}
use Rattle.std.proofs.lemmas.Bool.{false≢true}
use Rattle.std.proofs.lemmas.Bool.Decides.{eqb_tells}
use Rattle.std.proofs.lemmas.List.Elements.{All-head, All-tail}
use Rattle.std.specs.declared.alloc.Global.{Global}
use Rattle.vx_ast.specs.declared.MemberId.{MemberId}
use Rattle.vx_graph.specs.Listed.{is_in, AreThose}
use Rattle.vx_graph.specs.Reach.{Rows, Reaches, at_once, further, leads, InRange}
use Rattle.vx_graph.proofs.Searches.{all_at}

-- one more edge at the end
pub leads_further : (rows : Rows) {from c b : ℕ} → Reaches rows from c → leads rows c b ≡ true → Reaches rows from b
leads_further rows (at_once l) m = further l (at_once m)
leads_further rows (further l more) m = further l (leads_further rows more m)

pub back : (rows sources : Rows) → ((a b : ℕ) → leads sources b a ≡ leads rows a b) → {a b : ℕ} → Reaches rows a b → Reaches sources b a
back rows sources turned {a} {b} (at_once l) = at_once (turned a b ∙ l)
back rows sources turned {a} (further {b = c} l more) = leads_further sources (back rows sources turned more) (turned a c ∙ l)

pub leads_within : (n : ℕ) (rows : Rows) → InRange n rows → (a b : ℕ) → leads rows a b ≡ true → b < n
leads_within n [] range a b l = absurd (false≢true l)
leads_within n (r ∷ rows) range zero b l = all_at (λ k. k < n) r.items b (All-head (λ (v : Vec MemberId Global). All (λ m. m.0 < n) v.items) r rows range) l
leads_within n (r ∷ rows) range (suc a) b l = leads_within n rows (All-tail (λ (v : Vec MemberId Global). All (λ m. m.0 < n) v.items) r rows range) a b l

pub reaches_within : (n : ℕ) (rows : Rows) → InRange n rows → {a b : ℕ} → Reaches rows a b → b < n
reaches_within n rows range {a} {b} (at_once l) = leads_within n rows range a b l
reaches_within n rows range (further l more) = reaches_within n rows range more

both_true : (a b : Bool) → (a && b) ≡ true → (a ≡ true) × (b ≡ true)
both_true true true e = (refl, refl)
both_true true false e = absurd (false≢true e)
both_true false b e = absurd (false≢true e)

true_both : (a b : Bool) → a ≡ true → b ≡ true → (a && b) ≡ true
true_both a b e f = ap (λ x. x && b) e ∙ f

-- who is collected is below the bound
is_below : (ms : List MemberId) (n k : ℕ) → All (λ m. m.0 < n) ms → is_in ms k ≡ true → k < n
is_below ms n k all e = all_at (λ x. x < n) ms k all e

pub those_of_both : (n : ℕ) (ms f g : List MemberId) (F G : ℕ → Type 0) → AreThose (λ k. is_in f k && is_in g k) n ms →
    ((k : ℕ) → (is_in f k ≡ true) ↔ F k) → ((k : ℕ) → (is_in g k ≡ true) ↔ G k) → ((k : ℕ) → F k → k < n) →
    (k : ℕ) → (is_in ms k ≡ true) ↔ (F k × G k)
those_of_both n ms f g F G t is_f is_g within k = (
  (λ e. let both = both_true (is_in f k) (is_in g k) (sym (t.members k (is_below ms n k t.within e)) ∙ e) in ((is_f k).0 both.0, (is_g k).0 both.1)),
  (λ both. t.members k (within k both.0) ∙ true_both (is_in f k) (is_in g k) ((is_f k).1 both.0) ((is_g k).1 both.1)),
)

differs : (a b : ℕ) → not (nat_eq a b) ≡ true → a ≢ b
differs a b e same = go (eqb_tells a b) e
  where
    go : ((nat_eq a b ≡ true) × (a ≡ b)) ⊎ ((nat_eq a b ≡ false) × (a ≢ b)) → not (nat_eq a b) ≡ true → ⊥
    go (inl (t, s)) e = false≢true (sym (ap not t) ∙ e)
    go (inr (f, other)) e = other same

differs_so : (a b : ℕ) → a ≢ b → not (nat_eq a b) ≡ true
differs_so a b other = go (eqb_tells a b)
  where
    go : ((nat_eq a b ≡ true) × (a ≡ b)) ⊎ ((nat_eq a b ≡ false) × (a ≢ b)) → not (nat_eq a b) ≡ true
    go (inl (t, same)) = absurd (other same)
    go (inr (f, o)) = ap not f

pub those_but_one : (n but : ℕ) (ms f : List MemberId) (F : ℕ → Type 0) → AreThose (λ k. not (nat_eq k but) && is_in f k) n ms →
    ((k : ℕ) → (is_in f k ≡ true) ↔ F k) → ((k : ℕ) → F k → k < n) →
    (k : ℕ) → (is_in ms k ≡ true) ↔ (F k × (k ≢ but))
those_but_one n but ms f F t is_f within k = (
  (λ e. let both = both_true (not (nat_eq k but)) (is_in f k) (sym (t.members k (is_below ms n k t.within e)) ∙ e) in ((is_f k).0 both.1, differs k but both.0)),
  (λ both. t.members k (within k both.0) ∙ true_both (not (nat_eq k but)) (is_in f k) (differs_so k but both.1) ((is_f k).1 both.0)),
)
