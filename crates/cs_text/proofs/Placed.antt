-- Tokens that the grammar of terms reads, before any rest.
use Rattle.std.proofs.Common.{◌≡◌, ℕ, zero, suc, ◌≤◌, ◌<◌, Bool, true, false, List, [], ◌∷◌, ◌++◌, Option, Some, length, refl, ap, ◌∙◌, sym, subst, append_assoc, append-nil, length-append, arith}
use Rattle.vx_sexp.specs.declared.token.Kind.{Kind}
use Rattle.vx_sexp.specs.declared.token.Token.{Token}
use Rattle.vx_sexp.specs.declared.token.Token.TheVariants.{Open, Close, Atom}
use Rattle.vx_terms.specs.Terms.{Term}
use Rattle.vx_smt_meaning.specs.Words as written
use Rattle.cs_reader.specs.Items.{◌>>=◌, with_front, with_item, items_for}
use Rattle.cs_reader.specs.Spelling.{Scope, word, leaf, made, Reader, part_at, parts_at, spelled_at}

-- a token that doesn't close a list, and perhaps more
abbrev starts : List Token → Bool
starts [] = false
starts (Close ∷ ts) = false
starts (t ∷ ts) = true

pub record Reads (scope : Scope) (tokens : List Token) (t : Term) : Type 0 where
  pub some : starts tokens ≡ true
  pub all : (room : ℕ) (rest : List Token) → length tokens ≤ room → spelled_at scope room (tokens ++ rest) ≡ Some (t, rest)

pub record ReadsAll (scope : Scope) (tokens : List Token) (ts : List Term) : Type 0 where
  pub all : (room n : ℕ) (rest : List Token) → length tokens ≤ room → length tokens < n → items_for (part_at (spelled_at scope room)) n (tokens ++ Close ∷ rest) ≡ Some (ts, rest)

pub reads_atom : (scope : Scope) (k : Kind) (x : List ℕ) (t : Term) → leaf scope (Atom k x) ≡ Some t → Reads scope (Atom k x ∷ []) t
reads_atom scope k x t e = record { some = refl; all = go }
  where
    go : (room : ℕ) (rest : List Token) → 1 ≤ room → spelled_at scope room (Atom k x ∷ rest) ≡ Some (t, rest)
    go zero rest h = absurd (omega arith)
    go (suc room) rest h = ap (λ o. o >>= λ u. Some (u, rest)) e

pub reads_none : (scope : Scope) → ReadsAll scope [] []
reads_none scope = record { all = go }
  where
    go : (room n : ℕ) (rest : List Token) → 0 ≤ room → 0 < n → items_for (part_at (spelled_at scope room)) n (Close ∷ rest) ≡ Some ([], rest)
    go room zero rest h k = absurd (omega arith)
    go room (suc n) rest h k = refl

part_of : (read : Reader) (a rest : List Token) → starts a ≡ true → part_at read (a ++ rest) ≡ (read (a ++ rest) >>= λ x. Some (Some x.0, x.1))
part_of read [] rest e = absurd (cc)
part_of read (Open ∷ a) rest e = refl
part_of read (Close ∷ a) rest e = absurd (cc)
part_of read (Atom k x ∷ a) rest e = refl

some_long : (a : List Token) → starts a ≡ true → 0 < length a
some_long [] e = absurd (cc)
some_long (t ∷ a) e = omega arith

pub reads_more : (scope : Scope) (a b : List Token) (t : Term) (ts : List Term) → Reads scope a t → ReadsAll scope b ts → ReadsAll scope (a ++ b) (t ∷ ts)
reads_more scope a b t ts e g = record { all = go }
  where
    after : (room n : ℕ) → Option Term × List Token → Option (List Term × List Token)
    after room n m = with_item m.0 (items_for (part_at (spelled_at scope room)) n m.1) m.1

    go : (room n : ℕ) (rest : List Token) → length (a ++ b) ≤ room → length (a ++ b) < n → items_for (part_at (spelled_at scope room)) n ((a ++ b) ++ Close ∷ rest) ≡ Some (t ∷ ts, rest)
    go room zero rest h k = absurd (omega arith)
    go room (suc n) rest h k =
        let long = length-append a b in
        let some = some_long a e.some in
        ap (items_for (part_at (spelled_at scope room)) (suc n)) (append_assoc a b (Close ∷ rest))
        ∙ ap (λ o. o >>= after room n) (part_of (spelled_at scope room) a (b ++ Close ∷ rest) e.some ∙ ap (λ o. o >>= λ x. Some (Some x.0, x.1)) (e.all room (b ++ Close ∷ rest) (omega arith)))
        ∙ ap (with_front (t ∷ [])) (g.all room n rest (omega arith) (omega arith))

pub reads_list : (scope : Scope) (w : List ℕ) (a : List Token) (ts : List Term) (t : Term) → ReadsAll scope a ts → made scope w (word w) ts ≡ Some t → Reads scope (written.listed (written.word w ∷ a)) t
reads_list scope w a ts t e is = record { some = refl; all = go }
  where
    finish : List Term × List Token → Option (Term × List Token)
    finish parts = made scope w (word w) parts.0 >>= λ u. Some (u, parts.1)

    go : (room : ℕ) (rest : List Token) → length (written.listed (written.word w ∷ a)) ≤ room → spelled_at scope room (written.listed (written.word w ∷ a) ++ rest) ≡ Some (t, rest)
    go zero rest h = absurd (omega arith)
    go (suc room) rest h =
        let long = length-append a (Close ∷ []) in
        let whole = length-append a (Close ∷ rest) in
        ap (λ us. parts_at (spelled_at scope room) us >>= finish) (append_assoc a (Close ∷ []) rest)
        ∙ ap (λ o. o >>= finish) (e.all room (length (a ++ Close ∷ rest)) rest (omega arith) (omega arith))
        ∙ ap (λ o. o >>= λ u. Some (u, rest)) is

-- one, two and three terms
pub reads_one : (scope : Scope) (a : List Token) (t : Term) → Reads scope a t → ReadsAll scope a (t ∷ [])
reads_one scope a t e = subst (λ x. ReadsAll scope x (t ∷ [])) (append-nil a) (reads_more scope a [] t [] e (reads_none scope))

pub reads_two : (scope : Scope) (a b : List Token) (t u : Term) → Reads scope a t → Reads scope b u → ReadsAll scope (a ++ b) (t ∷ u ∷ [])
reads_two scope a b t u e f = reads_more scope a b t (u ∷ []) e (reads_one scope b u f)

pub reads_three : (scope : Scope) (a b c : List Token) (t u v : Term) → Reads scope a t → Reads scope b u → Reads scope c v → ReadsAll scope (a ++ b ++ c) (t ∷ u ∷ v ∷ [])
reads_three scope a b c t u v e f g =
    subst (λ x. ReadsAll scope x (t ∷ u ∷ v ∷ [])) (sym (append_assoc a b c)) (reads_more scope a (b ++ c) t (u ∷ v ∷ []) e (reads_two scope b c u v f g))
