-- Tokens that are read as a term, within any lists and before any rest.
use Rattle.std.proofs.Common.{◌≡◌, ℕ, ◌&&◌, Bool, true, false, List, [], ◌∷◌, ◌++◌, Ok, refl, ap, ap₂, ◌∙◌, sym, subst, append_assoc, append-nil}
use Rattle.std.specs.declared.result.Result.{Result}
use Rattle.vx_sexp.specs.declared.token.Kind.{Kind}
use Rattle.vx_sexp.specs.declared.token.Token.{Token}
use Rattle.vx_sexp.specs.declared.token.Token.TheVariants.{Close, Atom}
use Rattle.vx_terms.specs.Terms.{Term}
use Rattle.vx_smt_meaning.specs.Words.{word, listed}
use Rattle.cs_commands.specs.declared.fault.CommandFault.{CommandFault}
use Rattle.cs_commands.specs.Outcomes.{◌>>=◌}
use Rattle.cs_commands.specs.Live.{Scope}
use Rattle.cs_commands.specs.Heads.{Head, head_at}
use Rattle.cs_commands.specs.Building.{built}
use Rattle.cs_commands.specs.Terms.{leaf, is_decimal, Frame, opened, with_part, Placed, placed, go_on, term_from}

-- what is left to read, behind a term
abbrev pub behind : Scope → Placed → List Token → Result (Term × List Token) CommandFault
behind scope p rest = go_on p rest (λ gs. term_from scope gs rest)

-- as a decimal, or as another term
abbrev pub ReadsAs : Scope → List Token → Bool → Term → Type 0
ReadsAs scope tokens decimal t = (fs : List Frame) (rest : List Token) → term_from scope fs (tokens ++ rest) ≡ behind scope (placed decimal t fs) rest

abbrev pub Reads : Scope → List Token → Term → Type 0
Reads scope tokens t = (decimal : Bool) × ReadsAs scope tokens decimal t

abbrev with_parts : Frame → Bool → List Term → Frame
with_parts f decimals ts = record { head = f.head; parts = f.parts ++ ts; decimals = f.decimals && decimals }

abbrev pub ReadsAllAs : Scope → List Token → Bool → List Term → Type 0
ReadsAllAs scope tokens decimals ts = (f : Frame) (fs : List Frame) (rest : List Token) → term_from scope (f ∷ fs) (tokens ++ rest) ≡ term_from scope (with_parts f decimals ts ∷ fs) rest

abbrev pub ReadsAll : Scope → List Token → List Term → Type 0
ReadsAll scope tokens ts = (decimals : Bool) × ReadsAllAs scope tokens decimals ts

same_frame : (h : Head) (ps qs : List Term) (b c : Bool) → ps ≡ qs → b ≡ c → ◌≡◌ {A = Frame} (record { head = h; parts = ps; decimals = b }) (record { head = h; parts = qs; decimals = c })
same_frame h ps qs b c e g = ap₂ (λ (xs : List Term) (d : Bool). let f : Frame = record { head = h; parts = xs; decimals = d } in f) e g

and_true : (b : Bool) → (b && true) ≡ b
and_true true = refl
and_true false = refl

and_assoc : (a b c : Bool) → ((a && b) && c) ≡ (a && (b && c))
and_assoc true b c = refl
and_assoc false b c = refl

pub atom_as : (scope : Scope) (k : Kind) (x : List ℕ) (t : Term) → leaf scope k x ≡ Ok t → ReadsAs scope (Atom k x ∷ []) (is_decimal k) t
atom_as scope k x t is fs rest = ap (λ o. o >>= after) is
  where
    after : Term → Result (Term × List Token) CommandFault
    after u = go_on (placed (is_decimal k) u fs) rest (λ gs. term_from scope gs rest)

pub none_as : (scope : Scope) → ReadsAllAs scope [] true []
none_as scope f fs rest =
    ap (λ g. term_from scope (g ∷ fs) rest) (same_frame f.head f.parts (f.parts ++ []) f.decimals (f.decimals && true) (sym (append-nil f.parts)) (sym (and_true f.decimals)))

pub more_as : (scope : Scope) (a b : List Token) (t : Term) (ts : List Term) (decimal decimals : Bool) → ReadsAs scope a decimal t → ReadsAllAs scope b decimals ts → ReadsAllAs scope (a ++ b) (decimal && decimals) (t ∷ ts)
more_as scope a b t ts decimal decimals e g f fs rest =
    ap (term_from scope (f ∷ fs)) (append_assoc a b rest)
    ∙ e (f ∷ fs) (b ++ rest)
    ∙ g (with_part f decimal t) fs rest
    ∙ ap (λ x. term_from scope (x ∷ fs) rest)
    (same_frame f.head ((f.parts ++ t ∷ []) ++ ts) (f.parts ++ t ∷ ts) ((f.decimals && decimal) && decimals) (f.decimals && (decimal && decimals))
    (append_assoc f.parts (t ∷ []) ts) (and_assoc f.decimals decimal decimals))

pub list_as : (scope : Scope) (w : List ℕ) (a : List Token) (h : Head) (decimals : Bool) (ts : List Term) (t : Term) → head_at scope (word w) ≡ Ok h → ReadsAllAs scope a decimals ts → built h decimals ts ≡ Ok t
    → ReadsAs scope (listed (word w ∷ a)) false t
list_as scope w a h decimals ts t head_is e is fs rest =
    ap (λ o. o >>= with_head) head_is
    ∙ ap (term_from scope (opened h ∷ fs)) (append_assoc a (Close ∷ []) rest)
    ∙ e (opened h) fs (Close ∷ rest)
    ∙ ap (λ o. (o >>= placing) >>= after) is
  where
    with_head : Head → Result (Term × List Token) CommandFault
    with_head g = term_from scope (opened g ∷ fs) ((a ++ Close ∷ []) ++ rest)

    placing : Term → Result Placed CommandFault
    placing u = Ok (placed false u fs)

    after : Placed → Result (Term × List Token) CommandFault
    after p = go_on p rest (λ gs. term_from scope gs rest)

-- ---- whether they are decimals or not

pub reads_atom : (scope : Scope) (k : Kind) (x : List ℕ) (t : Term) → leaf scope k x ≡ Ok t → Reads scope (Atom k x ∷ []) t
reads_atom scope k x t is = (is_decimal k, atom_as scope k x t is)

pub reads_none : (scope : Scope) → ReadsAll scope [] []
reads_none scope = (true, none_as scope)

pub reads_more : (scope : Scope) (a b : List Token) (t : Term) (ts : List Term) → Reads scope a t → ReadsAll scope b ts → ReadsAll scope (a ++ b) (t ∷ ts)
reads_more scope a b t ts e g = (e.0 && g.0, more_as scope a b t ts e.0 g.0 e.1 g.1)

pub reads_list : (scope : Scope) (w : List ℕ) (a : List Token) (h : Head) (ts : List Term) (t : Term) → head_at scope (word w) ≡ Ok h → ReadsAll scope a ts → ((decimals : Bool) → built h decimals ts ≡ Ok t) → Reads scope (listed (word w ∷ a)) t
reads_list scope w a h ts t head_is e is = (false, list_as scope w a h e.0 ts t head_is e.1 (is e.0))

-- one, two and three terms
pub reads_one : (scope : Scope) (a : List Token) (t : Term) → Reads scope a t → ReadsAll scope a (t ∷ [])
reads_one scope a t e = subst (λ x. ReadsAll scope x (t ∷ [])) (append-nil a) (reads_more scope a [] t [] e (reads_none scope))

pub reads_two : (scope : Scope) (a b : List Token) (t u : Term) → Reads scope a t → Reads scope b u → ReadsAll scope (a ++ b) (t ∷ u ∷ [])
reads_two scope a b t u e f = reads_more scope a b t (u ∷ []) e (reads_one scope b u f)

pub reads_three : (scope : Scope) (a b c : List Token) (t u v : Term) → Reads scope a t → Reads scope b u → Reads scope c v → ReadsAll scope (a ++ b ++ c) (t ∷ u ∷ v ∷ [])
reads_three scope a b c t u v e f g =
    subst (λ x. ReadsAll scope x (t ∷ u ∷ v ∷ [])) (sym (append_assoc a b c)) (reads_more scope a (b ++ c) t (u ∷ v ∷ []) e (reads_two scope b c u v f g))
