-- The line of each method is scanned as its tokens.
use Rattle.std.proofs.Common.{◌≡◌, ◌∙◌, ℕ, zero, suc, ◌+◌, ◌≤◌, List, ◌∷◌, ◌++◌, refl, sym, ap, append_assoc}
use Rattle.std.specs.Prelude.{codes}
use Rattle.std.specs.Fmt.{decimal}
use Rattle.vx_ast.specs.declared.Place.{Place}
use Rattle.vx_tokens.specs.declared.token.Word.TheVariants as words
use Rattle.vx_tokens.specs.Tokens.{Token, name, number, word}
use Rattle.vx_tokens.specs.Text.{one_token}
use Rattle.vx_tokens.specs.Scanning.{scan, next, word_next, numeral_next, Scanned, with_token}
use Rattle.vx_tokens.proofs.Scan.{followed_by}
use Rattle.vx_gen.specs.Generated as text
use Rattle.vx_gen.specs.Programs.{line, digits}
use Rattle.vx_gen.proofs.Parts.{right_of, name_part, number_part}

pub followed_on : (ts us : List Token) (s : Scanned) → followed_by ts (followed_by us s) ≡ followed_by (ts ++ us) s
followed_on ts us s = ap (λ (l : List Token). let u : Scanned = record { tokens = l; ending = s.ending } in u) (sym (append_assoc ts us s.tokens))

-- ---- the parts of a line without digits

abbrev pub list_middle : List ℕ
list_middle = codes "(x: Ref, v: Int) requires list(x) ensures list(x) { unfold list(x) x.value := v + "

abbrev pub list_back : List ℕ
list_back = codes " fold list(x) }\n"

abbrev pub tree_middle : List ℕ
tree_middle = codes "(x: Ref, v: Int) requires tree(x) ensures tree(x) { unfold tree(x) x.value := v + "

abbrev pub tree_back : List ℕ
tree_back = codes " fold tree(x) }\n"

abbrev pub account_middle : List ℕ
account_middle = codes "(x: Ref, v: Int) requires acc(x.value) && 0 <= v ensures acc(x.value) && x.value == old(x.value) + v + "

abbrev pub account_back : List ℕ
account_back = codes " { x.value := x.value + v + "

abbrev pub account_end : List ℕ
account_end = codes " }\n"

abbrev pub method_word : ℕ → Token
method_word l = one_token (word words.Method) (line l 1)

-- the tokens of bytes from a place on
abbrev pub tokens : Place → List ℕ → List Token
tokens p bytes = (scan 0 p bytes).tokens

method_front : (l : ℕ) (rest : List ℕ) → scan 0 (line l 1) (codes "method " ++ rest) ≡ with_token (method_word l) (scan 0 (line l 8) rest)
unfolding scan next word_next
method_front l rest = refl

list_middle_part : (l d : ℕ) (rest : List ℕ) → scan 0 (right_of (line l d) 12) (list_middle ++ rest) ≡ followed_by (tokens (right_of (line l d) 12) list_middle) (scan 0 (right_of (line l d) 94) rest)
unfolding scan next word_next
list_middle_part l d rest = refl

list_back_part : (l d : ℕ) (rest : List ℕ) → scan 0 (right_of (line l d) 94) (list_back ++ rest) ≡ followed_by (tokens (right_of (line l d) 94) list_back) (scan 0 (line (l + 1) 1) rest)
unfolding scan next word_next
list_back_part l d rest = refl

tree_middle_part : (l d : ℕ) (rest : List ℕ) → scan 0 (right_of (line l d) 12) (tree_middle ++ rest) ≡ followed_by (tokens (right_of (line l d) 12) tree_middle) (scan 0 (right_of (line l d) 94) rest)
unfolding scan next word_next
tree_middle_part l d rest = refl

tree_back_part : (l d : ℕ) (rest : List ℕ) → scan 0 (right_of (line l d) 94) (tree_back ++ rest) ≡ followed_by (tokens (right_of (line l d) 94) tree_back) (scan 0 (line (l + 1) 1) rest)
unfolding scan next word_next
tree_back_part l d rest = refl

account_middle_part : (l d : ℕ) (rest : List ℕ) → scan 0 (right_of (line l d) 15) (account_middle ++ rest) ≡ followed_by (tokens (right_of (line l d) 15) account_middle) (scan 0 (right_of (line l d) 118) rest)
unfolding scan next word_next numeral_next
account_middle_part l d rest = refl

account_back_part : (l d : ℕ) (rest : List ℕ) → scan 0 (right_of (line l d) 118) (account_back ++ rest) ≡ followed_by (tokens (right_of (line l d) 118) account_back) (scan 0 (right_of (line l d) 146) rest)
unfolding scan next word_next
account_back_part l d rest = refl

account_end_part : (l d : ℕ) (rest : List ℕ) → scan 0 (right_of (line l d) 146) (account_end ++ rest) ≡ followed_by (tokens (right_of (line l d) 146) account_end) (scan 0 (line (l + 1) 1) rest)
unfolding scan next word_next
account_end_part l d rest = refl

-- ---- the tokens of a method

spread : (x d m b rest : List ℕ) → (x ++ d ++ m ++ d ++ b) ++ rest ≡ (x ++ d) ++ (m ++ (d ++ (b ++ rest)))
spread x d m b rest = append_assoc (x ++ d ++ m ++ d) b rest ∙ append_assoc (x ++ d ++ m) d (b ++ rest) ∙ append_assoc (x ++ d) m (d ++ (b ++ rest))

spread_more : (x d m c e rest : List ℕ) → ((x ++ d ++ m ++ d) ++ (c ++ d ++ e)) ++ rest ≡ (x ++ d) ++ (m ++ (d ++ (c ++ (d ++ (e ++ rest)))))
spread_more x d m c e rest =
    let behind = c ++ (d ++ (e ++ rest)) in
    append_assoc (x ++ d ++ m ++ d) (c ++ d ++ e) rest
    ∙ ap (λ l. (x ++ d ++ m ++ d) ++ l) (append_assoc (c ++ d) e rest ∙ append_assoc c d (e ++ rest))
    ∙ append_assoc (x ++ d ++ m) d behind ∙ append_assoc (x ++ d) m (d ++ behind)

abbrev method_name : ℕ → List ℕ → Token
method_name l x = one_token (name x) (line l 8)

abbrev number_at : (l d c i : ℕ) → Token
number_at l d c i = one_token (number i) (right_of (line l d) c)

-- behind the method's first word, where a number moves what stands behind it by d, and two numbers by e
abbrev list_tokens : (l d e i : ℕ) → List ℕ → List Token
list_tokens l d e i x = method_name l x ∷ (tokens (right_of (line l d) 12) list_middle ++ number_at l d 94 i ∷ tokens (right_of (line l e) 94) list_back)

abbrev tree_tokens : (l d e i : ℕ) → List ℕ → List Token
tree_tokens l d e i x = method_name l x ∷ (tokens (right_of (line l d) 12) tree_middle ++ number_at l d 94 i ∷ tokens (right_of (line l e) 94) tree_back)

abbrev account_tokens : (l d e f i : ℕ) → List ℕ → List Token
account_tokens l d e f i x =
    method_name l x ∷ (tokens (right_of (line l d) 15) account_middle ++ number_at l d 118 i ∷ (tokens (right_of (line l e) 118) account_back ++ number_at l e 146 i ∷ tokens (right_of (line l f) 146) account_end))

list_scanned : (l i : ℕ) (rest : List ℕ) → i ≤ 2000 → scan 0 (line l 1) (text.list_method i ++ rest) ≡ followed_by (method_word l ∷ list_tokens l (digits i) (digits i + digits i) i (codes "list" ++ decimal i)) (scan 0 (line (l + 1) 1) rest)
list_scanned l i rest le =
    let d = digits i in
    ap (λ t. scan 0 (line l 1) (codes "method " ++ t)) (spread (codes "list") (decimal i) list_middle list_back rest)
    ∙ method_front l _
    ∙ ap (with_token (method_word l)) (name_part l 12 i (codes "list") _ le (refl, (refl, (refl, (refl, tt)))) refl refl
    ∙ ap (with_token (method_name l (codes "list" ++ decimal i))) (list_middle_part l d _
    ∙ ap (followed_by (tokens (right_of (line l d) 12) list_middle)) (number_part l d 94 i 32 _ le refl ∙ ap (with_token (number_at l d 94 i)) (list_back_part l (d + d) rest))
    ∙ followed_on (tokens (right_of (line l d) 12) list_middle) (number_at l d 94 i ∷ tokens (right_of (line l (d + d)) 94) list_back) (scan 0 (line (l + 1) 1) rest)))

tree_scanned : (l i : ℕ) (rest : List ℕ) → i ≤ 2000 → scan 0 (line l 1) (text.tree_method i ++ rest) ≡ followed_by (method_word l ∷ tree_tokens l (digits i) (digits i + digits i) i (codes "tree" ++ decimal i)) (scan 0 (line (l + 1) 1) rest)
tree_scanned l i rest le =
    let d = digits i in
    ap (λ t. scan 0 (line l 1) (codes "method " ++ t)) (spread (codes "tree") (decimal i) tree_middle tree_back rest)
    ∙ method_front l _
    ∙ ap (with_token (method_word l)) (name_part l 12 i (codes "tree") _ le (refl, (refl, (refl, (refl, tt)))) refl refl
    ∙ ap (with_token (method_name l (codes "tree" ++ decimal i))) (tree_middle_part l d _
    ∙ ap (followed_by (tokens (right_of (line l d) 12) tree_middle)) (number_part l d 94 i 32 _ le refl ∙ ap (with_token (number_at l d 94 i)) (tree_back_part l (d + d) rest))
    ∙ followed_on (tokens (right_of (line l d) 12) tree_middle) (number_at l d 94 i ∷ tokens (right_of (line l (d + d)) 94) tree_back) (scan 0 (line (l + 1) 1) rest)))

account_scanned : (l i : ℕ) (rest : List ℕ) → i ≤ 2000 → scan 0 (line l 1) (text.account_method i ++ rest) ≡ followed_by (method_word l ∷ account_tokens l (digits i) (digits i + digits i) (digits i + digits i + digits i) i (codes "account" ++ decimal i)) (scan 0 (line (l + 1) 1) rest)
account_scanned l i rest le =
    let d = digits i in
    ap (λ t. scan 0 (line l 1) (codes "method " ++ t)) (spread_more (codes "account") (decimal i) account_middle account_back account_end rest)
    ∙ method_front l _
    ∙ ap (with_token (method_word l)) (name_part l 15 i (codes "account") _ le (refl, (refl, (refl, (refl, (refl, (refl, (refl, tt))))))) refl refl
    ∙ ap (with_token (method_name l (codes "account" ++ decimal i))) (account_middle_part l d _
    ∙ ap (followed_by (tokens (right_of (line l d) 15) account_middle)) (number_part l d 118 i 32 _ le refl
    ∙ ap (with_token (number_at l d 118 i)) (account_back_part l (d + d) _
    ∙ ap (followed_by (tokens (right_of (line l (d + d)) 118) account_back)) (number_part l (d + d) 146 i 32 _ le refl ∙ ap (with_token (number_at l (d + d) 146 i)) (account_end_part l (d + d + d) rest))
    ∙ followed_on (tokens (right_of (line l (d + d)) 118) account_back) (number_at l (d + d) 146 i ∷ tokens (right_of (line l (d + d + d)) 146) account_end) (scan 0 (line (l + 1) 1) rest)))
    ∙ followed_on (tokens (right_of (line l d) 15) account_middle)
    (number_at l d 118 i ∷ (tokens (right_of (line l (d + d)) 118) account_back ++ number_at l (d + d) 146 i ∷ tokens (right_of (line l (d + d + d)) 146) account_end)) (scan 0 (line (l + 1) 1) rest)))

-- by the kind whose turn it is
abbrev pub tokens_by : (turn l d e f i : ℕ) → List Token
tokens_by zero l d e f i = list_tokens l d e i (codes "list" ++ decimal i)
tokens_by (suc zero) l d e f i = account_tokens l d e f i (codes "account" ++ decimal i)
tokens_by (suc (suc k)) l d e f i = tree_tokens l d e i (codes "tree" ++ decimal i)

pub method_scanned : (k l i : ℕ) (rest : List ℕ) → i ≤ 2000 → scan 0 (line l 1) (text.method_by k i ++ rest) ≡ followed_by (method_word l ∷ tokens_by k l (digits i) (digits i + digits i) (digits i + digits i + digits i) i) (scan 0 (line (l + 1) 1) rest)
method_scanned zero l i rest le = list_scanned l i rest le
method_scanned (suc zero) l i rest le = account_scanned l i rest le
method_scanned (suc (suc k)) l i rest le = tree_scanned l i rest le
