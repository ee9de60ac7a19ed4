-- What is heard: the items that are read.
use Rattle.std.specs.Prelude.{◌≡◌, ℕ, true, List, [], ◌∷◌, ◌++◌, length}
use Rattle.vx_sexp.specs.declared.token.Token.{Token}
use Rattle.vx_dialogue.specs.declared.item.Wanted.{Wanted}
use Rattle.vx_dialogue.specs.declared.item.Wanted.TheVariants as wanted
use Rattle.vx_dialogue.specs.Items.{ShortItems, is_lawful}

abbrev pub all_lawful : Wanted → List (List Token) → Type 0
all_lawful w [] = Unit {0}
all_lawful w (item ∷ items) = (is_lawful w item ≡ true) × all_lawful w items

-- So many items are read, each a success.
abbrev pub ReadsSuccesses : ℕ → List ℕ → List ℕ → List ℕ → List ℕ → Type 0
ReadsSuccesses n got_old unread_old got_new unread_new = (more : List ℕ) × (got_new ≡ got_old ++ more) × (items : List (List Token))
    × ShortItems (unread_old ++ more) items unread_new × (length items ≡ n) × all_lawful wanted.Success items
