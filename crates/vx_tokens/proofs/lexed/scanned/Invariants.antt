use Rattle.std.proofs.Common.{◌≡◌, ◌≤◌, ◌+◌, length}
use Rattle.vx_tokens.specs.Tokens.{kind_of, tokens_in}
use Rattle.std.specs.List.{AllByRecursion}
use Rattle.vx_tokens.specs.Text.{first_place}
use Rattle.vx_tokens.specs.Standing.{IsReached, TokenAt}
use Rattle.vx_tokens.specs.Scanning.{scan}
use Rattle.vx_tokens.proofs.Scan.{followed_by}
use Rattle.vx_tokens.proofs.lexed.scanned.Given as goal

-- the tokens so far, and those of what is left, are those of the text
abbrev pub invariant-loop-tokens : goal.invariant-loop-tokens
invariant-loop-tokens l = record {
  scanned : followed_by (tokens_in l.tokens.items) (scan 0 l.place l.rest) ≡ scan 0 first_place l.text;
  texts : AllByRecursion (λ t. TokenAt l.text t.place (kind_of t.kind) t.text.now) l.tokens.items;
  reached : IsReached l.text l.place l.rest;
  line : l.place.line + length l.rest ≤ 4194305;
  column : l.place.column + length l.rest ≤ 4194305;
}

abbrev pub decreases-loop-tokens : goal.decreases-loop-tokens
decreases-loop-tokens l = length l.rest
