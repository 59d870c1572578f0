-- The tokens of a text that ends in a line feed stand before those of the text behind it, whatever that is. Assumes nothing.
use mathlib.Core.Path.{◌≡◌, refl, sym, ap, ◌∙◌}
use mathlib.Core.List.{List, [], ◌∷◌, ◌++◌, map, flat_map, map-append, append-nil}
use mathlib.Core.Bool.{Bool, true, false, not}
use Prim.Native.Nat.{ℕ}
use lib.Dec.{eqb}
use Rattle.lists.proofs.members.Counting.{filter-append}
use Rattle.lists.proofs.members.FlatMap.{flat_map-append}
use Rattle.tokens.specs.Lines.{line_feed, Line, on_first, lines, without_remark, is_blank, without_blank_lines}
use Rattle.tokens.specs.Tokens.{Token, line_tokens, tokens}

-- the lines of a text up to a line feed, of which there is at least one
record LinesTo (s : List ℕ) : Type 0 where
  first : Line
  others : List Line
  split : (t : List ℕ) → lines (s ++ line_feed ∷ t) ≡ first ∷ others ++ lines t

lines-after-byte : (b : ℕ) (s : List ℕ) (test : Bool) → eqb b line_feed ≡ test → LinesTo s → LinesTo (b ∷ s)
unfolding lines on_first
lines-after-byte b s true e later =
    record { first = record { content = []; terminated = true }; others = later.first ∷ later.others; split = λ t. rw (e, later.split t) }
lines-after-byte b s false e later =
    record {
      first = record { content = b ∷ later.first.content; terminated = later.first.terminated };
      others = later.others;
      split = λ t. rw (e, later.split t);
    }

lines-to : (s : List ℕ) → LinesTo s
unfolding lines
lines-to [] = record { first = record { content = []; terminated = true }; others = []; split = λ t. refl }
lines-to (b ∷ s) = lines-after-byte b s (eqb b line_feed) refl (lines-to s)

-- the tokens of lines
abbrev tokens_of : List Line → List Token
tokens_of ls = flat_map line_tokens (without_blank_lines (map without_remark ls))

tokens_of-append : (ls ms : List Line) → tokens_of (ls ++ ms) ≡ tokens_of ls ++ tokens_of ms
tokens_of-append ls ms =
    ap (λ xs. flat_map line_tokens (without_blank_lines xs)) (map-append without_remark ls ms)
    ∙ ap (flat_map line_tokens) (filter-append (λ l. not (is_blank l)) (map without_remark ls) (map without_remark ms))
    ∙ flat_map-append line_tokens (without_blank_lines (map without_remark ls)) (without_blank_lines (map without_remark ms))

pub tokens-behind-line : (s t : List ℕ) → tokens (s ++ line_feed ∷ t) ≡ tokens (s ++ line_feed ∷ []) ++ tokens t
unfolding tokens lines
tokens-behind-line s t =
    let l = lines-to s in
    let front = l.first ∷ l.others in
    let alone : tokens_of (lines (s ++ line_feed ∷ [])) ≡ tokens_of front = ap tokens_of (l.split [] ∙ append-nil front) in
    ap tokens_of (l.split t) ∙ tokens_of-append front (lines t) ∙ ap (λ ts. ts ++ tokens_of (lines t)) (sym alone)
