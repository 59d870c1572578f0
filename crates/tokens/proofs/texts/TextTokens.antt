-- What holds of the tokens of a text: none is empty or holds a space, and joined they are what is left of the text's lines, without their
-- spaces. The lines joined are the text. Assumes nothing.
use mathlib.Core.Path.{◌≡◌, refl, sym, ap, ap₂, ◌∙◌}
use mathlib.Core.List.{List, [], ◌∷◌, ◌++◌, flat_map, flatten}
use mathlib.Core.List.Memᴰ.{head as here}
use mathlib.Core.List.Memᴰ.{tail as there}
use mathlib.Core.List.{Memᴰ as Mem}
use mathlib.Core.Bool.{Bool, true, false, not, cond}
use Prim.Native.Nat.{ℕ}
use lib.Dec.{eqb}
use borrow.Author.Tests.{eqb-true}
use Rattle.lists.specs.Lists.{all, elem}
use Rattle.lists.proofs.members.Counting.{mem-all, reject-mem, filter-append}
use Rattle.lists.proofs.members.Each.{all_append}
use Rattle.lists.proofs.members.FlatMap.{flatten-append}
use Rattle.tokens.specs.Lines.{line_feed, space, Line, on_first, lines, lines_without_remarks, is_blank, without_blank_lines}
use Rattle.tokens.specs.Tokens.{Token, words, line_tokens, tokens}
use Rattle.tokens.specs.Tokenised.{Tokenised, has_byte, without_spaces, line_bytes}
use Rattle.tokens.proofs.texts.Tokenised.{lines-tokenised}
use Rattle.tokens.proofs.texts.LineTokens.{no-token-is-empty, no-token-holds-a-space, tokens-joined}

-- the lines of a text, with the line feeds that end them, are the text
pub lines-joined : (s : List ℕ) → flat_map line_bytes (lines s) ≡ s
unfolding lines on_first flat_map
lines-joined [] = refl
lines-joined (b ∷ s) = go (eqb b line_feed) refl (lines s) (lines-joined s)
  where
    go : (p : Bool) → eqb b line_feed ≡ p → (ls : List Line) → flat_map line_bytes ls ≡ s → flat_map line_bytes (cond p (record { content = []; terminated = true } ∷ ls) (on_first b ls)) ≡ b ∷ s
    go true e ls later = ap₂ (λ c cs. c ∷ cs) (sym (eqb-true b line_feed e)) later
    go false e [] later = ap (λ cs. b ∷ cs) later
    go false e (l ∷ ls) later = ap (λ cs. b ∷ cs) later

-- of each line `words` gives the tokens
abbrev AllTokenised : List Line → Type 0
AllTokenised ls = (l : Line) → Mem l ls → Tokenised l.content (words l.content)

line-joined : (l : Line) → Tokenised l.content (words l.content) → flatten (line_tokens l) ≡ without_spaces (line_bytes l)
unfolding line_tokens flatten
line-joined l d =
    flatten-append (words l.content) _ ∙ ap₂ ◌++◌ (tokens-joined d) (ending l.terminated) ∙ sym (filter-append (λ b. not (eqb b space)) l.content _)
  where
    ending : (e : Bool) → flatten (cond e ((line_feed ∷ []) ∷ []) []) ≡ without_spaces (cond e (line_feed ∷ []) [])
    ending true = refl
    ending false = refl

all-joined : (ls : List Line) → AllTokenised ls → flatten (flat_map line_tokens ls) ≡ without_spaces (flat_map line_bytes ls)
unfolding flat_map flatten
all-joined [] h = refl
all-joined (l ∷ ls) h =
    flatten-append (line_tokens l) (flat_map line_tokens ls) ∙ ap₂ ◌++◌ (line-joined l (h l (here refl))) (all-joined ls (λ k m. h k (there m)))
    ∙ sym (filter-append (λ b. not (eqb b space)) (line_bytes l) (flat_map line_bytes ls))

-- so it does of each line that is left of a text
left-tokenised : (s : List ℕ) → AllTokenised (without_blank_lines (lines_without_remarks s))
left-tokenised s l m = lines-tokenised s (reject-mem is_blank (lines_without_remarks s) m).0

pub tokens-of-text-joined : (s : List ℕ) → flatten (tokens s) ≡ without_spaces (flat_map line_bytes (without_blank_lines (lines_without_remarks s)))
unfolding tokens
tokens-of-text-joined s = all-joined (without_blank_lines (lines_without_remarks s)) (left-tokenised s)

-- a test that a line feed and the tokens of every line pass
module _ (p : Token → Bool) (line-feed-passes : p (line_feed ∷ []) ≡ true) (passes : (bs : List ℕ) (ts : List Token) → Tokenised bs ts → (t : Token) → Mem t ts → p t ≡ true) where
  all_pass : (ls : List Line) → AllTokenised ls → all p (flat_map line_tokens ls) ≡ true
  unfolding flat_map line_tokens
  all_pass [] h = refl
  all_pass (l ∷ ls) h =
      all_append p (line_tokens l) (flat_map line_tokens ls)
      (all_append p (words l.content) _ (mem-all p (words l.content) (λ t m. passes l.content (words l.content) (h l (here refl)) t m)) (ending l.terminated))
      (all_pass ls (λ k m. h k (there m)))
    where
      ending : (e : Bool) → all p (cond e ((line_feed ∷ []) ∷ []) []) ≡ true
      ending true = rw line-feed-passes
      ending false = refl

  all-tokens-pass : (s : List ℕ) → all p (tokens s) ≡ true
  unfolding tokens
  all-tokens-pass s = all_pass (without_blank_lines (lines_without_remarks s)) (left-tokenised s)

pub tokens-have-bytes : (s : List ℕ) → all has_byte (tokens s) ≡ true
tokens-have-bytes s = all-tokens-pass has_byte refl (λ bs ts d t m. no-token-is-empty d m) s

pub tokens-hold-no-space : (s : List ℕ) → all (λ t. not (elem space t)) (tokens s) ≡ true
tokens-hold-no-space s = all-tokens-pass (λ t. not (elem space t)) refl (λ bs ts d t m. rw (no-token-holds-a-space d m)) s
