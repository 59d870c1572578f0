-- The tokens of a text by its first byte: what the definition by lines says of a space, a remark, a line feed and a byte of a token.
-- Assumes nothing.
use mathlib.Core.Path.{◌≡◌, refl, sym, ap, ◌∙◌}
use mathlib.Core.List.{List, [], ◌∷◌, ◌++◌, map, flat_map, append-nil, append_assoc}
use mathlib.Core.Bool.{Bool, true, false, not, cond, ◌||◌, true≢false, false≢true, or-true}
use Prim.Native.Nat.{ℕ}
use lib.Dec.{eqb}
use borrow.Author.Tests.{eqb-true}
use Rattle.lists.specs.Lists.{cons_if}
use Rattle.tokens.specs.Lines.{line_feed, space, semicolon, Line, on_first, lines, before_remark, without_remark, lines_without_remarks, is_blank, without_blank_lines}
use Rattle.tokens.specs.Tokens.{Token, is_bracket, is_word_byte, goes_on, extended, words, line_tokens, tokens, ended}
use Rattle.tokens.specs.TokensAfter.{left_after, tokens_after}

-- a line that has not begun is kept as every other one: the tokens of a text
left_after-fresh : (ls : List Line) → left_after false ls ≡ without_blank_lines ls
left_after-fresh [] = refl
left_after-fresh (l ∷ ls) = refl

pub tokens_after-fresh : (s : List ℕ) → tokens_after false s ≡ tokens s
unfolding tokens_after tokens
tokens_after-fresh s = ap (flat_map line_tokens) (left_after-fresh (lines_without_remarks s))

-- a text without a byte has no token
pub tokens_after-nil : (begun : Bool) → tokens_after begun [] ≡ []
unfolding tokens_after lines flat_map
tokens_after-nil begun = refl

-- the lines of a text that begins with a byte that ends no line and begins no remark
without_remark-on_first : (b : ℕ) (ls : List Line) → eqb b semicolon ≡ false → map without_remark (on_first b ls) ≡ on_first b (map without_remark ls)
unfolding on_first before_remark
without_remark-on_first b [] e = rw e
without_remark-on_first b (l ∷ ls) e = rw e

lines-byte : (b : ℕ) (bs : List ℕ) → eqb b line_feed ≡ false → eqb b semicolon ≡ false → lines_without_remarks (b ∷ bs) ≡ on_first b (lines_without_remarks bs)
unfolding lines
lines-byte b bs e f = rw e (without_remark-on_first b (lines bs) f)

-- the tokens of lines without remarks
abbrev tokens_on : Bool → List Line → List Token
tokens_on begun ls = flat_map line_tokens (left_after begun ls)

-- a space counts for nothing
tokens_on-space : (begun : Bool) (ls : List Line) → tokens_on begun (on_first space ls) ≡ tokens_on begun ls
unfolding on_first words line_tokens flat_map
tokens_on-space true [] = refl
tokens_on-space false [] = refl
tokens_on-space true (l ∷ ls) = refl
tokens_on-space false (l ∷ ls) = go (not (is_blank l))
  where
    go : (kept : Bool) → flat_map line_tokens (cons_if kept (record { content = space ∷ l.content; terminated = l.terminated }) (without_blank_lines ls)) ≡ flat_map line_tokens (cons_if kept l (without_blank_lines ls))
    go true = refl
    go false = refl

pub tokens_after-space : (begun : Bool) (bs : List ℕ) → tokens_after begun (space ∷ bs) ≡ tokens_after begun bs
unfolding tokens_after
tokens_after-space begun bs = rw (lines-byte space bs refl refl) (tokens_on-space begun (lines_without_remarks bs))

-- a line feed is a token where its line has begun, and counts for nothing where it is blank
pub tokens_after-line-feed : (bs : List ℕ) → tokens_after true (line_feed ∷ bs) ≡ (line_feed ∷ []) ∷ tokens_after false bs
unfolding tokens_after lines before_remark words line_tokens flat_map
tokens_after-line-feed bs = ap (λ ls. (line_feed ∷ []) ∷ flat_map line_tokens ls) (sym (left_after-fresh (lines_without_remarks bs)))

pub tokens_after-blank-line : (bs : List ℕ) → tokens_after false (line_feed ∷ bs) ≡ tokens_after false bs
unfolding tokens_after lines before_remark flat_map
tokens_after-blank-line bs = ap (flat_map line_tokens) (sym (left_after-fresh (lines_without_remarks bs)))

-- a remark takes the bytes after it, up to the line feed or the end of the text
pub tokens_after-remark-end : (begun : Bool) → tokens_after begun (semicolon ∷ []) ≡ tokens_after begun []
unfolding tokens_after lines on_first before_remark words line_tokens flat_map
tokens_after-remark-end true = refl
tokens_after-remark-end false = refl

pub tokens_after-remark-line-feed : (begun : Bool) (bs : List ℕ) → tokens_after begun (semicolon ∷ line_feed ∷ bs) ≡ tokens_after begun (line_feed ∷ bs)
unfolding tokens_after lines on_first before_remark
tokens_after-remark-line-feed begun bs = refl

remark-takes : (b : ℕ) (ls : List Line) → map without_remark (on_first semicolon (on_first b ls)) ≡ map without_remark (on_first semicolon ls)
unfolding on_first before_remark
remark-takes b [] = refl
remark-takes b (l ∷ ls) = refl

pub tokens_after-remark-byte : (begun : Bool) (b : ℕ) (bs : List ℕ) → eqb b line_feed ≡ false → tokens_after begun (semicolon ∷ b ∷ bs) ≡ tokens_after begun (semicolon ∷ bs)
unfolding tokens_after lines
tokens_after-remark-byte begun b bs e = rw e (ap (tokens_on begun) (remark-takes b (lines bs)))

-- the bytes of the first line
abbrev first_content : List Line → List ℕ
first_content [] = []
first_content (l ∷ ls) = l.content

-- a word goes on with a text as it does with the text's first line
goes_on-line : (bs : List ℕ) → goes_on (first_content (lines_without_remarks bs)) ≡ goes_on bs
unfolding lines on_first before_remark
goes_on-line [] = refl
goes_on-line (b ∷ bs) = go (eqb b line_feed) refl (eqb b semicolon) refl
  where
    on-first : (ls : List Line) → goes_on (first_content (on_first b ls)) ≡ is_word_byte b
    on-first [] = refl
    on-first (l ∷ ls) = refl

    in-remark : (ls : List Line) → goes_on (first_content (map without_remark (on_first semicolon ls))) ≡ false
    in-remark [] = refl
    in-remark (l ∷ ls) = refl

    go : (p : Bool) → eqb b line_feed ≡ p → (q : Bool) → eqb b semicolon ≡ q → goes_on (first_content (lines_without_remarks (b ∷ bs))) ≡ is_word_byte b
    go true e q f = rw (eqb-true b line_feed e)
    go false e true f = rw (eqb-true b semicolon f) (in-remark (lines bs))
    go false e false f = rw (lines-byte b bs e f) (on-first (lines_without_remarks bs))

-- a byte at the front of the first token makes one where there is none
pub extended-not-ended : (b : ℕ) (ts : List Token) → ended (extended b ts) ≡ false
unfolding extended
extended-not-ended b [] = refl
extended-not-ended b (t ∷ ts) = refl

-- where a word goes on there is a token
words-goes_on : (bs : List ℕ) → goes_on bs ≡ true → ended (words bs) ≡ false
unfolding words
words-goes_on [] e = absurd (false≢true e)
words-goes_on (b ∷ bs) e = go (eqb b space) refl (is_bracket b || not (goes_on bs)) refl
  where
    go : (p : Bool) → eqb b space ≡ p → (q : Bool) → (is_bracket b || not (goes_on bs)) ≡ q → ended (words (b ∷ bs)) ≡ false
    go true s q f = absurd (false≢true (rw s at e))
    go false s true f = rw (s, f)
    go false s false f = rw (s, f) (extended-not-ended b (words bs))

-- a byte at the front of the first of several tokens
pub extended-append : (b : ℕ) (ts us : List Token) → ended ts ≡ false → extended b ts ++ us ≡ extended b (ts ++ us)
unfolding extended
extended-append b [] us e = absurd (true≢false e)
extended-append b (t ∷ ts) us e = refl

-- a byte of a token: a bracket and the last byte of a word are tokens, another one stands at the front of the word that goes on
module _ (b : ℕ) (n : eqb b space ≡ false) where
  line-token : (c : List ℕ) (us : List Token) → words (b ∷ c) ++ us ≡ cond (is_bracket b || not (goes_on c)) ((b ∷ []) ∷ words c ++ us) (extended b (words c ++ us))
  unfolding words
  line-token c us = rw n (go (is_bracket b) (goes_on c) refl)
    where
      go : (p q : Bool) → goes_on c ≡ q → cond (p || not q) ((b ∷ []) ∷ words c) (extended b (words c)) ++ us ≡ cond (p || not q) ((b ∷ []) ∷ words c ++ us) (extended b (words c ++ us))
      go true q e = refl
      go false true e = extended-append b (words c) us (words-goes_on c e)
      go false false e = refl

  kept : (begun : Bool) (c : List ℕ) (e : Bool) (ls : List Line) → left_after begun (record { content = b ∷ c; terminated = e } ∷ ls) ≡ record { content = b ∷ c; terminated = e } ∷ without_blank_lines ls
  kept begun c e ls = rw (n, or-true begun)

  tokens_on-token : (begun : Bool) (ls : List Line) → tokens_on begun (on_first b ls) ≡ cond (is_bracket b || not (goes_on (first_content ls))) ((b ∷ []) ∷ tokens_on true ls) (extended b (tokens_on true ls))
  unfolding on_first line_tokens flat_map words
  tokens_on-token begun [] = rw (kept begun [] false []) (append-nil _ ∙ line-token [] [])
  tokens_on-token begun (l ∷ ls) =
      let end = cond l.terminated ((line_feed ∷ []) ∷ []) [] in
      let later = flat_map line_tokens (without_blank_lines ls) in
      rw (kept begun l.content l.terminated ls, append_assoc (words l.content) end later)
      (append_assoc (words (b ∷ l.content)) end later ∙ line-token l.content (end ++ later))

  pub tokens_after-token : (begun : Bool) (bs : List ℕ) → eqb b line_feed ≡ false → eqb b semicolon ≡ false
      → tokens_after begun (b ∷ bs) ≡ cond (is_bracket b || not (goes_on bs)) ((b ∷ []) ∷ tokens_after true bs) (extended b (tokens_after true bs))
  unfolding tokens_after
  tokens_after-token begun bs e f = rw (lines-byte b bs e f, ← goes_on-line bs) (tokens_on-token begun (lines_without_remarks bs))
