-- The next token at a place of a text: whether one is left, its bytes, and the tokens behind it. Assumes nothing.
use mathlib.Core.Path.{◌≡◌, sym, ap, ◌∙◌}
use mathlib.Core.List.{List, [], ◌∷◌}
use mathlib.Core.Bool.{false, not, cond, true≢false}
use Prim.Native.Nat.{ℕ, suc, ◌+◌, ◌-◌, ◌≤◌, ◌<◌, min}
use native.Mathlib.Nat.{add-zero, sub_self}
use native.Mathlib.Omega.{arith}
use lib.ListN.{length, get_or, take, drop, length-take, length-drop}
use lib.Seq.{drop-drop, get_or-drop}
use lib.Dec.{eqb}
use borrow.Author.Tests.{eq-eqb, ne_eqb}
use mathlib.Core.Logic.{⊎_elim}
use Rattle.lists.proofs.Cases.{lt-or-ge}
use Rattle.lists.proofs.places.Passing.{drop-next}
use Rattle.tokens.specs.Lines.{line_feed}
use Rattle.tokens.specs.Tokens.{first, rest, ended}
use Rattle.tokens.specs.TokensAfter.{tokens_after, is_delimiter, counts_for_nothing}
use Rattle.tokens.proofs.texts.Words.{token_begins}
use Rattle.tokeniser.specs.Places.{tokens_at, inside}
use Rattle.tokeniser.specs.NextToken.{bytes_of, blanks, token_start, next_token}
use Rattle.tokeniser.specs.internal.Scanned.{word_bytes, token_bytes}
use Rattle.tokeniser.specs.declared.Cursor.{Cursor}
use Rattle.tokeniser.specs.declared.Token as token
use Rattle.tokeniser.proofs.Places.{tokens-end, tokens-inside, inside-text}
use Rattle.tokeniser.proofs.Blanks.{blanks-within, blanks-stop, blanks-same-tokens}
use Rattle.tokeniser.proofs.FirstToken.{token_bytes-within, first-token}

-- the token t is the first at the place c; it has no byte where there is none
pub record NextToken (s : List ℕ) (c : Cursor) (t : token.Token) : Type 0 where
  pub ordered : t.from ≤ t.to
  pub inside : t.to ≤ length s
  pub next_inside : t.next.at ≤ length s
  pub advances : ended (tokens_at s c) ≡ false → c.at < t.next.at
  pub is_first : bytes_of s t ≡ first (tokens_at s c)
  pub then_rest : tokens_at s t.next ≡ rest (tokens_at s c)

module _ (s : List ℕ) (c : Cursor) where
  -- the bytes before the next token's start take away no token, and there a token begins, or the text ends
  pub start-within : token_start s c ≤ length s
  start-within = omega (arith, inside-text s c, blanks-within c.begun false (drop (inside s c).at s), length-drop (inside s c).at s)

  start-same : tokens_at s c ≡ tokens_after c.begun (drop (token_start s c) s)
  unfolding tokens_at inside
  start-same =
      sym (tokens-inside s c) ∙ blanks-same-tokens c.begun (drop (min c.at (length s)) s)
      ∙ ap (tokens_after c.begun) (drop-drop (blanks c.begun false (drop (min c.at (length s)) s)) (min c.at (length s)) s)

  start-counts : token_start s c < length s → counts_for_nothing c.begun (get_or s (token_start s c) 0) ≡ false
  start-counts h =
      rw get_or-drop at (blanks-stop c.begun false (drop (inside s c).at s) (omega (arith, length-drop (inside s c).at s)))

  -- found from the place inside the text that counts for this one
  pub start-from-inside : {here : Cursor} {from : ℕ} → here ≡ inside s c → from ≡ here.at + blanks here.begun false (drop here.at s) → from ≡ token_start s c
  unfolding inside
  start-from-inside e found = found ∙ ap (λ p. p.at + blanks p.begun false (drop p.at s)) e

  -- at the end of the text no token is left
  none-at-end : token_start s c ≡ length s → tokens_at s c ≡ []
  none-at-end e = start-same ∙ tokens-end c.begun s (token_start s c) (omega arith)

  pub next-at-end : token_start s c ≡ length s → next_token s c ≡ record { from = token_start s c; to = token_start s c; next = record { at = token_start s c; begun = c.begun } }
  unfolding next_token
  next-at-end e = rw (none-at-end e, add-zero (token_start s c))

  -- whether no token is left
  pub ended_at : eqb (token_start s c) (length s) ≡ ended (tokens_at s c)
  ended_at = ⊎_elim before at-end (lt-or-ge (token_start s c) (length s))
    where
      before : token_start s c < length s → eqb (token_start s c) (length s) ≡ ended (tokens_at s c)
      before h =
          rw (ne_eqb (token_start s c) (length s) (λ e. omega arith), start-same, drop-next s (token_start s c) h)
          (sym (token_begins c.begun (get_or s (token_start s c) 0) (drop (token_start s c + 1) s) (start-counts h)))

      at-end : length s ≤ token_start s c → eqb (token_start s c) (length s) ≡ ended (tokens_at s c)
      at-end h =
          let e : token_start s c ≡ length s = omega (arith, start-within) in
          rw (eq-eqb (token_start s c) (length s) e, none-at-end e)

  -- a token begins before the end
  module _ (h : token_start s c < length s) where
    -- the first byte of the token, the bytes behind it, and how many of these belong to it
    abbrev byte : ℕ
    byte = get_or s (token_start s c) 0

    abbrev bytes_behind : List ℕ
    bytes_behind = drop (token_start s c + 1) s

    abbrev more : ℕ
    more = cond (is_delimiter byte) 0 (word_bytes bytes_behind)

    tokens-cons : tokens_at s c ≡ (byte ∷ take more bytes_behind) ∷ tokens_after (not (eqb byte line_feed)) (drop more bytes_behind)
    tokens-cons = start-same ∙ ap (tokens_after c.begun) (drop-next s (token_start s c) h) ∙ first-token c.begun byte bytes_behind (start-counts h)

    more_within : token_start s c + suc more ≤ length s
    more_within = omega (arith, token_bytes-within byte bytes_behind, length-drop (token_start s c + 1) s)

    token-found : next_token s c
        ≡ record { from = token_start s c; to = token_start s c + suc more; next = record { at = token_start s c + suc more; begun = not (eqb byte line_feed) } }
    unfolding next_token
    token-found =
        let size : length (take more bytes_behind) ≡ more = length-take more bytes_behind ∙ omega (arith, more_within, length-drop (token_start s c + 1) s) in
        rw (tokens-cons, size)

    pub next-is-token : next_token s c
        ≡ record {
          from = token_start s c;
          to = token_start s c + token_bytes (drop (token_start s c) s);
          next = record { at = token_start s c + token_bytes (drop (token_start s c) s); begun = not (eqb byte line_feed) };
        }
    next-is-token = rw (drop-next s (token_start s c) h) token-found

    found-next : NextToken s c (next_token s c)
    unfolding tokens_at inside
    found-next =
        let size : token_start s c + suc more - token_start s c ≡ suc more = omega arith in
        let end : token_start s c + 1 + more ≡ token_start s c + suc more = omega arith in
        rw token-found
        (record {
          ordered = omega arith;
          inside = more_within;
          next_inside = more_within;
          advances = λ left. omega arith;
          is_first = rw (size, drop-next s (token_start s c) h, tokens-cons);
          then_rest = rw tokens-cons (ap (tokens_after (not (eqb byte line_feed))) (sym (drop-drop more (token_start s c + 1) s ∙ ap (λ i. drop i s) end)));
        })

  none-next : token_start s c ≡ length s → NextToken s c (next_token s c)
  unfolding tokens_at
  none-next e =
      let none = none-at-end e in
      rw (next-at-end e)
      (record {
        ordered = omega arith;
        inside = omega arith;
        next_inside = omega arith;
        advances = λ left. absurd (true≢false (rw none at left));
        is_first = rw (sub_self, none);
        then_rest = tokens-end c.begun s (token_start s c) (omega arith) ∙ ap rest (sym none);
      })

  pub next_token-next : NextToken s c (next_token s c)
  next_token-next = ⊎_elim found-next (λ l. none-next (omega (arith, start-within))) (lt-or-ge (token_start s c) (length s))

-- what is the next token is the first at the place
pub next-token : {s : List ℕ} {c : Cursor} {t : token.Token} → t ≡ next_token s c → NextToken s c t
next-token {s} {c} {t} e = rw e (next_token-next s c)
