-- The tokens at the place where another text begins behind a sheet, and what the result of reading such a sheet says. Assumes nothing.
use mathlib.Core.Path.{◌≡◌, sym, ap, ap₂, ◌∙◌}
use mathlib.Core.List.{List, IsSuffix, IsSuffix-trans as suffix_trans}
use Rattle.std.specs.Prelude.{Ok}
use Prim.Native.Nat.{ℕ}
use Rattle.sheet.specs.Limits.{mark_digits}
use Rattle.sheet.specs.Answers.{accepted, map_answer}
use Rattle.sheet.specs.Refusals.{answer_of}
use Rattle.sheet.specs.Contents.{Contents}
use Rattle.sheet.proofs.Answering.{accepted-of_ok}
use Rattle.tokens.specs.Tokens.{Token, tokens}
use Rattle.tokeniser.specs.Places.{tokens_at, start}
use Rattle.tokeniser.specs.Behind.{place_left}
use Rattle.tokeniser.specs.declared.Cursor.{Cursor}
use Rattle.tokeniser.proofs.Places.{tokens-start}
use Rattle.tokeniser.proofs.Behind.{place-leaves}
use Rattle.lexing.specs.Forms.{form}
use Rattle.lexing.proofs.readers.Suffixes.{follow-leaves}
use Rattle.sheet_lines.specs.SheetForms.{last_line}
use Rattle.sheet_lines.proofs.Suffixes.{head-leaves, body-leaves}
use Rattle.reading.specs.Reading.{reading_front}
use Rattle.reading.specs.Stored.{stored_front}
use Rattle.reading.proofs.AtFront.{front-passes}

module _ (text : List ℕ) (c : Contents) (behind : List Token) (e : reading_front text ≡ accepted (c, behind)) where
  -- what stands behind the sheet is the end of the text's tokens
  behind-is-last : IsSuffix behind (tokens text)
  behind-is-last =
      let a = front-passes text c behind e in
      let after_head = rw a.head_is at (head-leaves (tokens text)) in
      let after-lines = rw a.lines_are at (body-leaves mark_digits c.agents c.items a.after_head) in
      let after-end = rw a.ends at (follow-leaves (form last_line) a.last) in
      suffix_trans after-end (suffix_trans after-lines after_head)

  -- and it is left where the other text begins
  pub front-leaves : tokens_at text (place_left text start behind) ≡ behind
  front-leaves = (place-leaves {s = text} {c = start} {ts = behind} (rw (tokens-start text) behind-is-last)).tokens_left

-- a text with a sheet that is accepted carries what was read, and the tokens at the place behind it
pub front-read : (text : List ℕ) (found : Contents) (place : Cursor) → answer_of (Ok (found, place)) ≡ map_answer (stored_front text) (reading_front text)
    → reading_front text ≡ accepted (found, tokens_at text place)
front-read text found place told =
    let (p, read, same) = accepted-of_ok (stored_front text) (reading_front text) (found, place) told in
    read
    ∙ ap₂ (λ f ts. accepted (f, ts)) (sym (ap (λ q. q.0) same)) (sym (front-leaves text p.0 p.1 read) ∙ ap (tokens_at text) (sym (ap (λ q. q.1) same)))
