-- What printing a sheet's exact division into a lent buffer answers. Assumes nothing: these are definitions.
use Rattle.std.specs.Prelude.{◌≡◌, List, ℕ, ◌+◌, ◌*◌, length}
use Rattle.sheet.specs.Limits.{most_agents, most_items}
use Rattle.sheet.specs.Answers.{Answer, map_answer, and_then, after}
use Rattle.sheet.specs.Contents.{Contents}
use Rattle.writing.specs.Filled.{filling, filled}
use Rattle.exact_division.specs.Search.{searching, MayShow}
use Rattle.exact_printing.specs.ExactText.{exact_text}

-- "one that fills a lent buffer tries 10 last": the text for a sheet, with the bundles that are shown, in a buffer of so many bytes
unfoldable pub printing_exact : Contents → List (List ℕ) → ℕ → Answer (List ℕ)
printing_exact sheet bundles room = and_then (searching sheet) (λ exists. filling room (exact_text exists bundles))

-- a buffer of so many bytes is long enough for every sheet (proofs/Longest.antt): (exact) and the line feed, a space and () for each yard,
-- and at most three bytes for each piece
abbrev pub longest_exact : ℕ
longest_exact = 8 + 3 * most_agents + 3 * most_items

-- what is promised of the answer r to a sheet, and of the lent buffer, that held `old` and then holds `new`
pub record Printed (sheet : Contents) (old : List ℕ) (r : Answer ℕ) (new : List ℕ) : Type 0 where
  -- the bundles that are shown where there is an exact division: "Which of several it shows is left free"
  pub bundles : List (List ℕ)
  pub may_show : MayShow sheet bundles
  -- with these bundles, the whole answer
  pub answer : r ≡ map_answer length (printing_exact sheet bundles (length old))
  -- and every byte of the buffer
  pub buffer : new ≡ after filled (printing_exact sheet bundles (length old)) old
