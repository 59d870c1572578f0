-- What a text and a lent buffer are answered. Assumes nothing: these are definitions.
use Rattle.std.specs.Prelude.{◌≡◌, List, ℕ, length}
use Rattle.sheet.specs.Answers.{Answer, accepted, map_answer, and_then, after}
use Rattle.sheet.specs.Contents.{Contents}
use Rattle.reading.specs.Reading.{reading}
use Rattle.writing.specs.Filled.{filled}
use Rattle.exact_division.specs.Search.{MayShow}
use Rattle.exact_printing.specs.Printing.{printing_exact}

-- "An entry that reads a sheet tries 1 to 9 first, and one that fills a lent buffer tries 10 last": a text, the bundles that are shown
-- where there is an exact division, and the length of the buffer
unfoldable pub exact_from : List ℕ → List (List ℕ) → ℕ → Answer (List ℕ)
exact_from text bundles room = and_then (reading text) (λ sheet. printing_exact sheet bundles room)

-- the bundles that may be shown for a text: those that may be shown for the sheet that it holds
abbrev pub MayShowFor : List ℕ → List (List ℕ) → Type 0
MayShowFor text bundles = (sheet : Contents) → reading text ≡ accepted sheet → MayShow sheet bundles

-- what is promised of the answer r to a text, and of the lent buffer, that held `old` and then holds `new`
pub record Shown (text old : List ℕ) (r : Answer ℕ) (new : List ℕ) : Type 0 where
  -- the bundles that are shown where there is an exact division: "Which of several it shows is left free"
  pub bundles : List (List ℕ)
  pub may_show : MayShowFor text bundles
  -- with these bundles, the whole answer
  pub answer : r ≡ map_answer length (exact_from text bundles (length old))
  -- and every byte of the buffer
  pub buffer : new ≡ after filled (exact_from text bundles (length old)) old
