-- What the search for an exact division puts into the places that a caller by C's calling convention lends. Assumes nothing: these are
-- definitions.
use Rattle.std.specs.Prelude.{◌≡◌, Bool, true, false, List, map, ℕ, length}
use Rattle.lists.specs.Lists.{bit, padded, zeros}
use Rattle.sheet.specs.Limits.{most_agents}
use Rattle.sheet.specs.Answers.{number_of, after}
use Rattle.sheet.specs.Contents.{Contents}
use Rattle.sheet.specs.Sets.{set_of}
use Rattle.writing.specs.Filled.{filled}
use Rattle.writing.specs.Answered.{length_stored}
use Rattle.exact_division.specs.Search.{searching, MayShow}
use Rattle.sheet_to_exact.specs.Showing.{exact_from, MayShowFor}

-- 1 where there is an exact division, and 0 where there is none
abbrev pub store_found : Bool → ℕ → ℕ
store_found exists old = bit exists

-- the bundles that are shown, as sets: a place for each agent that a sheet may have; zeros where there is none
abbrev pub store_shown : List (List ℕ) → Bool → List ℕ → List ℕ
store_shown bundles true old = padded most_agents 0 (map set_of bundles)
store_shown bundles false old = zeros most_agents

-- what is promised of the number answered to a sheet, and of the places lent for `found` and `bundles`, that held the old content and then
-- hold the new
pub record TableStored (sheet : Contents) (old_found : ℕ) (old_bundles : List ℕ) (number new_found : ℕ) (new_bundles : List ℕ) : Type 0 where
  -- the bundles that are shown where there is an exact division: "Which of several it shows is left free"
  pub bundles : List (List ℕ)
  pub may_show : MayShow sheet bundles
  pub answered : number ≡ number_of (searching sheet)
  pub found_stored : new_found ≡ after store_found (searching sheet) old_found
  pub bundles_stored : new_bundles ≡ after (store_shown bundles) (searching sheet) old_bundles

-- what is promised of the number answered to a text, and of the lent buffer and the place lent for its length
pub record TextStored (text old : List ℕ) (old_length number : ℕ) (new : List ℕ) (new_length : ℕ) : Type 0 where
  -- the bundles that are shown where there is an exact division
  pub bundles : List (List ℕ)
  pub may_show : MayShowFor text bundles
  pub answered : number ≡ number_of (exact_from text bundles (length old))
  pub buffer : new ≡ after filled (exact_from text bundles (length old)) old
  pub stored_length : new_length ≡ after length_stored (exact_from text bundles (length old)) old_length
