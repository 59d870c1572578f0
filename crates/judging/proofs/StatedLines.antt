-- What the code's lines state, line by line and place by place. Assumes nothing.
use mathlib.Core.Path.{◌≡◌, sym, ap, ap₂, ◌∙◌}
use mathlib.Core.Bool.{Bool, ◌&&◌}
use mathlib.Core.List.{List, [], map, map-map, Memᴰ as Mem}
use Prim.Native.Nat.{ℕ, ◌-◌, ◌≤◌}
use native.Mathlib.Omega.{arith}
use lib.Dec.{eqb}
use lib.ListN.{length, take, length-map, length-take, get_or-map}
use lib.Seq.{get_or-take}
use Rattle.lists.specs.Lists.{range, nth, all, padded}
use Rattle.lists.proofs.ranges.Ranges.{range-bounds}
use Rattle.lists.proofs.places.Passing.{take-map}
use Rattle.lists.proofs.places.Places.{nth-padded-range}
use Rattle.lists.proofs.places.Defaults.{get_d_default}
use Rattle.lists.proofs.members.Tests.{all-cong, all-nth}
use Rattle.sheet.specs.Limits.{most_agents}
use Rattle.sheet.specs.Sets.{items_of}
use Rattle.sheet.specs.Valuations.{value}
use Rattle.sheet.specs.Contents.{Contents, valuations_of}
use Rattle.sheet.proofs.valuing.Tables.{valuation_of-profile}
use Rattle.shares.specs.Known.{SharesIn}
use Rattle.shares.proofs.Answered.{nth-shares-in}
use Rattle.terms.specs.declared.Terms.{Terms}
use Rattle.grades.specs.Grade.{value_to, own_values}
use Rattle.grades.specs.Scale.{grade_by_terms}
use Rattle.division_reading.specs.Stated.{Stated}
use Rattle.division_reading.specs.declared.StatedLine as line
use Rattle.stated_truth.specs.Truth.{bundles_of, line_of, none_stated, bundles_and_cuts, worth_to, line_true, figures_true}
use Rattle.stated_truth.specs.Lines.{no_line, stated_line, stated_of, cuts_pass, sets_and_cuts, lines_true, figures_true_by}

-- the bundles of the lines as sets
abbrev pub sets_of : List line.StatedLine → List ℕ
sets_of lines = map (λ l. l.bundle) lines

module _ (n grade : ℕ) (lines : List line.StatedLine) where
  bundles-stated : bundles_of (stated_of n grade lines) ≡ map items_of (take n (sets_of lines))
  bundles-stated =
      map-map (λ l. l.bundle) (stated_line n) (take n lines)
      ∙ sym (map-map items_of (λ l. l.bundle) (take n lines))
      ∙ ap (map items_of) (sym (take-map (λ l. l.bundle) n lines))

  -- the bundle of an agent in use
  pub nth-bundle : {i : ℕ} → Mem i (range 1 n) → nth [] (map items_of (sets_of lines)) i ≡ nth [] (bundles_of (stated_of n grade lines)) i
  nth-bundle {i} mi =
      let b = range-bounds 1 n mi in
      sym (ap (λ l. nth [] l i) (bundles-stated ∙ sym (take-map items_of n (sets_of lines))) ∙ get_or-take n (map items_of (sets_of lines)) (i - 1) [] (omega arith))

  module _ (few : n ≤ most_agents) (places : length lines ≡ most_agents) where
    length-stated : length (stated_of n grade lines).lines ≡ n
    length-stated = length-map (take n lines) (stated_line n) ∙ length-take n lines ∙ omega arith

    -- the line of an agent in use
    pub line_of-stated : {i : ℕ} → Mem i (range 1 n) → line_of (stated_of n grade lines) i ≡ stated_line n (nth no_line lines i)
    line_of-stated {i} mi =
        let b = range-bounds 1 n mi in
        get_d_default none_stated (stated_line n no_line) (stated_of n grade lines).lines (i - 1) (omega (arith, length-stated))
        ∙ get_or-map (stated_line n) (take n lines) (i - 1) no_line
        ∙ ap (stated_line n) (get_or-take n lines (i - 1) no_line (omega arith))

    -- a test of the bundles and the cuts
    module _ (test : List (List ℕ) → Bool) where
      cuts-stated : all (λ l. test l.cut) (stated_of n grade lines).lines ≡ cuts_pass n test lines
      cuts-stated =
          let d = stated_of n grade lines in
          all-nth (λ l. test l.cut) none_stated d.lines n length-stated
          ∙ all-cong _ _ (range 1 n) (λ i mi. ap (λ l. test l.cut) (line_of-stated mi))

      pub test-stated : bundles_and_cuts test (stated_of n grade lines) ≡ sets_and_cuts n test (sets_of lines) lines
      unfolding bundles_and_cuts
      test-stated = ap₂ ◌&&◌ (ap test bundles-stated) cuts-stated

-- the figures, by the shares of a sheet
module _ (sheet : Contents) {shares : List ℕ} (known : SharesIn sheet shares) (grade : ℕ) (lines : List line.StatedLine) (places : length lines ≡ most_agents) where
  abbrev stated : Stated
  stated = stated_of sheet.agents grade lines

  -- the worths, agent after agent
  module _ {worths : List ℕ} (worths-are : worths ≡ padded most_agents 0 (own_values sheet.agents (valuations_of sheet) (bundles_of stated))) where
    worth-in-use : {i : ℕ} → Mem i (range 1 sheet.agents) → nth 0 worths i ≡ worth_to sheet i (line_of stated i).bundle
    worth-in-use {i} mi =
        ap (λ l. nth 0 l i) worths-are
        ∙ nth-padded-range most_agents 0 0 (λ k. value_to (valuations_of sheet) (bundles_of stated) k k) sheet.agents mi
        ∙ ap₂ value (valuation_of-profile sheet.agents sheet.items sheet.table mi) (get_or-map (λ l. l.bundle) stated.lines (i - 1) none_stated)

    -- the worths, the shares and the cuts
    lines-stated : all (λ i. line_true sheet i (line_of stated i)) (range 1 sheet.agents) ≡ lines_true sheet.agents sheet.items sheet.table shares worths lines
    unfolding line_true
    lines-stated =
        all-cong _ _ (range 1 sheet.agents)
        (λ i mi. rw (worth-in-use mi, line_of-stated sheet.agents grade lines known.counts.few places mi, nth-shares-in known mi))

    -- the test of refusal 13
    pub figures-stated : (terms : Terms) (g : ℕ) → grade_by_terms sheet terms (bundles_of stated) ≡ g
        → figures_true sheet terms stated ≡ figures_true_by sheet.agents sheet.items sheet.table shares worths lines g grade
    unfolding figures_true
    figures-stated terms g is = ap₂ ◌&&◌ lines-stated (ap (eqb grade) is)
