-- The tokens of a division's lines are read to what they were made of, for each reader of the grammar. Assumes nothing.
use mathlib.Core.Path.{◌≡◌, refl}
use mathlib.Core.List.Memᴰ.{head as here}
use mathlib.Core.List.Memᴰ.{tail as there}
use mathlib.Core.List.{List, [], ◌∷◌, ◌++◌, map, flat_map, append_assoc, append-nil, Memᴰ as Mem}
use mathlib.Core.List.{Sublistᴰ as Sublist}
use Rattle.std.specs.Prelude.{Some}
use mathlib.Core.Bool.{false}
use Prim.Native.Nat.{ℕ, ◌+◌, ◌^◌, ◌≤◌, ◌<◌}
use Prim.Native.String.{String}
use native.Mathlib.Omega.{arith}
use lib.ListN.{length}
use borrow.Author.Tests.{lt-ltb, le-leb}
use Rattle.lists.specs.Lists.{range, Rising}
use Rattle.lists.proofs.ranges.Ranges.{range-bounds, map-nth-range}
use Rattle.lists.proofs.ranges.RangeSublists.{range-sublist-rising}
use Rattle.lists.proofs.members.Counting.{sublist-mem}
use Rattle.text.specs.Decimal.{decimal}
use Rattle.sheet.specs.Limits.{most_agents, most_items, count_digits, sum_digits}
use Rattle.tokens.specs.Lines.{lines, on_first, before_remark}
use Rattle.tokens.specs.Tokens.{Token, closing, extended, words, line_tokens, tokens}
use Rattle.lexing.specs.Forms.{ended, follow, form, in_turn}
use Rattle.lexing.specs.Numbers.{is_number}
use Rattle.numerals.proofs.DecimalDigits.{decimal-value, decimal-is_number}
use Rattle.lexing.proofs.readers.ReadBack.{follow-append, number_after-decimal, follow_number-decimal, in_turn-range}
use Rattle.sheet_lines.specs.SheetForms.{before_items, before_turn, line_end, last_line}
use Rattle.sheet_lines.specs.Grammar.{end_line}
use Rattle.division_reading.specs.DivisionForms.{before_counts, before_grade, before_pile, before_worth, before_share, before_cut, before_cut_pile, pile_end}
use Rattle.division_reading.specs.Stated.{StatedLine, Stated}
use Rattle.division_reading.specs.Grammar.{grade_digits, rising_items, bundle_after, bundle_in_turn, stated_amounts, cut_bundles, division_line, division_head, division_text}
use Rattle.stated_truth.specs.Truth.{none_stated, line_of}
use Rattle.stated_text.proofs.DivisionTokens.{head_tokens, bundle_tokens, amounts_tokens, cut_tokens, division_line_tokens, division_tokens}

-- the bracket behind the items of a bundle, which is no number
closing-form : form pile_end ≡ (closing ∷ []) ∷ []
unfolding tokens line_tokens words extended lines on_first before_remark flat_map
closing-form = refl

closing-no-number : is_number count_digits (closing ∷ []) ≡ false
unfolding is_number
closing-no-number = refl

-- the line `(end)`, with nothing behind it
end_line-form : end_line ended (form last_line) ≡ Some []
unfolding end_line
end_line-form =
    let followed : follow (form last_line) (form last_line) ≡ Some [] = rw (append-nil (form last_line)) at (follow-append (form last_line) []) in
    rw followed

-- rising items of the sheet, up to that bracket
rising_items-decimals : (items above : ℕ) (ks : List ℕ) (ts : List Token) → items < 10 ^ count_digits → Rising ks → ((k : ℕ) → Mem k ks → (above < k) × (k ≤ items))
    → rising_items items above (map decimal ks ++ (form pile_end ++ ts)) ≡ Some (ks, form pile_end ++ ts)
unfolding rising_items
rising_items-decimals items above [] ts few rising each = rw (closing-form, closing-no-number)
rising_items-decimals items above (k ∷ ks) ts few rising each =
    let b = each k (here refl) in
    let later = rising_items-decimals items k ks ts few rising.1 (λ j m. (rising.0 j m, (each j (there m)).1)) in
    rw (decimal-is_number count_digits k (omega arith) (omega arith), decimal-value k, lt-ltb above k b.0, le-leb k items b.1, later)

module _ (items : ℕ) (few_items : items ≤ most_items) where
  bundle_after-bundle_tokens : (before : String) {bundle : List ℕ} (ts : List Token) → Sublist bundle (range 1 items)
      → bundle_after (form before) items (bundle_tokens before bundle ++ ts) ≡ Some (bundle, ts)
  unfolding bundle_after bundle_tokens
  bundle_after-bundle_tokens before {bundle} ts s =
      let each : (k : ℕ) → Mem k bundle → (0 < k) × (k ≤ items) = λ k m. let b = range-bounds 1 items (sublist-mem s m) in omega arith in
      let rising = rising_items-decimals items 0 bundle ts (omega arith) (range-sublist-rising items s) each in
      simp append_assoc (rw (follow-append (form before) _, rising, follow-append (form pile_end) ts))

  bundle_in_turn-tokens : (turn : ℕ) {bundle : List ℕ} (ts : List Token) → turn < 10 ^ count_digits → Sublist bundle (range 1 items)
      → bundle_in_turn items turn (form before_turn ++ decimal turn ∷ (bundle_tokens before_pile bundle ++ ts)) ≡ Some (bundle, ts)
  unfolding bundle_in_turn
  bundle_in_turn-tokens turn ts h s = rw (follow_number-decimal count_digits turn (omega arith) h (form before_turn)) (bundle_after-bundle_tokens before_pile ts s)

  -- the bundles of a cut, one after another
  cut_bundles-cut_tokens : (turn : ℕ) (cut : List (List ℕ)) (ts : List Token) → ((b : List ℕ) → Mem b cut → Sublist b (range 1 items))
      → in_turn (λ number. bundle_after (form before_cut_pile) items) turn (length cut) (cut_tokens cut ++ ts) ≡ Some (cut, ts)
  unfolding in_turn cut_tokens flat_map
  cut_bundles-cut_tokens turn [] ts s = refl
  cut_bundles-cut_tokens turn (b ∷ cut) ts s =
      simp append_assoc (rw (bundle_after-bundle_tokens before_cut_pile _ (s b (here refl)), cut_bundles-cut_tokens (turn + 1) cut ts (λ c m. s c (there m))))

stated_amounts-amounts_tokens : (worth share : ℕ) (ts : List Token) → worth < 10 ^ sum_digits → share < 10 ^ sum_digits
    → stated_amounts (amounts_tokens worth share ++ ts) ≡ Some (worth, share, ts)
unfolding stated_amounts amounts_tokens
stated_amounts-amounts_tokens worth share ts small small-share =
    simp append_assoc
    (rw (number_after-decimal sum_digits worth (omega arith) small (form before_worth), number_after-decimal sum_digits share (omega arith) small-share (form before_share), follow-append (form before_cut) ts))

-- a yard line that can be read: its bundle and those of its cut are of the items, its sums have at most so many digits
pub record ReadableLine (agents items : ℕ) (l : StatedLine) : Type 0 where
  pub of_items : Sublist l.bundle (range 1 items)
  pub worth_small : l.worth < 10 ^ sum_digits
  pub share_small : l.share < 10 ^ sum_digits
  pub cut_each : length l.cut ≡ agents
  pub cut_of_items : (b : List ℕ) → Mem b l.cut → Sublist b (range 1 items)

module _ (agents items : ℕ) (few : agents ≤ most_agents) (few_items : items ≤ most_items) where
  division_line-division_line_tokens : (turn : ℕ) {l : StatedLine} (ts : List Token) → turn < 10 ^ count_digits → ReadableLine agents items l
      → division_line agents items turn (division_line_tokens turn l ++ ts) ≡ Some (l, ts)
  unfolding division_line division_line_tokens
  division_line-division_line_tokens turn {l} ts h p =
      let cut-read : (us : List Token) → cut_bundles agents items (cut_tokens l.cut ++ us) ≡ Some (l.cut, us) =
      λ us. rw p.cut_each at (cut_bundles-cut_tokens items few_items 1 l.cut us p.cut_of_items) in
      simp append_assoc
      (rw (bundle_in_turn-tokens items few_items turn _ h p.of_items, stated_amounts-amounts_tokens l.worth l.share _ p.worth_small p.share_small, cut-read _, follow-append (form line_end) ts))

  division_head-head_tokens : (grade : ℕ) (ts : List Token) → grade < 10 ^ grade_digits → division_head agents items (head_tokens agents items grade ++ ts) ≡ Some (grade, ts)
  unfolding division_head head_tokens
  division_head-head_tokens grade ts small =
      simp append_assoc
      (rw (follow_number-decimal count_digits agents (omega arith) (omega arith) (form before_counts), follow_number-decimal count_digits items (omega arith) (omega arith) (form before_items), number_after-decimal grade_digits grade (omega arith) small (form before_grade), follow-append (form line_end) ts))

  -- a division of such lines, one for each agent
  pub division_text-division_tokens : (d : Stated) → length d.lines ≡ agents → d.grade < 10 ^ grade_digits
      → ((i : ℕ) → Mem i (range 1 agents) → ReadableLine agents items (line_of d i)) → division_text agents items (division_tokens agents items d) ≡ Some d
  unfolding division_text division_tokens
  division_text-division_tokens d line_each small readable =
      let lines-read =
      in_turn-range (division_line agents items) (line_of d) (λ i. division_line_tokens i (line_of d i)) 1 agents (form last_line)
      (λ i m us. let b = range-bounds 1 agents m in division_line-division_line_tokens i us (omega arith) (readable i m)) in
      simp append_assoc (rw (division_head-head_tokens d.grade _ small, lines-read, end_line-form, map-nth-range none_stated d.lines agents line_each))
