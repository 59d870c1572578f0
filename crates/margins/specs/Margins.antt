-- The margin of a bundle over the part of the share that is promised (document 02, order 5). Assumes nothing: these are definitions.
use Rattle.std.specs.Prelude.{Bool, List, map, ℕ, ◌*◌, min, ℤ, pos, ◌-ℤ◌}
use Rattle.std.specs.Int.Signed.{non_neg}
use Rattle.lists.specs.Lists.{range, nth, all, padded}
use Rattle.sheet.specs.Limits.{most_agents, greatest_sum, greatest_term}
use Rattle.terms.specs.declared.Terms.{Terms}

-- "bottom × worth minus top × share", a whole number that may be below zero
unfoldable pub margin : Terms → ℕ → ℕ → ℤ
margin terms worth share = pos (terms.bottom * worth) -ℤ pos (terms.top * share)

-- the margin of each of n agents, by its worth and its share
abbrev pub margins_of : (n : ℕ) (terms : Terms) (worths shares : List ℕ) → List ℤ
margins_of n terms worths shares = map (λ i. margin terms (nth 0 worths i) (nth 0 shares i)) (range 1 n)

-- "every margin to be zero or more": those of the first n agents
abbrev pub none_negative : ℕ → List ℤ → Bool
none_negative n margins = all (λ i. non_neg (nth (pos 0) margins i)) (range 1 n)

-- the terms with numbers that are cut to the greatest
abbrev pub limited_terms : Terms → Terms
limited_terms terms = record { top = min terms.top greatest_term; bottom = min terms.bottom greatest_term }

-- the margin of amounts that are cut to the greatest sum, by terms that are cut too
abbrev pub limited_margin : Terms → ℕ → ℕ → ℤ
limited_margin terms worth share = margin (limited_terms terms) (min worth greatest_sum) (min share greatest_sum)

-- the margins in six places, 0 after the last agent
abbrev pub margins_stored : (agents : ℕ) (terms : Terms) (worths shares : List ℕ) → List ℤ
margins_stored agents terms worths shares = padded most_agents (pos 0) (map (λ i. limited_margin terms (nth 0 worths i) (nth 0 shares i)) (range 1 (min agents most_agents)))

-- no margin is greater without its sign: the greatest bottom times the greatest sum
abbrev pub greatest_margin : ℕ
greatest_margin = greatest_term * greatest_sum
