-- The first best of a list of partitions, as a walk that keeps the best so far and has an allowance finds it.
-- Assumes nothing: these are definitions.
use Rattle.std.specs.Prelude.{cond, List, [], ◌∷◌, ℕ, ◌+◌, ◌-◌, leb, length, take}
use Rattle.walk_steps.specs.declared.Best.{Best}
use Rattle.walk_steps.specs.declared.Search.{Search}

-- l, whose least bundle is v, takes the place of a best whose goal it reaches
abbrev pub keep : ℕ → List ℕ → Best → Best
keep v l b = cond (leb b.goal v) (record { goal = v + 1; partition = l }) b

-- the search once it looked at one more list l, whose least bundle is v
abbrev pub looked : ℕ → List ℕ → Search → Search
looked v l s = record { best = keep v l s.best; allowance = s.allowance - 1 }

-- the same where the allowance may be spent: then it looks at nothing
abbrev pub looking : ℕ → List ℕ → Search → Search
looking v l s = cond (leb 1 s.allowance) (looked v l s) s

-- the best after each list l of ls is tried in turn, with the least bundle v l and kept as h l
abbrev pub scan : (List ℕ → ℕ) → (List ℕ → List ℕ) → Best → List (List ℕ) → Best
scan v h b [] = b
scan v h b (l ∷ ls) = scan v h (keep (v l) (h l) b) ls

-- the search once the lists are tried in turn as far as its allowance goes, which falls by one with each
abbrev pub searched : (List ℕ → ℕ) → (List ℕ → List ℕ) → Search → List (List ℕ) → Search
searched v h s ls = record { best = scan v h s.best (take s.allowance ls); allowance = s.allowance - length ls }

-- the search once so many lists, of which none reaches the goal, are passed over
abbrev pub passing : ℕ → Search → Search
passing count s = record { best = s.best; allowance = s.allowance - count }
