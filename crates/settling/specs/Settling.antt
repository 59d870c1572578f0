-- What one round settles (document 01, "Rounds"), by a partition of the items left. Assumes nothing: these are definitions.
use Rattle.std.specs.Prelude.{Bool, List, map, ℕ, ◌-◌}
use Rattle.lists.specs.Lists.{nth, padded}
use Rattle.lists.specs.Sums.{total}
use Rattle.sheet.specs.Limits.{most_agents}
use Rattle.sheet.specs.Sets.{set_of}
use Rattle.terms.specs.declared.Terms.{Terms}
use Rattle.bundling.specs.Bundles.{bundle_sets}
use Rattle.matching.specs.Matching.{waiting_of, served_of, chosen_of}
use Rattle.serving.specs.Serving.{suits_of, agents_in}
use Rattle.settling.specs.Suiting.{suits_table}
use Rattle.settling.specs.declared.Settled.{Settled}

module _ (terms : Terms) (table : List (List ℕ)) (shares : List ℕ) (cutter left set : ℕ) (partition : List ℕ) where
  -- whether a bundle (pile) of the partition suits an agent (yard)
  abbrev pub bundle_suits : ℕ → ℕ → Bool
  bundle_suits = suits_of (suits_table terms table shares (bundle_sets set partition))

  -- the sets of the bundles that are handed out, 0 after the last
  abbrev pub handed_sets : List ℕ
  handed_sets = padded most_agents 0 (map (nth 0 (bundle_sets set partition)) (chosen_of bundle_suits cutter (agents_in left)))

  -- the yards served with their piles, the yards that wait, and "the pieces of every pile not handed out"
  unfoldable pub settled_by : Settled
  settled_by =
      record {
        served = served_of bundle_suits cutter (agents_in left);
        sets = handed_sets;
        waiting = set_of (waiting_of bundle_suits cutter (agents_in left));
        left = set - total handed_sets;
      }
