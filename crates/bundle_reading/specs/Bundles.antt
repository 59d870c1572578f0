-- The bundles (piles) of a division as forms of tokens and numbers (document 01, "The printed division"), for so many items (pieces) of
-- the sheet. Assumes nothing: these are definitions.
use Rattle.std.specs.Prelude.{ℕ, List, [], ◌∷◌, cond, ◌&&◌, leb, ltb, Option, None, Some}
use Prim.Native.String.{String}
use Rattle.sheet.specs.Limits.{count_digits}
use Rattle.tokens.specs.Tokens.{Token}
use Rattle.lexing.specs.Forms.{◌>>=◌, follow, form}
use Rattle.lexing.specs.Numbers.{is_number, digits_after}

-- what each pile ends with
abbrev pub pile_end : String
pile_end = ")"

-- "a pile's pieces rise", and none is "a piece not on the sheet": numbers up to a token that is none, each above the one before
unfoldable pub rising_items : ℕ → ℕ → List Token → Option (List ℕ × List Token)
rising_items items above [] = Some ([], [])
rising_items items above (t ∷ ts) =
    let item = digits_after 0 t in
    let later = rising_items items item ts in
    cond (is_number count_digits t)
    (cond (ltb above item && leb item items) (later >>= (λ r. Some (item ∷ r.0, r.1))) None)
    (Some ([], t ∷ ts))

-- a bundle (pile) behind what it begins with: (pile 2 3), or (2 3) in a cut
unfoldable pub bundle_after : List Token → ℕ → List Token → Option (List ℕ × List Token)
bundle_after fs items ts₀ = do
  ts₁ ← follow fs ts₀
  (bundle, ts₂) ← rising_items items 0 ts₁
  ts₃ ← follow (form pile_end) ts₂
  Some (bundle, ts₃)
