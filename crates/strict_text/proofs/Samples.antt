-- Numbers, and sheet a of document 01, in the strict layout, by computation. Assumes nothing.
use mathlib.Core.Path.{◌≡◌, refl}
use Prim.Native.Nat.{◌^◌}
use mathlib.Core.List.{[], ◌∷◌, map}
use Rattle.text.specs.Bytes.{bytes}
use Rattle.text.specs.Decimal.{digits_in, decimal, spaced_numbers}
use Rattle.reading.specs.SampleTexts.{sheet_text_a, contents_a}
use Rattle.strict_text.specs.StrictText.{head_text, yard_text, yard_texts, body_text, sheet_text, strict_text}

decimal-samples : map decimal (0 ∷ 7 ∷ 10 ∷ 65535 ∷ 4294967295 ∷ 10 ^ 20 ∷ [])
    ≡ map bytes ("0" ∷ "7" ∷ "10" ∷ "65535" ∷ "4294967295" ∷ "100000000000000000000" ∷ [])
unfolding decimal digits_in
decimal-samples = refl

-- sheet a
strict_text-sheet-a : strict_text contents_a ≡ sheet_text_a
unfolding strict_text sheet_text body_text head_text yard_texts yard_text spaced_numbers decimal digits_in
strict_text-sheet-a = refl
