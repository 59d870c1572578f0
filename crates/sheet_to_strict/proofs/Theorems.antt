-- The writer of the strict layout: two accepted texts are written alike exactly when they carry the same counts and marks; what is written
-- reads back to the sheet that it came from; a strict text is written as itself. Assumes nothing.
use mathlib.Core.Path.{◌≡◌, refl, sym, ap, ◌∙◌}
use mathlib.Core.List.{List}
use mathlib.Core.Bool.{Bool, true, false}
use mathlib.Core.Logic.{◌↔◌}
use Prim.Native.Nat.{ℕ, ◌≤◌}
use native.Mathlib.Omega.{arith}
use lib.ListN.{length}
use lib.Dec.{leb}
use Rattle.sheet.specs.Answers.{Answer, refused, accepted, require, and_then}
use Rattle.sheet.specs.Contents.{Contents}
use Rattle.writing.specs.Filled.{filling}
use Rattle.reading.specs.Reading.{reading}
use Rattle.strict_text.specs.StrictText.{strict_text, longest_strict}
use Rattle.strict_text.specs.WithinLimits.{WithinLimits}
use Rattle.reading.proofs.Accepted.{accepted-injective}
use Rattle.strict_text.proofs.RoundTrip.{strict_text-read, accepted-read-back, strict_text-same-iff}
use Rattle.sheet_to_strict.specs.Rewriting.{rewriting}
use Rattle.sheet_to_strict.proofs.Accepted.{accepted-written}

-- what is written is the strict text of what an accepted text carries
pub record WrittenOf (s text : List ℕ) : Type 0 where
  pub contents : Contents
  pub read : reading s ≡ accepted contents
  pub strict : text ≡ strict_text contents

pub written_of : (s : List ℕ) (room : ℕ) (text : List ℕ) → rewriting s room ≡ accepted text → WrittenOf s text
unfolding rewriting
written_of s room text e = go (reading s) refl e
  where
    filled-with : (c : Contents) (enough : Bool) → require 10 enough (accepted (strict_text c)) ≡ accepted text → text ≡ strict_text c
    filled-with c true e = cc
    filled-with c false e = cc

    go : (r : Answer Contents) → reading s ≡ r → and_then r (λ sheet. filling room (strict_text sheet)) ≡ accepted text → WrittenOf s text
    go (refused number) f e = let z : ◌≡◌ {A = ℕ} 0 1 = cc in absurd (omega arith)
    go (accepted c) f e = record { contents = c; read = f; strict = filled-with c (leb (length (strict_text c)) room) e }

-- "Two accepted texts are written alike exactly when they carry the same counts and marks"
pub written-alike-iff : (s t : List ℕ) (room room' : ℕ) (text text' : List ℕ) → rewriting s room ≡ accepted text → rewriting t room' ≡ accepted text'
    → (text ≡ text') ↔ (reading s ≡ reading t)
written-alike-iff s t room room' text text' e f =
    let w = written_of s room text e in
    let v = written_of t room' text' f in
    let alike = strict_text-same-iff s t w.contents v.contents w.read v.read in (
      λ same. w.read ∙ ap accepted (alike.0 (sym w.strict ∙ same ∙ v.strict)) ∙ sym v.read,
      λ same. w.strict ∙ alike.1 (accepted-injective w.contents v.contents (sym w.read ∙ same ∙ v.read)) ∙ sym v.strict,
    )

-- "the strict text reads back to the sheet it came from"
pub written-reads-back : (s : List ℕ) (room : ℕ) (text : List ℕ) → rewriting s room ≡ accepted text → reading text ≡ reading s
written-reads-back s room text e =
    let w = written_of s room text e in
    ap reading w.strict ∙ accepted-read-back w.contents s w.read ∙ sym w.read

-- the strict text of every table within the limits is accepted, carries that table, and is written as itself
pub strict_text-written-as-itself : (c : Contents) (room : ℕ) → WithinLimits c → longest_strict ≤ room
    → (reading (strict_text c) ≡ accepted c) × (rewriting (strict_text c) room ≡ accepted (strict_text c))
strict_text-written-as-itself c room w enough =
    let read = strict_text-read c w in
    (read, accepted-written (strict_text c) room c read enough)
